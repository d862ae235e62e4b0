-- A cell that stops the run, and one that the row says does.
use Rattle.std.proofs.Common.{◌≡◌, ◌∙◌, refl, sym, ap, subst, ℕ, List, Option, Some, None, true, inl, inr}
use Rattle.std.specs.Prelude.{slice_get}
use Rattle.rv_seq.specs.declared.commit.Stop.{Stop}
use Rattle.rv_seq.specs.declared.commit.Stop.TheVariants.{Ecall, Ebreak, Illegal, Fetch, Misaligned, DataRange, Target as target_stop}
use Rattle.rv_trace.specs.declared.row.Cell.{Cell}
use Rattle.rv_trace.specs.declared.row.Row.{Row}
use Rattle.rv_lawful.specs.Settings.{Setting, stages_of, Stands}
use Rattle.rv_lawful.specs.LawfulTrace.{StopsRun, StopsRightly}
use Rattle.rv_rows.specs.Kinds.{is_of_cell, IsStopped}

-- the cell of a stage is one
pub same_cell : (k : Setting) (row : Row) (stage other : ℕ) (c d : Cell) → stage ≡ other → Stands k row stage c → Stands k row other d → c ≡ d
same_cell k row stage other c d e s t =
    let both : ◌≡◌ {A = Option (Option Cell)} (Some (Some c)) (Some (Some d)) = sym s ∙ ap (λ n. slice_get (stages_of k row) n) e ∙ t in
    one c d both where
      one : (c d : Cell) → ◌≡◌ {A = Option (Option Cell)} (Some (Some c)) (Some (Some d)) → c ≡ d
      one c d q = cc

of_cell_unless : (stop : Stop) → (stop ≡ Fetch → ⊥) → is_of_cell (Some stop) ≡ true
of_cell_unless Ecall f = refl
of_cell_unless Ebreak f = refl
of_cell_unless Illegal f = refl
of_cell_unless Fetch f = absurd (f refl)
of_cell_unless Misaligned f = refl
of_cell_unless DataRange f = refl
of_cell_unless target_stop f = refl

module _ (k : Setting) (earlier : List Row) (row : Row) (stops : StopsRightly k earlier row)
    (fetches : (stage : ℕ) (c : Cell) (stop : Stop) → Stands k row stage c → StopsRun k earlier row stage c stop → stop ≡ Fetch → ⊥) where
  -- a cell that stops the run is marked
  pub marked : (stage : ℕ) (c : Cell) (stop : Stop) → Stands k row stage c → StopsRun k earlier row stage c stop → IsStopped k row stage
  marked stage c stop s r = (r.executing, ap (λ o. is_of_cell o) (stops.of_cell stage c stop s r) ∙ of_cell_unless stop (fetches stage c stop s r))

  -- and one that is marked stops it
  pub stopped : (stage : ℕ) (c : Cell) → Stands k row stage c → IsStopped k row stage → (stop : Stop) × StopsRun k earlier row stage c stop
  stopped stage c s m = by_case row.stop refl where
    by_case : (o : Option Stop) → row.stop ≡ o → (stop : Stop) × StopsRun k earlier row stage c stop
    by_case None q = let e = m.1 in let bad : is_of_cell None ≡ true = ap (λ o. is_of_cell o) (sym q) ∙ e in cc
    by_case (Some stop) q = elim (stops.cause stop q) [
      | inl x ↦ (stop, subst (λ d. StopsRun k earlier row stage d stop) (same_cell k row x.0 stage x.1 c (x.3.executing ∙ sym m.0) x.2 s) (subst (λ n. StopsRun k earlier row n x.1 stop) (x.3.executing ∙ sym m.0) x.3))
      | inr y ↦ let e = m.1 in let bad : is_of_cell (Some Fetch) ≡ true = ap (λ t. is_of_cell (Some t)) (sym y.0) ∙ ap (λ o. is_of_cell o) (sym q) ∙ e in cc
    ]
