-- A cell that stops the run has an address with a word, so its stop is not Fetch.
use Rattle.std.proofs.Common.{◌≡◌, ◌∙◌, refl, sym, ap, subst, ℕ, zero, suc, ◌<◌, ◌≤◌, List, ◌∷◌, Option, Some, None, Bool, true, false, arith, inl, inr}
use Rattle.std.specs.Prelude.{◌||◌, if◌then◌else◌, is_some}
use Rattle.std.proofs.lemmas.Bool.{cases_lt}
use Rattle.rv_seq.specs.declared.commit.Stop.{Stop}
use Rattle.rv_seq.specs.declared.commit.Stop.TheVariants.{Fetch}
use Rattle.rv_seq.specs.declared.answer.StepAnswer.TheVariants.{Stopped}
use Rattle.rv_seq.specs.Steps.{word_at}
use Rattle.rv_trace.specs.declared.row.Cell.{Cell}
use Rattle.rv_trace.specs.declared.row.Row.{Row}
use Rattle.rv_trace.specs.declared.row.Hold.TheVariants.{Late}
use Rattle.rv_trace.specs.Trace.{has_serial, is_flushed, place}
use Rattle.rv_trace.specs.RowParts.{name_of, leaves}
use Rattle.rv_lawful.specs.Settings.{Setting, Stands}
use Rattle.rv_lawful.specs.LawfulTrace.{StopsRun, IsSettlingStage}
use Rattle.rv_rows.specs.Facts.{IsPlain, AboveFacts}
use Rattle.rv_rows.proofs.Stopping.{same_cell}

-- a cell that leaves is not flushed
pub left_unflushed : (row : Row) (c : Cell) → leaves row (Some c) ≡ name_of (Some c) → has_serial row.flushed c.serial ≡ false
left_unflushed row c e = by_case (is_some c.hold) (has_serial row.flushed c.serial) refl e where
  by_case : (a b : Bool) → has_serial row.flushed c.serial ≡ b → (if a || b then None else name_of (Some c)) ≡ name_of (Some c) → has_serial row.flushed c.serial ≡ false
  by_case a false q e = q
  by_case true true q e = cc
  by_case false true q e = cc

-- where a row flushes nothing places stay
pub place_kept : (row : Row) (earlier : List Row) → ((s : ℕ) → has_serial row.flushed s ≡ false) → (s : ℕ) → place (row ∷ earlier) s ≡ place earlier s
unfolding place is_flushed
place_kept row earlier none zero = refl
place_kept row earlier none (suc s) =
    ap (λ b. if b || is_flushed earlier s then place (row ∷ earlier) s else suc (place (row ∷ earlier) s)) (none s)
    ∙ ap (λ n. if is_flushed earlier s then n else suc n) (place_kept row earlier none s)

pub flushed_both : (row : Row) (earlier : List Row) (s : ℕ) → has_serial row.flushed s ≡ false → is_flushed earlier s ≡ false → is_flushed (row ∷ earlier) s ≡ false
unfolding is_flushed
flushed_both row earlier s a b = ap (λ x. x || is_flushed earlier s) a ∙ b

-- what flushes in a row: a cell that settles, and is not due to stop where it stands in EX
pub record Flusher (k : Setting) (earlier : List Row) (row : Row) : Type 0 where
  pub stage : ℕ
  pub cell : Cell
  pub stands : Stands k row stage cell
  pub settling : IsSettlingStage k (k.asks cell.word).late stage
  pub leaving : leaves row (Some cell) ≡ name_of (Some cell)
  pub runs : stage ≡ k.shape.ex → (stop : Stop) → StopsRun k earlier row stage cell stop → ⊥

module _ (k : Setting) (earlier : List Row) (row : Row) (plain : IsPlain k) (facts : AboveFacts k earlier row)
    (flushers : (s : ℕ) → has_serial row.flushed s ≡ true → Flusher k earlier row) where
  ex_pos : 0 < k.shape.ex
  ex_pos = let a = plain.rd_pos in let b = plain.rd_ex in omega (arith, a, b)

  -- a late cell above one that stops the run would hold it
  no_late : (stage : ℕ) (c : Cell) (stop : Stop) → Stands k row stage c → StopsRun k earlier row stage c stop → (later : ℕ) (d : Cell) → stage < later → Stands k row later d
      → has_serial row.flushed d.serial ≡ false → (k.asks d.word).late ≡ true → ⊥
  no_late stage c stop s r later d lt t unflushed late =
      let e = r.executing in
      let pos : 0 < stage = let p = ex_pos in omega (arith, e, p) in
      let above : 0 < later = omega (arith, pos, lt) in
      let here = facts.in_place later d above t in
      r.free (Late d.serial) (record {
        executing = e;
        older = record { lower = facts.ordered stage later c d pos lt s t; unflushed = flushed_both row earlier d.serial unflushed here.unflushed };
        unretired = here.unretired;
        jumps = (d.word, inl (later, d, t, refl, refl), late);
      })

  settling_above : (late : Bool) (stage : ℕ) → IsSettlingStage k late stage → k.shape.ex < stage → late ≡ true
  settling_above true stage h lt = refl
  settling_above false stage h lt = absurd (omega (arith, h, lt))

  settling_least : (late : Bool) (stage : ℕ) → IsSettlingStage k late stage → k.shape.ex ≤ stage
  settling_least true stage h = let a = plain.mem_last in let b = plain.ex_mem in omega (arith, h, a, b)
  settling_least false stage h = omega (arith, h)

  -- the row flushes nothing
  pub none_flushed : (stage : ℕ) (c : Cell) (stop : Stop) → Stands k row stage c → StopsRun k earlier row stage c stop → (s : ℕ) → has_serial row.flushed s ≡ false
  none_flushed stage c stop st r s = by_case (has_serial row.flushed s) refl where
    by_case : (b : Bool) → has_serial row.flushed s ≡ b → has_serial row.flushed s ≡ false
    by_case false q = q
    by_case true q =
        let f = flushers s q in
        let least = settling_least (k.asks f.cell.word).late f.stage f.settling in
        absurd (elim (cases_lt k.shape.ex f.stage) [
          | inl lt ↦
              let e = r.executing in
              no_late stage c stop st r f.stage f.cell (omega (arith, e, lt)) f.stands (left_unflushed row f.cell f.leaving) (settling_above (k.asks f.cell.word).late f.stage f.settling lt)
          | inr le ↦
              let at : f.stage ≡ k.shape.ex = omega (arith, le, least) in
              let same = same_cell k row stage f.stage c f.cell (r.executing ∙ sym at) st f.stands in
              f.runs at stop (subst (λ n. StopsRun k earlier row n f.cell stop) (r.executing ∙ sym at) (subst (λ d. StopsRun k earlier row stage d stop) same r))
        ])

  late_false : (b : Bool) → (b ≡ true → ⊥) → b ≡ false
  late_false true f = absurd (f refl)
  late_false false f = refl

  pub not_fetch : (stage : ℕ) (c : Cell) (stop : Stop) → Stands k row stage c → StopsRun k earlier row stage c stop → stop ≡ Fetch → ⊥
  not_fetch stage c stop s r e =
      let none = none_flushed stage c stop s r in
      let x = r.executing in
      let pos : 0 < stage = let p = ex_pos in omega (arith, x, p) in
      let address = facts.address stage c (omega (arith, x)) s (λ later d lt t. late_false (k.asks d.word).late (λ late. no_late stage c stop s r later d lt t (none d.serial) late)) in
      let due : k.course.answer (place earlier c.serial) ≡ Stopped Fetch =
      ap (λ p. k.course.answer p) (sym (place_kept row earlier none c.serial)) ∙ r.due ∙ ap (λ t. Stopped t) e in
      let nothing = plain.fetches (place earlier c.serial) due in
      let word = (facts.in_place stage c pos s).word in
      clash (word_at k.image c.at) word (ap (λ a. word_at k.image a) address ∙ nothing) where
        clash : (o : Option ℕ) → o ≡ Some c.word → o ≡ None → ⊥
        clash o a b = cc
