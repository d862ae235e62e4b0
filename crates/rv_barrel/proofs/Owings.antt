-- What is owed, before a row and behind it.
use Rattle.std.proofs.Common.{◌≡◌, ◌∙◌, refl, sym, ap, subst, ℕ, suc, List, [], ◌∷◌, ◌++◌, length, Option, Some, None, Bool, true, false}
use Rattle.std.specs.Prelude.{not, is_some, if◌then◌else◌, option_map}
use Rattle.rv_harts.specs.Harts.{Fetched}
use Rattle.rv_harts.specs.HartRows.{owing, written_as, unit_entered as hart_entered}
use Rattle.rv_holds.specs.Tokens.{commit_in}
use Rattle.rv_lawful.specs.Outstanding.{in_unit}
use Rattle.rv_lawful.specs.Settings.{Setting}
use Rattle.rv_seq.specs.declared.answer.StepAnswer.{StepAnswer}
use Rattle.rv_seq.specs.declared.commit.Commit.{Commit}
use Rattle.rv_past.specs.declared.step.Step.{Step}
use Rattle.rv_tried.specs.Parts.{spawned}
use Rattle.rv_unit.specs.Entries.{is_number}
use Rattle.rv_barrel.specs.declared.cell.InFlight.{InFlight}
use Rattle.rv_barrel.specs.declared.cell.Owed.{Owed}
use Rattle.rv_barrel.specs.Cells.{fetched_at, IsOwed, AreOwed}
use Rattle.rv_barrel.specs.Moving.{fetched_in}
use Rattle.rv_barrel.specs.Older.{kept_of}
use Rattle.rv_barrel.specs.Owing.{answer_owed, step_owed, unit_owed, entering_by, owed_by, unit_entered, without_serial}
use Rattle.rv_barrel.proofs.Row.{IsGoingOut}

-- as many are owed as owe
pub owed_long : (k : Setting) (os : List Owed) (cs : List Fetched) → AreOwed k os cs → length os ≡ length cs
owed_long k [] [] h = refl
owed_long k [] (c ∷ cs) h = absurd h
owed_long k (o ∷ os) [] h = absurd h
owed_long k (o ∷ os) (c ∷ cs) h = ap suc (owed_long k os cs h.1)

pub owed_both : (k : Setting) (os ps : List Owed) (cs ds : List Fetched) → AreOwed k os cs → AreOwed k ps ds → AreOwed k (os ++ ps) (cs ++ ds)
owed_both k [] ps [] ds h g = g
owed_both k [] ps (c ∷ cs) ds h g = absurd h
owed_both k (o ∷ os) ps [] ds h g = absurd h
owed_both k (o ∷ os) ps (c ∷ cs) ds h g = (h.0, owed_both k os ps cs ds h.1 g)

-- without the one that is written
pub owed_kept : (k : Setting) (out : Option ℕ) (os : List Owed) (cs : List Fetched) → AreOwed k os cs → AreOwed k (without_serial out os) (kept_of out cs)
owed_kept k out [] [] h = tt
owed_kept k out [] (c ∷ cs) h = absurd h
owed_kept k out (o ∷ os) [] h = absurd h
owed_kept k out (o ∷ os) (c ∷ cs) h = by_case (is_number out o.serial) (ap (λ (n : ℕ). is_number out n) (sym h.0.serial)) (owed_kept k out os cs h.1) where
  by_case : (b : Bool) → is_number out c.serial ≡ b → AreOwed k (without_serial out os) (kept_of out cs) → AreOwed k (if not b then o ∷ without_serial out os else without_serial out os) (if not (is_number out c.serial) then c ∷ kept_of out cs else kept_of out cs)
  by_case true e rest = subst (λ (b : Bool). AreOwed k (without_serial out os) (if not b then c ∷ kept_of out cs else kept_of out cs)) (sym e) rest
  by_case false e rest = subst (λ (b : Bool). AreOwed k (o ∷ without_serial out os) (if not b then c ∷ kept_of out cs else kept_of out cs)) (sym e) (h.0, rest)

-- what goes out of the last stage with a unit
entering_is : (k : Setting) (q u : ℕ) (c : InFlight) (h : IsGoingOut k q c) → step_owed c.serial c.asks u c.step ≡ Some (u, record { serial = c.serial; asks = c.asks; writes = spawned c.asks h.step.own h.commit })
entering_is k q u c h =
    ap (λ (s : Option Step). step_owed c.serial c.asks u s) h.tried
    ∙ ap (λ (a : StepAnswer). answer_owed c.serial c.asks u h.step a) h.answer

owes : (k : Setting) (q : ℕ) (c : InFlight) (h : IsGoingOut k q c) → c.asks ≡ k.asks c.word → IsOwed k (record { serial = c.serial; asks = c.asks; writes = spawned c.asks h.step.own h.commit }) (fetched_at q c)
owes k q c h asked = record {
  serial = refl;
  asks = asked;
  writes =
      ap (λ (a : StepAnswer). option_map (λ (d : Commit). written_as c.serial (spawned (k.asks d.word) (k.course.own q) d)) (commit_in a)) h.course
      ∙ ap (λ a. Some (written_as c.serial (spawned a (k.course.own q) h.commit))) (sym h.asks)
      ∙ ap (λ (own : List Bool). Some (written_as c.serial (spawned c.asks own h.commit))) (sym h.placed.own);
}

owed_with : (k : Setting) (q : ℕ) (c : InFlight) → IsGoingOut k q c → c.asks ≡ k.asks c.word → (u : Option ℕ) → AreOwed k (owed_by (unit_owed c u)) (if is_some u then fetched_at q c ∷ [] else [])
owed_with k q c h asked None = tt
owed_with k q c h asked (Some u) = subst (λ (e : Option (ℕ × Owed)). AreOwed k (owed_by e) (fetched_at q c ∷ [])) (sym (entering_is k q u c h)) (owes k q c h asked, tt)

-- what is known of the slot out of which something may go
abbrev pub IsGoing : Setting → ℕ → Option InFlight → Type 0
IsGoing k q None = Unit
IsGoing k q (Some c) = IsGoingOut k q c × (c.asks ≡ k.asks c.word)

pub owed_entering : (k : Setting) (q : ℕ) (slot : Option InFlight) → IsGoing k q slot → AreOwed k (owed_by (entering_by slot)) (owing k (fetched_in q slot))
owed_entering k q None h = tt
owed_entering k q (Some c) h =
    subst (λ a. AreOwed k (owed_by (unit_owed c c.asks.unit)) (if is_some a.unit then fetched_at q c ∷ [] else [])) h.1 (owed_with k q c h.0 h.1 c.asks.unit)

entered_with : (k : Setting) (q : ℕ) (c : InFlight) → IsGoingOut k q c → (u : Option ℕ) → unit_entered (unit_owed c u) ≡ in_unit c.serial u
entered_with k q c h None = refl
entered_with k q c h (Some u) = ap (λ (e : Option (ℕ × Owed)). unit_entered e) (entering_is k q u c h)

pub entered_is : (k : Setting) (q : ℕ) (slot : Option InFlight) → IsGoing k q slot → unit_entered (entering_by slot) ≡ hart_entered k (fetched_in q slot)
entered_is k q None h = refl
entered_is k q (Some c) h = entered_with k q c h.0 c.asks.unit ∙ ap (λ a. in_unit c.serial a.unit) h.1
