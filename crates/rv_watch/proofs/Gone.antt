-- What has retired has a place below the count of retirements.
use Rattle.std.proofs.Common.{◌≡◌, ◌∙◌, refl, sym, ap, ℕ, suc, ◌<◌, ◌≤◌, List, [], ◌∷◌, Option, Some, None, Bool, true, false, arith, inl, inr}
use Rattle.std.specs.Prelude.{if◌then◌else◌, ◌||◌, is_some}
use Rattle.rv_seq.specs.declared.commit.Commit.{Commit}
use Rattle.rv_trace.specs.declared.row.Row.{Row}
use Rattle.rv_trace.specs.Trace.{retires, is_retired, place, retirements}
use Rattle.rv_lawful.specs.Settings.{Setting}
use Rattle.rv_lawful.specs.LawfulTrace.{Lawful}
use Rattle.rv_rows.specs.Facts.{IsPlain}
use Rattle.rv_rows.specs.Recorded.{HasWords}
use Rattle.rv_rows.specs.Gone.{GoneLaw}
use Rattle.rv_watch.proofs.Tests.{same_number, or_true}

none_retired : (j : ℕ) → is_retired [] j ≡ true → ⊥
unfolding is_retired
none_retired j e = cc

retired_step : (row : Row) (rows : List Row) (j : ℕ) → is_retired (row ∷ rows) j ≡ (retires row.retired j || is_retired rows j)
unfolding is_retired
retired_step row rows j = refl

retirements_step : (row : Row) (earlier : List Row) → retirements (row ∷ earlier) ≡ (if is_some row.retired then suc (retirements earlier) else retirements earlier)
unfolding retirements
retirements_step row earlier = refl

pub retirements_more : (row : Row) (earlier : List Row) → retirements earlier ≤ retirements (row ∷ earlier)
retirements_more row earlier = let e = retirements_step row earlier in let l = by_case (is_some row.retired) in omega (arith, e, l) where
  by_case : (b : Bool) → retirements earlier ≤ (if b then suc (retirements earlier) else retirements earlier)
  by_case true = omega arith
  by_case false = omega arith

pub retirements_most : (row : Row) (earlier : List Row) → retirements (row ∷ earlier) ≤ suc (retirements earlier)
retirements_most row earlier = let e = retirements_step row earlier in let l = by_case (is_some row.retired) in omega (arith, e, l) where
  by_case : (b : Bool) → (if b then suc (retirements earlier) else retirements earlier) ≤ suc (retirements earlier)
  by_case true = omega arith
  by_case false = omega arith

retirements_one : (row : Row) (earlier : List Row) (x : ℕ × Commit) → row.retired ≡ Some x → retirements (row ∷ earlier) ≡ suc (retirements earlier)
retirements_one row earlier x e = retirements_step row earlier ∙ ap (λ (o : Option (ℕ × Commit)). if is_some o then suc (retirements earlier) else retirements earlier) e

retires_is : (o : Option (ℕ × Commit)) (j : ℕ) → retires o j ≡ true → (c : Commit) × (o ≡ Some (j, c))
retires_is None j e = cc
retires_is (Some (t, c)) j e = (c, ap (λ (n : ℕ). Some (n, c)) (same_number t j e))

pub gone_place : GoneLaw → (k : Setting) → IsPlain k → HasWords k → (rows : List Row) → Lawful (λ places. k) rows → (j : ℕ) → is_retired rows j ≡ true → place rows j < retirements rows
gone_place law k plain words [] h j e = absurd (none_retired j e)
gone_place law k plain words (row ∷ earlier) h j e =
    let facts = law.leaving k earlier row plain words (record { lawful = h.2; going = h.1 }) h.0 in
    elim (or_true (retires row.retired j) (is_retired earlier j) (sym (retired_step row earlier j) ∙ e)) [
      | inl x ↦
          let y = retires_is row.retired j x in
          let p = facts.placed j y.0 y.1 in
          let one = retirements_one row earlier (j, y.0) y.1 in
          omega (arith, p, one)
      | inr y ↦
          let p = facts.stays j y in
          let low = gone_place law k plain words earlier h.2 j y in
          let more = retirements_more row earlier in
          omega (arith, p, low, more)
    ]
