use Rattle.std.proofs.Common.{◌≡◌, ◌∙◌, refl, sym, ap, ℕ, zero, suc, ◌<◌, ◌≤◌, List, [], ◌∷◌, length, take, Option, Some, None, slice_index_or, arith, inl, inr}
use Rattle.std.specs.Prelude.{slice_get}
use Rattle.std.proofs.lemmas.Bool.{cases_lt}
use Rattle.ix_plan.specs.declared.design.Plan.{Plan}
use Rattle.rv_unit.specs.Numbering.{lasts_of, unit_after, unit_of}
use Rattle.rv_asks.proofs.asking.units_of.Goals as goal

none_past : (xs : List (Option ℕ)) (n : ℕ) → length xs ≤ n → slice_index_or xs n None ≡ None
none_past [] n le = refl
none_past (x ∷ xs) zero le = absurd (omega (arith, le))
none_past (x ∷ xs) (suc n) le = none_past xs n (omega (arith, le))

plan_past : (xs : List Plan) (n : ℕ) → length xs ≤ n → slice_get xs n ≡ None
plan_past [] n le = refl
plan_past (x ∷ xs) zero le = absurd (omega (arith, le))
plan_past (x ∷ xs) (suc n) le = plan_past xs n (omega (arith, le))

pub returns : goal.returns
returns c = λ n.
    let long = c.loop-number.invariant.0 in
    let done = c.loop-number-test.false in
    elim (cases_lt n c.loop-number.number) [
      | inl lt ↦ c.loop-number.invariant.1 n lt
      | inr le ↦
          none_past c.loop-number.units n (omega (arith, long, le))
          ∙ sym (ap (unit_after (length (lasts_of (take n c.args.plans.now)))) (plan_past c.args.plans.now n (omega (arith, done, le))))
    ]
