-- Balances of a flow, from amounts at operations; cycles from their parts.
use Rattle.std.proofs.Common.{◌≡◌, ◌≢◌, ℕ, ◌+◌, ◌<◌, ◌==◌, if◌then◌else◌, List, [], ◌∷◌, length, get_or, map, Some, None, refl, ◌∙◌, ap, arith}
use Rattle.std.specs.Prelude.{Option, sum_by}
use Rattle.std.proofs.lemmas.List.Sums.{sum_by-cons, sum_by-append}
use Rattle.ix_sheet.specs.declared.problem.Bound.{Bound}
use Rattle.ix_sheet.specs.declared.problem.Problem.{Problem}
use Rattle.ix_sheet.specs.Schedules.{node_at, weight_of}
use Rattle.ix_sheet.specs.Bounds.{arc_of, Flow, amount_at, inflow, outflow, weight_in, weight_out}
use Rattle.ix_cert.specs.declared.report.ReportBlock.{ReportBlock}
use Rattle.ix_cert.specs.Faults.{IsUnbalanced}
use Rattle.ix_cert.specs.Checks.{Tells, AreAmounts, parts_in, parts_out}

sum_mapped : {X Y : Type 0} (f : Y → ℕ) (g : X → Y) (xs : List X) → sum_by f (map g xs) ≡ sum_by (λ x. f (g x)) xs
sum_mapped f g [] = refl
sum_mapped f g (x ∷ xs) = omega (arith, sum_by-cons f (g x) (map g xs), sum_by-cons (λ y. f (g y)) x xs, sum_mapped f g xs)

abbrev at_place : ℕ → ℕ × ℕ → ℕ
at_place k x = if x.0 == k then x.1 else 0

in_at : (p : Problem) (flow : Flow) (k : ℕ) → amount_at (λ x. x.0) (λ x. x.1) (parts_in p flow) k ≡ inflow p flow k + weight_out p k
in_at p flow k =
    let into : Bound × ℕ → ℕ × ℕ = λ c. ((arc_of p c.0).to, c.1) in
    let out : ℕ × ℕ → ℕ × ℕ = λ e. (e.0, weight_of (node_at p e.0)) in
    sum_by-append (at_place k) (map into flow) (map out p.edges)
    ∙ ap (λ (n : ℕ). n + sum_by (at_place k) (map out p.edges)) (sum_mapped (at_place k) into flow)
    ∙ ap (λ (n : ℕ). inflow p flow k + n) (sum_mapped (at_place k) out p.edges)

out_at : (p : Problem) (flow : Flow) (k : ℕ) → amount_at (λ x. x.0) (λ x. x.1) (parts_out p flow) k ≡ outflow p flow k + weight_in p k
out_at p flow k =
    let from : Bound × ℕ → ℕ × ℕ = λ c. ((arc_of p c.0).from, c.1) in
    let into : ℕ × ℕ → ℕ × ℕ = λ e. (e.1, weight_of (node_at p e.0)) in
    sum_by-append (at_place k) (map from flow) (map into p.edges)
    ∙ ap (λ (n : ℕ). n + sum_by (at_place k) (map into p.edges)) (sum_mapped (at_place k) from flow)
    ∙ ap (λ (n : ℕ). outflow p flow k + n) (sum_mapped (at_place k) into p.edges)

-- the test by amounts is that of the balance
module _ (b : ReportBlock) (coming going : List ℕ) (in_is : AreAmounts (length b.problem.ops) (parts_in b.problem b.flow) coming)
    (out_is : AreAmounts (length b.problem.ops) (parts_out b.problem b.flow) going) where
  abbrev Differ : ℕ → Type 0
  Differ k = get_or coming k 0 ≢ get_or going k 0 + 1

  same_from : (k : ℕ) → k < length b.problem.ops → IsUnbalanced b k → Differ k
  same_from k h un e =
      un (let a = in_is.1 k h in let c = out_is.1 k h in omega (arith, e, a, c, in_at b.problem b.flow k, out_at b.problem b.flow k))

  same_to : (k : ℕ) → k < length b.problem.ops → Differ k → IsUnbalanced b k
  same_to k h differ e =
      differ (let a = in_is.1 k h in let c = out_is.1 k h in omega (arith, e, a, c, in_at b.problem b.flow k, out_at b.problem b.flow k))

  pub tells_unbalanced : (r : Option ℕ) → Tells (length coming) Differ r → Tells (length b.problem.ops) (IsUnbalanced b) r
  tells_unbalanced None none = λ k h un. none k (omega (arith, h, in_is.0)) (same_from k h un)
  tells_unbalanced (Some k) some =
      (omega (arith, some.0, in_is.0), same_to k (omega (arith, some.0, in_is.0)) some.1, λ j h un. some.2 j h (same_from j (omega (arith, h, some.0, in_is.0)) un))
