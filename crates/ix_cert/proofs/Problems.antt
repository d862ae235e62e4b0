-- The problem of a behaviour in the range of its form.
use Rattle.std.proofs.Common.{◌≢◌, ℕ, inl, inr, ap, arith, Bool, true, false}
use Rattle.std.proofs.lemmas.List.Elements.{All-weaker}
use Rattle.ix_sheet.specs.declared.problem.Node.{Node}
use Rattle.ix_sheet.specs.Schedules.{IsWeighed, IsValidProblem}
use Rattle.ix_cert.specs.declared.report.ReportBlock.{ReportBlock}
use Rattle.ix_cert.specs.Layout.{HasWeight, IsBlockInForm, IsBefore}

-- an edge is not before itself
before_other : (e f : ℕ × ℕ) → IsBefore e f → e ≢ f
before_other e f (inl h) = λ same. let s = ap (λ x. x.1) same in absurd (omega (arith, h, s))
before_other e f (inr h) = λ same. let s = ap (λ x. x.0) same in absurd (omega (arith, h.1, s))

-- a weight that is not told is in range too
weighed : (weighted : Bool) (node : Node) → HasWeight weighted node → IsWeighed node
weighed false node h = (omega (arith, h), omega (arith, h))
weighed true node h = h

pub valid_problem : (weighted : Bool) (period : ℕ) (b : ReportBlock) → IsBlockInForm weighted period b → IsValidProblem b.problem
valid_problem weighted period b f = record {
  few = f.few;
  weights = All-weaker (HasWeight weighted) IsWeighed (weighed weighted) b.problem.ops f.weights;
  forward = f.edges;
  once = λ i j d h l. before_other _ _ (f.ordered i j d h l);
}
