use Rattle.std.proofs.Common.{◌≡◌, arith, ◌∙◌}
use Rattle.std.proofs.lemmas.List.{get_or_default}
use Rattle.ix_sheet.specs.declared.problem.Bound.TheVariants.{Early}
use Rattle.ix_residual.specs.Residuals.{bound_at}
use Rattle.ix_solve.proofs.Links.{used_more_none, used_more_some}
use Rattle.ix_solve.proofs.Amounts.{words_taken}
use Rattle.ix_solve.proofs.schedule.flow_of.Goals as goal
use Rattle.ix_solve.proofs.schedule.flow_of.Goals.{then-amount-gt0+in_ok-bound+in_ok-push, else-amount-gt0}

pub places-preserved : goal.places-preserved
places-preserved c =
    let bounds = c.args.bounds.now in
    let amounts = c.args.amounts.now in
    let l = c.places in
    elim c.if-amount-gt0.branch [
      | then-amount-gt0+in_ok-bound+in_ok-push w ↦
          (let there : w.in_ok-bound.bound ≡ bound_at bounds l.place
          = w.in_ok-bound.ensures ∙ w.index-bounds-place.is ∙ get_or_default bounds l.place _ (Early 0) c.places-test.true in
          rw w.flow-is
          (used_more_some bounds amounts l.place l.flow _ w.in_ok-bound.bound c.requires c.places-test.true w.if-amount-gt0.true l.invariant there w.in_ok-push.ensures.ok))
      | else-amount-gt0 w ↦
          rw w.flow-is
          (used_more_none bounds amounts l.place l.flow c.requires c.places-test.true (omega (arith, w.if-amount-gt0.false)) l.invariant)
    ]

pub returns-clause-small : goal.returns-clause-small
returns-clause-small c = rw c.places.invariant (words_taken c.places.place c.args.bounds.now c.args.amounts.now (λ k. (let fits = c.type_inv.amounts k in omega (arith, fits))))
