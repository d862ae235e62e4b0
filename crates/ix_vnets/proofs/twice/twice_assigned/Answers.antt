use Rattle.std.proofs.Common.{◌∙◌, []}
use Rattle.ix_verilog.specs.declared.source.Assign.{Assign}
use Rattle.ix_vnets.proofs.Seen.{step_set, step_twice}
use Rattle.ix_vnets.proofs.twice.twice_assigned.Goals as goal

pub returns-then-not-branch : goal.returns-then-not-branch
returns-then-not-branch c =
    step_twice (λ (x : Assign). x.target) c.loop-assign.seen [] c.args.assigns.now c.loop-assign.assign-index c.assign-item.result c.assign-item.is c.loop-assign-test.true c.loop-assign.invariant c.as_str.result.now c.in_ok-see.field-0
    c.as_str.ensures.text c.in_ok-see.ensures.first c.if-not-branch.true c.in_ok-name.name (c.in_ok-name.ensures ∙ c.as_str-then-not-branch.ensures.text)

pub loop-assign-preserved : goal.loop-assign-preserved
loop-assign-preserved c =
    step_set (λ (x : Assign). x.target) c.loop-assign.seen c.see.new.seen [] c.args.assigns.now c.loop-assign.assign-index c.assign-item.result c.assign-item.is c.loop-assign-test.true c.loop-assign.invariant c.as_str.result.now
    c.in_ok-see.field-0 c.as_str.ensures.text c.in_ok-see.ensures.first c.if-not-branch.false c.in_ok-see.ensures.more
