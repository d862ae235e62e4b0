use Rattle.std.proofs.Common.{◌∙◌, []}
use Rattle.ix_verilog.specs.declared.source.Update.{Update}
use Rattle.ix_vnets.proofs.Seen.{step_set, step_twice}
use Rattle.ix_vnets.proofs.twice.twice_updated.Goals as goal

pub returns-then-not-branch : goal.returns-then-not-branch
returns-then-not-branch c =
    step_twice (λ (x : Update). x.target) c.loop-update.seen [] c.args.updates.now c.loop-update.update-index c.update-item.result c.update-item.is c.loop-update-test.true c.loop-update.invariant c.as_str.result.now c.in_ok-see.field-0
    c.as_str.ensures.text c.in_ok-see.ensures.first c.if-not-branch.true c.in_ok-name.name (c.in_ok-name.ensures ∙ c.as_str-then-not-branch.ensures.text)

pub loop-update-preserved : goal.loop-update-preserved
loop-update-preserved c =
    step_set (λ (x : Update). x.target) c.loop-update.seen c.see.new.seen [] c.args.updates.now c.loop-update.update-index c.update-item.result c.update-item.is c.loop-update-test.true c.loop-update.invariant c.as_str.result.now
    c.in_ok-see.field-0 c.as_str.ensures.text c.in_ok-see.ensures.first c.if-not-branch.false c.in_ok-see.ensures.more
