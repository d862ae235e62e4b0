use Rattle.std.proofs.Common.{◌∙◌}
use Rattle.ix_net.specs.declared.netlist.Port.{Port}
use Rattle.ix_vnets.proofs.Seen.{step_set, step_twice, at_end}
use Rattle.ix_vnets.proofs.twice.see_ports.Goals as goal

pub returns-then-not-branch : goal.returns-then-not-branch
returns-then-not-branch c = λ front s.
    step_twice (λ (p : Port). p.name) c.loop-port.seen front c.args.ports.now c.loop-port.port-index c.port-item.result c.port-item.is c.loop-port-test.true (c.loop-port.invariant front s) c.as_str.result.now c.in_ok-see.field-0
    c.as_str.ensures.text c.in_ok-see.ensures.first c.if-not-branch.true c.in_ok-name.name (c.in_ok-name.ensures ∙ c.as_str-then-not-branch.ensures.text)

pub loop-port-preserved : goal.loop-port-preserved
loop-port-preserved c = λ front s.
    step_set (λ (p : Port). p.name) c.loop-port.seen c.see.new.seen front c.args.ports.now c.loop-port.port-index c.port-item.result c.port-item.is c.loop-port-test.true (c.loop-port.invariant front s) c.as_str.result.now
    c.in_ok-see.field-0 c.as_str.ensures.text c.in_ok-see.ensures.first c.if-not-branch.false c.in_ok-see.ensures.more

pub returns : goal.returns
returns c = λ front s. at_end (λ (p : Port). p.name) c.loop-port.seen front c.args.ports.now c.loop-port.port-index c.loop-port-test.false (c.loop-port.invariant front s)
