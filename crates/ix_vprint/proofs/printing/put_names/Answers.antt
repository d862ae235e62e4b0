use Rattle.std.proofs.Common.{arith}
use Rattle.std.proofs.lemmas.Grind.{common_steps}
use Rattle.ix_net.proofs.StepLemmas.{all_step}
use Rattle.ix_net.specs.declared.netlist.Port.{Port}
use Rattle.ix_vprint.specs.Short.{IsShort}
use Rattle.ix_vprint.proofs.printing.put_names.Goals as goal

pub loop-port-preserved : goal.loop-port-preserved
loop-port-preserved c = record {
  so_far = grind (arith, common_steps);
  short = all_step (λ (x : Port). IsShort x.name) c.args.ports.now c.loop-port.port-index c.port-item.result (omega (arith, c.loop-port-test.true)) c.port-item.is c.loop-port.invariant.short c.in_ok-put_name.ensures.short;
}
