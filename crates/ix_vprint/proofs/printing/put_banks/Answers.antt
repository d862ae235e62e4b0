use Rattle.std.proofs.Common.{arith}
use Rattle.std.proofs.lemmas.Grind.{common_steps}
use Rattle.ix_net.proofs.StepLemmas.{all_step}
use Rattle.ix_net.specs.declared.netlist.Bank.{Bank}
use Rattle.ix_vprint.specs.Short.{IsShort}
use Rattle.ix_vprint.proofs.printing.put_banks.Goals as goal

pub loop-bank-preserved : goal.loop-bank-preserved
loop-bank-preserved c = record {
  so_far = grind (arith, common_steps);
  short = all_step (λ (x : Bank). IsShort x.target) c.args.banks.now c.loop-bank.bank-index c.bank-item.result (omega (arith, c.loop-bank-test.true)) c.bank-item.is c.loop-bank.invariant.short c.in_ok-put_bank.ensures.short;
}
