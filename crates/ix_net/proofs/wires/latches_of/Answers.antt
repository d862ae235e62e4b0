use Rattle.std.proofs.Common.{◌≡◌, Some}
use Rattle.ix_net.specs.declared.netlist.Bank.{Bank}
use Rattle.ix_net.specs.Signals.{width_of}
use Rattle.ix_net.specs.Wiring.{latch_of}
use Rattle.ix_net.proofs.StepLemmas.{all_step, map_step}
use Rattle.ix_net.proofs.wires.latches_of.Goals as goal

pub loop-bank-preserved : goal.loop-bank-preserved
loop-bank-preserved c =
    let i = c.loop-bank.bank-index in
    let x : Bank = c.bank-item.result in
    record {
      enables = all_step (λ (b : Bank). width_of c.args.table.now b.enable ≡ Some 1) c.args.banks.now i x c.loop-bank-test.true c.bank-item.is c.loop-bank.invariant.enables c.in-Some.ensures.0.0;
      sources = all_step (λ (b : Bank). width_of c.args.table.now b.source ≡ Some b.width) c.args.banks.now i x c.loop-bank-test.true c.bank-item.is c.loop-bank.invariant.sources c.in-Some.ensures.0.1;
      made = map_step (latch_of c.args.table.now) c.args.banks.now i x c.loop-bank.latches.items c.push.new.self.items c.in-Some.latch c.loop-bank-test.true c.bank-item.is c.loop-bank.invariant.made
          c.in_ok-push-in-Some.ensures.items c.in-Some.ensures.1;
    }
