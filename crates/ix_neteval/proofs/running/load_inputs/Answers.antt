use Rattle.std.proofs.Common.{ap, ◌∙◌, set}
use Rattle.ix_bits.specs.declared.number.Bits.{Bits}
use Rattle.ix_neteval.proofs.LoadLemmas.{load_step}
use Rattle.ix_neteval.proofs.running.load_inputs.Goals as goal

pub loop-i-preserved : goal.loop-i-preserved
loop-i-preserved c =
    ap (λ vs. set vs c.loop-i.i c.index-inputs-i.result.raw) c.loop-i.invariant
    ∙ load_step (λ (b : Bits). b.raw) c.args.inputs.now c.args.values.now c.loop-i.i c.index-inputs-i.result c.loop-i-test.true c.requires c.index-inputs-i.is
