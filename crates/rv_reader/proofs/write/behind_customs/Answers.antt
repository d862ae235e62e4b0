use Rattle.std.proofs.Common.{◌∙◌, ◌+◌, ap, arith, drop}
use Rattle.rv_reader.specs.Words.{and_then}
use Rattle.rv_reader.specs.Writes.{customs_in}
use Rattle.rv_reader.proofs.Looping.{customs_step, customs_end}
use Rattle.rv_reader.proofs.write.behind_customs.Goals as goal

pub returns-in-None : goal.returns-in-None
returns-in-None c =
    c.loop-k.invariant.rest
    ∙ customs_step c.args.late c.loop-k.k 0 c.args.widths.now c.loop-k.left.now (omega (arith, c.loop-k-test.true, c.loop-k.auto.k-end))
    ∙ ap (λ o. and_then o (λ rest. customs_in c.args.late (c.loop-k.k + 1) (drop (c.loop-k.k + 1) c.args.widths.now) rest)) c.in-None.ensures

pub loop-k-preserved : goal.loop-k-preserved
loop-k-preserved c = record {
  rest = c.loop-k.invariant.rest
      ∙ customs_step c.args.late c.loop-k.k 0 c.args.widths.now c.loop-k.left.now (omega (arith, c.loop-k-test.true, c.loop-k.auto.k-end))
      ∙ ap (λ o. and_then o (λ rest. customs_in c.args.late (c.loop-k.k + 1) (drop (c.loop-k.k + 1) c.args.widths.now) rest)) c.in-Some.ensures;
}

pub returns : goal.returns
returns c = c.loop-k.invariant.rest ∙ customs_end c.args.late c.loop-k.k c.args.widths.now c.loop-k.left.now (omega (arith, c.loop-k-test.false, c.loop-k.auto.k-end))
