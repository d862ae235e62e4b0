use Rattle.std.proofs.Common.{◌+◌, ⊎_elim}
use Rattle.ix_net.proofs.OrderLemmas.{Contains-more, Contains-whole}
use Rattle.ix_net.proofs.ordering.first_waiting.Goals as goal

pub loop-signal-preserved : goal.loop-signal-preserved
loop-signal-preserved c = λ k l h.
    ⊎_elim (c.loop-signal.invariant k l) (c.in_default.ensures k l)
    (Contains-more c.args.signals.now c.loop-signal.signal-index 0 (c.args.first + k) c.loop-signal-test.true h)

pub returns : goal.returns
returns c = λ k l h. c.loop-signal.invariant k l (Contains-whole c.args.signals.now c.loop-signal.signal-index (c.args.first + k) c.loop-signal-test.false h)
