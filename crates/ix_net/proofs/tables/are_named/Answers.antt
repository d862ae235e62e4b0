use Rattle.std.proofs.Common.{arith, rules}
use Rattle.std.proofs.lemmas.List.{take_all}
use Rattle.std.proofs.lemmas.List.Elements.{All-more, All-same}
use Rattle.std.proofs.Common.{sym}
use Rattle.ix_net.specs.Name.{IsName}
use Rattle.ix_net.specs.Valid.{IsWidth}
use Rattle.ix_net.proofs.tables.are_named.Goals as goal

pub loop-signal-preserved : goal.loop-signal-preserved
loop-signal-preserved c =
    All-more (λ s. IsName s.name.now × IsWidth s.width) c.args.signals.now c.loop-signal.signal-index _ c.loop-signal-test.true c.loop-signal.invariant
    (c.is_name.ensures.0 c.if-not-is_name.false, record { some = c.if-signal-lt1.false; most = c.if-signal-gt-WIDEST.false })

pub returns : goal.returns
returns c = (
  λ _. All-same (λ s. IsName s.name.now × IsWidth s.width) c.args.signals.now _ (sym (take_all c.loop-signal.signal-index c.args.signals.now (omega arith))) c.loop-signal.invariant,
  search rules,
)
