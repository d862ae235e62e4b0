use Rattle.std.proofs.Common.{◌-◌}
use Rattle.std.specs.Prelude.{Some}
use Rattle.std.proofs.lemmas.Result.{IfOk-weaker}
use Rattle.ix_sweep.specs.Periods.{refuted_at, IsBelow, IsTested}
use Rattle.ix_sweep.proofs.Widest.{below_least}
use Rattle.ix_sweep.proofs.sweep.below_of.Goals as goal

pub returns-then-least-gt1 : goal.returns-then-least-gt1
returns-then-least-gt1 c =
    let g = c.args.graph.now in
    let sheet = c.args.sheet.now in
    IfOk-weaker c.tested.result (IsTested g sheet c.args.mode (c.args.least - 1)) (IsBelow g sheet c.args.block (refuted_at (Some c.args.least)))
    (λ below tested. below_least g sheet c.args.block c.args.mode c.args.least below c.requires.widest c.requires.least c.if-least-gt1.true tested) c.tested.ensures
