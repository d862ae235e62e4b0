use Rattle.std.proofs.Common.{◌-◌, length, arith}
use Rattle.std.specs.Prelude.{None}
use Rattle.rv_engine.proofs.Going.{leaving_last}
use Rattle.rv_engine.proofs.moving.last.Goals as goal

pub returns : goal.returns
returns c = leaving_last None c.args.slots.now (length c.args.slots.now - 1) c.index-slots-slots.result (omega (arith, c.requires)) c.index-slots-slots.is
