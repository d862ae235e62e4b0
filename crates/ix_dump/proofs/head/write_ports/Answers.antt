use Rattle.std.proofs.Common.{◌≡◌, ◌≤◌, length, Some, refl, arith}
use Rattle.std.specs.Prelude.{slice_get}
use Rattle.std.proofs.lemmas.Option.{slice_get_read}
use Rattle.ix_dump.proofs.Passing.{part_start, part_step, part_breaks, part_end, at_err}
use Rattle.ix_dump.proofs.Lists.{ports_start, ports_next, ports_end}
use Rattle.ix_dump.proofs.head.write_ports.Goals as goal

pub loop-i-init : goal.loop-i-init
loop-i-init g c = record {
  part = part_start (ports_start c.args.first c.args.ports.now);
  never_fell = omega arith;
}

pub returns-in_err-write_port-clause-front : goal.returns-in_err-write_port-clause-front
returns-in_err-write_port-clause-front g c =
    let i = c.loop-i.i in
    let at : slice_get c.args.ports.now i ≡ Some c.index-ports-i.result
    = slice_get_read c.args.ports.now (length c.args.ports.now) i c.index-ports-i.result refl (omega arith) c.index-ports-i.is in
    at_err c.from_residual.result
    (part_breaks _ _ c.loop-i.invariant.part (ports_next c.args.first i c.args.ports.now c.index-ports-i.result at) c.in_err-write_port.ensures.front)

pub loop-i-preserved : goal.loop-i-preserved
loop-i-preserved g c =
    let i = c.loop-i.i in
    let at : slice_get c.args.ports.now i ≡ Some c.index-ports-i.result
    = slice_get_read c.args.ports.now (length c.args.ports.now) i c.index-ports-i.result refl (omega arith) c.index-ports-i.is in
    record {
      part = part_step c.loop-i.invariant.part (ports_next c.args.first i c.args.ports.now c.index-ports-i.result at) c.in_ok-write_port.ensures.whole;
      never_fell = omega (arith, c.loop-i.invariant.never_fell, c.in_ok-write_port.ensures.never_fell);
    }

pub returns-clause-whole : goal.returns-clause-whole
returns-clause-whole g c =
    let past : length c.args.ports.now ≤ c.loop-i.i = omega arith in
    part_end c.loop-i.invariant.part (ports_end _ c.loop-i.i c.args.ports.now past)
