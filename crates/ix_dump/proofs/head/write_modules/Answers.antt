use Rattle.std.proofs.Common.{◌≡◌, ◌≤◌, ◌+◌, ◌∙◌, ◌++◌, sym, ap, length, drop, Some, refl, arith}
use Rattle.std.specs.Prelude.{slice_get}
use Rattle.std.proofs.lemmas.Option.{slice_get_read}
use Rattle.ix_dump.specs.Dump.{module_text, modules_text}
use Rattle.ix_dump.proofs.Passing.{part_start, part_step, part_breaks, part_end, at_err}
use Rattle.ix_dump.proofs.Lists.{modules_next, modules_end, count_next}
use Rattle.ix_dump.proofs.head.write_modules.Goals as goal

pub loop-net-init : goal.loop-net-init
loop-net-init g c = record {
  part = part_start refl;
  count = omega arith;
  never_fell = omega arith;
}

pub write_module-requires : goal.write_module-requires
write_module-requires g c =
    let i = c.loop-net.net-index in
    let nets = c.args.nets.now in
    let at : slice_get nets i ≡ Some c.net-item.result = slice_get_read nets (length nets) i c.net-item.result refl (omega arith) c.net-item.is in
    omega (arith, c.loop-net.invariant.count, count_next c.loop-net.first i nets c.net-item.result at, c.requires)

pub returns-in_err-write_module-clause-front : goal.returns-in_err-write_module-clause-front
returns-in_err-write_module-clause-front g c =
    let i = c.loop-net.net-index in
    let nets = c.args.nets.now in
    let at : slice_get nets i ≡ Some c.net-item.result = slice_get_read nets (length nets) i c.net-item.result refl (omega arith) c.net-item.is in
    at_err c.from_residual.result
    (part_breaks _ _ c.loop-net.invariant.part (modules_next c.loop-net.first i nets c.net-item.result at) c.in_err-write_module.ensures.front)

pub number_behind-first-requires : goal.number_behind-first-requires
number_behind-first-requires g c =
    let i = c.loop-net.net-index in
    let nets = c.args.nets.now in
    let at : slice_get nets i ≡ Some c.net-item.result = slice_get_read nets (length nets) i c.net-item.result refl (omega arith) c.net-item.is in
    omega (arith, c.loop-net.invariant.count, count_next c.loop-net.first i nets c.net-item.result at, c.requires)

pub loop-net-preserved : goal.loop-net-preserved
loop-net-preserved g c =
    let i = c.loop-net.net-index in
    let nets = c.args.nets.now in
    let at : slice_get nets i ≡ Some c.net-item.result = slice_get_read nets (length nets) i c.net-item.result refl (omega arith) c.net-item.is in
    record {
      part = part_step c.loop-net.invariant.part
          (modules_next c.loop-net.first i nets c.net-item.result at ∙ ap (λ k. module_text c.loop-net.first c.net-item.result ++ modules_text k (drop (i + 1) nets)) (sym c.number_behind-first.ensures))
          c.in_ok-write_module.ensures.whole;
      count = omega (arith, c.loop-net.invariant.count, count_next c.loop-net.first i nets c.net-item.result at, c.number_behind-first.ensures);
      never_fell = omega (arith, c.loop-net.invariant.never_fell, c.in_ok-write_module.ensures.never_fell);
    }

pub returns-clause-whole : goal.returns-clause-whole
returns-clause-whole g c =
    let past : length c.args.nets.now ≤ c.loop-net.net-index = omega arith in
    part_end c.loop-net.invariant.part (modules_end c.loop-net.first c.loop-net.net-index c.args.nets.now past)
