use Rattle.std.proofs.Common.{◌∙◌, ◌<◌, ap, sym, length, arith}
use Rattle.rv_trace.specs.RowParts.{in_five}
use Rattle.rv_past.proofs.Cells.{none_given, one_listed, one_counted}
use Rattle.rv_past.proofs.making.in_front.Goals as goal
use Rattle.rv_past.proofs.making.in_front.Goals.{in-Some, in_default}

pub loop-one-preserved : goal.loop-one-preserved
loop-one-preserved c =
    let xs = c.args.flushed.now in
    let i = c.loop-one.one-index in
    let inside : i < length xs = omega (arith, c.told-flushed, c.loop-one-test.true) in
    elim c.match-one.branch [
      | in-Some w ↦ record {
        done = w.all-is ∙ one_listed c.loop-one.all xs i c.loop-one.count w.in-Some.serial inside w.in-Some.is c.loop-one.invariant.done c.loop-one.invariant.count (omega (arith, c.loop-one.invariant.few, c.loop-one-test.true));
        count = w.count-is ∙ one_counted xs i c.loop-one.count w.in-Some.serial inside w.in-Some.is c.loop-one.invariant.count;
        few = omega (arith, w.count-is, c.loop-one.invariant.few);
      }
      | in_default w ↦ record {
        done = w.all-is ∙ c.loop-one.invariant.done ∙ ap in_five (sym (none_given xs i inside w.in_default.is));
        count = w.count-is ∙ c.loop-one.invariant.count ∙ ap length (sym (none_given xs i inside w.in_default.is));
        few = omega (arith, w.count-is, c.loop-one.invariant.few);
      }
    ]
