use Rattle.std.proofs.Common.{◌<◌, ◌+◌, sym, subst, arith, None, drop, get_or, length}
use Rattle.std.proofs.lemmas.List.{drop_more}
use Rattle.rv_watch.specs.Seeing.{AreMarked}
use Rattle.rv_watch.proofs.Marking.{marked_more}
use Rattle.rv_watch.proofs.seeing.mark.Goals as goal

pub loop-one-preserved : goal.loop-one-preserved
loop-one-preserved c = λ end h.
    let marks = c.args.marks.now in
    let i = c.loop-one.one-index in
    let long = c.told-marks in
    let test = c.loop-one-test.true in
    let within : i < length marks = omega (arith, long, test) in
    let more = marked_more (get_or marks i None) (drop (i + 1) marks) c.loop-one.seen c.mark_one.new.seen end c.mark_one.ensures h in
    c.loop-one.invariant end (subst (λ l. AreMarked l c.loop-one.seen end) (sym (drop_more marks i None within)) more)
