use Rattle.std.proofs.Common.{◌≡◌, ◌++◌, length, take, drop, ap, sym, subst, ◌∙◌, arith}
use Rattle.std.proofs.lemmas.List.{take_at}
use Rattle.ix_vread.specs.Searches.{AreLoops}
use Rattle.ix_vread.proofs.Knowing.{known_fresh, known_all}
use Rattle.ix_vread.proofs.search.loops_in.Goals as goal

pub look_at_all-requires-clause-known : goal.look_at_all-requires-clause-known
look_at_all-requires-clause-known c = known_fresh c.args.readers.now c.args.order.now c.deref_mut.result.now (c.deref_mut.ensures.value ∙ c.in_ok-marks.ensures.items_if_clones_equal (λ y e. e))

pub returns : goal.returns
returns c =
    let new = c.look_at_all.new.marks in
    let items = c.in_ok-marks.marks.items in
    let full : length new ≡ c.in_ok-marks.marks.len = omega (arith, c.look_at_all.auto.marks, ap length c.deref_mut.ensures.value, c.in_ok-marks.marks.ok.0) in
    let e : take c.in_ok-marks.marks.len (new ++ drop (length new) items) ≡ new = take_at new (drop (length new) items) c.in_ok-marks.marks.len full in
    subst (AreLoops c.args.readers.now) (sym e) (known_all c.args.readers.now c.args.order.now new c.requires c.in_ok-look_at_all.ensures)
