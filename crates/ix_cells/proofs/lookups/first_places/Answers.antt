use Rattle.std.proofs.Common.{◌-◌, arith}
use Rattle.std.proofs.lemmas.Option.{slice_get-get_or}
use Rattle.ix_cells.proofs.WireLists.{places_more}
use Rattle.ix_cells.proofs.lookups.first_places.Goals as goal

pub loop-place-preserved : goal.loop-place-preserved
loop-place-preserved c =
    let es = c.args.entries.now in
    let p = c.loop-place.place - 1 in
    (omega arith, places_more es c.loop-place.places c.insert.new.self p _ (slice_get-get_or es p c.index-entries-place.result (omega arith)) c.in_ok-insert.ensures.updates.0 c.loop-place.invariant.1)
