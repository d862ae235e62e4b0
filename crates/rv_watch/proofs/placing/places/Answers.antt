use Rattle.std.proofs.Common.{◌≡◌, ◌∙◌, ◌<◌, sym, ap, take, drop, length, Some, arith}
use Rattle.rv_core.specs.declared.Shape.{Shape}
use Rattle.rv_lawful.specs.Settings.{stages_of}
use Rattle.rv_watch.specs.Places.{first_place}
use Rattle.rv_watch.proofs.Entries.{get_below}
use Rattle.rv_watch.proofs.Placed.{placed}
use Rattle.rv_watch.proofs.placing.places.Goals as goal

pub returns : goal.returns
returns c = λ k earlier shape plain going moves form count are stage cell some stands.
    let row = c.args.row.now in
    let here : c.stages-cells.result.now ≡ stages_of k row = c.stages-cells.ensures.stages ∙ ap (λ (s : Shape). take s.stages row.cells) (sym shape) in
    let long = ap length here in
    let lt = get_below (stages_of k row) stage (Some cell) stands in
    let past = c.loop-stage-test.false in
    let in_loop : stage < c.loop-stage.stage = omega (arith, lt, long, past) in
    c.loop-stage.invariant.1 stage in_loop
    ∙ ap (λ l. Some (first_place c.args.retired c.args.seen.now row.flushed (drop stage l))) here
    ∙ ap (λ n. Some n) (placed c.row_facts.ensures k earlier row c.args.retired c.args.seen.now plain going moves form count are stage cell some stands)
