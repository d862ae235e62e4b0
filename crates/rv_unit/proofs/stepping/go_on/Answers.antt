use Rattle.std.proofs.Common.{◌≡◌, ◌∙◌, ◌<◌, ap, length, get_or, set}
use Rattle.rv_unit.specs.declared.entry.Entry.{Entry}
use Rattle.rv_unit.specs.Surveys.{moved_by}
use Rattle.rv_unit.proofs.Cycling.{moved_more, moved_rest}
use Rattle.rv_unit.proofs.stepping.go_on.Goals as goal

pub loop-entry-preserved : goal.loop-entry-preserved
loop-entry-preserved c =
    let before = c.args.entries.now in
    let i = c.loop-entry.entry-index in
    let d : Entry = record { serial = 0; unit = 0; time = 0 } in
    let f = moved_by c.args.found.now in
    let lt : i < length before = c.loop-entry-test.true in
    let new : c.moved.result ≡ f (get_or before i d) = c.moved.ensures ∙ ap (λ l. f (get_or l i d)) c.loop-entry.invariant ∙ ap f (moved_rest f before i d lt) in
    ap (λ l. set l i c.moved.result) c.loop-entry.invariant ∙ moved_more f before i c.moved.result d lt new
