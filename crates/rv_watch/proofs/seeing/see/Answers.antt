use Rattle.std.proofs.Common.{◌≡◌, ◌∙◌, ◌<◌, subst, Some, arith}
use Rattle.std.specs.Prelude.{slice_get}
use Rattle.rv_lawful.specs.Settings.{stages_of}
use Rattle.rv_watch.specs.Seeing.{AreMarked}
use Rattle.rv_watch.proofs.Entries.{get_first}
use Rattle.rv_watch.proofs.SeenMore.{seen_more}
use Rattle.rv_watch.proofs.seeing.see.Goals as goal

pub returns-clause-ok : goal.returns-clause-ok
returns-clause-ok c = λ k earlier plain going lawful are asks.
    let row = c.args.row.now in
    let first = c.first_of-first.result in
    let a = plain.mem_last in
    let some : 0 < k.shape.stages = omega (arith, a) in
    let there : slice_get (stages_of k row) 0 ≡ Some first = get_first k.shape.stages 0 row.cells some ∙ c.first_of-first.ensures in
    let marked = subst (λ l. AreMarked row.flushed l c.mark_all.new.seen.items) c.in_ok-add.ensures.ok c.mark_all.ensures in
    seen_more c.row_facts.ensures k earlier row plain going lawful c.args.seen.now.items are c.args.spawns asks first c.mark_all.new.seen.items there marked
