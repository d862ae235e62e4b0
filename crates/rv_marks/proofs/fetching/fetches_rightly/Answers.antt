use Rattle.std.proofs.Common.{◌∙◌, sym, ap}
use Rattle.std.proofs.lemmas.Bool.Decides.{Decides-at}
use Rattle.rv_trace.specs.Trace.{newest}
use Rattle.rv_marks.specs.Marks.{fetches_as}
use Rattle.rv_marks.proofs.Fetched.{fetches_tell}
use Rattle.rv_marks.proofs.fetching.fetches_rightly.Goals as goal

pub returns : goal.returns
returns c k earlier shape image before is =
    let known = c.args.known.now in
    let row = c.args.row.now in
    Decides-at c.fetches.result (fetches_as k.shape known.next known.fetch k.image (newest earlier) row)
    (c.fetches.ensures
    ∙ ap (λ s. fetches_as s known.next known.fetch c.args.image.now c.args.before.now row) (sym shape)
    ∙ ap (λ i. fetches_as k.shape known.next known.fetch i c.args.before.now row) (sym image)
    ∙ ap (λ b. fetches_as k.shape known.next known.fetch k.image b row) (sym before))
    (fetches_tell k earlier row known is)
