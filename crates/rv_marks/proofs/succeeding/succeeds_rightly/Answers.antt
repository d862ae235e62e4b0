use Rattle.std.proofs.Common.{◌∙◌, sym, ap}
use Rattle.std.proofs.lemmas.Bool.Decides.{Decides-at}
use Rattle.rv_marks.specs.Turns.{succeeds_as}
use Rattle.rv_marks.proofs.Succeeded.{succeeds_tell}
use Rattle.rv_marks.proofs.succeeding.succeeds_rightly.Goals as goal

pub returns : goal.returns
returns c k earlier shape plain is =
    let known = c.args.known.now in
    let row = c.args.row.now in
    Decides-at c.succeeds.result (succeeds_as k.shape known row) (c.succeeds.ensures ∙ ap (λ s. succeeds_as s known row) (sym shape)) (succeeds_tell k earlier row known plain is)
