use Rattle.std.proofs.Common.{◌∙◌, sym, ap}
use Rattle.std.proofs.lemmas.Bool.Decides.{Decides-at}
use Rattle.rv_trace.specs.Trace.{newest}
use Rattle.rv_marks.specs.Marks.{moves_as}
use Rattle.rv_marks.proofs.Moved.{moves_tell}
use Rattle.rv_marks.proofs.moving.moves_rightly.Goals as goal

pub returns : goal.returns
returns c k earlier shape plain before =
    Decides-at c.moves.result (moves_as k.shape (newest earlier) c.args.row.now)
    (c.moves.ensures ∙ ap (λ s. moves_as s c.args.before.now c.args.row.now) (sym shape) ∙ ap (λ b. moves_as k.shape b c.args.row.now) (sym before))
    (moves_tell k c.args.row.now plain earlier)
