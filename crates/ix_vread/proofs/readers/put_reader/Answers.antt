use Rattle.std.proofs.Common.{◌++◌, ◌∷◌, [], ap, ◌∙◌}
use Rattle.std.proofs.lemmas.List.{get_or_default}
use Rattle.ix_vread.proofs.Putting.{put_one}
use Rattle.ix_vread.proofs.readers.put_reader.Goals as goal

pub returns-in_ok-push : goal.returns-in_ok-push
returns-in_ok-push c =
    put_one c.args.cell c.args.reader c.args.readers.now c.push.new.self c.if-cell-readers.true
    (c.in_ok-push.ensures.ok ∙ ap (λ z. z ++ c.args.reader ∷ []) (get_or_default c.args.readers.now c.args.cell c.index-readers-cell.result [] c.if-cell-readers.true))
