use Rattle.std.proofs.lemmas.Bool.Decides.{Decides-at}
use Rattle.rv_marks.specs.Marks.{is_still}
use Rattle.rv_marks.proofs.Stilled.{still_tells}
use Rattle.rv_marks.proofs.still.succeeds_behind.Goals as goal

pub returns : goal.returns
returns c k earlier plain lawful stop moves fetches = Decides-at c.is_still.result (is_still c.args.row.now) c.is_still.ensures (still_tells k earlier c.args.row.now c.row_facts.ensures plain lawful stop moves fetches)
