use Rattle.ix_vform.proofs.Texts.{highest_answer}
use Rattle.ix_vform.proofs.word.highest.Goals as goal

pub returns : goal.returns
returns c = highest_answer c.args.word.now c.place_in.result c.place_in.ensures
