use Rattle.std.proofs.Common.{ap}
use Rattle.ix_vread.proofs.Parts.{front_at, single_front, empty_slash}
use Rattle.ix_vread.specs.declared.part.Found.{Found}
use Rattle.ix_vread.proofs.part.slash.Goals as goal

pub returns-in-empty : goal.returns-in-empty
returns-in-empty c =
    front_at 47 _ 0 c.word.result.rest _ c.word.result.is_word (single_front 47 _) (empty_slash c.args.rest.now c.in-empty.len_below)
    (ap (λ (z : Found). z.rest) c.word.ensures) (ap (λ (z : Found). z.is_word) c.word.ensures)
