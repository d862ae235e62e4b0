use Rattle.std.proofs.Common.{refl, ap, ◌+◌, length}
use Rattle.ix_vread.proofs.Parts.{front_at, comment_front, open_front}
use Rattle.ix_vread.specs.declared.part.Found.{Found}
use Rattle.ix_vread.proofs.part.block.Goals as goal

pub returns-in-Some : goal.returns-in-Some
returns-in-Some c =
    front_at 47 _ (c.in-Some.length + 1) c.gap.result.rest _ c.gap.result.is_word (comment_front c.args.inside.now c.in-Some.length c.in-Some.ensures.some.0 c.in-Some.ensures.some.1) refl
    (ap (λ (z : Found). z.rest) c.gap.ensures) (ap (λ (z : Found). z.is_word) c.gap.ensures)

pub returns-in-None : goal.returns-in-None
returns-in-None c =
    front_at 47 _ (length c.args.inside.now + 1) c.word.result.rest _ c.word.result.is_word (open_front c.args.inside.now c.in-None.ensures.none) refl
    (ap (λ (z : Found). z.rest) c.word.ensures) (ap (λ (z : Found). z.is_word) c.word.ensures)
