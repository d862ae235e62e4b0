use Rattle.std.proofs.Common.{refl, ap}
use Rattle.ix_vread.proofs.Parts.{front_at, single_front, pair_at, single_at}
use Rattle.ix_vread.specs.declared.part.Found.{Found}
use Rattle.ix_vread.proofs.part.sign.Goals as goal

pub returns-then-is_pair : goal.returns-then-is_pair
returns-then-is_pair c =
    front_at c.args.first _ 1 c.word.result.rest _ c.word.result.is_word (pair_at c.args.first c.args.rest.now c.is_pair.result c.if-first-eq47.false c.is_pair.ensures c.if-is_pair.true) refl
    (ap (λ (z : Found). z.rest) c.word.ensures) (ap (λ (z : Found). z.is_word) c.word.ensures)

pub returns : goal.returns
returns c =
    front_at c.args.first _ 0 c.word-2.result.rest _ c.word-2.result.is_word (single_front c.args.first _) (single_at c.args.first c.args.rest.now c.is_pair.result c.if-first-eq47.false c.is_pair.ensures c.if-is_pair.false)
    (ap (λ (z : Found). z.rest) c.word-2.ensures) (ap (λ (z : Found). z.is_word) c.word-2.ensures)
