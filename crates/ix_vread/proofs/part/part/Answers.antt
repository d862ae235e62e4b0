use Rattle.std.proofs.Common.{ap}
use Rattle.ix_vread.proofs.Parts.{front_at, space_front, name_front, number_front, space_at, name_at, number_at}
use Rattle.ix_vread.specs.declared.part.Found.{Found}
use Rattle.ix_vread.proofs.part.part.Goals as goal

pub returns-then-is_space : goal.returns-then-is_space
returns-then-is_space c =
    front_at c.args.first _ 0 c.gap.result.rest _ c.gap.result.is_word (space_front c.args.first c.args.rest.now) (space_at c.args.first c.args.rest.now c.is_space.result c.is_space.ensures c.if-is_space.true)
    (ap (λ (z : Found). z.rest) c.gap.ensures) (ap (λ (z : Found). z.is_word) c.gap.ensures)

pub returns-then-is_opening : goal.returns-then-is_opening
returns-then-is_opening c =
    front_at c.args.first _ c.run.result c.word.result.rest _ c.word.result.is_word (name_front c.args.first c.args.rest.now c.run.result c.run.ensures.within c.run.ensures.inside c.run.ensures.stops)
    (name_at c.args.first c.args.rest.now c.is_space.result c.is_opening.result c.is_space.ensures c.if-is_space.false c.is_opening.ensures c.if-is_opening.true)
    (ap (λ (z : Found). z.rest) c.word.ensures) (ap (λ (z : Found). z.is_word) c.word.ensures)

pub returns-then-is_digit : goal.returns-then-is_digit
returns-then-is_digit c =
    front_at c.args.first _ c.run-then-is_digit.result c.word-then-is_digit.result.rest _ c.word-then-is_digit.result.is_word (number_front c.args.first c.args.rest.now c.run-then-is_digit.result c.run-then-is_digit.ensures.within c.run-then-is_digit.ensures.inside c.run-then-is_digit.ensures.stops)
    (number_at c.args.first c.args.rest.now c.is_space.result c.is_opening.result c.is_digit.result c.is_space.ensures c.if-is_space.false c.is_opening.ensures c.if-is_opening.false c.is_digit.ensures c.if-is_digit.true)
    (ap (λ (z : Found). z.rest) c.word-then-is_digit.ensures) (ap (λ (z : Found). z.is_word) c.word-then-is_digit.ensures)
