use Rattle.std.proofs.Common.{ap, ◌+◌}
use Rattle.ix_vread.proofs.Parts.{front_at, line_form, line_front, single_front, lone_slash}
use Rattle.ix_vread.specs.declared.part.Found.{Found}
use Rattle.ix_vread.proofs.part.slash_pair.Goals as goal

pub returns-then-next-eq47 : goal.returns-then-next-eq47
returns-then-next-eq47 c =
    line_form c.args.next c.args.inside.now (c.run.result + 1) c.gap.result.rest c.gap.result.is_word c.if-next-eq47.true
    (line_front c.args.inside.now c.run.result c.run.ensures.within c.run.ensures.inside c.run.ensures.stops)
    (ap (λ (z : Found). z.rest) c.gap.ensures) (ap (λ (z : Found). z.is_word) c.gap.ensures)

pub returns : goal.returns
returns c =
    front_at 47 _ 0 c.word.result.rest _ c.word.result.is_word (single_front 47 _) (lone_slash c.args.next c.args.inside.now c.if-next-eq47.false c.if-next-eq42.false)
    (ap (λ (z : Found). z.rest) c.word.ensures) (ap (λ (z : Found). z.is_word) c.word.ensures)
