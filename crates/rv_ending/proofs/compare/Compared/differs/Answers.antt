use Rattle.std.proofs.Common.{sym, ◌∙◌}
use Rattle.rv_ending.proofs.Next.{ended, not_ended}
use Rattle.rv_ending.proofs.compare.Compared.differs.Goals as goal

pub returns-then-is_whole : goal.returns-then-is_whole
returns-then-is_whole c = λ first other is. ended first c.args.text.now other c.args.self is (sym c.is_whole.ensures ∙ c.if-is_whole.true)

pub returns-else-is_whole : goal.returns-else-is_whole
returns-else-is_whole c = λ first other is. not_ended first c.args.text.now other c.args.self is (sym c.is_whole.ensures ∙ c.if-is_whole.false)
