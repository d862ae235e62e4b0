use Rattle.std.proofs.Common.{sym, ◌∙◌}
use Rattle.std.proofs.lemmas.Bool.{eqb-true, eqb-false}
use Rattle.rv_reader.proofs.Lining.{no_line, some_line}
use Rattle.rv_reader.proofs.lines.line_at.Goals as goal

pub returns-then-is_empty : goal.returns-then-is_empty
returns-then-is_empty c = no_line c.args.text.now c.args.at c.split.result.1.now c.split.ensures.rest (eqb-true _ 0 (sym c.is_empty.ensures ∙ c.if-is_empty.true))

pub returns-else-is_empty : goal.returns-else-is_empty
returns-else-is_empty c = some_line c.args.text.now c.args.at c.split.result.0.now c.split.result.1.now c.requires c.split.ensures.before c.split.ensures.rest (eqb-false _ 0 (sym c.is_empty.ensures ∙ c.if-is_empty.false))
