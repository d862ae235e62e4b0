use Rattle.std.proofs.Common.{◌∙◌, sym}
use Rattle.rv_reader.specs.Forms.{IsRetiredLine}
use Rattle.rv_reader.proofs.Lining.{none_at, other_at, span_at, not_both}
use Rattle.rv_reader.proofs.lines.retired_at.Goals as goal

pub returns-in_default : goal.returns-in_default
returns-in_default c = none_at (IsRetiredLine c.args.widths.now) c.args.text.now c.args.at c.args.wanted c.if-not-wanted.false c.in_default.ensures

pub returns-then-not-is_retired_line : goal.returns-then-not-is_retired_line
returns-then-not-is_retired_line c = other_at (IsRetiredLine c.args.widths.now) c.args.text.now c.args.at c.args.wanted c.in-Some.line.now c.if-not-wanted.false c.in-Some.ensures (λ e. not_both (c.is_retired_line.result) (c.is_retired_line.ensures ∙ e) c.if-not-is_retired_line.true)

pub returns : goal.returns
returns c = span_at (IsRetiredLine c.args.widths.now) c.args.text.now c.args.at c.args.wanted c.in-Some.line.now c.if-not-wanted.false c.in-Some.ensures (sym c.is_retired_line.ensures ∙ c.if-not-is_retired_line.false)
