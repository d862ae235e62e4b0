use Rattle.std.proofs.Common.{sym, ◌∙◌}
use Rattle.toml.specs.View.{view, table_view}
use Rattle.ix_sheet.proofs.Documents.{delay_value}
use Rattle.ix_sheet.proofs.read.read_delay.Goals as goal

pub returns-in-Some-clause-value : goal.returns-in-Some-clause-value
returns-in-Some-clause-value c =
    c.unwrap_or.ensures
    ∙ delay_value (table_view c.args.doc.now) c.args.word.now (view c.in-Some.value.now) c.whole_number.result
    c.requires (sym c.in-Some.ensures) c.whole_number.ensures.is c.whole_number.ensures.some
