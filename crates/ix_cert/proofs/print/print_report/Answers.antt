use Rattle.std.proofs.Common.{◌∙◌, ◌++◌, ap}
use Rattle.ix_cert.specs.Layout.{report_lines}
use Rattle.ix_lines.specs.Lines.{text_of}
use Rattle.ix_cert.proofs.Outcomes.{printed}
use Rattle.ix_cert.proofs.print.print_report.Goals as goal

pub returns-clause-text : goal.returns-clause-text
returns-clause-text c = printed c.from_vec.result c.args.report.now c.requires (c.from_vec.ensures ∙ c.in_ok-put_report.ensures ∙ ap (λ l. l ++ text_of (report_lines c.args.report.now)) c.new-out.ensures.items)
