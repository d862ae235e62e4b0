use Rattle.ix_extension.specs.Extensions.{view_extension}
use Rattle.ix_schedules.proofs.Sound.{report_in_form, report_faultless}
use Rattle.ix_schedules.proofs.text.schedule_text.Goals as goal

pub print_report-requires : goal.print_report-requires
print_report-requires c = report_in_form (view_extension c.args.ext.now) c.args.sheet.now c.in-Ok.report c.requires.sheet c.in-Ok.ensures.report

pub returns-in_ok-print_report-in-Ok-clause-text : goal.returns-in_ok-print_report-in-Ok-clause-text
returns-in_ok-print_report-in-Ok-clause-text c =
    let text = c.in_ok-print_report-in-Ok.field-0 in
    record {
      report = c.in-Ok.report;
      reports = c.in-Ok.ensures.report;
      printed = c.in_ok-print_report-in-Ok.ensures.lines;
      faultless = report_faultless (view_extension c.args.ext.now) c.args.sheet.now c.in-Ok.report text c.in-Ok.ensures.report c.in_ok-print_report-in-Ok.ensures.text;
    }
