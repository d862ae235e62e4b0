use Rattle.ix_cert.proofs.verdict.certify.Goals as goal
use Rattle.ix_cert.proofs.Answering.{room, ready, certified, accepted, refused, unread}

pub check_report-requires-clause-ready : goal.check_report-requires-clause-ready
check_report-requires-clause-ready c = ready c.args.bytes.now c.in-Ok.report c.in-Ok.first c.in-Ok.ensures.read c.in-Ok.ensures.first c.requires

pub check_report-requires-clause-room : goal.check_report-requires-clause-room
check_report-requires-clause-room c = room c.args.bytes.now c.in-Ok.report c.in-Ok.first c.in-Ok.ensures.read c.in-Ok.ensures.first c.requires

pub returns-in-Ok-clause-yes : goal.returns-in-Ok-clause-yes
returns-in-Ok-clause-yes c = certified c.args.bytes.now c.in-Ok.report c.in-Ok.first c.in-Ok.ensures.read c.in-Ok.ensures.first c.requires c.check_report.result c.check_report.ensures

pub returns-in-Ok-clause-accepts : goal.returns-in-Ok-clause-accepts
returns-in-Ok-clause-accepts c = accepted c.args.bytes.now c.in-Ok.report c.in-Ok.first c.in-Ok.ensures.read c.in-Ok.ensures.first c.requires c.in-Ok.ensures.only c.check_report.result c.check_report.ensures

pub returns-in-Ok-clause-refuses : goal.returns-in-Ok-clause-refuses
returns-in-Ok-clause-refuses c = refused c.args.bytes.now c.in-Ok.report c.in-Ok.first c.in-Ok.ensures.read c.in-Ok.ensures.first c.requires c.in-Ok.ensures.only c.check_report.result c.check_report.ensures c.in-Ok.ensures.refuses

pub returns-in-Err-clause-refuses : goal.returns-in-Err-clause-refuses
returns-in-Err-clause-refuses c = λ e. unread c.args.bytes.now c.in-Err.error e c.in-Err.ensures.only c.in-Err.ensures.refuses
