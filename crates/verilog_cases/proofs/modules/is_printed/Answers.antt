use Rattle.verilog_cases.proofs.Valid.{valid_all}
use Rattle.verilog_cases.proofs.modules.is_printed.Goals as goal

pub print-requires-clause-valid : goal.print-requires-clause-valid
print-requires-clause-valid c = valid_all c.args.text.now c.args.nets.now c.requires
