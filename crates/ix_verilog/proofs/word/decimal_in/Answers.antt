use Rattle.std.proofs.Common.{ap, ◌∙◌}
use Rattle.std.specs.Fmt.{decimal}
use Rattle.ix_verilog.proofs.Decimals.{decimal_utf8, decimal_read, decimal_read_same}
use Rattle.ix_verilog.proofs.word.decimal_in.Goals as goal

pub returns-in_default : goal.returns-in_default
returns-in_default c = λ n h e. c.in_default.ensures.cases.0 (decimal_utf8 c.args.word.now n h e)

pub returns-in_default-parse : goal.returns-in_default-parse
returns-in_default-parse c = λ n h e. let r = decimal_read c.args.word.now c.in-Ok.text.now n c.parse.result h e c.in-Ok.ensures.cases.0 c.parse.ensures.value.0 in cc (r, c.in_default-parse.is)

pub returns-else-is_written : goal.returns-else-is_written
returns-else-is_written c = λ n h e.
    let r = decimal_read c.args.word.now c.in-Ok.text.now n c.parse.result h e c.in-Ok.ensures.cases.0 c.parse.ensures.value.0 in
    let s = decimal_read_same n c.in-Ok-parse.number c.parse.result r c.in-Ok-parse.is in
    let t = c.is_written.ensures.1 (ap decimal s ∙ e) in
    absurd (cc (t, c.if-is_written.false))
