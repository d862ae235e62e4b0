use Rattle.std.proofs.Common.{◌≡◌, ap, ◌∙◌}
use Rattle.std.specs.Fmt.{decimal}
use Rattle.ix_lines.proofs.Numerals.{wide, decimal_utf8, decimal_read, same_number, too_great, not_told}
use Rattle.ix_lines.proofs.word.number.Goals as goal

pub returns-in_default : goal.returns-in_default
returns-in_default c = λ x h e. c.in_default.ensures.cases.0 (decimal_utf8 x c.args.word.now (wide x c.args.most h c.ranges.most.fits) e)

pub returns-in_default-parse : goal.returns-in_default-parse
returns-in_default-parse c = λ x h e. let r = decimal_read x c.args.word.now c.in-Ok.text.now c.parse.result (wide x c.args.most h c.ranges.most.fits) e c.in-Ok.ensures.cases.0 c.parse.ensures.value.0 in cc (r, c.in_default-parse.is)

pub returns-then-number-most : goal.returns-then-number-most
returns-then-number-most c = λ x h e.
    let r = decimal_read x c.args.word.now c.in-Ok.text.now c.parse.result (wide x c.args.most h c.ranges.most.fits) e c.in-Ok.ensures.cases.0 c.parse.ensures.value.0 in
    too_great x c.args.most c.in-Ok-parse.number c.parse.result r c.in-Ok-parse.is h c.if-number-most.true

pub returns-else-is_written : goal.returns-else-is_written
returns-else-is_written c = λ x h e.
    let r = decimal_read x c.args.word.now c.in-Ok.text.now c.parse.result (wide x c.args.most h c.ranges.most.fits) e c.in-Ok.ensures.cases.0 c.parse.ensures.value.0 in
    let same = same_number x c.in-Ok-parse.number c.parse.result r c.in-Ok-parse.is in
    not_told c.is_written.result (decimal c.in-Ok-parse.number ≡ c.args.word.now) c.is_written.ensures c.if-is_written.false (ap decimal same ∙ e)
