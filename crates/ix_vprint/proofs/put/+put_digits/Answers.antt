use Rattle.std.proofs.Common.{ap, sym, ◌∙◌, ◌++◌, arith}
use Rattle.std.proofs.lemmas.Result.{on_ok_weaker}
use Rattle.ix_verilog.proofs.HexLemmas.{hex_small, hex_more}
use Rattle.ix_vprint.proofs.put.+put_digits.Goals as goal

pub returns-then-number-lt16 : goal.returns-then-number-lt16
returns-then-number-lt16 t c =
    on_ok_weaker c.put_digit.result
    (λ e. λ n h. e ∙ ap (λ z. c.args.out.now.items ++ z) (sym (hex_small n c.args.number (c.if-number-lt16.true)))) c.put_digit.ensures

pub returns-in_ok-put_digits : goal.returns-in_ok-put_digits
returns-in_ok-put_digits t c =
    on_ok_weaker c.put_digit-else-number-lt16.result
    (λ e. λ n h. hex_more n c.args.number c.args.out.now.items c.put_digits.new.out.items c.put_digit-else-number-lt16.new.out.items (omega (arith, c.if-number-lt16.false)) h
    c.in_ok-put_digits.ensures e) c.put_digit-else-number-lt16.ensures
