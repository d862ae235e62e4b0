use Rattle.std.proofs.Common.{arith}
use Rattle.ix_verilog.proofs.Decimals.{decimal_same}
use Rattle.ix_verilog.proofs.word.place_in.Goals as goal

pub returns-then-number-gt127 : goal.returns-then-number-gt127
returns-then-number-gt127 c = λ n h e.
    let s = decimal_same n c.in_ok-number.number c.args.word.now (omega (arith, h)) (omega arith) e c.in_ok-number.ensures in
    omega (arith, s, h, c.if-number-gt127.true)
