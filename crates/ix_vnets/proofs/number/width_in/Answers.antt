use Rattle.std.proofs.Common.{arith}
use Rattle.ix_verilog.proofs.Decimals.{decimal_same}
use Rattle.ix_vnets.proofs.number.width_in.Goals as goal
use Rattle.ix_vnets.proofs.number.width_in.Goals.{then-number-lt1-via-then-number-lt1, then-number-lt1-via-else-number-lt1+then-number-gt128}

pub returns-then-number-lt1 : goal.returns-then-number-lt1
returns-then-number-lt1 c = λ n h e.
    let s = decimal_same n c.in_ok-number.number c.args.word.now (omega (arith, h.most)) (omega arith) e c.in_ok-number.ensures in
    elim c.then-number-lt1.branch [
      | then-number-lt1-via-then-number-lt1 w ↦ omega (arith, s, h.some, w.if-number-lt1)
      | then-number-lt1-via-else-number-lt1+then-number-gt128 w ↦ omega (arith, s, h.most, w.if-number-gt128)
    ]
