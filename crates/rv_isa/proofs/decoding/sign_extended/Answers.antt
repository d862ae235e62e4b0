use Rattle.std.proofs.Common.{◌*◌, ◌%◌, ◌^◌, ◌≤◌, ◌≡◌, arith}
use Rattle.std.proofs.Math.Pow.{pow_mono}
use Rattle.std.proofs.lemmas.Nat.{one_shl}
use Rattle.std.proofs.lemmas.Int.{ints}
use Rattle.rv_isa.proofs.SignLemmas.{signed_negative}
use Rattle.rv_isa.proofs.decoding.sign_extended.Goals as goal

pub overflow_sub-result : goal.overflow_sub-result
overflow_sub-result c =
    let e : 1 * 2 ^ c.args.width % 2 ^ 32 ≡ 2 ^ c.args.width = one_shl c.args.width 32 (omega arith) in
    let p : 2 ^ c.args.width ≤ 2 ^ 30 = pow_mono c.requires.most_width in
    rw e (grind (arith, ints))

pub returns-else-bits-width-eq0 : goal.returns-else-bits-width-eq0
returns-else-bits-width-eq0 c =
    signed_negative c.args.width c.args.bits c.requires.most_width c.requires.fits c.if-bits-width-eq0.false
