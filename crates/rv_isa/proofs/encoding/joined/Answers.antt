use Rattle.std.proofs.Common.{◌≡◌, ◌∙◌, ap, arith, refl, rules, FitsSigned, w32, of_z}
use Rattle.std.specs.Int.{cast_unsigned}
use Rattle.std.proofs.lemmas.Int.{to_z-of_z}
use Rattle.rv_isa.specs.Encoded.{placed}
use Rattle.rv_isa.proofs.encoding.joined.Goals as goal

pub returns-in-Register : goal.returns-in-Register
unfolding placed
returns-in-Register c = rw c.in-Register.is (omega arith)

pub returns-in-Immediate : goal.returns-in-Immediate
unfolding placed
returns-in-Immediate c =
    let fits : FitsSigned w32 c.args.b.imm = search rules in
    let imm : c.cast_unsigned-imm.result ≡ cast_unsigned w32 c.args.b.imm =
    c.cast_unsigned-imm.ensures ∙ ap (of_z w32) (to_z-of_z w32 c.args.b.imm fits)
    in
    rw c.in-Immediate.is (omega (arith, imm))

pub returns-in-Shift : goal.returns-in-Shift
unfolding placed
returns-in-Shift c =
    let fits : FitsSigned w32 c.args.b.imm = search rules in
    let imm : c.cast_unsigned-imm.result ≡ cast_unsigned w32 c.args.b.imm =
    c.cast_unsigned-imm.ensures ∙ ap (of_z w32) (to_z-of_z w32 c.args.b.imm fits)
    in
    rw c.in-Shift.is (omega (arith, imm))

pub returns-in-Store : goal.returns-in-Store
unfolding placed
returns-in-Store c =
    let fits : FitsSigned w32 c.args.b.imm = search rules in
    let imm : c.cast_unsigned-imm.result ≡ cast_unsigned w32 c.args.b.imm =
    c.cast_unsigned-imm.ensures ∙ ap (of_z w32) (to_z-of_z w32 c.args.b.imm fits)
    in
    rw c.in-Store.is (omega (arith, imm))

pub returns-in-Branch : goal.returns-in-Branch
unfolding placed
returns-in-Branch c =
    let fits : FitsSigned w32 c.args.b.imm = search rules in
    let imm : c.cast_unsigned-imm.result ≡ cast_unsigned w32 c.args.b.imm =
    c.cast_unsigned-imm.ensures ∙ ap (of_z w32) (to_z-of_z w32 c.args.b.imm fits)
    in
    rw c.in-Branch.is (omega (arith, imm))

pub returns-in-Upper : goal.returns-in-Upper
unfolding placed
returns-in-Upper c =
    let fits : FitsSigned w32 c.args.b.imm = search rules in
    let imm : c.cast_unsigned-imm.result ≡ cast_unsigned w32 c.args.b.imm =
    c.cast_unsigned-imm.ensures ∙ ap (of_z w32) (to_z-of_z w32 c.args.b.imm fits)
    in
    rw c.in-Upper.is (omega (arith, imm))

pub returns-in-Jump : goal.returns-in-Jump
unfolding placed
returns-in-Jump c =
    let fits : FitsSigned w32 c.args.b.imm = search rules in
    let imm : c.cast_unsigned-imm.result ≡ cast_unsigned w32 c.args.b.imm =
    c.cast_unsigned-imm.ensures ∙ ap (of_z w32) (to_z-of_z w32 c.args.b.imm fits)
    in
    rw c.in-Jump.is (omega (arith, imm))

pub returns-in-Fixed : goal.returns-in-Fixed
unfolding placed
returns-in-Fixed c = rw c.in-Fixed.is refl
