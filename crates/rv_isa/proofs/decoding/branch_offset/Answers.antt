use Rattle.std.proofs.Common.{◌+◌, ◌*◌, ◌≡◌, arith, rules, ap, ◌∙◌, FitsSigned, w32}
use Rattle.std.proofs.lemmas.Int.{to_z-of_z}
use Rattle.rv_isa.specs.Fields.{bits_of, signed}
use Rattle.rv_isa.proofs.BitLemmas.{branch_parts}
use Rattle.rv_isa.proofs.decoding.branch_offset.Goals as goal

pub sign_extended-requires-clause-fits : goal.sign_extended-requires-clause-fits
sign_extended-requires-clause-fits c =
    omega (
      arith,
      branch_parts c.bits.result c.bits-2.result c.bits-3.result c.bits-4.result
          (omega arith) (omega arith) (omega arith) (omega arith),
    )

pub returns : goal.returns
returns c =
    let fits : FitsSigned w32 c.sign_extended.result = search rules in
    let joined = branch_parts c.bits.result c.bits-2.result c.bits-3.result c.bits-4.result
    (omega arith) (omega arith) (omega arith) (omega arith)
    in
    let parts : c.bits.result * 4096 + c.bits-2.result * 2048 + c.bits-3.result * 32 + c.bits-4.result * 2
    ≡ bits_of c.args.word 31 31 * 4096 + bits_of c.args.word 7 7 * 2048 + bits_of c.args.word 30 25 * 32 + bits_of c.args.word 11 8 * 2
    = omega arith
    in
    to_z-of_z w32 c.sign_extended.result fits ∙ c.sign_extended.ensures ∙ ap (signed 13) (joined ∙ parts)
