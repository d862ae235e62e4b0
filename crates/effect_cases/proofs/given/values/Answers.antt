use Rattle.std.proofs.Common.{◌≡◌, ◌∙◌, ◌<◌, length-set, arith, ℕ, map, length, get_or}
use Rattle.ix_bits.specs.declared.number.Bits.{Bits}
use Rattle.ix_mean.specs.Core.{u1}
use Rattle.ix_behaviour.specs.Behaviours.{type_of_register}
use Rattle.effect_cases.proofs.Filled.{filled_more, filled}
use Rattle.effect_cases.proofs.given.values.Goals as goal

pub loop-number-preserved : goal.loop-number-preserved
loop-number-preserved c =
    let P : ℕ → Bits → Type 0 = λ r b. b.width ≡ (get_or (map type_of_register c.args.registers.now) r u1).width in
    let within : c.loop-number.number < length c.loop-number.all = omega arith in
    (length-set c.loop-number.all c.loop-number.number c.pattern.result ∙ c.loop-number.invariant.0, filled_more P c.loop-number.all c.loop-number.number c.pattern.result within c.loop-number.invariant.1 c.pattern.ensures)

pub returns : goal.returns
returns c =
    let P : ℕ → Bits → Type 0 = λ r b. b.width ≡ (get_or (map type_of_register c.args.registers.now) r u1).width in
    filled P c.loop-number.all (λ r h. c.loop-number.invariant.1 r (omega arith))
