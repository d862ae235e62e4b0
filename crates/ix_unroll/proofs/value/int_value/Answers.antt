use Rattle.std.proofs.Common.{ap, ◌∙◌, true, refl}
use Rattle.std.specs.Int.{cast_unsigned, w32}
use Rattle.std.proofs.lemmas.Int.{to_z-of_z}
use Rattle.ix_bits.specs.Types.{number_of}
use Rattle.ix_bits.specs.NearTypes.{int_type}
use Rattle.ix_bits.proofs.Same.{ty_is}
use Rattle.ix_unroll.proofs.Typed.{valued_same, int_is}
use Rattle.ix_unroll.proofs.value.int_value.Goals as goal

pub returns : goal.returns
returns c =
    let v = c.args.value in
    valued_same _ int_type _ v (ty_is _ int_type refl refl)
    (ap (number_of true 32) (c.from.ensures ∙ c.cast_unsigned.ensures ∙ ap (cast_unsigned w32) (to_z-of_z w32 v c.ranges.value)) ∙ int_is v c.ranges.value)
