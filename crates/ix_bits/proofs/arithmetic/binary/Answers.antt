use Rattle.std.proofs.Common.{◌≡◌, ◌<◌, ◌+◌, ◌^◌, ◌∙◌, ap, refl, arith, max, true, not, eqb, ◌&&◌}
use Rattle.ix_bits.specs.declared.operator.BinOp.TheVariants.{Add, Sub, Mul}
use Rattle.ix_bits.specs.ResultTypes.{common_width}
use Rattle.ix_bits.specs.Types.{number_of}
use Rattle.ix_bits.specs.Operators.{value_of}
use Rattle.ix_bits.proofs.Remainders.{rem_sum, rem_difference, rem_product}
use Rattle.ix_bits.proofs.InRange.{binary_holds}
use Rattle.ix_bits.proofs.Results.{within_value, masked}
use Rattle.ix_bits.proofs.Shifts.{shl_low}
use Rattle.ix_bits.proofs.Operations.{and_cut, or_cut, xor_cut, shifted, distance, truth_of, true_where, concatenated}
use Rattle.std.proofs.lemmas.Nat.{pow_pos}
use Rattle.std.proofs.lemmas.Bool.{ne_eqb, eq-eqb}
use Rattle.ix_bits.proofs.arithmetic.binary.Goals as goal
use Rattle.ix_bits.proofs.arithmetic.binary.Goals.{then-a-ne0, else-a-ne0}

pub returns-in-Add-clause-number : goal.returns-in-Add-clause-number
returns-in-Add-clause-number c =
    let g : c.args.a.raw < 2 ^ c.args.ta.width = rw (← c.requires.left) c.args.a.in_width in
    let h : c.args.b.raw < 2 ^ c.args.tb.width = rw (← c.requires.right) c.args.b.in_width in
    let x = value_of c.args.ta c.args.a.raw in
    let y = value_of c.args.tb c.args.b.raw in
    let p = within_value c.args.ta.signed c.args.ta.width c.args.a.raw c.args.ta.some_width g in
    let q = within_value c.args.tb.signed c.args.tb.width c.args.b.raw c.args.tb.some_width h in
    let narrow = rw c.in-Add.is at c.requires.typed.narrow in
    rw (c.in-Add.is, c.truncated.ensures.width, c.width_of_both.ensures)
    (masked _ (common_width c.args.ta c.args.tb + 1) c.truncated.result.raw _ (omega arith) narrow (binary_holds Add c.args.ta c.args.tb x y p q)
    (c.truncated.ensures.value ∙ rw (c.width_of_both.ensures, c.extended.ensures, c.extended-in-Add.ensures, rem_sum (2 ^ 128) x y (pow_pos 128)) refl))

pub returns-in-Sub-clause-number : goal.returns-in-Sub-clause-number
returns-in-Sub-clause-number c =
    let g : c.args.a.raw < 2 ^ c.args.ta.width = rw (← c.requires.left) c.args.a.in_width in
    let h : c.args.b.raw < 2 ^ c.args.tb.width = rw (← c.requires.right) c.args.b.in_width in
    let x = value_of c.args.ta c.args.a.raw in
    let y = value_of c.args.tb c.args.b.raw in
    let p = within_value c.args.ta.signed c.args.ta.width c.args.a.raw c.args.ta.some_width g in
    let q = within_value c.args.tb.signed c.args.tb.width c.args.b.raw c.args.tb.some_width h in
    let narrow = rw c.in-Sub.is at c.requires.typed.narrow in
    rw (c.in-Sub.is, c.truncated-in-Sub.ensures.width, c.width_of_both-in-Sub.ensures)
    (masked true (common_width c.args.ta c.args.tb + 1) c.truncated-in-Sub.result.raw _ (omega arith) narrow (binary_holds Sub c.args.ta c.args.tb x y p q)
    (c.truncated-in-Sub.ensures.value ∙ rw (c.width_of_both-in-Sub.ensures, c.extended-in-Sub.ensures, c.extended-in-Sub-2.ensures, rem_difference (2 ^ 128) x y (pow_pos 128)) refl))

pub returns-in-Mul-clause-number : goal.returns-in-Mul-clause-number
returns-in-Mul-clause-number c =
    let g : c.args.a.raw < 2 ^ c.args.ta.width = rw (← c.requires.left) c.args.a.in_width in
    let h : c.args.b.raw < 2 ^ c.args.tb.width = rw (← c.requires.right) c.args.b.in_width in
    let x = value_of c.args.ta c.args.a.raw in
    let y = value_of c.args.tb c.args.b.raw in
    let p = within_value c.args.ta.signed c.args.ta.width c.args.a.raw c.args.ta.some_width g in
    let q = within_value c.args.tb.signed c.args.tb.width c.args.b.raw c.args.tb.some_width h in
    let narrow = rw c.in-Mul.is at c.requires.typed.narrow in
    rw (c.in-Mul.is, c.truncated-in-Mul.ensures.width)
    (masked _ (c.args.ta.width + c.args.tb.width) c.truncated-in-Mul.result.raw _ (omega arith) narrow (binary_holds Mul c.args.ta c.args.tb x y p q)
    (c.truncated-in-Mul.ensures.value ∙ rw (c.extended-in-Mul.ensures, c.extended-in-Mul-2.ensures, rem_product (2 ^ 128) x y (pow_pos 128)) refl))

pub returns-in-And-clause-number : goal.returns-in-And-clause-number
returns-in-And-clause-number c =
    let x = value_of c.args.ta c.args.a.raw in
    let y = value_of c.args.tb c.args.b.raw in
    let narrow = rw c.in-And.is at c.requires.typed.narrow in
    rw (c.in-And.is, c.truncated-in-And.ensures.width, c.max.ensures)
    (ap (number_of c.args.ta.signed (max c.args.ta.width c.args.tb.width))
    (c.truncated-in-And.ensures.value ∙ rw (c.max.ensures, c.extended-in-And.ensures, c.extended-in-And-2.ensures) (and_cut (max c.args.ta.width c.args.tb.width) x y narrow)))

pub returns-in-Or-clause-number : goal.returns-in-Or-clause-number
returns-in-Or-clause-number c =
    let x = value_of c.args.ta c.args.a.raw in
    let y = value_of c.args.tb c.args.b.raw in
    let narrow = rw c.in-Or.is at c.requires.typed.narrow in
    rw (c.in-Or.is, c.truncated-in-Or.ensures.width, c.max-in-Or.ensures)
    (ap (number_of c.args.ta.signed (max c.args.ta.width c.args.tb.width))
    (c.truncated-in-Or.ensures.value ∙ rw (c.max-in-Or.ensures, c.extended-in-Or.ensures, c.extended-in-Or-2.ensures) (or_cut (max c.args.ta.width c.args.tb.width) x y narrow)))

pub returns-in-Xor-clause-number : goal.returns-in-Xor-clause-number
returns-in-Xor-clause-number c =
    let x = value_of c.args.ta c.args.a.raw in
    let y = value_of c.args.tb c.args.b.raw in
    let narrow = rw c.in-Xor.is at c.requires.typed.narrow in
    rw (c.in-Xor.is, c.truncated-in-Xor.ensures.width, c.max-in-Xor.ensures)
    (ap (number_of c.args.ta.signed (max c.args.ta.width c.args.tb.width))
    (c.truncated-in-Xor.ensures.value ∙ rw (c.max-in-Xor.ensures, c.extended-in-Xor.ensures, c.extended-in-Xor-2.ensures) (xor_cut (max c.args.ta.width c.args.tb.width) x y narrow)))

pub returns-in-Shl-clause-number : goal.returns-in-Shl-clause-number
returns-in-Shl-clause-number c =
    let g : c.args.a.raw < 2 ^ c.args.ta.width = rw (← c.requires.left) c.args.a.in_width in
    let plain = rw c.in-Shl.is at c.requires.typed.unmixed in
    let by = distance c.args.tb.signed c.args.tb.width c.args.b.raw plain in
    rw (c.in-Shl.is, c.truncated-in-Shl.ensures.width, by)
    (ap (number_of c.args.ta.signed c.args.ta.width)
    (c.truncated-in-Shl.ensures.value ∙ rw c.moved_up.ensures (shl_low c.args.a.raw c.args.b.raw c.args.ta.width c.args.ta.most_width ∙ shifted c.args.ta.signed c.args.ta.width c.args.a.raw c.args.b.raw c.args.ta.some_width g)))

pub returns-in-Shr-clause-number : goal.returns-in-Shr-clause-number
returns-in-Shr-clause-number c =
    let plain = rw c.in-Shr.is at c.requires.typed.unmixed in
    let by = distance c.args.tb.signed c.args.tb.width c.args.b.raw plain in
    rw (c.in-Shr.is, c.shifted_right.ensures.width, by) c.shifted_right.ensures.number

pub returns-after-a-ne0-clause-number : goal.returns-after-a-ne0-clause-number
returns-after-a-ne0-clause-number c =
    let g : c.args.a.raw < 2 ^ c.args.ta.width = rw (← c.requires.left) c.args.a.in_width in
    let h : c.args.b.raw < 2 ^ c.args.tb.width = rw (← c.requires.right) c.args.b.in_width in
    let p = true_where c.args.ta.signed c.args.ta.width c.args.a.raw c.args.ta.some_width g in
    let q = true_where c.args.tb.signed c.args.tb.width c.args.b.raw c.args.tb.some_width h in
    let t : c.if-a-ne0.truth ≡ (not (eqb c.args.a.raw 0) && not (eqb c.args.b.raw 0)) =
    elim c.if-a-ne0.branch [ then-a-ne0 w ↦ rw (ne_eqb c.args.a.raw 0 w.if-a-ne0.true, w.truth-is) refl | else-a-ne0 w ↦ rw (w.truth-is, eq-eqb c.args.a.raw 0 w.if-a-ne0.false) refl ] in
    rw (c.in-Land.is, ← p, ← q) (truth_of c.if-a-ne0.truth _ c.truth-in-Land.result.raw c.truth-in-Land.ensures.value t)

pub returns-in-Concat-clause-number : goal.returns-in-Concat-clause-number
returns-in-Concat-clause-number c =
    let g : c.args.a.raw < 2 ^ c.args.ta.width = rw (← c.requires.left) c.args.a.in_width in
    let h : c.args.b.raw < 2 ^ c.args.tb.width = rw (← c.requires.right) c.args.b.in_width in
    rw c.in-Concat.is (concatenated c.args.ta c.args.tb c.args.a.raw c.args.b.raw c.joined.result.raw g h (c.joined.ensures.value ∙ rw c.requires.right refl))
