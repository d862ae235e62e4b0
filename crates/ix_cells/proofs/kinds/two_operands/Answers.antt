use Rattle.std.proofs.Common.{refl, sym, ap, ◌∙◌}
use Rattle.ix_bits.specs.declared.operator.BinOp.TheVariants as binary
use Rattle.ix_bits.specs.ResultTypes.{binary_width}
use Rattle.ix_cells.proofs.Forms.{if_ok}
use Rattle.ix_cells.proofs.Dispatch.{at_op}
use Rattle.ix_cells.proofs.kinds.two_operands.Goals as goal

pub returns-in-Add : goal.returns-in-Add
returns-in-Add c =
    if_ok c.added.result _ _ (λ r p. at_op c.args.a c.args.b c.args.op binary.Add _ c.args.width c.in-Add.is refl p) c.added.ensures

pub returns-in-Sub : goal.returns-in-Sub
returns-in-Sub c =
    if_ok c.subtracted.result _ _ (λ r p. at_op c.args.a c.args.b c.args.op binary.Sub _ c.args.width c.in-Sub.is refl p) c.subtracted.ensures

pub returns-in-Mul : goal.returns-in-Mul
returns-in-Mul c =
    if_ok c.multiplied.result _ _ (λ r p. at_op c.args.a c.args.b c.args.op binary.Mul _ c.args.width c.in-Mul.is refl p) c.multiplied.ensures

pub returns-in-And : goal.returns-in-And
returns-in-And c =
    if_ok c.both_bits.result _ _ (λ r p. at_op c.args.a c.args.b c.args.op binary.And _ c.args.width c.in-And.is refl p) c.both_bits.ensures

pub returns-in-Or : goal.returns-in-Or
returns-in-Or c =
    if_ok c.either_bits.result _ _ (λ r p. at_op c.args.a c.args.b c.args.op binary.Or _ c.args.width c.in-Or.is refl p) c.either_bits.ensures

pub returns-in-Xor : goal.returns-in-Xor
returns-in-Xor c =
    if_ok c.differing_bits.result _ _ (λ r p. at_op c.args.a c.args.b c.args.op binary.Xor _ c.args.width c.in-Xor.is refl p) c.differing_bits.ensures

pub returns-in-Shl : goal.returns-in-Shl
returns-in-Shl c =
    if_ok c.shifted_up.result _ _ (λ r p. at_op c.args.a c.args.b c.args.op binary.Shl _ c.args.width c.in-Shl.is (sym (c.requires.exact ∙ ap (λ o. binary_width o c.args.a.ty c.args.b.ty) c.in-Shl.is)) p) c.shifted_up.ensures

pub returns-in-Shr : goal.returns-in-Shr
returns-in-Shr c =
    if_ok c.shifted_down.result _ _ (λ r p. at_op c.args.a c.args.b c.args.op binary.Shr _ c.args.width c.in-Shr.is (sym (c.requires.exact ∙ ap (λ o. binary_width o c.args.a.ty c.args.b.ty) c.in-Shr.is)) p) c.shifted_down.ensures

pub returns-in-Eq : goal.returns-in-Eq
returns-in-Eq c =
    if_ok c.same.result _ _ (λ r p. at_op c.args.a c.args.b c.args.op binary.Eq _ c.args.width c.in-Eq.is (sym (c.requires.exact ∙ ap (λ o. binary_width o c.args.a.ty c.args.b.ty) c.in-Eq.is)) p) c.same.ensures

pub returns-in-Ne : goal.returns-in-Ne
returns-in-Ne c =
    if_ok c.different.result _ _ (λ r p. at_op c.args.a c.args.b c.args.op binary.Ne _ c.args.width c.in-Ne.is (sym (c.requires.exact ∙ ap (λ o. binary_width o c.args.a.ty c.args.b.ty) c.in-Ne.is)) p) c.different.ensures

pub returns-in-Lt : goal.returns-in-Lt
returns-in-Lt c =
    if_ok c.less.result _ _ (λ r p. at_op c.args.a c.args.b c.args.op binary.Lt _ c.args.width c.in-Lt.is (sym (c.requires.exact ∙ ap (λ o. binary_width o c.args.a.ty c.args.b.ty) c.in-Lt.is)) p) c.less.ensures

pub returns-in-Le : goal.returns-in-Le
returns-in-Le c =
    if_ok c.at_most.result _ _ (λ r p. at_op c.args.a c.args.b c.args.op binary.Le _ c.args.width c.in-Le.is (sym (c.requires.exact ∙ ap (λ o. binary_width o c.args.a.ty c.args.b.ty) c.in-Le.is)) p) c.at_most.ensures

pub returns-in-Gt : goal.returns-in-Gt
returns-in-Gt c =
    if_ok c.greater.result _ _ (λ r p. at_op c.args.a c.args.b c.args.op binary.Gt _ c.args.width c.in-Gt.is (sym (c.requires.exact ∙ ap (λ o. binary_width o c.args.a.ty c.args.b.ty) c.in-Gt.is)) p) c.greater.ensures

pub returns-in-Ge : goal.returns-in-Ge
returns-in-Ge c =
    if_ok c.at_least.result _ _ (λ r p. at_op c.args.a c.args.b c.args.op binary.Ge _ c.args.width c.in-Ge.is (sym (c.requires.exact ∙ ap (λ o. binary_width o c.args.a.ty c.args.b.ty) c.in-Ge.is)) p) c.at_least.ensures

pub returns-in-Land : goal.returns-in-Land
returns-in-Land c =
    if_ok c.both_true.result _ _ (λ r p. at_op c.args.a c.args.b c.args.op binary.Land _ c.args.width c.in-Land.is (sym (c.requires.exact ∙ ap (λ o. binary_width o c.args.a.ty c.args.b.ty) c.in-Land.is)) p) c.both_true.ensures

pub returns-in-Lor : goal.returns-in-Lor
returns-in-Lor c =
    if_ok c.one_true.result _ _ (λ r p. at_op c.args.a c.args.b c.args.op binary.Lor _ c.args.width c.in-Lor.is (sym (c.requires.exact ∙ ap (λ o. binary_width o c.args.a.ty c.args.b.ty) c.in-Lor.is)) p) c.one_true.ensures

pub returns-in-Concat : goal.returns-in-Concat
returns-in-Concat c =
    if_ok c.concatenated.result _ _ (λ r p. at_op c.args.a c.args.b c.args.op binary.Concat _ c.args.width c.in-Concat.is (sym (c.requires.exact ∙ ap (λ o. binary_width o c.args.a.ty c.args.b.ty) c.in-Concat.is)) p) c.concatenated.ensures
