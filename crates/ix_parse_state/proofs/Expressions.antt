-- Literals of one type and one value.
use Rattle.std.proofs.Common.{◌≡◌, ◌∙◌, ap}
use Rattle.ix_bits.specs.declared.number.Ty.{Ty}
use Rattle.ix_bits.specs.declared.number.Bits.{Bits}
use Rattle.ix_tree.specs.declared.token.Span.{Span}
use Rattle.ix_tree.specs.Trees.{e_literal}
use Rattle.ix_bits.proofs.Same.{ty_is, bits_are}

pub literal_is : (s : Span) (x y : Ty) (a b : Bits) → x.signed ≡ y.signed → x.width ≡ y.width → a.raw ≡ b.raw → a.width ≡ b.width → e_literal s x a ≡ e_literal s y b
literal_is s x y a b e f g h = ap (λ (z : Ty). e_literal s z a) (ty_is x y e f) ∙ ap (λ (z : Bits). e_literal s y z) (bits_are a b g h)
