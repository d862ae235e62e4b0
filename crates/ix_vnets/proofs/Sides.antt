-- Right sides and the operations that they are.
use Rattle.std.proofs.Common.{◌≡◌, ℕ, ◌≤◌, ap, sym, ◌∙◌, subst, refl}
use Rattle.std.specs.Prelude.{decimal}
use Rattle.ix_bits.specs.declared.number.Bits.{Bits}
use Rattle.ix_net.specs.declared.netlist.Form.{Form}
use Rattle.ix_net.specs.declared.netlist.Form.TheVariants.{Hex, Range}
use Rattle.ix_verilog.specs.declared.right.Sign.{Sign}
use Rattle.ix_verilog.specs.declared.right.Sign.TheVariants.{Plus, Minus, Times, And, Or, Xor, Equal, Less}
use Rattle.ix_verilog.specs.declared.right.RightSide.{RightSide}
use Rattle.ix_verilog.specs.declared.right.RightSide.TheVariants as side
use Rattle.ix_verilog.specs.Words.{Word}
use Rattle.ix_verilog.specs.Lines.{right_of}
use Rattle.ix_verilog.proofs.OneLine.{apart, shape_of}
use Rattle.ix_vnets.specs.Numbers.{literal_word}
use Rattle.ix_vnets.specs.Signs.{with_sign}
use Rattle.ix_vnets.specs.Forms.{IsFormOf, IsNoForm}

literal_are : (a b : Word) → side.Literal a ≡ side.Literal b → a ≡ b
literal_are a b e = cc

high_are : (a b h l i m : Word) → side.Range a h l ≡ side.Range b i m → h ≡ i
high_are a b h l i m e = cc

low_are : (a b h l i m : Word) → side.Range a h l ≡ side.Range b i m → l ≡ m
low_are a b h l i m e = cc

pub no_literal : (w : Word) → ((d : Bits) → literal_word d ≡ w → ⊥) → IsNoForm (side.Literal w)
no_literal w x (Hex d) h = x d (literal_are (literal_word d) w h.is)
no_literal w x f h = apart (shape_of (right_of f)) 0 refl (ap shape_of h.is)

pub literal_form : (d : Bits) (w : Word) → literal_word d ≡ w → IsFormOf (side.Literal w) (Hex d)
literal_form d w e = record { is = ap side.Literal e; within = tt }

pub no_range : (a h l : Word) → ((m n : ℕ) → m ≤ 127 → n ≤ 127 → decimal m ≡ h → decimal n ≡ l → ⊥) → IsNoForm (side.Range a h l)
no_range a h l x (Range b m n) k = x m n k.within.0 k.within.1 (high_are b a (decimal m) (decimal n) h l k.is) (low_are b a (decimal m) (decimal n) h l k.is)
no_range a h l x f k = apart (shape_of (right_of f)) 13 refl (ap shape_of k.is)

pub range_form : (b a h l : Word) (m n : ℕ) → b ≡ a → m ≤ 127 → n ≤ 127 → decimal m ≡ h → decimal n ≡ l → IsFormOf (side.Range a h l) (Range b m n)
range_form b a h l m n e i j p q = record {
  is = ap (λ z. side.Range z (decimal m) (decimal n)) e ∙ ap (λ z. side.Range a z (decimal n)) p ∙ ap (λ z. side.Range a h z) q;
  within = (i, j);
}

both_of : (s : Sign) (x y : Word) → IsFormOf (side.Both s x y) (with_sign s x y)
both_of Plus x y = record { is = refl; within = tt }
both_of Minus x y = record { is = refl; within = tt }
both_of Times x y = record { is = refl; within = tt }
both_of And x y = record { is = refl; within = tt }
both_of Or x y = record { is = refl; within = tt }
both_of Xor x y = record { is = refl; within = tt }
both_of Equal x y = record { is = refl; within = tt }
both_of Less x y = record { is = refl; within = tt }

pub both_form : (s : Sign) (x y a b : Word) (f : Form) → x ≡ a → y ≡ b → f ≡ with_sign s x y → IsFormOf (side.Both s a b) f
both_form s x y a b f p q e =
    let h : IsFormOf (side.Both s x y) f = subst (IsFormOf (side.Both s x y)) (sym e) (both_of s x y) in
    record { is = h.is ∙ ap (λ z. side.Both s z y) p ∙ ap (λ z. side.Both s a z) q; within = h.within }
