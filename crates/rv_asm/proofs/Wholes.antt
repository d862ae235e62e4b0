-- Sizes that count as 2^40.
use Rattle.std.proofs.Common.{◌≡◌, ◌∙◌, sym, ap, refl, ℕ, zero, suc, ◌+◌, ◌-◌, ◌*◌, ◌^◌, ◌%◌, ◌<◌, ◌≤◌, ⊎_elim, List, [], ◌∷◌, Bool, true, false, Option, Some, None, ◌==◌, arith, lit<}
use Rattle.std.specs.Prelude.{min, nat_le, nat_lt, if◌then◌else◌, option_map}
use Rattle.std.specs.Option.{option_and_then}
use Rattle.std.proofs.lemmas.Bool.{cases_lt}
use Rattle.std.proofs.lemmas.Bool.Decides.{nat_tests}
use Rattle.std.proofs.Math.Nat.{pow-le-pow_right}
use Rattle.rv_isa.specs.declared.table.Format.{Format}
use Rattle.rv_isa.specs.declared.table.Format.TheVariants as T
use Rattle.rv_asm_text.specs.Numbers.{most_size, digit_of, digits_size}
use Rattle.rv_asm_text.specs.declared.verdict.Verdict.TheVariants as V
use Rattle.rv_asm_text.specs.Filling.{pattern_in}
use Rattle.rv_asm.specs.Forms.{is_in_reach, word_verdict}
use Rattle.rv_asm.specs.Laws.{digits_whole, capped, sized, SizeLaw}

-- ---- digits
at_least : (base f : ℕ) → 1 ≤ base → f ≤ base * f
at_least zero f h = absurd (omega (arith, h))
at_least (suc base) f h = grind arith

small_size : (f : ℕ) → f < most_size + 1 → capped f ≡ f
small_size f h = omega arith

great_size : (f : ℕ) → most_size + 1 ≤ f → capped f ≡ most_size
great_size f h = omega arith

cap_step : (base f digit : ℕ) → 1 ≤ base → capped (base * capped f + digit) ≡ capped (base * f + digit)
cap_step base f digit h = ⊎_elim (λ (l : f < most_size + 1). ap (λ (k : ℕ). capped (base * k + digit)) (small_size f l)) (λ (l : most_size + 1 ≤ f). great l) (cases_lt f (most_size + 1)) where
  great : most_size + 1 ≤ f → capped (base * capped f + digit) ≡ capped (base * f + digit)
  great l =
      let a = at_least base f h in
      let b = at_least base most_size h in
      let left : capped (base * most_size + digit) ≡ most_size = omega (arith, b) in
      let right : capped (base * f + digit) ≡ most_size = omega (arith, a, l) in
      ap (λ (k : ℕ). capped (base * k + digit)) (great_size f l) ∙ left ∙ sym right

digits_capped : (base front : ℕ) (word : List ℕ) → 1 ≤ base → digits_size base (capped front) word ≡ option_map capped (digits_whole base front word)
digits_capped base front [] h = refl
digits_capped base front (b ∷ rest) h = by_digit (λ k. digits_capped base k rest h) (digit_of base b) where
  by_digit : ((k : ℕ) → digits_size base (capped k) rest ≡ option_map capped (digits_whole base k rest)) → (o : Option ℕ) → option_and_then (λ digit. digits_size base (min (base * capped front + digit) most_size) rest) o ≡ option_map capped (option_and_then (λ digit. digits_whole base (base * front + digit) rest) o)
  by_digit ih None = refl
  by_digit ih (Some digit) = ap (λ (k : ℕ). digits_size base k rest) (cap_step base front digit h) ∙ ih (base * front + digit)

pub size_law : SizeLaw
size_law base [] h = refl
size_law base (b ∷ rest) h = digits_capped base 0 (b ∷ rest) h

-- ---- ranges
not_le : (s k : ℕ) → k < s → nat_le s k ≡ false
not_le s k h = grind (arith, nat_tests)

not_lt : (s k : ℕ) → k ≤ s → nat_lt s k ≡ false
not_lt s k h = grind (arith, nat_tests)

signed_out : (b : Bool) (s k : ℕ) → k < s → (if b then nat_le s k else nat_lt s k) ≡ false
signed_out true s k h = not_le s k h
signed_out false s k h = not_lt s k (omega (arith, h))

unsigned_out : (b : Bool) (s k : ℕ) → k < s → (if b then false else nat_lt s k) ≡ false
unsigned_out true s k h = refl
unsigned_out false s k h = not_lt s k (omega (arith, h))

never : (p q : Bool) → q ≡ false → (if p then q else false) ≡ false
never true q h = h
never false q h = refl

-- a number past 2^40 is in reach as 2^40 is
out : (f : Format) (b : Bool) (s : ℕ) → most_size ≤ s → is_in_reach f (sized b s) ≡ is_in_reach f (sized b most_size)
out T.Register b s h = refl
out T.Immediate b s h = signed_out b s 2048 (omega (arith, h)) ∙ sym (signed_out b most_size 2048 (omega arith))
out T.Shift b s h = unsigned_out b s 32 (omega (arith, h)) ∙ sym (unsigned_out b most_size 32 (omega arith))
out T.Store b s h = signed_out b s 2048 (omega (arith, h)) ∙ sym (signed_out b most_size 2048 (omega arith))
out T.Branch b s h =
    never (s % 2 == 0) (if b then nat_le s 4096 else nat_lt s 4096) (signed_out b s 4096 (omega (arith, h)))
    ∙ sym (never (most_size % 2 == 0) (if b then nat_le most_size 4096 else nat_lt most_size 4096) (signed_out b most_size 4096 (omega arith)))
out T.Upper b s h = unsigned_out b s 1048576 (omega (arith, h)) ∙ sym (unsigned_out b most_size 1048576 (omega arith))
out T.Jump b s h =
    never (s % 2 == 0) (if b then nat_le s 1048576 else nat_lt s 1048576) (signed_out b s 1048576 (omega (arith, h)))
    ∙ sym (never (most_size % 2 == 0) (if b then nat_le most_size 1048576 else nat_lt most_size 1048576) (signed_out b most_size 1048576 (omega arith)))
out T.Fixed b s h = refl

-- what does not tell sizes from 2^40 on apart does not tell a capped size from the whole one
alike : {X : Type 0} (g : ℕ → X) → ((s : ℕ) → most_size ≤ s → g s ≡ g most_size) → (s : ℕ) → g (capped s) ≡ g s
alike g h s = ⊎_elim (λ (l : s < most_size + 1). ap g (small_size s l)) (λ (l : most_size + 1 ≤ s). ap g (great_size s l) ∙ sym (h s (omega (arith, l)))) (cases_lt s (most_size + 1))

pub base_reach : (f : Format) (b : Bool) (s : ℕ) → is_in_reach f (sized b (capped s)) ≡ is_in_reach f (sized b s)
base_reach f b s = alike (λ (k : ℕ). is_in_reach f (sized b k)) (out f b) s

chosen : {X : Type 0} (p : Bool) (x y : X) → p ≡ false → (if p then x else y) ≡ y
chosen true x y h = absurd cc
chosen false x y h = refl

word_out : (b : Bool) (s : ℕ) → most_size ≤ s → word_verdict (sized b s) ≡ V.Reach
unfolding word_verdict
word_out true s h = chosen (nat_le s (2 ^ 31)) (V.Word ((2 ^ 32 - s) % 2 ^ 32)) V.Reach (not_le s (2 ^ 31) (omega (arith, h)))
word_out false s h = chosen (nat_lt s (2 ^ 32)) (V.Word s) V.Reach (not_lt s (2 ^ 32) (omega (arith, h)))

pub word_reach : (b : Bool) (s : ℕ) → word_verdict (sized b (capped s)) ≡ word_verdict (sized b s)
word_reach b s = alike (λ (k : ℕ). word_verdict (sized b k)) (λ k h. word_out b k h ∙ sym (word_out b most_size (omega arith))) s

field_out : (width : ℕ) (b : Bool) (s : ℕ) → width ≤ 32 → most_size ≤ s → pattern_in width (sized b s) ≡ None
field_out width true s w h =
    let l : width - 1 ≤ 32 = omega (arith, w) in
    let p : 2 ^ (width - 1) ≤ 2 ^ 32 = pow-le-pow_right (lit< tt) l in
    chosen (nat_le s (2 ^ (width - 1))) (Some ((2 ^ width - s) % 2 ^ width)) None (not_le s (2 ^ (width - 1)) (omega (arith, h, p)))
field_out width false s w h =
    let p : 2 ^ width ≤ 2 ^ 32 = pow-le-pow_right (lit< tt) w in
    chosen (nat_lt s (2 ^ width)) (Some s) None (not_lt s (2 ^ width) (omega (arith, h, p)))

pub field_reach : (width : ℕ) (b : Bool) (s : ℕ) → width ≤ 32 → pattern_in width (sized b (capped s)) ≡ pattern_in width (sized b s)
field_reach width b s w = alike (λ (k : ℕ). pattern_in width (sized b k)) (λ k h. field_out width b k w h ∙ sym (field_out width b most_size w (omega arith))) s
