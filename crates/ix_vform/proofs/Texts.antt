-- Words as names, numbers and literals.
use Rattle.std.proofs.Common.{◌≡◌, ℕ, ◌+◌, ◌-◌, ◌≤◌, [], ◌∷◌, ◌++◌, take, drop, Bool, true, false, refl, ap, sym, ◌∙◌, subst, arith, Option, Some, None}
use Rattle.std.specs.Prelude.{codes, IsTrue, ◌↔◌, MatchOption}
use Rattle.std.specs.List.{list_all}
use Rattle.std.specs.Fmt.{decimal}
use Rattle.std.proofs.lemmas.Bool.{and_from, true≢false}
use Rattle.std.proofs.lemmas.List.{append_cancel_left, take-append-drop}
use Rattle.ix_verilog.specs.Words.{Word, Stops, is_digit}
use Rattle.ix_verilog.specs.Lines.{IsNumber, IsLiteral}
use Rattle.ix_verilog.proofs.Fronts.{fronts}
use Rattle.ix_vline.specs.Slots.{IsHighest}
use Rattle.ix_vform.specs.Based.{IsBased}

-- ---- the number of the highest bit
pub highest_from : (w : Word) (n : ℕ) → n ≤ 127 → w ≡ decimal n → IsHighest w
highest_from w n l e =
    let m : n ≡ n + 1 - 1 = omega arith in
    (n + 1, record { some = omega arith; most = omega (arith, l) }, e ∙ ap decimal m)

-- the place of a bit is the number of the highest one of a width
pub highest_answer : (w : Word) (o : Option ℕ) → MatchOption o ((n : ℕ) → n ≤ 127 → decimal n ≡ w → ⊥) (λ n. (n ≤ 127) × (decimal n ≡ w))
    → MatchOption o (IsHighest w → ⊥) (λ n. (n ≤ 127) × (w ≡ decimal n))
highest_answer w None h = λ t. h (t.0 - 1) (omega (arith, t.1.most)) (sym t.2)
highest_answer w (Some n) h = (h.0, sym h.1)

-- ---- literals
digits_all : (w : Word) → IsNumber w → list_all is_digit w ≡ true
digits_all [] h = absurd h
digits_all (b ∷ w) h = and_from (is_digit b) (list_all is_digit w) h.0 h.1

-- the width of a literal is its longest front of digits
record HasParts (w : Word) (n : ℕ) (l : IsLiteral w) : Type 0 where
  pub width : take n w ≡ l.width
  pub rest : drop n w ≡ codes "'h" ++ l.digits

parts : (w : Word) (n : ℕ) (l : IsLiteral w) → list_all is_digit (take n w) ≡ true → Stops is_digit (drop n w) → HasParts w n l
parts w n l a s =
    let e : take n w ++ drop n w ≡ l.width ++ (codes "'h" ++ l.digits) = take-append-drop n w ∙ l.is in
    let f : take n w ≡ l.width = fronts is_digit (take n w) (drop n w) l.width (codes "'h" ++ l.digits) a s (digits_all l.width l.wide) refl e in
    record { width = f; rest = append_cancel_left (take n w) (drop n w) (codes "'h" ++ l.digits) (e ∙ ap (λ z. z ++ (codes "'h" ++ l.digits)) (sym f)) }

pub literal_from : (w : Word) (n : ℕ) → IsNumber (take n w) → IsBased (drop n w) → IsLiteral w
literal_from w n a b = record {
  width = take n w;
  digits = b.digits;
  wide = a;
  are = b.are;
  is = sym (take-append-drop n w) ∙ ap (λ z. take n w ++ z) b.is;
}

pub literal_based : (w : Word) (n : ℕ) → list_all is_digit (take n w) ≡ true → Stops is_digit (drop n w) → IsLiteral w → IsBased (drop n w)
literal_based w n a s l = record { digits = l.digits; is = (parts w n l a s).rest; are = l.are }

pub literal_number : (w : Word) (n : ℕ) → list_all is_digit (take n w) ≡ true → Stops is_digit (drop n w) → IsLiteral w → IsNumber (take n w)
literal_number w n a s l = subst IsNumber (sym (parts w n l a s).width) l.wide

pub literal_iff : (w : Word) (n : ℕ) (front back : Word) (a b : Bool) → front ≡ take n w → back ≡ drop n w → list_all is_digit (take n w) ≡ true → Stops is_digit (drop n w) → IsTrue a ↔ IsNumber front → IsTrue b ↔ IsBased back
    → a ≡ true → IsTrue b ↔ IsLiteral w
literal_iff w n front back a b e f i s h k t = (
  (λ u. literal_from w n (subst IsNumber e (h.0 t)) (subst IsBased f (k.0 u))),
  λ l. k.1 (subst IsBased (sym f) (literal_based w n i s l)),
)

pub no_literal : (w : Word) (n : ℕ) (front : Word) (a : Bool) → front ≡ take n w → list_all is_digit (take n w) ≡ true → Stops is_digit (drop n w) → IsTrue a ↔ IsNumber front → a ≡ false → IsTrue false ↔ IsLiteral w
no_literal w n front a e i s h t = (
  (λ u. absurd (true≢false (sym u))),
  λ l. absurd (true≢false (sym (h.1 (subst IsNumber (sym e) (literal_number w n i s l))) ∙ t)),
)
