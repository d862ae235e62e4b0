-- Literals and their parts.
use Rattle.std.proofs.Common.{◌≡◌, ℕ, ◌<◌, ◌≤◌, ◌^◌, [], ◌∷◌, ◌++◌, take, drop, Bool, true, false, refl, ap, sym, ◌∙◌, subst, arith}
use Rattle.std.specs.Prelude.{codes, decimal, IsTrue, ◌↔◌}
use Rattle.std.specs.List.{list_all}
use Rattle.std.proofs.lemmas.Bool.{and_from, false≢true}
use Rattle.std.proofs.lemmas.List.{append_cancel_left, take-append-drop}
use Rattle.std.proofs.Math.Nat.{pow-le-pow_right}
use Rattle.ix_bits.specs.declared.number.Bits.{Bits}
use Rattle.ix_net.specs.Valid.{IsWidth}
use Rattle.ix_verilog.specs.Words.{Word, Stops, is_digit}
use Rattle.ix_verilog.specs.Lines.{IsNumber, hex}
use Rattle.ix_verilog.proofs.Digits.{decimal_is_number}
use Rattle.ix_verilog.proofs.Fronts.{fronts}
use Rattle.ix_vnets.specs.Numbers.{literal_word}
use Rattle.ix_verilog.proofs.Decimals.{decimal_same}
use Rattle.ix_vnets.proofs.Hexes.{hex_same}

digits_all : (w : Word) → IsNumber w → list_all is_digit w ≡ true
digits_all [] h = absurd h
digits_all (b ∷ w) h = and_from (is_digit b) (list_all is_digit w) h.0 h.1

-- where the digits of the width end
record HasParts (d : Bits) (front rest : Word) : Type 0 where
  pub width : decimal d.width ≡ front
  pub number : codes "'h" ++ hex d.raw ≡ rest

parts : (d : Bits) (word : Word) (n : ℕ) (front rest : Word) → front ≡ take n word → rest ≡ drop n word → list_all is_digit (take n word) ≡ true → Stops is_digit (drop n word) → literal_word d ≡ word
    → HasParts d front rest
parts d word n front rest f g a s e =
    let w = decimal_is_number d.width (omega (arith, d.most_width)) in
    let h : take n word ++ drop n word ≡ decimal d.width ++ (codes "'h" ++ hex d.raw) = take-append-drop n word ∙ sym e in
    let k : take n word ≡ decimal d.width = fronts is_digit (take n word) (drop n word) (decimal d.width) (codes "'h" ++ hex d.raw) a s (digits_all (decimal d.width) w) refl h in
    let r : drop n word ≡ codes "'h" ++ hex d.raw = append_cancel_left (take n word) (drop n word) (codes "'h" ++ hex d.raw) (h ∙ ap (λ z. z ++ (codes "'h" ++ hex d.raw)) (sym k)) in
    record { width = sym k ∙ sym f; number = sym r ∙ sym g }

raw_small : (d : Bits) → d.raw < 2 ^ 128
raw_small d =
    let two : 0 < 2 = omega arith in
    let p : 2 ^ d.width ≤ 2 ^ 128 = pow-le-pow_right {n = 2} two d.most_width in
    omega (arith, p, d.in_width)

module _ (word : Word) (n : ℕ) (front rest : Word) (f : front ≡ take n word) (g : rest ≡ drop n word) (a : list_all is_digit (take n word) ≡ true) (s : Stops is_digit (drop n word)) where
  pub no_width : ((w : ℕ) → IsWidth w → decimal w ≡ front → ⊥) → (d : Bits) → literal_word d ≡ word → ⊥
  no_width never d e = never d.width (record { some = d.some_width; most = d.most_width }) (parts d word n front rest f g a s e).width

  pub no_raw : ((x : ℕ) → x < 2 ^ 128 → codes "'h" ++ hex x ≡ rest → ⊥) → (d : Bits) → literal_word d ≡ word → ⊥
  no_raw never d e = never d.raw (raw_small d) (parts d word n front rest f g a s e).number

  pub too_large : (w raw : ℕ) (b : Bool) → IsWidth w → decimal w ≡ front → raw < 2 ^ 128 → codes "'h" ++ hex raw ≡ rest → IsTrue b ↔ (raw < 2 ^ w) → b ≡ false → (d : Bits) → literal_word d ≡ word → ⊥
  too_large w raw b i k l m iff t d e =
      let p = parts d word n front rest f g a s e in
      let same : d.width ≡ w = decimal_same d.width w front (omega (arith, d.most_width)) (omega (arith, i.most)) p.width k in
      let h : hex d.raw ≡ hex raw = append_cancel_left (codes "'h") (hex d.raw) (hex raw) (p.number ∙ sym m) in
      let r : d.raw ≡ raw = hex_same 31 d.raw raw (omega (arith, raw_small d)) (omega (arith, l)) h in
      let u : raw < 2 ^ w = subst (λ z. z < 2 ^ w) r (subst (λ z. d.raw < 2 ^ z) same d.in_width) in
      false≢true (sym t ∙ iff.1 u)
