-- Serials in five places.
use Rattle.std.proofs.Common.{◌≡◌, ◌∙◌, refl, sym, ap, ℕ, zero, suc, ◌+◌, ◌-◌, ◌<◌, List, [], ◌∷◌, ◌++◌, map, length, Option, Some, None, Bool, true, false, arith}
use Rattle.std.specs.Prelude.{replicate, ◌||◌, ◌==◌}
use Rattle.std.proofs.lemmas.Bool.Decides.{nat_tests}
use Rattle.std.proofs.Math.ListN.{set}
use Rattle.std.proofs.lemmas.Bool.Decides.{nat_tests}
use Rattle.rv_trace.specs.Trace.{has_serial}
use Rattle.rv_trace.specs.RowParts.{given, in_five, AscendFrom}

-- is the serial among these?
abbrev pub is_among : List ℕ → ℕ → Bool
is_among [] s = false
is_among (t ∷ rest) s = (t == s) || is_among rest s

none_there : (n s : ℕ) → has_serial (replicate n None) s ≡ false
none_there zero s = refl
none_there (suc n) s = none_there n s

pub among_places : (l : List ℕ) (n s : ℕ) → has_serial (map Some l ++ replicate n None) s ≡ is_among l s
among_places [] n s = none_there n s
among_places (t ∷ rest) n s = ap (λ b. (t == s) || b) (among_places rest n s)

pub in_five_has : (l : List ℕ) (s : ℕ) → has_serial (in_five l) s ≡ is_among l s
in_five_has l s = among_places l (5 - length l) s

none_given : (n : ℕ) → given (replicate n None) ≡ []
none_given zero = refl
none_given (suc n) = none_given n

given_places : (l : List ℕ) (n : ℕ) → given (map Some l ++ replicate n None) ≡ l
given_places [] n = none_given n
given_places (t ∷ rest) n = ap (λ r. t ∷ r) (given_places rest n)

pub given_in_five : (l : List ℕ) → given (in_five l) ≡ l
given_in_five l = given_places l (5 - length l)

-- one serial more takes the next place
more_places : (l : List ℕ) (s n : ℕ) → map Some (l ++ s ∷ []) ++ replicate n None ≡ set (map Some l ++ replicate (suc n) None) (length l) (Some s)
more_places [] s n = refl
more_places (t ∷ rest) s n = ap (λ r. Some t ∷ r) (more_places rest s n)

pub long_more : (l : List ℕ) (s : ℕ) → length (l ++ s ∷ []) ≡ suc (length l)
long_more [] s = refl
long_more (t ∷ rest) s = ap suc (long_more rest s)

pub in_five_more : (l : List ℕ) (s : ℕ) → length l < 5 → in_five (l ++ s ∷ []) ≡ set (in_five l) (length l) (Some s)
in_five_more l s lt =
    let one : 5 - length (l ++ s ∷ []) ≡ 5 - suc (length l) = ap (λ n. 5 - n) (long_more l s) in
    let two : suc (5 - suc (length l)) ≡ 5 - length l = omega (arith, lt) in
    ap (λ n. map Some (l ++ s ∷ []) ++ replicate n None) one
    ∙ more_places l s (5 - suc (length l))
    ∙ ap (λ n. set (map Some l ++ replicate n None) (length l) (Some s)) two

-- a serial above all of these goes behind them
behind_one : (t s : ℕ) (l : List ℕ) → AscendFrom (Some t) l → t < s → ((r : ℕ) → is_among l r ≡ true → r < s) → AscendFrom (Some t) (l ++ s ∷ [])
behind_one t s [] h lt f = (lt, tt)
behind_one t s (r ∷ rest) h lt f = (h.0, behind_one r s rest h.1 (f r (first r)) (λ q e. f q (later q e))) where
  same : (a : ℕ) → (a == a) ≡ true
  same a = grind (arith, nat_tests)

  either : (a b : Bool) → a ≡ true → (a || b) ≡ true
  either true b e = refl
  either false b e = cc

  first : (q : ℕ) → ((q == q) || is_among rest q) ≡ true
  first q = either (q == q) (is_among rest q) (same q)

  or : (a b : Bool) → b ≡ true → (a || b) ≡ true
  or true b e = refl
  or false b e = e

  later : (q : ℕ) → is_among rest q ≡ true → ((r == q) || is_among rest q) ≡ true
  later q e = or (r == q) (is_among rest q) e

pub ascend_more : (l : List ℕ) (s : ℕ) → AscendFrom None l → ((r : ℕ) → is_among l r ≡ true → r < s) → AscendFrom None (l ++ s ∷ [])
ascend_more [] s h f = tt
ascend_more (r ∷ rest) s h f = behind_one r s rest h (f r (either (r == r) (is_among rest r) (same r))) (λ q e. f q (or (r == q) (is_among rest q) e)) where
  same : (a : ℕ) → (a == a) ≡ true
  same a = grind (arith, nat_tests)

  either : (a b : Bool) → a ≡ true → (a || b) ≡ true
  either true b e = refl
  either false b e = cc

  or : (a b : Bool) → b ≡ true → (a || b) ≡ true
  or true b e = refl
  or false b e = e
