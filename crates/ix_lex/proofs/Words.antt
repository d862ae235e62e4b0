-- The search for a reserved word, and names as text.
use Rattle.std.proofs.Common.{◌≡◌, ℕ, zero, suc, ◌+◌, ◌<◌, ◌≤◌, List, [], ◌∷◌, length, Bool, true, false, Some, None, refl, ap, sym, ◌∙◌, ⊎_elim, arith, nat_eq}
use Rattle.std.specs.Prelude.{slice_get, nat_lt, IsUtf8}
use Rattle.std.specs.List.{list_all, position, position_or_len}
use Rattle.std.specs.Str.{IsAscii}
use Rattle.std.specs.Cmp.Lexicographic.{pointwise}
use Rattle.std.proofs.lemmas.Bool.{and_parts, cases_lt}
use Rattle.std.proofs.lemmas.Bool.Decides.{nat_tests}
use Rattle.std.proofs.lemmas.Str.{IsUtf8-from_ascii}
use Rattle.std.proofs.lemmas.Str.Ascii.{IsAscii-nil, IsAscii-cons}
use Rattle.ix_tree.specs.Lexing.{same_bytes, is_name_byte}

pub same_is : (a b : List ℕ) → pointwise nat_eq a b ≡ same_bytes a b
same_is [] [] = refl
same_is [] (c ∷ b) = refl
same_is (c ∷ a) [] = refl
same_is (c ∷ a) (d ∷ b) = rw (same_is a b) refl

length_found : (p : List ℕ → Bool) (xs : List (List ℕ)) (i : ℕ) (x : List ℕ) → slice_get xs i ≡ Some x → p x ≡ true → ((k : ℕ) (w : List ℕ) → k < i → slice_get xs k ≡ Some w → p w ≡ false) → position_or_len p xs ≡ i
length_found p [] i x e t h = cc
length_found p (y ∷ xs) zero x e t h =
    let k : y ≡ x = cc in
    let f : p y ≡ true = rw k t in
    rw f refl
length_found p (y ∷ xs) (suc i) x e t h =
    let f : p y ≡ false = h 0 y (omega arith) refl in
    let g = length_found p xs i x e t (λ k w l s. h (suc k) w (omega arith) s) in
    rw (f, g) (omega arith)

length_none : (p : List ℕ → Bool) (xs : List (List ℕ)) → ((k : ℕ) (w : List ℕ) → slice_get xs k ≡ Some w → p w ≡ false) → position_or_len p xs ≡ length xs
length_none p [] h = refl
length_none p (y ∷ xs) h =
    let f : p y ≡ false = h 0 y refl in
    let g = length_none p xs (λ k w s. h (suc k) w s) in
    rw (f, g) (omega arith)

below : (xs : List (List ℕ)) (m : ℕ) (s : List ℕ) → slice_get xs m ≡ Some s → m < length xs
below [] m s e = cc
below (x ∷ xs) zero s e = omega arith
below (x ∷ xs) (suc m) s e = let h = below xs m s e in omega arith

less_test : (i n : ℕ) → i < n → nat_lt i n ≡ true
less_test i n h = grind (arith, nat_tests)

same_test : (n : ℕ) → nat_lt n n ≡ false
same_test n = grind (arith, nat_tests)

pub position_found : (p : List ℕ → Bool) (xs : List (List ℕ)) (i : ℕ) (x : List ℕ) → slice_get xs i ≡ Some x → p x ≡ true → ((k : ℕ) (w : List ℕ) → k < i → slice_get xs k ≡ Some w → p w ≡ false) → Some i ≡ position p xs
position_found p xs i x e t h = rw (length_found p xs i x e t h, less_test i (length xs) (below xs i x e)) refl

pub position_none : (p : List ℕ → Bool) (xs : List (List ℕ)) → ((k : ℕ) (w : List ℕ) → k < length xs → slice_get xs k ≡ Some w → p w ≡ false) → None ≡ position p xs
position_none p xs h = rw (length_none p xs (λ k w e. h k w (below xs k w e) e), same_test (length xs)) refl

name_byte_small : (b : ℕ) → is_name_byte b ≡ true → b < 128
name_byte_small b e = grind (arith, nat_tests)

name_ascii : (bs : List ℕ) → list_all is_name_byte bs ≡ true → IsAscii bs
name_ascii [] a = IsAscii-nil
name_ascii (b ∷ bs) a =
    let p = and_parts (is_name_byte b) (list_all is_name_byte bs) a in
    IsAscii-cons b bs (name_byte_small b p.0) (name_ascii bs p.1)

pub name_utf8 : (bs : List ℕ) → list_all is_name_byte bs ≡ true → IsUtf8 bs
name_utf8 bs a = IsUtf8-from_ascii bs (name_ascii bs a)

pub more_words : (p : List ℕ → Bool) (xs : List (List ℕ)) (n : ℕ) (x : List ℕ) → slice_get xs n ≡ Some x → p x ≡ false → ((k : ℕ) (w : List ℕ) → k < n → slice_get xs k ≡ Some w → p w ≡ false)
    → (k : ℕ) (w : List ℕ) → k < n + 1 → slice_get xs k ≡ Some w → p w ≡ false
more_words p xs n x e f h k w l g =
    ⊎_elim (λ (i : k < n). h k w i g) (λ (i : n ≤ k). at (omega arith)) (cases_lt k n)
  where
    at : k ≡ n → p w ≡ false
    at i =
        let j : Some w ≡ Some x = sym g ∙ ap (λ (z : ℕ). slice_get xs z) i ∙ e in
        let m : w ≡ x = cc in
        rw m f
