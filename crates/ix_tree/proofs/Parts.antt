-- The front of the bytes has one form, one length and one token.
use Rattle.std.proofs.Common.{◌≡◌, ℕ, zero, suc, ◌+◌, List, [], ◌∷◌, ◌++◌, length, Bool, true, false, not, ◌&&◌, refl, ap, sym, ◌∙◌, subst, append_assoc, arith, Option, Some, None, nat_eq, add-zero, zero-add}
use Rattle.std.specs.Prelude.{slice_get}
use Rattle.std.specs.List.{list_all, position}
use Rattle.std.proofs.lemmas.Bool.{and_parts, not-true, false≢true, eqb-true}
use Rattle.std.proofs.lemmas.Bool.Decides.{nat_tests}
use Rattle.std.proofs.lemmas.List.{append_cancel_left}
use Rattle.ix_tree.specs.declared.token.Token.{Token}
use Rattle.ix_tree.specs.declared.token.TokenKind.{TokenKind}
use Rattle.ix_tree.specs.declared.token.TokenKind.TheVariants.{Symbol, Text}
use Rattle.ix_tree.specs.Tokens.{symbols}
use Rattle.ix_tree.specs.Lexing.{is_space, is_digit, is_letter, is_name_byte, is_number_byte, is_line_byte, is_text_byte, same_bytes, word_kind, Form, symbol, form_of, token, IsPart, is_space_part, is_line_part, is_comment_part, is_word_part, is_text_part, is_number_part, is_symbol_part, Reads, reads_none, reads_more}
use Rattle.ix_tree.proofs.Lexemes.{fronts, comments, number_unique}

-- ---- the form shows in the first bytes
letter_is_no_space : (b : ℕ) → is_letter b ≡ true → is_space b ≡ false
letter_is_no_space b e = grind (arith, nat_tests)

digit_is_no_space : (b : ℕ) → is_digit b ≡ true → is_space b ≡ false
digit_is_no_space b e = grind (arith, nat_tests)

digit_is_no_letter : (b : ℕ) → is_digit b ≡ true → is_letter b ≡ false
digit_is_no_letter b e = grind (arith, nat_tests)

-- the first byte of each symbol begins nothing else
abbrev begins_symbol : List ℕ → Bool
begins_symbol [] = false
begins_symbol (b ∷ bs) = not (is_space b) && not (is_letter b) && not (is_digit b) && not (nat_eq b 34) && not (nat_eq b 47)

all_begin : list_all begins_symbol symbols ≡ true
all_begin = refl

all_at : {X : Type 0} (p : X → Bool) (xs : List X) (n : ℕ) (x : X) → list_all p xs ≡ true → slice_get xs n ≡ Some x → p x ≡ true
all_at p [] n x a e = cc
all_at p (y ∷ ys) zero x a e =
    let f : y ≡ x = cc in
    subst (λ z. p z ≡ true) f (and_parts (p y) (list_all p ys) a).0
all_at p (y ∷ ys) (suc n) x a e = all_at p ys n x (and_parts (p y) (list_all p ys) a).1 e

symbol_form : (x y : List ℕ) → begins_symbol x ≡ true → form_of (x ++ y) ≡ Some symbol
symbol_form [] y e = absurd (false≢true e)
symbol_form (b ∷ bs) y e =
    let p = and_parts (not (is_space b) && not (is_letter b) && not (is_digit b) && not (nat_eq b 34)) (not (nat_eq b 47)) e in
    let q = and_parts (not (is_space b) && not (is_letter b) && not (is_digit b)) (not (nat_eq b 34)) p.0 in
    let r = and_parts (not (is_space b) && not (is_letter b)) (not (is_digit b)) q.0 in
    let s = and_parts (not (is_space b)) (not (is_letter b)) r.0 in
    rw (not-true (is_space b) s.0, not-true (is_letter b) s.1, not-true (is_digit b) r.1, not-true (nat_eq b 34) q.1, not-true (nat_eq b 47) p.1) refl

pub form_is : {f : Form} {at : ℕ} {x y : List ℕ} {us : List Token} → IsPart f at x y us → form_of (x ++ y) ≡ Some f
form_is (is_space_part b e) = rw e refl
form_is (is_line_part a s) = refl
form_is (is_comment_part c) = refl
form_is (is_word_part b l a s m) = rw (letter_is_no_space b l, l) refl
form_is (is_text_part x a) = refl
form_is (is_number_part b kind d a s n) = rw (digit_is_no_space b d, digit_is_no_letter b d, d) refl
form_is (is_symbol_part {x = x} {y = y} n e l) = symbol_form x y (all_at begins_symbol symbols n x all_begin e)

-- ---- a symbol has one number
abbrev place_of : List ℕ → Option ℕ
place_of x = position (λ s. same_bytes s x) symbols

abbrev is_at : Option ℕ → ℕ → Bool
is_at None n = false
is_at (Some m) n = nat_eq m n

abbrev all_placed : ℕ → List (List ℕ) → Bool
all_placed n [] = true
all_placed n (x ∷ xs) = is_at (place_of x) n && all_placed (n + 1) xs

symbols_placed : all_placed 0 symbols ≡ true
symbols_placed = refl

placed_at : (xs : List (List ℕ)) (n i : ℕ) (x : List ℕ) → all_placed n xs ≡ true → slice_get xs i ≡ Some x → is_at (place_of x) (n + i) ≡ true
placed_at [] n i x a e = cc
placed_at (y ∷ ys) n zero x a e =
    let f : y ≡ x = cc in
    let g = (and_parts (is_at (place_of y) n) (all_placed (n + 1) ys) a).0 in
    rw (add-zero n) (subst (λ (z : List ℕ). is_at (place_of z) n ≡ true) f g)
placed_at (y ∷ ys) n (suc i) x a e =
    let g = placed_at ys (n + 1) i x (and_parts (is_at (place_of y) n) (all_placed (n + 1) ys) a).1 e in
    let h : n + 1 + i ≡ n + suc i = omega arith in
    subst (λ (m : ℕ). is_at (place_of x) m ≡ true) h g

one_place : (o : Option ℕ) (m n : ℕ) → is_at o m ≡ true → is_at o n ≡ true → m ≡ n
one_place None m n a b = absurd (false≢true a)
one_place (Some k) m n a b = sym (eqb-true k m a) ∙ eqb-true k n b

placed : (n : ℕ) (x : List ℕ) → slice_get symbols n ≡ Some x → is_at (place_of x) n ≡ true
placed n x e = subst (λ (q : ℕ). is_at (place_of x) q ≡ true) (zero-add n) (placed_at symbols 0 n x symbols_placed e)

symbol_number : (m n : ℕ) (x : List ℕ) → slice_get symbols m ≡ Some x → slice_get symbols n ≡ Some x → m ≡ n
symbol_number m n x a b = one_place (place_of x) m n (placed m x a) (placed n x b)

-- ---- fronts of one length
same_length : (x y z w : List ℕ) → length x ≡ length z → x ++ y ≡ z ++ w → x ≡ z
same_length [] y [] w e f = refl
same_length [] y (b ∷ z) w e f = absurd (omega arith)
same_length (a ∷ x) y [] w e f = absurd (omega arith)
same_length (a ∷ x) y (b ∷ z) w e f =
    let g : a ≡ b = cc in
    let h : x ++ y ≡ z ++ w = cc in
    ap (λ (q : ℕ). q ∷ x) g ∙ ap (λ (q : List ℕ). b ∷ q) (same_length x y z w (omega arith) h)

-- ---- a front of a form is one
pub record SameFront (x z : List ℕ) (us vs : List Token) : Type 0 where
  pub bytes : x ≡ z
  pub tokens : us ≡ vs

pub part_unique : {f : Form} {at : ℕ} {x y z w : List ℕ} {us vs : List Token} → IsPart f at x y us → IsPart f at z w vs → x ++ y ≡ z ++ w → SameFront x z us vs
part_unique (is_space_part b e) (is_space_part c g) h = record { bytes = let k : b ≡ c = cc in ap (λ (q : ℕ). q ∷ []) k; tokens = refl }
part_unique (is_line_part {x = x} {y = y} a s) (is_line_part {x = z} {y = w} b t) h =
    let k = fronts is_line_byte x y z w a s b t cc in
    record { bytes = ap (λ (q : List ℕ). 47 ∷ 47 ∷ q) k; tokens = refl }
part_unique (is_comment_part {x = x} {y = y} c) (is_comment_part {x = z} {y = w} d) h =
    let k = comments c d y w cc in
    record { bytes = ap (λ (q : List ℕ). 47 ∷ 42 ∷ q) k; tokens = refl }
part_unique {at = at} (is_word_part {x = x} {y = y} b l a s m) (is_word_part {x = z} {y = w} c k d t n) h =
    let e : b ≡ c = cc in
    let f = fronts is_name_byte x y z w a s d t cc in
    let g : b ∷ x ≡ c ∷ z = ap (λ (q : ℕ). q ∷ x) e ∙ ap (λ (q : List ℕ). c ∷ q) f in
    record { bytes = g; tokens = ap (λ (q : List ℕ). token at q (word_kind q) ∷ []) g }
part_unique {at = at} (is_text_part {y = y} x a) (is_text_part {y = w} z b) h =
    let k : (x ++ 34 ∷ []) ++ y ≡ (z ++ 34 ∷ []) ++ w = cc in
    let m : x ++ 34 ∷ y ≡ z ++ 34 ∷ w = sym (append_assoc x (34 ∷ []) y) ∙ k ∙ append_assoc z (34 ∷ []) w in
    let n = fronts is_text_byte x (34 ∷ y) z (34 ∷ w) a refl b refl m in
    record { bytes = ap (λ (q : List ℕ). 34 ∷ (q ++ 34 ∷ [])) n; tokens = ap (λ (q : List ℕ). token at (34 ∷ (q ++ 34 ∷ [])) Text ∷ []) n }
part_unique {at = at} (is_number_part {x = x} {y = y} b kind l a s m) (is_number_part {x = z} {y = w} c kind' k d t n) h =
    let e : b ≡ c = cc in
    let f = fronts is_number_byte x y z w a s d t cc in
    let g : b ∷ x ≡ c ∷ z = ap (λ (q : ℕ). q ∷ x) e ∙ ap (λ (q : List ℕ). c ∷ q) f in
    let u = number_unique m n g in
    record { bytes = g; tokens = ap (λ (q : List ℕ). token at q kind ∷ []) g ∙ ap (λ (q : TokenKind). token at (c ∷ z) q ∷ []) u }
part_unique {at = at} (is_symbol_part {x = x} {y = y} m a l) (is_symbol_part {x = z} {y = w} n b k) h =
    let p = l n z b (w, h) in
    let q = k m x a (y, sym h) in
    let e = same_length x y z w (omega arith) h in
    let f = symbol_number m n z (subst (λ (q : List ℕ). slice_get symbols m ≡ Some q) e a) b in
    record { bytes = e; tokens = ap (λ (q : List ℕ). token at q (Symbol m) ∷ []) e ∙ ap (λ (q : ℕ). token at z (Symbol q) ∷ []) f }

reads_unique : {at bt : ℕ} {bs cs rest end : List ℕ} {ts us : List Token} → Reads at bs ts rest → Reads bt cs us end → at ≡ bt → bs ≡ cs → rest ≡ [] → end ≡ [] → ts ≡ us
reads_unique reads_none reads_none a b e f = refl
reads_unique reads_none (reads_more {x = x} {y = y} g p r) a b e f =
    let k : form_of (x ++ y) ≡ None = rw (sym b, e) refl in
    let m : Some g ≡ None = sym (form_is p) ∙ k in
    cc
reads_unique (reads_more {x = x} {y = y} g p r) reads_none a b e f =
    let k : form_of (x ++ y) ≡ None = rw (b, f) refl in
    let m : Some g ≡ None = sym (form_is p) ∙ k in
    cc
reads_unique {at} {bt} (reads_more {x = x} {y = y} {us = us} {ts = ts} g p r) (reads_more {x = z} {y = w} {us = vs} {ts = ws} h q s) a b e f =
    let k : Some g ≡ Some h = sym (form_is p) ∙ rw b (form_is q) in
    let m : g ≡ h = cc in
    let q' : IsPart g at z w vs = subst (λ (n : ℕ). IsPart g n z w vs) (sym a) (subst (λ (o : Form). IsPart o bt z w vs) (sym m) q) in
    let same = part_unique p q' b in
    let c : y ≡ w = append_cancel_left x y w (b ∙ ap (λ (o : List ℕ). o ++ w) (sym same.bytes)) in
    let n = reads_unique r s (rw (a, same.bytes) refl) c e f in
    ap (λ (o : List Token). o ++ ts) same.tokens ∙ ap (λ (o : List Token). vs ++ o) n

pub lexes_unique : {bs : List ℕ} {ts us : List Token} → Reads 0 bs ts [] → Reads 0 bs us [] → ts ≡ us
lexes_unique p q = reads_unique p q refl refl refl refl
