-- From what the scanning functions find to a part of the text, or to none.
use Rattle.std.proofs.Common.{◌≡◌, ℕ, zero, suc, ◌+◌, ◌<◌, ◌≤◌, List, [], ◌∷◌, ◌++◌, length, take, drop, get_or, Bool, true, false, Option, Some, None, refl, ap, sym, ◌∙◌, subst, append_assoc, arith, drop-cons, length-drop}
use Rattle.std.specs.Prelude.{slice_get}
use Rattle.std.specs.List.{list_all}
use Rattle.std.proofs.lemmas.Bool.{and_parts, true≢false}
use Rattle.std.proofs.lemmas.List.{append_cancel_left, take-append-drop}
use Rattle.std.proofs.Math.Seq.{take-suc}
use Rattle.ix_tree.specs.declared.token.Token.{Token}
use Rattle.ix_tree.specs.declared.token.TokenKind.{TokenKind}
use Rattle.ix_tree.specs.declared.token.TokenKind.TheVariants.{Symbol, Text}
use Rattle.ix_tree.specs.Tokens.{symbols}
use Rattle.ix_tree.specs.Lexing.{is_space, is_letter, is_digit, is_name_byte, is_number_byte, is_line_byte, is_text_byte, Stops, IsComment, IsNumber, word_kind, Form, space, line_comment, comment, word, text, number, symbol, form_of, token, IsPart, is_space_part, is_line_part, is_comment_part, is_word_part, is_text_part, is_number_part, is_symbol_part}
use Rattle.ix_tree.proofs.Lexemes.{fronts}
use Rattle.ix_lex.specs.Fronts.{IsFront, NoComment}
use Rattle.ix_lex.specs.Numbers.{NoNumber}
use Rattle.ix_lex.specs.Symbols.{IsLongest, NoSymbol}
use Rattle.ix_lex.specs.Refusals.{NoPart}
use Rattle.ix_lex.proofs.Openings.{line_shape, comment_shape, text_shape, Begins, space_shape, word_shape, number_shape, no_part_of}

moved : {f : Form} {k : Option TokenKind} (bs cs : List ℕ) (m n : ℕ) → bs ≡ cs → m ≡ n → IsFront f cs n k → IsFront f bs m k
moved {f} {k} bs cs m n e g i = subst (λ (z : List ℕ). IsFront f z m k) (sym e) (subst (λ (z : ℕ). IsFront f cs z k) (sym g) i)

first_of : (p : ℕ → Bool) (b : ℕ) (rest : List ℕ) → Begins p (b ∷ rest) → p b ≡ true
first_of p b rest s =
    let k : s.b ≡ b = sym (head (b ∷ rest) (drop 1 (b ∷ rest)) s.is) in
    subst (λ (z : ℕ). p z ≡ true) k s.first
  where
    head : {c : ℕ} (bs cs : List ℕ) → b ∷ rest ≡ c ∷ cs → b ≡ c
    head bs cs e = cc

length_take : (n : ℕ) (xs : List ℕ) → n ≤ length xs → length (take n xs) ≡ n
length_take zero xs h = refl
length_take (suc n) [] h = absurd (omega arith)
length_take (suc n) (x ∷ xs) h = let k = length_take n xs (omega arith) in omega arith

-- ---- white space and comments
pub space_front : (bs : List ℕ) → form_of bs ≡ Some space → IsFront space bs 1 None
space_front [] e = cc
space_front (b ∷ rest) e = record {
  some = omega arith;
  within = omega arith;
  part = λ at. is_space_part b (first_of is_space b rest (space_shape (b ∷ rest) e));
}

line_in : (rest : List ℕ) (n : ℕ) → n ≤ length rest → list_all is_line_byte (take n rest) ≡ true → Stops is_line_byte (drop n rest) → IsFront line_comment (47 ∷ 47 ∷ rest) (suc (suc n)) None
line_in rest n h a s = record { some = omega arith; within = omega arith; part = λ at. is_line_part a s }

pub line_front : (bs : List ℕ) (n : ℕ) → form_of bs ≡ Some line_comment → n ≤ length (drop 2 bs) → list_all is_line_byte (take n (drop 2 bs)) ≡ true → Stops is_line_byte (drop n (drop 2 bs))
    → IsFront line_comment bs (2 + n) None
line_front bs n e h a s = moved bs (47 ∷ 47 ∷ drop 2 bs) (2 + n) (suc (suc n)) (line_shape bs e) (omega arith) (line_in (drop 2 bs) n h a s)

comment_in : (rest : List ℕ) (n : ℕ) → n ≤ length rest → IsComment (take n rest) → IsFront comment (47 ∷ 42 ∷ rest) (suc (suc n)) None
comment_in rest n h c = record { some = omega arith; within = omega arith; part = λ at. is_comment_part c }

pub comment_front : (bs : List ℕ) (n : ℕ) → form_of bs ≡ Some comment → n ≤ length (drop 2 bs) → IsComment (take n (drop 2 bs)) → IsFront comment bs (2 + n) None
comment_front bs n e h c = moved bs (47 ∷ 42 ∷ drop 2 bs) (2 + n) (suc (suc n)) (comment_shape bs e) (omega arith) (comment_in (drop 2 bs) n h c)

pub comment_none : (bs : List ℕ) → form_of bs ≡ Some comment → NoComment (drop 2 bs) → NoPart bs
comment_none bs e n = no_part_of bs comment e (λ at x y us p h. go p (h ∙ comment_shape bs e))
  where
    go : {at : ℕ} {x y : List ℕ} {us : List Token} → IsPart comment at x y us → x ++ y ≡ 47 ∷ 42 ∷ drop 2 bs → ⊥
    go (is_comment_part {x = z} {y = w} c) h = n z w c cc

-- ---- strings
heads : (b c : ℕ) (xs ys : List ℕ) → b ∷ xs ≡ c ∷ ys → b ≡ c
heads b c xs ys e = cc

text_in : (rest : List ℕ) (n : ℕ) → n < length rest → get_or rest n 0 ≡ 34 → list_all is_text_byte (take n rest) ≡ true → IsFront text (34 ∷ rest) (suc (suc n)) (Some Text)
text_in rest n h q a = record {
  some = omega arith;
  within = omega arith;
  part = λ at.
      let e : take n rest ++ 34 ∷ [] ≡ take (suc n) rest = sym (subst (λ (z : ℕ). take (suc n) rest ≡ take n rest ++ z ∷ []) q (take-suc rest n 0 h)) in
      subst (λ (z : List ℕ). IsPart text at (34 ∷ z) (drop (suc n) rest) (token at (34 ∷ z) Text ∷ [])) e (is_text_part (take n rest) a);
}

pub text_front : (bs : List ℕ) (n : ℕ) → form_of bs ≡ Some text → n < length (drop 1 bs) → get_or (drop 1 bs) n 0 ≡ 34 → list_all is_text_byte (take n (drop 1 bs)) ≡ true
    → IsFront text bs (n + 2) (Some Text)
text_front bs n e h q a = moved bs (34 ∷ drop 1 bs) (n + 2) (suc (suc n)) (text_shape bs e) (omega arith) (text_in (drop 1 bs) n h q a)

pub text_none : (bs : List ℕ) (n : ℕ) → form_of bs ≡ Some text → list_all is_text_byte (take n (drop 1 bs)) ≡ true → Stops is_text_byte (drop n (drop 1 bs))
    → (n < length (drop 1 bs) → get_or (drop 1 bs) n 0 ≡ 34 → ⊥) → NoPart bs
text_none bs n e a s q = no_part_of bs text e (λ at x y us p h. go p (h ∙ text_shape bs e))
  where
    go : {at : ℕ} {x y : List ℕ} {us : List Token} → IsPart text at x y us → x ++ y ≡ 34 ∷ drop 1 bs → ⊥
    go (is_text_part {y = w} z b) h =
        let k : (z ++ 34 ∷ []) ++ w ≡ drop 1 bs = cc in
        let m : z ++ 34 ∷ w ≡ drop 1 bs = sym (append_assoc z (34 ∷ []) w) ∙ k in
        let t = take-append-drop n (drop 1 bs) in
        let f = fronts is_text_byte z (34 ∷ w) (take n (drop 1 bs)) (drop n (drop 1 bs)) b refl a s (m ∙ sym t) in
        let g : 34 ∷ w ≡ drop n (drop 1 bs) = append_cancel_left z (34 ∷ w) (drop n (drop 1 bs)) (m ∙ sym t ∙ ap (λ (o : List ℕ). o ++ drop n (drop 1 bs)) (sym f)) in
        let j : suc (length w) ≡ length (drop n (drop 1 bs)) = ap length g in
        let i : n < length (drop 1 bs) = omega (arith, length-drop n (drop 1 bs)) in
        let d : 34 ∷ w ≡ get_or (drop 1 bs) n 0 ∷ drop (suc n) (drop 1 bs) = g ∙ drop-cons (drop 1 bs) n 0 i in
        q i (sym (heads 34 (get_or (drop 1 bs) n 0) w (drop (suc n) (drop 1 bs)) d))

-- ---- names and literals
letter_in_name : (b : ℕ) → is_letter b ≡ true → is_name_byte b ≡ true
letter_in_name b e = rw e refl

digit_in_number : (b : ℕ) → is_digit b ≡ true → is_number_byte b ≡ true
digit_in_number b e = go (is_letter b) refl
  where
    go : (l : Bool) → is_letter b ≡ l → is_number_byte b ≡ true
    go true f = rw f refl
    go false f = rw (f, e) refl

word_in : (b : ℕ) (rest : List ℕ) (n : ℕ) → is_letter b ≡ true → n ≤ length (b ∷ rest) → n ≤ 64 → list_all is_name_byte (take n (b ∷ rest)) ≡ true → Stops is_name_byte (drop n (b ∷ rest))
    → IsFront word (b ∷ rest) n (Some (word_kind (take n (b ∷ rest))))
word_in b rest zero l h m a s = absurd (true≢false (sym (letter_in_name b l) ∙ s))
word_in b rest (suc n) l h m a s = record {
  some = omega arith;
  within = h;
  part = λ at.
      let k = length_take n rest (omega arith) in
      let t : length (b ∷ take n rest) ≤ 64 = omega arith in
      is_word_part b l (and_parts (is_name_byte b) (list_all is_name_byte (take n rest)) a).1 s t;
}

pub word_front : (bs : List ℕ) (n : ℕ) (kind : TokenKind) → form_of bs ≡ Some word → n ≤ length bs → n ≤ 64 → list_all is_name_byte (take n bs) ≡ true → Stops is_name_byte (drop n bs)
    → kind ≡ word_kind (take n bs) → IsFront word bs n (Some kind)
word_front [] n kind e h m a s k = cc
word_front (b ∷ rest) n kind e h m a s k =
    subst (λ (z : TokenKind). IsFront word (b ∷ rest) n (Some z)) (sym k) (word_in b rest n (first_of is_letter b rest (word_shape (b ∷ rest) e)) h m a s)

pub word_none : (bs : List ℕ) (n : ℕ) → form_of bs ≡ Some word → n ≤ length bs → 64 < n → list_all is_name_byte (take n bs) ≡ true → Stops is_name_byte (drop n bs) → NoPart bs
word_none bs n e i m a s = no_part_of bs word e (λ at x y us p h. go p h)
  where
    go : {at : ℕ} {x y : List ℕ} {us : List Token} → IsPart word at x y us → x ++ y ≡ bs → ⊥
    go (is_word_part {x = z} {y = w} b l c t k) h =
        let f = fronts is_name_byte (b ∷ z) w (take n bs) (drop n bs) (rw (letter_in_name b l, c) refl) t a s (h ∙ sym (take-append-drop n bs)) in
        let g : length (b ∷ z) ≡ length (take n bs) = ap length f in
        absurd (omega (arith, length_take n bs i))

number_in : (b : ℕ) (rest : List ℕ) (n : ℕ) (kind : TokenKind) → is_digit b ≡ true → n ≤ length (b ∷ rest) → list_all is_number_byte (take n (b ∷ rest)) ≡ true → Stops is_number_byte (drop n (b ∷ rest))
    → IsNumber (take n (b ∷ rest)) kind → IsFront number (b ∷ rest) n (Some kind)
number_in b rest zero kind l h a s k = absurd (true≢false (sym (digit_in_number b l) ∙ s))
number_in b rest (suc n) kind l h a s k = record {
  some = omega arith;
  within = h;
  part = λ at. is_number_part b kind l (and_parts (is_number_byte b) (list_all is_number_byte (take n rest)) a).1 s k;
}

pub number_front : (bs : List ℕ) (n : ℕ) (kind : TokenKind) → form_of bs ≡ Some number → n ≤ length bs → list_all is_number_byte (take n bs) ≡ true → Stops is_number_byte (drop n bs)
    → IsNumber (take n bs) kind → IsFront number bs n (Some kind)
number_front [] n kind e h a s k = cc
number_front (b ∷ rest) n kind e h a s k = number_in b rest n kind (first_of is_digit b rest (number_shape (b ∷ rest) e)) h a s k

pub number_none : (bs : List ℕ) (n : ℕ) → form_of bs ≡ Some number → list_all is_number_byte (take n bs) ≡ true → Stops is_number_byte (drop n bs) → NoNumber (take n bs) → NoPart bs
number_none bs n e a s m = no_part_of bs number e (λ at x y us p h. go p h)
  where
    go : {at : ℕ} {x y : List ℕ} {us : List Token} → IsPart number at x y us → x ++ y ≡ bs → ⊥
    go (is_number_part {x = z} {y = w} b kind l c t k) h =
        let f = fronts is_number_byte (b ∷ z) w (take n bs) (drop n bs) (rw (digit_in_number b l, c) refl) t a s (h ∙ sym (take-append-drop n bs)) in
        m kind (subst (λ (q : List ℕ). IsNumber q kind) f k)

pub number_some : (bs : List ℕ) (n : ℕ) → form_of bs ≡ Some number → Stops is_number_byte (drop n bs) → 0 < n
number_some [] n e s = cc
number_some (b ∷ rest) zero e s = absurd (true≢false (sym (digit_in_number b (first_of is_digit b rest (number_shape (b ∷ rest) e))) ∙ s))
number_some (b ∷ rest) (suc n) e s = omega arith

-- ---- symbols
placed_below : (xs : List (List ℕ)) (m : ℕ) (s : List ℕ) → slice_get xs m ≡ Some s → m < length xs
placed_below [] m s e = cc
placed_below (x ∷ xs) zero s e = omega arith
placed_below (x ∷ xs) (suc m) s e = let h = placed_below xs m s e in omega arith

pub symbol_front : (bs : List ℕ) (k n : ℕ) → 0 < n → IsLongest bs 40 k n → IsFront symbol bs n (Some (Symbol k))
symbol_front bs k n h l = record {
  some = omega arith;
  within = l.within;
  part = λ at. is_symbol_part k (l.is h) (λ m s e b.
      let j : length s ≤ n = l.longest m s (placed_below symbols m s e) e (b.0, sym (take-append-drop n bs) ∙ b.1) in
      rw (length_take n bs l.within) j);
}

pub symbol_none : (bs : List ℕ) → form_of bs ≡ Some symbol → NoSymbol bs → NoPart bs
symbol_none bs e n = no_part_of bs symbol e (λ at x y us p h. go p h)
  where
    go : {at : ℕ} {x y : List ℕ} {us : List Token} → IsPart symbol at x y us → x ++ y ≡ bs → ⊥
    go (is_symbol_part {x = x} {y = y} m f l) h = n m x f (y, sym h)

abbrev nat_some : ℕ → Bool
nat_some zero = false
nat_some (suc n) = true

-- no symbol is empty
pub longest_none : (bs : List ℕ) (k : ℕ) → IsLongest bs 40 k 0 → NoSymbol bs
longest_none bs k l m s e b =
    let h = l.longest m s (placed_below symbols m s e) e b in
    some_bytes symbols m s refl e h
  where
    some_bytes : (xs : List (List ℕ)) (m : ℕ) (s : List ℕ) → list_all (λ (x : List ℕ). nat_some (length x)) xs ≡ true → slice_get xs m ≡ Some s → length s ≤ 0 → ⊥
    some_bytes [] m s a e h = cc
    some_bytes (x ∷ xs) zero s a e h =
        let k : x ≡ s = cc in
        let g = (and_parts (nat_some (length x)) (list_all (λ (x : List ℕ). nat_some (length x)) xs) a).0 in
        let j : length s ≡ 0 = omega arith in
        let i : nat_some 0 ≡ true = subst (λ (z : ℕ). nat_some z ≡ true) (ap length k ∙ j) g in
        true≢false (sym i)
    some_bytes (x ∷ xs) (suc m) s a e h = some_bytes xs m s (and_parts (nat_some (length x)) (list_all (λ (x : List ℕ). nat_some (length x)) xs) a).1 e h

-- ---- strings, by places of the whole bytes
byte_behind : (bs : List ℕ) (n : ℕ) → get_or (drop 1 bs) n 0 ≡ get_or bs (1 + n) 0
byte_behind [] n = refl
byte_behind (b ∷ bs) n = ap (λ (z : ℕ). get_or (b ∷ bs) z 0) (one n)
  where
    one : (n : ℕ) → suc n ≡ 1 + n
    one n = omega arith

pub text_found : (bs : List ℕ) (n : ℕ) → form_of bs ≡ Some text → 1 + n < length bs → get_or bs (1 + n) 0 ≡ 34 → list_all is_text_byte (take n (drop 1 bs)) ≡ true → IsFront text bs (n + 2) (Some Text)
text_found bs n e h q a = text_front bs n e (omega (arith, length-drop 1 bs)) (byte_behind bs n ∙ q) a

pub text_missing : (bs : List ℕ) (n : ℕ) → form_of bs ≡ Some text → list_all is_text_byte (take n (drop 1 bs)) ≡ true → Stops is_text_byte (drop n (drop 1 bs))
    → (1 + n < length bs → get_or bs (1 + n) 0 ≡ 34 → ⊥) → NoPart bs
text_missing bs n e a s q = text_none bs n e a s (λ h f. q (omega (arith, length-drop 1 bs)) (sym (byte_behind bs n) ∙ f))

pub longest_none_at : (bs : List ℕ) (i k n : ℕ) → i ≡ 40 → n ≡ 0 → IsLongest bs i k n → NoSymbol bs
longest_none_at bs i k n e f l = longest_none bs k (subst (λ (z : ℕ). IsLongest bs 40 k z) f (subst (λ (z : ℕ). IsLongest bs z k n) e l))

pub space_is : (bs : List ℕ) (n : ℕ) (k : Option TokenKind) → form_of bs ≡ Some space → n ≡ 1 → k ≡ None → IsFront space bs n k
space_is bs n k e f g = rw (f, g) (space_front bs e)
