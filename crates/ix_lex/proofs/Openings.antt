-- What the form says of the first bytes.
use Rattle.std.proofs.Common.{◌≡◌, ℕ, List, [], ◌∷◌, ◌++◌, drop, Bool, true, false, Option, Some, None, refl, ap, sym, ◌∙◌, subst, nat_eq}
use Rattle.std.specs.Prelude.{if◌then◌else◌}
use Rattle.std.proofs.lemmas.Bool.{eqb-true}
use Rattle.ix_tree.specs.declared.token.Token.{Token}
use Rattle.ix_tree.specs.Lexing.{is_space, is_letter, is_digit, Form, space, line_comment, comment, word, text, number, symbol, slash, form_of, IsPart}
use Rattle.ix_tree.proofs.Parts.{form_is}
use Rattle.ix_lex.specs.Refusals.{NoPart}

data Slashed : List ℕ → Option Form → Type 0 where
  slash_none : {bs : List ℕ} → Slashed bs None
  slash_line : {bs : List ℕ} (c : ℕ) → nat_eq c 47 ≡ true → Slashed (c ∷ bs) (Some line_comment)
  slash_comment : {bs : List ℕ} (c : ℕ) → nat_eq c 42 ≡ true → Slashed (c ∷ bs) (Some comment)

slashed : (bs : List ℕ) → Slashed bs (slash bs)
slashed [] = slash_none
slashed (c ∷ bs) = go (nat_eq c 47) (nat_eq c 42) refl refl
  where
    go : (s t : Bool) → nat_eq c 47 ≡ s → nat_eq c 42 ≡ t → Slashed (c ∷ bs) (if s then Some line_comment else if t then Some comment else None)
    go true t e f = slash_line c e
    go false true e f = slash_comment c f
    go false false e f = slash_none

data Opened (b : ℕ) (bs : List ℕ) : Option Form → Type 0 where
  opened_space : is_space b ≡ true → Opened b bs (Some space)
  opened_word : is_letter b ≡ true → Opened b bs (Some word)
  opened_number : is_digit b ≡ true → Opened b bs (Some number)
  opened_text : nat_eq b 34 ≡ true → Opened b bs (Some text)
  opened_slash : {f : Option Form} → nat_eq b 47 ≡ true → Slashed bs f → Opened b bs f
  opened_symbol : Opened b bs (Some symbol)

opened : (b : ℕ) (bs : List ℕ) → Opened b bs (form_of (b ∷ bs))
opened b bs = go (is_space b) (is_letter b) (is_digit b) (nat_eq b 34) (nat_eq b 47) refl refl refl refl refl
  where
    go : (s l d t h : Bool) → is_space b ≡ s → is_letter b ≡ l → is_digit b ≡ d → nat_eq b 34 ≡ t → nat_eq b 47 ≡ h
        → Opened b bs (if s then Some space else if l then Some word else if d then Some number else if t then Some text else if h then slash bs else Some symbol)
    go true l d t h a b' c e f = opened_space a
    go false true d t h a b' c e f = opened_word b'
    go false false true t h a b' c e f = opened_number c
    go false false false true h a b' c e f = opened_text e
    go false false false false true a b' c e f = opened_slash f (slashed bs)
    go false false false false false a b' c e f = opened_symbol

-- ---- the bytes of each form
line_rest : {bs : List ℕ} {f : Option Form} → Slashed bs f → f ≡ Some line_comment → bs ≡ 47 ∷ drop 1 bs
line_rest slash_none e = cc
line_rest (slash_line {bs = bs} c t) e = ap (λ (z : ℕ). z ∷ bs) (eqb-true c 47 t)
line_rest (slash_comment c t) e = cc

comment_rest : {bs : List ℕ} {f : Option Form} → Slashed bs f → f ≡ Some comment → bs ≡ 42 ∷ drop 1 bs
comment_rest slash_none e = cc
comment_rest (slash_line c t) e = cc
comment_rest (slash_comment {bs = bs} c t) e = ap (λ (z : ℕ). z ∷ bs) (eqb-true c 42 t)

two : (b c : ℕ) (bs : List ℕ) → nat_eq b 47 ≡ true → bs ≡ c ∷ drop 1 bs → b ∷ bs ≡ 47 ∷ c ∷ drop 1 bs
two b c bs e f = ap (λ (z : ℕ). z ∷ bs) (eqb-true b 47 e) ∙ ap (λ (z : List ℕ). 47 ∷ z) f

line_at : {b : ℕ} {bs : List ℕ} {f : Option Form} → Opened b bs f → f ≡ Some line_comment → b ∷ bs ≡ 47 ∷ 47 ∷ drop 1 bs
line_at (opened_space t) e = cc
line_at (opened_word t) e = cc
line_at (opened_number t) e = cc
line_at (opened_text t) e = cc
line_at {b} {bs} (opened_slash t s) e = two b 47 bs t (line_rest s e)
line_at opened_symbol e = cc

comment_at : {b : ℕ} {bs : List ℕ} {f : Option Form} → Opened b bs f → f ≡ Some comment → b ∷ bs ≡ 47 ∷ 42 ∷ drop 1 bs
comment_at (opened_space t) e = cc
comment_at (opened_word t) e = cc
comment_at (opened_number t) e = cc
comment_at (opened_text t) e = cc
comment_at {b} {bs} (opened_slash t s) e = two b 42 bs t (comment_rest s e)
comment_at opened_symbol e = cc

slashed_is : {bs : List ℕ} {f : Option Form} → Slashed bs f → (g : Form) → f ≡ Some g → (g ≡ line_comment → ⊥) → (g ≡ comment → ⊥) → ⊥
slashed_is slash_none g e m n = cc
slashed_is (slash_line c t) g e m n = m cc
slashed_is (slash_comment c t) g e m n = n cc

text_first : {b : ℕ} {bs : List ℕ} {f : Option Form} → Opened b bs f → f ≡ Some text → b ≡ 34
text_first (opened_space t) e = cc
text_first (opened_word t) e = cc
text_first (opened_number t) e = cc
text_first {b} (opened_text t) e = eqb-true b 34 t
text_first (opened_slash t s) e = absurd (slashed_is s text e (λ h. cc) (λ h. cc))
text_first opened_symbol e = cc

word_first : {b : ℕ} {bs : List ℕ} {f : Option Form} → Opened b bs f → f ≡ Some word → is_letter b ≡ true
word_first (opened_space t) e = cc
word_first (opened_word t) e = t
word_first (opened_number t) e = cc
word_first (opened_text t) e = cc
word_first (opened_slash t s) e = absurd (slashed_is s word e (λ h. cc) (λ h. cc))
word_first opened_symbol e = cc

number_first : {b : ℕ} {bs : List ℕ} {f : Option Form} → Opened b bs f → f ≡ Some number → is_digit b ≡ true
number_first (opened_space t) e = cc
number_first (opened_word t) e = cc
number_first (opened_number t) e = t
number_first (opened_text t) e = cc
number_first (opened_slash t s) e = absurd (slashed_is s number e (λ h. cc) (λ h. cc))
number_first opened_symbol e = cc

space_first : {b : ℕ} {bs : List ℕ} {f : Option Form} → Opened b bs f → f ≡ Some space → is_space b ≡ true
space_first (opened_space t) e = t
space_first (opened_word t) e = cc
space_first (opened_number t) e = cc
space_first (opened_text t) e = cc
space_first (opened_slash t s) e = absurd (slashed_is s space e (λ h. cc) (λ h. cc))
space_first opened_symbol e = cc

pub line_shape : (bs : List ℕ) → form_of bs ≡ Some line_comment → bs ≡ 47 ∷ 47 ∷ drop 2 bs
line_shape [] e = cc
line_shape (b ∷ bs) e = line_at (opened b bs) e

pub comment_shape : (bs : List ℕ) → form_of bs ≡ Some comment → bs ≡ 47 ∷ 42 ∷ drop 2 bs
comment_shape [] e = cc
comment_shape (b ∷ bs) e = comment_at (opened b bs) e

pub text_shape : (bs : List ℕ) → form_of bs ≡ Some text → bs ≡ 34 ∷ drop 1 bs
text_shape [] e = cc
text_shape (b ∷ bs) e = ap (λ (z : ℕ). z ∷ bs) (text_first (opened b bs) e)

-- the first byte passes the test
pub record Begins (p : ℕ → Bool) (bs : List ℕ) : Type 0 where
  pub b : ℕ
  pub is : bs ≡ b ∷ drop 1 bs
  pub first : p b ≡ true

pub space_shape : (bs : List ℕ) → form_of bs ≡ Some space → Begins is_space bs
space_shape [] e = cc
space_shape (b ∷ bs) e = record { b = b; is = refl; first = space_first (opened b bs) e }

pub word_shape : (bs : List ℕ) → form_of bs ≡ Some word → Begins is_letter bs
word_shape [] e = cc
word_shape (b ∷ bs) e = record { b = b; is = refl; first = word_first (opened b bs) e }

pub number_shape : (bs : List ℕ) → form_of bs ≡ Some number → Begins is_digit bs
number_shape [] e = cc
number_shape (b ∷ bs) e = record { b = b; is = refl; first = number_first (opened b bs) e }

-- ---- where no part of the form that shows begins, none does
pub no_part_of : (bs : List ℕ) (f : Form) → form_of bs ≡ Some f → ((at : ℕ) (x y : List ℕ) (us : List Token) → IsPart f at x y us → x ++ y ≡ bs → ⊥) → NoPart bs
no_part_of bs f e n g at x y us p h =
    let k : Some g ≡ Some f = sym (form_is p) ∙ ap form_of h ∙ e in
    let m : g ≡ f = cc in
    n at x y us (subst (λ (z : Form). IsPart z at x y us) m p) h

pub no_part_none : (bs : List ℕ) → form_of bs ≡ None → NoPart bs
no_part_none bs e g at x y us p h =
    let k : Some g ≡ None = sym (form_is p) ∙ ap form_of h ∙ e in
    cc
