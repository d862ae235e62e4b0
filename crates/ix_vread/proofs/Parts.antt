-- From what the scanning functions find to a part of the text.
use Rattle.std.proofs.Common.{◌≡◌, ℕ, zero, suc, ◌+◌, ◌<◌, ◌≤◌, List, [], ◌∷◌, ◌++◌, length, take, drop, get_or, Bool, true, false, ◌&&◌, ◌||◌, nat_eq, refl, ap, sym, ◌∙◌, subst, append_assoc, arith, drop-cons, length-drop, ◌-◌}
use Rattle.std.specs.List.{list_all}
use Rattle.std.specs.Prelude.{if◌then◌else◌}
use Rattle.std.proofs.lemmas.Bool.{ne_eqb, and_parts, false≢true}
use Rattle.std.proofs.lemmas.List.{take_all, take-append-drop, drop-drop, length-take-le, append-nil}
use Rattle.ix_verilog.specs.declared.token.Token.{Token}
use Rattle.ix_verilog.specs.Words.{is_name_byte, is_number_byte, is_line_byte, Stops, IsComment, NoComment, Form, space, line_comment, comment, name, number, pair, single, token, IsPart, is_space_part, is_line_part, is_comment_part, is_open_part, is_name_part, is_number_part, is_pair_part, is_single_part, form_of, slash_form, sign_form, begins, is_space, is_opening, is_digit, Spells, spells_none, spells_more}
use Rattle.ix_vread.specs.Fronts.{tokens_if, IsFront}
use Rattle.ix_vread.proofs.Scans.{at_rest}

pub space_front : (b : ℕ) (bs : List ℕ) → IsFront space b bs 0 false
space_front b bs = record { within = omega arith; part = λ at. is_space_part }

pub single_front : (b : ℕ) (bs : List ℕ) → IsFront single b bs 0 true
single_front b bs = record { within = omega arith; part = λ at. is_single_part }

pub pair_front : (b c : ℕ) (bs : List ℕ) → IsFront pair b (c ∷ bs) 1 true
pair_front b c bs = record { within = omega arith; part = λ at. is_pair_part }

pub name_front : (b : ℕ) (bs : List ℕ) (n : ℕ) → n ≤ length bs → list_all is_name_byte (take n bs) ≡ true → Stops is_name_byte (drop n bs) → IsFront name b bs n true
name_front b bs n l a s = record { within = l; part = λ at. is_name_part a s }

pub number_front : (b : ℕ) (bs : List ℕ) (n : ℕ) → n ≤ length bs → list_all is_number_byte (take n bs) ≡ true → Stops is_number_byte (drop n bs) → IsFront number b bs n true
number_front b bs n l a s = record { within = l; part = λ at. is_number_part a s }

pub line_front : (bs : List ℕ) (n : ℕ) → n ≤ length bs → list_all is_line_byte (take n bs) ≡ true → Stops is_line_byte (drop n bs) → IsFront line_comment 47 (47 ∷ bs) (n + 1) false
line_front bs n l a s =
    let e : suc n ≡ n + 1 = omega arith in
    subst (λ z. IsFront line_comment 47 (47 ∷ bs) z false) e (record { within = omega arith; part = λ at. is_line_part a s })

pub comment_front : (bs : List ℕ) (n : ℕ) → n ≤ length bs → IsComment (take n bs) → IsFront comment 47 (42 ∷ bs) (n + 1) false
comment_front bs n l c =
    let e : suc n ≡ n + 1 = omega arith in
    subst (λ z. IsFront comment 47 (42 ∷ bs) z false) e (record { within = omega arith; part = λ at. is_comment_part c })

drop_none : {X : Type 0} (xs : List X) → drop (length xs) xs ≡ []
drop_none [] = refl
drop_none (x ∷ xs) = drop_none xs

pub open_front : (bs : List ℕ) → NoComment bs → IsFront comment 47 (42 ∷ bs) (length bs + 1) true
open_front bs c =
    let e : suc (length bs) ≡ length bs + 1 = omega arith in
    let t : take (length bs) bs ≡ bs = take_all (length bs) bs (omega arith) in
    subst (λ z. IsFront comment 47 (42 ∷ bs) z true) e
    (record {
      within = omega arith;
      part = λ at.
          (let P : List ℕ → Type 0 = λ z. IsPart comment at (47 ∷ 42 ∷ z) (drop (length bs) bs) (token at (47 ∷ 42 ∷ z) ∷ []) in
          let Q : List ℕ → Type 0 = λ z. IsPart comment at (47 ∷ 42 ∷ bs) z (token at (47 ∷ 42 ∷ bs) ∷ []) in
          subst P (sym t) (subst Q (sym (drop_none bs)) (is_open_part c)));
    })

-- ---- the words so far, whatever spells the rest
pub record Reached (bytes : List ℕ) (at : ℕ) (tokens : List Token) : Type 0 where
  pub within : at ≤ length bytes
  pub reads : (ts : List Token) → Spells at (drop at bytes) ts → Spells 0 bytes (tokens ++ ts)

pub reached_none : (bytes : List ℕ) → Reached bytes 0 []
reached_none bytes = record { within = omega arith; reads = λ ts s. s }

pub reached_more : (bytes : List ℕ) (at n : ℕ) (tokens : List Token) (w : Bool) → at < length bytes → Reached bytes at tokens
    → IsFront (form_of (get_or bytes at 0) (drop (suc at) bytes)) (get_or bytes at 0) (drop (suc at) bytes) n w
    → Reached bytes (at + 1 + n) (tokens ++ tokens_if w at (get_or bytes at 0 ∷ take n (drop (suc at) bytes)))
reached_more bytes at n tokens w l r f =
    let b = get_or bytes at 0 in
    let D = drop (suc at) bytes in
    let size : length D ≡ length bytes - suc at = length-drop (suc at) bytes in
    let k = f.within in
    let split : take n D ++ drop n D ≡ D = take-append-drop n D in
    let whole : b ∷ (take n D ++ drop n D) ≡ drop at bytes = ap (λ z. b ∷ z) split ∙ sym (drop-cons bytes at 0 l) in
    let moved : drop n D ≡ drop (at + 1 + n) bytes = drop-drop n (suc at) bytes ∙ ap (λ z. drop z bytes) (omega arith) in
    let place : at + 1 + n ≡ at + length (b ∷ take n D) = omega (arith, length-take-le n D k) in
    let us = tokens_if w at (b ∷ take n D) in
    let P : List ℕ → Type 0 = λ z. IsPart (form_of b z) at (b ∷ take n D) (drop n D) us in
    let p = subst P (sym split) (f.part at) in
    record {
      within = omega (arith, size, k);
      reads = λ ts s.
          (let S : List ℕ → Type 0 = λ z. Spells (at + 1 + n) z ts in
          let s1 : Spells (at + 1 + n) (drop n D) ts = subst S (sym moved) s in
          let s2 : Spells (at + length (b ∷ take n D)) (drop n D) ts = subst (λ z. Spells z (drop n D) ts) place s1 in
          let s3 : Spells at (b ∷ (take n D ++ drop n D)) (us ++ ts) = spells_more p s2 in
          let s4 : Spells at (drop at bytes) (us ++ ts) = subst (λ z. Spells at z (us ++ ts)) whole s3 in
          subst (λ z. Spells 0 bytes z) (sym (append_assoc tokens us ts)) (r.reads (us ++ ts) s4));
    }

drop_past : {X : Type 0} (n : ℕ) (xs : List X) → length xs ≤ n → drop n xs ≡ []
drop_past zero [] l = refl
drop_past zero (x ∷ xs) l = absurd (omega arith)
drop_past (suc n) [] l = refl
drop_past (suc n) (x ∷ xs) l = drop_past n xs (omega arith)

pub reached_all : (bytes : List ℕ) (at : ℕ) (tokens : List Token) → length bytes ≤ at → Reached bytes at tokens → Spells 0 bytes tokens
reached_all bytes at tokens l r =
    let S : List ℕ → Type 0 = λ z. Spells at z [] in
    subst (λ z. Spells 0 bytes z) (append-nil tokens) (r.reads [] (subst S (sym (drop_past at bytes l)) spells_none))

-- ---- the forms
pub front_at : {f g : Form} (b : ℕ) (bs : List ℕ) (n m : ℕ) (w v : Bool) → IsFront f b bs n w → g ≡ f → m ≡ n → v ≡ w → IsFront g b bs m v
front_at {f} {g} b bs n m w v h e i j =
    subst (λ z. IsFront z b bs m v) (sym e) (subst (λ z. IsFront f b bs z v) (sym i) (subst (λ z. IsFront f b bs n z) (sym j) h))

pub line_form : (next : ℕ) (bs : List ℕ) (n m : ℕ) (v : Bool) → next ≡ 47 → IsFront line_comment 47 (47 ∷ bs) n false → m ≡ n → v ≡ false → IsFront (slash_form (next ∷ bs)) 47 (next ∷ bs) m v
line_form next bs n m v e h i j =
    let P : ℕ → Type 0 = λ z. IsFront (slash_form (z ∷ bs)) 47 (z ∷ bs) m v in
    subst P (sym e) (front_at 47 (47 ∷ bs) n m false v h refl i j)

pub lone_slash : (next : ℕ) (bs : List ℕ) → (next ≡ 47 → ⊥) → (next ≡ 42 → ⊥) → slash_form (next ∷ bs) ≡ single
lone_slash next bs a b = (let e = ne_eqb next 47 a in let f = ne_eqb next 42 b in rw (e, f) refl)

pub empty_slash : (bs : List ℕ) → length bs < 1 → slash_form bs ≡ single
empty_slash [] l = refl
empty_slash (b ∷ bs) l = absurd (omega arith)

pub no_slash : (b : ℕ) (bs : List ℕ) → (b ≡ 47 → ⊥) → sign_form b bs ≡ (if (nat_eq b 61 || nat_eq b 60) && begins 61 bs then pair else single)
no_slash b bs a = (let e = ne_eqb b 47 a in rw e refl)

pub pair_at : (b : ℕ) (bs : List ℕ) (t : Bool) → (b ≡ 47 → ⊥) → t ≡ ((nat_eq b 61 || nat_eq b 60) && begins 61 bs) → t ≡ true → IsFront (sign_form b bs) b bs 1 true
pair_at b [] t a e f =
    let k = and_parts (nat_eq b 61 || nat_eq b 60) false (sym e ∙ f) in
    absurd (false≢true k.1)
pair_at b (c ∷ bs) t a e f =
    let g : sign_form b (c ∷ bs) ≡ pair = no_slash b (c ∷ bs) a ∙ (let h : ((nat_eq b 61 || nat_eq b 60) && begins 61 (c ∷ bs)) ≡ true = sym e ∙ f in rw h refl) in
    front_at b (c ∷ bs) 1 1 true true (pair_front b c bs) g refl refl

pub single_at : (b : ℕ) (bs : List ℕ) (t : Bool) → (b ≡ 47 → ⊥) → t ≡ ((nat_eq b 61 || nat_eq b 60) && begins 61 bs) → t ≡ false → sign_form b bs ≡ single
single_at b bs t a e f = no_slash b bs a ∙ (let h : ((nat_eq b 61 || nat_eq b 60) && begins 61 bs) ≡ false = sym e ∙ f in rw h refl)

pub space_at : (b : ℕ) (bs : List ℕ) (t : Bool) → t ≡ is_space b → t ≡ true → form_of b bs ≡ space
space_at b bs t e f = (let h : is_space b ≡ true = sym e ∙ f in rw h refl)

pub name_at : (b : ℕ) (bs : List ℕ) (s t : Bool) → s ≡ is_space b → s ≡ false → t ≡ is_opening b → t ≡ true → form_of b bs ≡ name
name_at b bs s t d c e f = (let g : is_space b ≡ false = sym d ∙ c in let h : is_opening b ≡ true = sym e ∙ f in rw (g, h) refl)

pub number_at : (b : ℕ) (bs : List ℕ) (s t u : Bool) → s ≡ is_space b → s ≡ false → t ≡ is_opening b → t ≡ false → u ≡ is_digit b → u ≡ true → form_of b bs ≡ number
number_at b bs s t u d c e f h k = (let g : is_space b ≡ false = sym d ∙ c in let l : is_opening b ≡ false = sym e ∙ f in let m : is_digit b ≡ true = sym h ∙ k in rw (g, l, m) refl)

-- one part more, as the loop has it
pub step : (bytes : List ℕ) (at n to : ℕ) (tokens new : List Token) (w : Bool) → at < length bytes → Reached bytes at tokens → to ≡ at + 1 + n
    → IsFront (form_of (get_or bytes at 0) (take (length bytes - (at + 1)) (drop (at + 1) bytes))) (get_or bytes at 0) (take (length bytes - (at + 1)) (drop (at + 1) bytes)) n w
    → new ≡ tokens ++ tokens_if w at (take (to - at) (drop at bytes)) → Reached bytes (at + 1 + n) new
step bytes at n to tokens new w l r t f e =
    let k : at + 1 ≡ suc at = omega arith in
    let f1 : IsFront (form_of (get_or bytes at 0) (drop (at + 1) bytes)) (get_or bytes at 0) (drop (at + 1) bytes) n w =
    at_rest (λ z. IsFront (form_of (get_or bytes at 0) z) (get_or bytes at 0) z n w) (at + 1) bytes f in
    let f2 : IsFront (form_of (get_or bytes at 0) (drop (suc at) bytes)) (get_or bytes at 0) (drop (suc at) bytes) n w =
    subst (λ z. IsFront (form_of (get_or bytes at 0) (drop z bytes)) (get_or bytes at 0) (drop z bytes) n w) k f1 in
    let m : to - at ≡ suc n = omega arith in
    let s : take (to - at) (drop at bytes) ≡ get_or bytes at 0 ∷ take n (drop (suc at) bytes) = ap (λ z. take z (drop at bytes)) m ∙ ap (λ z. take (suc n) z) (drop-cons bytes at 0 l) in
    subst (λ z. Reached bytes (at + 1 + n) z) (sym (e ∙ ap (λ z. tokens ++ tokens_if w at z) s)) (reached_more bytes at n tokens w l r f2)
