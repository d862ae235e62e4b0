-- Marks are read as they are printed.
use Rattle.std.proofs.Common.{◌≡◌, ℕ, zero, suc, ◌≤◌, ◌==◌, inl, inr, List, [], ◌∷◌, ◌++◌, length, refl, sym, ap, ◌∙◌, subst, arith, lit<, append_assoc, Option, Some, None, Bool, true, false}
use Rattle.std.specs.Prelude.{decimal, codes, if◌then◌else◌, not, nat_lt}
use Rattle.std.specs.List.{flat_map}
use Rattle.std.specs.Str.{bytes_eq}
use Rattle.std.proofs.lemmas.Bool.{cases_Bool, le-ltb, ltb-false}
use Rattle.std.proofs.lemmas.List.{append-nil}
use Rattle.ix_io.specs.Out.{hex_digits}
use Rattle.rv_trace.specs.TraceText.{mark_text, redirect_text, row_stop_text, stop_text}
use Rattle.rv_seq.specs.declared.commit.Stop.{Stop}
use Rattle.rv_seq.specs.declared.commit.Stop.TheVariants.{Ecall, Ebreak, Illegal, Fetch, Misaligned, DataRange, Target as target_stop}
use Rattle.rv_shown.specs.Shown.{flushed_text}
use Rattle.rv_reader.specs.Words.{Free, and_then, until, from, behind_in, number_in, digits_in}
use Rattle.rv_reader.specs.Rows.{marked, mark_in, flushed_behind, flushed_from, redirected, stop_named, stop_in}
use Rattle.rv_reader.specs.Forms.{IsWord, IsMark, Ascend}
use Rattle.rv_reader.proofs.Readings.{BeginsWith, taken, some_one, until_from, behind_sound, same_bytes, number_back, number_sound, digits_back, digits_sound, digits_small}
use Rattle.rv_reader.proofs.Frees.{IsOut, free_word, free_hex, until_begin, from_begin}

space_out : IsOut 32
space_out = inl (omega arith)

feed_out : IsOut 10
feed_out = inl (omega arith)

-- ---- a text does not begin with a space and this letter
abbrev pub is_other : ℕ → List ℕ → Bool
is_other letter [] = true
is_other letter (a ∷ []) = true
is_other letter (a ∷ b ∷ rest) = not (letter == b)

pub not_behind : (letter : ℕ) (text : List ℕ) → is_other letter text ≡ true → behind_in (32 ∷ letter ∷ []) text ≡ None
unfolding behind_in
not_behind letter [] e = refl
not_behind letter (a ∷ []) e = elim (cases_Bool (32 == a)) [ inl here ↦ rw here refl | inr other ↦ rw other refl ]
not_behind letter (a ∷ b ∷ rest) e = elim (cases_Bool (32 == a)) [
  | inl here ↦ rw (here, is_not (letter == b) e) refl
  | inr other ↦ rw other refl
]
  where
    is_not : (u : Bool) → not u ≡ true → u ≡ false
    is_not true e = absurd cc
    is_not false e = refl

-- ---- a mark with a serial
pub mark_back : (letter : ℕ) (m : Option ℕ) (rest : List ℕ) → IsMark m → BeginsWith 32 rest → is_other letter rest ≡ true
    → ((t : List ℕ) → behind_in (32 ∷ letter ∷ []) (32 ∷ letter ∷ t) ≡ Some t) → mark_in (32 ∷ letter ∷ []) (mark_text (32 ∷ letter ∷ []) m ++ rest) ≡ Some (m, rest)
mark_back letter None rest h b o f = ap (λ x. marked x rest) (not_behind letter rest o)
mark_back letter (Some s) rest h b o f =
    let free : Free 32 (decimal s) = free_word 32 s space_out h in
    ap (λ x. marked x (32 ∷ letter ∷ (decimal s ++ rest))) (f (decimal s ++ rest))
    ∙ ap (λ t. and_then (number_in 4294967295 t) (λ serial. Some (Some serial, from 32 (decimal s ++ rest)))) (until_begin 32 (decimal s) rest free b)
    ∙ ap (λ x. and_then x (λ serial. Some (Some serial, from 32 (decimal s ++ rest)))) (number_back 4294967295 s h (lit< tt))
    ∙ ap (λ t. Some (Some s, t)) (from_begin 32 (decimal s) rest free b)

abbrev IsMarkRead : List ℕ → List ℕ → Option ℕ × List ℕ → Type 0
IsMarkRead front text found = IsMark found.0 × (mark_text front found.0 ++ found.1 ≡ text)

pub mark_sound : (front text : List ℕ) (found : Option ℕ × List ℕ) → mark_in front text ≡ Some found → IsMarkRead front text found
mark_sound front text found e = by_option (behind_in front text) refl e where
  by_option : (o : Option (List ℕ)) → behind_in front text ≡ o → marked o text ≡ Some found → IsMarkRead front text found
  by_option None h f = subst (IsMarkRead front text) (some_one (None, text) found f) (tt, refl)
  by_option (Some rest) h f =
      let t = taken (number_in 4294967295 (until 32 rest)) (λ serial. Some (Some serial, from 32 rest)) found f in
      let s = number_sound 4294967295 (until 32 rest) t.0 t.1 in
      subst (IsMarkRead front text) (some_one (Some t.0, from 32 rest) found t.2)
      (s.0, append_assoc front (decimal t.0) (from 32 rest) ∙ ap (λ w. front ++ (w ++ from 32 rest)) s.1 ∙ ap (λ w. front ++ w) (until_from 32 rest) ∙ sym (behind_sound front text rest h))

-- ---- flushed serials
pub flushed_back : (n low : ℕ) (serials so_far rest : List ℕ) → length serials ≤ n → Ascend low serials → BeginsWith 32 rest → is_other 102 rest ≡ true → flushed_from n low so_far (flat_map flushed_text serials ++ rest) ≡ Some (so_far ++ serials, rest)
unfolding flushed_from behind_in
flushed_back zero low [] so_far rest l h b o = ap (λ t. Some (t, rest)) (sym (append-nil so_far))
flushed_back zero low (s ∷ serials) so_far rest l h b o = absurd (omega (arith, l))
flushed_back (suc n) low [] so_far rest l h b o = ap (λ x. flushed_behind (flushed_from n) low so_far rest x) (not_behind 102 rest o) ∙ ap (λ t. Some (t, rest)) (sym (append-nil so_far))
flushed_back (suc n) low (s ∷ serials) so_far rest l h b o =
    let left = flat_map flushed_text serials ++ rest in
    let text : flat_map flushed_text (s ∷ serials) ++ rest ≡ 32 ∷ 102 ∷ (decimal s ++ left) = ap (λ t. 32 ∷ 102 ∷ t) (append_assoc (decimal s) (flat_map flushed_text serials) rest) in
    let free : Free 32 (decimal s) = free_word 32 s space_out h.0 in
    let begins : BeginsWith 32 left = flushed_begin serials rest b in
    ap (λ t. flushed_from (suc n) low so_far t) text
    ∙ ap (λ t. and_then (number_in 4294967295 t) (λ serial. if nat_lt serial low then None else flushed_from n (suc serial) (so_far ++ serial ∷ []) (from 32 (decimal s ++ left)))) (until_begin 32 (decimal s) left free begins)
    ∙ ap (λ x. and_then x (λ serial. if nat_lt serial low then None else flushed_from n (suc serial) (so_far ++ serial ∷ []) (from 32 (decimal s ++ left)))) (number_back 4294967295 s h.0 (lit< tt))
    ∙ ap (λ t. if t then None else flushed_from n (suc s) (so_far ++ s ∷ []) (from 32 (decimal s ++ left))) (le-ltb s low h.1)
    ∙ ap (λ t. flushed_from n (suc s) (so_far ++ s ∷ []) t) (from_begin 32 (decimal s) left free begins)
    ∙ flushed_back n (suc s) serials (so_far ++ s ∷ []) rest (omega (arith, l)) h.2 b o
    ∙ ap (λ t. Some (t, rest)) (append_assoc so_far (s ∷ []) serials)
  where
    flushed_begin : (serials : List ℕ) (rest : List ℕ) → BeginsWith 32 rest → BeginsWith 32 (flat_map flushed_text serials ++ rest)
    flushed_begin [] rest b = b
    flushed_begin (s ∷ serials) rest b = refl

pub record IsFlushedRead (n low : ℕ) (so_far text : List ℕ) (found : List ℕ × List ℕ) : Type 0 where
  pub serials : List ℕ
  pub are : found.0 ≡ so_far ++ serials
  pub few : length serials ≤ n
  pub good : Ascend low serials
  pub text_is : flat_map flushed_text serials ++ found.1 ≡ text

not_below : (s low : ℕ) → nat_lt s low ≡ false → low ≤ s
not_below s low e = ltb-false s low e

none_flushed : (n low : ℕ) (so_far text : List ℕ) (found : List ℕ × List ℕ) → Some (so_far, text) ≡ Some found → IsFlushedRead n low so_far text found
none_flushed n low so_far text found e = subst (IsFlushedRead n low so_far text) (some_one (so_far, text) found e) (record { serials = []; are = sym (append-nil so_far); few = omega arith; good = tt; text_is = refl })

module _ (n low : ℕ) (so_far text : List ℕ) (found : List ℕ × List ℕ) (more : (s : ℕ) (so_far text : List ℕ) → flushed_from n s so_far text ≡ Some found → IsFlushedRead n s so_far text found) where
  flushed_test : (s : ℕ) (rest : List ℕ) → IsWord s × (decimal s ≡ until 32 rest) → behind_in (codes " f") text ≡ Some rest → (b : Bool) → nat_lt s low ≡ b → (if b then None else flushed_from n (suc s) (so_far ++ s ∷ []) (from 32 rest)) ≡ Some found
      → IsFlushedRead (suc n) low so_far text found
  flushed_test s rest w h true l f = absurd cc
  flushed_test s rest w h false l f =
      let m = more (suc s) (so_far ++ s ∷ []) (from 32 rest) f in
      record {
        serials = s ∷ m.serials;
        are = m.are ∙ append_assoc so_far (s ∷ []) m.serials;
        few = omega (arith, m.few);
        good = (w.0, not_below s low l, m.good);
        text_is = append_assoc (flushed_text s) (flat_map flushed_text m.serials) found.1 ∙ ap (λ t. flushed_text s ++ t) m.text_is ∙ ap (λ t. 32 ∷ 102 ∷ (t ++ from 32 rest)) w.1 ∙ ap (λ t. 32 ∷ 102 ∷ t) (until_from 32 rest) ∙ sym (behind_sound (codes " f") text rest h);
      }

  flushed_option : (o : Option (List ℕ)) → behind_in (codes " f") text ≡ o → flushed_behind (flushed_from n) low so_far text o ≡ Some found → IsFlushedRead (suc n) low so_far text found
  flushed_option None h f = none_flushed (suc n) low so_far text found f
  flushed_option (Some rest) h f =
      let t = taken (number_in 4294967295 (until 32 rest)) (λ serial. if nat_lt serial low then None else flushed_from n (suc serial) (so_far ++ serial ∷ []) (from 32 rest)) found f in
      flushed_test t.0 rest (number_sound 4294967295 (until 32 rest) t.0 t.1) h (nat_lt t.0 low) refl t.2

pub flushed_sound : (n low : ℕ) (so_far text : List ℕ) (found : List ℕ × List ℕ) → flushed_from n low so_far text ≡ Some found → IsFlushedRead n low so_far text found
unfolding flushed_from
flushed_sound zero low so_far text found e = none_flushed 0 low so_far text found e
flushed_sound (suc n) low so_far text found e = flushed_option n low so_far text found (λ s so_far text f. flushed_sound n s so_far text found f) (behind_in (codes " f") text) refl e

-- ---- the redirect
pub redirect_back : (p : Option ℕ) (rest : List ℕ) → IsMark p → BeginsWith 32 rest → is_other 112 rest ≡ true → redirected (behind_in (codes " p") (redirect_text p ++ rest)) (redirect_text p ++ rest) ≡ Some (p, rest)
unfolding behind_in
redirect_back None rest h b o = ap (λ x. redirected x rest) (not_behind 112 rest o)
redirect_back (Some a) rest h b o =
    let free : Free 32 (hex_digits 8 a) = free_hex 32 8 a refl in
    ap (λ t. and_then (digits_in 8 t) (λ at. Some (Some at, from 32 (hex_digits 8 a ++ rest)))) (until_begin 32 (hex_digits 8 a) rest free b)
    ∙ ap (λ x. and_then x (λ at. Some (Some at, from 32 (hex_digits 8 a ++ rest)))) (digits_back 8 a (omega (arith, h)))
    ∙ ap (λ t. Some (Some a, t)) (from_begin 32 (hex_digits 8 a) rest free b)

abbrev IsRedirectRead : List ℕ → Option ℕ × List ℕ → Type 0
IsRedirectRead text found = IsMark found.0 × (redirect_text found.0 ++ found.1 ≡ text)

pub redirect_sound : (text : List ℕ) (found : Option ℕ × List ℕ) → redirected (behind_in (codes " p") text) text ≡ Some found → IsRedirectRead text found
redirect_sound text found e = by_option (behind_in (codes " p") text) refl e where
  by_option : (o : Option (List ℕ)) → behind_in (codes " p") text ≡ o → redirected o text ≡ Some found → IsRedirectRead text found
  by_option None h f = subst (IsRedirectRead text) (some_one (None, text) found f) (tt, refl)
  by_option (Some rest) h f =
      let t = taken (digits_in 8 (until 32 rest)) (λ at. Some (Some at, from 32 rest)) found f in
      let small = digits_small 8 (until 32 rest) t.0 t.1 in
      subst (IsRedirectRead text) (some_one (Some t.0, from 32 rest) found t.2)
      (omega (arith, small), ap (λ w. 32 ∷ 112 ∷ (w ++ from 32 rest)) (digits_sound 8 (until 32 rest) t.0 t.1) ∙ ap (λ w. 32 ∷ 112 ∷ w) (until_from 32 rest) ∙ sym (behind_sound (codes " p") text rest h))

-- ---- the stop
pub stop_back : (stop : Option Stop) → stop_in (row_stop_text stop) ≡ Some stop
unfolding stop_named behind_in
stop_back None = refl
stop_back (Some Ecall) = refl
stop_back (Some Ebreak) = refl
stop_back (Some Illegal) = refl
stop_back (Some Fetch) = refl
stop_back (Some Misaligned) = refl
stop_back (Some DataRange) = refl
stop_back (Some target_stop) = refl

named_sound : (word : List ℕ) (stop : Stop) → stop_named word ≡ Some stop → stop_text stop ≡ word
unfolding stop_named
named_sound word stop e = one (bytes_eq word (codes "Ecall")) refl e where
  found : (s : Stop) → Some s ≡ Some stop → bytes_eq word (stop_text s) ≡ true → stop_text stop ≡ word
  found s f t = ap stop_text (sym (some_one s stop f)) ∙ sym (same_bytes word (stop_text s) t)

  seven : (b : Bool) → bytes_eq word (codes "Target") ≡ b → (if b then Some target_stop else None) ≡ Some stop → stop_text stop ≡ word
  seven true t f = found target_stop f t
  seven false t f = absurd cc

  six : (b : Bool) → bytes_eq word (codes "DataRange") ≡ b → (if b then Some DataRange else if bytes_eq word (codes "Target") then Some target_stop else None) ≡ Some stop → stop_text stop ≡ word
  six true t f = found DataRange f t
  six false t f = seven (bytes_eq word (codes "Target")) refl f

  five : (b : Bool) → bytes_eq word (codes "Misaligned") ≡ b → (if b then Some Misaligned else if bytes_eq word (codes "DataRange") then Some DataRange else if bytes_eq word (codes "Target") then Some target_stop else None) ≡ Some stop → stop_text stop ≡ word
  five true t f = found Misaligned f t
  five false t f = six (bytes_eq word (codes "DataRange")) refl f

  four : (b : Bool) → bytes_eq word (codes "Fetch") ≡ b
      → (if b then Some Fetch else if bytes_eq word (codes "Misaligned") then Some Misaligned else if bytes_eq word (codes "DataRange") then Some DataRange else if bytes_eq word (codes "Target") then Some target_stop else None) ≡ Some stop → stop_text stop ≡ word
  four true t f = found Fetch f t
  four false t f = five (bytes_eq word (codes "Misaligned")) refl f

  three : (b : Bool) → bytes_eq word (codes "Illegal") ≡ b
      → (if b then Some Illegal else if bytes_eq word (codes "Fetch") then Some Fetch else if bytes_eq word (codes "Misaligned") then Some Misaligned else if bytes_eq word (codes "DataRange") then Some DataRange
      else if bytes_eq word (codes "Target") then Some target_stop else None) ≡ Some stop → stop_text stop ≡ word
  three true t f = found Illegal f t
  three false t f = four (bytes_eq word (codes "Fetch")) refl f

  two : (b : Bool) → bytes_eq word (codes "Ebreak") ≡ b
      → (if b then Some Ebreak else if bytes_eq word (codes "Illegal") then Some Illegal else if bytes_eq word (codes "Fetch") then Some Fetch else if bytes_eq word (codes "Misaligned") then Some Misaligned
      else if bytes_eq word (codes "DataRange") then Some DataRange else if bytes_eq word (codes "Target") then Some target_stop else None) ≡ Some stop → stop_text stop ≡ word
  two true t f = found Ebreak f t
  two false t f = three (bytes_eq word (codes "Illegal")) refl f

  one : (b : Bool) → bytes_eq word (codes "Ecall") ≡ b
      → (if b then Some Ecall else if bytes_eq word (codes "Ebreak") then Some Ebreak else if bytes_eq word (codes "Illegal") then Some Illegal else if bytes_eq word (codes "Fetch") then Some Fetch
      else if bytes_eq word (codes "Misaligned") then Some Misaligned else if bytes_eq word (codes "DataRange") then Some DataRange else if bytes_eq word (codes "Target") then Some target_stop else None) ≡ Some stop → stop_text stop ≡ word
  one true t f = found Ecall f t
  one false t f = two (bytes_eq word (codes "Ebreak")) refl f

pub stop_sound : (text : List ℕ) (stop : Option Stop) → stop_in text ≡ Some stop → row_stop_text stop ≡ text
stop_sound [] stop e = ap row_stop_text (sym (some_one None stop e))
stop_sound (b ∷ rest) stop e =
    let a = taken (behind_in (codes " stop ") (b ∷ rest)) (λ word. and_then (stop_named word) (λ stop. Some (Some stop))) stop e in
    let s = taken (stop_named a.0) (λ stop. Some (Some stop)) stop a.2 in
    ap row_stop_text (sym (some_one (Some s.0) stop s.2)) ∙ ap (λ w. codes " stop " ++ w) (named_sound a.0 s.0 s.1) ∙ sym (behind_sound (codes " stop ") (b ∷ rest) a.0 a.1)
