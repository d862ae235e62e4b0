-- Lines that are printed to be compared.
use Rattle.std.proofs.Common.{◌≡◌, ◌∙◌, refl, sym, ap, ℕ, ◌+◌, ◌-◌, ◌<◌, ◌≤◌, List, [], ◌++◌, take, drop, length, Some, Bool, true, false, append_assoc, length-append, arith}
use Rattle.std.specs.Prelude.{codes, decimal, ◌&&◌}
use Rattle.std.proofs.lemmas.List.{append-nil, drop_at, take_at, take-append-drop}
use Rattle.std.proofs.Math.Seq.{drop-append-add}
use Rattle.ix_io.specs.Out.{hex_digits}
use Rattle.rv_seq.specs.declared.commit.Commit.{Commit}
use Rattle.rv_lawful.specs.Outstanding.{Written}
use Rattle.rv_trace.specs.TraceText.{hex_word_text, x_write_text, custom_writes_text, retired_text, written_text}
use Rattle.rv_past.specs.Making.{retiring_with}

-- what stands behind the serial in the line of outstanding writes
abbrev pub tail_of : Written → List ℕ
tail_of w = (x_write_text w.1 w.2 ++ custom_writes_text 0 w.3) ++ codes "\n"

-- what stands before it
abbrev pub head_of : Written → List ℕ
head_of w = codes "+ " ++ decimal w.0

-- and what stands before the writes of a retirement
abbrev pub front_of : Written → List ℕ
front_of w = codes "= " ++ decimal w.0 ++ codes " 00000000 00000000"

pub written_parts : (w : Written) → written_text (Some w) ≡ head_of w ++ tail_of w
written_parts w = grouped (codes "+ " ++ decimal w.0) (x_write_text w.1 w.2) (custom_writes_text 0 w.3) (codes "\n") where
  grouped : (h x c n : List ℕ) → h ++ x ++ c ++ n ≡ h ++ ((x ++ c) ++ n)
  grouped h x c n = ap (λ l. l ++ n) (append_assoc h x c) ∙ append_assoc h (x ++ c) n

two_words : codes " " ++ hex_word_text 0 ++ codes " " ++ hex_word_text 0 ≡ codes " 00000000 00000000"
unfolding hex_digits
two_words = refl

regrouped : (h s z : List ℕ) → h ++ s ++ z ++ s ++ z ≡ h ++ (s ++ z ++ s ++ z)
regrouped h s z =
    ap (λ l. l ++ z) (ap (λ l. l ++ s) (append_assoc h s z) ∙ append_assoc h (s ++ z) s)
    ∙ append_assoc h (s ++ z ++ s) z

retired_parts : (w : Written) → retired_text (Some (retiring_with w)) ≡ front_of w ++ tail_of w
retired_parts w =
    pieces (codes "= " ++ decimal w.0) (codes " ") (hex_word_text 0) (x_write_text w.1 w.2) (custom_writes_text 0 w.3) (codes "\n")
    ∙ ap (λ z. (codes "= " ++ decimal w.0 ++ z) ++ tail_of w) two_words where
      pieces : (h s z x c n : List ℕ) → h ++ s ++ z ++ s ++ z ++ (x ++ c ++ [] ++ []) ++ n ≡ (h ++ (s ++ z ++ s ++ z)) ++ ((x ++ c) ++ n)
      pieces h s z x c n =
          ap (λ l. h ++ s ++ z ++ s ++ z ++ l ++ n) (append-nil (x ++ c ++ []) ∙ append-nil (x ++ c))
          ∙ append_assoc (h ++ s ++ z ++ s ++ z) (x ++ c) n
          ∙ ap (λ l. l ++ ((x ++ c) ++ n)) (regrouped h s z)

-- ---- a page on which these were printed, one behind the other

module _ (w : Written) (old : List ℕ) where
  -- up to the writes of the retirement
  abbrev pub page : List ℕ
  page = old ++ codes "+ " ++ decimal w.0 ++ codes " 00000000 00000000"

  front_long : length (front_of w) ≡ length page - length old
  front_long =
      let a = length-append (codes "= " ++ decimal w.0) (codes " 00000000 00000000") in
      let b = length-append (codes "= ") (decimal w.0) in
      let c = length-append (old ++ codes "+ " ++ decimal w.0) (codes " 00000000 00000000") in
      let d = length-append (old ++ codes "+ ") (decimal w.0) in
      let e = length-append old (codes "+ ") in
      omega (arith, a, b, c, d, e)

  pub head_there : (rest : List ℕ) → take (length (old ++ codes "+ " ++ decimal w.0) - length old) (drop (length old) (old ++ codes "+ " ++ decimal w.0 ++ codes " 00000000 00000000" ++ rest)) ≡ head_of w
  head_there rest =
      let d = decimal w.0 in
      let zeros = codes " 00000000 00000000" in
      let whole : old ++ codes "+ " ++ d ++ zeros ++ rest ≡ old ++ (head_of w ++ (zeros ++ rest)) =
      append_assoc (old ++ codes "+ " ++ d) zeros rest ∙ ap (λ l. l ++ (zeros ++ rest)) (append_assoc old (codes "+ ") d) ∙ append_assoc old (head_of w) (zeros ++ rest) in
      let sum : length (old ++ codes "+ " ++ d) ≡ length old + length (head_of w) = ap (λ (l : List ℕ). length l) (append_assoc old (codes "+ ") d) ∙ length-append old (head_of w) in
      let long : length (head_of w) ≡ length (old ++ codes "+ " ++ d) - length old = omega (arith, sum) in
      ap (λ l. take (length (old ++ codes "+ " ++ d) - length old) (drop (length old) l)) whole
      ∙ ap (λ l. take (length (old ++ codes "+ " ++ d) - length old) l) (drop_at old (head_of w ++ (zeros ++ rest)) (length old) refl)
      ∙ take_at (head_of w) (zeros ++ rest) (length (old ++ codes "+ " ++ d) - length old) long

  pub tail_there : drop (length page + (length page - length old)) (page ++ retired_text (Some (retiring_with w))) ≡ tail_of w
  tail_there =
      drop-append-add page (retired_text (Some (retiring_with w))) (length page - length old)
      ∙ ap (λ l. drop (length page - length old) l) (retired_parts w)
      ∙ drop_at (front_of w) (tail_of w) (length page - length old) front_long

  pub tail_inside : length page + (length page - length old) ≤ length (page ++ retired_text (Some (retiring_with w)))
  tail_inside =
      let a = length-append page (retired_text (Some (retiring_with w))) in
      let b : length (retired_text (Some (retiring_with w))) ≡ length (front_of w) + length (tail_of w) = ap (λ (l : List ℕ). length l) (retired_parts w) ∙ length-append (front_of w) (tail_of w) in
      let c = front_long in
      omega (arith, a, b, c)

-- a line in two parts

pub both_to : (a b : Bool) (line head tail : List ℕ) → (a ≡ true → take (length head) line ≡ head) → (b ≡ true → drop (length head) line ≡ tail) → (a && b) ≡ true → line ≡ head ++ tail
both_to true true line head tail f g e = sym (take-append-drop (length head) line) ∙ ap (λ l. l ++ drop (length head) line) (f refl) ∙ ap (λ l. head ++ l) (g refl)
both_to true false line head tail f g e = absurd cc
both_to false b line head tail f g e = absurd cc

pub both_from : (a b : Bool) (line head tail : List ℕ) → (take (length head) line ≡ head → a ≡ true) → (drop (length head) line ≡ tail → b ≡ true) → line ≡ head ++ tail → (a && b) ≡ true
both_from a b line head tail f g e =
    ap (λ c. c && b) (f (ap (λ l. take (length head) l) e ∙ take_at head tail (length head) refl))
    ∙ g (ap (λ l. drop (length head) l) e ∙ drop_at head tail (length head) refl)

pub too_short : (line head tail : List ℕ) → length line < length head → line ≡ head ++ tail → ⊥
too_short line head tail lt e =
    let long : length line ≡ length head + length tail = ap (λ (l : List ℕ). length l) e ∙ length-append head tail in
    omega (arith, lt, long)

-- ---- from what was printed to the line

abbrev cut : ℕ → ℕ → ℕ → List ℕ → List ℕ
cut start named printed bytes = take (named - start) (drop start bytes) ++ drop (printed + (printed - start)) bytes

module _ (w : Written) (old a b c d bytes : List ℕ) (start named printed : ℕ) (r : ℕ × Commit) (plus : a ≡ old ++ codes "+ ") (number : b ≡ a ++ decimal w.0) (zeros : c ≡ b ++ codes " 00000000 00000000")
    (retiring : r ≡ retiring_with w) (line : d ≡ c ++ retired_text (Some r)) (at_start : start ≡ length old) (at_named : named ≡ length b) (at_printed : printed ≡ length c) (whole : bytes ≡ d) where
  named_is : b ≡ old ++ codes "+ " ++ decimal w.0
  named_is = number ∙ ap (λ l. l ++ decimal w.0) plus

  page_is : c ≡ page w old
  page_is = zeros ∙ ap (λ l. l ++ codes " 00000000 00000000") named_is

  bytes_are : bytes ≡ page w old ++ retired_text (Some (retiring_with w))
  bytes_are = whole ∙ line ∙ ap (λ l. l ++ retired_text (Some r)) page_is ∙ ap (λ (z : ℕ × Commit). page w old ++ retired_text (Some z)) retiring

  pub line_is : take (named - start) (drop start bytes) ++ drop (printed + (printed - start)) bytes ≡ written_text (Some w)
  line_is =
      let all = page w old ++ retired_text (Some (retiring_with w)) in
      ap (λ l. cut start named printed l) bytes_are
      ∙ ap (λ n. cut n named printed all) at_start
      ∙ ap (λ n. cut (length old) n printed all) (at_named ∙ ap (λ (l : List ℕ). length l) named_is)
      ∙ ap (λ n. cut (length old) (length (old ++ codes "+ " ++ decimal w.0)) n all) (at_printed ∙ ap (λ (l : List ℕ). length l) page_is)
      ∙ ap (λ l. l ++ drop (length (page w old) + (length (page w old) - length old)) all) (head_there w old (retired_text (Some (retiring_with w))))
      ∙ ap (λ l. head_of w ++ l) (tail_there w old)
      ∙ sym (written_parts w)

  long_bytes : length bytes ≡ length (page w old ++ retired_text (Some (retiring_with w)))
  long_bytes = ap (λ (l : List ℕ). length l) bytes_are

  long_page : printed ≡ length (page w old)
  long_page = at_printed ∙ ap (λ (l : List ℕ). length l) page_is

  long_named : named ≡ length (old ++ codes "+ " ++ decimal w.0)
  long_named = at_named ∙ ap (λ (l : List ℕ). length l) named_is

  pub in_order : start ≤ named
  in_order =
      let e = length-append (old ++ codes "+ ") (decimal w.0) in
      let f = length-append old (codes "+ ") in
      omega (arith, long_named, at_start, e, f)

  pub inside : named ≤ length bytes
  inside =
      let e = length-append (old ++ codes "+ " ++ decimal w.0) (codes " 00000000 00000000") in
      let f = length-append (page w old) (retired_text (Some (retiring_with w))) in
      omega (arith, long_named, long_bytes, e, f)

  pub behind : printed + (printed - start) ≤ length bytes
  behind =
      let e = tail_inside w old in
      omega (arith, long_page, long_bytes, at_start, e)
