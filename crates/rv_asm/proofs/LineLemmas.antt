-- Facts on the text of the rows in which an interrupt line is raised.
use Rattle.std.proofs.Common.{◌≡◌, ◌≢◌, ℕ, suc, ◌≤◌, List, [], ◌∷◌, ◌++◌, length, Some, refl, sym, ap, ◌∙◌, subst, arith, inl, inr}
use Rattle.std.specs.Prelude.{slice_get, map}
use Rattle.std.proofs.Common.{length-append, take, drop}
use Rattle.rv_waits.specs.Lines.{behind, Ascending}
use Rattle.rv_asm.specs.declared.image_text.TextErr.{TextErr}
use Rattle.rv_asm.specs.declared.image_text.TextErr.TheVariants.{At, Memory}
use Rattle.rv_asm.specs.NumbersText.{parts_of, words_among, words_of}
use Rattle.rv_asm.specs.LinesText.{row_in, AreRows, IsLinesText, IsRowRefused, IsBadRow, IsRowRefusal, IsLinesRefusal}
use Rattle.rv_asm.proofs.NumberLemmas.{counted, words_at, all_numbers, one_list, reached}

-- rows that ascend, one among others
ascending_at : (least : ℕ) (front : List ℕ) (row : ℕ) (rest : List ℕ) → Ascending least (front ++ row ∷ rest) → behind least front ≤ row
ascending_at least [] row rest h = h.0
ascending_at least (n ∷ front) row rest h = ascending_at (suc n) front row rest h.2

-- the first word that is refused, in the text
bad_row : (bytes lines : List ℕ) (i number : ℕ) (part : List ℕ) → slice_get (parts_of bytes) i ≡ Some part → part ≢ []
    → AreRows (words_among (take i (parts_of bytes))) lines → Ascending 0 lines → length lines ≤ 4096 → number ≡ length lines → IsRowRefused lines part → IsBadRow bytes number
bad_row bytes lines i number part h some are above few n why =
    record {
      before = words_among (take i (parts_of bytes));
      word = part;
      behind = words_among (drop (suc i) (parts_of bytes));
      lines = lines;
      words = words_at (parts_of bytes) i part h some;
      number_is = n ∙ sym (counted row_in (words_among (take i (parts_of bytes))) lines are);
      rows_are = are;
      ascending = above;
      few = few;
      refused = why;
    }

pub all_rows : (bytes lines : List ℕ) (i : ℕ) → AreRows (words_among (take i (parts_of bytes))) lines → length (parts_of bytes) ≤ i → Ascending 0 lines → length lines ≤ 4096
    → IsLinesText bytes lines
all_rows bytes lines i are le above few = record { rows_are = all_numbers row_in (parts_of bytes) lines i are le; ascending = above; few = few }

pub one_text : (bytes xs ys : List ℕ) → IsLinesText bytes xs → IsLinesText bytes ys → xs ≡ ys
one_text bytes xs ys x y = one_list row_in (words_of bytes) xs ys x.rows_are y.rows_are

-- a text of rows has no refused word
pub text_not_refused : (bytes lines : List ℕ) (number : ℕ) → IsLinesText bytes lines → IsBadRow bytes number → ⊥
text_not_refused bytes lines number text bad =
    let r = reached row_in bad.before bad.word bad.behind bad.lines lines bad.rows_are (sym (ap (map row_in) bad.words) ∙ text.rows_are) in
    elim bad.refused [
      | inl low ↦
          let below = low r.number r.is in
          let above = ascending_at 0 bad.lines r.number r.rest (subst (λ l. Ascending 0 l) r.all_are text.ascending) in
          absurd (omega (arith, below, above))
      | inr full ↦
          let l = ap length r.all_are ∙ length-append bad.lines (r.number ∷ r.rest) in
          let few = text.few in
          absurd (omega (arith, l, full, few))
    ]

-- what a refusal of a word says of the text
pub refused_in : (bytes lines : List ℕ) (i : ℕ) (part : List ℕ) (e : TextErr) → slice_get (parts_of bytes) i ≡ Some part → part ≢ []
    → AreRows (words_among (take i (parts_of bytes))) lines → Ascending 0 lines → length lines ≤ 4096 → IsRowRefusal lines part e → IsLinesRefusal bytes e
refused_in bytes lines i part (At number) h some are above few why = bad_row bytes lines i number part h some are above few why.0 why.1
refused_in bytes lines i part Memory h some are above few why = tt

pub only_memory : (bytes lines : List ℕ) (e : TextErr) → IsLinesText bytes lines → IsLinesRefusal bytes e → e ≡ Memory
only_memory bytes lines (At number) text bad = absurd (text_not_refused bytes lines number text bad)
only_memory bytes lines Memory text bad = refl
