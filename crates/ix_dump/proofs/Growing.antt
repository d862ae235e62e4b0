-- Dumps with one more row, and one that was written out by hand.
use Rattle.std.proofs.Common.{◌≡◌, ◌≢◌, ◌∙◌, refl, sym, ap, ℕ, suc, ◌+◌, List, [], ◌∷◌, ◌++◌, append_assoc, length, Option, Some, None, true, false, arith}
use Rattle.std.specs.Fmt.{digits}
use Rattle.std.specs.Str.{bytes_eq}
use Rattle.std.proofs.lemmas.List.{append-nil}
use Rattle.ix_dump.specs.Dump.{binary_digits, dump_text, dump_widths, head_text, row_text, rows_text}
use Rattle.ix_dump.specs.Hand.{hand_text, other_byte, shown_again, three_rows, two_nets}
use Rattle.ix_dump.specs.Laws.{DumpsGrow, last_row}

rows_more : (wide : List ℕ) (number : ℕ) (before : Option (List ℕ)) (rows : List (List ℕ)) (now : List ℕ)
    → rows_text wide number before (rows ++ now ∷ []) ≡ rows_text wide number before rows ++ row_text wide (number + length rows) (last_row before rows) now
rows_more wide number before [] now =
    let e : number ≡ number + 0 = omega arith in append-nil (row_text wide number before now) ∙ ap (λ n. row_text wide n before now) e
rows_more wide number before (row ∷ rows) now =
    let e : suc number + length rows ≡ number + length (row ∷ rows) = omega arith in
    ap (λ l. row_text wide number before row ++ l) (rows_more wide (suc number) (Some row) rows now)
    ∙ ap (λ n. row_text wide number before row ++ (rows_text wide (suc number) (Some row) rows ++ row_text wide n (last_row (Some row) rows) now)) e
    ∙ sym (append_assoc (row_text wide number before row) (rows_text wide (suc number) (Some row) rows)
    (row_text wide (number + length (row ∷ rows)) (last_row (Some row) rows) now))

pub grow : DumpsGrow
unfolding dump_text
grow = record {
  head = λ nets. append-nil (head_text nets);
  more = λ nets rows now.
      let e : 0 + length rows ≡ length rows = omega arith in
      ap (λ l. head_text nets ++ l) (rows_more (dump_widths nets) 0 None rows now)
      ∙ sym (append_assoc (head_text nets) (rows_text (dump_widths nets) 0 None rows) (row_text (dump_widths nets) (0 + length rows) (last_row None rows) now))
      ∙ ap (λ n. head_text nets ++ rows_text (dump_widths nets) 0 None rows ++ row_text (dump_widths nets) n (last_row None rows) now) e;
}

pub by_hand : dump_text two_nets three_rows ≡ hand_text
unfolding dump_text binary_digits digits
by_hand = refl

pub not_other_byte : dump_text two_nets three_rows ≢ other_byte
not_other_byte = λ e. let f : true ≡ false = ap (λ l. bytes_eq hand_text l) (sym by_hand ∙ e) in cc

pub not_shown_again : dump_text two_nets three_rows ≢ shown_again
not_shown_again = λ e. let f : true ≡ false = ap (λ l. bytes_eq hand_text l) (sym by_hand ∙ e) in cc
