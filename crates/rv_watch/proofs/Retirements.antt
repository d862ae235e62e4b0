-- The lines of retirements and of outstanding writes that are made are in form.
use Rattle.std.proofs.Common.{◌≡◌, ℕ, suc, ◌+◌, ◌*◌, ◌/◌, ◌%◌, ◌<◌, ◌^◌, ◌==◌, inl, List, [], ◌∷◌, ◌++◌, refl, sym, ap, subst, arith, Option, Some, None, Bool, true, false}
use Rattle.std.specs.Prelude.{decimal, codes, if◌then◌else◌}
use Rattle.ix_bits.specs.declared.number.Bits.{Bits}
use Rattle.ix_io.specs.Out.{hex_digits}
use Rattle.ix_eval.specs.declared.access.Access.{Access}
use Rattle.rv_seq.specs.declared.commit.Slot.{Slot}
use Rattle.rv_seq.specs.declared.commit.Slot.TheVariants.{Absent, Now, Later}
use Rattle.rv_seq.specs.declared.commit.Commit.{Commit}
use Rattle.rv_trace.specs.TraceText.{x_write_text, custom_writes_text, store_text, next_text, retired_serial, retired_text, written_serial, written_text}
use Rattle.rv_reader.specs.Words.{Free}
use Rattle.rv_reader.specs.Forms.{IsWord, IsByte, IsLineOf, IsRetiredLine, IsWrittenLine}
use Rattle.rv_reader.proofs.Frees.{IsOut, free_join, free_by_test, free_word, free_byte, free_hex}
use Rattle.rv_reader.proofs.WriteLaws.{IsXSlot, AreSlots, IsStore, retired_words, retired_back, retired_is, written_back, written_is}
use Rattle.rv_watch.proofs.Hexes.{cut}

feed_out : IsOut 10
feed_out = inl (omega arith)

-- ---- an x register whose number is below 32
abbrev pub IsXNamed : Bool → ℕ → Slot ℕ → Type 0
IsXNamed late rd Absent = Unit {0}
IsXNamed late rd (Now v) = rd < 32
IsXNamed late rd Later = (rd < 32) × (late ≡ true)

-- the same text, of a value of 32 bits
abbrev cut_slot : Slot ℕ → Slot ℕ
cut_slot Absent = Absent
cut_slot (Now v) = Now (cut v).word
cut_slot Later = Later

byte_of : (n : ℕ) → n < 32 → IsByte n
byte_of n h = omega (arith, h)

cut_named : (late : Bool) (rd : ℕ) (slot : Slot ℕ) → IsXNamed late rd slot → IsXSlot late rd (cut_slot slot)
unfolding IsXSlot
cut_named late rd Absent h = tt
cut_named late rd (Now v) h = (byte_of rd h, h, (cut v).small)
cut_named late rd Later h = (byte_of rd h.0, h.0, h.1)

cut_text : (rd : ℕ) (slot : Slot ℕ) → x_write_text rd (cut_slot slot) ≡ x_write_text rd slot
cut_text rd Absent = refl
cut_text rd (Now v) = ap (λ t. codes " x" ++ decimal rd ++ codes "=" ++ t) (cut v).same
cut_text rd Later = refl

-- ---- no line feeds
x_free : (late : Bool) (rd : ℕ) (slot : Slot ℕ) → IsXNamed late rd slot → Free 10 (x_write_text rd slot)
x_free late rd Absent h = tt
x_free late rd (Now v) h =
    free_join 10 (codes " x" ++ decimal rd ++ codes "=") (hex_digits 8 v)
    (free_join 10 (codes " x" ++ decimal rd) (codes "=") (free_join 10 (codes " x") (decimal rd) (free_by_test 10 (codes " x") refl) (free_byte 10 rd feed_out (byte_of rd h))) (free_by_test 10 (codes "=") refl)) (free_hex 10 8 v refl)
x_free late rd Later h = by_zero (rd == 0) where
  by_zero : (z : Bool) → Free 10 (if z then [] else codes " x" ++ decimal rd ++ codes "=later")
  by_zero true = tt
  by_zero false = free_join 10 (codes " x" ++ decimal rd) (codes "=later") (free_join 10 (codes " x") (decimal rd) (free_by_test 10 (codes " x") refl) (free_byte 10 rd feed_out (byte_of rd h.0))) (free_by_test 10 (codes "=later") refl)

customs_free : (late : Bool) (k : ℕ) (widths : List ℕ) (slots : List (Slot Bits)) → AreSlots late k widths slots → Free 10 (custom_writes_text k slots)
customs_free late k [] slots h = subst (Free 10) (sym (h k)) tt
customs_free late k (w ∷ widths) [] h = tt
customs_free late k (w ∷ widths) (Absent ∷ slots) h = customs_free late (suc k) widths slots h.2
customs_free late k (w ∷ widths) (Now b ∷ slots) h =
    free_join 10 (codes " c" ++ decimal k ++ codes "=" ++ hex_digits ((b.width + 3) / 4) b.raw) (custom_writes_text (suc k) slots)
    (free_join 10 (codes " c" ++ decimal k ++ codes "=") (hex_digits ((b.width + 3) / 4) b.raw)
    (free_join 10 (codes " c" ++ decimal k) (codes "=") (free_join 10 (codes " c") (decimal k) (free_by_test 10 (codes " c") refl) (free_byte 10 k feed_out h.0)) (free_by_test 10 (codes "=") refl)) (free_hex 10 ((b.width + 3) / 4) b.raw refl))
    (customs_free late (suc k) widths slots h.2)
customs_free late k (w ∷ widths) (Later ∷ slots) h =
    free_join 10 (codes " c" ++ decimal k ++ codes "=later") (custom_writes_text (suc k) slots)
    (free_join 10 (codes " c" ++ decimal k) (codes "=later") (free_join 10 (codes " c") (decimal k) (free_by_test 10 (codes " c") refl) (free_byte 10 k feed_out h.0)) (free_by_test 10 (codes "=later") refl))
    (customs_free late (suc k) widths slots h.2)

store_free : (s : Option (Access × ℕ)) → Free 10 (store_text s)
store_free None = tt
store_free (Some s) =
    free_join 10 (codes " m" ++ hex_digits 8 s.0.at ++ codes "=") (hex_digits (2 * s.0.bytes) (s.1 % 2 ^ (8 * s.0.bytes)))
    (free_join 10 (codes " m" ++ hex_digits 8 s.0.at) (codes "=") (free_join 10 (codes " m") (hex_digits 8 s.0.at) (free_by_test 10 (codes " m") refl) (free_hex 10 8 s.0.at refl)) (free_by_test 10 (codes "=") refl))
    (free_hex 10 (2 * s.0.bytes) (s.1 % 2 ^ (8 * s.0.bytes)) refl)

next_free : (at next : ℕ) → Free 10 (next_text at next)
next_free at next = by_test (next == (at + 4) % 2 ^ 32) where
  by_test : (b : Bool) → Free 10 (if b then [] else codes " pc=" ++ hex_digits 8 next)
  by_test true = tt
  by_test false = free_join 10 (codes " pc=") (hex_digits 8 next) (free_by_test 10 (codes " pc=") refl) (free_hex 10 8 next refl)

-- ---- retirements
-- a record whose line is in form
pub record IsPrinted (widths : List ℕ) (c : Commit) : Type 0 where
  pub at : IsWord c.at
  pub word : IsWord c.word
  pub rd : IsXNamed true c.rd_index c.rd
  pub custom : AreSlots true 0 widths c.custom
  pub store : IsStore c.store
  pub next : IsWord c.next

abbrev cut_commit : Commit → Commit
cut_commit c = record { at = c.at; word = c.word; rd_index = c.rd_index; rd = cut_slot c.rd; custom = c.custom; store = c.store; next = c.next }

cut_words : (serial : ℕ) (c : Commit) → retired_words serial (cut_commit c) ≡ retired_words serial c
cut_words serial c = ap (λ t. codes "= " ++ (decimal serial ++ 32 ∷ (hex_digits 8 c.at ++ 32 ∷ (hex_digits 8 c.word ++ (t ++ (custom_writes_text 0 c.custom ++ (store_text c.store ++ next_text c.at c.next))))))) (cut_text c.rd_index c.rd)

words_free : (widths : List ℕ) (serial : ℕ) (c : Commit) → IsWord serial → IsPrinted widths c → Free 10 (retired_words serial c)
words_free widths serial c w p =
    free_join 10 (codes "= ") _ (free_by_test 10 (codes "= ") refl)
    (free_join 10 (decimal serial) _ (free_word 10 serial feed_out w) (
      refl,
      free_join 10 (hex_digits 8 c.at) _ (free_hex 10 8 c.at refl) (
        refl,
        free_join 10 (hex_digits 8 c.word) _ (free_hex 10 8 c.word refl)
            (free_join 10 (x_write_text c.rd_index c.rd) _ (x_free true c.rd_index c.rd p.rd)
            (free_join 10 (custom_writes_text 0 c.custom) _ (customs_free true 0 widths c.custom p.custom)
            (free_join 10 (store_text c.store) (next_text c.at c.next) (store_free c.store) (next_free c.at c.next)))),
      ),
    ))

abbrev pub IsPrintedRetired : List ℕ → Option (ℕ × Commit) → Type 0
IsPrintedRetired widths None = Unit {0}
IsPrintedRetired widths (Some p) = IsWord p.0 × IsPrinted widths p.1

pub retired_line : (widths : List ℕ) (r : Option (ℕ × Commit)) → IsPrintedRetired widths r → IsLineOf (IsRetiredLine widths) (retired_serial r) (retired_text r)
retired_line widths None h = refl
retired_line widths (Some p) h = record {
  line = retired_words p.0 p.1;
  free = words_free widths p.0 p.1 h.0 h.1;
  is = retired_is p.0 p.1;
  in_form =
      subst (IsRetiredLine widths) (cut_words p.0 p.1)
      (retired_back widths p.0 (cut_commit p.1) h.0 (record { at = h.1.at; word = h.1.word; rd = cut_named true p.1.rd_index p.1.rd h.1.rd; custom = h.1.custom; store = h.1.store; next = h.1.next }));
}

-- ---- outstanding writes
abbrev pub IsPrintedWritten : List ℕ → Option (ℕ × ℕ × Slot ℕ × List (Slot Bits)) → Type 0
IsPrintedWritten widths None = Unit {0}
IsPrintedWritten widths (Some w) = IsWord w.0 × IsXNamed false w.1 w.2 × AreSlots false 0 widths w.3

abbrev written_words : ℕ → List ℕ → List (Slot Bits) → List ℕ
written_words serial x slots = codes "+ " ++ (decimal serial ++ (x ++ (custom_writes_text 0 slots ++ [])))

pub written_line : (widths : List ℕ) (w : Option (ℕ × ℕ × Slot ℕ × List (Slot Bits))) → IsPrintedWritten widths w → IsLineOf (IsWrittenLine widths) (written_serial w) (written_text w)
written_line widths None h = refl
written_line widths (Some w) h = record {
  line = written_words w.0 (x_write_text w.1 w.2) w.3;
  free =
      free_join 10 (codes "+ ") _ (free_by_test 10 (codes "+ ") refl)
      (free_join 10 (decimal w.0) _ (free_word 10 w.0 feed_out h.0)
      (free_join 10 (x_write_text w.1 w.2) _ (x_free false w.1 w.2 h.1)
      (free_join 10 (custom_writes_text 0 w.3) [] (customs_free false 0 widths w.3 h.2) tt)));
  is = written_is w.0 w.1 w.2 w.3;
  in_form = subst (IsWrittenLine widths) (ap (λ t. written_words w.0 t w.3) (cut_text w.1 w.2)) (written_back widths w.0 w.1 (cut_slot w.2) w.3 h.0 (cut_named false w.1 w.2 h.1) h.2);
}
