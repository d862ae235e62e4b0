-- Words against the places of a command, by index.
use Rattle.std.proofs.Common.{◌≡◌, ℕ, zero, suc, ◌+◌, ◌<◌, ◌≤◌, List, [], ◌∷◌, length, drop, get_or, Bool, true, false, refl, ap, sym, ◌∙◌, arith, add-one}
use Rattle.std.specs.Prelude.{◌&&◌, ◌==◌, String, string_bytes}
use Rattle.std.specs.declared.alloc.Global.{Global}
use Rattle.ix_words.specs.declared.command.Slot.{Slot}
use Rattle.ix_words.specs.CommandLine.{fits_slot, fits_slots, bytes_of}

at_next : (slots : List Slot) (words : List (String Global)) (n : ℕ) (d : Slot) (e : String Global) → n < length slots → n < length words
    → fits_slots (drop n slots) (drop n (bytes_of words)) ≡ (fits_slot (get_or slots n d) (string_bytes (get_or words n e)) && fits_slots (drop (suc n) slots) (drop (suc n) (bytes_of words)))
at_next [] words n d e h k = absurd (omega (arith, h))
at_next (slot ∷ slots) [] n d e h k = absurd (omega (arith, k))
at_next (slot ∷ slots) (word ∷ words) zero d e h k = refl
at_next (slot ∷ slots) (word ∷ words) (suc n) d e h k = at_next slots words n d e (omega (arith, h)) (omega (arith, k))

-- one place more
pub fit_at : (slots : List Slot) (words : List (String Global)) (n : ℕ) (d : Slot) (e : String Global) → n < length slots → n < length words
    → fits_slots (drop n slots) (drop n (bytes_of words)) ≡ (fits_slot (get_or slots n d) (string_bytes (get_or words n e)) && fits_slots (drop (n + 1) slots) (drop (n + 1) (bytes_of words)))
fit_at slots words n d e h k = rw (add-one n) (at_next slots words n d e h k)

-- no word is left
none_fit : (slots : List Slot) (n : ℕ) → n < length slots → fits_slots (drop n slots) [] ≡ false
none_fit [] n h = absurd (omega (arith, h))
none_fit (slot ∷ slots) zero h = refl
none_fit (slot ∷ slots) (suc n) h = none_fit slots n (omega (arith, h))

pub fit_short : (slots : List Slot) (words : List (String Global)) (n : ℕ) → n < length slots → length words ≤ n → fits_slots (drop n slots) (drop n (bytes_of words)) ≡ false
fit_short [] words n h k = absurd (omega (arith, h))
fit_short (slot ∷ slots) [] zero h k = refl
fit_short (slot ∷ slots) [] (suc n) h k = none_fit slots n (omega (arith, h))
fit_short (slot ∷ slots) (word ∷ words) zero h k = absurd (omega (arith, k))
fit_short (slot ∷ slots) (word ∷ words) (suc n) h k = fit_short slots words n (omega (arith, h)) (omega (arith, k))

-- no place is left
pub fit_end : (slots : List Slot) (words : List (String Global)) (n : ℕ) → n ≤ length words → n ≤ length slots → length slots ≤ n → fits_slots (drop n slots) (drop n (bytes_of words)) ≡ (length slots == length words)
fit_end [] [] zero h k l = refl
fit_end [] [] (suc n) h k l = absurd (omega (arith, h))
fit_end [] (word ∷ words) zero h k l = grind arith
fit_end [] (word ∷ words) (suc n) h k l = absurd (omega (arith, k))
fit_end (slot ∷ slots) [] zero h k l = absurd (omega (arith, l))
fit_end (slot ∷ slots) [] (suc n) h k l = absurd (omega (arith, h))
fit_end (slot ∷ slots) (word ∷ words) zero h k l = absurd (omega (arith, l))
fit_end (slot ∷ slots) (word ∷ words) (suc n) h k l = fit_end slots words n (omega (arith, h)) (omega (arith, k)) (omega (arith, l)) ∙ same_count (length slots) (length words) where
  same_count : (a b : ℕ) → (a == b) ≡ (suc a == suc b)
  same_count a b = grind arith

-- the bytes of the word in a place
pub word_at : (words : List (String Global)) (n : ℕ) (e : String Global) (w : List ℕ) → w ≡ string_bytes e → e ≡ get_or words n e → w ≡ string_bytes (get_or words n e)
word_at words n e w p q = p ∙ ap (λ s. string_bytes s) q

-- the word in a place fits or does not
pub fit_false : (slots : List Slot) (words : List (String Global)) (n : ℕ) (d : Slot) (e : String Global) (w : List ℕ) (b all : Bool) → n < length slots → n < length words → w ≡ string_bytes (get_or words n e)
    → b ≡ fits_slot (get_or slots n d) w → b ≡ false → all ≡ fits_slots (drop n slots) (drop n (bytes_of words)) → false ≡ all
fit_false slots words n d e w b all h k p q f a =
    let one : fits_slot (get_or slots n d) (string_bytes (get_or words n e)) ≡ false = ap (λ x. fits_slot (get_or slots n d) x) (sym p) ∙ sym q ∙ f in
    sym (a ∙ fit_at slots words n d e h k ∙ ap (λ x. x && fits_slots (drop (n + 1) slots) (drop (n + 1) (bytes_of words))) one)

pub fit_true : (slots : List Slot) (words : List (String Global)) (n : ℕ) (d : Slot) (e : String Global) (w : List ℕ) (b all : Bool) → n < length slots → n < length words → w ≡ string_bytes (get_or words n e)
    → b ≡ fits_slot (get_or slots n d) w → b ≡ true → all ≡ fits_slots (drop n slots) (drop n (bytes_of words)) → all ≡ fits_slots (drop (n + 1) slots) (drop (n + 1) (bytes_of words))
fit_true slots words n d e w b all h k p q f a =
    let one : fits_slot (get_or slots n d) (string_bytes (get_or words n e)) ≡ true = ap (λ x. fits_slot (get_or slots n d) x) (sym p) ∙ sym q ∙ f in
    a ∙ fit_at slots words n d e h k ∙ ap (λ x. x && fits_slots (drop (n + 1) slots) (drop (n + 1) (bytes_of words))) one
