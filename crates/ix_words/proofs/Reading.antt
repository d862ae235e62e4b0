-- What the words of a command stand for, word after word.
use Rattle.std.proofs.Common.{◌≡◌, ℕ, zero, suc, ◌+◌, ◌<◌, ◌≤◌, List, [], ◌∷◌, ◌++◌, length, drop, get_or, true, Option, ap, sym, ◌∙◌, subst, arith, add-one, append_assoc, Result, Err, ◌⊎◌, inl, inr, refl}
use Rattle.std.specs.Prelude.{String, string_bytes}
use Rattle.std.specs.declared.alloc.Global.{Global}
use Rattle.std.proofs.lemmas.Bool.{and_parts, true≢false}
use Rattle.std.proofs.lemmas.List.{append-nil}
use Rattle.ix_io.specs.Faults.{NoneFell}
use Rattle.ix_io.specs.Shelf.{NamedFiles}
use Rattle.ix_words.specs.declared.status.Status.{Status}
use Rattle.ix_words.specs.declared.command.FileKind.{FileKind}
use Rattle.ix_words.specs.declared.command.Slot.{Slot}
use Rattle.ix_words.specs.declared.command.Slot.TheVariants.{Number, File}
use Rattle.ix_words.specs.declared.value.Value.{Value}
use Rattle.ix_words.specs.Readings.{Reading}
use Rattle.ix_words.specs.declared.value.Refusal.{Refusal}
use Rattle.ix_words.specs.declared.value.Refusal.TheVariants as refusal
use Rattle.ix_words.specs.CommandLine.{fits_slot, fits_slots, bytes_of}
use Rattle.ix_words.specs.WordsRead.{IsRead, AreRead, AtFile, IsFileOf, IsRefusedFile, not_read, too_long, bad_text, IsFirstRefused, WordRead, WordsRefused, RoseIn}
use Rattle.ix_words.proofs.Words.{fit_at, fit_short}

le_or_lt : (a b : ℕ) → (a ≤ b) ⊎ (b < a)
le_or_lt a b = grind arith

-- ---- the words fit
-- a word is left where a place is
pub fit_within : (slots : List Slot) (words : List (String Global)) (n : ℕ) → n < length slots → fits_slots (drop n slots) (drop n (bytes_of words)) ≡ true → n < length words
fit_within slots words n h fits = elim (le_or_lt (length words) n) [
  | inl short ↦ absurd (true≢false (sym fits ∙ fit_short slots words n h short))
  | inr within ↦ within
]

pub fit_next : (slots : List Slot) (words : List (String Global)) (n : ℕ) (d : Slot) (e : String Global) (w : List ℕ) → n < length slots → fits_slots (drop n slots) (drop n (bytes_of words)) ≡ true → w ≡ string_bytes (get_or words n e)
    → (fits_slot (get_or slots n d) w ≡ true) × (fits_slots (drop (n + 1) slots) (drop (n + 1) (bytes_of words)) ≡ true)
fit_next slots words n d e w h fits p =
    let parts = and_parts _ _ (sym (fit_at slots words n d e h (fit_within slots words n h fits)) ∙ fits) in
    (ap (λ x. fits_slot (get_or slots n d) x) p ∙ parts.0, parts.1)

-- ---- counts and files over several calls
pub rose_since : (first before now : List ℕ → ℕ) → NoneFell first before → (name : List ℕ) → RoseIn before now name → RoseIn first now name
rose_since first before now fell name rose = let f = fell name in omega (arith, f, rose)

-- what was read of a word, where the files and the word are known by other names
pub word_of_files : (old files : Option NamedFiles) (R : List ℕ → Type 0) (slot : Slot) (shown word : List ℕ) (result : Result Value Refusal) → old ≡ files → shown ≡ word → WordRead old R slot shown result → WordRead files R slot word result
word_of_files old files R slot shown word result p q h = subst (λ f. WordRead f R slot word result) p (subst (λ w. WordRead old R slot w result) q h)

-- ---- the words are read
read_next : (files : Option NamedFiles) (slots : List Slot) (words : List (String Global)) (n : ℕ) (d : Slot) (e : String Global) (v : Reading) (vs : List Reading) → n < length slots → n < length words
    → IsRead files (get_or slots n d) (string_bytes (get_or words n e)) v → AreRead files (drop (suc n) slots) (drop (suc n) (bytes_of words)) vs → AreRead files (drop n slots) (drop n (bytes_of words)) (v ∷ vs)
read_next files [] words n d e v vs h k r rest = absurd (omega (arith, h))
read_next files (slot ∷ slots) [] n d e v vs h k r rest = absurd (omega (arith, k))
read_next files (slot ∷ slots) (word ∷ words) zero d e v vs h k r rest = (r, rest)
read_next files (slot ∷ slots) (word ∷ words) (suc n) d e v vs h k r rest = read_next files slots words n d e v vs (omega (arith, h)) (omega (arith, k)) r rest

-- one value more
pub read_more : (files : Option NamedFiles) (slots : List Slot) (words : List (String Global)) (n : ℕ) (d : Slot) (e : String Global) (v : Reading) (front : List Reading) → n < length slots → n < length words
    → IsRead files (get_or slots n d) (string_bytes (get_or words n e)) v
    → ((vs : List Reading) → AreRead files (drop n slots) (drop n (bytes_of words)) vs → AreRead files slots (bytes_of words) (front ++ vs))
    → (vs : List Reading) → AreRead files (drop (n + 1) slots) (drop (n + 1) (bytes_of words)) vs → AreRead files slots (bytes_of words) ((front ++ v ∷ []) ++ vs)
read_more files slots words n d e v front h k r before vs rest =
    subst (λ l. AreRead files slots (bytes_of words) l) (sym (append_assoc front (v ∷ []) vs))
    (before (v ∷ vs) (read_next files slots words n d e v vs h k r (subst (λ m. AreRead files (drop m slots) (drop m (bytes_of words)) vs) (add-one n) rest)))

none_left : (files : Option NamedFiles) (words : List (List ℕ)) → fits_slots [] words ≡ true → AreRead files [] words []
none_left files [] fits = tt
none_left files (word ∷ words) fits = absurd (true≢false (sym fits))

none_read : (files : Option NamedFiles) (slots : List Slot) (n : ℕ) → length slots ≤ n → AreRead files (drop n slots) [] []
none_read files [] zero h = tt
none_read files [] (suc n) h = tt
none_read files (slot ∷ slots) zero h = absurd (omega (arith, h))
none_read files (slot ∷ slots) (suc n) h = none_read files slots n (omega (arith, h))

read_none : (files : Option NamedFiles) (slots : List Slot) (words : List (String Global)) (n : ℕ) → length slots ≤ n → fits_slots (drop n slots) (drop n (bytes_of words)) ≡ true → AreRead files (drop n slots) (drop n (bytes_of words)) []
read_none files [] words zero h fits = none_left files (bytes_of words) fits
read_none files [] words (suc n) h fits = none_left files (drop (suc n) (bytes_of words)) fits
read_none files (slot ∷ slots) words zero h fits = absurd (omega (arith, h))
read_none files (slot ∷ slots) [] (suc n) h fits = none_read files slots n (omega (arith, h))
read_none files (slot ∷ slots) (word ∷ words) (suc n) h fits = read_none files slots words n (omega (arith, h)) fits

-- all of them are
pub read_all_of : (files : Option NamedFiles) (slots : List Slot) (words : List (String Global)) (n : ℕ) (front : List Reading) → length slots ≤ n → fits_slots (drop n slots) (drop n (bytes_of words)) ≡ true
    → ((vs : List Reading) → AreRead files (drop n slots) (drop n (bytes_of words)) vs → AreRead files slots (bytes_of words) (front ++ vs)) → AreRead files slots (bytes_of words) front
read_all_of files slots words n front h fits before =
    subst (λ l. AreRead files slots (bytes_of words) l) (append-nil front) (before [] (read_none files slots words n h fits))

-- ---- a word is refused
-- the file that it is so of
pub at_found : (files : Option NamedFiles) (P : FileKind → List ℕ → Type 0) (slots : List Slot) (words : List (List ℕ)) → AtFile files P slots words → (kind : FileKind) × (name : List ℕ) × P kind name × IsFileOf files kind name slots words
at_found files P [] words h = absurd h
at_found files P (Number most ∷ slots) [] h = absurd h
at_found files P (File kind ∷ slots) [] h = absurd h
at_found files P (Number most ∷ slots) (word ∷ words) h = at_found files P slots words h
at_found files P (File kind ∷ slots) (word ∷ words) (inl h) = (kind, word, h, inl (refl, refl))
at_found files P (File kind ∷ slots) (word ∷ words) (inr h) = let later = at_found files P slots words h.2 in (later.0, later.1, later.2, inr (h.0, h.1, later.3))

pub refused_more : (files : Option NamedFiles) (R Q : List ℕ → Type 0) (kind : FileKind) (name : List ℕ) (status : Status) (line : List ℕ) → (R name → Q name) → IsRefusedFile files R kind name status line → IsRefusedFile files Q kind name status line
refused_more files R Q kind name _ _ f (not_read rose) = not_read (f rose)
refused_more files R Q kind name _ _ f (too_long long) = too_long long
refused_more files R Q kind name _ _ f (bad_text bytes line file bad) = bad_text bytes line file bad

here : (files : Option NamedFiles) (R Q : List ℕ → Type 0) (slot : Slot) (slots : List Slot) (word : List ℕ) (words : List (List ℕ)) (status : Status) (text : String Global) → ((name : List ℕ) → R name → Q name)
    → WordRead files R slot word (Err (refusal.Line status text)) → IsFirstRefused files Q (slot ∷ slots) (word ∷ words) status (string_bytes text)
here files R Q (Number most) slots word words status text f h = absurd h
here files R Q (File kind) slots word words status text f h = inl (refused_more files R Q kind word status (string_bytes text) (f word) h)

refused_here : (files : Option NamedFiles) (R Q : List ℕ → Type 0) (slots : List Slot) (words : List (String Global)) (n : ℕ) (d : Slot) (e : String Global) (status : Status) (text : String Global) → n < length slots → n < length words
    → ((name : List ℕ) → R name → Q name) → WordRead files R (get_or slots n d) (string_bytes (get_or words n e)) (Err (refusal.Line status text)) → IsFirstRefused files Q (drop n slots) (drop n (bytes_of words)) status (string_bytes text)
refused_here files R Q [] words n d e status text h k f r = absurd (omega (arith, h))
refused_here files R Q (slot ∷ slots) [] n d e status text h k f r = absurd (omega (arith, k))
refused_here files R Q (slot ∷ slots) (word ∷ words) zero d e status text h k f r = here files R Q slot slots (string_bytes word) (bytes_of words) status text f r
refused_here files R Q (slot ∷ slots) (word ∷ words) (suc n) d e status text h k f r = refused_here files R Q slots words n d e status text (omega (arith, h)) (omega (arith, k)) f r

-- the refusal of the word in this place is that of the words
pub refused_by : (files : Option NamedFiles) (R Q : List ℕ → Type 0) (slots : List Slot) (words : List (String Global)) (n : ℕ) (d : Slot) (e : String Global) (why : Refusal) → n < length slots → n < length words
    → ((name : List ℕ) → R name → Q name) → WordRead files R (get_or slots n d) (string_bytes (get_or words n e)) (Err why)
    → ((status : Status) (line : List ℕ) → IsFirstRefused files Q (drop n slots) (drop n (bytes_of words)) status line → IsFirstRefused files Q slots (bytes_of words) status line)
    → WordsRefused files Q slots (bytes_of words) why
refused_by files R Q slots words n d e refusal.Memory h k f r before = tt
refused_by files R Q slots words n d e (refusal.Line status text) h k f r before = before status (string_bytes text) (refused_here files R Q slots words n d e status text h k f r)

behind_one : (files : Option NamedFiles) (R : List ℕ → Type 0) (slot : Slot) (slots : List Slot) (word : List ℕ) (words : List (List ℕ)) (v : Reading) (status : Status) (line : List ℕ) → IsRead files slot word v
    → IsFirstRefused files R slots words status line → IsFirstRefused files R (slot ∷ slots) (word ∷ words) status line
behind_one files R (Number most) slots word words v status line r h = h
behind_one files R (File kind) slots word words v status line r h = inr (v, r, h)

refused_next : (files : Option NamedFiles) (R : List ℕ → Type 0) (slots : List Slot) (words : List (String Global)) (n : ℕ) (d : Slot) (e : String Global) (v : Reading) (status : Status) (line : List ℕ) → n < length slots → n < length words
    → IsRead files (get_or slots n d) (string_bytes (get_or words n e)) v → IsFirstRefused files R (drop (suc n) slots) (drop (suc n) (bytes_of words)) status line → IsFirstRefused files R (drop n slots) (drop n (bytes_of words)) status line
refused_next files R [] words n d e v status line h k r rest = absurd (omega (arith, h))
refused_next files R (slot ∷ slots) [] n d e v status line h k r rest = absurd (omega (arith, k))
refused_next files R (slot ∷ slots) (word ∷ words) zero d e v status line h k r rest = behind_one files R slot slots (string_bytes word) (bytes_of words) v status line r rest
refused_next files R (slot ∷ slots) (word ∷ words) (suc n) d e v status line h k r rest = refused_next files R slots words n d e v status line (omega (arith, h)) (omega (arith, k)) r rest

-- what is refused behind a word that is read
pub refused_behind : (files : Option NamedFiles) (R : List ℕ → Type 0) (slots : List Slot) (words : List (String Global)) (n : ℕ) (d : Slot) (e : String Global) (v : Reading) → n < length slots → n < length words
    → IsRead files (get_or slots n d) (string_bytes (get_or words n e)) v → (status : Status) (line : List ℕ) → IsFirstRefused files R (drop (n + 1) slots) (drop (n + 1) (bytes_of words)) status line
    → IsFirstRefused files R (drop n slots) (drop n (bytes_of words)) status line
refused_behind files R slots words n d e v h k r status line rest =
    refused_next files R slots words n d e v status line h k r (subst (λ m. IsFirstRefused files R (drop m slots) (drop m (bytes_of words)) status line) (add-one n) rest)
