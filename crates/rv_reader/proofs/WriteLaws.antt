-- The lines of writes that are printed are in form.
use Rattle.std.proofs.Common.{◌≡◌, ◌≢◌, ℕ, suc, ◌+◌, ◌*◌, ◌/◌, ◌%◌, ◌<◌, ◌^◌, ◌==◌, ◌⊎◌, inl, inr, List, [], ◌∷◌, ◌++◌, length, refl, sym, ap, ◌∙◌, subst, arith, lit<, append_assoc, Option, Some, None, Bool, true, false}
use Rattle.std.specs.Prelude.{decimal, codes, if◌then◌else◌, is_some, nat_lt, ◌||◌, ◌&&◌}
use Rattle.std.proofs.lemmas.Bool.{lt-ltb, eq-eqb}
use Rattle.std.proofs.lemmas.List.{append-nil}
use Rattle.ix_bits.specs.declared.number.Bits.{Bits}
use Rattle.ix_io.specs.Out.{hex_digits}
use Rattle.rv_seq.specs.declared.commit.Slot.{Slot}
use Rattle.rv_seq.specs.declared.commit.Slot.TheVariants.{Absent, Now, Later}
use Rattle.ix_eval.specs.declared.access.Access.{Access}
use Rattle.rv_seq.specs.declared.commit.Commit.{Commit}
use Rattle.rv_trace.specs.TraceText.{x_write_text, custom_writes_text, written_text, retired_text, store_text, next_text}
use Rattle.rv_reader.specs.Words.{Free, and_then, until, from, behind_in, number_in, below_in, digits_in}
use Rattle.rv_reader.specs.Writes.{value_in, is_value, behind_value, x_behind, x_in, custom_behind, custom_named, custom_in, customs_in, registers_in, is_written_line, address_behind, is_stored, store_behind, store_in, is_next, is_retired_line}
use Rattle.rv_reader.specs.Forms.{IsWord, IsByte, IsRetiredLine, IsWrittenLine}
use Rattle.rv_reader.proofs.Readings.{BeginsWith, number_back, digits_back, until_at, from_at, other_number}
use Rattle.rv_reader.proofs.Frees.{free_byte, free_hex, free_by_test, until_begin, from_begin}
use Rattle.rv_reader.proofs.Holds.{below_back}
use Rattle.rv_reader.proofs.Marking.{is_other, not_behind}
use Rattle.rv_reader.proofs.BadLines.{serial_back}

-- ---- values
pub value_back : (late : Bool) (width v : ℕ) → v < 2 ^ width → v < 16 ^ ((width + 3) / 4) → is_value late width (hex_digits ((width + 3) / 4) v) ≡ true
unfolding value_in
value_back late width v h d = by_late (late && _) (ap is_some (ap (λ o. and_then o (λ value. if nat_lt value (2 ^ width) then Some value else None)) (digits_back ((width + 3) / 4) v d) ∙ ap (λ b. if b then Some v else None) (lt-ltb v (2 ^ width) h))) where
  by_late : (b : Bool) {c : Bool} → c ≡ true → (b || c) ≡ true
  by_late true e = refl
  by_late false e = e

behind_back : (late : Bool) (width : ℕ) (word rest : List ℕ) → is_value late width word ≡ true → Free 32 word → BeginsWith 32 rest → behind_value late width (61 ∷ (word ++ rest)) ≡ Some rest
unfolding behind_in
behind_back late width word rest v f b =
    ap (λ t. if is_value late width t then Some (from 32 (word ++ rest)) else None) (until_begin 32 word rest f b)
    ∙ ap (λ t. if t then Some (from 32 (word ++ rest)) else None) v
    ∙ ap (λ t. Some t) (from_begin 32 word rest f b)

-- ---- an x register
unfoldable pub IsXSlot : Bool → ℕ → Slot ℕ → Type 0
IsXSlot late rd Absent = Unit {0}
IsXSlot late rd (Now v) = IsByte rd × (rd < 32) × IsWord v
IsXSlot late rd Later = IsByte rd × (rd < 32) × (late ≡ true)

x_named : (late : Bool) (rd : ℕ) (word rest : List ℕ) → IsByte rd → rd < 32 → is_value late 32 word ≡ true → Free 32 word → BeginsWith 32 rest → x_in late (32 ∷ 120 ∷ (decimal rd ++ 61 ∷ (word ++ rest))) ≡ Some rest
unfolding x_in behind_in
x_named late rd word rest b l v f s =
    let free = free_byte 61 rd (inr (omega arith)) b in
    ap (λ t. and_then (below_in 32 t) (λ n. behind_value late 32 (from 61 (decimal rd ++ 61 ∷ (word ++ rest))))) (until_at 61 (decimal rd) (word ++ rest) free)
    ∙ ap (λ o. and_then o (λ n. behind_value late 32 (from 61 (decimal rd ++ 61 ∷ (word ++ rest))))) (below_back 32 rd b l)
    ∙ ap (λ t. behind_value late 32 t) (from_at 61 (decimal rd) (word ++ rest) free)
    ∙ behind_back late 32 word rest v f s

joined : (a word rest : List ℕ) → ((a ++ 61 ∷ []) ++ word) ++ rest ≡ a ++ 61 ∷ (word ++ rest)
joined a word rest = append_assoc (a ++ 61 ∷ []) word rest ∙ append_assoc a (61 ∷ []) (word ++ rest)

later_joined : (a rest : List ℕ) → (a ++ codes "=later") ++ rest ≡ a ++ 61 ∷ (codes "later" ++ rest)
later_joined a rest = append_assoc a (codes "=later") rest

pub x_back : (late : Bool) (rd : ℕ) (slot : Slot ℕ) (rest : List ℕ) → IsXSlot late rd slot → BeginsWith 32 rest → is_other 120 rest ≡ true → x_in late (x_write_text rd slot ++ rest) ≡ Some rest
unfolding x_in IsXSlot
x_back late rd Absent rest h b o = ap (λ x. x_behind late rest x) (not_behind 120 rest o)
x_back late rd (Now v) rest h b o =
    let two : v < 2 ^ 32 = (let e : 2 ^ 32 ≡ 4294967296 = refl in omega (arith, e, h.2)) in
    let sixteen : v < 16 ^ 8 = (let e : 16 ^ 8 ≡ 4294967296 = refl in omega (arith, e, h.2)) in
    ap (λ t. x_in late (32 ∷ 120 ∷ t)) (joined (decimal rd) (hex_digits 8 v) rest) ∙ x_named late rd (hex_digits 8 v) rest h.0 h.1 (value_back late 32 v two sixteen) (free_hex 32 8 v refl) b
x_back late rd Later rest h b o = by_zero (rd == 0) where
  by_zero : (z : Bool) → x_in late ((if z then [] else codes " x" ++ decimal rd ++ codes "=later") ++ rest) ≡ Some rest
  by_zero true = ap (λ x. x_behind late rest x) (not_behind 120 rest o)
  by_zero false = ap (λ t. x_in late (32 ∷ 120 ∷ t)) (later_joined (decimal rd) rest) ∙ x_named late rd (codes "later") rest h.0 h.1 (ap (λ l. is_value l 32 (codes "later")) h.2) (free_by_test 32 (codes "later") refl) b

-- ---- custom registers
abbrev pub IsCustomSlot : Bool → ℕ → Slot Bits → Type 0
IsCustomSlot late width Absent = Unit {0}
IsCustomSlot late width (Now b) = (b.width ≡ width) × (b.raw < 2 ^ width) × (b.raw < 16 ^ ((width + 3) / 4))
IsCustomSlot late width Later = late ≡ true

-- slots for these widths; behind them nothing is written
abbrev pub AreSlots : Bool → ℕ → List ℕ → List (Slot Bits) → Type 0
AreSlots late k [] slots = (j : ℕ) → custom_writes_text j slots ≡ []
AreSlots late k (w ∷ widths) [] = Unit {0}
AreSlots late k (w ∷ widths) (s ∷ slots) = IsByte k × IsCustomSlot late w s × AreSlots late (suc k) widths slots

custom_found : (late : Bool) (k width : ℕ) (word rest : List ℕ) → IsByte k → is_value late width word ≡ true → Free 32 word → BeginsWith 32 rest → custom_in late k width (32 ∷ 99 ∷ (decimal k ++ 61 ∷ (word ++ rest))) ≡ Some rest
unfolding custom_in behind_in
custom_found late k width word rest b v f s =
    let free = free_byte 61 k (inr (omega arith)) b in
    let text = decimal k ++ 61 ∷ (word ++ rest) in
    ap (λ t. custom_named late k width (32 ∷ 99 ∷ text) text (number_in 255 t)) (until_at 61 (decimal k) (word ++ rest) free)
    ∙ ap (λ o. custom_named late k width (32 ∷ 99 ∷ text) text o) (number_back 255 k b (lit< tt))
    ∙ ap (λ t. if t then behind_value late width (from 61 text) else Some (32 ∷ 99 ∷ text)) (eq-eqb k k refl)
    ∙ ap (λ t. behind_value late width t) (from_at 61 (decimal k) (word ++ rest) free)
    ∙ behind_back late width word rest v f s

custom_passed : (late : Bool) (k n width : ℕ) (rest : List ℕ) → IsByte n → k ≢ n → custom_in late k width (32 ∷ 99 ∷ (decimal n ++ 61 ∷ rest)) ≡ Some (32 ∷ 99 ∷ (decimal n ++ 61 ∷ rest))
unfolding custom_in behind_in
custom_passed late k n width rest b d =
    let free = free_byte 61 n (inr (omega arith)) b in
    let text = decimal n ++ 61 ∷ rest in
    ap (λ t. custom_named late k width (32 ∷ 99 ∷ text) text (number_in 255 t)) (until_at 61 (decimal n) rest free)
    ∙ ap (λ o. custom_named late k width (32 ∷ 99 ∷ text) text o) (number_back 255 n b (lit< tt))
    ∙ ap (λ t. if t then behind_value late width (from 61 text) else Some (32 ∷ 99 ∷ text)) (other_number n k (λ e. d (sym e)))

begins_customs : (k : ℕ) (slots : List (Slot Bits)) (tail : List ℕ) → BeginsWith 32 tail → BeginsWith 32 (custom_writes_text k slots ++ tail)
begins_customs k [] tail b = b
begins_customs k (Absent ∷ slots) tail b = begins_customs (suc k) slots tail b
begins_customs k (Now v ∷ slots) tail b = refl
begins_customs k (Later ∷ slots) tail b = refl

now_text : (k : ℕ) (digits more tail : List ℕ) → ((codes " c" ++ decimal k ++ codes "=" ++ digits) ++ more) ++ tail ≡ 32 ∷ 99 ∷ (decimal k ++ 61 ∷ (digits ++ (more ++ tail)))
now_text k digits more tail = append_assoc (codes " c" ++ decimal k ++ codes "=" ++ digits) more tail ∙ ap (λ t. 32 ∷ 99 ∷ t) (joined (decimal k) digits (more ++ tail))

late_text : (k : ℕ) (more tail : List ℕ) → ((codes " c" ++ decimal k ++ codes "=later") ++ more) ++ tail ≡ 32 ∷ 99 ∷ (decimal k ++ 61 ∷ (codes "later" ++ (more ++ tail)))
late_text k more tail = append_assoc (codes " c" ++ decimal k ++ codes "=later") more tail ∙ ap (λ t. 32 ∷ 99 ∷ t) (later_joined (decimal k) (more ++ tail))

module _ (late : Bool) (tail : List ℕ) (other : is_other 99 tail ≡ true) (begins : BeginsWith 32 tail) where
  custom_none : (k width : ℕ) → custom_in late k width tail ≡ Some tail
  unfolding custom_in
  custom_none k width = ap (λ x. custom_behind late k width tail x) (not_behind 99 tail other)

  customs_none : (k : ℕ) (widths : List ℕ) → customs_in late k widths tail ≡ Some tail
  unfolding customs_in
  customs_none k [] = refl
  customs_none k (w ∷ widths) = ap (λ o. and_then o (λ rest. customs_in late (suc k) widths rest)) (custom_none k w) ∙ customs_none (suc k) widths

  skipped : (j width m : ℕ) (widths : List ℕ) (slots : List (Slot Bits)) → j < m → AreSlots late m widths slots → custom_in late j width (custom_writes_text m slots ++ tail) ≡ Some (custom_writes_text m slots ++ tail)
  skipped j width m [] slots l h = ap (λ t. custom_in late j width (t ++ tail)) (h m) ∙ custom_none j width ∙ ap (λ t. Some (t ++ tail)) (sym (h m))
  skipped j width m (w ∷ widths) [] l h = custom_none j width
  skipped j width m (w ∷ widths) (Absent ∷ slots) l h = skipped j width (suc m) widths slots (omega (arith, l)) h.2
  skipped j width m (w ∷ widths) (Now b ∷ slots) l h =
      let text = now_text m (hex_digits ((b.width + 3) / 4) b.raw) (custom_writes_text (suc m) slots) tail in
      ap (custom_in late j width) text ∙ custom_passed late j m width _ h.0 (λ e. omega (arith, e, l)) ∙ ap (λ t. Some t) (sym text)
  skipped j width m (w ∷ widths) (Later ∷ slots) l h =
      let text = late_text m (custom_writes_text (suc m) slots) tail in
      ap (custom_in late j width) text ∙ custom_passed late j m width _ h.0 (λ e. omega (arith, e, l)) ∙ ap (λ t. Some t) (sym text)

  pub customs_back : (k : ℕ) (widths : List ℕ) (slots : List (Slot Bits)) → AreSlots late k widths slots → customs_in late k widths (custom_writes_text k slots ++ tail) ≡ Some tail
  unfolding customs_in
  customs_back k [] slots h = ap (λ t. Some (t ++ tail)) (h k)
  customs_back k (w ∷ widths) [] h = customs_none k (w ∷ widths)
  customs_back k (w ∷ widths) (Absent ∷ slots) h =
      ap (λ o. and_then o (λ rest. customs_in late (suc k) widths rest)) (skipped k w (suc k) widths slots (omega arith) h.2) ∙ customs_back (suc k) widths slots h.2
  customs_back k (w ∷ widths) (Now b ∷ slots) h =
      let more = custom_writes_text (suc k) slots ++ tail in
      let digits = hex_digits ((b.width + 3) / 4) b.raw in
      let same : hex_digits ((w + 3) / 4) b.raw ≡ digits = ap (λ n. hex_digits ((n + 3) / 4) b.raw) (sym h.1.0) in
      let good = subst (λ t. is_value late w t ≡ true) same (value_back late w b.raw h.1.1 h.1.2) in
      ap (λ t. and_then (custom_in late k w t) (λ rest. customs_in late (suc k) widths rest)) (now_text k digits (custom_writes_text (suc k) slots) tail)
      ∙ ap (λ o. and_then o (λ rest. customs_in late (suc k) widths rest)) (custom_found late k w digits more h.0 good (free_hex 32 ((b.width + 3) / 4) b.raw refl) (begins_customs (suc k) slots tail begins))
      ∙ customs_back (suc k) widths slots h.2
  customs_back k (w ∷ widths) (Later ∷ slots) h =
      let more = custom_writes_text (suc k) slots ++ tail in
      ap (λ t. and_then (custom_in late k w t) (λ rest. customs_in late (suc k) widths rest)) (late_text k (custom_writes_text (suc k) slots) tail)
      ∙ ap (λ o. and_then o (λ rest. customs_in late (suc k) widths rest)) (custom_found late k w (codes "later") more h.0 (ap (λ l. is_value l w (codes "later")) h.1) (free_by_test 32 (codes "later") refl) (begins_customs (suc k) slots tail begins))
      ∙ customs_back (suc k) widths slots h.2

-- ---- registers, and a line of outstanding writes
customs_no_x : (k : ℕ) (slots : List (Slot Bits)) (tail : List ℕ) → is_other 120 tail ≡ true → is_other 120 (custom_writes_text k slots ++ tail) ≡ true
customs_no_x k [] tail e = e
customs_no_x k (Absent ∷ slots) tail e = customs_no_x (suc k) slots tail e
customs_no_x k (Now v ∷ slots) tail e = refl
customs_no_x k (Later ∷ slots) tail e = refl

pub registers_back : (late : Bool) (widths : List ℕ) (rd : ℕ) (slot : Slot ℕ) (slots : List (Slot Bits)) (tail : List ℕ) → IsXSlot late rd slot → AreSlots late 0 widths slots → is_other 120 tail ≡ true → is_other 99 tail ≡ true → BeginsWith 32 tail
    → registers_in late widths (x_write_text rd slot ++ (custom_writes_text 0 slots ++ tail)) ≡ Some tail
unfolding registers_in
registers_back late widths rd slot slots tail x h o p b =
    ap (λ t. and_then t (λ rest. customs_in late 0 widths rest)) (x_back late rd slot (custom_writes_text 0 slots ++ tail) x (begins_customs 0 slots tail b) (customs_no_x 0 slots tail o)) ∙ customs_back late tail p b 0 widths slots h

x_begins : (rd : ℕ) (slot : Slot ℕ) (rest : List ℕ) → BeginsWith 32 rest → BeginsWith 32 (x_write_text rd slot ++ rest)
x_begins rd Absent rest b = b
x_begins rd (Now v) rest b = refl
x_begins rd Later rest b = by_zero (rd == 0) where
  by_zero : (z : Bool) → BeginsWith 32 ((if z then [] else codes " x" ++ decimal rd ++ codes "=later") ++ rest)
  by_zero true = b
  by_zero false = refl

-- what is printed of outstanding writes that are made is in form
pub written_back : (widths : List ℕ) (serial rd : ℕ) (slot : Slot ℕ) (slots : List (Slot Bits)) → IsWord serial → IsXSlot false rd slot → AreSlots false 0 widths slots → IsWrittenLine widths (codes "+ " ++ (decimal serial ++ (x_write_text rd slot ++ (custom_writes_text 0 slots ++ []))))
unfolding is_written_line behind_in
written_back widths serial rd slot slots w x h =
    let rest = x_write_text rd slot ++ (custom_writes_text 0 slots ++ []) in
    ap (λ o. is_some (and_then o (λ a. and_then (registers_in false widths a) (λ rest. if length rest == 0 then Some rest else None)))) (serial_back (codes "+ ") serial (codes "+ " ++ (decimal serial ++ rest)) rest refl w (x_begins rd slot (custom_writes_text 0 slots ++ []) (begins_customs 0 slots [] tt)))
    ∙ ap (λ o. is_some (and_then o (λ rest. if length rest == 0 then Some rest else None))) (registers_back false widths rd slot slots [] x h refl refl tt)

-- ---- the line of what retires
address_at : (front : List ℕ) (v : ℕ) (text rest : List ℕ) → behind_in front text ≡ Some (hex_digits 8 v ++ rest) → IsWord v → BeginsWith 32 rest → address_behind front text ≡ Some rest
unfolding address_behind
address_at front v text rest e w b =
    let free : Free 32 (hex_digits 8 v) = free_hex 32 8 v refl in
    let small : v < 16 ^ 8 = (let e : 16 ^ 8 ≡ 4294967296 = refl in omega (arith, e, w)) in
    ap (λ o. and_then o (λ r. and_then (digits_in 8 (until 32 r)) (λ s. Some (from 32 r)))) e
    ∙ ap (λ t. and_then (digits_in 8 t) (λ s. Some (from 32 (hex_digits 8 v ++ rest)))) (until_begin 32 (hex_digits 8 v) rest free b)
    ∙ ap (λ o. and_then o (λ s. Some (from 32 (hex_digits 8 v ++ rest)))) (digits_back 8 v small)
    ∙ ap (λ t. Some t) (from_begin 32 (hex_digits 8 v) rest free b)

or_right : (a b : Bool) → b ≡ true → (a || b) ≡ true
or_right true b e = refl
or_right false b e = e

or_left : (a b : Bool) → a ≡ true → (a || b) ≡ true
or_left true b e = refl
or_left false b e = absurd cc

abbrev pub IsSize : ℕ → Type 0
IsSize bytes = (bytes ≡ 1) ⊎ ((bytes ≡ 2) ⊎ (bytes ≡ 4))

stored : (bytes v : ℕ) → IsSize bytes → is_stored (hex_digits (2 * bytes) (v % 2 ^ (8 * bytes))) ≡ true
stored bytes v (inl e) = subst (λ n. is_stored (hex_digits (2 * n) (v % 2 ^ (8 * n))) ≡ true) (sym e) (or_left _ _ (ap is_some (digits_back 2 (v % 2 ^ 8) (let a : 16 ^ 2 ≡ 256 = refl in let b : 2 ^ 8 ≡ 256 = refl in omega (arith, a, b)))))
stored bytes v (inr (inl e)) = subst (λ n. is_stored (hex_digits (2 * n) (v % 2 ^ (8 * n))) ≡ true) (sym e) (or_right _ _ (or_left _ _ (ap is_some (digits_back 4 (v % 2 ^ 16) (let a : 16 ^ 4 ≡ 65536 = refl in let b : 2 ^ 16 ≡ 65536 = refl in omega (arith, a, b))))))
stored bytes v (inr (inr e)) = subst (λ n. is_stored (hex_digits (2 * n) (v % 2 ^ (8 * n))) ≡ true) (sym e) (or_right _ _ (or_right _ _ (ap is_some (digits_back 8 (v % 2 ^ 32) (let a : 16 ^ 8 ≡ 4294967296 = refl in let b : 2 ^ 32 ≡ 4294967296 = refl in omega (arith, a, b))))))

store_found : (at : ℕ) (word rest : List ℕ) → IsWord at → is_stored word ≡ true → Free 32 word → BeginsWith 32 rest → store_in (32 ∷ 109 ∷ (hex_digits 8 at ++ 61 ∷ (word ++ rest))) ≡ Some rest
unfolding store_in behind_in
store_found at word rest w s f b =
    let free : Free 61 (hex_digits 8 at) = free_hex 61 8 at refl in
    let text = hex_digits 8 at ++ 61 ∷ (word ++ rest) in
    let small : at < 16 ^ 8 = (let e : 16 ^ 8 ≡ 4294967296 = refl in omega (arith, e, w)) in
    ap (λ t. and_then (digits_in 8 t) (λ at. and_then (behind_in (codes "=") (from 61 text)) (λ value. if is_stored (until 32 value) then Some (from 32 value) else None))) (until_at 61 (hex_digits 8 at) (word ++ rest) free)
    ∙ ap (λ o. and_then o (λ at. and_then (behind_in (codes "=") (from 61 text)) (λ value. if is_stored (until 32 value) then Some (from 32 value) else None))) (digits_back 8 at small)
    ∙ ap (λ t. and_then (behind_in (codes "=") t) (λ value. if is_stored (until 32 value) then Some (from 32 value) else None)) (from_at 61 (hex_digits 8 at) (word ++ rest) free)
    ∙ ap (λ t. if is_stored t then Some (from 32 (word ++ rest)) else None) (until_begin 32 word rest f b)
    ∙ ap (λ t. if t then Some (from 32 (word ++ rest)) else None) s
    ∙ ap (λ t. Some t) (from_begin 32 word rest f b)

abbrev pub IsStore : Option (Access × ℕ) → Type 0
IsStore None = Unit {0}
IsStore (Some s) = IsWord s.0.at × IsSize s.0.bytes

store_back : (s : Option (Access × ℕ)) (rest : List ℕ) → IsStore s → BeginsWith 32 rest → is_other 109 rest ≡ true → store_in (store_text s ++ rest) ≡ Some rest
unfolding store_in
store_back None rest h b o = ap (λ x. store_behind rest x) (not_behind 109 rest o)
store_back (Some s) rest h b o =
    let word = hex_digits (2 * s.0.bytes) (s.1 % 2 ^ (8 * s.0.bytes)) in
    ap (λ t. store_in (32 ∷ 109 ∷ t)) (joined (hex_digits 8 s.0.at) word rest) ∙ store_found s.0.at word rest h.0 (stored s.0.bytes s.1 h.1) (free_hex 32 (2 * s.0.bytes) (s.1 % 2 ^ (8 * s.0.bytes)) refl) b

next_back : (at next : ℕ) → IsWord next → is_next (next_text at next) ≡ true
unfolding is_next behind_in
next_back at next w = by_test (next == (at + 4) % 2 ^ 32) where
  small : next < 16 ^ 8
  small = let e : 16 ^ 8 ≡ 4294967296 = refl in omega (arith, e, w)

  by_test : (b : Bool) → is_next (if b then [] else codes " pc=" ++ hex_digits 8 next) ≡ true
  by_test true = refl
  by_test false = ap is_some (digits_back 8 next small)

next_begins : (at next : ℕ) → BeginsWith 32 (next_text at next)
next_begins at next = by_test (next == (at + 4) % 2 ^ 32) where
  by_test : (b : Bool) → BeginsWith 32 (if b then [] else codes " pc=" ++ hex_digits 8 next)
  by_test true = tt
  by_test false = refl

next_other : (letter at next : ℕ) → is_other letter (32 ∷ 112 ∷ []) ≡ true → is_other letter (next_text at next) ≡ true
next_other letter at next e = by_test (next == (at + 4) % 2 ^ 32) where
  by_test : (b : Bool) → is_other letter (if b then [] else codes " pc=" ++ hex_digits 8 next) ≡ true
  by_test true = refl
  by_test false = e

store_begins : (s : Option (Access × ℕ)) (rest : List ℕ) → BeginsWith 32 rest → BeginsWith 32 (store_text s ++ rest)
store_begins None rest b = b
store_begins (Some s) rest b = refl

store_other : (letter : ℕ) (s : Option (Access × ℕ)) (rest : List ℕ) → is_other letter (32 ∷ 109 ∷ []) ≡ true → is_other letter rest ≡ true → is_other letter (store_text s ++ rest) ≡ true
store_other letter None rest e f = f
store_other letter (Some s) rest e f = e

-- a record whose line is in form
pub record IsRecord (widths : List ℕ) (c : Commit) : Type 0 where
  pub at : IsWord c.at
  pub word : IsWord c.word
  pub rd : IsXSlot true c.rd_index c.rd
  pub custom : AreSlots true 0 widths c.custom
  pub store : IsStore c.store
  pub next : IsWord c.next

abbrev behind_words : Commit → List ℕ
behind_words c = x_write_text c.rd_index c.rd ++ (custom_writes_text 0 c.custom ++ (store_text c.store ++ next_text c.at c.next))

abbrev pub retired_words : ℕ → Commit → List ℕ
retired_words serial c = codes "= " ++ (decimal serial ++ 32 ∷ (hex_digits 8 c.at ++ 32 ∷ (hex_digits 8 c.word ++ behind_words c)))

-- what is printed of what retires is in form
pub retired_back : (widths : List ℕ) (serial : ℕ) (c : Commit) → IsWord serial → IsRecord widths c → IsRetiredLine widths (retired_words serial c)
unfolding is_retired_line behind_in
retired_back widths serial c w r =
    let tail = store_text c.store ++ next_text c.at c.next in
    let n = next_begins c.at c.next in
    let b = store_begins c.store (next_text c.at c.next) n in
    let words = x_begins c.rd_index c.rd (custom_writes_text 0 c.custom ++ tail) (begins_customs 0 c.custom tail b) in
    ap (λ o. is_some (and_then o (λ a. and_then (address_behind (codes " ") a) (λ b. and_then (address_behind (codes " ") b) (λ c. and_then (registers_in true widths c) (λ d. and_then (store_in d) (λ e. if is_next e then Some e else None)))))))
    (serial_back (codes "= ") serial (retired_words serial c) (32 ∷ (hex_digits 8 c.at ++ 32 ∷ (hex_digits 8 c.word ++ behind_words c))) refl w refl)
    ∙ ap (λ o. is_some (and_then o (λ b. and_then (address_behind (codes " ") b) (λ c. and_then (registers_in true widths c) (λ d. and_then (store_in d) (λ e. if is_next e then Some e else None))))))
    (address_at (codes " ") c.at (32 ∷ (hex_digits 8 c.at ++ 32 ∷ (hex_digits 8 c.word ++ behind_words c))) (32 ∷ (hex_digits 8 c.word ++ behind_words c)) refl r.at refl)
    ∙ ap (λ o. is_some (and_then o (λ c. and_then (registers_in true widths c) (λ d. and_then (store_in d) (λ e. if is_next e then Some e else None)))))
    (address_at (codes " ") c.word (32 ∷ (hex_digits 8 c.word ++ behind_words c)) (behind_words c) refl r.word words)
    ∙ ap (λ o. is_some (and_then o (λ d. and_then (store_in d) (λ e. if is_next e then Some e else None))))
    (registers_back true widths c.rd_index c.rd c.custom tail r.rd r.custom (store_other 120 c.store (next_text c.at c.next) refl (next_other 120 c.at c.next refl)) (store_other 99 c.store (next_text c.at c.next) refl (next_other 99 c.at c.next refl)) b)
    ∙ ap (λ o. is_some (and_then o (λ e. if is_next e then Some e else None))) (store_back c.store (next_text c.at c.next) r.store n (next_other 109 c.at c.next refl))
    ∙ ap (λ t. is_some (if t then Some (next_text c.at c.next) else None)) (next_back c.at c.next r.next)

-- the line that is printed, up to its line feed
pub retired_is : (serial : ℕ) (c : Commit) → retired_text (Some (serial, c)) ≡ retired_words serial c ++ 10 ∷ []
retired_is serial c = ap (λ t. t ++ 10 ∷ []) (whole (decimal serial) (hex_digits 8 c.at) (hex_digits 8 c.word) (x_write_text c.rd_index c.rd) (custom_writes_text 0 c.custom) (store_text c.store) (next_text c.at c.next)) where
  whole : (d a w x k s n : List ℕ) → codes "= " ++ d ++ codes " " ++ a ++ codes " " ++ w ++ (x ++ k ++ s ++ n) ≡ codes "= " ++ (d ++ 32 ∷ (a ++ 32 ∷ (w ++ (x ++ (k ++ (s ++ n))))))
  whole d a w x k s n =
      let r = x ++ k ++ s ++ n in
      append_assoc (codes "= " ++ d ++ codes " " ++ a ++ codes " ") w r
      ∙ append_assoc (codes "= " ++ d ++ codes " " ++ a) (codes " ") (w ++ r)
      ∙ append_assoc (codes "= " ++ d ++ codes " ") a (32 ∷ (w ++ r))
      ∙ append_assoc (codes "= " ++ d) (codes " ") (a ++ 32 ∷ (w ++ r))
      ∙ append_assoc (codes "= ") d (32 ∷ (a ++ 32 ∷ (w ++ r)))
      ∙ ap (λ t. codes "= " ++ (d ++ 32 ∷ (a ++ 32 ∷ (w ++ t)))) (append_assoc (x ++ k) s n ∙ append_assoc x k (s ++ n))

pub written_is : (serial rd : ℕ) (slot : Slot ℕ) (slots : List (Slot Bits)) → written_text (Some (serial, rd, slot, slots)) ≡ (codes "+ " ++ (decimal serial ++ (x_write_text rd slot ++ (custom_writes_text 0 slots ++ [])))) ++ 10 ∷ []
written_is serial rd slot slots = ap (λ t. t ++ 10 ∷ []) (whole (decimal serial) (x_write_text rd slot) (custom_writes_text 0 slots)) where
  whole : (d x k : List ℕ) → codes "+ " ++ d ++ x ++ k ≡ codes "+ " ++ (d ++ (x ++ (k ++ [])))
  whole d x k = append_assoc (codes "+ " ++ d) x k ∙ append_assoc (codes "+ ") d (x ++ k) ∙ ap (λ t. codes "+ " ++ (d ++ (x ++ t))) (sym (append-nil k))
