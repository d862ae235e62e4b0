-- Cells are read as they are printed.
use Rattle.std.proofs.Common.{◌≡◌, ℕ, zero, suc, ◌≤◌, inl, inr, List, [], ◌∷◌, ◌++◌, length, refl, sym, ap, ◌∙◌, subst, arith, lit<, append_assoc, length-append, Option, Some, None, Bool, true, false}
use Rattle.std.specs.Prelude.{decimal, codes, if◌then◌else◌}
use Rattle.std.specs.List.{flat_map}
use Rattle.std.specs.Str.{bytes_eq}
use Rattle.std.proofs.lemmas.List.{append-nil}
use Rattle.ix_io.specs.Out.{hex_digits}
use Rattle.ix_io.proofs.Digits.{length-hex_digits}
use Rattle.ix_plan.specs.declared.design.Target.TheVariants.{X, Custom as custom_target}
use Rattle.rv_trace.specs.declared.row.Hold.{Hold}
use Rattle.rv_trace.specs.declared.row.Hold.TheVariants.{Operand, Board, Custom, Late, Trap, Drain, Wait, StoreAhead, Tail, UnitFull, Port, Behind}
use Rattle.rv_trace.specs.TraceText.{hold_text}
use Rattle.rv_shown.specs.declared.shown.ShownCell.{ShownCell}
use Rattle.rv_shown.specs.Shown.{hold_part, cell_text}
use Rattle.rv_reader.specs.Words.{Free, and_then, until, from, behind_in, number_in, digits_in}
use Rattle.rv_reader.specs.Rows.{hold_in, held_in, cell_in, cells_from, cell}
use Rattle.rv_reader.specs.Forms.{IsWord, IsHold, IsHeld, IsCell, AreCells}
use Rattle.rv_reader.proofs.Readings.{BeginsWith, taken, some_one, until_at, from_at, until_from, behind_sound, same_bytes, other_bytes, number_back, number_sound, digits_back, digits_sound, digits_small}
use Rattle.rv_reader.proofs.Frees.{IsOut, free_by_test, free_join, free_word, free_byte, free_hex, until_begin, from_begin, is_free}
use Rattle.rv_reader.proofs.Holds.{hold_back, hold_sound}

-- ---- texts without a byte
module _ (by : ℕ) (out : IsOut by) where
  free_pair : (front : List ℕ) (r j : ℕ) → is_free by front ≡ true → is_free by (44 ∷ []) ≡ true → is_free by (41 ∷ []) ≡ true → r ≤ 255 → IsWord j → Free by (((front ++ decimal r) ++ 44 ∷ []) ++ decimal j ++ 41 ∷ [])
  free_pair front r j a b c h w =
      free_join by (((front ++ decimal r) ++ 44 ∷ []) ++ decimal j) (41 ∷ [])
      (free_join by ((front ++ decimal r) ++ 44 ∷ []) (decimal j) (free_join by (front ++ decimal r) (44 ∷ []) (free_join by front (decimal r) (free_by_test by front a) (free_byte by r out h)) (free_by_test by (44 ∷ []) b)) (free_word by j out w)) (free_by_test by (41 ∷ []) c)

  free_one : (front : List ℕ) (j : ℕ) → is_free by front ≡ true → is_free by (41 ∷ []) ≡ true → Free by (decimal j) → Free by ((front ++ decimal j) ++ 41 ∷ [])
  free_one front j a c f = free_join by (front ++ decimal j) (41 ∷ []) (free_join by front (decimal j) (free_by_test by front a) f) (free_by_test by (41 ∷ []) c)

space_out : IsOut 32
space_out = inl (omega arith)

feed_out : IsOut 10
feed_out = inl (omega arith)

pub hold_spaces : (count : ℕ) (hold : Hold) → IsHold count hold → Free 32 (hold_text hold)
hold_spaces count (Operand r j) h = free_pair 32 space_out (codes "Operand(x") r j refl refl refl h.0.0 h.1
hold_spaces count (Board (X r) j) h = free_pair 32 space_out (codes "Board(x") r j refl refl refl h.0.0 h.1
hold_spaces count (Board (custom_target r) j) h = free_pair 32 space_out (codes "Board(c") r j refl refl refl h.0.0 h.1
hold_spaces count (Custom r j) h = free_pair 32 space_out (codes "Custom(c") r j refl refl refl h.0.0 h.1
hold_spaces count (Late j) h = free_one 32 space_out (codes "Late(") j refl refl (free_word 32 j space_out h)
hold_spaces count Trap h = absurd h
hold_spaces count (Drain j) h = free_one 32 space_out (codes "Drain(") j refl refl (free_word 32 j space_out h)
hold_spaces count (Wait n) h = free_one 32 space_out (codes "Wait(") n refl refl (free_byte 32 n space_out h)
hold_spaces count (StoreAhead j) h = free_one 32 space_out (codes "StoreAhead(") j refl refl (free_word 32 j space_out h)
hold_spaces count (Tail n) h = free_one 32 space_out (codes "Tail(") n refl refl (free_byte 32 n space_out h)
hold_spaces count (UnitFull n) h = free_one 32 space_out (codes "UnitFull(") n refl refl (free_byte 32 n space_out h)
hold_spaces count (Port j) h = free_one 32 space_out (codes "Port(") j refl refl (free_word 32 j space_out h)
hold_spaces count Behind h = free_by_test 32 (codes "Behind") refl

pub hold_feeds : (count : ℕ) (hold : Hold) → IsHold count hold → Free 10 (hold_text hold)
hold_feeds count (Operand r j) h = free_pair 10 feed_out (codes "Operand(x") r j refl refl refl h.0.0 h.1
hold_feeds count (Board (X r) j) h = free_pair 10 feed_out (codes "Board(x") r j refl refl refl h.0.0 h.1
hold_feeds count (Board (custom_target r) j) h = free_pair 10 feed_out (codes "Board(c") r j refl refl refl h.0.0 h.1
hold_feeds count (Custom r j) h = free_pair 10 feed_out (codes "Custom(c") r j refl refl refl h.0.0 h.1
hold_feeds count (Late j) h = free_one 10 feed_out (codes "Late(") j refl refl (free_word 10 j feed_out h)
hold_feeds count Trap h = absurd h
hold_feeds count (Drain j) h = free_one 10 feed_out (codes "Drain(") j refl refl (free_word 10 j feed_out h)
hold_feeds count (Wait n) h = free_one 10 feed_out (codes "Wait(") n refl refl (free_byte 10 n feed_out h)
hold_feeds count (StoreAhead j) h = free_one 10 feed_out (codes "StoreAhead(") j refl refl (free_word 10 j feed_out h)
hold_feeds count (Tail n) h = free_one 10 feed_out (codes "Tail(") n refl refl (free_byte 10 n feed_out h)
hold_feeds count (UnitFull n) h = free_one 10 feed_out (codes "UnitFull(") n refl refl (free_byte 10 n feed_out h)
hold_feeds count (Port j) h = free_one 10 feed_out (codes "Port(") j refl refl (free_word 10 j feed_out h)
hold_feeds count Behind h = free_by_test 10 (codes "Behind") refl

part_spaces : (count : ℕ) (hold : Option Hold) → IsHeld count hold → Free 32 (hold_part hold)
part_spaces count None h = tt
part_spaces count (Some hold) h = (refl, hold_spaces count hold h)

part_feeds : (count : ℕ) (hold : Option Hold) → IsHeld count hold → Free 10 (hold_part hold)
part_feeds count None h = tt
part_feeds count (Some hold) h = (refl, hold_feeds count hold h)

-- ---- the word of a cell
abbrev pub word_of : Option ShownCell → List ℕ
word_of None = codes "-"
word_of (Some c) = ((decimal c.serial ++ 64 ∷ []) ++ hex_digits 8 c.at) ++ hold_part c.hold

pub cell_is : (c : Option ShownCell) → cell_text c ≡ 32 ∷ word_of c
cell_is None = refl
cell_is (Some c) = refl

pub word_spaces : (count : ℕ) (c : Option ShownCell) → IsCell count c → Free 32 (word_of c)
word_spaces count None h = free_by_test 32 (codes "-") refl
word_spaces count (Some c) h =
    free_join 32 ((decimal c.serial ++ 64 ∷ []) ++ hex_digits 8 c.at) (hold_part c.hold)
    (free_join 32 (decimal c.serial ++ 64 ∷ []) (hex_digits 8 c.at) (free_join 32 (decimal c.serial) (64 ∷ []) (free_word 32 c.serial space_out h.0) (refl, tt)) (free_hex 32 8 c.at refl)) (part_spaces count c.hold h.2)

pub word_feeds : (count : ℕ) (c : Option ShownCell) → IsCell count c → Free 10 (word_of c)
word_feeds count None h = free_by_test 10 (codes "-") refl
word_feeds count (Some c) h =
    free_join 10 ((decimal c.serial ++ 64 ∷ []) ++ hex_digits 8 c.at) (hold_part c.hold)
    (free_join 10 (decimal c.serial ++ 64 ∷ []) (hex_digits 8 c.at) (free_join 10 (decimal c.serial) (64 ∷ []) (free_word 10 c.serial feed_out h.0) (refl, tt)) (free_hex 10 8 c.at refl)) (part_feeds count c.hold h.2)

held_back : (count : ℕ) (hold : Option Hold) → IsHeld count hold → held_in count (hold_part hold) ≡ Some hold
unfolding held_in behind_in
held_back count None h = refl
held_back count (Some hold) h = ap (λ o. and_then o (λ hold. Some (Some hold))) (hold_back count hold h)

part_begins : (hold : Option Hold) → BeginsWith 47 (hold_part hold)
part_begins None = tt
part_begins (Some hold) = refl

word_joined : (c : ShownCell) → word_of (Some c) ≡ decimal c.serial ++ 64 ∷ (hex_digits 8 c.at ++ hold_part c.hold)
word_joined c = append_assoc (decimal c.serial ++ 64 ∷ []) (hex_digits 8 c.at) (hold_part c.hold) ∙ append_assoc (decimal c.serial) (64 ∷ []) (hex_digits 8 c.at ++ hold_part c.hold)

no_dash : (c : ShownCell) → word_of (Some c) ≡ codes "-" → ⊥
no_dash c e =
    omega (
      arith,
      ap length e,
      length-append ((decimal c.serial ++ 64 ∷ []) ++ hex_digits 8 c.at) (hold_part c.hold),
      length-append (decimal c.serial ++ 64 ∷ []) (hex_digits 8 c.at),
      length-hex_digits 8 c.at,
    )

abbrev rest_read : ℕ → ℕ → List ℕ → Option (Option ShownCell)
rest_read count serial rest = and_then (digits_in 8 (until 47 rest)) (λ at. and_then (held_in count (from 47 rest)) (λ hold. Some (Some (cell serial at hold))))

abbrev whole_read : ℕ → List ℕ → Option (Option ShownCell)
whole_read count word = and_then (number_in 4294967295 (until 64 word)) (λ serial. and_then (behind_in (codes "@") (from 64 word)) (λ rest. rest_read count serial rest))

rest_back : (count serial at : ℕ) (hold : Option Hold) → IsWord at → IsHeld count hold → rest_read count serial (hex_digits 8 at ++ hold_part hold) ≡ Some (Some (cell serial at hold))
rest_back count serial at hold h g =
    let free : Free 47 (hex_digits 8 at) = free_hex 47 8 at refl in
    let text = hex_digits 8 at ++ hold_part hold in
    ap (λ t. and_then (digits_in 8 t) (λ at. and_then (held_in count (from 47 text)) (λ hold. Some (Some (cell serial at hold))))) (until_begin 47 (hex_digits 8 at) (hold_part hold) free (part_begins hold))
    ∙ ap (λ o. and_then o (λ at. and_then (held_in count (from 47 text)) (λ hold. Some (Some (cell serial at hold))))) (digits_back 8 at (omega (arith, h)))
    ∙ ap (λ t. and_then (held_in count t) (λ hold. Some (Some (cell serial at hold)))) (from_begin 47 (hex_digits 8 at) (hold_part hold) free (part_begins hold))
    ∙ ap (λ o. and_then o (λ hold. Some (Some (cell serial at hold)))) (held_back count hold g)

whole_back : (count serial : ℕ) (rest : List ℕ) (found : Option (Option ShownCell)) → IsWord serial → rest_read count serial rest ≡ found → whole_read count (decimal serial ++ 64 ∷ rest) ≡ found
unfolding behind_in
whole_back count serial rest found h e =
    let free : Free 64 (decimal serial) = free_word 64 serial (inr (omega arith)) h in
    let text = decimal serial ++ 64 ∷ rest in
    ap (λ t. and_then (number_in 4294967295 t) (λ serial. and_then (behind_in (codes "@") (from 64 text)) (λ rest. rest_read count serial rest))) (until_at 64 (decimal serial) rest free)
    ∙ ap (λ o. and_then o (λ serial. and_then (behind_in (codes "@") (from 64 text)) (λ rest. rest_read count serial rest))) (number_back 4294967295 serial h (lit< tt))
    ∙ ap (λ t. and_then (behind_in (codes "@") t) (λ rest. rest_read count serial rest)) (from_at 64 (decimal serial) rest free)
    ∙ e

pub cell_back : (count : ℕ) (c : Option ShownCell) → IsCell count c → cell_in count (word_of c) ≡ Some c
unfolding cell_in
cell_back count None h = refl
cell_back count (Some c) h =
    ap (λ b. if b then Some None else whole_read count (word_of (Some c))) (other_bytes (word_of (Some c)) (codes "-") (no_dash c))
    ∙ ap (λ t. whole_read count t) (word_joined c)
    ∙ whole_back count c.serial (hex_digits 8 c.at ++ hold_part c.hold) (Some (Some (cell c.serial c.at c.hold))) h.0 (rest_back count c.serial c.at c.hold h.1 h.2)

held_sound : (count : ℕ) (text : List ℕ) (hold : Option Hold) → held_in count text ≡ Some hold → IsHeld count hold × (hold_part hold ≡ text)
unfolding held_in
held_sound count [] hold e = subst (λ h. IsHeld count h × (hold_part h ≡ [])) (some_one None hold e) (tt, refl)
held_sound count (b ∷ rest) hold e =
    let a = taken (behind_in (codes "/") (b ∷ rest)) (λ word. and_then (hold_in count word) (λ hold. Some (Some hold))) hold e in
    let h = taken (hold_in count a.0) (λ hold. Some (Some hold)) hold a.2 in
    let s = hold_sound count a.0 h.0 h.1 in
    subst (λ h. IsHeld count h × (hold_part h ≡ b ∷ rest)) (some_one (Some h.0) hold h.2) (s.good, ap (λ t. 47 ∷ t) s.is ∙ sym (behind_sound (codes "/") (b ∷ rest) a.0 a.1))

pub cell_sound : (count : ℕ) (word : List ℕ) (c : Option ShownCell) → cell_in count word ≡ Some c → IsCell count c × (word_of c ≡ word)
unfolding cell_in
cell_sound count word c e = by_test (bytes_eq word (codes "-")) refl e where
  by_test : (b : Bool) → bytes_eq word (codes "-") ≡ b → (if b then Some None else whole_read count word) ≡ Some c → IsCell count c × (word_of c ≡ word)
  by_test true t f = subst (λ c. IsCell count c × (word_of c ≡ word)) (some_one None c f) (tt, sym (same_bytes word (codes "-") t))
  by_test false t f =
      let s = taken (number_in 4294967295 (until 64 word)) (λ serial. and_then (behind_in (codes "@") (from 64 word)) (λ rest. rest_read count serial rest)) c f in
      let r = taken (behind_in (codes "@") (from 64 word)) (λ rest. rest_read count s.0 rest) c s.2 in
      let a = taken (digits_in 8 (until 47 r.0)) (λ at. and_then (held_in count (from 47 r.0)) (λ hold. Some (Some (cell s.0 at hold)))) c r.2 in
      let h = taken (held_in count (from 47 r.0)) (λ hold. Some (Some (cell s.0 a.0 hold))) c a.2 in
      let serial = number_sound 4294967295 (until 64 word) s.0 s.1 in
      let at = digits_sound 8 (until 47 r.0) a.0 a.1 in
      let small = digits_small 8 (until 47 r.0) a.0 a.1 in
      let hold = held_sound count (from 47 r.0) h.0 h.1 in
      let rest : hex_digits 8 a.0 ++ hold_part h.0 ≡ r.0 = ap (λ t. t ++ hold_part h.0) at ∙ ap (λ t. until 47 r.0 ++ t) hold.1 ∙ until_from 47 r.0 in
      let whole : decimal s.0 ++ 64 ∷ (hex_digits 8 a.0 ++ hold_part h.0) ≡ word = ap (λ t. t ++ 64 ∷ (hex_digits 8 a.0 ++ hold_part h.0)) serial.1 ∙ ap (λ t. until 64 word ++ 64 ∷ t) rest ∙ ap (λ t. until 64 word ++ t) (sym (behind_sound (codes "@") (from 64 word) r.0 r.1)) ∙ until_from 64 word in
      subst (λ c. IsCell count c × (word_of c ≡ word)) (some_one (Some (cell s.0 a.0 h.0)) c h.2) ((serial.0, omega (arith, small), hold.0), word_joined (cell s.0 a.0 h.0) ∙ whole)

-- ---- cells, one behind the other
pub cells_back : (count : ℕ) (cells so_far : List (Option ShownCell)) (rest : List ℕ) → AreCells count cells → BeginsWith 32 rest → cells_from count (length cells) so_far (flat_map cell_text cells ++ rest) ≡ Some (so_far ++ cells, rest)
unfolding cells_from behind_in
cells_back count [] so_far rest h b = ap (λ t. Some (t, rest)) (sym (append-nil so_far))
cells_back count (c ∷ cells) so_far rest h b =
    let left = flat_map cell_text cells ++ rest in
    let text : flat_map cell_text (c ∷ cells) ++ rest ≡ 32 ∷ (word_of c ++ left) = append_assoc (cell_text c) (flat_map cell_text cells) rest ∙ ap (λ t. t ++ left) (cell_is c) in
    let free = word_spaces count c h.0 in
    let begins : BeginsWith 32 left = cells_begin cells rest b in
    ap (λ t. cells_from count (suc (length cells)) so_far t) text
    ∙ ap (λ t. and_then (cell_in count t) (λ found. cells_from count (length cells) (so_far ++ found ∷ []) (from 32 (word_of c ++ left)))) (until_begin 32 (word_of c) left free begins)
    ∙ ap (λ o. and_then o (λ found. cells_from count (length cells) (so_far ++ found ∷ []) (from 32 (word_of c ++ left)))) (cell_back count c h.0)
    ∙ ap (λ t. cells_from count (length cells) (so_far ++ c ∷ []) t) (from_begin 32 (word_of c) left free begins)
    ∙ cells_back count cells (so_far ++ c ∷ []) rest h.1 b
    ∙ ap (λ t. Some (t, rest)) (append_assoc so_far (c ∷ []) cells)
  where
    cells_begin : (cells : List (Option ShownCell)) (rest : List ℕ) → BeginsWith 32 rest → BeginsWith 32 (flat_map cell_text cells ++ rest)
    cells_begin [] rest b = b
    cells_begin (None ∷ cells) rest b = refl
    cells_begin (Some c ∷ cells) rest b = refl

pub record IsCellsRead (count n : ℕ) (so_far : List (Option ShownCell)) (text : List ℕ) (found : List (Option ShownCell) × List ℕ) : Type 0 where
  pub cells : List (Option ShownCell)
  pub are : found.0 ≡ so_far ++ cells
  pub many : length cells ≡ n
  pub good : AreCells count cells
  pub text_is : flat_map cell_text cells ++ found.1 ≡ text

pub cells_sound : (count n : ℕ) (so_far : List (Option ShownCell)) (text : List ℕ) (found : List (Option ShownCell) × List ℕ) → cells_from count n so_far text ≡ Some found → IsCellsRead count n so_far text found
unfolding cells_from
cells_sound count zero so_far text found e = subst (IsCellsRead count 0 so_far text) (some_one (so_far, text) found e) (record { cells = []; are = sym (append-nil so_far); many = refl; good = tt; text_is = refl })
cells_sound count (suc n) so_far text found e =
    let a = taken (behind_in (codes " ") text) (λ rest. and_then (cell_in count (until 32 rest)) (λ c. cells_from count n (so_far ++ c ∷ []) (from 32 rest))) found e in
    let c = taken (cell_in count (until 32 a.0)) (λ c. cells_from count n (so_far ++ c ∷ []) (from 32 a.0)) found a.2 in
    let more = cells_sound count n (so_far ++ c.0 ∷ []) (from 32 a.0) found c.2 in
    let s = cell_sound count (until 32 a.0) c.0 c.1 in
    record {
      cells = c.0 ∷ more.cells;
      are = more.are ∙ append_assoc so_far (c.0 ∷ []) more.cells;
      many = ap suc more.many;
      good = (s.0, more.good);
      text_is = append_assoc (cell_text c.0) (flat_map cell_text more.cells) found.1 ∙ ap (λ t. cell_text c.0 ++ t) more.text_is ∙ ap (λ t. t ++ from 32 a.0) (cell_is c.0) ∙ ap (λ t. 32 ∷ (t ++ from 32 a.0)) s.1 ∙ ap (λ t. 32 ∷ t) (until_from 32 a.0) ∙ sym (behind_sound (codes " ") text a.0 a.1);
    }
