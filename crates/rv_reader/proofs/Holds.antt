-- Holds are read as they are printed.
use Rattle.std.proofs.Common.{◌≡◌, ℕ, ◌<◌, ◌≤◌, ◌^◌, ◌==◌, inl, inr, List, [], ◌∷◌, ◌++◌, length, refl, sym, ap, ◌∙◌, subst, arith, lit<, append_assoc, Option, Some, None, Bool, true, false}
use Rattle.std.specs.Prelude.{decimal, codes, if◌then◌else◌, nat_lt}
use Rattle.std.specs.Str.{bytes_eq}
use Rattle.std.proofs.lemmas.Bool.{eqb-true, lt-ltb, ltb-true}
use Rattle.ix_plan.specs.declared.design.Target.TheVariants.{X, Custom as custom_target}
use Rattle.rv_trace.specs.declared.row.Hold.{Hold}
use Rattle.rv_trace.specs.declared.row.Hold.TheVariants.{Operand, Board, Custom, Late, Trap, Drain, Wait, StoreAhead, Tail, UnitFull, Port, Behind}
use Rattle.rv_trace.specs.TraceText.{hold_text}
use Rattle.rv_reader.specs.Words.{Free, and_then, or_else, until, from, behind_in, number_in, below_in}
use Rattle.rv_reader.specs.Rows.{closed_in, one_in, pair_in, register_hold_in, serial_hold_in, small_hold_in, hold_in}
use Rattle.rv_reader.specs.Forms.{IsWord, IsByte, IsHold}
use Rattle.rv_reader.proofs.Readings.{taken, either, some_one, passed, until_at, from_at, until_from, from_begins, BeginsWith, behind_sound, same_bytes, number_back, number_sound}
use Rattle.rv_reader.proofs.Frees.{free_decimal}

-- ---- numbers
word_small : (n : ℕ) → IsWord n → n < 2 ^ 64
word_small n h = let l : 4294967295 < 2 ^ 64 = lit< tt in omega (arith, h, l)

byte_small : (n : ℕ) → IsByte n → n < 2 ^ 64
byte_small n h = let l : 255 < 2 ^ 64 = lit< tt in omega (arith, h, l)

pub below_back : (count n : ℕ) → IsByte n → n < count → below_in count (decimal n) ≡ Some n
below_back count n b h = ap (λ o. and_then o (λ n. if nat_lt n count then Some n else None)) (number_back 255 n b (lit< tt)) ∙ ap (λ b. if b then Some n else None) (lt-ltb n count h)

pub below_sound : (count n : ℕ) (word : List ℕ) → below_in count word ≡ Some n → IsByte n × (n < count) × (decimal n ≡ word)
below_sound count n word e =
    let t = taken (number_in 255 word) (λ n. if nat_lt n count then Some n else None) n e in
    let s = number_sound 255 word t.0 t.1 in
    let p = passed (nat_lt t.0 count) (Some t.0) n t.2 in
    let same = some_one t.0 n p.1 in
    (subst IsByte same s.0, subst (λ k. k < count) same (ltb-true t.0 count p.0), subst (λ k. decimal k ≡ word) same s.1)

-- ---- brackets
pub closed_back : (most n : ℕ) → n ≤ most → most < 2 ^ 64 → closed_in most (decimal n ++ 41 ∷ []) ≡ Some n
closed_back most n h w =
    let free : Free 41 (decimal n) = free_decimal 41 n (inl (omega arith)) (omega (arith, h, w)) in
    let rest = from_at 41 (decimal n) [] free in
    ap (λ t. if length t == 1 then number_in most (until 41 (decimal n ++ 41 ∷ [])) else None) rest ∙ ap (λ t. number_in most t) (until_at 41 (decimal n) [] free) ∙ number_back most n h w

one_byte : (by : ℕ) (w : List ℕ) → BeginsWith by w → length w ≡ 1 → w ≡ by ∷ []
one_byte by [] b e = absurd (omega (arith, e))
one_byte by (x ∷ []) b e = ap (λ c. c ∷ []) b
one_byte by (x ∷ y ∷ w) b e = absurd (omega (arith, e))

pub closed_sound : (most n : ℕ) (text : List ℕ) → closed_in most text ≡ Some n → (n ≤ most) × (text ≡ decimal n ++ 41 ∷ [])
closed_sound most n text e =
    let p = passed (length (from 41 text) == 1) (number_in most (until 41 text)) n e in
    let s = number_sound most (until 41 text) n p.1 in
    let end = one_byte 41 (from 41 text) (from_begins 41 text) (eqb-true (length (from 41 text)) 1 p.0) in
    (s.0, sym (until_from 41 text) ∙ ap (λ t. t ++ from 41 text) (sym s.1) ∙ ap (λ t. decimal n ++ t) end)

pub one_sound : (front : List ℕ) (most n : ℕ) (word : List ℕ) → one_in front most word ≡ Some n → (n ≤ most) × (word ≡ front ++ (decimal n ++ 41 ∷ []))
one_sound front most n word e =
    let t = taken (behind_in front word) (λ rest. closed_in most rest) n e in
    let s = closed_sound most n t.0 t.2 in
    (s.0, behind_sound front word t.0 t.1 ∙ ap (λ r. front ++ r) s.1)

-- ---- a register and a serial
abbrev pair_rest : ℕ → ℕ → List ℕ
pair_rest r j = decimal r ++ 44 ∷ (decimal j ++ 41 ∷ [])

pair_joined : (r j : ℕ) → ((decimal r ++ 44 ∷ []) ++ decimal j) ++ 41 ∷ [] ≡ pair_rest r j
pair_joined r j = append_assoc (decimal r ++ 44 ∷ []) (decimal j) (41 ∷ []) ∙ append_assoc (decimal r) (44 ∷ []) (decimal j ++ 41 ∷ [])

abbrev pair_of : ℕ → List ℕ → Option (ℕ × ℕ)
pair_of count rest = and_then (below_in count (until 44 rest)) (λ number. and_then (one_in (codes ",") 4294967295 (from 44 rest)) (λ serial. Some (number, serial)))

pair_back : (count r j : ℕ) → IsByte r → r < count → IsWord j → pair_of count (((decimal r ++ 44 ∷ []) ++ decimal j) ++ 41 ∷ []) ≡ Some (r, j)
unfolding behind_in
pair_back count r j b h w =
    let free : Free 44 (decimal r) = free_decimal 44 r (inl (omega arith)) (byte_small r b) in
    ap (λ t. pair_of count t) (pair_joined r j)
    ∙ ap (λ t. and_then (below_in count t) (λ number. and_then (one_in (codes ",") 4294967295 (from 44 (pair_rest r j))) (λ serial. Some (number, serial)))) (until_at 44 (decimal r) (decimal j ++ 41 ∷ []) free)
    ∙ ap (λ o. and_then o (λ number. and_then (one_in (codes ",") 4294967295 (from 44 (pair_rest r j))) (λ serial. Some (number, serial)))) (below_back count r b h)
    ∙ ap (λ t. and_then (one_in (codes ",") 4294967295 t) (λ serial. Some (r, serial))) (from_at 44 (decimal r) (decimal j ++ 41 ∷ []) free)
    ∙ ap (λ o. and_then o (λ serial. Some (r, serial))) (closed_back 4294967295 j w (lit< tt))

pub record IsPair (front : List ℕ) (count : ℕ) (word : List ℕ) (p : ℕ × ℕ) : Type 0 where
  pub byte : IsByte p.0
  pub below : p.0 < count
  pub serial : IsWord p.1
  pub is : front ++ (((decimal p.0 ++ 44 ∷ []) ++ decimal p.1) ++ 41 ∷ []) ≡ word

pub pair_sound : (front : List ℕ) (count : ℕ) (word : List ℕ) (p : ℕ × ℕ) → pair_in front count word ≡ Some p → IsPair front count word p
pair_sound front count word p e =
    let a = taken (behind_in front word) (λ rest. pair_of count rest) p e in
    let b = taken (below_in count (until 44 a.0)) (λ number. and_then (one_in (codes ",") 4294967295 (from 44 a.0)) (λ serial. Some (number, serial))) p a.2 in
    let c = taken (one_in (codes ",") 4294967295 (from 44 a.0)) (λ serial. Some (b.0, serial)) p b.2 in
    let same = some_one (b.0, c.0) p c.2 in
    let number = below_sound count b.0 (until 44 a.0) b.1 in
    let serial = one_sound (codes ",") 4294967295 c.0 (from 44 a.0) c.1 in
    let rest : pair_rest b.0 c.0 ≡ a.0 = ap (λ t. t ++ 44 ∷ (decimal c.0 ++ 41 ∷ [])) number.2 ∙ ap (λ t. until 44 a.0 ++ t) (sym serial.1) ∙ until_from 44 a.0 in
    subst (IsPair front count word) same (record { byte = number.0; below = number.1; serial = serial.0; is = ap (λ t. front ++ t) (pair_joined b.0 c.0 ∙ rest) ∙ sym (behind_sound front word a.0 a.1) })

-- ---- holds
first_found : {Y : Type 0} (o : Option Y) (f : Y → Option Hold) (y : Y) (hold : Hold) (rest : Option Hold) → o ≡ Some y → f y ≡ Some hold → or_else (and_then o f) rest ≡ Some hold
first_found o f y hold rest e g = ap (λ o. or_else (and_then o f) rest) e ∙ ap (λ o. or_else o rest) g

last_found : {Y : Type 0} (o : Option Y) (f : Y → Option Hold) (y : Y) (hold : Hold) → o ≡ Some y → f y ≡ Some hold → and_then o f ≡ Some hold
last_found o f y hold e g = ap (λ o. and_then o f) e ∙ g

register_back : (count : ℕ) (hold : Hold) (word : List ℕ) (rest : Option Hold) → bytes_eq word (codes "Behind") ≡ false → register_hold_in count word ≡ Some hold → hold_in count word ≡ Some hold
unfolding hold_in
register_back count hold word rest e f = ap (λ b. if b then Some Behind else or_else (register_hold_in count word) (or_else (serial_hold_in word) (small_hold_in word))) e ∙ ap (λ o. or_else o (or_else (serial_hold_in word) (small_hold_in word))) f

serial_back : (count : ℕ) (hold : Hold) (word : List ℕ) → bytes_eq word (codes "Behind") ≡ false → register_hold_in count word ≡ None → serial_hold_in word ≡ Some hold → hold_in count word ≡ Some hold
unfolding hold_in
serial_back count hold word e n f =
    ap (λ b. if b then Some Behind else or_else (register_hold_in count word) (or_else (serial_hold_in word) (small_hold_in word))) e ∙ ap (λ o. or_else o (or_else (serial_hold_in word) (small_hold_in word))) n
    ∙ ap (λ o. or_else o (small_hold_in word)) f

small_back : (count : ℕ) (hold : Hold) (word : List ℕ) → bytes_eq word (codes "Behind") ≡ false → register_hold_in count word ≡ None → serial_hold_in word ≡ None → small_hold_in word ≡ Some hold → hold_in count word ≡ Some hold
unfolding hold_in
small_back count hold word e n m f =
    ap (λ b. if b then Some Behind else or_else (register_hold_in count word) (or_else (serial_hold_in word) (small_hold_in word))) e ∙ ap (λ o. or_else o (or_else (serial_hold_in word) (small_hold_in word))) n
    ∙ ap (λ o. or_else o (small_hold_in word)) m ∙ f

pub hold_back : (count : ℕ) (hold : Hold) → IsHold count hold → hold_in count (hold_text hold) ≡ Some hold
unfolding hold_in register_hold_in serial_hold_in small_hold_in behind_in
hold_back count (Operand r j) h = register_back count (Operand r j) (hold_text (Operand r j)) None refl (first_found (pair_of 32 (((decimal r ++ 44 ∷ []) ++ decimal j) ++ 41 ∷ [])) (λ p. Some (Operand p.0 p.1)) (r, j) (Operand r j) _ (pair_back 32 r j h.0.0 h.0.1 h.1) refl)
hold_back count (Board (X r) j) h = register_back count (Board (X r) j) (hold_text (Board (X r) j)) None refl (first_found (pair_of 32 (((decimal r ++ 44 ∷ []) ++ decimal j) ++ 41 ∷ [])) (λ p. Some (Board (X p.0) p.1)) (r, j) (Board (X r) j) _ (pair_back 32 r j h.0.0 h.0.1 h.1) refl)
hold_back count (Board (custom_target r) j) h = register_back count (Board (custom_target r) j) (hold_text (Board (custom_target r) j)) None refl (first_found (pair_of count (((decimal r ++ 44 ∷ []) ++ decimal j) ++ 41 ∷ [])) (λ p. Some (Board (custom_target p.0) p.1)) (r, j) (Board (custom_target r) j) _ (pair_back count r j h.0.0 h.0.1 h.1) refl)
hold_back count (Custom r j) h = register_back count (Custom r j) (hold_text (Custom r j)) None refl (last_found (pair_of count (((decimal r ++ 44 ∷ []) ++ decimal j) ++ 41 ∷ [])) (λ p. Some (Custom p.0 p.1)) (r, j) (Custom r j) (pair_back count r j h.0.0 h.0.1 h.1) refl)
hold_back count (Late j) h = serial_back count (Late j) (hold_text (Late j)) refl refl (first_found (closed_in 4294967295 (decimal j ++ 41 ∷ [])) (λ j. Some (Late j)) j (Late j) _ (closed_back 4294967295 j h (lit< tt)) refl)
hold_back count Trap h = absurd h
hold_back count (Drain j) h = serial_back count (Drain j) (hold_text (Drain j)) refl refl (first_found (closed_in 4294967295 (decimal j ++ 41 ∷ [])) (λ j. Some (Drain j)) j (Drain j) _ (closed_back 4294967295 j h (lit< tt)) refl)
hold_back count (Wait n) h = small_back count (Wait n) (hold_text (Wait n)) refl refl refl (first_found (closed_in 255 (decimal n ++ 41 ∷ [])) (λ j. Some (Wait j)) n (Wait n) _ (closed_back 255 n h (lit< tt)) refl)
hold_back count (StoreAhead j) h = serial_back count (StoreAhead j) (hold_text (StoreAhead j)) refl refl (first_found (closed_in 4294967295 (decimal j ++ 41 ∷ [])) (λ j. Some (StoreAhead j)) j (StoreAhead j) _ (closed_back 4294967295 j h (lit< tt)) refl)
hold_back count (Tail n) h = small_back count (Tail n) (hold_text (Tail n)) refl refl refl (first_found (closed_in 255 (decimal n ++ 41 ∷ [])) (λ j. Some (Tail j)) n (Tail n) _ (closed_back 255 n h (lit< tt)) refl)
hold_back count (UnitFull n) h = small_back count (UnitFull n) (hold_text (UnitFull n)) refl refl refl (last_found (closed_in 255 (decimal n ++ 41 ∷ [])) (λ j. Some (UnitFull j)) n (UnitFull n) (closed_back 255 n h (lit< tt)) refl)
hold_back count (Port j) h = serial_back count (Port j) (hold_text (Port j)) refl refl (last_found (closed_in 4294967295 (decimal j ++ 41 ∷ [])) (λ j. Some (Port j)) j (Port j) (closed_back 4294967295 j h (lit< tt)) refl)
hold_back count Behind h = refl

-- what was read is in form and has this text
pub record IsHeldBy (count : ℕ) (word : List ℕ) (hold : Hold) : Type 0 where
  pub good : IsHold count hold
  pub is : hold_text hold ≡ word

by_pair : (count limit : ℕ) (front word : List ℕ) (made : ℕ × ℕ → Hold) → ((p : ℕ × ℕ) → IsPair front limit word p → IsHeldBy count word (made p)) → (hold : Hold) → and_then (pair_in front limit word) (λ p. Some (made p)) ≡ Some hold → IsHeldBy count word hold
by_pair count limit front word made good hold e =
    let t = taken (pair_in front limit word) (λ p. Some (made p)) hold e in
    subst (IsHeldBy count word) (some_one (made t.0) hold t.2) (good t.0 (pair_sound front limit word t.0 t.1))

by_one : (count most : ℕ) (front word : List ℕ) (made : ℕ → Hold) → ((n : ℕ) → n ≤ most → word ≡ front ++ (decimal n ++ 41 ∷ []) → IsHeldBy count word (made n)) → (hold : Hold) → and_then (one_in front most word) (λ n. Some (made n)) ≡ Some hold → IsHeldBy count word hold
by_one count most front word made good hold e =
    let t = taken (one_in front most word) (λ n. Some (made n)) hold e in
    let s = one_sound front most t.0 word t.1 in
    subst (IsHeldBy count word) (some_one (made t.0) hold t.2) (good t.0 s.0 s.1)

register_sound : (count : ℕ) (word : List ℕ) (hold : Hold) → register_hold_in count word ≡ Some hold → IsHeldBy count word hold
unfolding register_hold_in
register_sound count word hold e = elim (either (and_then (pair_in (codes "Operand(x") 32 word) (λ p. Some (Operand p.0 p.1))) _ hold e) [
  | inl a ↦ by_pair count 32 (codes "Operand(x") word (λ p. Operand p.0 p.1) (λ p s. record { good = ((s.byte, s.below), s.serial); is = s.is }) hold a
  | inr f ↦ elim (either (and_then (pair_in (codes "Board(x") 32 word) (λ p. Some (Board (X p.0) p.1))) _ hold f) [
    | inl a ↦ by_pair count 32 (codes "Board(x") word (λ p. Board (X p.0) p.1) (λ p s. record { good = ((s.byte, s.below), s.serial); is = s.is }) hold a
    | inr g ↦ elim (either (and_then (pair_in (codes "Board(c") count word) (λ p. Some (Board (custom_target p.0) p.1))) _ hold g) [
      | inl a ↦ by_pair count count (codes "Board(c") word (λ p. Board (custom_target p.0) p.1) (λ p s. record { good = ((s.byte, s.below), s.serial); is = s.is }) hold a
      | inr a ↦ by_pair count count (codes "Custom(c") word (λ p. Custom p.0 p.1) (λ p s. record { good = ((s.byte, s.below), s.serial); is = s.is }) hold a
    ]
  ]
]

serial_sound : (count : ℕ) (word : List ℕ) (hold : Hold) → serial_hold_in word ≡ Some hold → IsHeldBy count word hold
unfolding serial_hold_in
serial_sound count word hold e = elim (either (and_then (one_in (codes "Late(") 4294967295 word) (λ j. Some (Late j))) _ hold e) [
  | inl a ↦ by_one count 4294967295 (codes "Late(") word (λ j. Late j) (λ n h s. record { good = h; is = sym s }) hold a
  | inr f ↦ elim (either (and_then (one_in (codes "Drain(") 4294967295 word) (λ j. Some (Drain j))) _ hold f) [
    | inl a ↦ by_one count 4294967295 (codes "Drain(") word (λ j. Drain j) (λ n h s. record { good = h; is = sym s }) hold a
    | inr g ↦ elim (either (and_then (one_in (codes "StoreAhead(") 4294967295 word) (λ j. Some (StoreAhead j))) _ hold g) [
      | inl a ↦ by_one count 4294967295 (codes "StoreAhead(") word (λ j. StoreAhead j) (λ n h s. record { good = h; is = sym s }) hold a
      | inr a ↦ by_one count 4294967295 (codes "Port(") word (λ j. Port j) (λ n h s. record { good = h; is = sym s }) hold a
    ]
  ]
]

small_sound : (count : ℕ) (word : List ℕ) (hold : Hold) → small_hold_in word ≡ Some hold → IsHeldBy count word hold
unfolding small_hold_in
small_sound count word hold e = elim (either (and_then (one_in (codes "Wait(") 255 word) (λ n. Some (Wait n))) _ hold e) [
  | inl a ↦ by_one count 255 (codes "Wait(") word (λ n. Wait n) (λ n h s. record { good = h; is = sym s }) hold a
  | inr f ↦ elim (either (and_then (one_in (codes "Tail(") 255 word) (λ n. Some (Tail n))) _ hold f) [
    | inl a ↦ by_one count 255 (codes "Tail(") word (λ n. Tail n) (λ n h s. record { good = h; is = sym s }) hold a
    | inr a ↦ by_one count 255 (codes "UnitFull(") word (λ n. UnitFull n) (λ n h s. record { good = h; is = sym s }) hold a
  ]
]

pub hold_sound : (count : ℕ) (word : List ℕ) (hold : Hold) → hold_in count word ≡ Some hold → IsHeldBy count word hold
unfolding hold_in
hold_sound count word hold e = by_test (bytes_eq word (codes "Behind")) refl e where
  other : or_else (register_hold_in count word) (or_else (serial_hold_in word) (small_hold_in word)) ≡ Some hold → IsHeldBy count word hold
  other f = elim (either (register_hold_in count word) (or_else (serial_hold_in word) (small_hold_in word)) hold f) [
    | inl a ↦ register_sound count word hold a
    | inr g ↦ elim (either (serial_hold_in word) (small_hold_in word) hold g) [ inl a ↦ serial_sound count word hold a | inr a ↦ small_sound count word hold a ]
  ]

  by_test : (b : Bool) → bytes_eq word (codes "Behind") ≡ b → (if b then Some Behind else or_else (register_hold_in count word) (or_else (serial_hold_in word) (small_hold_in word))) ≡ Some hold → IsHeldBy count word hold
  by_test true t f = subst (IsHeldBy count word) (some_one Behind hold f) (record { good = tt; is = sym (same_bytes word (codes "Behind") t) })
  by_test false t f = other f
