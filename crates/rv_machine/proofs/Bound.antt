-- Not many rows pass without a retirement: the oldest token comes nearer in each.
use Rattle.rv_holds.specs.declared.token.Beside.{Beside}
use Rattle.std.proofs.Common.{◌≡◌, ℕ, zero, suc, ◌+◌, ◌-◌, drop, ◌<◌, ◌≤◌, List, [], ◌∷◌, length, map, get_or, Option, Some, None, Bool, true, false, refl, ap, ◌∙◌, subst, arith, ◌⊎◌, inl, inr}
use Rattle.std.specs.Prelude.{if◌then◌else◌, ◌==◌, nat_lt, is_some, min, max, ◌&&◌}
use Rattle.rv_core.specs.declared.Shape.{Shape}
use Rattle.rv_trace.specs.declared.row.Hold.{Hold}
use Rattle.rv_trace.specs.declared.row.Hold.TheVariants.{Wait, Tail, Behind, Trap}
use Rattle.rv_asks.specs.declared.asks.Asks.{Asks}
use Rattle.rv_holds.specs.declared.token.Token.{Token}
use Rattle.rv_holds.specs.Tokens.{Slots, or_else, stop_of}
use Rattle.rv_holds.specs.Holds.{oldest, withholder, writes_late, does_store, is_late, waits_for, operand_hold, waits_for_custom, first_from, custom_hold, late_hold, waiting_hold, staying, drain_hold, store_hold, memory_hold, tail_hold, own_hold, stops_now, is_blocked, shown, decided, entering, drain, least_from, board_hold, reading_hold, ending_hold, numbered, board, lower_of, spawner, register_count, register_at, spawns_at, trap_hold, leaving_hold}
use Rattle.rv_holds.specs.Flushing.{remains, fetch_after}
use Rattle.rv_engine.specs.Settings.{Setting, shape_of}
use Rattle.rv_engine.specs.Rows.{fill_first, tail_after, waited, going, kept, advanced, leaving}
use Rattle.rv_lawful.specs.Outstanding.{touches}
use Rattle.rv_machine.proofs.Idle.{alone}
use Rattle.rv_machine.specs.Placed.{count, first_of_two, may_wait, here, to_go, rank}
use Rattle.rv_machine.specs.Told.{Decided, NoStops}
use Rattle.std.proofs.lemmas.Bool.Decides.{nat_tests}
use Rattle.rv_machine.proofs.Deciding.{test_eq, decided_tail, no_stops_tail}
use Rattle.rv_machine.proofs.Moving.{advanced_length}

zero_left : (n : ℕ) → first_of_two n 0 ≡ 0 → n ≡ 0
zero_left zero e = refl
zero_left (suc n) e = e

not_zero : {A : Type 0} (n m : ℕ) → first_of_two n (suc m) ≡ 0 → A
not_zero zero m e = absurd (omega arith)
not_zero (suc n) m e = absurd (omega arith)

-- Where there is no older token nothing holds

pub to_go-zero : (k : Shape) (most owed stage : ℕ) (l : Slots) → to_go k most owed stage l ≡ 0 → count l ≡ 0
to_go-zero k most owed stage [] e = refl
to_go-zero k most owed stage (None ∷ l) e = to_go-zero k most owed (suc stage) l (zero_left (to_go k most owed (suc stage) l) e)
to_go-zero k most owed stage (Some t ∷ l) e = not_zero (to_go k most owed (suc stage) l) (length l + may_wait k most owed stage + t.tail) e

pub zero_to_go : (k : Shape) (most owed stage : ℕ) (l : Slots) → count l ≡ 0 → to_go k most owed stage l ≡ 0
zero_to_go k most owed stage [] e = refl
zero_to_go k most owed stage (None ∷ l) e = rw (zero_to_go k most owed (suc stage) l e)
zero_to_go k most owed stage (Some t ∷ l) e = absurd (omega (arith, e))

empty_oldest : (f : Token → Bool) (older : Slots) → count older ≡ 0 → oldest f older ≡ None
empty_oldest f [] e = refl
empty_oldest f (None ∷ older) e = empty_oldest f older e
empty_oldest f (Some t ∷ older) e = absurd (omega (arith, e))

empty_staying : (older : Slots) → count older ≡ 0 → staying older ≡ None
empty_staying [] e = refl
empty_staying (None ∷ older) e = empty_staying older e
empty_staying (Some t ∷ older) e = absurd (omega (arith, e))

empty_blocked : (k : Shape) (stage : ℕ) (older : Slots) → count older ≡ 0 → is_blocked k stage older ≡ false
empty_blocked k stage [] e = refl
empty_blocked k stage (None ∷ older) e = refl
empty_blocked k stage (Some t ∷ older) e = absurd (omega (arith, e))

if_same : (b : Bool) → ◌≡◌ {A = Option Hold} (if b then None else None) None
if_same true = refl
if_same false = refl

empty_withholder : (k : Shape) (r stage : ℕ) (older : Slots) → count older ≡ 0 → withholder k r stage older ≡ None
empty_withholder k r stage [] e = refl
empty_withholder k r stage (None ∷ older) e = empty_withholder k r (suc stage) older e
empty_withholder k r stage (Some t ∷ older) e = absurd (omega (arith, e))

no_waits : (k : Shape) (r stage : ℕ) (older : Slots) → count older ≡ 0 → waits_for k r stage older ≡ None
no_waits k r stage older e = rw (empty_withholder k r stage older e) (if_same (r == 0))

empty_operand : (k : Shape) (stage : ℕ) (older : Slots) (a : Asks) → count older ≡ 0 → operand_hold k stage older a ≡ None
empty_operand k stage older a e = rw (no_waits k (min a.first a.second) stage older e, no_waits k (max a.first a.second) stage older e)

no_custom : (older : Slots) (a : Asks) (r : ℕ) → count older ≡ 0 → waits_for_custom older a r ≡ None
no_custom older a r e = rw (empty_oldest (writes_late r) older e) (if_same (get_or a.customs r false))

no_first : (f : ℕ → Option Hold) (r n : ℕ) → ((j : ℕ) → f j ≡ None) → first_from f r n ≡ None
no_first f r zero h = refl
no_first f r (suc n) h = ap (λ o. or_else o (first_from f (suc r) n)) (h r) ∙ no_first f (suc r) n h

empty_custom : (older : Slots) (a : Asks) → count older ≡ 0 → custom_hold older a ≡ None
empty_custom older a e = no_first (waits_for_custom older a) 0 16 (λ r. no_custom older a r e)

empty_late : (older : Slots) → count older ≡ 0 → late_hold older ≡ None
empty_late older e = rw (empty_oldest is_late older e)

empty_store : (older : Slots) (a : Asks) → count older ≡ 0 → store_hold older a ≡ None
empty_store older a e = rw (empty_oldest does_store older e) (if_same a.loads)

empty_entering : (older : Slots) → count older ≡ 0 → entering older ≡ None
empty_entering [] e = refl
empty_entering (None ∷ []) e = refl
empty_entering (Some t ∷ []) e = absurd (omega (arith, e))
empty_entering (None ∷ u ∷ older) e = empty_entering (u ∷ older) e
empty_entering (Some t ∷ u ∷ older) e = absurd (omega (arith, e))

empty_drain : (now : Bool) (t : Token) (older : Slots) → t.beside ≡ alone now → count older ≡ 0 → drain_hold t older ≡ None
empty_drain now t older al e =
    ap (λ o. if is_some (stop_of t) then drain o else None)
    (ap (λ b. or_else b.left (or_else (entering older) (staying older))) al ∙ ap (λ o. or_else o (staying older)) (empty_entering older e) ∙ empty_staying older e)
    ∙ if_same (is_some (stop_of t))

no_least : (f : ℕ → Option ℕ) (n count : ℕ) → ((m : ℕ) → f m ≡ None) → least_from f n count ≡ None
no_least f n zero h = refl
no_least f n (suc count) h = ap (λ o. or_else (numbered n o) (least_from f (suc n) count)) (h n) ∙ no_least f (suc n) count h

no_number : (b : Bool) → ◌≡◌ {A = Option ℕ} (if b then None else None) None
no_number true = refl
no_number false = refl

empty_board : (now : Bool) (t : Token) (older : Slots) → t.beside ≡ alone now → count older ≡ 0 → board_hold t older ≡ None
empty_board now t older al e =
    ap (λ b. board (lower_of b.board (least_from (spawner older t.asks) 0 register_count))) al
    ∙ ap board (no_least (spawner older t.asks) 0 register_count (λ n. ap (λ (o : Option ℕ). if touches t.asks (register_at n) then o else None) (empty_oldest (spawns_at n) older e) ∙ no_number (touches t.asks (register_at n))))

empty_reading : (now : Bool) (k : Shape) (stage : ℕ) (t : Token) (older : Slots) → t.beside ≡ alone now → count older ≡ 0 → reading_hold k stage t older ≡ None
empty_reading now k stage t older al e = ap (λ o. or_else o (board_hold t older)) (empty_operand k (suc stage) older t.asks e) ∙ empty_board now t older al e

pub lone_ending : (now : Bool) (t : Token) → t.beside ≡ alone now → ending_hold t ≡ tail_hold t
lone_ending now t al = ap (λ b. or_else (tail_hold t) b.port) al ∙ right (tail_hold t) where
  right : (o : Option Hold) → or_else o None ≡ o
  right None = refl
  right (Some h) = refl

empty_waiting : (now : Bool) (k : Shape) (stage : ℕ) (t : Token) (older : Slots) → t.beside ≡ alone now → count older ≡ 0 → waiting_hold k stage t older ≡ None
empty_waiting now k stage t older al e =
    ap (λ o. or_else (if stage == k.rd then o else None) (if stage == k.ex then or_else (custom_hold older t.asks) (late_hold older) else None)) (empty_reading now k stage t older al e)
    ∙ ap (λ o. or_else (if stage == k.rd then None else None) (if stage == k.ex then or_else o (late_hold older) else None)) (empty_custom older t.asks e)
    ∙ ap (λ o. or_else (if stage == k.rd then None else None) (if stage == k.ex then o else None)) (empty_late older e)
    ∙ both (stage == k.rd) (stage == k.ex) where
      both : (a b : Bool) → ◌≡◌ {A = Option Hold} (or_else (if a then None else None) (if b then None else None)) None
      both true true = refl
      both true false = refl
      both false true = refl
      both false false = refl

-- the holds of a token with no older one: that of the memory, and that of its module
abbrev last_holds : Shape → ℕ → Token → Option Hold
last_holds k stage t = or_else (if stage == k.mem then memory_hold t else None) (if suc stage == k.stages then tail_hold t else None)

empty_own : (now : Bool) (k : Shape) (stage : ℕ) (t : Token) (older : Slots) → ((stage == k.ex) && now) ≡ false → t.beside ≡ alone now → count older ≡ 0 → own_hold k stage t older ≡ last_holds k stage t
empty_own now k stage t older free al e =
    ap (λ o. or_else o (or_else (if stage == k.ex then leaving_hold t older else None) (or_else (if stage == k.mem then or_else (memory_hold t) (store_hold older t.asks) else None) (if suc stage == k.stages then ending_hold t else None)))) (empty_waiting now k stage t older al e)
    ∙ ap (λ o. or_else o (or_else (if stage == k.mem then or_else (memory_hold t) (store_hold older t.asks) else None) (if suc stage == k.stages then ending_hold t else None))) leaves
    ∙ ap (λ o. or_else (if stage == k.mem then o else None) (if suc stage == k.stages then ending_hold t else None)) (ap (λ o. or_else (memory_hold t) o) (empty_store older t.asks e) ∙ right (memory_hold t))
    ∙ ap (λ o. or_else (if stage == k.mem then memory_hold t else None) (if suc stage == k.stages then o else None)) (lone_ending now t al) where
      right : (o : Option Hold) → or_else o None ≡ o
      right None = refl
      right (Some h) = refl

      no_trap : (b c : Bool) → (b && c) ≡ false → ◌≡◌ {A = Option Hold} (if b then or_else (if c then Some Trap else None) None else None) None
      no_trap true true q = cc
      no_trap true false q = refl
      no_trap false c q = refl

      leaves : (if stage == k.ex then leaving_hold t older else None) ≡ None
      leaves =
          ap (λ o. if stage == k.ex then or_else (trap_hold t) o else None) (empty_drain now t older al e)
          ∙ ap (λ (b : Beside). if stage == k.ex then or_else (if b.trap then Some Trap else None) None else None) al
          ∙ no_trap (stage == k.ex) now free

-- the oldest token is held for the memory
pub record Waits (k : Setting) (stage : ℕ) (t : Token) : Type 0 where
  pub at : stage ≡ (shape_of k).mem
  pub held : is_some t.cell.hold ≡ true
  pub some : (t.wait == 0) ≡ false
  pub shows : t.cell.hold ≡ Some (Wait t.wait)

-- or for its module
pub record Goes (k : Setting) (stage : ℕ) (t : Token) : Type 0 where
  pub last : (suc stage == (shape_of k).stages) ≡ true
  pub held : is_some t.cell.hold ≡ true
  pub some : (t.tail == 0) ≡ false
  pub shows : t.cell.hold ≡ Some (Tail t.tail)

pub oldest_free : (now : Bool) (k : Setting) (stage : ℕ) (t : Token) (older : Slots) → ((stage == (shape_of k).ex) && now) ≡ false → Decided k stage (Some t ∷ older) → NoStops k stage (Some t ∷ older) → t.beside ≡ alone now → count older ≡ 0 → (is_some t.cell.hold ≡ false) ⊎ (Waits k stage t ⊎ Goes k stage t)
oldest_free now k stage t older free d n al e = by_case (stage == (shape_of k).mem) (t.wait == 0) (suc stage == (shape_of k).stages) (t.tail == 0) refl refl refl refl (d.0 ∙ shown_is n.0) where
  right : (o : Option Hold) → or_else o None ≡ o
  right None = refl
  right (Some h) = refl

  shown_is : stops_now (shape_of k) stage t older ≡ false → shown (shape_of k) stage t older ≡ last_holds (shape_of k) stage t
  shown_is h =
      ap (λ (b : Bool). if b then None else or_else (own_hold (shape_of k) stage t older) (if is_blocked (shape_of k) (suc stage) older then Some Behind else None)) h
      ∙ ap (λ (b : Bool). or_else (own_hold (shape_of k) stage t older) (if b then Some Behind else None)) (empty_blocked (shape_of k) (suc stage) older e)
      ∙ right (own_hold (shape_of k) stage t older)
      ∙ empty_own now (shape_of k) stage t older free al e

  held_by : (h : Hold) → t.cell.hold ≡ Some h → is_some t.cell.hold ≡ true
  held_by h q = ap (λ o. is_some o) q

  by_case : (b w c z : Bool) → (stage == (shape_of k).mem) ≡ b → (t.wait == 0) ≡ w → (t.tail == 0) ≡ z → (suc stage == (shape_of k).stages) ≡ c
      → t.cell.hold ≡ or_else (if b then (if w then None else Some (Wait t.wait)) else None) (if c then (if z then None else Some (Tail t.tail)) else None)
      → (is_some t.cell.hold ≡ false) ⊎ (Waits k stage t ⊎ Goes k stage t)
  by_case true false c z p q r g h = inr (inl (record { at = test_eq stage (shape_of k).mem p; held = held_by (Wait t.wait) h; some = q; shows = h }))
  by_case true true true false p q r g h = inr (inr (record { last = g; held = held_by (Tail t.tail) h; some = r; shows = h }))
  by_case true true true true p q r g h = inl (ap (λ o. is_some o) h)
  by_case true true false z p q r g h = inl (ap (λ o. is_some o) h)
  by_case false w true false p q r g h = inr (inr (record { last = g; held = held_by (Tail t.tail) h; some = r; shows = h }))
  by_case false w true true p q r g h = inl (ap (λ o. is_some o) h)
  by_case false w false z p q r g h = inl (ap (λ o. is_some o) h)

empty_advanced : (older : Slots) → count older ≡ 0 → count (advanced None older) ≡ 0
empty_advanced [] e = refl
empty_advanced (None ∷ older) e = empty_advanced older e
empty_advanced (Some t ∷ older) e = absurd (omega (arith, e))

-- a token that comes into empty stages is then the oldest, or leaves
pub come_advanced : (k : Shape) (most owed stage : ℕ) (t : Token) (older : Slots) → count older ≡ 0 → leaving (Some t) older ≡ None → to_go k most owed stage (advanced (Some t) older) ≡ length older + may_wait k most owed stage + t.tail
come_advanced k most owed stage t [] e l = cc
come_advanced k most owed stage t (None ∷ older) e l =
    let z = zero_to_go k most owed (suc stage) (advanced None older) (empty_advanced older e) in
    rw (z, advanced_length None older) (omega arith)
come_advanced k most owed stage t (Some u ∷ older) e l = absurd (omega (arith, e))

pub some_stage : (t : Token) (older : Slots) → leaving (Some t) older ≡ None → 0 < length older
some_stage t [] l = cc
some_stage t (u ∷ older) l = omega arith

-- the rows of waiting become fewer as a token goes on
pub wait_falls : (k : Shape) (most owed owed' stage : ℕ) → owed' ≤ most → may_wait k most owed' (suc stage) ≤ may_wait k most owed stage
wait_falls k most owed owed' stage le = by_case (nat_lt (suc stage) k.mem) (suc stage == k.mem) (nat_lt stage k.mem) (stage == k.mem) refl refl refl where
  by_case : (a b c d : Bool) → nat_lt (suc stage) k.mem ≡ a → (suc stage == k.mem) ≡ b → nat_lt stage k.mem ≡ c → (if a then most else if b then owed' else 0) ≤ (if c then most else if d then owed else 0)
  by_case true b true d p q r = omega arith
  by_case false true true d p q r = omega (arith, le)
  by_case false false c d p q r = omega arith
  by_case true b false d p q r = absurd (never stage k.mem p r) where
    never : (m n : ℕ) → nat_lt (suc m) n ≡ true → nat_lt m n ≡ false → ⊥
    never m n p r = grind (arith, nat_tests)
  by_case false true false d p q r = absurd (never stage k.mem q r) where
    never : (m n : ℕ) → (suc m == n) ≡ true → nat_lt m n ≡ false → ⊥
    never m n p r = grind (arith, nat_tests)

wait_le : (k : Shape) (most owed stage : ℕ) → owed ≤ most → may_wait k most owed stage ≤ most
wait_le k most owed stage le = by_case (nat_lt stage k.mem) (stage == k.mem) where
  by_case : (a b : Bool) → (if a then most else if b then owed else 0) ≤ most
  by_case true b = omega arith
  by_case false true = le
  by_case false false = omega arith

wait_at-mem : (k : Shape) (most owed stage : ℕ) → stage ≡ k.mem → may_wait k most owed stage ≡ owed
wait_at-mem k most owed stage e = by_case (nat_lt stage k.mem) (stage == k.mem) (not_less stage k.mem e) (is_same stage k.mem e) where
  not_less : (m n : ℕ) → m ≡ n → nat_lt m n ≡ false
  not_less m n e = grind (arith, nat_tests)

  is_same : (m n : ℕ) → m ≡ n → (m == n) ≡ true
  is_same m n e = grind (arith, nat_tests)

  by_case : (a b : Bool) → a ≡ false → b ≡ true → (if a then most else if b then owed else 0) ≡ owed
  by_case false true p q = refl
  by_case true b p q = cc
  by_case false false p q = cc

-- and do not grow as it is held
pub wait_stays : (k : Shape) (most owed owed' stage : ℕ) → (stage ≡ k.mem → owed' ≤ owed) → may_wait k most owed' stage ≤ may_wait k most owed stage
wait_stays k most owed owed' stage f = by_case (nat_lt stage k.mem) (stage == k.mem) refl where
  by_case : (a b : Bool) → (stage == k.mem) ≡ b → (if a then most else if b then owed' else 0) ≤ (if a then most else if b then owed else 0)
  by_case true b e = omega arith
  by_case false true e = f (test_eq stage k.mem e)
  by_case false false e = omega arith

-- what is owed falls where the token of MEM waits, and does not grow where it is held
abbrev pub Falling : Setting → ℕ → ℕ → ℕ → Token → Type 0
Falling k owed owed' stage t = (Waits k stage t → owed' < owed) × (stage ≡ (shape_of k).mem → is_some t.cell.hold ≡ true → owed' ≤ owed)

abbrev pub Falls : Setting → ℕ → ℕ → ℕ → Slots → Type 0
Falls k owed owed' stage [] = Unit {0}
Falls k owed owed' stage (None ∷ older) = Falls k owed owed' (suc stage) older
Falls k owed owed' stage (Some t ∷ older) = Falling k owed owed' stage t × Falls k owed owed' (suc stage) older

pub falls_tail : (k : Setting) (owed owed' stage : ℕ) (s : Option Token) (older : Slots) → Falls k owed owed' stage (s ∷ older) → Falls k owed owed' (suc stage) older
falls_tail k owed owed' stage None older f = f
falls_tail k owed owed' stage (Some t) older f = f.1

pub falls : (k : Setting) (owed owed' base : ℕ) (seen : Slots) → ((n : ℕ) (t : Token) (older : Slots) → drop n seen ≡ Some t ∷ older → Falling k owed owed' (base + n) t) → Falls k owed owed' base seen
falls k owed owed' base [] f = tt
falls k owed owed' base (None ∷ older) f = falls k owed owed' (suc base) older (λ n t o d. let z : base + suc n ≡ suc base + n = omega arith in subst (λ i. Falling k owed owed' i t) z (f (suc n) t o d))
falls k owed owed' base (Some t ∷ older) f = (
  let z : base + 0 ≡ base = omega arith in subst (λ i. Falling k owed owed' i t) z (f 0 t older refl),
  falls k owed owed' (suc base) older (λ n u o d. let z : base + suc n ≡ suc base + n = omega arith in subst (λ i. Falling k owed owed' i u) z (f (suc n) u o d)),
)

-- the first of two, where it is one
pub first_is : (m b : ℕ) → 0 < m → first_of_two m b ≡ m
first_is zero b lt = absurd (omega arith)
first_is (suc m) b lt = refl

-- how near the oldest token is behind a row without a retirement
pub record Nearer (left now : ℕ) : Type 0 where
  pub fewer : left ≤ now
  pub some : 0 < left

-- the oldest token stays where it is held
pub stays_here : (k : Shape) (most owed stage : ℕ) (come : Option Token) (t : Token) (older : Slots) → is_some t.cell.hold ≡ true → count older ≡ 0 → to_go k most owed stage (advanced come (Some t ∷ older)) ≡ suc (length older + may_wait k most owed stage + tail_after t.cell.hold t.tail)
stays_here k most owed stage come t older h e =
    let z = zero_to_go k most owed (suc stage) (advanced None older) (empty_advanced older e) in
    ap (λ (b : Bool). first_of_two (to_go k most owed (suc stage) (advanced (if b then None else Some t) older)) (here k most owed stage (if b then Some (waited t) else come) (length (advanced (if b then None else Some t) older)))) h
    ∙ ap (λ n. first_of_two n (suc (length (advanced None older) + may_wait k most owed stage + tail_after t.cell.hold t.tail))) z
    ∙ ap (λ n. suc (n + may_wait k most owed stage + tail_after t.cell.hold t.tail)) (advanced_length None older)

above_zero : (n : ℕ) → (n == 0) ≡ false → 0 < n
above_zero n e = grind (arith, nat_tests)

-- none of these meets anything beside the stages
abbrev pub AreLone : Bool → Slots → Type 0
AreLone now [] = Unit {0}
AreLone now (None ∷ older) = AreLone now older
AreLone now (Some t ∷ older) = (t.beside ≡ alone now) × AreLone now older

lone_tail : (now : Bool) (s : Option Token) (older : Slots) → AreLone now (s ∷ older) → AreLone now older
lone_tail now None older h = h
lone_tail now (Some t) older h = h.1

-- where an interrupt is to be taken, the oldest of these tokens does not stand at EX
abbrev pub IsFree : Shape → Bool → ℕ → Slots → Type 0
IsFree k now stage [] = Unit {0}
IsFree k now stage (s ∷ older) = (count older ≡ 0 → ((stage == k.ex) && now) ≡ false) × IsFree k now (suc stage) older

pub is_free : (k : Shape) (now : Bool) (stage : ℕ) (l : Slots) → (now ≡ true → (i : ℕ) → stage + i ≡ k.ex → 0 < count (drop (suc i) l)) → IsFree k now stage l
is_free k now stage [] h = tt
is_free k now stage (s ∷ older) h = (
  λ z. by_case (stage == k.ex) now refl refl z,
  is_free k now (suc stage) older (λ e i at. h e (suc i) (omega (arith, at))),
) where
  by_case : (a b : Bool) → (stage == k.ex) ≡ a → now ≡ b → count older ≡ 0 → (a && b) ≡ false
  by_case true true at e z = let same = test_eq stage k.ex at in let some = h e 0 (omega (arith, same)) in absurd (omega (arith, some, z))
  by_case true false at e z = refl
  by_case false b at e z = refl

oldest_here : (now : Bool) (k : Setting) (most owed owed' stage n : ℕ) (come : Option Token) (t : Token) (older : Slots) → owed' ≤ most → Falls k owed owed' stage (Some t ∷ older) → Decided k stage (Some t ∷ older) → NoStops k stage (Some t ∷ older) → (count older ≡ 0 → ((stage == (shape_of k).ex) && now) ≡ false) → t.beside ≡ alone now → leaving come (Some t ∷ older) ≡ None → count older ≡ 0 → suc (length older + may_wait (shape_of k) most owed stage + t.tail) ≡ suc n
    → Nearer (to_go (shape_of k) most owed' stage (advanced come (Some t ∷ older))) n
oldest_here now k most owed owed' stage n come t older le f d ns free al l q e = elim (oldest_free now k stage t older (free q) d ns al q) [ inl x ↦ moves x | inr w ↦ elim w [ inl x ↦ waits x | inr x ↦ goes x ] ] where
  same : length older + may_wait (shape_of k) most owed stage + t.tail ≡ n
  same = omega (arith, e)

  moves : is_some t.cell.hold ≡ false → Nearer (to_go (shape_of k) most owed' stage (advanced come (Some t ∷ older))) n
  moves nh =
      let goes : going (Some t) ≡ Some t = ap (λ (b : Bool). if b then None else Some t) nh in
      let l' = subst (λ u. leaving u older ≡ None) goes l in
      let c = ap (λ u. to_go (shape_of k) most owed' (suc stage) (advanced u older)) goes ∙ come_advanced (shape_of k) most owed' (suc stage) t older q l' in
      let lt = some_stage t older l' in
      let w = wait_falls (shape_of k) most owed owed' stage le in
      let later = advanced (going (Some t)) older in
      let some : 0 < to_go (shape_of k) most owed' (suc stage) later = omega (arith, c, lt) in
      let whole : to_go (shape_of k) most owed' stage (advanced come (Some t ∷ older)) ≡ to_go (shape_of k) most owed' (suc stage) later = first_is (to_go (shape_of k) most owed' (suc stage) later) (here (shape_of k) most owed' stage (kept come (Some t)) (length later)) some in
      record { fewer = omega (arith, whole, c, w, same); some = omega (arith, whole, c, lt) }

  waits : Waits k stage t → Nearer (to_go (shape_of k) most owed' stage (advanced come (Some t ∷ older))) n
  waits w =
      let less = f.0.0 w in
      let a = wait_at-mem (shape_of k) most owed stage w.at in
      let b = wait_at-mem (shape_of k) most owed' stage w.at in
      let z : tail_after t.cell.hold t.tail ≡ t.tail = ap (λ h. tail_after h t.tail) w.shows in
      let whole = stays_here (shape_of k) most owed' stage come t older w.held q in
      record { fewer = omega (arith, whole, a, b, z, less, same); some = omega (arith, whole) }

  goes : Goes k stage t → Nearer (to_go (shape_of k) most owed' stage (advanced come (Some t ∷ older))) n
  goes g =
      let a = wait_stays (shape_of k) most owed owed' stage (λ at. f.0.1 at g.held) in
      let b = above_zero t.tail g.some in
      let z : tail_after t.cell.hold t.tail ≡ t.tail - 1 = ap (λ h. tail_after h t.tail) g.shows in
      let whole = stays_here (shape_of k) most owed' stage come t older g.held q in
      record { fewer = omega (arith, whole, a, b, z, same); some = omega (arith, whole) }

nearer : (now : Bool) (k : Setting) (most owed owed' stage n : ℕ) (come : Option Token) (seen : Slots) → owed' ≤ most → Falls k owed owed' stage seen → Decided k stage seen → NoStops k stage seen → IsFree (shape_of k) now stage seen → AreLone now seen → leaving come seen ≡ None → to_go (shape_of k) most owed stage seen ≡ suc n → Nearer (to_go (shape_of k) most owed' stage (advanced come seen)) n
nearer now k most owed owed' stage n come [] le f d ns free al l e = absurd (omega arith)
nearer now k most owed owed' stage n come (s ∷ older) le f d ns free al l e =
    by_case (to_go (shape_of k) most owed (suc stage) older) refl e
    (λ m q. nearer now k most owed owed' (suc stage) m (going s) older le (falls_tail k owed owed' stage s older f) (decided_tail k stage s older d) (no_stops_tail k stage s older ns) free.1 (lone_tail now s older al) l q) where
      here_now : (s : Option Token) → Falls k owed owed' stage (s ∷ older) → Decided k stage (s ∷ older) → NoStops k stage (s ∷ older) → (count older ≡ 0 → ((stage == (shape_of k).ex) && now) ≡ false) → AreLone now (s ∷ older) → leaving come (s ∷ older) ≡ None → count older ≡ 0 → here (shape_of k) most owed stage s (length older) ≡ suc n → Nearer (to_go (shape_of k) most owed' stage (advanced come (s ∷ older))) n
      here_now None f d ns free al l q e = absurd (omega (arith, e))
      here_now (Some t) f d ns free al l q e = oldest_here now k most owed owed' stage n come t older le f d ns free al.0 l q e

      by_case : (m : ℕ) → to_go (shape_of k) most owed (suc stage) older ≡ m → first_of_two m (here (shape_of k) most owed stage s (length older)) ≡ suc n
          → ((m : ℕ) → to_go (shape_of k) most owed (suc stage) older ≡ suc m → Nearer (to_go (shape_of k) most owed' (suc stage) (advanced (going s) older)) m)
          → Nearer (to_go (shape_of k) most owed' stage (advanced come (s ∷ older))) n
      by_case zero q e ih = here_now s f d ns free.0 al l (to_go-zero (shape_of k) most owed (suc stage) older q) e
      by_case (suc m) q e ih =
          let i = ih m q in
          let a = i.fewer in
          let b = i.some in
          let later = advanced (going s) older in
          let whole : to_go (shape_of k) most owed' stage (advanced come (s ∷ older)) ≡ to_go (shape_of k) most owed' (suc stage) later = first_is (to_go (shape_of k) most owed' (suc stage) later) (here (shape_of k) most owed' stage (kept come s) (length later)) b in
          record { fewer = omega (arith, whole, a, e); some = omega (arith, whole, b) }

-- the same of the rank
pub rank_falls : (now : Bool) (k : Setting) (most owed owed' n : ℕ) (seen : Slots) → owed' ≤ most → Falls k owed owed' 0 seen → Decided k 0 seen → NoStops k 0 seen → IsFree (shape_of k) now 0 seen → AreLone now seen → leaving None seen ≡ None → to_go (shape_of k) most owed 0 seen ≡ suc n → rank (shape_of k) most owed' (advanced None seen) ≤ n
rank_falls now k most owed owed' n seen le f d ns free al l e =
    let y = nearer now k most owed owed' 0 n None seen le f d ns free al l e in
    let a = y.fewer in
    let whole = first_is (to_go (shape_of k) most owed' 0 (advanced None seen)) (suc ((shape_of k).stages + most + 64)) y.some in
    omega (arith, whole, a)

-- What is decided and filled

abbrev pub tail_in : Option Token → Option ℕ
tail_in None = None
tail_in (Some t) = Some t.tail

abbrev pub tails_of : Slots → List (Option ℕ)
tails_of = map tail_in

same_rest : (a b : Option ℕ) (xs ys : List (Option ℕ)) → a ∷ xs ≡ b ∷ ys → xs ≡ ys
same_rest a b xs ys e = cc

same_tail : (a b : ℕ) (xs ys : List (Option ℕ)) → ◌≡◌ {A = List (Option ℕ)} (Some a ∷ xs) (Some b ∷ ys) → a ≡ b
same_tail a b xs ys e = cc

tails_length : (a b : Slots) → tails_of a ≡ tails_of b → length a ≡ length b
tails_length [] [] e = refl
tails_length [] (s ∷ b) e = cc
tails_length (s ∷ a) [] e = cc
tails_length (s ∷ a) (u ∷ b) e = ap suc (tails_length a b (same_rest (tail_in s) (tail_in u) (tails_of a) (tails_of b) e))

-- slots with the same tails have the same to go
pub to_go-tails : (k : Shape) (most owed stage : ℕ) (a b : Slots) → tails_of a ≡ tails_of b → to_go k most owed stage a ≡ to_go k most owed stage b
to_go-tails k most owed stage [] [] e = refl
to_go-tails k most owed stage [] (s ∷ b) e = cc
to_go-tails k most owed stage (s ∷ a) [] e = cc
to_go-tails k most owed stage (None ∷ a) (None ∷ b) e = ap (λ n. first_of_two n 0) (to_go-tails k most owed (suc stage) a b (same_rest None None (tails_of a) (tails_of b) e))
to_go-tails k most owed stage (None ∷ a) (Some u ∷ b) e = cc
to_go-tails k most owed stage (Some t ∷ a) (None ∷ b) e = cc
to_go-tails k most owed stage (Some t ∷ a) (Some u ∷ b) e =
    let rest = same_rest (Some t.tail) (Some u.tail) (tails_of a) (tails_of b) e in
    ap (λ n. first_of_two n (suc (length a + may_wait k most owed stage + t.tail))) (to_go-tails k most owed (suc stage) a b rest)
    ∙ ap (λ n. first_of_two (to_go k most owed (suc stage) b) (suc (n + may_wait k most owed stage + t.tail))) (tails_length a b rest)
    ∙ ap (λ n. first_of_two (to_go k most owed (suc stage) b) (suc (length b + may_wait k most owed stage + n))) (same_tail t.tail u.tail (tails_of a) (tails_of b) e)

pub to_go-decided : (k : Shape) (most owed stage n : ℕ) (slots : Slots) → to_go k most owed stage (decided k n slots) ≡ to_go k most owed stage slots
to_go-decided k most owed stage n slots = to_go-tails k most owed stage (decided k n slots) slots (tails_decided n slots) where
  tails_decided : (n : ℕ) (slots : Slots) → tails_of (decided k n slots) ≡ tails_of slots
  tails_decided n [] = refl
  tails_decided n (None ∷ older) = ap (λ l. None ∷ l) (tails_decided (suc n) older)
  tails_decided n (Some t ∷ older) = ap (λ l. Some t.tail ∷ l) (tails_decided (suc n) older)

pub first_le : (m b c : ℕ) → m ≤ c → b ≤ c → first_of_two m b ≤ c
first_le zero b c p q = q
first_le (suc m) b c p q = p

-- no module goes on for more than 64 cycles
abbrev pub IsShort : Option Token → Type 0
IsShort None = Unit {0}
IsShort (Some t) = t.tail ≤ 64

abbrev pub AreShort : Slots → Type 0
AreShort [] = Unit {0}
AreShort (s ∷ older) = IsShort s × AreShort older

here_le : (k : Shape) (most owed stage : ℕ) (s : Option Token) (n : ℕ) → owed ≤ most → IsShort s → here k most owed stage s n ≤ suc n + most + 64
here_le k most owed stage None n le short = omega arith
here_le k most owed stage (Some t) n le short = let w = wait_le k most owed stage le in omega (arith, w, short)

pub to_go-le : (k : Shape) (most owed stage : ℕ) (slots : Slots) → owed ≤ most → AreShort slots → to_go k most owed stage slots ≤ length slots + most + 64
to_go-le k most owed stage [] le short = omega arith
to_go-le k most owed stage (s ∷ older) le short =
    let ih = to_go-le k most owed (suc stage) older le short.1 in
    let h = here_le k most owed stage s (length older) le short.0 in
    first_le (to_go k most owed (suc stage) older) (here k most owed stage s (length older)) (suc (length older) + most + 64) (omega (arith, ih)) h

-- where the slots have a token before the fetch, the rank is theirs; else something is fetched, or nothing is there
pub fill_rank : (k : Shape) (most owed : ℕ) (new : Option Token) (slots : Slots) → length slots ≡ k.stages → 0 < k.stages → owed ≤ most → IsShort new
    → ((n : ℕ) × (to_go k most owed 0 (fill_first new slots) ≡ suc n) × (suc n ≤ rank k most owed slots)) ⊎ ((new ≡ None) × (to_go k most owed 0 (fill_first new slots) ≡ 0))
fill_rank k most owed new [] e lt le short = absurd (omega arith)
fill_rank k most owed new (Some t ∷ older) e lt le short = by_case (to_go k most owed 1 older) (length older + may_wait k most owed 0 + t.tail) where
  by_case : (m h : ℕ) → ((n : ℕ) × (first_of_two m (suc h) ≡ suc n) × (suc n ≤ first_of_two (first_of_two m (suc h)) (suc (k.stages + most + 64)))) ⊎ ((new ≡ None) × (first_of_two m (suc h) ≡ 0))
  by_case zero h = inl (h, refl, omega arith)
  by_case (suc m) h = inl (m, refl, omega arith)
fill_rank k most owed None (None ∷ older) e lt le short = by_case (to_go k most owed 1 older) where
  by_case : (m : ℕ) → ((n : ℕ) × (first_of_two m 0 ≡ suc n) × (suc n ≤ first_of_two (first_of_two m 0) (suc (k.stages + most + 64)))) ⊎ ((◌≡◌ {A = Option Token} None None) × (first_of_two m 0 ≡ 0))
  by_case zero = inr (refl, refl)
  by_case (suc m) = inl (m, refl, omega arith)
fill_rank k most owed (Some t) (None ∷ older) e lt le short = by_case (to_go k most owed 1 older) (length older + may_wait k most owed 0 + t.tail) few where
  few : length older + may_wait k most owed 0 + t.tail ≤ k.stages + most + 64
  few = let w = wait_le k most owed 0 le in omega (arith, w, e, short)

  by_case : (m h : ℕ) → h ≤ k.stages + most + 64 → ((n : ℕ) × (first_of_two m (suc h) ≡ suc n) × (suc n ≤ first_of_two (first_of_two m 0) (suc (k.stages + most + 64)))) ⊎ ((◌≡◌ {A = Option Token} (Some t) None) × (first_of_two m (suc h) ≡ 0))
  by_case zero h p = inl (h, refl, omega (arith, p))
  by_case (suc m) h p = inl (m, refl, omega arith)

-- with no token the row leaves nothing, and the fetch address as it was
pub nothing_there : (slots : Slots) (fetch : ℕ) → count slots ≡ 0 → (remains slots ≡ false) × (fetch_after fetch slots ≡ fetch)
nothing_there [] fetch e = (refl, refl)
nothing_there (None ∷ slots) fetch e = ((nothing_there slots fetch e).0, refl)
nothing_there (Some t ∷ slots) fetch e = absurd (omega (arith, e))
