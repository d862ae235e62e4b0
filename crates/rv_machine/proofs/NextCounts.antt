-- What the machine counts after a row: serials, accesses, waits, and how many rows may pass without a retirement.
use Rattle.rv_machine.proofs.Past.{drop_drop}
use Rattle.rv_core.specs.declared.Shape.{Shape}
use Rattle.std.proofs.lemmas.Bool.{cases_lt}
use Rattle.rv_engine.specs.declared.owing.Owed.{Owed}
use Rattle.rv_seq.specs.declared.arch.Arch.{Arch}
use Rattle.rv_tried.specs.Parts.{paid}
use Rattle.rv_seq.specs.Interrupts.{is_enabled, diverted}
use Rattle.rv_machine.proofs.Alike.{Alike, alike_count}
use Rattle.rv_machine.proofs.Entered.{first_holds, second_holds, entry_line, entry_remains, entry_struck}
use Rattle.rv_machine.proofs.Nearing.{Oldest, oldest_in, none_pass, pass_at, pass_alike, pass_filled, pass_low, pass_some, Moved, moved, empty_moved, some_from, none_there, some_remain}
use Rattle.std.proofs.Common.{◌≡◌, ℕ, zero, suc, ◌+◌, ◌-◌, ◌<◌, ◌≤◌, List, [], ◌∷◌, drop, length, Option, Some, None, Bool, true, false, refl, sym, ap, ◌∙◌, subst, arith, inl, inr, ◌⊎◌}
use Rattle.std.specs.Prelude.{if◌then◌else◌, ◌==◌, is_some, ◌&&◌, not}
use Rattle.std.proofs.lemmas.Bool.Decides.{nat_tests}
use Rattle.ix_bits.specs.declared.number.Bits.{Bits}
use Rattle.ix_plan.specs.declared.design.Design.{Design}
use Rattle.rv_asks.specs.declared.asks.Asks.{Asks}
use Rattle.rv_seq.specs.declared.commit.Stop.TheVariants.{Fetch}
use Rattle.rv_seq.specs.Steps.{word_at}
use Rattle.rv_waits.specs.Waits.{wait_at, greatest}
use Rattle.rv_seq.specs.declared.arch.TrapState.{TrapState}
use Rattle.rv_trace.specs.declared.row.Row.{Row}
use Rattle.rv_trace.specs.Trace.{retirements, rows_without}
use Rattle.rv_trace.specs.RowParts.{names_of, serial_after, front, MovesInto}
use Rattle.rv_holds.specs.declared.token.Token.{Token}
use Rattle.rv_holds.specs.declared.flushing.Turn.{Turn}
use Rattle.rv_holds.specs.Tokens.{Slots, makes_access, cell_of, cells_of}
use Rattle.rv_holds.specs.Flushing.{struck, unheld, cleared, slot_stop, remains, fetch_after, redirect_of}
use Rattle.rv_engine.specs.Settings.{Setting, Machine, shape_of, outstanding_in, interrupted_by, pending_by, tree_of}
use Rattle.rv_engine.specs.Owing.{unit_entered}
use Rattle.rv_engine.specs.Rows as Rows
use Rattle.rv_engine.specs.Rows.{stop_after, entering_of, fetched, fill_first, first_slot, next_after, tail_after, waited, going, advanced, leaving, with_serial, retired_of, owed_by, new_by, loaded_by, turn_by, seen_by, fetch_by, left_by, memory_by, accesses_after, stood_after, machine_after, entered_by, written_by, arch_paid, arch_retired, native_of, paid_by}
use Rattle.rv_lawful.specs.Settings as Lawful
use Rattle.rv_lawful.specs.LawfulTrace.{next_serial}
use Rattle.rv_machine.specs.Owing.{judged}
use Rattle.rv_machine.specs.Placed.{IsReady, to_go, rank, whole_rank, most_entries, greatest_rank, may_enter, passing, to_pass, stage_rank, more_rows, first_of_two, count}
use Rattle.rv_machine.specs.Told.{NoStops, Decided}
use Rattle.rv_machine.proofs.Places.{HasSerial, first_fetched, first_named, first_kept}
use Rattle.rv_machine.proofs.Deciding.{or_else_none, test_eq, same_test}
use Rattle.rv_machine.specs.Made.{Made}
use Rattle.rv_machine.proofs.Standing.{asks_at, here_of, decided_drop}
use Rattle.rv_machine.proofs.Stopping.{no_stops}
use Rattle.rv_machine.proofs.Moving.{FlushesFirst, advanced_length, keeps_all, clears}
use Rattle.rv_machine.proofs.Filling.{next_within, front_cells}
use Rattle.rv_machine.proofs.Idle.{IsIdle, idle_outstanding}
use Rattle.rv_machine.proofs.Lone.{owing_empty, are_lone, nothing_owed}
use Rattle.rv_machine.proofs.Meeting.{meets_at, seen_meets}
use Rattle.rv_machine.proofs.UnitBound.{units_fall, next_left}
use Rattle.rv_machine.proofs.RankStays.{tail_less, rank_top, rank_stays}
use Rattle.rv_machine.specs.UnitRank.{unit_rank}
use Rattle.rv_unit.specs.declared.entry.Entry.{Entry}
use Rattle.rv_unit.specs.Entries.{stepped, next_entries}
use Rattle.rv_unit.specs.Numbering.{lasts_of}
use Rattle.rv_unit.specs.Timed.{IsTimed}
use Rattle.rv_lawful.specs.Outstanding.{outstanding, after_entry}
use Rattle.rv_machine.proofs.Bound.{AreLone, Waits, Falls, falls, rank_falls, to_go-zero, tails_of, to_go-tails, IsShort, AreShort, fill_rank, nothing_there, IsFree, is_free, oldest_free, zero_to_go}
use Rattle.rv_machine.proofs.Clearing.{cleared_to_go, cleared_first, unheld_first, cleared_leaving, cleared_drop}
use Rattle.rv_machine.proofs.Turns.{turner, struck_inside, plain_turn}
use Rattle.rv_machine.proofs.Before as B
use Rattle.rv_machine.proofs.Past as P
use Rattle.rv_machine.proofs.Succeeding as S
use Rattle.rv_machine.proofs.Lawful as L

bounded : (waits : List ℕ) (access : ℕ) → wait_at waits access ≤ greatest waits
bounded [] zero = omega arith
bounded [] (suc access) = omega arith
bounded (rows ∷ waits) zero = omega arith
bounded (rows ∷ waits) (suc access) = let ih = bounded waits access in omega (arith, ih)

-- Modules go on for few cycles

all_short : (l : Slots) → ((n : ℕ) (t : Token) (older : Slots) → drop n l ≡ Some t ∷ older → t.tail ≤ 64) → AreShort l
all_short [] f = tt
all_short (None ∷ l) f = (tt, all_short l (λ n t o e. f (suc n) t o e))
all_short (Some t ∷ l) f = (f 0 t l refl, all_short l (λ n u o e. f (suc n) u o e))

kept_short : (come s : Option Token) → IsShort come → IsShort s → IsShort (Rows.kept come s)
kept_short come None c h = c
kept_short come (Some t) c h = by_case (is_some t.cell.hold) where
  by_case : (b : Bool) → IsShort (if b then Some (waited t) else come)
  by_case true = let a = tail_less t.cell.hold t.tail in omega (arith, a, h)
  by_case false = c

going_short : (s : Option Token) → IsShort s → IsShort (going s)
going_short None h = tt
going_short (Some t) h = by_case (is_some t.cell.hold) where
  by_case : (b : Bool) → IsShort (if b then None else Some t)
  by_case true = tt
  by_case false = h

advanced_short : (come : Option Token) (l : Slots) → IsShort come → AreShort l → AreShort (advanced come l)
advanced_short come [] c h = tt
advanced_short come (s ∷ l) c h = (kept_short come s c h.0, advanced_short (going s) l (going_short s h.0) h.1)

fetched_short : (k : Setting) (ready : IsReady k) (future : List Bits) (trap : Option TrapState) (serial at : ℕ) (o : Option ℕ) → IsShort (fetched k.design future trap serial at o)
fetched_short k ready future trap serial at None = tt
fetched_short k ready future trap serial at (Some word) = ready.tails word

no_fetch : (d : Design) (future : List Bits) (trap : Option TrapState) (serial at : ℕ) (o : Option ℕ) → fetched d future trap serial at o ≡ None → o ≡ None
no_fetch d future trap serial at None e = refl
no_fetch d future trap serial at (Some word) e = cc

new_serial : (d : Design) (future : List Bits) (trap : Option TrapState) (serial at : ℕ) (o : Option ℕ) → HasSerial serial (fetched d future trap serial at o)
new_serial d future trap serial at None = tt
new_serial d future trap serial at (Some word) = refl

-- the next serial is the one behind that of stage 0
serial_told : (serial : ℕ) (new : Option Token) (l : Slots) → 0 < length l → serial_after serial (cell_of (first_slot l)) ≡ serial → HasSerial serial new → serial_after serial (cell_of (first_slot (fill_first new l))) ≡ next_after serial l new
serial_told serial new [] lt e h = absurd (omega arith)
serial_told serial new (Some t ∷ l) lt e h = e
serial_told serial None (None ∷ l) lt e h = refl
serial_told serial (Some t) (None ∷ l) lt e h = ap suc h

few_more : (n : ℕ) (s : Option Token) → accesses_after n s ≤ suc n
few_more n None = omega arith
few_more n (Some t) = by_case (is_some t.cell.hold) (makes_access t) where
  by_case : (a b : Bool) → (if a then n else if b then suc n else n) ≤ suc n
  by_case true b = omega arith
  by_case false true = omega arith
  by_case false false = omega arith

stood_more : (n : ℕ) (s : Option Token) → stood_after n s ≤ suc n
stood_more n None = omega arith
stood_more n (Some t) = by_case (is_some t.cell.hold) where
  by_case : (a : Bool) → (if a then suc n else 0) ≤ suc n
  by_case true = omega arith
  by_case false = omega arith

-- past the first slots
lone_drop : (now : Bool) (n : ℕ) (l : Slots) → AreLone now l → AreLone now (drop n l)
lone_drop now zero l h = h
lone_drop now (suc n) [] h = h
lone_drop now (suc n) (None ∷ l) h = lone_drop now n l h
lone_drop now (suc n) (Some t ∷ l) h = lone_drop now n l h.1

free_drop : (k : Shape) (now : Bool) (stage n : ℕ) (l : Slots) → IsFree k now stage l → IsFree k now (stage + n) (drop n l)
free_drop k now stage zero l h = subst (λ b. IsFree k now b l) (let z : stage ≡ stage + 0 = omega arith in z) h
free_drop k now stage (suc n) [] h = tt
free_drop k now stage (suc n) (s ∷ l) h = subst (λ b. IsFree k now b (drop n l)) (let z : suc stage + n ≡ stage + suc n = omega arith in z) (free_drop k now (suc stage) n l h.1)

pub stops_drop : (k : Setting) (stage n : ℕ) (l : Slots) → NoStops k stage l → NoStops k (stage + n) (drop n l)
stops_drop k stage zero l h = subst (λ b. NoStops k b l) (let z : stage ≡ stage + 0 = omega arith in z) h
stops_drop k stage (suc n) [] h = tt
stops_drop k stage (suc n) (None ∷ l) h = subst (λ b. NoStops k b (drop n l)) (let z : suc stage + n ≡ stage + suc n = omega arith in z) (stops_drop k (suc stage) n l h)
stops_drop k stage (suc n) (Some t ∷ l) h = subst (λ b. NoStops k b (drop n l)) (let z : suc stage + n ≡ stage + suc n = omega arith in z) (stops_drop k (suc stage) n l h.1)

drop_fewer : (n : ℕ) (l : Slots) → count (drop n l) ≤ count l
drop_fewer zero l = omega arith
drop_fewer (suc n) [] = omega arith
drop_fewer (suc n) (None ∷ l) = drop_fewer n l
drop_fewer (suc n) (Some t ∷ l) = let f = drop_fewer n l in omega (arith, f)

-- above the oldest token there is none
past_oldest : (n : ℕ) (l : Slots) (o : Oldest l) → o.index < n → count (drop n l) ≡ 0
past_oldest n l o lt =
    let z : suc o.index + (n - suc o.index) ≡ n = omega (arith, lt) in
    let a = ap (λ i. count (drop i l)) (sym z) in
    let b = past (suc o.index) (n - suc o.index) l in
    let c = ap count (behind o.index l o.rest) in
    let d = o.alone in
    omega (arith, a, b, c, d) where
      past : (i j : ℕ) (l : Slots) → count (drop (i + j) l) ≤ count (drop i l)
      past i j l = let f = drop_fewer j (drop i l) in let e = ap count (drop_drop i j l) in omega (arith, f, e)

      behind : (i : ℕ) (l : Slots) → drop i l ≡ Some o.token ∷ o.older → drop (suc i) l ≡ o.older
      behind zero [] e = cc
      behind zero (s ∷ l) e = cc
      behind (suc i) [] e = cc
      behind (suc i) (s ∷ l) e = behind i l e

module _ (k : Setting) (ready : IsReady k) (earlier : List Row) (m : Machine) (row : Row) (made : Made k earlier m row) where
  abbrev flushed : ℕ
  flushed = struck (turn_by k m)

  abbrev after : Machine
  after = machine_after k m

  pub no_stop : row.stop ≡ None → NoStops k 0 (seen_by k m)
  no_stop e = no_stops k 0 (seen_by k m) (or_else_none (slot_stop (shape_of k) 0 (seen_by k m)) _ (sym made.is.stop ∙ e))

  seen_length : length (seen_by k m) ≡ (shape_of k).stages
  seen_length = L.seen_length k ready earlier m row made

  some_slots : 0 < length m.slots
  some_slots = let e = made.inv.stages in let a = ready.ex_last in omega (arith, e, a)

  -- Fields of what ties the machine to the rows

  pub next_stages : length after.slots ≡ (shape_of k).stages
  next_stages = advanced_length None (seen_by k m) ∙ seen_length

  pub next_few : after.next ≤ suc (length earlier)
  next_few = next_within m.next (length earlier) m.slots (new_by k m) made.inv.few

  pub accesses_few : after.accesses ≤ suc (length earlier)
  accesses_few = let a = few_more m.accesses (memory_by k m) in let b = made.inv.few_accesses in omega (arith, a, b)

  pub stood_few : after.stood ≤ suc (length earlier)
  stood_few = let a = stood_more m.stood (memory_by k m) in let b = made.inv.few_stood in omega (arith, a, b)

  -- the last fetched serial is that of stage 0
  first_now : serial_after after.next (cell_of (first_slot (loaded_by k m))) ≡ after.next
  first_now =
      first_named after.next (loaded_by k m) (fill_first (new_by k m) m.slots) made.names
      ∙ first_fetched m.next (new_by k m) m.slots some_slots made.inv.next_first (new_serial k.design m.future m.arch.trap m.next m.fetch (word_at k.image m.fetch))

  pub next_first : serial_after after.next (cell_of (first_slot after.slots)) ≡ after.next
  next_first = first_kept after.next (seen_by k m) (cleared_first flushed after.next (loaded_by k m) first_now)

  -- the serial of the next fetch is the one that the rows tell
  pub next_told : after.next ≡ next_serial (judged k) (row ∷ earlier)
  unfolding next_serial
  next_told =
      sym (ap (λ l. serial_after (next_serial (judged k) earlier) (front l)) made.is.cells
      ∙ ap (λ n. serial_after n (front (cells_of (unheld flushed (loaded_by k m))))) (sym made.inv.next_is)
      ∙ unheld_first flushed m.next (loaded_by k m)
      ∙ ap (λ o. serial_after m.next o) (front_cells (loaded_by k m))
      ∙ first_named m.next (loaded_by k m) (fill_first (new_by k m) m.slots) made.names
      ∙ serial_told m.next (new_by k m) m.slots some_slots made.inv.next_first (new_serial k.design m.future m.arch.trap m.next m.fetch (word_at k.image m.fetch)))

  pub moved_next : FlushesFirst row flushed (loaded_by k m) → row.stop ≡ None → MovesInto row None (Lawful.stages_of (judged k) row) (names_of (cells_of after.slots))
  moved_next flushes stop =
      subst (λ l. MovesInto row None l (names_of (cells_of after.slots))) (sym made.is.cells)
      (clears k row 0 flushed (loaded_by k m) (B.struck_inside k ready earlier m made.inv) flushes (keeps_all row (seen_by k m) made.kept) made.told.decided (no_stop stop) (λ h. refl))

  -- Waits

  owed_most : owed_by k m ≤ greatest k.waits
  owed_most = let b = bounded k.waits m.accesses in omega (arith, b)

  owed_most_after : owed_by k after ≤ greatest k.waits
  owed_most_after = let b = bounded k.waits after.accesses in omega (arith, b)

  -- the token of MEM waits for what is owed, where it accesses the memory
  abbrev pub Awaiting : Type 0
  Awaiting = (t : Token) (older : Slots) → drop (shape_of k).mem (seen_by k m) ≡ Some t ∷ older → t.wait ≡ (if makes_access t then owed_by k m else 0)

  -- where the token of MEM is held, what is owed is one less
  owed_held : (t : Token) (older : Slots) → drop (shape_of k).mem (seen_by k m) ≡ Some t ∷ older → is_some t.cell.hold ≡ true → owed_by k after ≡ wait_at k.waits m.accesses - suc m.stood
  owed_held t older here held =
      let is : memory_by k m ≡ Some t = ap first_slot here in
      let accesses : after.accesses ≡ m.accesses = ap (λ s. accesses_after m.accesses s) is ∙ ap (λ (b : Bool). if b then m.accesses else if makes_access t then suc m.accesses else m.accesses) held in
      let stands : after.stood ≡ suc m.stood = ap (λ s. stood_after m.stood s) is ∙ ap (λ (b : Bool). if b then suc m.stood else 0) held in
      ap (λ n. wait_at k.waits n - after.stood) accesses ∙ ap (λ n. wait_at k.waits m.accesses - n) stands

  owed_falls : Awaiting → Falls k (owed_by k m) (owed_by k after) 0 (seen_by k m)
  owed_falls owed = falls k (owed_by k m) (owed_by k after) 0 (seen_by k m) (λ n t older d. (waiting n t older d, holding n t older d)) where
    same_if : (b : Bool) (i j : ℕ) → i ≡ (if b then j else 0) → (i == 0) ≡ false → i ≡ j
    same_if true i j e h = e
    same_if false i j e h = absurd (none i e h) where
      none : (i : ℕ) → i ≡ 0 → (i == 0) ≡ false → ⊥
      none i e h = grind (arith, nat_tests)

    above : (i : ℕ) → (i == 0) ≡ false → 0 < i
    above i h = grind (arith, nat_tests)

    at_mem : (n : ℕ) (t : Token) (older : Slots) → drop n (seen_by k m) ≡ Some t ∷ older → 0 + n ≡ (shape_of k).mem → drop (shape_of k).mem (seen_by k m) ≡ Some t ∷ older
    at_mem n t older d at = let z : 0 + n ≡ n = omega arith in ap (λ i. drop i (seen_by k m)) (sym at ∙ z) ∙ d

    waiting : (n : ℕ) (t : Token) (older : Slots) → drop n (seen_by k m) ≡ Some t ∷ older → Waits k (0 + n) t → owed_by k after < owed_by k m
    waiting n t older d w =
        let here = at_mem n t older d w.at in
        let e = owed_held t older here w.held in
        less t w.some e (owed t older here) where
          less : (t : Token) → (t.wait == 0) ≡ false → owed_by k after ≡ wait_at k.waits m.accesses - suc m.stood → t.wait ≡ (if makes_access t then owed_by k m else 0) → owed_by k after < owed_by k m
          less t some e w = let same = same_if (makes_access t) t.wait (owed_by k m) w some in let lt = above t.wait some in omega (arith, e, same, lt)

    holding : (n : ℕ) (t : Token) (older : Slots) → drop n (seen_by k m) ≡ Some t ∷ older → 0 + n ≡ (shape_of k).mem → is_some t.cell.hold ≡ true → owed_by k after ≤ owed_by k m
    holding n t older d at held = let e = owed_held t older (at_mem n t older d at) held in omega (arith, e)

  -- The bound

  shorts : AreShort (seen_by k m)
  shorts = all_short (seen_by k m) (λ n t older d.
      let a = made.told.modules n t older d in
      let b = ap (λ (x : Asks). x.tail) (asks_at k (retirements earlier) 0 n (seen_by k m) t made.told.placed (here_of (seen_by k m) older t n d)) in
      let c = ready.tails t.cell.word in
      omega (arith, a, b, c))

  go_same : entered_by k m ≡ false → to_go (shape_of k) (greatest k.waits) (owed_by k m) 0 (seen_by k m) ≡ to_go (shape_of k) (greatest k.waits) (owed_by k m) 0 (loaded_by k m)
  go_same plain = by_turn (turn_by k m) refl where
    by_turn : (o : Option Turn) → turn_by k m ≡ o → to_go (shape_of k) (greatest k.waits) (owed_by k m) 0 (seen_by k m) ≡ to_go (shape_of k) (greatest k.waits) (owed_by k m) 0 (loaded_by k m)
    by_turn None e = ap (λ o. to_go (shape_of k) (greatest k.waits) (owed_by k m) 0 (cleared (struck o) (loaded_by k m))) e
    by_turn (Some turn) e =
        let x = turner (shape_of k) m.fetch (loaded_by k m) turn (sym (plain_turn k m plain) ∙ e) in
        ap (λ o. to_go (shape_of k) (greatest k.waits) (owed_by k m) 0 (cleared (struck o) (loaded_by k m))) e ∙ (cleared_to_go (shape_of k) (greatest k.waits) (owed_by k m) 0 turn.stage (loaded_by k m) x.older x.token x.rest).0

  -- with no token nothing is turned
  none_turned : entered_by k m ≡ false → to_go (shape_of k) (greatest k.waits) (owed_by k m) 0 (loaded_by k m) ≡ 0 → turn_by k m ≡ None
  none_turned plain z = by_turn (turn_by k m) refl where
    by_turn : (o : Option Turn) → turn_by k m ≡ o → turn_by k m ≡ None
    by_turn None e = e
    by_turn (Some turn) e =
        let x = turner (shape_of k) m.fetch (loaded_by k m) turn (sym (plain_turn k m plain) ∙ e) in
        let lt = (cleared_to_go (shape_of k) (greatest k.waits) (owed_by k m) 0 turn.stage (loaded_by k m) x.older x.token x.rest).1 in
        absurd (omega (arith, lt, z))

  after_shorts : AreShort after.slots
  after_shorts = advanced_short None (seen_by k m) tt shorts

  -- where nothing stands in units no token meets anything beside the stages
  lone : IsIdle m → AreLone (interrupted_by k m) (seen_by k m)
  lone idle =
      are_lone k (interrupted_by k m) (outstanding_in k m) (seen_by k m) (idle_outstanding k m idle)
      (λ n t older d. (n, meets_at (shape_of k) (interrupted_by k m) (outstanding_in k m) n (seen_by k m) older t (seen_meets k m (B.struck_inside k ready earlier m made.inv)) d))

  abbrev lasts : List ℕ
  lasts = lasts_of k.design.plans

  abbrev most : ℕ
  most = greatest k.waits

  -- where nothing retires, nothing enters a unit
  entries_same : left_by k m ≡ None → after.entries ≡ stepped lasts m.entries m.entries
  entries_same g = ap (λ s. next_entries (shape_of k).stages lasts (unit_entered (entering_of s)) m.entries) g

  -- Entries

  past : Alike (drop (suc (shape_of k).ex) m.slots) (drop (suc (shape_of k).ex) (seen_by k m))
  past = P.past_alike k ready earlier m row made.inv made.is

  -- with an interrupt to be taken and no entry, the oldest token stands above EX
  free : entered_by k m ≡ false → IsFree (shape_of k) (interrupted_by k m) 0 (seen_by k m)
  free plain = is_free (shape_of k) (interrupted_by k m) 0 (seen_by k m) (λ now i at.
      let remain = by_test (interrupted_by k m) (remains (drop (suc (shape_of k).ex) (loaded_by k m))) now plain in
      let some = some_remain (drop (suc (shape_of k).ex) (loaded_by k m)) remain in
      let same = alike_count (drop (suc (shape_of k).ex) (loaded_by k m)) (drop (suc (shape_of k).ex) (seen_by k m)) (P.kept_past k ready earlier m row made.inv made.is) in
      let z : (shape_of k).ex ≡ i = omega (arith, at) in
      subst (λ n. 0 < count (drop (suc n) (seen_by k m))) z (omega (arith, some, same))) where
        by_test : (a b : Bool) → a ≡ true → (a && not b) ≡ false → b ≡ true
        by_test true true e q = refl
        by_test true false e q = cc
        by_test false b e q = cc

  -- an entry is one that could be
  may_now : entered_by k m ≡ true → left_by k m ≡ None → may_enter k m ≡ true
  may_now e g =
      let a = ready.ex_last in
      let b = made.long in
      let out : leaving None (drop (suc (shape_of k).ex) (loaded_by k m)) ≡ None =
      sym (cleared_leaving (suc (shape_of k).ex) (loaded_by k m) (omega (arith, a, b)))
      ∙ ap (λ n. leaving None (cleared n (loaded_by k m))) (sym (entry_struck k ready m made.long e)) ∙ g
      in
      let none = none_there None (drop (suc (shape_of k).ex) (loaded_by k m)) (entry_remains k ready m made.long e) out in
      let same = alike_count (drop (suc (shape_of k).ex) m.slots) (drop (suc (shape_of k).ex) (loaded_by k m)) (B.loaded_from k ready earlier m made.inv (shape_of k).ex) in
      let line = entry_line k earlier m made.inv e in
      let on = second_holds (pending_by k m) (is_enabled m.arch.trap) (first_holds (interrupted_by k m) _ e) in
      let zero : (count (drop (suc (shape_of k).ex) m.slots) == 0) ≡ true = same_test (count (drop (suc (shape_of k).ex) m.slots)) 0 (omega (arith, none, same)) in
      rw (line, on, zero) refl

  -- behind it none can be
  entry_disables : entered_by k m ≡ true → may_enter k after ≡ false
  unfolding diverted
  entry_disables e =
      ap (λ (b : Bool). is_some k.lines && (is_enabled (after_entry (shape_of k).trap (if b then Some (written_by k m).pc else None) (written_by k m)).trap && (count (drop (suc (shape_of k).ex) after.slots) == 0))) e
      ∙ and_false (is_some k.lines) where
        and_false : (b : Bool) → (b && false) ≡ false
        and_false true = refl
        and_false false = refl

  paid_trap : (o : Option Owed) (s : Arch) → (arch_paid o s).trap ≡ s.trap
  unfolding paid
  paid_trap None s = refl
  paid_trap (Some o) s = refl

  -- where nothing retires and the handler is not entered, interrupts are taken as before
  same_trap : entered_by k m ≡ false → left_by k m ≡ None → after.arch.trap ≡ m.arch.trap
  same_trap plain g =
      ap (λ (b : Bool). (after_entry (shape_of k).trap (if b then Some (written_by k m).pc else None) (written_by k m)).trap) plain
      ∙ paid_trap (paid_by k m) (arch_retired (tree_of k) (native_of (left_by k m)) m.arch)
      ∙ ap (λ t. (arch_retired (tree_of k) (native_of t) m.arch).trap) g

  -- and an entry can be after the row only where one could be before
  may_before : entered_by k m ≡ false → left_by k m ≡ None → may_enter k after ≡ true → may_enter k m ≡ true
  may_before plain g h =
      let line = first_holds (is_some k.lines) _ h in
      let rest = second_holds (is_some k.lines) _ h in
      let on = ap (λ t. is_enabled t) (sym (same_trap plain g)) ∙ first_holds (is_enabled after.arch.trap) _ rest in
      let none = test_eq (count (drop (suc (shape_of k).ex) after.slots)) 0 (second_holds (is_enabled after.arch.trap) _ rest) in
      let zero : (count (drop (suc (shape_of k).ex) m.slots) == 0) ≡ true = same_test (count (drop (suc (shape_of k).ex) m.slots)) 0 (none_before none (oldest_in (seen_by k m))) in
      rw (line, on, zero) refl where
        none_before : count (drop (suc (shape_of k).ex) after.slots) ≡ 0 → (count (seen_by k m) ≡ 0) ⊎ Oldest (seen_by k m) → count (drop (suc (shape_of k).ex) m.slots) ≡ 0
        none_before z (inl none) =
            let same = alike_count (drop (suc (shape_of k).ex) m.slots) (drop (suc (shape_of k).ex) (seen_by k m)) past in
            let few = drop_fewer (suc (shape_of k).ex) (seen_by k m) in
            omega (arith, none, same, few)
        none_before z (inr o) = elim (cases_lt (shape_of k).ex o.index) [
          | inl above ↦ absurd (stays (is_some o.token.cell.hold) (moved (seen_by k m) o g) above)
          | inr low ↦
              let same = alike_count (drop (suc (shape_of k).ex) m.slots) (drop (suc (shape_of k).ex) (seen_by k m)) past in
              let e = past_oldest (suc (shape_of k).ex) (seen_by k m) o (omega (arith, low)) in
              omega (arith, same, e)
        ] where
          stays : (b : Bool) → Moved (seen_by k m) o b → (shape_of k).ex < o.index → ⊥
          stays true y above = let x = some_from (suc (shape_of k).ex) o.index after.slots y.older y.token (omega (arith, above)) y.rest in omega (arith, x, z)
          stays false y above = let x = some_from (suc (shape_of k).ex) (suc o.index) after.slots y.older y.token (omega (arith, above)) y.rest in omega (arith, x, z)

  -- the rows up to an entry or past EX, by where the oldest token stands
  passing_before : entered_by k m ≡ false → (o : Oldest (seen_by k m)) → o.index ≤ (shape_of k).ex → passing (shape_of k) m.slots ≡ suc (shape_of k).ex - o.index
  passing_before plain o low =
      let z : 0 + o.index ≡ o.index = omega arith in
      let seen = pass_at (shape_of k).ex 0 o.index (seen_by k m) o.older o.token o.rest o.alone (omega (arith, low)) in
      let le = oldest_left plain o in
      let there : drop o.index (loaded_by k m) ≡ Some o.token ∷ o.older = sym (cleared_drop flushed o.index (loaded_by k m) le (B.struck_inside k ready earlier m made.inv)) ∙ o.rest in
      let loaded = pass_at (shape_of k).ex 0 o.index (loaded_by k m) o.older o.token there o.alone (omega (arith, low)) in
      let filled = pass_alike (shape_of k).ex 0 (fill_first (new_by k m) m.slots) (loaded_by k m) (B.loaded_alike k ready earlier m made.inv) in
      pass_filled (shape_of k) (new_by k m) m.slots (omega (arith, filled, loaded, low))
      ∙ sym filled ∙ loaded ∙ ap (λ n. suc (shape_of k).ex - n) z where
        oldest_left : entered_by k m ≡ false → (o : Oldest (seen_by k m)) → flushed ≤ o.index
        oldest_left plain o = S.left_from k ready earlier m row made o.index o.token (here_of (seen_by k m) o.older o.token o.index o.rest)

  passing_after : (b : Bool) (o : Oldest (seen_by k m)) → Moved (seen_by k m) o b → (if b then o.index else suc o.index) ≤ (shape_of k).ex → passing (shape_of k) after.slots ≡ suc (shape_of k).ex - (if b then o.index else suc o.index)
  passing_after b o y low =
      let i = if b then o.index else suc o.index in
      let z : 0 + i ≡ i = omega arith in
      let at = pass_at (shape_of k).ex 0 i after.slots y.older y.token y.rest y.alone (omega (arith, low)) in
      let same : to_pass (shape_of k).ex 0 after.slots ≡ suc (shape_of k).ex - i = at ∙ ap (λ n. suc (shape_of k).ex - n) z in
      first_positive (to_pass (shape_of k).ex 0 after.slots) (suc (shape_of k).ex) (omega (arith, same, low)) ∙ same where
        first_positive : (a b : ℕ) → 0 < a → first_of_two a b ≡ a
        first_positive zero b lt = absurd (omega (arith, lt))
        first_positive (suc a) b lt = refl

  -- above EX none stands while an entry can be
  low_after : (b : Bool) (o : Oldest (seen_by k m)) → Moved (seen_by k m) o b → may_enter k after ≡ true → (if b then o.index else suc o.index) ≤ (shape_of k).ex
  low_after b o y h =
      let i = if b then o.index else suc o.index in
      let none = test_eq (count (drop (suc (shape_of k).ex) after.slots)) 0 (second_holds (is_enabled after.arch.trap) _ (second_holds (is_some k.lines) _ h)) in
      elim (cases_lt (shape_of k).ex i) [
        | inl above ↦ let x = some_from (suc (shape_of k).ex) i after.slots y.older y.token (omega (arith, above)) y.rest in absurd (omega (arith, x, none))
        | inr low ↦ omega (arith, low)
      ]

  -- the oldest token is held by nothing but units
  oldest_goes : entered_by k m ≡ false → row.stop ≡ None → IsIdle m → (o : Oldest (seen_by k m)) → o.index ≤ (shape_of k).ex → is_some o.token.cell.hold ≡ false
  oldest_goes plain stop idle o low =
      let z : 0 + o.index ≡ o.index = omega arith in
      let d = subst (λ b. Decided k b (Some o.token ∷ o.older)) z (subst (λ l. Decided k (0 + o.index) l) o.rest (decided_drop k 0 o.index (seen_by k m) made.told.decided)) in
      let n = subst (λ b. NoStops k b (Some o.token ∷ o.older)) z (subst (λ l. NoStops k (0 + o.index) l) o.rest (stops_drop k 0 o.index (seen_by k m) (no_stop stop))) in
      let a = subst (λ l. AreLone (interrupted_by k m) l) o.rest (lone_drop (interrupted_by k m) o.index (seen_by k m) (lone idle)) in
      let f = subst (λ b. IsFree (shape_of k) (interrupted_by k m) b (Some o.token ∷ o.older)) z (subst (λ l. IsFree (shape_of k) (interrupted_by k m) (0 + o.index) l) o.rest (free_drop (shape_of k) (interrupted_by k m) 0 o.index (seen_by k m) (free plain))) in
      elim (oldest_free (interrupted_by k m) k o.index o.token o.older (f.0 o.alone) d n a.0 o.alone) [
        | inl goes ↦ goes
        | inr w ↦ elim w [
          | inl waits ↦ let lt = ready.ex_mem in let at = waits.at in absurd (omega (arith, lt, at, low))
          | inr tail ↦ let last = test_eq (suc o.index) (shape_of k).stages tail.last in let lt = ready.ex_last in absurd (omega (arith, last, lt, low))
        ]
      ]

  pub progress_next : Awaiting → tails_of (loaded_by k m) ≡ tails_of (fill_first (new_by k m) m.slots) → length after.entries ≤ most_entries k → row.stop ≡ None → rows_without (row ∷ earlier) + whole_rank k (greatest k.waits) after ≤ greatest_rank k
  unfolding rows_without
  progress_next owed tails few stop = by_left (left_by k m) refl where
    same : entered_by k m ≡ false → to_go (shape_of k) most (owed_by k m) 0 (seen_by k m) ≡ to_go (shape_of k) most (owed_by k m) 0 (fill_first (new_by k m) m.slots)
    same plain = go_same plain ∙ to_go-tails (shape_of k) most (owed_by k m) 0 (loaded_by k m) (fill_first (new_by k m) m.slots) tails

    short : IsShort (new_by k m)
    short = fetched_short k ready m.future m.arch.trap m.next m.fetch (word_at k.image m.fetch)

    some : 0 < (shape_of k).stages
    some = let a = ready.ex_last in omega (arith, a)

    fetch_stop : IsIdle m → left_by k m ≡ None → remains (seen_by k m) ≡ false → word_at k.image (fetch_by k m) ≡ None → stop_after k m ≡ Some Fetch
    fetch_stop idle g r w =
        let n = or_else_none (slot_stop (shape_of k) 0 (seen_by k m)) _ (sym made.is.stop ∙ stop) in
        let z = nothing_owed k (interrupted_by k m) m idle g in
        rw (n, r, z, w)

    -- with nothing left and nothing fetched the run stops
    nothing_stops : entered_by k m ≡ false → IsIdle m → left_by k m ≡ None → new_by k m ≡ None → count (seen_by k m) ≡ 0 → to_go (shape_of k) most (owed_by k m) 0 (loaded_by k m) ≡ 0 → ⊥
    nothing_stops plain idle g new none gone =
        let z = nothing_there (seen_by k m) m.fetch none in
        let straight : fetch_by k m ≡ m.fetch = ap (λ o. Rows.unless (redirect_of o) (fetch_after m.fetch (seen_by k m))) (none_turned plain gone) ∙ z.1 in
        let word = no_fetch k.design m.future m.arch.trap m.next m.fetch (word_at k.image m.fetch) new in
        let now : row.stop ≡ Some Fetch = made.is.stop ∙ fetch_stop idle g z.0 (ap (λ n. word_at k.image n) straight ∙ word) in
        cc (stop, now)

    -- the rank of the stages falls where nothing stands in units
    stages_fall : entered_by k m ≡ false → IsIdle m → left_by k m ≡ None → suc (rank (shape_of k) most (owed_by k after) after.slots) ≤ rank (shape_of k) most (owed_by k m) m.slots
    stages_fall plain idle g = elim (fill_rank (shape_of k) most (owed_by k m) (new_by k m) m.slots made.inv.stages some owed_most short) [
      | inl x ↦
          let f = rank_falls (interrupted_by k m) k most (owed_by k m) (owed_by k after) x.0 (seen_by k m) owed_most_after (owed_falls owed) made.told.decided (no_stop stop) (free plain) (lone idle) g (same plain ∙ x.1) in
          let p = x.2 in
          omega (arith, f, p)
      | inr x ↦
          absurd (nothing_stops plain idle g x.0 (to_go-zero (shape_of k) most (owed_by k m) 0 (seen_by k m) (same plain ∙ x.1)) (sym (go_same plain) ∙ same plain ∙ x.1))
    ]

    -- and does not grow where something does
    stages_stay : entered_by k m ≡ false → left_by k m ≡ None → rank (shape_of k) most (owed_by k after) after.slots ≤ rank (shape_of k) most (owed_by k m) m.slots
    stages_stay plain g = rank_stays k most (owed_by k m) (owed_by k after) (new_by k m) m.slots (seen_by k m) made.inv.stages some owed_most owed_most_after short (owed_falls owed) g (same plain) next_stages after_shorts

    top : rank (shape_of k) most (owed_by k after) after.slots ≤ suc ((shape_of k).stages + most + 64)
    top = rank_top (shape_of k) most (owed_by k after) after.slots next_stages owed_most_after after_shorts

    -- with no token in the row, none was there
    none_passing : entered_by k m ≡ false → count (seen_by k m) ≡ 0 → passing (shape_of k) m.slots ≡ suc (shape_of k).ex
    none_passing plain none =
        let go = zero_to_go (shape_of k) most (owed_by k m) 0 (seen_by k m) none in
        let gone = sym (same plain) ∙ go in
        ap (λ n. first_of_two n (suc (shape_of k).ex)) (none_pass (shape_of k).ex 0 m.slots (unfilled (new_by k m) m.slots (to_go-zero (shape_of k) most (owed_by k m) 0 (fill_first (new_by k m) m.slots) gone))) where
          unfilled : (new : Option Token) (l : Slots) → count (fill_first new l) ≡ 0 → count l ≡ 0
          unfilled new [] e = refl
          unfilled new (Some t ∷ l) e = e
          unfilled None (None ∷ l) e = e
          unfilled (Some t) (None ∷ l) e = absurd (omega (arith, e))

    none_after : count (seen_by k m) ≡ 0 → passing (shape_of k) after.slots ≡ suc (shape_of k).ex
    none_after none = ap (λ n. first_of_two n (suc (shape_of k).ex)) (none_pass (shape_of k).ex 0 after.slots (empty_moved (seen_by k m) none))

    low_before : (o : Oldest (seen_by k m)) → (if is_some o.token.cell.hold then o.index else suc o.index) ≤ (shape_of k).ex → o.index ≤ (shape_of k).ex
    low_before o = by_hold (is_some o.token.cell.hold) where
      by_hold : (b : Bool) → (if b then o.index else suc o.index) ≤ (shape_of k).ex → o.index ≤ (shape_of k).ex
      by_hold true le = le
      by_hold false le = omega (arith, le)

    -- while an entry can be, the rows up to it become fewer where nothing stands in units
    pass_falls : entered_by k m ≡ false → IsIdle m → left_by k m ≡ None → may_enter k after ≡ true → suc (passing (shape_of k) after.slots) ≤ passing (shape_of k) m.slots
    pass_falls plain idle g h = elim (oldest_in (seen_by k m)) [
      | inl none ↦
          let go = zero_to_go (shape_of k) most (owed_by k m) 0 (seen_by k m) none in
          absurd (nothing_stops plain idle g (new_none (sym (same plain) ∙ go)) none (sym (go_same plain) ∙ go))
      | inr o ↦
          let y = moved (seen_by k m) o g in
          let low = low_after (is_some o.token.cell.hold) o y h in
          let here = low_before o low in
          let goes = oldest_goes plain stop idle o here in
          let y' = subst (λ b. Moved (seen_by k m) o b) goes y in
          let low' = low_after false o y' h in
          let a = passing_after false o y' low' in
          let b = passing_before plain o here in
          omega (arith, a, b, low')
    ] where
      new_none : to_go (shape_of k) most (owed_by k m) 0 (fill_first (new_by k m) m.slots) ≡ 0 → new_by k m ≡ None
      new_none e = by_slots (new_by k m) m.slots some_slots (to_go-zero (shape_of k) most (owed_by k m) 0 (fill_first (new_by k m) m.slots) e) where
        by_slots : (new : Option Token) (l : Slots) → 0 < length l → count (fill_first new l) ≡ 0 → new ≡ None
        by_slots new [] lt e = absurd (omega (arith, lt))
        by_slots new (Some t ∷ l) lt e = absurd (omega (arith, e))
        by_slots None (None ∷ l) lt e = refl
        by_slots (Some t) (None ∷ l) lt e = absurd (omega (arith, e))

    -- and do not grow where something does
    pass_stays : entered_by k m ≡ false → left_by k m ≡ None → may_enter k after ≡ true → passing (shape_of k) after.slots ≤ passing (shape_of k) m.slots
    pass_stays plain g h = elim (oldest_in (seen_by k m)) [
      | inl none ↦ let a = none_passing plain none in let b = none_after none in omega (arith, a, b)
      | inr o ↦
          let y = moved (seen_by k m) o g in
          let low = low_after (is_some o.token.cell.hold) o y h in
          let b = passing_before plain o (low_before o low) in
          by_hold o (is_some o.token.cell.hold) (passing_after (is_some o.token.cell.hold) o y low) b
    ] where
      by_hold : (o : Oldest (seen_by k m)) (b : Bool) → passing (shape_of k) after.slots ≡ suc (shape_of k).ex - (if b then o.index else suc o.index) → passing (shape_of k) m.slots ≡ suc (shape_of k).ex - o.index → passing (shape_of k) after.slots ≤ passing (shape_of k) m.slots
      by_hold o true a b = omega (arith, a, b)
      by_hold o false a b = omega (arith, a, b)

    not_entered : left_by k m ≡ None → may_enter k m ≡ false → entered_by k m ≡ false
    not_entered g h = by_entry (entered_by k m) refl where
      by_entry : (b : Bool) → entered_by k m ≡ b → entered_by k m ≡ false
      by_entry false e = e
      by_entry true e = cc (may_now e g, h)

    not_after : may_enter k after ≡ true → entered_by k m ≡ false
    not_after h = by_entry (entered_by k m) refl where
      by_entry : (b : Bool) → entered_by k m ≡ b → entered_by k m ≡ false
      by_entry false e = e
      by_entry true e = cc (entry_disables e, h)

    stage_falls : IsIdle m → left_by k m ≡ None → suc (stage_rank k most after) ≤ stage_rank k most m
    stage_falls idle g = by_case (may_enter k m) (may_enter k after) refl refl where
      by_case : (a b : Bool) → may_enter k m ≡ a → may_enter k after ≡ b → suc (if b then passing (shape_of k) after.slots + suc ((shape_of k).stages + most + 64) else rank (shape_of k) most (owed_by k after) after.slots) ≤ (if a then passing (shape_of k) m.slots + suc ((shape_of k).stages + most + 64) else rank (shape_of k) most (owed_by k m) m.slots)
      by_case true true p q = let f = pass_falls (not_after q) idle g q in omega (arith, f)
      by_case true false p q = let t = top in let s = pass_some (shape_of k) m.slots in omega (arith, t, s)
      by_case false true p q = cc (may_before (not_after q) g q, p)
      by_case false false p q = stages_fall (not_entered g p) idle g

    stage_stays : left_by k m ≡ None → stage_rank k most after ≤ stage_rank k most m
    stage_stays g = by_case (may_enter k m) (may_enter k after) refl refl where
      by_case : (a b : Bool) → may_enter k m ≡ a → may_enter k after ≡ b → (if b then passing (shape_of k) after.slots + suc ((shape_of k).stages + most + 64) else rank (shape_of k) most (owed_by k after) after.slots) ≤ (if a then passing (shape_of k) m.slots + suc ((shape_of k).stages + most + 64) else rank (shape_of k) most (owed_by k m) m.slots)
      by_case true true p q = let f = pass_stays (not_after q) g q in omega (arith, f)
      by_case true false p q = let t = top in omega (arith, t)
      by_case false true p q = cc (may_before (not_after q) g q, p)
      by_case false false p q = stages_stay (not_entered g p) g

    stage_top : stage_rank k most after ≤ suc ((shape_of k).stages + most + 64) + more_rows k
    stage_top = by_case (may_enter k after) refl where
      more : may_enter k after ≡ true → more_rows k ≡ (shape_of k).stages
      more h = ap (λ (b : Bool). if b then (shape_of k).stages else 0) (first_holds (is_some k.lines) _ h)

      by_case : (b : Bool) → may_enter k after ≡ b → (if b then passing (shape_of k) after.slots + suc ((shape_of k).stages + most + 64) else rank (shape_of k) most (owed_by k after) after.slots) ≤ suc ((shape_of k).stages + most + 64) + more_rows k
      by_case true h = let a = more h in let b = pass_low (shape_of k) after.slots in let c = ready.ex_last in omega (arith, a, b, c)
      by_case false h = let t = top in omega (arith, t)

    -- the whole rank falls in a row without a retirement
    falling : (l : List Entry) → m.entries ≡ l → left_by k m ≡ None → suc (whole_rank k most after) ≤ whole_rank k most m
    falling [] e g =
        let a = stage_falls (e, owing_empty k earlier (outstanding (judged k) earlier) m.entries m.owed made.inv.owing e) g in
        let same_entries : after.entries ≡ [] = entries_same g ∙ ap (λ (z : List Entry). stepped lasts z z) e in
        let u = ap (λ (z : List Entry). unit_rank lasts z) same_entries in
        omega (arith, a, u)
    falling (x ∷ l) e g =
        let a = stage_stays g in
        let timed = subst (λ (z : List Entry). IsTimed (shape_of k).stages lasts z) e made.inv.timed in
        let f = units_fall (shape_of k).stages lasts x l ready.in_units.units timed in
        let before = ap (λ (z : List Entry). unit_rank lasts z) e in
        let u = ap (λ (z : List Entry). unit_rank lasts z) (entries_same g ∙ ap (λ (z : List Entry). stepped lasts z z) e) in
        omega (arith, a, f, before, u)

    by_left : (o : Option Token) → left_by k m ≡ o → (if is_some row.retired then 0 else suc (rows_without earlier)) + whole_rank k most after ≤ greatest_rank k
    by_left (Some t) g =
        let x = made.retires t g in
        let is_retired : is_some row.retired ≡ true = ap (λ p. is_some p) (made.is.retired ∙ ap retired_of g ∙ x.3) in
        let a = stage_top in
        let b = next_left (shape_of k).stages lasts (unit_entered (entering_of (left_by k m))) m.entries ready.in_units.units made.inv.timed in
        rw is_retired (omega (arith, a, b, few))
    by_left None g =
        let q : is_some row.retired ≡ false = ap (λ p. is_some p) (made.is.retired ∙ ap retired_of g) in
        let f = falling m.entries refl g in
        let p = made.inv.progress in
        rw q (omega (arith, f, p))
