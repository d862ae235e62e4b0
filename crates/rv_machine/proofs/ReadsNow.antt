-- What a cell at EX or later reads that waits for nothing: the values of the run at its place.
use Rattle.std.proofs.Common.{◌≡◌, ℕ, zero, suc, ◌+◌, ◌^◌, ◌<◌, ◌≤◌, List, ◌∷◌, drop, get_or, Option, Some, None, Bool, true, false, refl, sym, ap, subst, ◌∙◌, arith, ◌⊎◌, inl, inr}
use Rattle.std.specs.Prelude.{if◌then◌else◌, ◌==◌, ◌&&◌, is_some, is_none, slice_get, slice_index, min, max}
use Rattle.std.proofs.lemmas.Bool.{cases_lt, false≢true}
use Rattle.std.proofs.lemmas.Bool.Decides.{nat_tests}
use Rattle.rv_core.specs.declared.Shape.{Shape}
use Rattle.rv_isa.specs.Fields.{rs1_of, rs2_of}
use Rattle.rv_asks.specs.declared.asks.Asks.{Asks}
use Rattle.rv_seq.specs.declared.arch.Arch.{Arch}
use Rattle.rv_seq.specs.States.{zero_bit}
use Rattle.rv_seq.specs.Steps.{word_at}
use Rattle.rv_trace.specs.declared.row.Cell.{Cell}
use Rattle.rv_trace.specs.declared.row.Hold.{Hold}
use Rattle.rv_trace.specs.declared.row.Hold.TheVariants.{Behind}
use Rattle.rv_trace.specs.declared.row.Row.{Row}
use Rattle.rv_trace.specs.Trace.{has_serial, is_flushed, place, retirements}
use Rattle.rv_holds.specs.declared.token.Token.{Token}
use Rattle.rv_holds.specs.Tokens.{Slots, or_else, stop_in, stop_of}
use Rattle.rv_holds.specs.Holds.{oldest, is_late, withholder, operand, waits_for, operand_hold, register_count, register_at, spawner, least_from, lower_of, board, board_hold, custom, waits_for_custom, first_from, custom_hold, late, late_hold, reading_hold, waiting_hold, drain_hold, store_ahead, store_hold, memory_hold, ending_hold, own_hold, stops_now, is_blocked, shown, leaving_hold}
use Rattle.rv_holds.specs.Flushing.{struck}
use Rattle.rv_engine.specs.Owing.{board_of}
use Rattle.rv_engine.specs.Settings.{Setting, Machine, shape_of, outstanding_in, interrupted_by}
use Rattle.rv_engine.specs.Rows.{loaded_by, turn_by, seen_by, IsRowOf}
use Rattle.rv_holds.specs.Forwarding.{operand_in}
use Rattle.rv_lawful.specs.Outstanding.{has_target, touches, outstanding}
use Rattle.rv_lawful.specs.Settings as Lawful
use Rattle.rv_lawful.specs.Sight.{asked}
use Rattle.rv_machine.specs.Owing.{judged, repaid, IsApart}
use Rattle.rv_machine.specs.Placed.{run, count, expected, paid_file, IsFuture, IsPlaced, IsReady, Inv, Serials}
use Rattle.rv_machine.proofs.Apart as A
use Rattle.rv_machine.proofs.ApartNext as AN
use Rattle.rv_machine.proofs.Asking.{used_few}
use Rattle.rv_machine.proofs.Before as B
use Rattle.rv_machine.proofs.Deciding.{or_else_none, or_else_none_b, address_of_run, word_of_run, settled_past, waits_operand, waits_board, waits_custom, waits_late, test_eq, same_test}
use Rattle.rv_machine.proofs.Flushing as F
use Rattle.rv_machine.proofs.Going.{not_blocked, path_ahead}
use Rattle.rv_machine.proofs.Loading.{early_stop}
use Rattle.rv_machine.proofs.Meeting.{meets_at, seen_meets}
use Rattle.rv_machine.proofs.Numbers.{custom_at}
use Rattle.rv_machine.proofs.Clearing.{cleared_drop}
use Rattle.rv_machine.proofs.Forwarding.{Passes, operand_is as forwards}
use Rattle.rv_machine.proofs.Operands.{OnPath, on_path, memory_ready}
use Rattle.rv_machine.proofs.Passing.{seen_passes}
use Rattle.rv_machine.proofs.PaidFile.{unowed_file}
use Rattle.rv_machine.proofs.Past as P
use Rattle.rv_machine.proofs.Places.{serials_drop}
use Rattle.rv_machine.proofs.Reading.{first_few, second_few, operand_parts}
use Rattle.rv_machine.proofs.ShownTold.{operand_told, passes_drop}
use Rattle.rv_machine.proofs.Repaid.{repaid_memory}
use Rattle.rv_machine.proofs.Runs.{answer}
use Rattle.rv_machine.proofs.Standing as S
use Rattle.rv_machine.proofs.Trying.{custom_clear, late_clear, none_pends, none_owes, spawns_custom}
use Rattle.rv_machine.proofs.Unboarded.{operand_touched}
use Rattle.rv_machine.proofs.Unowed.{unowed, unowed_zero}
use Rattle.rv_ports.specs.Drives.{drives_of}
use Rattle.rv_ports.specs.Seats.{is_silent, operand_of}

-- ---- holds for which a token waits

-- where there is such a hold the cell is silent
abbrev Quiet : Option Hold → Type 0
Quiet o = (h : Hold) → o ≡ Some h → is_silent (Some h) ≡ true

none_quiet : Quiet None
none_quiet h e = cc

either_quiet : (a b : Option Hold) → Quiet a → Quiet b → Quiet (or_else a b)
either_quiet None b g h = h
either_quiet (Some x) b g h = g

where_quiet : (b : Bool) (o : Option Hold) → Quiet o → Quiet (if b then o else None)
where_quiet true o h = h
where_quiet false o h = none_quiet

silent_is : (a b : Hold) → ◌≡◌ {A = Option Hold} (Some a) (Some b) → is_silent (Some a) ≡ true → is_silent (Some b) ≡ true
silent_is a b e h = ap is_silent (sym e) ∙ h

operand_quiet : (r : ℕ) (o : Option ℕ) → Quiet (operand r o)
operand_quiet r None = none_quiet
operand_quiet r (Some j) = λ h e. silent_is _ h e refl

waits_quiet : (k : Shape) (r stage : ℕ) (older : Slots) → Quiet (waits_for k r stage older)
waits_quiet k r stage older = by_case (r == 0) where
  by_case : (b : Bool) → Quiet (if b then None else operand r (withholder k r stage older))
  by_case true = none_quiet
  by_case false = operand_quiet r (withholder k r stage older)

board_quiet : (o : Option (ℕ × ℕ)) → Quiet (board o)
board_quiet None = none_quiet
board_quiet (Some found) = λ h e. silent_is _ h e refl

custom_quiet : (r : ℕ) (o : Option ℕ) → Quiet (custom r o)
custom_quiet r None = none_quiet
custom_quiet r (Some j) = λ h e. silent_is _ h e refl

first_quiet : (f : ℕ → Option Hold) (r n : ℕ) → ((i : ℕ) → Quiet (f i)) → Quiet (first_from f r n)
first_quiet f r zero h = none_quiet
first_quiet f r (suc n) h = either_quiet (f r) (first_from f (suc r) n) (h r) (first_quiet f (suc r) n h)

late_quiet : (o : Option ℕ) → Quiet (late o)
late_quiet None = none_quiet
late_quiet (Some j) = λ h e. silent_is _ h e refl

waiting_quiet : (k : Shape) (stage : ℕ) (t : Token) (older : Slots) → Quiet (waiting_hold k stage t older)
waiting_quiet k stage t older =
    either_quiet (if stage == k.rd then reading_hold k stage t older else None) (if stage == k.ex then or_else (custom_hold older t.asks) (late_hold older) else None)
    (where_quiet (stage == k.rd) (reading_hold k stage t older)
    (either_quiet (operand_hold k (suc stage) older t.asks) (board_hold t older)
    (either_quiet (waits_for k (min t.asks.first t.asks.second) (suc stage) older) (waits_for k (max t.asks.first t.asks.second) (suc stage) older) (waits_quiet k (min t.asks.first t.asks.second) (suc stage) older)
    (waits_quiet k (max t.asks.first t.asks.second) (suc stage) older))
    (board_quiet (lower_of t.beside.board (least_from (spawner older t.asks) 0 register_count)))))
    (where_quiet (stage == k.ex) (or_else (custom_hold older t.asks) (late_hold older))
    (either_quiet (custom_hold older t.asks) (late_hold older)
    (first_quiet (waits_for_custom older t.asks) 0 16 (λ r. where_quiet (get_or t.asks.customs r false) (custom r (oldest (λ u. get_or u.asks.late_customs r false) older)) (custom_quiet r (oldest (λ u. get_or u.asks.late_customs r false) older))))
    (late_quiet (oldest is_late older))))

ahead_quiet : (o : Option ℕ) → Quiet (store_ahead o)
ahead_quiet None = none_quiet
ahead_quiet (Some j) = λ h e. silent_is _ h e refl

wait_quiet : (t : Token) → Quiet (memory_hold t)
wait_quiet t = by_case (t.wait == 0) where
  by_case : (b : Bool) → Quiet (if b then None else Some (Rattle.rv_trace.specs.declared.row.Hold.TheVariants.Wait t.wait))
  by_case true = none_quiet
  by_case false = λ h e. silent_is _ h e refl

memory_quiet : (t : Token) (older : Slots) → Quiet (or_else (memory_hold t) (store_hold older t.asks))
memory_quiet t older =
    either_quiet (memory_hold t) (store_hold older t.asks) (wait_quiet t) (where_quiet t.asks.loads (store_ahead (oldest (λ u. u.asks.stores) older)) (ahead_quiet (oldest (λ u. u.asks.stores) older)))

-- one that is not silent has no such hold
shown_quiet : (k : Shape) (stage : ℕ) (t : Token) (older : Slots) (a b : Option Hold) → own_hold k stage t older ≡ or_else a b → Quiet a → is_silent (shown k stage t older) ≡ false → a ≡ None
shown_quiet k stage t older None b e q s = refl
shown_quiet k stage t older (Some h) b e q s =
    let rest : Option Hold = if is_blocked k (suc stage) older then Some Behind else None in
    let free : stops_now k stage t older ≡ false = ap (λ (o : Option Hold). (stage == k.ex) && is_some (stop_of t) && is_none o) e ∙ never (stage == k.ex) (is_some (stop_of t)) in
    let now : shown k stage t older ≡ Some h = ap (λ (c : Bool). if c then None else or_else (own_hold k stage t older) rest) free ∙ ap (λ (o : Option Hold). or_else o rest) e in
    absurd (false≢true (sym s ∙ ap is_silent now ∙ q h refl)) where
      never : (c d : Bool) → (c && d && false) ≡ false
      never true true = refl
      never true false = refl
      never false d = refl

-- ---- a cell of a row

module _ (k : Setting) (ready : IsReady k) (earlier : List Row) (m : Machine) (row : Row) (inv : Inv k earlier m) (is : IsRowOf k m row)
    (n : ℕ) (c : Cell) (stands : Lawful.Stands (judged k) row n c) (alive : has_serial row.flushed c.serial ≡ false) where
  abbrev r : ℕ
  r = retirements earlier

  kept_stage : struck (turn_by k m) ≤ n
  kept_stage = elim (cases_lt n (struck (turn_by k m))) [
    | inl lt ↦ absurd (false≢true (sym alive ∙ (F.stands_flushed k ready earlier m row inv is n c lt stands).1))
    | inr le ↦ le
  ]

  -- its token
  pub here : S.At k r n c (seen_by k m)
  here = S.at_stage k r n c (seen_by k m) (B.seen_placed k ready earlier m inv) (B.seen_decided k ready earlier m inv) (sym (F.stands_at k ready earlier m row inv is n kept_stage) ∙ stands)

  -- its place
  abbrev pub p : ℕ
  p = retirements earlier + count here.older

  placed_here : IsPlaced k (r + count here.older) (expected k r (suc n) here.older) n here.older here.token
  placed_here = here.placed.0

  pub place_is : place (row ∷ earlier) c.serial ≡ r + count here.older
  place_is =
      ap (λ (x : Cell). place (row ∷ earlier) x.serial) (sym here.is)
      ∙ (subst (λ l. Serials (row ∷ earlier) r l) here.rest (serials_drop (row ∷ earlier) r n (seen_by k m) (F.seen_serials k ready earlier m row inv is))).0.0

  pub unflushed : is_flushed (row ∷ earlier) c.serial ≡ false
  unflushed =
      ap (λ (x : Cell). is_flushed (row ∷ earlier) x.serial) (sym here.is)
      ∙ (subst (λ l. Serials (row ∷ earlier) r l) here.rest (serials_drop (row ∷ earlier) r n (seen_by k m) (F.seen_serials k ready earlier m row inv is))).0.1

  -- its word is one
  pub word_few : c.word < 2 ^ 32
  word_few = subst (λ (x : Cell). x.word < 2 ^ 32) here.is (ready.image here.token.cell.at here.token.cell.word placed_here.word)

  pub seen_here : slice_get (seen_by k m) n ≡ Some (Some here.token)
  seen_here = S.here_of (seen_by k m) here.older here.token n here.rest

  pub asks_are : here.token.asks ≡ asked k.design c.word
  asks_are = placed_here.asks ∙ ap (λ (x : Cell). asked k.design x.word) here.is

  rest_here : drop (suc n) (seen_by k m) ≡ here.older
  rest_here = S.drop_more (seen_by k m) here.older (Some here.token) n here.rest

  -- what its older tokens pass on is the run's
  passes_here : Passes k true r (suc n) here.older
  passes_here =
      let z : 0 + suc n ≡ suc n = omega arith in
      subst (λ l. Passes k true r (suc n) l) rest_here
      (subst (λ b. Passes k true r b (drop (suc n) (seen_by k m))) z
      (passes_drop k true r 0 (suc n) (seen_by k m)
      (seen_passes k ready r 0 (seen_by k m) (B.seen_placed k ready earlier m inv) (B.seen_decided k ready earlier m inv) (B.seen_loaded k ready earlier m inv) (B.seen_ripe k ready earlier m inv))))

  module _ (speaks : is_silent c.hold ≡ false) where
    quiet_now : is_silent (shown (shape_of k) n here.token here.older) ≡ false
    quiet_now = ap is_silent (sym here.decided.0) ∙ ap (λ (x : Cell). is_silent x.hold) here.is ∙ speaks

    waiting_none : waiting_hold (shape_of k) n here.token here.older ≡ None
    waiting_none = shown_quiet (shape_of k) n here.token here.older (waiting_hold (shape_of k) n here.token here.older) _ refl (waiting_quiet (shape_of k) n here.token here.older) quiet_now

    -- ---- at RD and later

    is_apart : (shape_of k).rd ≤ n → IsApart m.owed here.older here.token
    is_apart at = elim (cases_lt (shape_of k).rd n) [
      | inl lt ↦ (AN.apart_rest k m.owed 0 n (seen_by k m) (Some here.token ∷ here.older) (AN.seen_apart k ready earlier m row inv is) here.rest).0 (omega (arith, lt))
      | inr le ↦
          let same : n ≡ (shape_of k).rd = omega (arith, le, at) in
          A.reads_apart m.owed here.older here.token
          (ap (λ b. b.board) (meets_at (shape_of k) (interrupted_by k m) (outstanding_in k m) n (seen_by k m) here.older here.token (seen_meets k m (B.struck_inside k ready earlier m inv)) here.rest)
          ∙ A.at_stage n (shape_of k).rd (board_of m.owed here.token.asks) None same)
          (waits_board (shape_of k) n here.token here.older waiting_none same)
    ]

    -- an operand that it asks for is the run's, where all older ones are on the path of the run
    module _ (at : (shape_of k).rd ≤ n) (next : (shape_of k).ex ≤ suc n) (ahead : OnPath k here.older) (free : operand_hold (shape_of k) (suc n) here.older here.token.asks ≡ None) where
      operand_is : (reg : ℕ) → reg < 32 → (reg ≡ here.token.asks.first) ⊎ (reg ≡ here.token.asks.second) → operand_in (shape_of k) true (suc n) here.older m.arch.x reg ≡ slice_index (run k (r + count here.older)).x reg
      operand_is reg few which =
          forwards k ready true r (suc n) reg here.older m.arch.x next few here.placed.1 ahead passes_here (operand_parts (shape_of k) (suc n) here.older here.token.asks reg free which)
          (λ q. (is_apart at).tokens reg (omega (arith, few)) (operand_touched here.token.asks reg few which q)) (by_case (reg == 0) refl) where
            repaid_is : (i : ℕ) → slice_index (repaid m.owed m.arch).x i ≡ slice_index (run k r).x i
            repaid_is i = ap (λ (s : Arch). slice_index s.x i) inv.arch

            by_case : (b : Bool) → (reg == 0) ≡ b → slice_index m.arch.x reg ≡ slice_index (run k r).x reg
            by_case true e =
                let zero_is = test_eq reg 0 e in
                ap (λ i. slice_index m.arch.x i) zero_is
                ∙ sym (unowed_zero k earlier ready.handler (outstanding (judged k) earlier) m.entries m.owed m.arch inv.owing)
                ∙ repaid_is 0
                ∙ ap (λ i. slice_index (run k r).x i) (sym zero_is)
            by_case false e =
                let away = is_apart at in
                let touched = operand_touched here.token.asks reg few which e in
                sym (unowed k earlier ready.handler reg (outstanding (judged k) earlier) m.entries m.owed m.arch few inv.owing (away.entries reg (omega (arith, few)) touched)) ∙ repaid_is reg

      -- so is what the row shows of it
      shown_is : (reg : ℕ) → reg < 32 → (reg ≡ here.token.asks.first) ⊎ (reg ≡ here.token.asks.second) → operand_of (drives_of k.design k.image k.waits k.lines k.places) earlier row n reg ≡ slice_index (run k (r + count here.older)).x reg
      shown_is reg few which =
          sym (operand_told k ready earlier m row inv is n reg)
          ∙ ap (λ b. operand_in (shape_of k) true b (drop b (loaded_by k m)) m.arch.x reg) first_is_next
          ∙ ap (λ l. operand_in (shape_of k) true (suc n) l m.arch.x reg) (sym kept_rest ∙ rest_here)
          ∙ operand_is reg few which where
            first_is_next : max (suc n) (struck (turn_by k m)) ≡ suc n
            first_is_next = let le = kept_stage in most (suc n) (struck (turn_by k m)) (omega (arith, le)) where
              most : (a b : ℕ) → b ≤ a → max a b ≡ a
              most a b le = grind arith

            kept_rest : drop (suc n) (seen_by k m) ≡ drop (suc n) (loaded_by k m)
            kept_rest = let le = kept_stage in cleared_drop (struck (turn_by k m)) (suc n) (loaded_by k m) (omega (arith, le)) (B.struck_inside k ready earlier m inv)

      pub first_is : rs1_of c.word ≡ (asked k.design c.word).first → operand_of (drives_of k.design k.image k.waits k.lines k.places) earlier row n (rs1_of c.word) ≡ slice_index (run k (r + count here.older)).x (rs1_of c.word)
      first_is e = shown_is (rs1_of c.word) (first_few c.word) (inl (e ∙ ap (λ (a : Asks). a.first) (sym asks_are)))

      pub second_is : rs2_of c.word ≡ (asked k.design c.word).second → operand_of (drives_of k.design k.image k.waits k.lines k.places) earlier row n (rs2_of c.word) ≡ slice_index (run k (r + count here.older)).x (rs2_of c.word)
      second_is e = shown_is (rs2_of c.word) (second_few c.word) (inr (e ∙ ap (λ (a : Asks). a.second) (sym asks_are)))

    -- at RD, below EX, a cell that is not held reads the run's
    module _ (at : n ≡ (shape_of k).rd) (early : n < (shape_of k).ex) (goes : is_some c.hold ≡ false) where
      not_held : is_some here.token.cell.hold ≡ false
      not_held = ap (λ (x : Cell). is_some x.hold) here.is ∙ goes

      stops_not : stops_now (shape_of k) n here.token here.older ≡ false
      stops_not = never (n == (shape_of k).ex) (is_some (stop_of here.token)) (is_none (own_hold (shape_of k) n here.token here.older)) (less n (shape_of k).ex early) where
        less : (a b : ℕ) → a < b → (a == b) ≡ false
        less a b lt = grind (arith, nat_tests)

        never : (a b c : Bool) → a ≡ false → (a && b && c) ≡ false
        never true b c e = cc
        never false b c e = refl

      near : (shape_of k).ex ≤ suc n
      near = let x = ready.ex_rd in omega (arith, x, at)

      ahead_early : OnPath k here.older
      ahead_early =
          path_ahead k r (suc n) here.older near here.placed.1 here.decided.1
          (not_blocked (shape_of k) n here.token here.older here.decided.0 not_held stops_not)

      free_early : operand_hold (shape_of k) (suc n) here.older here.token.asks ≡ None
      free_early = waits_operand (shape_of k) n here.token here.older waiting_none at

      pub first_early : rs1_of c.word ≡ (asked k.design c.word).first → operand_of (drives_of k.design k.image k.waits k.lines k.places) earlier row n (rs1_of c.word) ≡ slice_index (run k (r + count here.older)).x (rs1_of c.word)
      first_early = first_is (omega (arith, at)) near ahead_early free_early

      pub second_early : rs2_of c.word ≡ (asked k.design c.word).second → operand_of (drives_of k.design k.image k.waits k.lines k.places) earlier row n (rs2_of c.word) ≡ slice_index (run k (r + count here.older)).x (rs2_of c.word)
      second_early = second_is (omega (arith, at)) near ahead_early free_early

    module _ (past : (shape_of k).ex ≤ n) where
      path : OnPath k here.older
      path = on_path k r (suc n) here.older (omega (arith, past)) here.placed.1

      no_late : oldest is_late here.older ≡ None
      no_late = elim (cases_lt (shape_of k).ex n) [
        | inl lt ↦ settled_past k (r + count here.older) (expected k r (suc n) here.older) n here.older here.token lt placed_here
        | inr le ↦ late_clear here.older (waits_late (shape_of k) n here.token here.older waiting_none (omega (arith, le, past)))
      ]

      -- it is on the path of the run
      pub address : c.at ≡ (run k (r + count here.older)).pc
      address = ap (λ (x : Cell). x.at) (sym here.is) ∙ address_of_run k r n here.token here.older past no_late placed_here

      pub word_there : word_at k.image (run k (r + count here.older)).pc ≡ Some c.word
      word_there = word_of_run k r n here.token here.older past no_late placed_here ∙ ap (λ (x : Cell). Some x.word) here.is

      -- ---- at EX

      module _ (at : n ≡ (shape_of k).ex) (free : operand_hold (shape_of k) (suc n) here.older here.token.asks ≡ None) where
        late_enough : (shape_of k).rd ≤ n
        late_enough = let x = ready.rd_ex in omega (arith, x, at)

        pub first_now : rs1_of c.word ≡ (asked k.design c.word).first → operand_of (drives_of k.design k.image k.waits k.lines k.places) earlier row n (rs1_of c.word) ≡ slice_index (run k (r + count here.older)).x (rs1_of c.word)
        first_now = first_is late_enough (omega (arith, past)) path free

        pub second_now : rs2_of c.word ≡ (asked k.design c.word).second → operand_of (drives_of k.design k.image k.waits k.lines k.places) earlier row n (rs2_of c.word) ≡ slice_index (run k (r + count here.older)).x (rs2_of c.word)
        second_now = second_is late_enough (omega (arith, past)) path free

      -- where RD is EX it waits for no operand
      pub operand_free : n ≡ (shape_of k).ex → ((shape_of k).rd < n → operand_hold (shape_of k) (suc n) here.older here.token.asks ≡ None) → operand_hold (shape_of k) (suc n) here.older here.token.asks ≡ None
      operand_free at clear = elim (cases_lt (shape_of k).rd n) [
        | inl lt ↦ clear lt
        | inr le ↦ (let first = ready.rd_ex in waits_operand (shape_of k) n here.token here.older waiting_none (omega (arith, le, first, at)))
      ]

      pub custom_is : n ≡ (shape_of k).ex → (reg : ℕ) → get_or (asked k.design c.word).customs reg false ≡ true → get_or m.future reg zero_bit ≡ get_or (run k (r + count here.older)).custom reg zero_bit
      custom_is at reg used =
          let few = used_few k.design c.word reg used in
          let u : get_or here.token.asks.customs reg false ≡ true = ap (λ (a : Asks). get_or a.customs reg false) asks_are ∙ used in
          let first = ready.rd_ex in
          let away = is_apart (omega (arith, at, first)) in
          let named = custom_at reg in
          let touched : touches here.token.asks (register_at (32 + reg)) ≡ true = ap (λ g. touches here.token.asks g) (sym named) ∙ u in
          let unspawned : oldest (spawns_custom reg) here.older ≡ None = ap (λ g. oldest (λ (v : Token). has_target v.asks g) here.older) named ∙ away.tokens (32 + reg) (omega (arith, few)) touched in
          let unlate = custom_clear here.older here.token.asks reg few (waits_custom (shape_of k) n here.token here.older waiting_none at) u in
          let same = unowed_file k earlier (outstanding (judged k) earlier) m.entries m.owed m.future inv.owing in
          let behind : IsFuture k r (paid_file m.owed m.future) (drop (suc (shape_of k).ex) (seen_by k m)) =
          B.alike_future k r (paid_file m.owed m.future) (drop (suc (shape_of k).ex) m.slots) (drop (suc (shape_of k).ex) (seen_by k m)) (P.past_alike k ready earlier m row inv is) inv.future in
          let file : IsFuture k r (paid_file m.owed m.future) here.older = subst (λ l. IsFuture k r (paid_file m.owed m.future) l) (ap (λ i. drop (suc i) (seen_by k m)) (sym at) ∙ rest_here) behind in
          sym (same reg few (away.entries (32 + reg) (omega (arith, few)) touched))
          ∙ sym (none_owes k r reg here.older (get_or (paid_file m.owed m.future) reg zero_bit) (none_pends reg here.older unlate unspawned))
          ∙ file reg few

      -- ---- at MEM

      store_none : n ≡ (shape_of k).mem → store_hold here.older here.token.asks ≡ None
      store_none at =
          let less = ready.ex_mem in
          let off : (n == (shape_of k).ex) ≡ false = other n (shape_of k).ex (shape_of k).mem at less in
          let on : (n == (shape_of k).mem) ≡ true = same_test n (shape_of k).mem at in
          let both = or_else (memory_hold here.token) (store_hold here.older here.token.asks) in
          let last : Option Hold = if suc n == (shape_of k).stages then ending_hold here.token else None in
          let own : own_hold (shape_of k) n here.token here.older ≡ or_else both last =
          ap (λ o. or_else o (or_else (if n == (shape_of k).ex then leaving_hold here.token here.older else None) (or_else (if n == (shape_of k).mem then both else None) last))) waiting_none
          ∙ ap (λ (b : Bool). or_else (if b then leaving_hold here.token here.older else None) (or_else (if n == (shape_of k).mem then both else None) last)) off
          ∙ ap (λ (b : Bool). or_else (if b then both else None) last) on in
          or_else_none_b (memory_hold here.token) (store_hold here.older here.token.asks) (shown_quiet (shape_of k) n here.token here.older both last own (memory_quiet here.token here.older) quiet_now) where
            other : (i ex mem : ℕ) → i ≡ mem → ex < mem → (i == ex) ≡ false
            other i ex mem e lt = grind (arith, nat_tests)

      pub memory_is : n ≡ (shape_of k).mem → (asked k.design c.word).loads ≡ true → m.arch.mem ≡ (run k (r + count here.older)).mem
      memory_is at loads =
          sym (repaid_memory m.owed m.arch)
          ∙ ap (λ (s : Arch). s.mem) inv.arch
          ∙ memory_ready k ready r (suc n) here.older here.token.asks (omega (arith, past)) here.placed.1 path (store_none at) (ap (λ (a : Asks). a.loads) asks_are ∙ loads)

  -- past EX the step at its place does not stop
  pub no_stop : (shape_of k).ex < n → stop_in (answer k (r + count here.older)) ≡ None
  no_stop past =
      let g = placed_here.gone past in
      sym (early_stop here.token.asks g.0.answer (answer k (r + count here.older)) (placed_here.tried g.0 g.1).early) ∙ g.2
