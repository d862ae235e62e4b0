-- The holds of a row behind a stop: nothing but the instruction that stopped the run is waited for, and only at RD below EX.
use Rattle.std.proofs.Common.{◌≡◌, ◌∙◌, refl, sym, ap, subst, ℕ, suc, ◌<◌, ◌≤◌, List, [], ◌∷◌, get_or, Option, Some, None, Bool, true, false, arith, inl, inr, ◌⊎◌}
use Rattle.std.specs.Prelude.{◌&&◌, ◌||◌, not, if◌then◌else◌, ◌==◌, nat_lt, is_some}
use Rattle.std.specs.Option.{option_or}
use Rattle.std.proofs.lemmas.Bool.{cases_lt}
use Rattle.ix_plan.specs.declared.design.Target.{Target}
use Rattle.rv_asks.specs.declared.asks.Asks.{Asks}
use Rattle.rv_core.specs.declared.Shape.{Shape}
use Rattle.rv_trace.specs.declared.row.Cell.{Cell}
use Rattle.rv_trace.specs.declared.row.Hold.{Hold}
use Rattle.rv_trace.specs.declared.row.Hold.TheVariants.{Operand, Board, Custom, Late, Trap, Drain, Wait, StoreAhead, Tail, UnitFull, Port, Behind}
use Rattle.rv_trace.specs.declared.row.Row.{Row}
use Rattle.rv_trace.specs.Trace.{has_serial, is_flushed, is_retired, newest, retirements}
use Rattle.rv_trace.specs.RowParts.{kind_of, ComesFirst}
use Rattle.rv_lawful.specs.Settings.{Setting, Stands}
use Rattle.rv_lawful.specs.Entering.{is_interrupted, is_line_pending}
use Rattle.rv_lawful.specs.Outstanding.{has_target, touches, is_serial, serial_written, is_written}
use Rattle.rv_lawful.specs.LawfulTrace.{IsWordOf, reads_of, WaitsForOperand, WaitsForWrite, Lawful}
use Rattle.rv_rows.specs.Facts.{IsPlain, RowFacts}
use Rattle.rv_rows.proofs.Coming.{same_serial, same_word}
use Rattle.rv_rows.specs.Kinds.{is_of_cell, upper, MovesRightly, OwnMarked, HoldsRightly}
use Rattle.rv_rows.proofs.Own.{own_above}
use Rattle.rv_rows.proofs.Upper.{stands_up, stands_down, flushed_up, retired_up, written_up}
use Rattle.rv_rows.proofs.Behind.{IsBehindCell, IsBehindFetch, IsBehind, behind}
use Rattle.rv_rows.specs.declared.known.Owed.{Owed}
use Rattle.rv_rows.specs.Known.{IsOwing}
use Rattle.rv_holdings.specs.Expected.{NamesRegisters, IsStopper, AsksAtRead, register_at, board, board_at, first_from, is_withheld, operand_behind, board_behind, own_behind, does_stop, AreRightBehind}
use Rattle.rv_holdings.proofs.Above.{get_of, of_get, no_less, not_below, is_below, below_is, both, and_both}
use Rattle.rv_holdings.proofs.FirstFrom.{registers}
use Rattle.rv_holdings.proofs.Least.{OneIs, first_is}
use Rattle.rv_holdings.proofs.Numbered.{Numbered, made, board_of}
use Rattle.rv_holdings.proofs.Ordering.{operand_kind, FirstIn, joined, one_kind}
use Rattle.rv_holdings.proofs.Past.{unflushed_both, unflushed_more, retired_both}
use Rattle.rv_holdings.proofs.Showing.{shows_first, first_shown}
use Rattle.rv_holdings.proofs.Tests.{same_number, number_same, differ, not_true, not_false, true_not, or_false}

written_more : (row : Row) (rows : List Row) (j : ℕ) → is_written (row ∷ rows) j ≡ (is_serial (serial_written row.written) j || is_written rows j)
unfolding is_written
written_more row rows j = refl

or_none : (o : Option Hold) → option_or o None ≡ o
or_none None = refl
or_none (Some h) = refl

or_true : (a b : Bool) → (a || b) ≡ true → (a ≡ true) ⊎ (b ≡ true)
or_true true b e = inl refl
or_true false b e = inr e

true_or : (a b : Bool) → (a ≡ true) ⊎ (b ≡ true) → (a || b) ≡ true
true_or true b e = refl
true_or false b (inl x) = cc
true_or false b (inr y) = y

module _ (k : Setting) (earlier : List Row) (row : Row) (plain : IsPlain k) where
  uninterrupted : is_interrupted k earlier ≡ false
  uninterrupted = ap (λ l. is_line_pending l earlier && k.course.enabled (retirements earlier)) plain.no_line

  -- a hold of its own is that of a cell above stage 0
  own_high : (stage : ℕ) (c : Cell) (h : Hold) → OwnMarked k earlier row stage c h → 0 < stage
  own_high stage c (Operand r j) o = own_above k earlier (upper row) stage c (Operand r j) plain o
  own_high stage c (Board t j) o = own_above k earlier (upper row) stage c (Board t j) plain o
  own_high stage c (Custom r j) o = own_above k earlier (upper row) stage c (Custom r j) plain o
  own_high stage c (Late j) o = own_above k earlier (upper row) stage c (Late j) plain o
  own_high stage c Trap o = own_above k earlier (upper row) stage c Trap plain o
  own_high stage c (Drain j) o = own_above k earlier (upper row) stage c (Drain j) plain o
  own_high stage c (Wait left) o = own_above k earlier (upper row) stage c (Wait left) plain o
  own_high stage c (StoreAhead j) o = own_above k earlier (upper row) stage c (StoreAhead j) plain o
  own_high stage c (Tail left) o = own_above k earlier (upper row) stage c (Tail left) plain o
  own_high stage c (UnitFull u) o = let l = o.last in let a = plain.rd_pos in let b = plain.rd_ex in let d = plain.ex_mem in let e = plain.mem_last in omega (arith, l, a, b, d, e)
  own_high stage c (Port j) o = own_above k earlier (upper row) stage c (Port j) plain o
  own_high stage c Behind o = absurd o

  ex_low : (stage : ℕ) → stage ≡ k.shape.mem → stage ≤ k.shape.ex → ⊥
  ex_low stage e le = let a = plain.ex_mem in omega (arith, e, le, a)

  ex_below : (stage : ℕ) → suc stage ≡ k.shape.stages → stage ≤ k.shape.ex → ⊥
  ex_below stage e le = let a = plain.ex_mem in let b = plain.mem_last in omega (arith, e, le, a, b)

  -- below EX holds are those of RD
  own_read : (stage : ℕ) (c : Cell) (h : Hold) → stage < k.shape.ex → OwnMarked k earlier row stage c h → kind_of h < 2
  own_read stage c (Operand r j) lt o = omega arith
  own_read stage c (Board t j) lt o = omega arith
  own_read stage c (Custom r j) lt o = let e = o.executing in absurd (omega (arith, e, lt))
  own_read stage c (Late j) lt o = let e = o.executing in absurd (omega (arith, e, lt))
  own_read stage c Trap lt o = let e = o.executing in absurd (omega (arith, e, lt))
  own_read stage c (Drain j) lt o = let e = o.executing in absurd (omega (arith, e, lt))
  own_read stage c (Wait left) lt o = absurd (ex_low stage o.waiting (omega (arith, lt)))
  own_read stage c (StoreAhead j) lt o = absurd (ex_low stage o.loading (omega (arith, lt)))
  own_read stage c (Tail left) lt o = absurd (ex_below stage o.last (omega (arith, lt)))
  own_read stage c (UnitFull u) lt o = absurd (ex_below stage o.last (omega (arith, lt)))
  own_read stage c (Port j) lt o = absurd (ex_below stage o.last (omega (arith, lt)))
  own_read stage c Behind lt o = absurd o

  -- behind a cell that stopped the run
  module _ (owing : IsOwing k earlier) (d : Cell) (is : IsBehindCell k earlier row d) where
    -- what is older than that cell has retired and is written
    lower_gone : (j : ℕ) → j < d.serial → is_flushed (upper row ∷ earlier) j ≡ false → is_retired earlier j ≡ true
    lower_gone j lt alive = is.retired j lt (unflushed_both row earlier j (sym (flushed_up row earlier j) ∙ alive)).1

    word_before : (j word : ℕ) → j < d.serial → IsWordOf k (upper row ∷ earlier) j word → IsWordOf k earlier j word
    word_before j word lt (inr w) = w
    word_before j word lt (inl y) = absurd (by_stage (stands_down k row y.0 y.1 y.2)) where
      by_stage : (0 < y.0) × Stands k row y.0 y.1 → ⊥
      by_stage t = elim (cases_lt k.shape.ex y.0) [
        | inl high ↦ is.none_above y.0 y.1 high t.1
        | inr le ↦ elim (cases_lt y.0 k.shape.ex) [
          | inl less ↦ let f = is.younger y.0 y.1 t.0 less t.1 in let q = y.3 in omega (arith, f, q, lt)
          | inr more ↦
              let at : y.0 ≡ k.shape.ex = omega (arith, le, more) in
              let f = same_serial y.1 d (is.at_ex y.1 (subst (λ n. Stands k row n y.1) at t.1)) in
              let q = y.3 in
              omega (arith, f, q, lt)
        ]
      ]

    lower_written : (j word : ℕ) → j < d.serial → is_flushed (upper row ∷ earlier) j ≡ false → IsWordOf k (upper row ∷ earlier) j word → is_some (k.asks word).unit ≡ true → is_written earlier j ≡ true
    lower_written j word lt alive w u = is.written j word lt (unflushed_both row earlier j (sym (flushed_up row earlier j) ∙ alive)).1 (word_before j word lt w) u

    unretired_up : (j : ℕ) → is_retired (upper row ∷ earlier) j ≡ false → is_retired earlier j ≡ false
    unretired_up j e = (retired_both row earlier j (sym (retired_up row earlier j) ∙ e)).1

    unwritten_up : (j : ℕ) → is_written (upper row ∷ earlier) j ≡ false → is_written earlier j ≡ false
    unwritten_up j e = (or_false (is_serial (serial_written row.written) j) (is_written earlier j) (sym (written_more row earlier j) ∙ sym (written_up row earlier j) ∙ e)).1

    -- in EX nothing is waited for
    none_at_ex : (c : Cell) (h : Hold) → Stands k row k.shape.ex c → OwnMarked k earlier row k.shape.ex c h → ⊥
    none_at_ex c h s own = by_hold h own where
      lower : (j : ℕ) → j < c.serial → j < d.serial
      lower j lt = let q = same_serial c d (is.at_ex c s) in omega (arith, lt, q)

      by_hold : (h : Hold) → OwnMarked k earlier row k.shape.ex c h → ⊥
      by_hold (Operand r j) o = differ (is_retired earlier j) (lower_gone j (lower j o.older.lower) o.older.unflushed) o.unretired
      by_hold (Board t j) o = differ (is_written earlier j) (lower_written j o.spawns.0 (lower j o.older.lower) o.older.unflushed o.spawns.1 (owing.spawning o.spawns.0 t o.spawns.2)) o.unwritten
      by_hold (Custom r j) o = differ (is_retired earlier j) (lower_gone j (lower j o.older.lower) o.older.unflushed) o.unretired
      by_hold (Late j) o = differ (is_retired earlier j) (lower_gone j (lower j o.older.lower) o.older.unflushed) o.unretired
      by_hold Trap o = differ (is_interrupted k earlier) o.interrupted uninterrupted
      by_hold (Drain j) o = elim o.left [
        | inl x ↦ differ (is_retired earlier j) (lower_gone j (lower j o.older.lower) o.older.unflushed) (unretired_up j x)
        | inr x ↦ differ (is_written earlier j) (lower_written j x.decoupled.0 (lower j o.older.lower) o.older.unflushed x.decoupled.1 x.decoupled.2) (unwritten_up j x.unwritten)
      ]
      by_hold (Wait left) o = ex_low k.shape.ex o.waiting (omega arith)
      by_hold (StoreAhead j) o = ex_low k.shape.ex o.loading (omega arith)
      by_hold (Tail left) o = ex_below k.shape.ex o.last (omega arith)
      by_hold (UnitFull u) o = ex_below k.shape.ex o.last (omega arith)
      by_hold (Port j) o = ex_below k.shape.ex o.last (omega arith)
      by_hold Behind o = o

    -- ---- a cell at RD below EX
    module _ (stage : ℕ) (c : Cell) (s : Stands k row stage c) (at : stage ≡ k.shape.rd) (low : stage < k.shape.ex) where
      abbrev o : Owed
      o = record { serial = d.serial; asks = k.asks d.word }

      abbrev Waits : ℕ → ℕ → Type 0
      Waits r j = WaitsForOperand k earlier (upper row) stage c r j

      abbrev Writes : Target → ℕ → Type 0
      Writes t j = WaitsForWrite k earlier (upper row) stage c t j

      up : 0 < stage
      up = let a = plain.rd_pos in omega (arith, a, at)

      both_alive : (j : ℕ) → is_flushed (upper row ∷ earlier) j ≡ false → (has_serial row.flushed j ≡ false) × (is_flushed earlier j ≡ false)
      both_alive j e = unflushed_both row earlier j (sym (flushed_up row earlier j) ∙ e)

      -- the serial is that of the cell that stopped
      waits_serial : (r j : ℕ) → Waits r j → j ≡ d.serial
      waits_serial r j w = is.older stage c j at low s w.older.lower (both_alive j w.older.unflushed).1 w.unretired

      writes_serial : (t : Target) (j : ℕ) → Writes t j → j ≡ d.serial
      writes_serial t j w = by_case (is_retired earlier j) refl where
        by_case : (b : Bool) → is_retired earlier j ≡ b → j ≡ d.serial
        by_case false q = is.older stage c j at low s w.older.lower (both_alive j w.older.unflushed).1 q
        by_case true q = absurd (differ (is_written earlier j) (lower_written j w.spawns.0 (is.lower j q) w.older.unflushed w.spawns.1 (owing.spawning w.spawns.0 t w.spawns.2)) w.unwritten)

      word_is : (j word : ℕ) → j ≡ d.serial → IsWordOf k (upper row ∷ earlier) j word → word ≡ d.word
      word_is j word e w = is.one_word word (subst (λ i. IsWordOf k (upper row ∷ earlier) i word) e w)

      older_than : has_serial row.flushed d.serial ≡ false → is_flushed (upper row ∷ earlier) d.serial ≡ false
      older_than f = flushed_up row earlier d.serial ∙ unflushed_more row earlier d.serial f is.unflushed

      -- ---- operands
      to_withheld : is_withheld k.shape row o ≡ true → (n : Bool) → k.shape.forward ≡ n → k.shape.forward ≡ true → (n : ℕ) × (e : Cell) × Stands k (upper row) n e × (e.serial ≡ d.serial) × (n ≤ (k.asks e.word).x_time)
      to_withheld h false q on = absurd (differ k.shape.forward on q)
      to_withheld h true q on = by_cell (get_or row.cells k.shape.ex None) refl parts.0 where
        rest : (is_some (get_or row.cells k.shape.ex None) && not (nat_lt (k.asks d.word).x_time k.shape.ex)) ≡ true
        rest = elim (or_true (not k.shape.forward) (is_some (get_or row.cells k.shape.ex None) && not (nat_lt (k.asks d.word).x_time k.shape.ex)) h) [
          | inl x ↦ absurd (differ k.shape.forward on (true_not k.shape.forward x))
          | inr y ↦ y
        ]

        parts : (is_some (get_or row.cells k.shape.ex None) ≡ true) × (not (nat_lt (k.asks d.word).x_time k.shape.ex) ≡ true)
        parts = both (is_some (get_or row.cells k.shape.ex None)) (not (nat_lt (k.asks d.word).x_time k.shape.ex)) rest

        by_cell : (oc : Option Cell) → get_or row.cells k.shape.ex None ≡ oc → is_some oc ≡ true → (n : ℕ) × (e : Cell) × Stands k (upper row) n e × (e.serial ≡ d.serial) × (n ≤ (k.asks e.word).x_time)
        by_cell None g t = cc
        by_cell (Some e) g t =
            let a = plain.ex_mem in
            let b = plain.mem_last in
            let stands : Stands k row k.shape.ex e = of_get k.shape.stages k.shape.ex row.cells e (omega (arith, a, b)) g in
            let name = is.at_ex e stands in
            let le = not_below (k.asks d.word).x_time k.shape.ex (true_not (nat_lt (k.asks d.word).x_time k.shape.ex) parts.1) in
            let same = ap (λ w. (k.asks w).x_time) (same_word e d name) in
            (k.shape.ex, e, stands_up k row k.shape.ex e (omega (arith, low)) stands, same_serial e d name, omega (arith, le, same))

      of_withheld : (k.shape.forward ≡ true → (n : ℕ) × (e : Cell) × Stands k (upper row) n e × (e.serial ≡ d.serial) × (n ≤ (k.asks e.word).x_time)) → is_withheld k.shape row o ≡ true
      of_withheld h = by_forward k.shape.forward refl where
        in_ex : (n : ℕ) (e : Cell) → (0 < n) × Stands k row n e → e.serial ≡ d.serial → n ≡ k.shape.ex
        in_ex n e t q = elim (cases_lt k.shape.ex n) [
          | inl high ↦ absurd (is.none_above n e high t.1)
          | inr le ↦ elim (cases_lt n k.shape.ex) [
            | inl less ↦ let f = is.younger n e t.0 less t.1 in absurd (omega (arith, f, q))
            | inr more ↦ omega (arith, le, more)
          ]
        ]

        there : (n : ℕ) × (e : Cell) × Stands k (upper row) n e × (e.serial ≡ d.serial) × (n ≤ (k.asks e.word).x_time) → (is_some (get_or row.cells k.shape.ex None) && not (nat_lt (k.asks d.word).x_time k.shape.ex)) ≡ true
        there x =
            let t = stands_down k row x.0 x.1 x.2 in
            let e = in_ex x.0 x.1 t x.3 in
            let stands : Stands k row k.shape.ex x.1 = subst (λ n. Stands k row n x.1) e t.1 in
            let same = ap (λ w. (k.asks w).x_time) (same_word x.1 d (is.at_ex x.1 stands)) in
            let le = x.4 in
            and_both (is_some (get_or row.cells k.shape.ex None)) (not (nat_lt (k.asks d.word).x_time k.shape.ex))
            (ap (λ (oc : Option Cell). is_some oc) (get_of k.shape.stages k.shape.ex row.cells x.1 stands).1)
            (not_false (nat_lt (k.asks d.word).x_time k.shape.ex) (no_less (k.asks d.word).x_time k.shape.ex (omega (arith, le, e, same))))

        by_forward : (b : Bool) → k.shape.forward ≡ b → is_withheld k.shape row o ≡ true
        by_forward false q = true_or (not k.shape.forward) (is_some (get_or row.cells k.shape.ex None) && not (nat_lt (k.asks d.word).x_time k.shape.ex)) (inl (not_false k.shape.forward q))
        by_forward true q = true_or (not k.shape.forward) (is_some (get_or row.cells k.shape.ex None) && not (nat_lt (k.asks d.word).x_time k.shape.ex)) (inr (there (h q)))

      abbrev a : Asks
      a = k.asks c.word

      abbrev Own : Hold → Type 0
      Own h = OwnMarked k earlier row stage c h

      waits_parts : (r j : ℕ) → Waits r j → (j ≡ d.serial) × (r ≡ (k.asks d.word).destination) × ((reads_of a (k.asks d.word).destination && is_withheld k.shape row o) ≡ true)
      waits_parts r j w =
          let q = waits_serial r j w in
          let v = word_is j w.writes.0 q w.writes.1 in
          let e : r ≡ (k.asks d.word).destination = sym w.writes.2 ∙ ap (λ z. (k.asks z).destination) v in (
            q,
            e,
            and_both (reads_of a (k.asks d.word).destination) (is_withheld k.shape row o) (subst (λ x. reads_of a x ≡ true) e w.reads)
                (of_withheld (λ on. let x = w.withheld on in (x.0, x.1, x.2, x.3 ∙ q, x.4))),
          )

      waits_so : has_serial row.flushed d.serial ≡ false → (reads_of a (k.asks d.word).destination && is_withheld k.shape row o) ≡ true → Waits (k.asks d.word).destination d.serial
      waits_so f t =
          let p = both (reads_of a (k.asks d.word).destination) (is_withheld k.shape row o) t in
          record {
            reading = at;
            reads = p.0;
            older = record { lower = is.younger stage c up low s; unflushed = older_than f };
            unretired = is.unretired;
            writes = (d.word, inr is.word, refl);
            withheld = to_withheld p.1 k.shape.forward refl;
          }

      operand_where : has_serial row.flushed d.serial ≡ false → FirstIn Own 0 1 (operand_behind k.shape row a o)
      operand_where f = by_case (reads_of a (k.asks d.word).destination && is_withheld k.shape row o) refl where
        by_case : (b : Bool) → (reads_of a (k.asks d.word).destination && is_withheld k.shape row o) ≡ b → FirstIn Own 0 1 (if b then Some (Operand (k.asks d.word).destination d.serial) else None)
        by_case true t = (
          omega arith,
          omega arith,
          waits_so f t,
          λ g n m own.
              let x = operand_kind g (one_kind 0 _ n m) in
              let p = waits_parts x.0 x.1 (subst (λ y. Own y) x.2 own) in
              let r = p.1 in
              let j = p.0 in
              subst (λ y. ComesFirst (Operand (k.asks d.word).destination d.serial) y) (sym x.2) (inr (refl, inr (sym r, omega (arith, j)))),
        )
        by_case false t = λ h n m own. let x = operand_kind h (one_kind 0 _ n m) in
            let p = waits_parts x.0 x.1 (subst (λ y. Own y) x.2 own) in
            differ (reads_of a (k.asks d.word).destination && is_withheld k.shape row o) p.2 t

      -- ---- outstanding registers
      module _ (names : NamesRegisters k) (f : has_serial row.flushed d.serial ≡ false) where
        writes_parts : (n j : ℕ) → Writes (register_at n) j → (j ≡ d.serial) × (touches a (register_at n) ≡ true) × (has_target (k.asks d.word) (register_at n) ≡ true)
        writes_parts n j w =
            let q = writes_serial (register_at n) j w in
            (q, w.touches, ap (λ z. has_target (k.asks z) (register_at n)) (sym (word_is j w.spawns.0 q w.spawns.1)) ∙ w.spawns.2)

        unwritten : is_written earlier d.serial ≡ false
        unwritten = not_true (is_written earlier d.serial) (λ e. differ (is_retired earlier d.serial) (owing.written d.serial e) is.unretired)

        writes_so : (n : ℕ) → touches a (register_at n) ≡ true → has_target (k.asks d.word) (register_at n) ≡ true → Writes (register_at n) d.serial
        writes_so n t h = record {
          reading = at;
          touches = t;
          older = record { lower = is.younger stage c up low s; unflushed = older_than f };
          unwritten = unwritten;
          spawns = (d.word, inr is.word, h);
        }

        one_board : (n : ℕ) → OneIs (Numbered k earlier row names stage c) (made k earlier row names stage c) n (board_at k.shape row [] a (Some o ∷ []) n)
        one_board n = by_case (touches a (register_at n)) refl (has_target (k.asks d.word) (register_at n)) refl where
          by_case : (b : Bool) → touches a (register_at n) ≡ b → (t : Bool) → has_target (k.asks d.word) (register_at n) ≡ t
              → OneIs (Numbered k earlier row names stage c) (made k earlier row names stage c) n (if b then board n (if t then Some d.serial else None) else None)
          by_case true p true q = (d.serial, refl, writes_so n p q, λ j w. let e = (writes_parts n j w).0 in omega (arith, e))
          by_case true p false q = λ j w. differ (has_target (k.asks d.word) (register_at n)) (writes_parts n j w).2 q
          by_case false p t q = λ j w. differ (touches a (register_at n)) (writes_parts n j w).1 p

        board_where : FirstIn Own 1 2 (board_behind k.shape row a o)
        board_where =
            subst (λ n. FirstIn Own 1 2 (first_from (board_at k.shape row [] a (Some o ∷ [])) 0 n)) (sym registers)
            (board_of k earlier row names stage c (first_from (board_at k.shape row [] a (Some o ∷ [])) 0 48)
            (first_is (Numbered k earlier row names stage c) (made k earlier row names stage c) (board_at k.shape row [] a (Some o ∷ [])) one_board 0 48))

        none_higher : FirstIn Own 2 11 None
        none_higher = λ h n m own. let lt = own_read stage c h low own in omega (arith, lt, n)

        own_where : FirstIn Own 0 11 (option_or (operand_behind k.shape row a o) (board_behind k.shape row a o))
        own_where =
            subst (λ x. FirstIn Own 0 11 x) (or_none (option_or (operand_behind k.shape row a o) (board_behind k.shape row a o)))
            (joined Own 0 2 11 (option_or (operand_behind k.shape row a o) (board_behind k.shape row a o)) None (omega arith) (omega arith)
            (joined Own 0 1 2 (operand_behind k.shape row a o) (board_behind k.shape row a o) (omega arith) (omega arith) (operand_where f) board_where) none_higher)

      -- where the row marks that cell as flushed nothing is waited for
      none_flushed : has_serial row.flushed d.serial ≡ true → (h : Hold) → Own h → ⊥
      none_flushed f h own = by_hold h (own_read stage c h low own) own where
        clash : (j : ℕ) → j ≡ d.serial → is_flushed (upper row ∷ earlier) j ≡ false → ⊥
        clash j e alive = differ (has_serial row.flushed d.serial) f (subst (λ i. has_serial row.flushed i ≡ false) e (both_alive j alive).0)

        by_hold : (h : Hold) → kind_of h < 2 → Own h → ⊥
        by_hold (Operand r j) lt w = clash j (waits_serial r j w) w.older.unflushed
        by_hold (Board t j) lt w = clash j (writes_serial t j w) w.older.unflushed
        by_hold (Custom r j) lt w = omega (arith, lt)
        by_hold (Late j) lt w = omega (arith, lt)
        by_hold Trap lt w = omega (arith, lt)
        by_hold (Drain j) lt w = omega (arith, lt)
        by_hold (Wait left) lt w = omega (arith, lt)
        by_hold (StoreAhead j) lt w = omega (arith, lt)
        by_hold (Tail left) lt w = omega (arith, lt)
        by_hold (UnitFull u) lt w = omega (arith, lt)
        by_hold (Port j) lt w = omega (arith, lt)
        by_hold Behind lt w = w

    -- not at RD below EX nothing is waited for
    none_elsewhere : (stage : ℕ) (c : Cell) → Stands k row stage c → ((stage == k.shape.rd) && nat_lt stage k.shape.ex) ≡ false → (h : Hold) → OwnMarked k earlier row stage c h → ⊥
    none_elsewhere stage c s e h own = elim (cases_lt k.shape.ex stage) [
      | inl high ↦ is.none_above stage c high s
      | inr le ↦ elim (cases_lt stage k.shape.ex) [
        | inl less ↦ by_hold less h (own_read stage c h less own) own
        | inr more ↦
            let at : stage ≡ k.shape.ex = omega (arith, le, more) in
            none_at_ex c h (subst (λ n. Stands k row n c) at s) (subst (λ n. OwnMarked k earlier row n c h) at own)
      ]
    ] where
      clash : stage < k.shape.ex → stage ≡ k.shape.rd → ⊥
      clash lt at = differ ((stage == k.shape.rd) && nat_lt stage k.shape.ex) (and_both (stage == k.shape.rd) (nat_lt stage k.shape.ex) (number_same stage k.shape.rd at) (below_is stage k.shape.ex lt)) e

      by_hold : stage < k.shape.ex → (h : Hold) → kind_of h < 2 → OwnMarked k earlier row stage c h → ⊥
      by_hold less (Operand r j) lt w = clash less w.reading
      by_hold less (Board t j) lt w = clash less w.reading
      by_hold less (Custom r j) lt w = omega (arith, lt)
      by_hold less (Late j) lt w = omega (arith, lt)
      by_hold less Trap lt w = omega (arith, lt)
      by_hold less (Drain j) lt w = omega (arith, lt)
      by_hold less (Wait left) lt w = omega (arith, lt)
      by_hold less (StoreAhead j) lt w = omega (arith, lt)
      by_hold less (Tail left) lt w = omega (arith, lt)
      by_hold less (UnitFull u) lt w = omega (arith, lt)
      by_hold less (Port j) lt w = omega (arith, lt)
      by_hold less Behind lt w = w

    -- the first of its own
    own_of_cell : (names : NamesRegisters k) (b : Asks) (stage : ℕ) (c : Cell) → Stands k row stage c → (stage ≡ k.shape.rd → b ≡ k.asks c.word)
        → FirstIn (λ h. OwnMarked k earlier row stage c h) 0 11 (own_behind k.shape row stage b (Some (record { serial = d.serial; asks = k.asks d.word })))
    own_of_cell names b stage c s asked = by_test (stage == k.shape.rd) (nat_lt stage k.shape.ex) (has_serial row.flushed d.serial) refl refl refl where
      second : (p : Bool) → (p && false) ≡ false
      second true = refl
      second false = refl

      never : (p q : Bool) → (p && (q && not true)) ≡ false
      never true true = refl
      never true false = refl
      never false q = refl

      none_so : ((stage == k.shape.rd) && (nat_lt stage k.shape.ex && not (has_serial row.flushed d.serial))) ≡ false → ((h : Hold) → OwnMarked k earlier row stage c h → ⊥)
          → FirstIn (λ h. OwnMarked k earlier row stage c h) 0 11 (if (stage == k.shape.rd) && (nat_lt stage k.shape.ex && not (has_serial row.flushed d.serial))
          then option_or (operand_behind k.shape row b (record { serial = d.serial; asks = k.asks d.word })) (board_behind k.shape row b (record { serial = d.serial; asks = k.asks d.word })) else None)
      none_so e none =
          subst (λ t. FirstIn (λ h. OwnMarked k earlier row stage c h) 0 11 (if t
          then option_or (operand_behind k.shape row b (record { serial = d.serial; asks = k.asks d.word })) (board_behind k.shape row b (record { serial = d.serial; asks = k.asks d.word })) else None)) (sym e)
          (λ h n m own. none h own)

      by_test : (p q r : Bool) → (stage == k.shape.rd) ≡ p → nat_lt stage k.shape.ex ≡ q → has_serial row.flushed d.serial ≡ r
          → FirstIn (λ h. OwnMarked k earlier row stage c h) 0 11 (if (stage == k.shape.rd) && (nat_lt stage k.shape.ex && not (has_serial row.flushed d.serial))
          then option_or (operand_behind k.shape row b (record { serial = d.serial; asks = k.asks d.word })) (board_behind k.shape row b (record { serial = d.serial; asks = k.asks d.word })) else None)
      by_test true true false x y z =
          let at = same_number stage k.shape.rd x in
          subst (λ t. FirstIn (λ h. OwnMarked k earlier row stage c h) 0 11 (if t
          then option_or (operand_behind k.shape row b (record { serial = d.serial; asks = k.asks d.word })) (board_behind k.shape row b (record { serial = d.serial; asks = k.asks d.word })) else None))
          (sym (and_both (stage == k.shape.rd) (nat_lt stage k.shape.ex && not (has_serial row.flushed d.serial)) x (and_both (nat_lt stage k.shape.ex) (not (has_serial row.flushed d.serial)) y (not_false (has_serial row.flushed d.serial) z))))
          (subst (λ w. FirstIn (λ h. OwnMarked k earlier row stage c h) 0 11 (option_or (operand_behind k.shape row w (record { serial = d.serial; asks = k.asks d.word })) (board_behind k.shape row w (record { serial = d.serial; asks = k.asks d.word }))))
          (sym (asked at)) (own_where stage c s at (is_below stage k.shape.ex y) names z))
      by_test true true true x y z =
          none_so (ap (λ t. (stage == k.shape.rd) && (nat_lt stage k.shape.ex && not t)) z ∙ never (stage == k.shape.rd) (nat_lt stage k.shape.ex))
          (λ h. none_flushed stage c s (same_number stage k.shape.rd x) (is_below stage k.shape.ex y) z h)
      by_test true false r x y z = none_so (ap (λ t. (stage == k.shape.rd) && (t && not (has_serial row.flushed d.serial))) y ∙ second (stage == k.shape.rd)) (none_elsewhere stage c s (ap (λ t. (stage == k.shape.rd) && t) y ∙ second (stage == k.shape.rd)))
      by_test false q r x y z =
          none_so (ap (λ t. t && (nat_lt stage k.shape.ex && not (has_serial row.flushed d.serial))) x) (none_elsewhere stage c s (ap (λ t. t && nat_lt stage k.shape.ex) x))

  -- behind a fetch without a word nothing stands above stage 0
  own_of_fetch : IsBehindFetch k earlier row → (stage : ℕ) (c : Cell) → Stands k row stage c → FirstIn (λ h. OwnMarked k earlier row stage c h) 0 11 None
  own_of_fetch is stage c s = λ h n m own. is.none_above stage c (own_high stage c h own) s

-- ---- the row

module _ (k : Setting) (earlier : List Row) (row : Row) (a : Asks) (stopped : Option Owed) (plain : IsPlain k) (names : NamesRegisters k) (asked : AsksAtRead k row a)
    (first : (stage : ℕ) (c : Cell) → Stands k row stage c → FirstIn (λ h. OwnMarked k earlier row stage c h) 0 11 (own_behind k.shape row stage a stopped)) where
  rightly : AreRightBehind k.shape row a stopped → HoldsRightly k earlier row
  rightly r stage c s u f =
      let g = get_of k.shape.stages stage row.cells c s in
      let most = plain.most in
      let low = g.0 in
      shows_first k earlier row plain names stage c s (own_behind k.shape row stage a stopped) (first stage c s)
      (r stage (omega (arith, most, low)) g.0 c g.1 u (not_true (does_stop k.shape row stage) (λ e. let p = both (stage == k.shape.ex) (is_of_cell row.stop) e in f (same_number stage k.shape.ex p.0, p.1))))

  are_right : HoldsRightly k earlier row → AreRightBehind k.shape row a stopped
  are_right h stage lt low c g u f =
      let s : Stands k row stage c = of_get k.shape.stages stage row.cells c low g in
      first_shown k earlier row plain names stage c s (own_behind k.shape row stage a stopped) (first stage c s)
      (h stage c s u (λ m. differ (does_stop k.shape row stage) (and_both (stage == k.shape.ex) (is_of_cell row.stop) (number_same stage k.shape.ex m.0) m.1) f))

own_is : (k : Setting) (earlier : List Row) (row : Row) (a : Asks) (stopped : Option Owed) → RowFacts → NamesRegisters k → IsPlain k → Lawful (λ places. k) earlier → is_some (newest earlier).stop ≡ true → MovesRightly k earlier row
    → AsksAtRead k row a → IsStopper k earlier stopped → IsOwing k earlier → (stage : ℕ) (c : Cell) → Stands k row stage c → FirstIn (λ h. OwnMarked k earlier row stage c h) 0 11 (own_behind k.shape row stage a stopped)
own_is k earlier row a stopped facts names plain lawful stop moves asked stopper owing stage c s = by_case (behind facts k earlier row plain lawful stop moves) where
  by_case : IsBehind k earlier row → FirstIn (λ h. OwnMarked k earlier row stage c h) 0 11 (own_behind k.shape row stage a stopped)
  by_case (inl x) =
      subst (λ z. FirstIn (λ h. OwnMarked k earlier row stage c h) 0 11 (own_behind k.shape row stage a z)) (sym (stopper.0 x.0 x.1 x.2.stands))
      (own_of_cell k earlier row plain owing x.0 x.2 names a stage c s (λ e. asked c (subst (λ n. Stands k row n c) e s)))
  by_case (inr y) = subst (λ z. FirstIn (λ h. OwnMarked k earlier row stage c h) 0 11 (own_behind k.shape row stage a z)) (sym (stopper.1 y.0)) (own_of_fetch k earlier row plain y.1 stage c s)

pub rightly_then : (k : Setting) (earlier : List Row) (row : Row) (a : Asks) (stopped : Option Owed) (shape : Shape) → k.shape ≡ shape → RowFacts → NamesRegisters k → IsPlain k → Lawful (λ places. k) earlier
    → is_some (newest earlier).stop ≡ true → MovesRightly k earlier row → AsksAtRead k row a → IsStopper k earlier stopped → IsOwing k earlier → AreRightBehind shape row a stopped → HoldsRightly k earlier row
rightly_then k earlier row a stopped shape e facts names plain lawful stop moves asked stopper owing r =
    rightly k earlier row a stopped plain names asked (own_is k earlier row a stopped facts names plain lawful stop moves asked stopper owing) (subst (λ x. AreRightBehind x row a stopped) (sym e) r)

pub then_right : (k : Setting) (earlier : List Row) (row : Row) (a : Asks) (stopped : Option Owed) (shape : Shape) → k.shape ≡ shape → RowFacts → NamesRegisters k → IsPlain k → Lawful (λ places. k) earlier
    → is_some (newest earlier).stop ≡ true → MovesRightly k earlier row → AsksAtRead k row a → IsStopper k earlier stopped → IsOwing k earlier → HoldsRightly k earlier row → AreRightBehind shape row a stopped
then_right k earlier row a stopped shape e facts names plain lawful stop moves asked stopper owing h =
    subst (λ x. AreRightBehind x row a stopped) e (are_right k earlier row a stopped plain names asked (own_is k earlier row a stopped facts names plain lawful stop moves asked stopper owing) h)
