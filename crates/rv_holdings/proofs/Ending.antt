-- The holds of a cell at MEM and in the last stage: the memory, an older store, its module, its unit and the port.
use Rattle.std.proofs.Common.{◌≡◌, ℕ, suc, ◌-◌, ◌<◌, List, ◌∷◌, Option, Some, None, Bool, true, false, refl, sym, ap, ◌∙◌, subst, arith, inr}
use Rattle.std.specs.Prelude.{◌&&◌, not, if◌then◌else◌, ◌==◌, nat_lt}
use Rattle.rv_asks.specs.declared.asks.Asks.{Asks}
use Rattle.rv_trace.specs.declared.row.Cell.{Cell}
use Rattle.rv_trace.specs.declared.row.Hold.{Hold}
use Rattle.rv_trace.specs.declared.row.Hold.TheVariants.{Wait, StoreAhead, Tail, UnitFull, Port}
use Rattle.rv_trace.specs.declared.row.Row.{Row}
use Rattle.rv_trace.specs.Trace.{has_serial, place}
use Rattle.rv_trace.specs.RowParts.{ComesFirst}
use Rattle.rv_waits.specs.Waits.{wait_at}
use Rattle.rv_lawful.specs.Settings.{Setting, Stands, accesses_before}
use Rattle.rv_lawful.specs.Outstanding.{serial_written}
use Rattle.rv_lawful.specs.LawfulTrace.{WaitsForMemory, WaitsForStore, WaitsForModule, WaitsForPort}
use Rattle.rv_rows.specs.Kinds.{upper, OwnMarked, WaitsForMarked}
use Rattle.rv_rows.proofs.Upper.{stands_up, stands_down, flushed_up, place_up}
use Rattle.rv_rows.specs.declared.known.Known.{Known}
use Rattle.rv_rows.specs.declared.known.Owed.{Owed}
use Rattle.rv_holdings.specs.declared.want.Want.TheVariants as want
use Rattle.rv_holdings.specs.Expected.{Older, instructions_above, oldest, memory_hold, store_ahead, store_hold, tail_hold, unit_full, unit_hold, port, port_hold}
use Rattle.rv_holdings.proofs.Above.{Meets, OldestIs, oldest_is, is_listed, is_below, below_is}
use Rattle.rv_holdings.proofs.Past.{unflushed_both}
use Rattle.rv_holdings.proofs.Ordering.{wait_kind, store_kind, module_kind, unit_kind, port_kind, FirstIn, one_kind}
use Rattle.rv_holdings.proofs.Judged.{IsJudged, few, of_listed, falls, above_zero, older_of}
use Rattle.rv_holdings.proofs.Tests.{same_number, differs, differ}

module _ (k : Setting) (earlier : List Row) (row : Row) (known : Known) (owed : List Owed) (is : IsJudged k earlier row known owed) (stage : ℕ) (c : Cell) (stands : Stands k row stage c) where
  abbrev older : Older
  older = instructions_above k.shape row known stage

  abbrev a : Asks
  a = k.asks c.word

  abbrev Own : Hold → Type 0
  Own h = OwnMarked k earlier row stage c h

  above_mem : stage ≡ k.shape.mem → 0 < stage
  above_mem at = let p = is.plain.rd_pos in let q = is.plain.rd_ex in let r = is.plain.ex_mem in omega (arith, p, q, r, at)

  -- The memory

  abbrev Accesses : ℕ → Type 0
  Accesses left = WaitsForMemory k earlier (upper row) stage c left

  here : stage ≡ k.shape.mem → Stands k row k.shape.mem c
  here at = subst (λ n. Stands k row n c) at stands

  access_is : stage ≡ k.shape.mem → k.course.accesses (place (upper row ∷ earlier) c.serial) ≡ known.accesses
  access_is at = ap (λ p. k.course.accesses p) (place_up row earlier c.serial) ∙ sym (is.knowing.accesses c (here at))

  wait_is : stage ≡ k.shape.mem → wait_at k.waits (accesses_before k.course (place (upper row ∷ earlier) c.serial)) ≡ known.wait
  wait_is at = ap (λ p. wait_at k.waits (accesses_before k.course p)) (place_up row earlier c.serial) ∙ sym (is.knowing.wait c (here at))

  pub memory_where : FirstIn Own 6 7 (memory_hold k.shape known stage)
  memory_where = by_case (stage == k.shape.mem) known.accesses (nat_lt known.stood known.wait) refl refl refl where
    none : ((left : ℕ) → Accesses left → ⊥) → FirstIn Own 6 7 None
    none f = λ h l m own. let x = wait_kind h (one_kind 6 _ l m) in f x.0 (subst (λ y. Own y) x.1 own)

    by_case : (b d e : Bool) → (stage == k.shape.mem) ≡ b → known.accesses ≡ d → nat_lt known.stood known.wait ≡ e → FirstIn Own 6 7 (if b && (d && e) then Some (Wait (known.wait - known.stood)) else None)
    by_case true true true p q r = (
      omega arith,
      omega arith,
      (let at = same_number stage k.shape.mem p in
          let lt = is_below known.stood known.wait r in
          let w = wait_is at in
          let s = is.knowing.stood c (here at) in
          record { waiting = at; accesses = access_is at ∙ q; still = omega (arith, lt, w, s); some = omega (arith, lt) }),
      λ g l m own. let x = wait_kind g (one_kind 6 _ l m) in subst (λ y. ComesFirst (Wait (known.wait - known.stood)) y) (sym x.1) (inr (refl, inr (refl, omega arith))),
    )
    by_case true true false p q r = none (λ left w.
        let at = same_number stage k.shape.mem p in
        let v = wait_is at in
        let s = is.knowing.stood c (here at) in
        let still = w.still in
        let some = w.some in
        differ (nat_lt known.stood known.wait) (below_is known.stood known.wait (omega (arith, v, s, still, some))) r)
    by_case true false e p q r = none (λ left w. differ known.accesses (sym (access_is (same_number stage k.shape.mem p)) ∙ w.accesses) q)
    by_case false d e p q r = none (λ left w. differs stage k.shape.mem p w.waiting)

  -- Stores ahead

  abbrev Stores : ℕ → Type 0
  Stores j = WaitsForStore k earlier (upper row) stage c j

  from_store : (j : ℕ) → Stores j → Meets k.shape row want.Store 0 older j
  from_store j w =
      let x = w.stands in
      let s = stands_down k row x.0 x.1 x.3 in
      let f = (unflushed_both row earlier j (sym (flushed_up row earlier j) ∙ w.older.unflushed)).0 in (
        x.0,
        record { serial = x.1.serial; asks = k.asks x.1.word },
        is_listed k earlier row known is.knowing stage x.0 x.1 x.2 (few k earlier row known owed is x.0 x.1 s.1) s.1 (subst (λ n. has_serial row.flushed n ≡ false) (sym x.4) f),
        x.4,
        x.5,
      )

  to_store : (up : 0 < stage) → (j : ℕ) → stage ≡ k.shape.mem → a.loads ≡ true → Meets k.shape row want.Store 0 older j → Stores j
  to_store up j at loads m =
      let y = of_listed k earlier row known owed is stage c up stands m.0 m.1 m.2 in
      subst (λ s. Stores s) m.3
      (record {
        loading = at;
        loads = loads;
        older = older_of k earlier row known owed is stage c up stands m.0 m.1 m.2;
        stands = (m.0, y.cell, y.later, stands_up k row m.0 y.cell (above_zero k earlier row known owed is stage c up stands m.0 m.1 m.2) y.stands, sym y.serial, ap (λ (b : Asks). b.stores) (sym y.asks) ∙ m.4);
      })

  store_of : (up : 0 < stage) → stage ≡ k.shape.mem → a.loads ≡ true → (o : Option ℕ) → OldestIs k.shape row want.Store 0 older o → FirstIn Own 7 8 (store_ahead o)
  store_of up at loads None f = λ h l m own. let x = store_kind h (one_kind 7 _ l m) in f x.0 (from_store x.0 (subst (λ y. Own y) x.1 own))
  store_of up at loads (Some i) f = (
    omega arith,
    omega arith,
    to_store up i at loads f.0,
    λ g l m own.
        let x = store_kind g (one_kind 7 _ l m) in
        subst (λ y. ComesFirst (StoreAhead i) y) (sym x.1) (inr (refl, inr (refl, f.1 x.0 (from_store x.0 (subst (λ y. Own y) x.1 own))))),
  )

  pub store_where : FirstIn Own 7 8 (store_hold k.shape row stage a older)
  store_where = by_case (stage == k.shape.mem) a.loads refl refl where
    none : ((j : ℕ) → Stores j → ⊥) → FirstIn Own 7 8 None
    none f = λ h l m own. let x = store_kind h (one_kind 7 _ l m) in f x.0 (subst (λ y. Own y) x.1 own)

    by_case : (b d : Bool) → (stage == k.shape.mem) ≡ b → a.loads ≡ d → FirstIn Own 7 8 (if b && d then store_ahead (oldest k.shape row want.Store 0 older) else None)
    by_case true true e f =
        let at = same_number stage k.shape.mem e in
        let up = above_mem at in
        store_of up at f (oldest k.shape row want.Store 0 older) (oldest_is k.shape row want.Store 0 older (falls k earlier row known owed is stage c up stands))
    by_case true false e f = none (λ j w. differ a.loads w.loads f)
    by_case false d e f = none (λ j w. differs stage k.shape.mem e w.loading)

  -- Modules

  pub tail_where : FirstIn Own 8 9 (tail_hold k.shape known stage a)
  tail_where = by_case (suc stage == k.shape.stages) (nat_lt known.tailed a.tail) refl refl where
    none : ((left : ℕ) → WaitsForModule k earlier (upper row) stage c left → ⊥) → FirstIn Own 8 9 None
    none f = λ h l m own. let x = module_kind h (one_kind 8 _ l m) in f x.0 (subst (λ y. Own y) x.1 own)

    by_case : (b d : Bool) → (suc stage == k.shape.stages) ≡ b → nat_lt known.tailed a.tail ≡ d → FirstIn Own 8 9 (if b && d then Some (Tail (a.tail - known.tailed)) else None)
    by_case true true p q = (
      omega arith,
      omega arith,
      (let at = same_number (suc stage) k.shape.stages p in
          let lt = is_below known.tailed a.tail q in
          let s = is.knowing.tailed stage c at stands in
          record { last = at; still = omega (arith, lt, s); some = omega (arith, lt) }),
      λ g l m own. let x = module_kind g (one_kind 8 _ l m) in subst (λ y. ComesFirst (Tail (a.tail - known.tailed)) y) (sym x.1) (inr (refl, inr (refl, omega arith))),
    )
    by_case true false p q = none (λ left w.
        let s = is.knowing.tailed stage c (same_number (suc stage) k.shape.stages p) stands in
        let still = w.still in
        let some = w.some in
        differ (nat_lt known.tailed a.tail) (below_is known.tailed a.tail (omega (arith, s, still, some))) q)
    by_case false d p q = none (λ left w. differs (suc stage) k.shape.stages p w.last)

  -- Units

  frozen_is : (u : ℕ) → WaitsForMarked k earlier row stage c u → known.frozen ≡ true
  frozen_is u w = is.knowing.frozen stage c u w.frozen.0 w.last stands w.enters w.frozen.1 ∙ w.frozen.2

  pub unit_where : FirstIn Own 9 10 (unit_hold k.shape known stage a)
  unit_where = by_case (suc stage == k.shape.stages) known.frozen refl refl where
    none : ((u : ℕ) → WaitsForMarked k earlier row stage c u → ⊥) → FirstIn Own 9 10 None
    none f = λ h l m own. let x = unit_kind h (one_kind 9 _ l m) in f x.0 (subst (λ y. Own y) x.1 own)

    by_unit : suc stage ≡ k.shape.stages → known.frozen ≡ true → (o : Option ℕ) → a.unit ≡ o → FirstIn Own 9 10 (unit_full o)
    by_unit at f None e = none (λ u w. no_unit u w.enters e) where
      no_unit : (u : ℕ) → a.unit ≡ Some u → a.unit ≡ None → ⊥
      no_unit u p q = cc
    by_unit at f (Some u) e = (
      omega arith,
      omega arith,
      (let s = is.owing.units c.word u e in
          record { last = at; enters = e; frozen = (s.0, s.1, sym (is.knowing.frozen stage c u s.0 at stands e s.1) ∙ f) }),
      λ g l m own. let x = unit_kind g (one_kind 9 _ l m) in subst (λ y. ComesFirst (UnitFull u) y) (sym x.1) (inr (refl, inr (refl, omega arith))),
    )

    by_case : (b d : Bool) → (suc stage == k.shape.stages) ≡ b → known.frozen ≡ d → FirstIn Own 9 10 (if b && d then unit_full a.unit else None)
    by_case true true p q = by_unit (same_number (suc stage) k.shape.stages p) q a.unit refl
    by_case true false p q = none (λ u w. differ known.frozen (frozen_is u w) q)
    by_case false d p q = none (λ u w. differs (suc stage) k.shape.stages p w.last)

  -- The port

  abbrev Ports : ℕ → Type 0
  Ports j = WaitsForPort k earlier (upper row) stage c j

  port_is : (j : ℕ) → Ports j → known.port ≡ true
  port_is j w = (is.knowing.port j w.taken).1 w.spawns.0 w.spawns.1 w.spawns.2

  same_some : (i j : ℕ) (o : Option ℕ) → o ≡ Some i → o ≡ Some j → i ≡ j
  same_some i j o e f = inside (sym e ∙ f) where
    inside : ◌≡◌ {A = Option ℕ} (Some i) (Some j) → i ≡ j
    inside q = cc

  pub port_where : FirstIn Own 10 11 (port_hold k.shape row known stage a)
  port_where = by_case (suc stage == k.shape.stages) (a.destination == 0) known.port refl refl refl where
    none : ((j : ℕ) → Ports j → ⊥) → FirstIn Own 10 11 None
    none f = λ h l m own. let x = port_kind h (one_kind 10 _ l m) in f x.0 (subst (λ y. Own y) x.1 own)

    by_serial : suc stage ≡ k.shape.stages → (a.destination == 0) ≡ false → known.port ≡ true → (o : Option ℕ) → serial_written row.written ≡ o → FirstIn Own 10 11 (port o)
    by_serial at d f None e = none (λ j w. none_taken j w.taken e) where
      none_taken : (j : ℕ) → serial_written row.written ≡ Some j → serial_written row.written ≡ None → ⊥
      none_taken j p q = cc
    by_serial at d f (Some i) e = (
      omega arith,
      omega arith,
      record { last = at; writes = d; taken = e; spawns = (is.knowing.port i e).0 f },
      λ g l m own.
          let x = port_kind g (one_kind 10 _ l m) in
          let w = subst (λ y. Own y) x.1 own in
          let same = same_some i x.0 (serial_written row.written) e w.taken in
          subst (λ y. ComesFirst (Port i) y) (sym x.1) (inr (refl, inr (refl, omega (arith, same)))),
    )

    by_case : (b d f : Bool) → (suc stage == k.shape.stages) ≡ b → (a.destination == 0) ≡ d → known.port ≡ f → FirstIn Own 10 11 (if b && (not d && f) then port (serial_written row.written) else None)
    by_case true false true p q r = by_serial (same_number (suc stage) k.shape.stages p) q r (serial_written row.written) refl
    by_case true true f p q r = none (λ j w. differ (a.destination == 0) q w.writes)
    by_case true false false p q r = none (λ j w. differ known.port (port_is j w) r)
    by_case false d f p q r = none (λ j w. differs (suc stage) k.shape.stages p w.last)
