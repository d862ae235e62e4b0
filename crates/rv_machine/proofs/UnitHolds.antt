-- A token of the last stage waits for its unit, and for the port of the register file.
use Rattle.std.proofs.Common.{◌≡◌, ℕ, zero, suc, ◌+◌, ◌-◌, ◌<◌, List, [], ◌∷◌, drop, length, Option, Some, None, Bool, true, false, refl, sym, ap, ◌∙◌, subst, arith, inr}
use Rattle.std.specs.Prelude.{if◌then◌else◌, ◌==◌, is_some, slice_get}
use Rattle.std.proofs.lemmas.Bool.{false≢true}
use Rattle.ix_plan.specs.Units.{Slots as UnitSlots, unit_written, frozen_with}
use Rattle.rv_asks.specs.declared.asks.Asks.{Asks}
use Rattle.rv_trace.specs.declared.row.Hold.{Hold}
use Rattle.rv_trace.specs.declared.row.Hold.TheVariants.{UnitFull, Port}
use Rattle.rv_trace.specs.declared.row.Row.{Row}
use Rattle.rv_trace.specs.Trace.{retirements, is_retired, is_flushed}
use Rattle.rv_trace.specs.RowParts.{ComesFirst}
use Rattle.rv_unit.specs.declared.entry.Entry.{Entry}
use Rattle.rv_unit.specs.Entries.{is_frozen}
use Rattle.rv_unit.specs.Numbering.{lasts_of}
use Rattle.rv_unit.specs.Slots.{slots_from, units_from}
use Rattle.rv_unit.specs.Timed.{AreUnits}
use Rattle.rv_unit.proofs.Showing.{frozen_law}
use Rattle.rv_holds.specs.declared.token.Token.{Token}
use Rattle.rv_holds.specs.Tokens.{Slots, or_else}
use Rattle.rv_engine.specs.declared.owing.Owed.{Owed}
use Rattle.rv_engine.specs.Owing.{Outstanding, paying, unit_hold, port_serial, port_hold, retiring_hold}
use Rattle.rv_engine.specs.Rows.{written_of}
use Rattle.rv_engine.specs.Settings.{Setting, shape_of}
use Rattle.rv_lawful.specs.Sight.{asked}
use Rattle.rv_lawful.specs.Outstanding.{Decoupled, serial_written, units_after}
use Rattle.rv_lawful.specs.LawfulTrace.{OwnHold, IsWordOf, WaitsForUnit, WaitsForPort}
use Rattle.rv_machine.specs.Owing.{judged, IsOwing}
use Rattle.rv_machine.specs.Placed.{IsReady, Placed}
use Rattle.rv_machine.specs.Told.{Told}
use Rattle.rv_machine.proofs.Deciding.{test_eq, test_ne}
use Rattle.rv_machine.proofs.Ordering.{unit_kind, port_kind, own_kind, FirstOf, FirstFrom, joined, or_right}
use Rattle.rv_machine.proofs.Owes.{paid_is}
use Rattle.rv_machine.proofs.Older as O

-- each unit has slots
pub slots_from-one : (u stages : ℕ) (lasts : List ℕ) (entries : List Entry) (n : ℕ) → n < length lasts → (slots : UnitSlots) × (slice_get (units_from u stages lasts entries) n ≡ Some slots)
slots_from-one u stages [] entries n lt = absurd (omega (arith, lt))
slots_from-one u stages (last ∷ lasts) entries zero lt = (slots_from u stages (last + 1 - stages) entries, refl)
slots_from-one u stages (last ∷ lasts) entries (suc n) lt = slots_from-one (u + 1) stages lasts entries n (omega (arith, lt))

-- a token in a stage, with what is told of the row
module _ (k : Setting) (ready : IsReady k) (earlier : List Row) (row : Row) (seen : Slots) (told : Told k earlier row seen) (stage : ℕ) (t : Token) (older : Slots)
    (rest : drop stage seen ≡ Some t ∷ older) (placed : Placed k (retirements earlier) stage (Some t ∷ older)) where
  abbrev Of : ℕ → Option Hold → Type 0
  Of n o = FirstOf (judged k) earlier row stage t.cell n o

  abbrev From : ℕ → Option Hold → Type 0
  From n o = FirstFrom (judged k) earlier row stage t.cell n o

  abbrev o : Outstanding
  o = told.outstanding

  -- Units

  units_can : AreUnits o.stages o.lasts
  units_can =
      subst (λ l. AreUnits o.stages l) (sym told.beside.is.lasts)
      (subst (λ n. AreUnits n (lasts_of k.design.plans)) (sym told.beside.is.stages) ready.in_units.units)

  frozen_is : (u : ℕ) (slots : UnitSlots) → slice_get (units_after (judged k) earlier) u ≡ Some slots → frozen_with u slots (unit_written (units_after (judged k) earlier)) ≡ is_frozen o.lasts o.entries u
  frozen_is u slots e =
      ap (λ l. frozen_with u slots (unit_written l)) told.beside.units
      ∙ frozen_law o.stages o.lasts o.entries u slots units_can told.beside.timed (sym (ap (λ l. slice_get l u) told.beside.units) ∙ e)

  no_unit : ((u : ℕ) → WaitsForUnit (judged k) earlier row stage t.cell u → ⊥) → Of 9 None
  no_unit f = λ h e own. let x = unit_kind h e in f x.0 (subst (λ y. OwnHold (judged k) earlier row stage t.cell y) x.1 own)

  unit_first : suc stage ≡ (shape_of k).stages → (v : Option ℕ) → t.asks.unit ≡ v → Of 9 (unit_hold o v)
  unit_first at None e = no_unit (λ u w. cc (ap (λ (a : Asks). a.unit) placed.0.asks, w.enters, e))
  unit_first at (Some u) e = by_case (is_frozen o.lasts o.entries u) refl where
    enters : (asked k.design t.cell.word).unit ≡ Some u
    enters = sym (ap (λ (a : Asks). a.unit) placed.0.asks) ∙ e

    same_unit : (a b : ℕ) → ◌≡◌ {A = Option ℕ} (Some a) (Some b) → a ≡ b
    same_unit a b q = cc

    slots : (l : UnitSlots) × (slice_get (units_after (judged k) earlier) u ≡ Some l)
    slots =
        let lt = ready.in_units.numbering t.cell.word u enters in
        let x = slots_from-one 0 o.stages o.lasts o.entries u (subst (λ l. u < length l) (sym told.beside.is.lasts) lt) in
        (x.0, ap (λ l. slice_get l u) told.beside.units ∙ x.1)

    by_case : (b : Bool) → is_frozen o.lasts o.entries u ≡ b → Of 9 (if b then Some (UnitFull u) else None)
    by_case true q = (
      refl,
      record { last = at; enters = enters; frozen = (slots.0, slots.1, frozen_is u slots.0 slots.1 ∙ q) },
      λ g kind own. let x = unit_kind g kind in subst (λ y. ComesFirst (UnitFull u) y) (sym x.1) (inr (refl, inr (refl, omega arith))),
    )
    by_case false q = no_unit (λ v w.
        let same = same_unit v u (sym w.enters ∙ enters) in
        let frozen = sym (frozen_is v w.frozen.0 w.frozen.1) ∙ w.frozen.2 in
        cc (ap (λ n. is_frozen o.lasts o.entries n) same, frozen, q))

  -- The port

  no_port : ((j : ℕ) → WaitsForPort (judged k) earlier row stage t.cell j → ⊥) → Of 10 None
  no_port f = λ h e own. let x = port_kind h e in f x.0 (subst (λ y. OwnHold (judged k) earlier row stage t.cell y) x.1 own)

  writes_here : (t.asks.destination == 0) ≡ ((asked k.design t.cell.word).destination == 0)
  writes_here = ap (λ (a : Asks). a.destination == 0) placed.0.asks

  taken_is : serial_written row.written ≡ serial_written (written_of (paying o))
  taken_is = ap serial_written told.beside.written

  -- what writes in the row is retired, and has one word
  paid_alive : (x : Decoupled) (e : Entry) (w : Owed) → IsOwing k earlier x e w → is_flushed (row ∷ earlier) w.serial ≡ false
  paid_alive x e w is = subst (λ s. is_flushed (row ∷ earlier) s ≡ false) (sym is.owed) (told.beside.alive x.0 is.alive is.retired)

  paid_word : (x : Decoupled) (e : Entry) (w : Owed) → IsOwing k earlier x e w → (word : ℕ) → IsWordOf (judged k) (row ∷ earlier) w.serial word → word ≡ x.1
  paid_word x e w is word known =
      let gone = subst (λ s. is_retired earlier s ≡ true) (sym is.owed) is.retired in
      is.only word (subst (λ s. IsWordOf (judged k) earlier s word) is.owed (O.word_before k earlier row seen told w.serial word (paid_alive x e w is) gone known))

  port_first : suc stage ≡ (shape_of k).stages → (p : Option Owed) → paying o ≡ p → Of 10 (port_hold (port_serial p) t.asks.destination)
  port_first at None e = no_port (λ j w. cc (sym (taken_is ∙ ap (λ q. serial_written (written_of q)) e) ∙ w.taken))
  port_first at (Some w) e = by_case (is_some w.asks.spawned) (t.asks.destination == 0) refl refl where
    owing : (x : Decoupled) × (n : Entry) × IsOwing k earlier x n w
    owing = paid_is k earlier o.stages o.lasts o.entries _ o.entries o.owed w told.beside.owing e

    taken : serial_written row.written ≡ Some w.serial
    taken = taken_is ∙ ap (λ q. serial_written (written_of q)) e

    same_serial : (a b : ℕ) → ◌≡◌ {A = Option ℕ} (Some a) (Some b) → a ≡ b
    same_serial a b q = cc

    by_case : (b z : Bool) → is_some w.asks.spawned ≡ b → (t.asks.destination == 0) ≡ z → Of 10 (port_hold (if b then Some w.serial else None) t.asks.destination)
    by_case false z q d = no_port (λ j v.
        let same = same_serial w.serial j (sym taken ∙ v.taken) in
        let word = paid_word owing.0 owing.1 w owing.2 v.spawns.0 (subst (λ s. IsWordOf (judged k) (row ∷ earlier) s v.spawns.0) (sym same) v.spawns.1) in
        false≢true (sym q ∙ ap (λ (a : Asks). is_some a.spawned) owing.2.asks ∙ ap (λ n. is_some (asked k.design n).spawned) (sym word) ∙ v.spawns.2))
    by_case true true q d = subst (λ b. Of 10 (if b then None else Some (Port w.serial))) (sym d) (no_port (λ j v. cc (writes_here, d, v.writes)))
    by_case true false q d = subst (λ b. Of 10 (if b then None else Some (Port w.serial))) (sym d) (
      refl,
      record {
        last = at;
        writes = sym writes_here ∙ d;
        taken = taken;
        spawns = (owing.0.1, inr (subst (λ s. IsWordOf (judged k) earlier s owing.0.1) (sym owing.2.owed) owing.2.known), sym (ap (λ (a : Asks). is_some a.spawned) owing.2.asks) ∙ q);
      },
      λ g kind own.
          let x = port_kind g kind in
          let v = subst (λ y. OwnHold (judged k) earlier row stage t.cell y) x.1 own in
          let same = same_serial w.serial x.0 (sym taken ∙ v.taken) in
          subst (λ y. ComesFirst (Port w.serial) y) (sym x.1) (inr (refl, inr (refl, omega (arith, same)))),
    )

  -- One after the other

  none_after : From 11 None
  none_after = λ h le own. let lt = own_kind (judged k) earlier row stage t.cell h own in omega (arith, le, lt)

  from_both : (p q : Option Hold) → Of 9 p → Of 10 q → From 9 (or_else p q)
  from_both p q a b =
      joined (judged k) earlier row stage t.cell 9 p q a
      (λ n. subst (λ z. From 10 z) (or_right q) (joined (judged k) earlier row stage t.cell 10 q None b (λ m. none_after)))

  pub from_ports : From 9 (if suc stage == (shape_of k).stages then t.beside.port else None)
  from_ports = subst (λ b. From 9 (if suc stage == (shape_of k).stages then b.port else None)) (sym (told.beside.meets stage t older rest)) (by_case (suc stage == (shape_of k).stages) refl) where
    by_case : (b : Bool) → (suc stage == (shape_of k).stages) ≡ b → From 9 (if b then (if b then retiring_hold o t.asks else None) else None)
    by_case true e =
        let at = test_eq (suc stage) (shape_of k).stages e in
        from_both (unit_hold o t.asks.unit) (port_hold (port_serial (paying o)) t.asks.destination) (unit_first at t.asks.unit refl) (port_first at (paying o) refl)
    by_case false e =
        let off = test_ne (suc stage) (shape_of k).stages e in
        from_both None None (no_unit (λ u w. off w.last)) (no_port (λ j w. off w.last))
