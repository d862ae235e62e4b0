-- What stands in units after a row, of what stood there before it and what retires into one; and which unit writes in the row.
use Rattle.std.proofs.Common.{◌≡◌, ℕ, suc, ◌+◌, ◌-◌, ◌<◌, List, [], ◌∷◌, drop, length, Option, Some, None, Bool, true, false, refl, sym, ap, ◌∙◌, subst, arith, inl, inr}
use Rattle.std.specs.Prelude.{if◌then◌else◌, ◌==◌, is_some}
use Rattle.std.proofs.lemmas.Bool.Decides.{nat_tests}
use Rattle.rv_trace.specs.declared.row.Hold.{Hold}
use Rattle.rv_trace.specs.declared.row.Hold.TheVariants.{UnitFull}
use Rattle.rv_trace.specs.declared.row.Row.{Row}
use Rattle.ix_plan.specs.Units.{unit_written}
use Rattle.rv_unit.specs.declared.entry.Entry.{Entry}
use Rattle.rv_unit.specs.Entries.{is_frozen, does_write, written_among, unit_and_serial}
use Rattle.rv_unit.specs.Numbering.{lasts_of}
use Rattle.rv_unit.specs.Slots.{units_of}
use Rattle.rv_unit.specs.Timed.{IsTimed, CanEnter}
use Rattle.rv_unit.proofs.Showing.{written_law, next_law}
use Rattle.rv_unit.proofs.Moving.{timed_law}
use Rattle.rv_asks.specs.declared.asks.Asks.{Asks}
use Rattle.rv_holds.specs.declared.token.Token.{Token}
use Rattle.rv_holds.specs.Holds.{memory_hold, tail_hold, ending_hold, shown as shown_hold}
use Rattle.rv_engine.specs.declared.owing.Owed.{Owed}
use Rattle.rv_engine.specs.Owing.{paying, paying_among, unit_hold, port_serial, port_hold, retiring_hold, beside_of, unit_entered}
use Rattle.rv_engine.specs.Settings.{Setting, Machine, shape_of, outstanding_in, interrupted_by}
use Rattle.rv_engine.specs.Rows.{seen_by, left_by, going, into_unit, entering_of, owed_tried, machine_after, IsRowOf}
use Rattle.rv_lawful.specs.Outstanding.{Decoupled, serial_written, in_unit, entering, units_after, outstanding}
use Rattle.rv_lawful.specs.LawfulTrace.{serial_in}
use Rattle.rv_lawful.specs.Sight.{asked}
use Rattle.rv_machine.specs.Owing.{judged, Owing}
use Rattle.rv_machine.specs.Placed.{IsReady, Inv}
use Rattle.rv_machine.specs.Told.{Decided}
use Rattle.rv_machine.proofs.Deciding.{or_else_none, or_else_none_b}
use Rattle.rv_machine.proofs.Standing.{decided_drop}
use Rattle.rv_machine.proofs.Moving.{last_slot}
use Rattle.rv_machine.proofs.Tails.{last_hold}
use Rattle.rv_machine.proofs.Meeting.{seen_meets, meets_at}
use Rattle.rv_machine.proofs.Unwritten.{serial_paid}
use Rattle.rv_machine.proofs.Recorded.{shown_word}
use Rattle.rv_machine.proofs.Before as B
use Rattle.rv_machine.proofs.Retiring as R

-- the serial that is written is that of the entry which writes
paid_serial : (k : Setting) (rows : List Row) (lasts : List ℕ) (all : List Entry) (outs : List Decoupled) (entries : List Entry) (owed : List Owed) →
    Owing k rows outs entries owed → serial_paid (paying_among lasts all entries owed) ≡ serial_in (unit_and_serial (written_among lasts all entries))
paid_serial k rows lasts all [] [] [] h = refl
paid_serial k rows lasts all [] [] (w ∷ owed) h = absurd h
paid_serial k rows lasts all [] (e ∷ entries) owed h = absurd h
paid_serial k rows lasts all (o ∷ outs) [] owed h = absurd h
paid_serial k rows lasts all (o ∷ outs) (e ∷ entries) [] h = absurd h
paid_serial k rows lasts all (o ∷ outs) (e ∷ entries) (w ∷ owed) h = by_case (does_write lasts all e) (paid_serial k rows lasts all outs entries owed h.2) where
  by_case : (b : Bool) → serial_paid (paying_among lasts all entries owed) ≡ serial_in (unit_and_serial (written_among lasts all entries)) →
      serial_paid (if b then Some w else paying_among lasts all entries owed) ≡ serial_in (unit_and_serial (if b then Some e else written_among lasts all entries))
  by_case true rest = ap (λ (n : ℕ). Some n) (h.0.owed ∙ sym h.0.entry)
  by_case false rest = rest

-- the unit and the serial of what enters
same_unit : (s : ℕ) (u : Option ℕ) (w : Owed) → w.serial ≡ s → in_unit s u ≡ unit_entered (into_unit u (Some w))
same_unit s None w e = refl
same_unit s (Some u) w e = ap (λ (n : ℕ). Some (u, n)) (sym e)

-- without a hold the unit is not frozen
unit_open : (b : Bool) (u : ℕ) → (if b then Some (UnitFull u) else None) ≡ None → b ≡ false
unit_open true u e = cc
unit_open false u e = refl

module _ (k : Setting) (ready : IsReady k) (earlier : List Row) (m : Machine) (row : Row) (inv : Inv k earlier m) (is : IsRowOf k m row) where
  -- the token of the last stage that shows no hold
  shows_none : (n : ℕ) (t : Token) → suc n ≡ (shape_of k).stages → drop n (seen_by k m) ≡ Some t ∷ [] → t.cell.hold ≡ None → unit_hold (outstanding_in k m) t.asks.unit ≡ None
  shows_none n t last d q =
      let o = outstanding_in k m in
      let a = ready.rd_ex in
      let b = ready.ex_last in
      let no_rd = higher n (shape_of k).rd (omega (arith, a, b, last)) in
      let no_ex = higher n (shape_of k).ex (omega (arith, b, last)) in
      let is_last : (suc n == (shape_of k).stages) ≡ true = same (suc n) (shape_of k).stages last in
      let z : 0 + n ≡ n = omega arith in
      let shows : t.cell.hold ≡ shown_hold (shape_of k) n t [] = (subst (λ l. Decided k n l) d (subst (λ b. Decided k b (drop n (seen_by k m))) z (decided_drop k 0 n (seen_by k m) (B.seen_decided k ready earlier m inv)))).0 in
      let free = sym (last_hold (shape_of k) n t no_rd no_ex is_last) ∙ sym shows ∙ q in
      let ends = or_else_none_b (if n == (shape_of k).mem then memory_hold t else None) (ending_hold t) free in
      let port : t.beside.port ≡ None = or_else_none_b (tail_hold t) t.beside.port ends in
      let meets : t.beside ≡ beside_of (shape_of k) (interrupted_by k m) o n t.asks = meets_at (shape_of k) (interrupted_by k m) o n (seen_by k m) [] t (seen_meets k m (B.struck_inside k ready earlier m inv)) d in
      let retiring : retiring_hold o t.asks ≡ None = sym (ap (λ (z : Bool). if z then retiring_hold o t.asks else None) is_last) ∙ sym (ap (λ b. b.port) meets) ∙ port in
      or_else_none (unit_hold o t.asks.unit) (port_hold (port_serial (paying o)) t.asks.destination) retiring where
        higher : (a b : ℕ) → b < a → (a == b) ≡ false
        higher a b lt = grind (arith, nat_tests)

        same : (a b : ℕ) → a ≡ b → (a == b) ≡ true
        same a b e = grind (arith, nat_tests)

  -- so what goes out meets an open unit
  left_open : (t : Token) → left_by k m ≡ Some t → unit_hold (outstanding_in k m) t.asks.unit ≡ None
  left_open t e =
      let a = ready.ex_last in
      let long = B.seen_length k ready earlier m inv in
      let len : suc ((shape_of k).stages - 1) ≡ length (seen_by k m) = omega (arith, long, a) in
      let l = last_slot ((shape_of k).stages - 1) (seen_by k m) len in
      by_slot l.slot l.rest (omega (arith, a)) (sym (l.leaving_is None) ∙ e) where
        by_slot : (s : Option Token) → drop ((shape_of k).stages - 1) (seen_by k m) ≡ s ∷ [] → suc ((shape_of k).stages - 1) ≡ (shape_of k).stages → going s ≡ Some t → unit_hold (outstanding_in k m) t.asks.unit ≡ None
        by_slot None d last g = cc
        by_slot (Some u) d last g = by_hold u.cell.hold refl g where
          by_hold : (h : Option Hold) → u.cell.hold ≡ h → (if is_some h then None else Some u) ≡ Some t → unit_hold (outstanding_in k m) t.asks.unit ≡ None
          by_hold (Some h) q x = cc
          by_hold None q x = let same : u ≡ t = cc in subst (λ (v : Token). unit_hold (outstanding_in k m) v.asks.unit ≡ None) same (shows_none ((shape_of k).stages - 1) u last d q)

  into_open : (u : Option ℕ) (w : Option Owed) → ((n : ℕ) → u ≡ Some n → n < length (lasts_of k.design.plans)) → unit_hold (outstanding_in k m) u ≡ None → CanEnter (lasts_of k.design.plans) m.entries (unit_entered (into_unit u w))
  into_open None w below h = tt
  into_open (Some u) None below h = tt
  into_open (Some u) (Some w) below h = (below u refl, unit_open (is_frozen (lasts_of k.design.plans) m.entries u) u h)

  -- what enters can
  can_enter : CanEnter (lasts_of k.design.plans) m.entries (unit_entered (entering_of (left_by k m)))
  can_enter = by_slot (left_by k m) refl where
    by_slot : (o : Option Token) → left_by k m ≡ o → CanEnter (lasts_of k.design.plans) m.entries (unit_entered (entering_of o))
    by_slot None e = tt
    by_slot (Some t) e =
        let same = (R.left_is k ready earlier m row inv is t e).asks in
        into_open t.asks.unit (owed_tried t.cell.serial t.asks t.trial)
        (λ n q. ready.in_units.numbering t.cell.word n (ap (λ (a : Asks). a.unit) (sym same) ∙ q)) (left_open t e)

  -- the row shows what enters
  entering_is : entering (judged k) row.retired ≡ unit_entered (entering_of (left_by k m))
  entering_is = elim (R.goes_out k ready earlier m row inv is) [
    | inl n ↦ ap (λ r. entering (judged k) r) n.1 ∙ ap (λ t. unit_entered (entering_of t)) (sym n.0)
    | inr y ↦
        let s = y.0.token.cell.serial in
        let word = y.0.token.cell.word in
        ap (λ r. entering (judged k) r) y.0.is_retired
        ∙ ap (λ w. in_unit s (asked k.design w).unit) (shown_word (asked k.design word) y.0.commit ∙ y.0.word)
        ∙ same_unit s (asked k.design word).unit (R.owed_at k ready earlier m row inv is s word y.0.commit) refl
        ∙ ap (λ e. unit_entered e) (sym y.0.enters)
  ]

  pub units_next : units_after (judged k) (row ∷ earlier) ≡ units_of (shape_of k).stages (lasts_of k.design.plans) (machine_after k m).entries
  unfolding units_after
  units_next =
      let law = next_law (shape_of k).stages (lasts_of k.design.plans) m.entries (unit_entered (entering_of (left_by k m))) ready.in_units.units inv.timed can_enter in
      rw (inv.units, entering_is) law

  pub timed_next : IsTimed (shape_of k).stages (lasts_of k.design.plans) (machine_after k m).entries
  timed_next = timed_law (shape_of k).stages (lasts_of k.design.plans) m.entries (unit_entered (entering_of (left_by k m))) ready.in_units.units inv.timed can_enter

  -- the row shows the unit that writes
  pub writes_unit : serial_written row.written ≡ serial_in (unit_written (units_after (judged k) earlier))
  writes_unit =
      let lasts = lasts_of k.design.plans in
      ap serial_written is.written
      ∙ paid_serial k earlier lasts m.entries (outstanding (judged k) earlier) m.entries m.owed inv.owing
      ∙ ap serial_in (sym (ap (λ l. unit_written l) inv.units ∙ written_law (shape_of k).stages lasts m.entries ready.in_units.units inv.timed))
