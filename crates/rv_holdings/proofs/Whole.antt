-- The hold that is expected is the first true one, and a row shows it exactly where it holds rightly.
use Rattle.std.proofs.Common.{◌≡◌, ℕ, List, get_or, Option, Some, None, true, refl, sym, ap, ◌∙◌, subst, arith, inl, inr}
use Rattle.std.specs.Prelude.{◌==◌, is_some}
use Rattle.std.specs.Option.{option_or}
use Rattle.ix_plan.specs.declared.design.Target.TheVariants as target
use Rattle.rv_asks.specs.declared.asks.Asks.{Asks}
use Rattle.rv_core.specs.declared.Shape.{Shape}
use Rattle.rv_trace.specs.declared.row.Cell.{Cell}
use Rattle.rv_trace.specs.declared.row.Hold.{Hold}
use Rattle.rv_trace.specs.declared.row.Row.{Row}
use Rattle.rv_trace.specs.Trace.{newest}
use Rattle.rv_trace.specs.RowParts.{names_of}
use Rattle.rv_lawful.specs.Settings.{Setting, stages_of, Stands}
use Rattle.rv_rows.specs.Facts.{IsPlain, AreGoingOn, MoveAbove, MovesAbove, RowFacts}
use Rattle.rv_rows.specs.Kinds.{is_of_cell, GoesOnAs, MovesRightly, OwnMarked, TrueMarked, ShowsMarked, HoldsRightly}
use Rattle.rv_rows.specs.declared.known.Known.{Known}
use Rattle.rv_rows.specs.declared.known.Owed.{Owed}
use Rattle.rv_rows.specs.Known.{IsKnown, IsHeld, AreOwed, IsOwing}
use Rattle.rv_holdings.specs.Expected.{NamesRegisters, Older, instructions_above, operand_hold, board_hold, custom_hold, late_hold, drain_hold, memory_hold, store_hold, tail_hold, unit_hold, port_hold, own_hold, own_at, does_stop, expected, AreRight}
use Rattle.rv_holdings.proofs.Above.{get_of, of_get, get_plain, both, and_both}
use Rattle.rv_holdings.proofs.Past.{past}
use Rattle.rv_holdings.proofs.Ordering.{FirstIn, joined}
use Rattle.rv_holdings.proofs.Judged.{IsJudged, few}
use Rattle.rv_holdings.proofs.Showing.{kind_low, shows_first, first_shown}
use Rattle.rv_holdings.proofs.Reading.{operand_where, board_where}
use Rattle.rv_holdings.proofs.Executing.{custom_where, late_where, trap_where, drain_where}
use Rattle.rv_holdings.proofs.Ending.{memory_where, store_where, tail_where, unit_where, port_where}
use Rattle.rv_holdings.proofs.Tests.{same_number, number_same, differ, not_true}

module _ (k : Setting) (earlier : List Row) (row : Row) (known : Known) (owed : List Owed) (is : IsJudged k earlier row known owed) (stage : ℕ) (c : Cell) (stands : Stands k row stage c) where
  abbrev older : Older
  older = instructions_above k.shape row known stage

  abbrev a : Asks
  a = k.asks c.word

  abbrev Own : Hold → Type 0
  Own h = OwnMarked k earlier row stage c h

  -- its own

  to_two : FirstIn Own 0 2 (option_or (operand_hold k.shape row stage a older) (board_hold k.shape row owed stage a older))
  to_two = joined Own 0 1 2 (operand_hold k.shape row stage a older) (board_hold k.shape row owed stage a older) (omega arith) (omega arith) (operand_where k earlier row known owed is stage c stands) (board_where k earlier row known owed is stage c stands)

  to_three : FirstIn Own 0 3 (option_or (option_or (operand_hold k.shape row stage a older) (board_hold k.shape row owed stage a older)) (custom_hold k.shape row stage a older))
  to_three = joined Own 0 2 3 _ (custom_hold k.shape row stage a older) (omega arith) (omega arith) to_two (custom_where k earlier row known owed is stage c stands)

  or_none : (o : Option Hold) → option_or o None ≡ o
  or_none None = refl
  or_none (Some h) = refl

  lates : FirstIn Own 3 5 (late_hold k.shape row stage older)
  lates =
      subst (λ o. FirstIn Own 3 5 o) (or_none (late_hold k.shape row stage older))
      (joined Own 3 4 5 (late_hold k.shape row stage older) None (omega arith) (omega arith) (late_where k earlier row known owed is stage c stands) (trap_where k earlier row known owed is stage c stands))

  own_is : FirstIn Own 0 11 (own_hold k.shape row known owed stage a older)
  own_is =
      joined Own 0 10 11 _ (port_hold k.shape row known stage a) (omega arith) (omega arith)
      (joined Own 0 9 10 _ (unit_hold k.shape known stage a) (omega arith) (omega arith)
      (joined Own 0 8 9 _ (tail_hold k.shape known stage a) (omega arith) (omega arith)
      (joined Own 0 7 8 _ (store_hold k.shape row stage a older) (omega arith) (omega arith)
      (joined Own 0 6 7 _ (memory_hold k.shape known stage) (omega arith) (omega arith)
      (joined Own 0 5 6 _ (drain_hold k.shape row known owed stage older) (omega arith) (omega arith)
      (joined Own 0 3 5 _ (late_hold k.shape row stage older) (omega arith) (omega arith) to_three lates)
      (drain_where k earlier row known owed is stage c stands))
      (memory_where k earlier row known owed is stage c stands))
      (store_where k earlier row known owed is stage c stands))
      (tail_where k earlier row known owed is stage c stands))
      (unit_where k earlier row known owed is stage c stands))
      (port_where k earlier row known owed is stage c stands)

  some_own : (o : Option Hold) → FirstIn Own 0 11 o → is_some o ≡ true → (h : Hold) × Own h
  some_own None f e = cc
  some_own (Some h) f e = (h, f.2)

  own_some : (o : Option Hold) → FirstIn Own 0 11 o → (h : Hold) → Own h → is_some o ≡ true
  own_some None f h own = absurd (f h (omega arith) (kind_low k earlier row stage c h own) own)
  own_some (Some g) f h own = refl

  pub is_own : is_some (own_hold k.shape row known owed stage a older) ≡ true → (h : Hold) × Own h
  is_own = some_own (own_hold k.shape row known owed stage a older) own_is

  pub own_then : (h : Hold) → Own h → is_some (own_hold k.shape row known owed stage a older) ≡ true
  own_then = own_some (own_hold k.shape row known owed stage a older) own_is

  pub shows : c.hold ≡ expected k.shape row known owed stage a → ShowsMarked k earlier row stage c
  shows e = shows_first k earlier row is.plain is.names stage c stands (own_hold k.shape row known owed stage a older) own_is e

  pub shown : ShowsMarked k earlier row stage c → c.hold ≡ expected k.shape row known owed stage a
  shown s = first_shown k earlier row is.plain is.names stage c stands (own_hold k.shape row known owed stage a older) own_is s

some_asks : (a b : Asks) (o : Option Asks) → o ≡ Some a → o ≡ Some b → a ≡ b
some_asks a b o e f = cc

module _ (k : Setting) (earlier : List Row) (row : Row) (known : Known) (owed : List Owed) (is : IsJudged k earlier row known owed) where
  pub rightly : AreRight k.shape row known owed → HoldsRightly k earlier row
  rightly r stage c s u f =
      let g = get_of k.shape.stages stage row.cells c s in
      shows k earlier row known owed is stage c s
      (r stage (few k earlier row known owed is stage c s) g.0 c g.1 u
      (not_true (does_stop k.shape row stage) (λ e. let p = both (stage == k.shape.ex) (is_of_cell row.stop) e in f (same_number stage k.shape.ex p.0, p.1)))
      (k.asks c.word) (get_plain stage known.asks (k.asks c.word) (is.knowing.asks stage c s)))

  pub are_right : HoldsRightly k earlier row → AreRight k.shape row known owed
  are_right h stage lt low c g u f b e =
      let s : Stands k row stage c = of_get k.shape.stages stage row.cells c low g in
      let same = some_asks (k.asks c.word) b (get_or known.asks stage None) (get_plain stage known.asks (k.asks c.word) (is.knowing.asks stage c s)) e in
      subst (λ y. c.hold ≡ expected k.shape row known owed stage y) same
      (shown k earlier row known owed is stage c s (h stage c s u (λ m. differ (does_stop k.shape row stage) (and_both (stage == k.shape.ex) (is_of_cell row.stop) (number_same stage k.shape.ex m.0) m.1) f)))

-- behind rows that go on a row moves as it stands
moves_above : (k : Setting) (earlier : List Row) (row : Row) → AreGoingOn k earlier → MovesRightly k earlier row → MovesAbove k earlier row
moves_above k earlier row going m = subst (λ (like : Row). MoveAbove like (stages_of k like) (names_of (stages_of k row))) (goes_on m.above.0 m.above.1) m.above.2 where
  goes_on : (like : Row) → GoesOnAs k (newest earlier) like → like ≡ newest earlier
  goes_on like (inl x) = x.1
  goes_on like (inr y) = let e = y.0 in let bad : is_of_cell None ≡ true = sym (ap (λ o. is_of_cell o) going.going) ∙ e in cc

pub judged : (k : Setting) (earlier : List Row) (row : Row) (known : Known) (owed : List Owed) → RowFacts → NamesRegisters k → IsPlain k → AreGoingOn k earlier → MovesRightly k earlier row → IsKnown k earlier row known → AreOwed k earlier owed → IsOwing k earlier
    → IsJudged k earlier row known owed
judged k earlier row known owed facts names plain going moves knows owes owing = record {
  plain = plain;
  names = names;
  above = facts.above k earlier row plain going (moves_above k earlier row going moves);
  past = past k earlier plain facts going.lawful;
  knowing = knows;
  are_owed = owes;
  owing = owing;
}

pub rightly_then : (k : Setting) (earlier : List Row) (row : Row) (known : Known) (owed : List Owed) (shape : Shape) → k.shape ≡ shape → IsJudged k earlier row known owed → AreRight shape row known owed → HoldsRightly k earlier row
rightly_then k earlier row known owed shape e is r = rightly k earlier row known owed is (subst (λ x. AreRight x row known owed) (sym e) r)

pub then_right : (k : Setting) (earlier : List Row) (row : Row) (known : Known) (owed : List Owed) (shape : Shape) → k.shape ≡ shape → IsJudged k earlier row known owed → HoldsRightly k earlier row → AreRight shape row known owed
then_right k earlier row known owed shape e is h = subst (λ x. AreRight x row known owed) e (are_right k earlier row known owed is h)

-- a hold of its own is true of the cell of EX exactly where one is found
held_here : (k : Setting) (earlier : List Row) (row : Row) (known : Known) (owed : List Owed) → IsJudged k earlier row known owed → IsHeld k earlier row (is_some (own_at k.shape row known owed k.shape.ex (get_or known.asks k.shape.ex None)))
held_here k earlier row known owed is = record {
  shown = λ c s e. is_own k earlier row known owed is k.shape.ex c s (sym (at c s) ∙ e);
  known = λ c h s own. at c s ∙ own_then k earlier row known owed is k.shape.ex c s h own;
} where
  at : (c : Cell) → Stands k row k.shape.ex c
      → is_some (own_at k.shape row known owed k.shape.ex (get_or known.asks k.shape.ex None)) ≡ is_some (own_hold k.shape row known owed k.shape.ex (k.asks c.word) (instructions_above k.shape row known k.shape.ex))
  at c s = ap (λ o. is_some (own_at k.shape row known owed k.shape.ex o)) (get_plain k.shape.ex known.asks (k.asks c.word) (is.knowing.asks k.shape.ex c s))

pub held : (k : Setting) (earlier : List Row) (row : Row) (known : Known) (owed : List Owed) (shape : Shape) → k.shape ≡ shape → IsJudged k earlier row known owed
    → IsHeld k earlier row (is_some (own_at shape row known owed shape.ex (get_or known.asks shape.ex None)))
held k earlier row known owed shape e is = subst (λ s. IsHeld k earlier row (is_some (own_at s row known owed s.ex (get_or known.asks s.ex None)))) e (held_here k earlier row known owed is)
