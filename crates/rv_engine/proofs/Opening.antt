-- What goes out of the last stage enters no frozen unit.
use Rattle.std.proofs.Common.{◌≡◌, ℕ, zero, suc, ◌+◌, ◌<◌, ◌≤◌, List, [], ◌∷◌, take, length, Option, Some, None, Bool, true, false, refl, sym, ap, ◌∙◌, subst, arith}
use Rattle.std.specs.Prelude.{IfSome, if◌then◌else◌, ◌==◌, ◌&&◌, is_some, is_none}
use Rattle.std.proofs.lemmas.Bool.Decides.{nat_tests}
use Rattle.ix_bits.specs.declared.number.Bits.{Bits}
use Rattle.ix_extension.specs.Extensions.{ExtensionTree}
use Rattle.ix_plan.specs.declared.design.Design.{Design}
use Rattle.rv_core.specs.declared.Shape.{Shape}
use Rattle.rv_trace.specs.declared.row.Hold.{Hold}
use Rattle.rv_trace.specs.declared.row.Hold.TheVariants.{UnitFull}
use Rattle.rv_unit.specs.Entries.{is_frozen}
use Rattle.rv_unit.specs.Numbering.{lasts_of}
use Rattle.rv_unit.specs.Timed.{CanEnter}
use Rattle.rv_holds.specs.declared.token.Token.{Token}
use Rattle.rv_holds.specs.Tokens.{Slots, or_else, stop_of}
use Rattle.rv_holds.specs.Holds.{waiting_hold, leaving_hold, memory_hold, store_hold, tail_hold, ending_hold, own_hold, shown, decided}
use Rattle.rv_holds.specs.declared.flushing.Turn.{Turn}
use Rattle.rv_holds.specs.Flushing.{next_of, settles, settled, nearest, mismatch, turn_of, enters, turn_with, struck, cleared}
use Rattle.rv_engine.specs.declared.owing.Owed.{Owed}
use Rattle.rv_engine.specs.Owing.{Outstanding, unit_hold, port_hold, port_serial, paying, retiring_hold, beside_of, unit_entered}
use Rattle.rv_engine.specs.Rows.{reading, tried_with, seeing, is_ripe, trying, is_loading, loading, going, leaving, owed_tried, into_unit, entering_of}
use Rattle.rv_engine.specs.Kept.{IsFittingSlot, AreFitting, IsOpen, IsLastOpen}

-- the token meets what is outstanding
abbrev IsMet : Shape → Bool → Outstanding → ℕ → Option Token → Type 0
IsMet k b o stage s = IfSome s (λ t. t.beside ≡ beside_of k b o stage t.asks)

abbrev AreMet : Shape → Bool → Outstanding → ℕ → Slots → Type 0
AreMet k b o stage [] = Unit {0}
AreMet k b o stage (s ∷ older) = IsMet k b o stage s × AreMet k b o (suc stage) older

reading_met : (k : Shape) (file : List ℕ) (wait : ℕ) (b : Bool) (o : Outstanding) (stage : ℕ) (slots : Slots) → AreMet k b o stage (reading k file wait b o stage slots)
reading_met k file wait b o stage [] = tt
reading_met k file wait b o stage (None ∷ older) = (tt, reading_met k file wait b o (suc stage) older)
reading_met k file wait b o stage (Some t ∷ older) = (refl, reading_met k file wait b o (suc stage) older)

trying_met : (x : ExtensionTree) (k : Shape) (future : List Bits) (memory : List ℕ) (b : Bool) (o : Outstanding) (stage : ℕ) (slots : Slots) → AreMet k b o stage slots → AreMet k b o stage (trying x k future memory stage slots)
trying_met x k future memory b o stage [] h = tt
trying_met x k future memory b o stage (None ∷ older) h = (tt, trying_met x k future memory b o (suc stage) older h.1)
trying_met x k future memory b o stage (Some t ∷ older) h = (by_case (is_ripe k stage t older), trying_met x k future memory b o (suc stage) older h.1) where
  by_case : (ripe : Bool) → IsMet k b o stage (if ripe then Some (tried_with x memory (seeing future t.inputs) t) else Some t)
  by_case true = h.0
  by_case false = h.0

none_after : (a b : Option Hold) → or_else a b ≡ None → (a ≡ None) × (b ≡ None)
none_after None b e = (refl, e)
none_after (Some h) b e = cc

not_frozen : (o : Outstanding) (u : Option ℕ) (p : Option Hold) → or_else (unit_hold o u) p ≡ None → unit_hold o u ≡ None
not_frozen o u p e = (none_after (unit_hold o u) p e).0

-- the token of the last stage that shows no hold
open_last : (k : Shape) (b : Bool) (o : Outstanding) (stage : ℕ) (t : Token) → suc stage ≡ k.stages → t.beside ≡ beside_of k b o stage t.asks → shown k stage t [] ≡ None → unit_hold o t.asks.unit ≡ None
open_last k b o stage t last met e =
    let a = k.lawful.memory_late in
    let b = k.lawful.memory_inside in
    let not_ex : (stage == k.ex) ≡ false = apart stage k.ex (omega (arith, last, a, b)) in
    let is_last : (suc stage == k.stages) ≡ true = same (suc stage) k.stages last in
    let own : own_hold k stage t [] ≡ None =
    (none_after (own_hold k stage t []) None (sym (ap (λ (z : Bool). if z && is_some (stop_of t) && is_none (own_hold k stage t []) then None else or_else (own_hold k stage t []) None) not_ex) ∙ e)).0 in
    let drains : Option Hold = if stage == k.ex then leaving_hold t [] else None in
    let accesses : Option Hold = if stage == k.mem then or_else (memory_hold t) (store_hold [] t.asks) else None in
    let ends : Option Hold = if suc stage == k.stages then ending_hold t else None in
    let one = none_after (waiting_hold k stage t []) (or_else drains (or_else accesses ends)) own in
    let two = none_after drains (or_else accesses ends) one.1 in
    let three = none_after accesses ends two.1 in
    let four : ending_hold t ≡ None = sym (ap (λ (z : Bool). if z then ending_hold t else None) is_last) ∙ three.1 in
    let port : t.beside.port ≡ None = (none_after (tail_hold t) t.beside.port four).1 in
    let retiring : retiring_hold o t.asks ≡ None =
    sym (ap (λ (z : Bool). if z then retiring_hold o t.asks else None) is_last) ∙ sym (ap (λ b. b.port) met) ∙ port in
    not_frozen o t.asks.unit (port_hold (port_serial (paying o)) t.asks.destination) retiring where
      apart : (m n : ℕ) → n < m → (m == n) ≡ false
      apart m n lt = grind (arith, nat_tests)

      same : (m n : ℕ) → m ≡ n → (m == n) ≡ true
      same m n e = grind (arith, nat_tests)

decided_open : (k : Shape) (b : Bool) (o : Outstanding) (stage : ℕ) (slots : Slots) → stage + length slots ≡ k.stages → AreMet k b o stage slots → IsLastOpen o (decided k stage slots)
decided_open k b o stage [] e h = tt
decided_open k b o stage (None ∷ []) e h = tt
decided_open k b o stage (Some t ∷ []) e h = λ shows. open_last k b o stage t (omega (arith, e)) h.0 shows
decided_open k b o stage (s ∷ u ∷ older) e h = decided_open k b o (suc stage) (u ∷ older) (omega (arith, e)) h.1

loading_open : (x : ExtensionTree) (k : Shape) (memory : List ℕ) (o : Outstanding) (stage : ℕ) (slots : Slots) → IsLastOpen o slots → IsLastOpen o (loading x k memory stage slots)
loading_open x k memory o stage [] h = tt
loading_open x k memory o stage (None ∷ []) h = tt
loading_open x k memory o stage (Some t ∷ []) h = by_case (is_loading k stage t) where
  by_case : (b : Bool) → IsOpen o (if b then Some (tried_with x memory t.inputs t) else Some t)
  by_case true = h
  by_case false = h
loading_open x k memory o stage (s ∷ u ∷ older) h = loading_open x k memory o (suc stage) (u ∷ older) h

pub last_open : (x : ExtensionTree) (k : Shape) (file : List ℕ) (wait : ℕ) (b : Bool) (o : Outstanding) (future : List Bits) (memory : List ℕ) (slots : Slots) → length (trying x k future memory 0 (reading k file wait b o 0 slots)) ≡ k.stages
    → IsLastOpen o (loading x k memory 0 (decided k 0 (trying x k future memory 0 (reading k file wait b o 0 slots))))
last_open x k file wait b o future memory slots e =
    let met = trying_met x k future memory b o 0 (reading k file wait b o 0 slots) (reading_met k file wait b o 0 slots) in
    let z : 0 + length (trying x k future memory 0 (reading k file wait b o 0 slots)) ≡ k.stages = omega (arith, e) in
    loading_open x k memory o 0 (decided k 0 (trying x k future memory 0 (reading k file wait b o 0 slots)))
    (decided_open k b o 0 (trying x k future memory 0 (reading k file wait b o 0 slots)) z met)

pub cleared_open : (o : Outstanding) (n : ℕ) (slots : Slots) → n ≤ length slots → IsLastOpen o slots → IsLastOpen o (cleared n slots)
cleared_open o zero slots le h = h
cleared_open o (suc n) [] le h = absurd (omega (arith, le))
cleared_open o (suc zero) (s ∷ []) le h = tt
cleared_open o (suc (suc n)) (s ∷ []) le h = absurd (omega (arith, le))
cleared_open o (suc zero) (s ∷ u ∷ older) le h = h
cleared_open o (suc (suc n)) (s ∷ u ∷ older) le h = cleared_open o (suc n) (u ∷ older) (omega (arith, le)) h

abbrev unit_hold_of : Bool → ℕ → Option Hold
unit_hold_of b u = if b then Some (UnitFull u) else None

-- what goes out of the last stage enters no frozen unit
into_open : (o : Outstanding) (unit : Option ℕ) (owed : Option Owed) → IfSome unit (λ u. u < length o.lasts) → unit_hold o unit ≡ None → CanEnter o.lasts o.entries (unit_entered (into_unit unit owed))
into_open o None owed below h = tt
into_open o (Some u) None below h = tt
into_open o (Some u) (Some w) below h = (below, by_case (is_frozen o.lasts o.entries u) refl h) where
  by_case : (b : Bool) → is_frozen o.lasts o.entries u ≡ b → unit_hold_of b u ≡ None → is_frozen o.lasts o.entries u ≡ false
  by_case true q e = cc
  by_case false q e = q

token_open : (d : Design) (o : Outstanding) → o.lasts ≡ lasts_of d.plans → (s : Option Token) → IsFittingSlot d s → IsOpen o s → CanEnter o.lasts o.entries (unit_entered (entering_of (going s)))
token_open d o same None f h = tt
token_open d o same (Some t) f h = by_hold t.cell.hold refl where
  by_hold : (p : Option Hold) → t.cell.hold ≡ p → CanEnter o.lasts o.entries (unit_entered (entering_of (if is_some p then None else Some t)))
  by_hold (Some p) q = tt
  by_hold None q =
      into_open o t.asks.unit (owed_tried t.cell.serial t.asks t.trial)
      (subst (λ l. IfSome t.asks.unit (λ u. u < length l)) (sym same) f.unit) (h q)

pub leaving_open : (d : Design) (o : Outstanding) → o.lasts ≡ lasts_of d.plans → (come : Option Token) (slots : Slots) → 0 < length slots → AreFitting d slots → IsLastOpen o slots → CanEnter o.lasts o.entries (unit_entered (entering_of (leaving come slots)))
leaving_open d o same come [] lt f h = absurd (omega arith)
leaving_open d o same come (s ∷ []) lt f h = token_open d o same s f.0 h
leaving_open d o same come (s ∷ u ∷ older) lt f h = leaving_open d o same (going s) (u ∷ older) (omega arith) f.1 h

-- no more than all are flushed
settled_few : (k : Shape) (base : ℕ) (slots : Slots) (turn : Turn) → settled k base slots ≡ Some turn → turn.stage < base + length slots
settled_few k base [] turn e = cc
settled_few k base (None ∷ older) turn e = let x = settled_few k (suc base) older turn e in omega (arith, x)
settled_few k base (Some t ∷ older) turn e = by_case (settles k base t older) e (λ q. settled_few k (suc base) older turn q) where
  same_turn : (a b : Turn) → ◌≡◌ {A = Option Turn} (Some a) (Some b) → a ≡ b
  same_turn a b q = cc

  by_case : (b : Bool) → (if b then Some (record { stage = base; address = next_of t }) else settled k (suc base) older) ≡ Some turn → (settled k (suc base) older ≡ Some turn → turn.stage < suc base + length older) → turn.stage < base + suc (length older)
  by_case true q rest = let s = ap (λ (x : Turn). x.stage) (same_turn (record { stage = base; address = next_of t }) turn q) in omega (arith, s)
  by_case false q rest = let x = rest q in omega (arith, x)

pub struck_few : (k : Shape) (fetch : ℕ) (slots : Slots) → struck (turn_of k fetch slots) ≤ length slots
struck_few k fetch slots = by_settled (settled k 0 slots) refl where
  by_test : (turn : Turn) (b : Bool) → settled k 0 slots ≡ Some turn → struck (if b then None else Some turn) ≤ length slots
  by_test turn true e = omega arith
  by_test turn false e = let x = settled_few k 0 slots turn e in omega (arith, x)

  by_settled : (o : Option Turn) → settled k 0 slots ≡ o → struck (mismatch fetch slots o) ≤ length slots
  by_settled None e = omega arith
  by_settled (Some turn) e = by_test turn (turn.address == nearest fetch (take turn.stage slots)) e

pub struck_with_few : (k : Shape) (interrupted : Bool) (fetch : ℕ) (slots : Slots) → suc k.ex < length slots → struck (turn_with k interrupted fetch slots) ≤ length slots
struck_with_few k interrupted fetch slots lt = by_case (enters k interrupted slots) where
  by_case : (b : Bool) → struck (if b then Some (record { stage = suc k.ex; address = k.trap }) else turn_of k fetch slots) ≤ length slots
  by_case true = omega (arith, lt)
  by_case false = struck_few k fetch slots
