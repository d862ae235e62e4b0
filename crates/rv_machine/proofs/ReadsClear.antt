-- A token past RD reads no x register that an older one withholds.
use Rattle.std.proofs.Common.{◌≡◌, ◌∙◌, refl, ap, subst, ℕ, zero, suc, ◌+◌, ◌<◌, ◌≤◌, List, [], ◌∷◌, drop, length, replicate, Option, Some, None, Bool, true, false, inl, inr, arith}
use Rattle.std.specs.Prelude.{if◌then◌else◌, ◌==◌, ◌&&◌, not, is_some, nat_lt, IfSome, min, max}
use Rattle.std.proofs.lemmas.Bool.Decides.{nat_tests}
use Rattle.std.proofs.lemmas.Bool.{cases_lt}
use Rattle.rv_asks.specs.declared.asks.Asks.{Asks}
use Rattle.rv_trace.specs.declared.row.Row.{Row}
use Rattle.rv_trace.specs.Trace.{newest}
use Rattle.rv_holds.specs.declared.token.Token.{Token}
use Rattle.rv_holds.specs.Tokens.{Slots, or_else}
use Rattle.rv_core.specs.declared.Shape.{Shape}
use Rattle.rv_holds.specs.Holds.{withholds, withholder, operand, waits_for, operand_hold}
use Rattle.rv_holds.specs.Flushing.{struck, cleared}
use Rattle.rv_engine.specs.Settings.{Setting, Machine, shape_of}
use Rattle.rv_engine.specs.Rows.{waited, going, kept, advanced, fill_first, new_by, loaded_by, turn_by, seen_by, machine_after, IsRowOf}
use Rattle.rv_lawful.specs.Entering.{places}
use Rattle.rv_machine.specs.Placed.{at_places, IsReady, Inv}
use Rattle.rv_machine.specs.Running.{AreRows, machine_at}
use Rattle.rv_machine.specs.Told.{Decided, NoStops}
use Rattle.rv_machine.proofs.Before as B
use Rattle.rv_machine.proofs.Deciding.{or_else_none, or_else_none_b, if_none, own_none, no_waiting, waits_operand}
use Rattle.rv_machine.proofs.NextRow as N
use Rattle.rv_machine.proofs.Carried.{row_at}
use Rattle.rv_machine.proofs.Promised.{known}
use Rattle.rv_machine.proofs.Alike.{Alike, alike_withholder}

-- each token past RD waits for no operand
abbrev pub Clear : Setting → ℕ → Slots → Type 0
Clear k stage [] = Unit {0}
Clear k stage (None ∷ older) = Clear k (suc stage) older
Clear k stage (Some t ∷ older) = ((shape_of k).rd < stage → operand_hold (shape_of k) (suc stage) older t.asks ≡ None) × Clear k (suc stage) older

-- ---- older tokens that withhold no more

operand_none : (reg : ℕ) (o : Option ℕ) → operand reg o ≡ None → o ≡ None
operand_none reg None h = refl
operand_none reg (Some j) h = cc

-- what none of these withholds, the first of them in one stage, none of those does
abbrev Stays : Shape → ℕ → ℕ → Slots → Slots → Type 0
Stays k from to older later = (reg : ℕ) → withholder k reg from older ≡ None → withholder k reg to later ≡ None

waits_stays : (k : Shape) (from to : ℕ) (older later : Slots) (reg : ℕ) → Stays k from to older later → waits_for k reg from older ≡ None → waits_for k reg to later ≡ None
waits_stays k from to older later reg stays h = by_case (reg == 0) h where
  by_case : (b : Bool) → (if b then None else operand reg (withholder k reg from older)) ≡ None → (if b then None else operand reg (withholder k reg to later)) ≡ None
  by_case true q = refl
  by_case false q = ap (operand reg) (stays reg (operand_none reg (withholder k reg from older) q))

hold_stays : (k : Shape) (from to : ℕ) (older later : Slots) (a : Asks) → Stays k from to older later → operand_hold k from older a ≡ None → operand_hold k to later a ≡ None
hold_stays k from to older later a stays h =
    let low = waits_stays k from to older later (min a.first a.second) stays (or_else_none (waits_for k (min a.first a.second) from older) _ h) in
    let high = waits_stays k from to older later (max a.first a.second) stays (or_else_none_b (waits_for k (min a.first a.second) from older) _ h) in
    ap (λ o. or_else o (waits_for k (max a.first a.second) to later)) low ∙ high

alike_stays : (k : Shape) (stage : ℕ) (a b : Slots) → Alike a b → Stays k stage stage a b
alike_stays k stage a b h reg none = alike_withholder k reg stage a b h ∙ none

-- what is there for a younger token in one stage is there in the next one
later_there : (d f : Bool) (time stage : ℕ) → (d && not (f && nat_lt time stage)) ≡ false → (d && not (f && nat_lt time (suc stage))) ≡ false
later_there false f time stage h = refl
later_there true false time stage h = cc
later_there true true time stage h = by_case (nat_lt time stage) refl h where
  by_case : (b : Bool) → nat_lt time stage ≡ b → (true && not (true && b)) ≡ false → (true && not (true && nat_lt time (suc stage))) ≡ false
  by_case true e q = (let less : nat_lt time (suc stage) ≡ true = grind (arith, nat_tests) in ap (λ b. not b) less)
  by_case false e q = cc

-- no token is there that withholds the register
abbrev FreeSlot : Shape → ℕ → ℕ → Option Token → Type 0
FreeSlot k reg stage s = IfSome s (λ t. withholds k reg stage t ≡ false)

free_parts : (k : Shape) (reg stage : ℕ) (s : Option Token) (older : Slots) → withholder k reg stage (s ∷ older) ≡ None → FreeSlot k reg stage s × (withholder k reg (suc stage) older ≡ None)
free_parts k reg stage None older h = (tt, h)
free_parts k reg stage (Some t) older h = (if_none (withholds k reg stage t) t.cell.serial (or_else_none_b (withholder k reg (suc stage) older) _ h), or_else_none (withholder k reg (suc stage) older) _ h)

free_join : (k : Shape) (reg stage : ℕ) (s : Option Token) (older : Slots) → FreeSlot k reg stage s → withholder k reg (suc stage) older ≡ None → withholder k reg stage (s ∷ older) ≡ None
free_join k reg stage None older q h = h
free_join k reg stage (Some t) older q h =
    ap (λ o. or_else o (if withholds k reg stage t then Some t.cell.serial else None)) h ∙ ap (λ (b : Bool). if b then Some t.cell.serial else None) q

free_going : (k : Shape) (reg stage : ℕ) (s : Option Token) → FreeSlot k reg stage s → FreeSlot k reg (suc stage) (going s)
free_going k reg stage None h = tt
free_going k reg stage (Some t) h = by_case (is_some t.cell.hold) where
  by_case : (b : Bool) → FreeSlot k reg (suc stage) (if b then None else Some t)
  by_case true = tt
  by_case false = later_there (t.asks.destination == reg) k.forward t.asks.x_time stage h

free_kept : (k : Shape) (reg stage : ℕ) (come s : Option Token) → FreeSlot k reg stage come → FreeSlot k reg stage s → FreeSlot k reg stage (kept come s)
free_kept k reg stage come None c h = c
free_kept k reg stage come (Some t) c h = by_case (is_some t.cell.hold) where
  by_case : (b : Bool) → FreeSlot k reg stage (if b then Some (waited t) else come)
  by_case true = h
  by_case false = c

-- after the moves
advanced_stays : (k : Shape) (reg stage : ℕ) (come : Option Token) (seen : Slots) → FreeSlot k reg stage come → withholder k reg stage seen ≡ None → withholder k reg stage (advanced come seen) ≡ None
advanced_stays k reg stage come [] c h = refl
advanced_stays k reg stage come (s ∷ older) c h =
    let x = free_parts k reg stage s older h in
    free_join k reg stage (kept come s) (advanced (going s) older) (free_kept k reg stage come s c x.0) (advanced_stays k reg (suc stage) (going s) older (free_going k reg stage s x.0) x.1)

-- ---- in a row

pub alike_clear : (k : Setting) (stage : ℕ) (a b : Slots) → Alike a b → Clear k stage a → Clear k stage b
alike_clear k stage [] [] l h = tt
alike_clear k stage [] (u ∷ b) l h = absurd l
alike_clear k stage (s ∷ a) [] l h = absurd l
alike_clear k stage (None ∷ a) (None ∷ b) l h = alike_clear k (suc stage) a b l.1 h
alike_clear k stage (None ∷ a) (Some u ∷ b) l h = absurd l.0
alike_clear k stage (Some t ∷ a) (None ∷ b) l h = absurd l.0
alike_clear k stage (Some t ∷ a) (Some u ∷ b) l h = (
  λ lt. ap (λ (x : Asks). operand_hold (shape_of k) (suc stage) b x) l.0.asks ∙ hold_stays (shape_of k) (suc stage) (suc stage) a b t.asks (alike_stays (shape_of k) (suc stage) a b l.1) (h.0 lt),
  alike_clear k (suc stage) a b l.1 h.1,
)

filled_clear : (k : Setting) (new : Option Token) (slots : Slots) → Clear k 0 slots → Clear k 0 (fill_first new slots)
filled_clear k new [] h = tt
filled_clear k new (Some t ∷ older) h = h
filled_clear k None (None ∷ older) h = h
filled_clear k (Some t) (None ∷ older) h = (λ lt. absurd (omega (arith, lt)), h)

cleared_clear : (k : Setting) (stage n : ℕ) (slots : Slots) → n ≤ length slots → Clear k stage slots → Clear k stage (cleared n slots)
cleared_clear k stage zero slots le h = h
cleared_clear k stage (suc n) [] le h = absurd (omega (arith, le))
cleared_clear k stage (suc n) (None ∷ older) le h = cleared_clear k (suc stage) n older (omega (arith, le)) h
cleared_clear k stage (suc n) (Some t ∷ older) le h = cleared_clear k (suc stage) n older (omega (arith, le)) h.1

-- ---- after the moves

module _ (k : Setting) where
  abbrev Comes : ℕ → Option Token → Slots → Type 0
  Comes stage come seen = IfSome come (λ c. (shape_of k).rd < stage → operand_hold (shape_of k) stage seen c.asks ≡ None)

  goes_clear : (stage : ℕ) (t : Token) (older : Slots) → Decided k stage (Some t ∷ older) → NoStops k stage (Some t ∷ older) → Clear k stage (Some t ∷ older) → Comes (suc stage) (going (Some t)) older
  goes_clear stage t older d n h = by_hold (is_some t.cell.hold) refl where
    by_hold : (b : Bool) → is_some t.cell.hold ≡ b → Comes (suc stage) (if b then None else Some t) older
    by_hold true e = tt
    by_hold false e = λ lt. elim (cases_lt (shape_of k).rd stage) [
      | inl past ↦ h.0 past
      | inr more ↦ waits_operand (shape_of k) stage t older (no_waiting (shape_of k) stage t older (own_none (shape_of k) stage t older t.cell.hold d.0 e n.0)) (omega (arith, lt, more))
    ]

  behind_stays : (stage : ℕ) (s : Option Token) (older : Slots) → Stays (shape_of k) stage (suc stage) (s ∷ older) (advanced (going s) older)
  behind_stays stage s older reg q =
      let x = free_parts (shape_of k) reg stage s older q in
      advanced_stays (shape_of k) reg (suc stage) (going s) older (free_going (shape_of k) reg stage s x.0) x.1

  held_stays : (stage : ℕ) (older : Slots) → Stays (shape_of k) stage stage older (advanced None older)
  held_stays stage older reg q = advanced_stays (shape_of k) reg stage None older tt q

  next_clear : (stage : ℕ) (come : Option Token) (seen : Slots) → Decided k stage seen → NoStops k stage seen → Clear k stage seen → Comes stage come seen → Clear k stage (advanced come seen)
  next_clear stage come [] d n h c = tt
  next_clear stage come (None ∷ older) d n h c = put come c (next_clear (suc stage) None older d n h tt) where
    put : (come : Option Token) → Comes stage come (None ∷ older) → Clear k (suc stage) (advanced None older) → Clear k stage (come ∷ advanced None older)
    put None c tail = tail
    put (Some t) c tail = (λ lt. hold_stays (shape_of k) stage (suc stage) (None ∷ older) (advanced None older) t.asks (behind_stays stage None older) (c lt), tail)
  next_clear stage come (Some u ∷ older) d n h c = put (next_clear (suc stage) (going (Some u)) older d.1 n.1 h.1 (goes_clear stage u older d n h)) where
    come_put : (come : Option Token) → Comes stage come (Some u ∷ older) → Clear k (suc stage) (advanced (going (Some u)) older) → Clear k stage (come ∷ advanced (going (Some u)) older)
    come_put None c tail = tail
    come_put (Some t) c tail = (λ lt. hold_stays (shape_of k) stage (suc stage) (Some u ∷ older) (advanced (going (Some u)) older) t.asks (behind_stays stage (Some u) older) (c lt), tail)

    put : Clear k (suc stage) (advanced (going (Some u)) older) → Clear k stage (kept come (Some u) ∷ advanced (going (Some u)) older)
    put tail = by_hold (is_some u.cell.hold) refl tail where
      by_hold : (b : Bool) → is_some u.cell.hold ≡ b → Clear k (suc stage) (advanced (going (Some u)) older) → Clear k stage ((if b then Some (waited u) else come) ∷ advanced (going (Some u)) older)
      by_hold true e tail =
          let none : advanced (going (Some u)) older ≡ advanced None older = ap (λ (b : Bool). advanced (if b then None else Some u) older) e in
          (λ lt. hold_stays (shape_of k) (suc stage) (suc stage) older (advanced (going (Some u)) older) u.asks (λ reg q. ap (λ l. withholder (shape_of k) reg (suc stage) l) none ∙ held_stays (suc stage) older reg q) (h.0 lt), tail)
      by_hold false e tail = come_put come c tail

-- ---- after rows

module _ (k : Setting) (ready : IsReady k) (earlier : List Row) (m : Machine) (row : Row) (inv : Inv k earlier m) (is : IsRowOf k m row) where
  pub seen_clear : Clear k 0 m.slots → Clear k 0 (seen_by k m)
  seen_clear h =
      cleared_clear k 0 (struck (turn_by k m)) (loaded_by k m) (B.struck_inside k ready earlier m inv)
      (alike_clear k 0 (fill_first (new_by k m) m.slots) (loaded_by k m) (B.loaded_alike k ready earlier m inv) (filled_clear k (new_by k m) m.slots h))

  clear_next : NoStops k 0 (seen_by k m) → Clear k 0 m.slots → Clear k 0 (machine_after k m).slots
  clear_next none h = next_clear k 0 None (seen_by k m) (B.seen_decided k ready earlier m inv) none (seen_clear h) tt

none_clear : (k : Setting) (stage n : ℕ) → Clear k stage (replicate n None)
none_clear k stage zero = tt
none_clear k stage (suc n) = none_clear k (suc stage) n

-- it is so at whatever places the run goes to the handler
same_clear : (k : Setting) (ps qs : List ℕ) (stage : ℕ) (slots : Slots) → Clear (at_places k ps) stage slots → Clear (at_places k qs) stage slots
same_clear k ps qs stage [] h = tt
same_clear k ps qs stage (None ∷ older) h = same_clear k ps qs (suc stage) older h
same_clear k ps qs stage (Some t ∷ older) h = (h.0, same_clear k ps qs (suc stage) older h.1)

-- after rows of its machine without a stop, what ties it to them, where the run goes to the handler at the places that they name
abbrev pub IsGoing : Setting → Type 0
IsGoing k = (rows : List Row) → AreRows k rows → (newest rows).stop ≡ None → Inv (at_places k (places rows)) rows (machine_at k rows)

pub going_of : (k : Setting) → ((ps : List ℕ) → IsReady (at_places k ps)) → IsGoing k
going_of k ready rows are going = (known k ready rows are).going going

pub clear_at : (k : Setting) → ((ps : List ℕ) → IsReady (at_places k ps)) → IsGoing k → (ps : List ℕ) (rows : List Row) → AreRows k rows → (newest rows).stop ≡ None → Clear (at_places k ps) 0 (machine_at k rows).slots
unfolding machine_at
clear_at k ready goes ps [] are going = none_clear (at_places k ps) 0 (shape_of k).stages
clear_at k ready goes ps (row ∷ earlier) are going =
    let here = at_places k (places earlier) in
    let m = machine_at k earlier in
    let inv = goes earlier are.2 are.1 in
    let is = row_at k (places earlier) m row are.0 in
    same_clear k (places earlier) ps 0 (machine_after k m).slots
    (clear_next here (ready (places earlier)) earlier m row inv is (N.no_stop here (ready (places earlier)) earlier m row inv is going) (clear_at k ready goes (places earlier) earlier are.2 are.1))

further : (k : Setting) (stage n : ℕ) (older : Slots) (t : Token) → operand_hold (shape_of k) (suc (suc stage + n)) older t.asks ≡ None → operand_hold (shape_of k) (suc (stage + suc n)) older t.asks ≡ None
further k stage n older t h = (let z : suc stage + n ≡ stage + suc n = omega arith in subst (λ b. operand_hold (shape_of k) (suc b) older t.asks ≡ None) z h)

-- the token of a stage
pub clear_rest : (k : Setting) (stage n : ℕ) (slots older : Slots) (t : Token) → Clear k stage slots → drop n slots ≡ Some t ∷ older → (shape_of k).rd < stage + n → operand_hold (shape_of k) (suc (stage + n)) older t.asks ≡ None
clear_rest k stage zero slots older t h e lt =
    let here : Clear k stage (Some t ∷ older) = subst (λ l. Clear k stage l) e h in
    let z : stage ≡ stage + 0 = omega arith in
    subst (λ b. operand_hold (shape_of k) (suc b) older t.asks ≡ None) z (here.0 (omega (arith, lt)))
clear_rest k stage (suc n) [] older t h e lt = cc
clear_rest k stage (suc n) (None ∷ slots) older t h e lt = further k stage n older t (clear_rest k (suc stage) n slots older t h e (omega (arith, lt)))
clear_rest k stage (suc n) (Some u ∷ slots) older t h e lt = further k stage n older t (clear_rest k (suc stage) n slots older t h.1 e (omega (arith, lt)))
