-- Where the machine puts its tokens is where the law of moves wants them.
use Rattle.std.proofs.Common.{◌≡◌, ℕ, zero, suc, ◌<◌, ◌≤◌, List, [], ◌∷◌, drop, length, Option, Some, None, Bool, true, false, refl, sym, ap, ◌∙◌, arith, ◌⊎◌, inl, inr}
use Rattle.std.specs.Prelude.{◌&&◌, ◌||◌, if◌then◌else◌, is_some, slice_get}
use Rattle.ix_bits.specs.declared.number.Bits.{Bits}
use Rattle.ix_plan.specs.declared.design.Design.{Design}
use Rattle.rv_core.specs.declared.Shape.{Shape}
use Rattle.rv_seq.specs.declared.arch.TrapState.{TrapState}
use Rattle.rv_trace.specs.declared.row.Cell.{Cell}
use Rattle.rv_trace.specs.declared.row.Hold.{Hold}
use Rattle.rv_trace.specs.declared.row.Hold.TheVariants.{Behind}
use Rattle.rv_trace.specs.declared.row.Row.{Row}
use Rattle.rv_trace.specs.Trace.{has_serial}
use Rattle.rv_trace.specs.RowParts.{Name, name_of, names_of, stays, leaves, comes, front, fetched as named, InStage, MovesInto}
use Rattle.rv_holds.specs.declared.token.Token.{Token}
use Rattle.rv_holds.specs.Tokens.{Slots, or_else, cell_of, cells_of}
use Rattle.rv_holds.specs.Holds.{own_hold, stops_now, is_blocked, shown, decided}
use Rattle.rv_holds.specs.Flushing.{freed, unheld, cleared}
use Rattle.rv_engine.specs.Settings.{Setting, shape_of}
use Rattle.rv_engine.specs.Rows.{fetched, first_slot, fill_first, waited, going, kept, advanced, leaving}
use Rattle.rv_machine.specs.Placed.{one_more}
use Rattle.rv_machine.specs.Told.{Decided, NoStops, out_last, out_of}
use Rattle.rv_machine.proofs.Deciding.{decided_tail, no_stops_tail}

abbrev pub is_held : Option Token → Bool
is_held None = false
is_held (Some t) = is_some t.cell.hold

-- what comes finds the slot free
abbrev pub Free : Option Token → Option Token → Type 0
Free come s = is_held s ≡ true → come ≡ None

blocked_hold : (k : Shape) (stage : ℕ) (t : Token) (older : Slots) → t.cell.hold ≡ shown k stage t older → stops_now k stage t older ≡ false → is_blocked k (suc stage) older ≡ true → is_some t.cell.hold ≡ true
blocked_hold k stage t older d n b = ap (λ o. is_some o) (d ∙ rw (n, b) refl) ∙ any (own_hold k stage t older) where
  any : (o : Option Hold) → is_some (or_else o (Some Behind)) ≡ true
  any None = refl
  any (Some h) = refl

held_ahead : (k : Shape) (stage : ℕ) (older : Slots) → is_held (first_slot older) ≡ true → is_blocked k stage older ≡ true
held_ahead k stage [] h = cc
held_ahead k stage (None ∷ older) h = cc
held_ahead k stage (Some t ∷ older) h = rw h

pub free_ahead : (k : Setting) (stage : ℕ) (s : Option Token) (older : Slots) → Decided k stage (s ∷ older) → NoStops k stage (s ∷ older) → Free (going s) (first_slot older)
free_ahead k stage None older d n = λ h. refl
free_ahead k stage (Some t) older d n = λ h. rw (blocked_hold (shape_of k) stage t older d.0 n.0 (held_ahead (shape_of k) (suc stage) older h))

pub advanced_length : (come : Option Token) (seen : Slots) → length (advanced come seen) ≡ length seen
advanced_length come [] = refl
advanced_length come (s ∷ older) = ap suc (advanced_length (going s) older)

-- Which tokens the row flushes
-- no token of these is flushed in the row
abbrev pub KeepsAll : Row → Slots → Type 0
KeepsAll row [] = Unit {0}
KeepsAll row (None ∷ older) = KeepsAll row older
KeepsAll row (Some t ∷ older) = (has_serial row.flushed t.cell.serial ≡ false) × KeepsAll row older

-- the token is not flushed
abbrev pub Keeps : Row → Option Token → Type 0
Keeps row None = Unit {0}
Keeps row (Some t) = has_serial row.flushed t.cell.serial ≡ false

keeps_parts : (row : Row) (s : Option Token) (older : Slots) → KeepsAll row (s ∷ older) → Keeps row s × KeepsAll row older
keeps_parts row None older h = (tt, h)
keeps_parts row (Some t) older h = h

pub keeps_all : (row : Row) (slots : Slots) → ((n : ℕ) (t : Token) → slice_get slots n ≡ Some (Some t) → has_serial row.flushed t.cell.serial ≡ false) → KeepsAll row slots
keeps_all row [] f = tt
keeps_all row (None ∷ older) f = keeps_all row older (λ n t e. f (suc n) t e)
keeps_all row (Some t ∷ older) f = (f 0 t refl, keeps_all row older (λ n u e. f (suc n) u e))

abbrev pub token_name : Option Token → Option Name
token_name s = name_of (cell_of s)

in_stage : (row : Row) (come s : Option Token) → Keeps row s → Free come s → InStage (stays row (cell_of s)) (token_name come) (token_name (kept come s))
in_stage row come None u f = refl
in_stage row come (Some t) u f = rw u (by_case (is_some t.cell.hold) f) where
  by_case : (b : Bool) → (b ≡ true → come ≡ None) → InStage (if b && true then name_of (Some t.cell) else None) (token_name come) (token_name (if b then Some (waited t) else come))
  by_case true f = let e = f refl in rw e
  by_case false f = refl

leaves_going : (row : Row) (s : Option Token) → Keeps row s → leaves row (cell_of s) ≡ token_name (going s)
leaves_going row None u = refl
leaves_going row (Some t) u = rw u (by_case (is_some t.cell.hold)) where
  by_case : (b : Bool) → (if b || false then None else name_of (Some t.cell)) ≡ token_name (if b then None else Some t)
  by_case true = refl
  by_case false = refl

pub moves_on : (k : Setting) (row : Row) (stage : ℕ) (come : Option Token) (seen : Slots) → KeepsAll row seen → Decided k stage seen → NoStops k stage seen → Free come (first_slot seen) → MovesInto row (token_name come) (cells_of seen) (names_of (cells_of (advanced come seen)))
moves_on k row stage come [] u d n f = tt
moves_on k row stage come (s ∷ older) u d n f =
    let parts = keeps_parts row s older u in (
      in_stage row come s parts.0 f,
      rw (leaves_going row s parts.0)
          (moves_on k row (suc stage) (going s) older parts.1 (decided_tail k stage s older d) (no_stops_tail k stage s older n) (free_ahead k stage s older d n)),
    )

-- the cells of the first stages are flushed in the row
abbrev pub FlushesFirst : Row → ℕ → Slots → Type 0
FlushesFirst row n slots = (i : ℕ) (t : Token) → i < n → slice_get slots i ≡ Some (Some t) → has_serial row.flushed t.cell.serial ≡ true

flushed_stays : (row : Row) (s : Option Token) → ((t : Token) → s ≡ Some t → has_serial row.flushed t.cell.serial ≡ true) → (stays row (cell_of (freed s)) ≡ None) × (leaves row (cell_of (freed s)) ≡ None)
flushed_stays row None f = (refl, refl)
flushed_stays row (Some t) f = let e = f t refl in (refl, rw e refl)

-- flushed cells go nowhere
pub clears : (k : Setting) (row : Row) (stage n : ℕ) (slots : Slots) → n ≤ length slots → FlushesFirst row n slots → KeepsAll row (cleared n slots) → Decided k stage (cleared n slots) → NoStops k stage (cleared n slots) → Free None (first_slot (cleared n slots)) → MovesInto row None (cells_of (unheld n slots)) (names_of (cells_of (advanced None (cleared n slots))))
clears k row stage zero slots le f u d n free = moves_on k row stage None slots u d n free
clears k row stage (suc m) [] le f u d n free = absurd (omega arith)
clears k row stage (suc m) (s ∷ older) le f u d n free =
    let first = flushed_stays row s (λ t e. f 0 t (omega arith) (ap (λ o. Some o) e)) in (
      rw first.0 refl,
      rw first.1 (clears k row (suc stage) m older (omega (arith, le)) (λ i t lt e. f (suc i) t (omega (arith, lt)) e) u d n (λ h. refl)),
    )

in_first : (stayed : Option Name) (s new : Option Token) → InStage stayed None (token_name s) → InStage stayed (comes stayed (token_name new)) (token_name (or_else s new))
in_first None None new h = refl
in_first None (Some t) new h = cc
in_first (Some n) None new h = cc
in_first (Some n) (Some t) new h = h

pub fill_moves : (new : Option Token) (row : Row) (before : List (Option Cell)) (slots : Slots) → MovesInto row None before (names_of (cells_of slots)) → MovesInto row (comes (stays row (front before)) (token_name new)) before (names_of (cells_of (fill_first new slots)))
fill_moves new row [] [] h = tt
fill_moves new row [] (s ∷ older) h = h
fill_moves new row (w ∷ before) [] h = h
fill_moves new row (w ∷ before) (s ∷ older) h = (in_first (stays row w) s new h.0, h.1)

-- what is fetched has the name that the law of moves gives it
pub new_name : (d : Design) (future : List Bits) (trap : Option TrapState) (serial at : ℕ) (o : Option ℕ) → token_name (fetched d future trap serial at o) ≡ named serial at o
new_name d future trap serial at None = refl
new_name d future trap serial at (Some word) = refl

pub fill_length : (new : Option Token) (slots : Slots) → length (fill_first new slots) ≡ length slots
fill_length new [] = refl
fill_length new (s ∷ older) = refl

-- the token that goes out is the last slot's
pub record LastSlot (n : ℕ) (seen : Slots) : Type 0 where
  pub slot : Option Token
  pub rest : drop n seen ≡ slot ∷ []
  pub here : slice_get (cells_of seen) n ≡ Some (cell_of slot)
  pub out : out_of seen ≡ out_last slot
  pub leaving_is : (come : Option Token) → leaving come seen ≡ going slot

pub last_slot : (n : ℕ) (seen : Slots) → suc n ≡ length seen → LastSlot n seen
last_slot n [] e = absurd (omega arith)
last_slot zero (s ∷ []) e = record { slot = s; rest = refl; here = refl; out = refl; leaving_is = λ come. refl }
last_slot zero (s ∷ u ∷ rest) e = absurd (omega arith)
last_slot (suc n) (s ∷ []) e = absurd (omega arith)
last_slot (suc n) (s ∷ u ∷ rest) e =
    let ih = last_slot n (u ∷ rest) (omega arith) in
    record {
      slot = ih.slot;
      rest = ih.rest;
      here = ih.here;
      out = ih.out;
      leaving_is = λ come. ih.leaving_is (going s);
    }

pub out_going : (s : Option Token) → one_more (going s) 0 ≡ out_last s
out_going None = refl
out_going (Some t) = by_case (is_some t.cell.hold) where
  by_case : (b : Bool) → one_more (if b then None else Some t) 0 ≡ (if b then 0 else 1)
  by_case true = refl
  by_case false = refl

-- Where a token comes from

same_here : (t u : Token) → ◌≡◌ {A = Option (Option Token)} (Some (Some t)) (Some (Some u)) → t ≡ u
same_here t u e = cc

-- a token with its hold has the name that it had
pub record Named (slots : Slots) (n : ℕ) (u : Token) : Type 0 where
  pub token : Token
  pub here : slice_get slots n ≡ Some (Some token)
  pub serial : u.cell.serial ≡ token.cell.serial
  pub word : u.cell.word ≡ token.cell.word

pub decided_from : (k : Shape) (stage n : ℕ) (slots : Slots) (u : Token) → slice_get (decided k stage slots) n ≡ Some (Some u) → Named slots n u
decided_from k stage n [] u e = cc
decided_from k stage zero (None ∷ older) u e = cc
decided_from k stage zero (Some t ∷ older) u e =
    let same = same_here _ u e in
    record { token = t; here = refl; serial = sym (ap (λ (v : Token). v.cell.serial) same); word = sym (ap (λ (v : Token). v.cell.word) same) }
decided_from k stage (suc n) (s ∷ older) u e = let r = decided_from k (suc stage) n older u e in record { token = r.token; here = r.here; serial = r.serial; word = r.word }

-- a token after the fetch is one from before, or the new one
pub filled_from : (new : Option Token) (n : ℕ) (slots : Slots) (u : Token) → slice_get (fill_first new slots) n ≡ Some (Some u) → (slice_get slots n ≡ Some (Some u)) ⊎ (new ≡ Some u)
filled_from new n [] u e = cc
filled_from new zero (Some t ∷ older) u e = inl e
filled_from new (suc n) (Some t ∷ older) u e = inl e
filled_from new zero (None ∷ older) u e = inr (same_slot new u e) where
  same_slot : (s : Option Token) (u : Token) → ◌≡◌ {A = Option (Option Token)} (Some s) (Some (Some u)) → s ≡ Some u
  same_slot s u q = cc
filled_from new (suc n) (None ∷ older) u e = inl e

some_token : (t u : Token) → ◌≡◌ {A = Option Token} (Some t) (Some u) → t ≡ u
some_token t u e = cc

-- a token after the moves has the cell of one before them
pub advanced_from : (n : ℕ) (come : Option Token) (seen : Slots) (u : Token) → slice_get (advanced come seen) n ≡ Some (Some u)
    → ((m : ℕ) × (v : Token) × (slice_get seen m ≡ Some (Some v)) × (v.cell ≡ u.cell)) ⊎ ((v : Token) × (come ≡ Some v) × (v.cell ≡ u.cell))
advanced_from n come [] u e = cc
advanced_from zero come (None ∷ older) u e = inr (u, cc, refl)
advanced_from zero come (Some t ∷ older) u e = by_case (is_some t.cell.hold) e where
  by_case : (b : Bool) → ◌≡◌ {A = Option (Option Token)} (Some (if b then Some (waited t) else come)) (Some (Some u)) → ((m : ℕ) × (v : Token) × (slice_get (Some t ∷ older) m ≡ Some (Some v)) × (v.cell ≡ u.cell)) ⊎ ((v : Token) × (come ≡ Some v) × (v.cell ≡ u.cell))
  by_case true q = inl (0, t, refl, ap (λ (v : Token). v.cell) (same_here (waited t) u q))
  by_case false q = inr (u, cc, refl)
advanced_from (suc n) come (s ∷ older) u e = elim (advanced_from n (going s) older u e) [
  | inl y ↦ inl (suc y.0, y.1, y.2, y.3)
  | inr y ↦ by_slot s y.0 y.1 y.2
] where
  by_slot : (s : Option Token) (v : Token) → going s ≡ Some v → v.cell ≡ u.cell → ((m : ℕ) × (w : Token) × (slice_get (s ∷ older) m ≡ Some (Some w)) × (w.cell ≡ u.cell)) ⊎ ((w : Token) × (come ≡ Some w) × (w.cell ≡ u.cell))
  by_slot None v g q = cc
  by_slot (Some t) v g q = by_case (is_some t.cell.hold) g where
    by_case : (b : Bool) → (if b then None else Some t) ≡ Some v → ((m : ℕ) × (w : Token) × (slice_get (Some t ∷ older) m ≡ Some (Some w)) × (w.cell ≡ u.cell)) ⊎ ((w : Token) × (come ≡ Some w) × (w.cell ≡ u.cell))
    by_case true e = cc
    by_case false e = inl (0, t, refl, ap (λ (w : Token). w.cell) (some_token t v e) ∙ q)
