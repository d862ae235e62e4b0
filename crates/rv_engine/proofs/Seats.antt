-- What slots show, stage by stage.
use Rattle.std.proofs.Common.{◌≡◌, ◌∙◌, refl, sym, ap, ℕ, zero, suc, ◌<◌, ◌≤◌, List, [], ◌∷◌, length, take, drop, get_or, Option, Some, None, Bool, true, false, arith, inl, inr}
use Rattle.std.specs.Prelude.{◌+◌, ◌-◌, nat_lt, option_map, slice_set, IfSome}
use Rattle.std.proofs.lemmas.Bool.{cases_lt}
use Rattle.std.proofs.lemmas.List.{take_all}
use Rattle.std.proofs.lemmas.Bool.Decides.{nat_tests}
use Rattle.rv_holds.specs.declared.token.Token.{Token}
use Rattle.rv_holds.specs.declared.flushing.Turn.{Turn}
use Rattle.rv_holds.specs.Tokens.{Slots}
use Rattle.rv_holds.specs.Forwarding.{operand_in}
use Rattle.rv_holds.specs.Flushing.{struck}
use Rattle.rv_core.specs.declared.Shape.{Shape}
use Rattle.ix_bits.specs.declared.number.Bits.{Bits}
use Rattle.ix_eval.specs.Tables.{table}
use Rattle.rv_seq.specs.declared.arch.Arch.{Arch}
use Rattle.rv_unit.specs.declared.entry.Entry.{Entry}
use Rattle.rv_unit.specs.Entries.{is_frozen}
use Rattle.rv_ports.specs.declared.shown.Seat.{Seat}
use Rattle.rv_ports.specs.declared.shown.Shown.{Shown}
use Rattle.rv_ports.specs.Seats.{loaded}
use Rattle.rv_engine.specs.Owing.{Outstanding}
use Rattle.rv_engine.specs.Showing.{seat_by, slot_seat, slot_load, shown_with}

pub not_below : (a b : ℕ) → b ≤ a → nat_lt a b ≡ false
not_below a b le = grind (arith, nat_tests)

-- inside the list the default says nothing
pub got_at : (l : Slots) (n : ℕ) (s : Option Token) → n < length l → s ≡ get_or l n s → get_or l n None ≡ s
got_at [] n s lt e = absurd (omega (arith, lt))
got_at (t ∷ l) zero s lt e = sym e
got_at (t ∷ l) (suc n) s lt e = got_at l n s (omega (arith, lt)) e

drop_few : (l : Slots) (n : ℕ) → length (drop n l) ≤ length l - n
drop_few l zero = omega arith
drop_few [] (suc n) = omega arith
drop_few (s ∷ l) (suc n) = let rest = drop_few l n in omega (arith, rest)

pub rest_all : (l : Slots) (n : ℕ) → take (length l - n) (drop n l) ≡ drop n l
rest_all l n = take_all (length l - n) (drop n l) (drop_few l n)

-- all that stands behind a stage
pub behind_stage : (l : Slots) (n : ℕ) → take (length l - (n + 1)) (drop (n + 1) l) ≡ drop (suc n) l
behind_stage l n = let e : n + 1 ≡ suc n = omega arith in rest_all l (n + 1) ∙ ap (λ i. drop i l) e

-- an operand from the slots behind these stages, however their count was found
pub operand_behind : (k : Shape) (x : List ℕ) (l : Slots) (n m r v : ℕ) → n ≡ m → v ≡ operand_in k true n (take (length l - n) (drop n l)) x r → v ≡ operand_in k true m (drop m l) x r
operand_behind k x l n m r v same e = e ∙ ap (λ z. operand_in k true n z x r) (rest_all l n) ∙ ap (λ j. operand_in k true j (drop j l) x r) same

-- what the slot of a stage shows
here_shown : (k : Shape) (x : List ℕ) (flushed : ℕ) (l : Slots) (n : ℕ) (s : Option Token) → n < length l → s ≡ get_or l n s → option_map (seat_by k x flushed l n) s ≡ slot_seat k x flushed l n
here_shown k x flushed l n s lt e = sym (ap (λ o. option_map (seat_by k x flushed l n) o) (got_at l n s lt e))

-- where it has a token, and where it is free
pub token_shown : (k : Shape) (x : List ℕ) (flushed : ℕ) (l : Slots) (n : ℕ) (s : Option Token) (t : Token) (seat : Seat) → n < length l → s ≡ get_or l n s → s ≡ Some t → seat ≡ seat_by k x flushed l n t → Some seat ≡ slot_seat k x flushed l n
token_shown k x flushed l n s t seat lt e some same =
    ap (λ (z : Seat). Some z) same ∙ sym (ap (λ o. option_map (seat_by k x flushed l n) o) some) ∙ here_shown k x flushed l n s lt e

pub free_shown : (k : Shape) (x : List ℕ) (flushed : ℕ) (l : Slots) (n : ℕ) (s : Option Token) → n < length l → s ≡ get_or l n s → s ≡ None → None ≡ slot_seat k x flushed l n
free_shown k x flushed l n s lt e none = sym (ap (λ o. option_map (seat_by k x flushed l n) o) none) ∙ here_shown k x flushed l n s lt e

-- no more stages are flushed than there are
pub struck_within : (turn : Option Turn) (n m : ℕ) → m ≡ struck turn → IfSome turn (λ t. t.stage < n) → m ≤ n
struck_within None n m e h = omega (arith, e)
struck_within (Some t) n m e h = omega (arith, e, h)

abbrev all_shown : Shape → Arch → List Bits → List ℕ → List Entry → ℕ → Slots → Shown
all_shown k arch future lasts entries flushed l = record { seats = table (slot_seat k arch.x flushed l) 5; custom = future; datum = loaded arch.mem (slot_load (get_or l k.mem None)); frozen = table (is_frozen lasts entries) 64 }

abbrev record_of : List (Option Seat) → List Bits → ℕ → List Bool → Shown
record_of seats future datum frozen = record { seats = seats; custom = future; datum = datum; frozen = frozen }

-- units with the same last times and the same entries are frozen alike
pub shown_same : (k : Shape) (arch : Arch) (future : List Bits) (o v : Outstanding) (f g : ℕ) (l j : Slots) → o.lasts ≡ v.lasts → o.entries ≡ v.entries → f ≡ g → l ≡ j → shown_with k arch future o f l ≡ shown_with k arch future v g j
shown_same k arch future o v f g l j a b c d =
    ap (λ z. all_shown k arch future z o.entries f l) a
    ∙ ap (λ z. all_shown k arch future v.lasts z f l) b
    ∙ ap (λ z. all_shown k arch future v.lasts v.entries z l) c
    ∙ ap (λ z. all_shown k arch future v.lasts v.entries g z) d

-- past the last stage there is nothing
past_end : (l : Slots) (n : ℕ) → length l ≤ n → get_or l n None ≡ None
past_end [] n le = refl
past_end (s ∷ l) zero le = absurd (omega (arith, le))
past_end (s ∷ l) (suc n) le = past_end l n (omega (arith, le))

pub none_shown : (k : Shape) (x : List ℕ) (flushed : ℕ) (l : Slots) (n : ℕ) → length l ≤ n → slot_seat k x flushed l n ≡ None
none_shown k x flushed l n le = rw (past_end l n le) refl

pub shown_is : (k : Shape) (arch : Arch) (future : List Bits) (o : Outstanding) (turn : Option Turn) (l : Slots) (seats : List (Option Seat)) (datum : ℕ) (frozen : List Bool)
    → seats ≡ table (slot_seat k arch.x (struck turn) l) 5 → datum ≡ loaded arch.mem (slot_load (get_or l k.mem None)) → frozen ≡ table (is_frozen o.lasts o.entries) 64
    → record_of seats future datum frozen ≡ shown_with k arch future o (struck turn) l
shown_is k arch future o turn l seats datum frozen a b c =
    ap (λ z. record_of z future datum frozen) a
    ∙ ap (λ z. record_of (table (slot_seat k arch.x (struck turn) l) 5) future z frozen) b
    ∙ ap (λ z. record_of (table (slot_seat k arch.x (struck turn) l) 5) future (loaded arch.mem (slot_load (get_or l k.mem None))) z) c

-- ---- the loop over the stages

set_long : (seats : List (Option Seat)) (n : ℕ) (s : Option Seat) → length (slice_set seats n s) ≡ length seats
set_long [] n s = refl
set_long (y ∷ seats) zero s = refl
set_long (y ∷ seats) (suc n) s = ap suc (set_long seats n s)

set_here : (seats : List (Option Seat)) (n : ℕ) (s : Option Seat) → n < length seats → get_or (slice_set seats n s) n None ≡ s
set_here [] n s lt = absurd (omega (arith, lt))
set_here (y ∷ seats) zero s lt = refl
set_here (y ∷ seats) (suc n) s lt = set_here seats n s (omega (arith, lt))

set_there : (seats : List (Option Seat)) (n i : ℕ) (s : Option Seat) → (n ≡ i → ⊥) → get_or (slice_set seats n s) i None ≡ get_or seats i None
set_there [] n i s apart = refl
set_there (y ∷ seats) zero zero s apart = absurd (apart refl)
set_there (y ∷ seats) zero (suc i) s apart = refl
set_there (y ∷ seats) (suc n) zero s apart = refl
set_there (y ∷ seats) (suc n) (suc i) s apart = set_there seats n i s (λ e. apart (ap suc e))

-- so many stages are done, and the others are empty
pub record AreDone (k : Shape) (x : List ℕ) (flushed : ℕ) (l : Slots) (seats : List (Option Seat)) (stage : ℕ) : Type 0 where
  pub long : length seats ≡ 5
  pub done : (n : ℕ) → n < stage → get_or seats n None ≡ slot_seat k x flushed l n
  pub rest : (n : ℕ) → stage ≤ n → get_or seats n None ≡ None

pub seats_more : (k : Shape) (x : List ℕ) (flushed : ℕ) (l : Slots) (seats : List (Option Seat)) (stage : ℕ) (s : Option Seat) → s ≡ slot_seat k x flushed l stage → stage < 5 → AreDone k x flushed l seats stage
    → AreDone k x flushed l (slice_set seats stage s) (stage + 1)
seats_more k x flushed l seats stage s here few h =
    let long = h.long in
    record {
      long = set_long seats stage s ∙ long;
      done = λ n lt. elim (cases_lt n stage) [
        | inl less ↦ set_there seats stage n s (λ e. absurd (omega (arith, e, less))) ∙ h.done n less
        | inr le ↦ (let same : n ≡ stage = omega (arith, lt, le) in ap (λ i. get_or (slice_set seats stage s) i None) same ∙ set_here seats stage s (omega (arith, long, few)) ∙ here ∙ sym (ap (λ i. slot_seat k x flushed l i) same))
      ];
      rest = λ n le. set_there seats stage n s (λ e. absurd (omega (arith, e, le))) ∙ h.rest n (omega (arith, le));
    }
