-- Why an instruction is turned, test by test.
use Rattle.std.proofs.Common.{◌≡◌, ◌∙◌, refl, sym, ap, ℕ, List, [], ◌∷◌, Option, Some, None, Bool, true, false, arith}
use Rattle.std.specs.Prelude.{find, option_map, get_or, if◌then◌else◌, ◌==◌, ◌&&◌, ◌||◌, not}
use Rattle.std.specs.Option.{option_or}
use Rattle.std.proofs.lemmas.Bool.Decides.{nat_tests}
use Rattle.rv_asks.specs.declared.asks.Asks.{Asks}
use Rattle.rv_harts.specs.declared.row.Turn.{Turn}
use Rattle.rv_harts.specs.declared.row.Turn.TheVariants as turns
use Rattle.rv_harts.specs.Harts.{Fetched}
use Rattle.rv_harts.specs.Turns.{eldest, board_of, operand_of, operand_turn, custom_turn, late_turn, unit_of, unit_turn, drain_turn, reading_turn, executing_turn}
use Rattle.rv_holds.proofs.Least.{count_is}
use Rattle.rv_holds.proofs.Spawns.{no_target}
use Rattle.rv_holds.specs.Holds.{least_from, register_at}
use Rattle.rv_lawful.specs.LawfulTrace.{reads_of}
use Rattle.rv_lawful.specs.Outstanding.{has_target, touches}
use Rattle.rv_lawful.specs.Settings.{Setting}
use Rattle.rv_barrel.specs.declared.turning.Wait.{Wait}
use Rattle.rv_barrel.specs.declared.turning.Wait.TheVariants as waits
use Rattle.rv_barrel.specs.declared.older.Wanted.TheVariants.{Destination, Either, Target, Spawner, LateCustom, Late, InUnit}
use Rattle.rv_barrel.specs.Older.{asked_so}
use Rattle.rv_barrel.specs.Turning.{waited}

if_true : {A : Type 0} (b : Bool) (x : Option A) → true ≡ b → (if b then x else None) ≡ x
if_true b x e = ap (λ (t : Bool). if t then x else None) (sym e)

pub operand_so : (k : Setting) (c : Fetched) (a : Asks) (un wr : List Fetched) (n : ℕ) (r : Option ℕ) (w : Wait) → w ≡ waits.Operand → a ≡ k.asks c.word → true ≡ reads_of a n →
    r ≡ eldest (asked_so k (Destination n)) un → r ≡ waited w k c un wr n
operand_so k c a un wr n r w is asks so e =
    e
    ∙ sym (if_true (reads_of (k.asks c.word) n) (eldest (asked_so k (Destination n)) un) (so ∙ ap (λ (b : Asks). reads_of b n) asks))
    ∙ sym (ap (λ (v : Wait). waited v k c un wr n) is)

pub board_so : (k : Setting) (c : Fetched) (a : Asks) (un wr : List Fetched) (n : ℕ) (r : Option ℕ) (w : Wait) → w ≡ waits.Board → a ≡ k.asks c.word → true ≡ touches a (register_at n) →
    r ≡ eldest (asked_so k (Target n)) wr → r ≡ waited w k c un wr n
board_so k c a un wr n r w is asks so e =
    e
    ∙ sym (if_true (touches (k.asks c.word) (register_at n)) (eldest (asked_so k (Target n)) wr) (so ∙ ap (λ (b : Asks). touches b (register_at n)) asks))
    ∙ sym (ap (λ (v : Wait). waited v k c un wr n) is)

pub custom_so : (k : Setting) (c : Fetched) (a : Asks) (un wr : List Fetched) (n : ℕ) (r : Option ℕ) (w : Wait) → w ≡ waits.Custom → a ≡ k.asks c.word → true ≡ get_or a.customs n false →
    r ≡ eldest (asked_so k (LateCustom n)) un → r ≡ waited w k c un wr n
custom_so k c a un wr n r w is asks so e =
    e
    ∙ sym (if_true (get_or (k.asks c.word).customs n false) (eldest (asked_so k (LateCustom n)) un) (so ∙ ap (λ (b : Asks). get_or b.customs n false) asks))
    ∙ sym (ap (λ (v : Wait). waited v k c un wr n) is)

none_found : (f g : Fetched → Bool) → ((d : Fetched) → f d ≡ false → g d ≡ false) → (cells : List Fetched) → eldest f cells ≡ None → eldest g cells ≡ None
none_found f g less [] e = refl
none_found f g less (d ∷ cells) e = by (none_found f g less cells) (f d) refl e where
  by : (eldest f cells ≡ None → eldest g cells ≡ None) → (b : Bool) → f d ≡ b → option_map (λ (c : Fetched). c.serial) (if b then Some d else find f cells) ≡ None → eldest g (d ∷ cells) ≡ None
  by later true is none = absurd cc
  by later false is none = ap (λ (b : Bool). option_map (λ (c : Fetched). c.serial) (if b then Some d else find g cells)) (less d is) ∙ later none

-- where no `spawn` body of these writes a register, none is waited for
pub none_spawned : (k : Setting) (c : Fetched) (wr : List Fetched) → eldest (asked_so k Spawner) wr ≡ None → (n : ℕ) → board_of k c wr n ≡ None
none_spawned k c wr none n = by (touches (k.asks c.word) (register_at n)) where
  by : (b : Bool) → (if b then eldest (λ (d : Fetched). has_target (k.asks d.word) (register_at n)) wr else None) ≡ None
  by true = none_found (asked_so k Spawner) (λ (d : Fetched). has_target (k.asks d.word) (register_at n)) (λ d e. no_target (k.asks d.word) n e) wr none
  by false = refl

-- what is neither register does not write one that is read
not_read : (d f s n : ℕ) → (not (n == 0) && ((n == f) || (n == s))) ≡ true → (not (d == 0) && ((d == f) || (d == s))) ≡ false → (d == n) ≡ false
not_read d f s n is none = by (d == n) refl where
  by : (b : Bool) → (d == n) ≡ b → b ≡ false
  by true same = let e : d ≡ n = grind (arith, nat_tests, same) in sym is ∙ sym (ap (λ (v : ℕ). not (v == 0) && ((v == f) || (v == s))) e) ∙ none
  by false same = refl

-- where none of these writes a register that is read, none is waited for
pub none_written : (k : Setting) (c : Fetched) (un : List Fetched) → eldest (asked_so k (Either (k.asks c.word).first (k.asks c.word).second)) un ≡ None → (n : ℕ) → operand_of k c un n ≡ None
none_written k c un none n = by (reads_of (k.asks c.word) n) refl where
  by : (b : Bool) → reads_of (k.asks c.word) n ≡ b → (if b then eldest (λ (d : Fetched). (k.asks d.word).destination == n) un else None) ≡ None
  by true is = none_found (asked_so k (Either (k.asks c.word).first (k.asks c.word).second)) (λ (d : Fetched). (k.asks d.word).destination == n) (λ d e. not_read (k.asks d.word).destination (k.asks c.word).first (k.asks c.word).second n is e) un none
  by false is = refl

-- RD

abbrev operand_with : ℕ × ℕ → Turn
operand_with found = turns.Operand found.0 found.1

abbrev board_with : ℕ × ℕ → Turn
board_with found = turns.Board (register_at found.0) found.1

pub reading_is : (k : Setting) (c : Fetched) (un wr : List Fetched) (one other : Option (ℕ × ℕ)) → one ≡ least_from (waited waits.Operand k c un wr) 0 32 → other ≡ least_from (waited waits.Board k c un wr) 0 48 →
    option_or (option_map operand_with one) (option_map board_with other) ≡ reading_turn k c un wr
reading_is k c un wr one other e f =
    ap (λ (o : Option (ℕ × ℕ)). option_or (option_map operand_with o) (option_map board_with other)) e
    ∙ ap (λ (o : Option (ℕ × ℕ)). option_or (operand_turn k c un) (option_map board_with o)) (f ∙ sym (ap (λ (n : ℕ). least_from (board_of k c wr) 0 n) count_is))

-- EX

abbrev custom_with : ℕ × ℕ → Turn
custom_with found = turns.Custom found.0 found.1

abbrev late_with : ℕ → Turn
late_with j = turns.Late j

pub executing_is : (k : Setting) (c : Fetched) (un wr left : List Fetched) (one : Option (ℕ × ℕ)) (late : Option ℕ) (u d : Option Turn) → one ≡ least_from (waited waits.Custom k c un wr) 0 16 →
    late ≡ eldest (asked_so k Late) un → u ≡ unit_turn k c wr → d ≡ drain_turn k c left →
    option_or (option_map custom_with one) (option_or (option_map late_with late) (option_or u d)) ≡ executing_turn k c un wr left
executing_is k c un wr left one late u d e f g h =
    ap (λ (o : Option (ℕ × ℕ)). option_or (option_map custom_with o) (option_or (option_map late_with late) (option_or u d))) e
    ∙ ap (λ (o : Option ℕ). option_or (custom_turn k c un) (option_or (option_map late_with o) (option_or u d))) f
    ∙ ap (λ (o : Option Turn). option_or (custom_turn k c un) (option_or (late_turn k un) (option_or o d))) g
    ∙ ap (λ (o : Option Turn). option_or (custom_turn k c un) (option_or (late_turn k un) (option_or (unit_turn k c wr) o))) h

abbrev unit_with : ℕ → ℕ → Turn
unit_with u j = turns.Unit u j

pub unit_is : (k : Setting) (c : Fetched) (a : Asks) (wr : List Fetched) (u : ℕ) (r : Option ℕ) → a ≡ k.asks c.word → a.unit ≡ Some u → r ≡ eldest (asked_so k (InUnit u)) wr → option_map (unit_with u) r ≡ unit_turn k c wr
unit_is k c a wr u r asks is e =
    ap (option_map (unit_with u)) e ∙ sym (ap (λ (o : Option ℕ). unit_of k o wr) (ap (λ (b : Asks). b.unit) (sym asks) ∙ is))

-- the second of two, where the first is none; and the first, where it is some
pub second : {A : Type 0} (one other : Option A) → one ≡ None → option_or one other ≡ other
second one other e = ap (λ o. option_or o other) e

pub first : {A : Type 0} (one other : Option A) → (one ≡ None → ⊥) → option_or one other ≡ one
first None other some = absurd (some refl)
first (Some a) other some = refl

-- a test on numbers that are given in other words
pub if_at : {A : Type 0} (a b m : ℕ) (x : Option A) → a ≡ b → m ≡ b → (if a == m then x else None) ≡ x
if_at {A} a b m x e f = ap (λ (t : Bool). if t then x else None) (same (e ∙ sym f)) where
  same : a ≡ m → (a == m) ≡ true
  same h = grind (arith, nat_tests, h)

pub if_not_at : {A : Type 0} (a b m : ℕ) (x : Option A) → (a ≡ b → ⊥) → m ≡ b → (if a == m then x else None) ≡ None
if_not_at {A} a b m x apart f = ap (λ (t : Bool). if t then x else None) (other (λ h. apart (h ∙ f))) where
  other : (a ≡ m → ⊥) → (a == m) ≡ false
  other h = grind (arith, nat_tests, h)

pub both_read : {one other : Option (ℕ × ℕ)} {a b : Option (ℕ × ℕ)} → one ≡ a → other ≡ b → option_or (option_map operand_with one) (option_map board_with other) ≡ option_or (option_map operand_with a) (option_map board_with b)
both_read {one} {other} {a} {b} e f = ap (λ (o : Option (ℕ × ℕ)). option_or (option_map operand_with o) (option_map board_with other)) e ∙ ap (λ (o : Option (ℕ × ℕ)). option_or (option_map operand_with a) (option_map board_with o)) f

pub unit_at : (u : ℕ) {r s : Option ℕ} → r ≡ s → option_map (unit_with u) r ≡ option_map (unit_with u) s
unit_at u e = ap (option_map (unit_with u)) e

pub exec_late : {one : Option (ℕ × ℕ)} {late : Option ℕ} {s : ℕ} (u d : Option Turn) → one ≡ None → late ≡ Some s → option_or (option_map custom_with one) (option_or (option_map late_with late) (option_or u d)) ≡ Some (turns.Late s)
exec_late {one} {late} {s} u d e f =
    ap (λ (o : Option (ℕ × ℕ)). option_or (option_map custom_with o) (option_or (option_map late_with late) (option_or u d))) e
    ∙ ap (λ (o : Option ℕ). option_or (option_map late_with o) (option_or u d)) f

pub exec_unit : {one : Option (ℕ × ℕ)} {late : Option ℕ} {u : Option Turn} {t : Turn} (d : Option Turn) → one ≡ None → late ≡ None → u ≡ Some t → option_or (option_map custom_with one) (option_or (option_map late_with late) (option_or u d)) ≡ Some t
exec_unit {one} {late} {u} {t} d e f g =
    ap (λ (o : Option (ℕ × ℕ)). option_or (option_map custom_with o) (option_or (option_map late_with late) (option_or u d))) e
    ∙ ap (λ (o : Option ℕ). option_or (option_map late_with o) (option_or u d)) f
    ∙ ap (λ (o : Option Turn). option_or o d) g

pub exec_drain : {one : Option (ℕ × ℕ)} {late : Option ℕ} {u : Option Turn} (d : Option Turn) → one ≡ None → late ≡ None → u ≡ None → option_or (option_map custom_with one) (option_or (option_map late_with late) (option_or u d)) ≡ d
exec_drain {one} {late} {u} d e f g =
    ap (λ (o : Option (ℕ × ℕ)). option_or (option_map custom_with o) (option_or (option_map late_with late) (option_or u d))) e
    ∙ ap (λ (o : Option ℕ). option_or (option_map late_with o) (option_or u d)) f
    ∙ ap (λ (o : Option Turn). option_or o d) g

-- the first of two turns, where the first is none
pub turn_second : (one other : Option Turn) (a b : Option Turn) → one ≡ a → one ≡ None → other ≡ b → other ≡ option_or a b
turn_second one other a b e none f = f ∙ sym (second a b (sym e ∙ none))

pub turn_first : (one a b : Option Turn) → one ≡ a → (one ≡ None → ⊥) → one ≡ option_or a b
turn_first one a b e some = e ∙ sym (first a b (λ none. some (e ∙ none)))
