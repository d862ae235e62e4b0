-- How many slots a machine has: as many as the core has stages, before each row and in it.
use Rattle.std.proofs.Common.{◌≡◌, ◌∙◌, refl, sym, ap, subst, ℕ, zero, suc, ◌≤◌, List, [], ◌∷◌, length, replicate, Option, None, Bool, true, false, arith}
use Rattle.ix_bits.specs.declared.number.Bits.{Bits}
use Rattle.ix_extension.specs.Extensions.{ExtensionTree}
use Rattle.ix_plan.specs.declared.design.Design.{Design}
use Rattle.rv_core.specs.declared.Shape.{Shape}
use Rattle.rv_holds.specs.declared.token.Token.{Token}
use Rattle.rv_holds.specs.Tokens.{Slots, cells_of}
use Rattle.rv_holds.specs.Holds.{decided}
use Rattle.rv_holds.specs.Flushing.{struck, unheld, cleared, turn_of}
use Rattle.rv_engine.specs.Owing.{Outstanding}
use Rattle.rv_engine.specs.Settings.{Setting, Machine, shape_of, tree_of, first_machine, outstanding_in, interrupted_by}
use Rattle.rv_engine.specs.Rows.{fill_first, guess_first, reading, trying, loading, filled_by, read_by, held_by, loaded_by, new_by, owed_by, turn_by, seen_by, entered_by, machine_after}
use Rattle.rv_machine.proofs.Before.{struck_in}
use Rattle.rv_machine.proofs.Moves.{advanced_length}
use Rattle.rv_machine.proofs.Turns.{plain_turn, entry_turn}

fill : (new : Option Token) (slots : Slots) → length (fill_first new slots) ≡ length slots
fill new [] = refl
fill new (s ∷ older) = refl

guess : (d : Design) (future : List Bits) (memory : List ℕ) (slots : Slots) → length (guess_first d future memory slots) ≡ length slots
guess d future memory [] = refl
guess d future memory (s ∷ older) = refl

read : (k : Shape) (x : List ℕ) (wait : ℕ) (b : Bool) (o : Outstanding) (stage : ℕ) (slots : Slots) → length (reading k x wait b o stage slots) ≡ length slots
read k x wait b o stage [] = refl
read k x wait b o stage (s ∷ older) = ap suc (read k x wait b o (suc stage) older)

try : (x : ExtensionTree) (k : Shape) (future : List Bits) (memory : List ℕ) (stage : ℕ) (slots : Slots) → length (trying x k future memory stage slots) ≡ length slots
try x k future memory stage [] = refl
try x k future memory stage (s ∷ older) = ap suc (try x k future memory (suc stage) older)

hold : (k : Shape) (stage : ℕ) (slots : Slots) → length (decided k stage slots) ≡ length slots
hold k stage [] = refl
hold k stage (s ∷ older) = ap suc (hold k (suc stage) older)

load : (x : ExtensionTree) (k : Shape) (memory : List ℕ) (stage : ℕ) (slots : Slots) → length (loading x k memory stage slots) ≡ length slots
load x k memory stage [] = refl
load x k memory stage (s ∷ older) = ap suc (load x k memory (suc stage) older)

-- in the row
pub loaded_length : (k : Setting) (m : Machine) → length (loaded_by k m) ≡ length m.slots
loaded_length k m =
    load (tree_of k) (shape_of k) m.arch.mem 0 (held_by k m)
    ∙ hold (shape_of k) 0 (trying (tree_of k) (shape_of k) m.future m.arch.mem 0 (read_by k m))
    ∙ try (tree_of k) (shape_of k) m.future m.arch.mem 0 (read_by k m)
    ∙ read (shape_of k) m.arch.x (owed_by k m) (interrupted_by k m) (outstanding_in k m) 0 (filled_by k m)
    ∙ guess k.design m.future m.arch.mem (fill_first (new_by k m) m.slots)
    ∙ fill (new_by k m) m.slots

unhold : (n : ℕ) (slots : Slots) → length (unheld n slots) ≡ length slots
unhold zero slots = refl
unhold (suc n) [] = refl
unhold (suc n) (s ∷ older) = ap suc (unhold n older)

cells : (slots : Slots) → length (cells_of slots) ≡ length slots
cells [] = refl
cells (s ∷ older) = ap suc (cells older)

-- as the row shows them
pub cells_length : (k : Setting) (m : Machine) → length (cells_of (unheld (struck (turn_by k m)) (loaded_by k m))) ≡ length m.slots
cells_length k m = cells (unheld (struck (turn_by k m)) (loaded_by k m)) ∙ unhold (struck (turn_by k m)) (loaded_by k m) ∙ loaded_length k m

clear : (n : ℕ) (slots : Slots) → n ≤ length slots → length (cleared n slots) ≡ length slots
clear zero slots le = refl
clear (suc n) [] le = absurd (omega (arith, le))
clear (suc n) (s ∷ older) le = ap suc (clear n older (omega (arith, le)))

-- no more are flushed than there are
struck_inside : (k : Setting) (m : Machine) → length m.slots ≡ (shape_of k).stages → struck (turn_by k m) ≤ length (loaded_by k m)
struck_inside k m e = by_entry (entered_by k m) refl where
  by_entry : (b : Bool) → entered_by k m ≡ b → struck (turn_by k m) ≤ length (loaded_by k m)
  by_entry false f = subst (λ o. struck o ≤ length (loaded_by k m)) (sym (plain_turn k m f)) (struck_in k m.fetch (loaded_by k m) (turn_of (shape_of k) m.fetch (loaded_by k m)) refl)
  by_entry true f =
      let s = ap (λ o. struck o) (entry_turn k m f) in
      let late = (shape_of k).lawful.memory_late in
      let inside = (shape_of k).lawful.memory_inside in
      let long = loaded_length k m in
      omega (arith, s, late, inside, long, e)

-- after it
pub next_length : (k : Setting) (m : Machine) → length m.slots ≡ (shape_of k).stages → length (machine_after k m).slots ≡ (shape_of k).stages
next_length k m e = advanced_length None (seen_by k m) ∙ clear (struck (turn_by k m)) (loaded_by k m) (struck_inside k m e) ∙ loaded_length k m ∙ e

none : (n : ℕ) → length (replicate {A = Option Token} n None) ≡ n
none zero = refl
none (suc n) = ap suc (none n)

-- and before the first
pub first_length : (k : Setting) → length (first_machine k).slots ≡ (shape_of k).stages
first_length k = none (shape_of k).stages
