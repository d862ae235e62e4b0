-- The tokens of the slots stay fitting through a row.
use Rattle.std.proofs.Common.{◌≡◌, refl, sym, subst, ℕ, zero, suc, ◌<◌, List, [], ◌∷◌, ◌++◌, take, drop, length, get_or, replicate, Option, Some, None, Bool, true, false, arith}
use Rattle.std.specs.Prelude.{IfSome, slice_get, option_map, if◌then◌else◌, is_some}
use Rattle.ix_extension.specs.Extensions.{ExtensionTree, view_extension}
use Rattle.ix_plan.specs.declared.design.Design.{Design}
use Rattle.rv_core.specs.declared.Shape.{Shape}
use Rattle.rv_seq.specs.WordEffects.{AreWide}
use Rattle.rv_seq.specs.declared.answer.StepAnswer.{StepAnswer}
use Rattle.rv_seq.specs.declared.answer.StepAnswer.TheVariants.{Done, Stopped}
use Rattle.rv_seq.specs.Sound.{IsSound, IsSoundCommit}
use Rattle.rv_trace.specs.declared.row.Hold.{Hold}
use Rattle.rv_tried.specs.declared.trial.Trial.{Trial}
use Rattle.rv_holds.specs.declared.token.Token.{Token}
use Rattle.rv_holds.specs.Tokens.{Slots, commit_of, tried_commit, commit_in}
use Rattle.rv_holds.specs.Holds.{decided, held, shown}
use Rattle.rv_holds.specs.Flushing.{cleared}
use Rattle.ix_bits.specs.declared.number.Bits.{Bits}
use Rattle.rv_asks.specs.declared.asks.Asks.{Asks}
use Rattle.rv_tried.specs.Parts.{native}
use Rattle.ix_plan.specs.declared.design.Plan.{Plan}
use Rattle.rv_unit.specs.Numbering.{lasts_of, unit_after, unit_of}
use Rattle.rv_unit.proofs.Numbered.{numbering_law}
use Rattle.rv_seq.specs.declared.decoded.Decoded.{Decoded}
use Rattle.rv_seq.specs.declared.decoded.Decoded.TheVariants as D
use Rattle.rv_asks.specs.Asks.{asks_in}
use Rattle.rv_engine.specs.Owing.{Outstanding}
use Rattle.rv_engine.specs.declared.reading.Operands.{Operands}
use Rattle.rv_engine.specs.Rows.{fill_first, slot_operands, with_pair, read_with, reading, waited, going, kept, advanced, leaving, first_slot, native_in, native_tried, native_of}
use Rattle.rv_engine.specs.Kept.{IsSoundTrial, IsFitting, IsFittingSlot, AreFitting, AreStoredInside}

pub fill_fitting : (d : Design) (new : Option Token) (slots : Slots) → IsFittingSlot d new → AreFitting d slots → AreFitting d (fill_first new slots)
fill_fitting d new [] n h = tt
fill_fitting d new (None ∷ older) n h = (n, h.1)
fill_fitting d new (Some t ∷ older) n h = h

read_fitting : (d : Design) (k : Shape) (operands : Option Operands) (wait : ℕ) (b : Bool) (o : Outstanding) (stage : ℕ) (s : Option Token) → IsFittingSlot d s → IsFittingSlot d (option_map (read_with k operands wait b o stage) s)
read_fitting d k operands wait b o stage None h = tt
read_fitting d k operands wait b o stage (Some t) h = record { is_in = h.is_in; unit = h.unit; wide = by_pair operands; sound = h.sound } where
  by_pair : (p : Option Operands) → AreWide (view_extension d.extension) (with_pair p t.inputs).custom
  by_pair None = h.wide
  by_pair (Some p) = h.wide

pub reading_fitting : (d : Design) (k : Shape) (file : List ℕ) (wait : ℕ) (b : Bool) (o : Outstanding) (stage : ℕ) (slots : Slots) → AreFitting d slots → AreFitting d (reading k file wait b o stage slots)
reading_fitting d k file wait b o stage [] h = tt
reading_fitting d k file wait b o stage (s ∷ older) h = (read_fitting d k (slot_operands k stage s older file) wait b o stage s h.0, reading_fitting d k file wait b o (suc stage) older h.1)

held_fitting : (d : Design) (h : Option Hold) (t : Token) → IsFitting d t → IsFitting d (held h t)
held_fitting d h t f = record { is_in = f.is_in; unit = f.unit; wide = f.wide; sound = f.sound }

pub decided_fitting : (d : Design) (k : Shape) (stage : ℕ) (slots : Slots) → AreFitting d slots → AreFitting d (decided k stage slots)
decided_fitting d k stage [] h = tt
decided_fitting d k stage (None ∷ older) h = (tt, decided_fitting d k (suc stage) older h.1)
decided_fitting d k stage (Some t ∷ older) h =
    (held_fitting d (shown k stage t (decided k (suc stage) older)) t h.0, decided_fitting d k (suc stage) older h.1)

none_before : (d : Design) (n : ℕ) (slots : Slots) → AreFitting d slots → AreFitting d (replicate n None ++ slots)
none_before d zero slots h = h
none_before d (suc n) slots h = (tt, none_before d n slots h)

pub drop_fitting : (d : Design) (n : ℕ) (slots : Slots) → AreFitting d slots → AreFitting d (drop n slots)
drop_fitting d zero slots h = h
drop_fitting d (suc n) [] h = tt
drop_fitting d (suc n) (s ∷ older) h = drop_fitting d n older h.1

pub cleared_fitting : (d : Design) (n : ℕ) (slots : Slots) → AreFitting d slots → AreFitting d (cleared n slots)
cleared_fitting d n slots h = none_before d n (drop n slots) (drop_fitting d n slots h)

kept_fitting : (d : Design) (come s : Option Token) → IsFittingSlot d come → IsFittingSlot d s → IsFittingSlot d (kept come s)
kept_fitting d come None c h = c
kept_fitting d come (Some t) c h = by_case (is_some t.cell.hold) where
  by_case : (b : Bool) → IsFittingSlot d (if b then Some (waited t) else come)
  by_case true = record { is_in = h.is_in; unit = h.unit; wide = h.wide; sound = h.sound }
  by_case false = c

pub going_fitting : (d : Design) (s : Option Token) → IsFittingSlot d s → IsFittingSlot d (going s)
going_fitting d None h = tt
going_fitting d (Some t) h = by_case (is_some t.cell.hold) where
  by_case : (b : Bool) → IsFittingSlot d (if b then None else Some t)
  by_case true = tt
  by_case false = h

pub advanced_fitting : (d : Design) (come : Option Token) (slots : Slots) → IsFittingSlot d come → AreFitting d slots → AreFitting d (advanced come slots)
advanced_fitting d come [] c h = tt
advanced_fitting d come (s ∷ older) c h = (kept_fitting d come s c h.0, advanced_fitting d (going s) older (going_fitting d s h.0) h.1)

pub leaving_fitting : (d : Design) (come : Option Token) (slots : Slots) → IsFittingSlot d come → AreFitting d slots → IsFittingSlot d (leaving come slots)
leaving_fitting d come [] c h = c
leaving_fitting d come (s ∷ older) c h = leaving_fitting d (going s) older (going_fitting d s h.0) h.1

-- the token that goes out
pub left_fitting : (d : Design) (slots : Slots) (left : Option Token) → left ≡ leaving None slots → AreFitting d slots → IsFittingSlot d left
left_fitting d slots left e h = subst (λ (s : Option Token). IsFittingSlot d s) (sym e) (leaving_fitting d None slots tt h)

-- the first of these
pub first_fitting : (d : Design) (slots : Slots) → AreFitting d slots → IsFittingSlot d (first_slot slots)
first_fitting d [] h = tt
first_fitting d (s ∷ older) h = h.0

-- the token of a stage
pub element_fitting : (d : Design) (slots : Slots) (n : ℕ) (s : Option Token) → AreFitting d slots → n < length slots → s ≡ get_or slots n s → IsFittingSlot d s
element_fitting d [] n s h lt e = absurd (omega (arith, lt))
element_fitting d (first ∷ older) zero s h lt e = subst (λ (u : Option Token). IsFittingSlot d u) (sym e) h.0
element_fitting d (first ∷ older) (suc n) s h lt e = element_fitting d older n s h.1 (omega (arith, lt)) e

-- what a token writes, and retires, is sound
sound_trial : (x : ExtensionTree) (o : Option Trial) → IsSoundTrial x o → IfSome (tried_commit o) (IsSoundCommit x)
sound_trial x None h = tt
sound_trial x (Some trial) h = by_answer trial.answer h.0 where
  by_answer : (a : StepAnswer) → IsSound x a → IfSome (commit_in a) (IsSoundCommit x)
  by_answer (Done c) h = h
  by_answer (Stopped stop) h = tt

pub sound_commit : (d : Design) (t : Token) → IsFitting d t → IfSome (commit_of t) (IsSoundCommit (view_extension d.extension))
sound_commit d t h = sound_trial (view_extension d.extension) t.trial h.sound

native_inside : (x : ExtensionTree) (a : Asks) (blocks : List (Option Bits)) (y : StepAnswer) → IsSound x y → AreStoredInside (native_in a blocks y)
unfolding native
native_inside x a blocks (Done c) h = h.inside
native_inside x a blocks (Stopped stop) h = tt

native_trial : (x : ExtensionTree) (a : Asks) (o : Option Trial) → IsSoundTrial x o → AreStoredInside (native_tried a o)
native_trial x a None h = tt
native_trial x a (Some trial) h = native_inside x a trial.blocks trial.answer h.0

pub stored_inside : (d : Design) (s : Option Token) → IsFittingSlot d s → AreStoredInside (native_of s)
stored_inside d None h = tt
stored_inside d (Some t) h = native_trial (view_extension d.extension) t.asks t.trial h.sound

-- the unit of an instruction of the design is one of its units
unit_within : (plans : List Plan) (n u : ℕ) → unit_of plans n ≡ Some u → u < length (lasts_of plans)
unit_within plans n u e = by_plan (slice_get plans n) refl e where
  by_plan : (o : Option Plan) → slice_get plans n ≡ o → unit_after (length (lasts_of (take n plans))) o ≡ Some u → u < length (lasts_of plans)
  by_plan None q h = cc
  by_plan (Some p) q h = (numbering_law plans n u p e q).0

within_some : (plans : List Plan) (n : ℕ) (o : Option ℕ) → unit_of plans n ≡ o → IfSome o (λ u. u < length (lasts_of plans))
within_some plans n None e = tt
within_some plans n (Some u) e = unit_within plans n u e

pub asked_unit : (d : Design) (word : ℕ) (what : Option Decoded) → IfSome (asks_in d word what).unit (λ u. u < length (lasts_of d.plans))
unfolding asks_in
asked_unit d word None = tt
asked_unit d word (Some (D.Base b)) = tt
asked_unit d word (Some (D.Own n)) = within_some d.plans n (unit_of d.plans n) refl
