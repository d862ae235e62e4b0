-- What the code keeps between rows as a machine, and what holds of it in each row.
use Rattle.std.specs.Prelude.{◌≡◌, ℕ, ◌<◌, List, [], ◌∷◌, length, take, get_or, Option, None, IfSome}
use Rattle.std.specs.List.{AllByRecursion}
use Rattle.ix_bits.specs.declared.number.Bits.{Bits}
use Rattle.ix_extension.specs.Extensions.{ExtensionTree, view_extension}
use Rattle.rv_core.specs.declared.Shape.{Shape}
use Rattle.rv_seq.specs.declared.arch.Arch.{Arch}
use Rattle.rv_seq.specs.declared.commit.Slot.TheVariants.{Absent}
use Rattle.rv_seq.specs.Sound.{IsNowWide, IsSound}
use Rattle.ix_eval.specs.Evaluated.{type_of_custom}
use Rattle.rv_seq.specs.declared.commit.Commit.{Commit}
use Rattle.rv_seq.specs.Commits.{IsStoredInside}
use Rattle.rv_seq.specs.Decoding.{IsIn}
use Rattle.rv_seq.specs.WordEffects.{AreWide}
use Rattle.rv_tried.specs.declared.trial.Trial.{Trial}
use Rattle.rv_tried.specs.Whole.{AreBlocksWide}
use Rattle.rv_holds.specs.declared.token.Token.{Token}
use Rattle.rv_holds.specs.Tokens.{Slots}
use Rattle.rv_engine.specs.declared.front.Front.{Front}
use Rattle.rv_engine.specs.declared.front.Kept.{Kept}
use Rattle.rv_engine.specs.declared.owing.Owed.{Owed}
use Rattle.rv_engine.specs.Owing.{Outstanding, unit_hold}
use Rattle.rv_engine.specs.Settings.{Setting, Machine, tree_of}
use Rattle.rv_unit.specs.Numbering.{lasts_of}
use Rattle.ix_plan.specs.declared.design.Design.{Design}

-- the machine of these counts, this future file, this state and these slots
abbrev pub machine_with : Front → List Bits → Arch → Outstanding → Slots → Machine
machine_with front future arch owing slots =
    record {
      slots = slots;
      fetch = front.fetch;
      next = front.next;
      accesses = front.accesses;
      stood = front.stood;
      rows = front.rows;
      waiting = front.waiting;
      future = future;
      arch = arch;
      entries = owing.entries;
      owed = owing.owed;
    }

-- what is kept, as a machine of so many stages
abbrev pub machine_of : Shape → Kept → Machine
machine_of shape kept = machine_with kept.front kept.future kept.arch kept.owing (take shape.stages kept.slots)

-- what a token was tried to is sound, with the widths of the extension in what the blocks write
abbrev pub IsSoundTrial : ExtensionTree → Option Trial → Type 0
IsSoundTrial x o = IfSome o (λ trial. IsSound x trial.answer × AreBlocksWide x trial.blocks)

-- the token's instruction is one of the core's, its unit is one of the design's, and it sees custom registers of their widths
pub record IsFitting (d : Design) (t : Token) : Type 0 where
  pub is_in : IfSome t.decoded (λ decoded. IsIn (view_extension d.extension) decoded)
  pub unit : IfSome t.asks.unit (λ u. u < length (lasts_of d.plans))
  pub wide : AreWide (view_extension d.extension) t.inputs.custom
  pub sound : IsSoundTrial (view_extension d.extension) t.trial

-- the slot is free, or its token is so
abbrev pub IsFittingSlot : Design → Option Token → Type 0
IsFittingSlot d s = IfSome s (λ t. IsFitting d t)

-- each of the slots is so
abbrev pub AreFitting : Design → Slots → Type 0
AreFitting d slots = AllByRecursion (IsFittingSlot d) slots

-- what is owed has the widths of the extension
abbrev pub IsWideOwed : ExtensionTree → Owed → Type 0
IsWideOwed x o = (r : ℕ) → IsNowWide (type_of_custom x r).width (get_or o.writes.custom r Absent)

-- each of these
abbrev pub AreWideOwed : ExtensionTree → List Owed → Type 0
AreWideOwed x owed = AllByRecursion (IsWideOwed x) owed

-- the unit that the token enters, where it is not held, is not frozen
abbrev pub IsOpen : Outstanding → Option Token → Type 0
IsOpen o s = IfSome s (λ t. t.cell.hold ≡ None → unit_hold o t.asks.unit ≡ None)

-- so of the token of the last of these slots
abbrev pub IsLastOpen : Outstanding → Slots → Type 0
IsLastOpen o [] = Unit {0}
IsLastOpen o (s ∷ []) = IsOpen o s
IsLastOpen o (s ∷ u ∷ older) = IsLastOpen o (u ∷ older)

-- what holds of a machine before each row
pub record IsFit (k : Setting) (m : Machine) : Type 0 where
  pub future : AreWide (tree_of k) m.future
  pub slots : AreFitting k.design m.slots
  pub owed : AreWideOwed (tree_of k) m.owed

-- what is retired stores inside the memory
abbrev pub AreStoredInside : Option Commit → Type 0
AreStoredInside o = IfSome o (λ c. IsStoredInside c.store)
