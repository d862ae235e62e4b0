-- What an evaluation is given: inputs, a memory, and slots of a behaviour.
use Rattle.std.specs.Prelude.{◌≡◌, ℕ, ◌+◌, ◌^◌, ◌<◌, List, map, get_or, slice_get, length, Option, option_map, IfSome}
use Rattle.ix_bits.specs.declared.number.Ty.{Ty}
use Rattle.ix_bits.specs.declared.number.Bits.{Bits}
use Rattle.ix_mean.specs.declared.evaluate.State.{State}
use Rattle.ix_bits.specs.declared.number.Value.{Value}
use Rattle.ix_mean.specs.declared.evaluate.Written.{Written}
use Rattle.ix_mean.specs.Core.{u1, Expression, Statement}
use Rattle.ix_mean.specs.Meaning.{Inputs, Write, Numbers}
use Rattle.ix_mean.specs.Typing.{IsTypedExpression, IsTypedStatement}
use Rattle.ix_mean.specs.View.{seen, type_seen}

abbrev pub raw_seen : Bits → ℕ
raw_seen b = b.raw

-- the state before, with what memory gives
abbrev pub inputs_of : State → (ℕ → ℕ → ℕ) → Inputs
inputs_of s m = record { word = s.word; rs1 = s.rs1; rs2 = s.rs2; pc = s.pc; custom = λ r. get_or (map raw_seen s.custom) r 0; memory = m }

-- the custom registers have patterns of the widths of their types
pub record HasWidths (ts : List Ty) (custom : List Bits) : Type 0 where
  pub widths : (r : ℕ) → IfSome (slice_get custom r) (λ b. b.width ≡ (get_or ts (3 + r) u1).width)

-- the expression is typed where the slots have these values
pub record IsTypedExpressionAt (s : State) (slots : List Value) (e : Expression) : Type 0 where
  pub targets : List Ty
  pub widths : HasWidths targets s.custom
  pub typed : IsTypedExpression (record { slots = map type_seen slots; targets = targets }) e

-- a memory gives these numbers
abbrev pub Gives : (ℕ → ℕ → ℕ → Type 0) → (ℕ → ℕ → ℕ) → Type 0
Gives post m = (at bytes r : ℕ) → at < 2 ^ 32 → post at bytes r → r ≡ m at bytes

abbrev pub write_seen : Written → Write
write_seen w = record { value = seen w.value; address = seen w.address }

-- what was computed and written so far
abbrev pub numbers_of : List Value → List (Option Written) → Numbers
numbers_of slots targets = record { slots = map seen slots; targets = map (option_map write_seen) targets }

-- the statement is typed where the slots have these values, and there are so many targets
pub record IsTypedStatementAt (s : State) (slots : List Value) (count : ℕ) (x : Statement) : Type 0 where
  pub targets : List Ty
  pub count_is : length targets ≡ count
  pub widths : HasWidths targets s.custom
  pub typed : IsTypedStatement (record { slots = map type_seen slots; targets = targets }) x
