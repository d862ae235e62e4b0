-- Laws of the definition of loops.
use Rattle.std.specs.Prelude.{◌≡◌, ℕ, suc, ℤ, ◌+◌, ◌<◌, ◌≤◌, List, [], ◌∷◌, length, Option, Some, None, true, false}
use Rattle.ix_bits.specs.Operators.{is_true}
use Rattle.ix_tree.specs.LoopHeads.{Binding, Valued, is_int}
use Rattle.ix_tree.specs.Trees.{StmtTree, s_block, s_empty, s_locals, s_assign, s_if, s_if_else, s_for, s_spawn, StmtRow, row_end, row_more, InstrTree, BlockTree, SectionTree, SectionKindTree, k_states, k_instructions, k_always, TextTree}
use Rattle.ix_tree.specs.Unrolling.{Head, these, breaks, bound, turns, test_value, next_value, turns_from, most_statements, met_sections, first_refusal, unrolled}
use Rattle.ix_unroll.specs.Telling.{statements}

-- The values of the turns from a value on: at each, which is one of the type `int`, the test holds; at the one behind them, which is one of the type `int` too, it fails.
pub data TurnsOf (bs : List Binding) (h : Head) : Option Valued → List ℤ → Type 0 where
  no_turn : (x t : Valued) → is_int x.number ≡ true → test_value bs h x.number ≡ Some t → is_true t.number ≡ false → TurnsOf bs h (Some x) []
  one_turn : {vs : List ℤ} (x t : Valued) → is_int x.number ≡ true → test_value bs h x.number ≡ Some t → is_true t.number ≡ true
      → TurnsOf bs h (next_value bs h x.number) vs → TurnsOf bs h (Some x) (x.number ∷ vs)

-- After so many turns the head breaks a rule: the value is not known or is none of the type `int`, or the test has no type.
pub data BreaksAfter (bs : List Binding) (h : Head) : ℕ → Option Valued → Type 0 where
  no_value : BreaksAfter bs h 0 None
  no_int : (x : Valued) → is_int x.number ≡ false → BreaksAfter bs h 0 (Some x)
  no_test : (x : Valued) → is_int x.number ≡ true → test_value bs h x.number ≡ None → BreaksAfter bs h 0 (Some x)
  one_later : {n : ℕ} (x t : Valued) → is_int x.number ≡ true → test_value bs h x.number ≡ Some t → is_true t.number ≡ true
      → BreaksAfter bs h n (next_value bs h x.number) → BreaksAfter bs h (suc n) (Some x)

-- So many turns are made one after another; whether there are more, or an end, is not said.
pub data GoesOn (bs : List Binding) (h : Head) : ℕ → Option Valued → Type 0 where
  goes : {x : Option Valued} → GoesOn bs h 0 x
  goes_one : {n : ℕ} (x t : Valued) → is_int x.number ≡ true → test_value bs h x.number ≡ Some t → is_true t.number ≡ true
      → GoesOn bs h n (next_value bs h x.number) → GoesOn bs h (suc n) (Some x)

-- the values that are given are those of the turns, where there are at most so many
pub record TurnsAre (left : ℕ) (bs : List Binding) (h : Head) (x : Option Valued) (vs : List ℤ) : Type 0 where
  pub given : turns_from left bs h x ≡ these vs → TurnsOf bs h x vs × (length vs ≤ left)
  pub all : TurnsOf bs h x vs → length vs ≤ left → turns_from left bs h x ≡ these vs
  pub more : TurnsOf bs h x vs → left < length vs → turns_from left bs h x ≡ breaks turns

-- the head breaks a rule within so many turns, or one turn more is made, as in a loop that does not end
pub record TurnsBreak (left : ℕ) (bs : List Binding) (h : Head) (x : Option Valued) : Type 0 where
  pub bound_given : turns_from left bs h x ≡ breaks bound → (n : ℕ) × (n ≤ left) × BreaksAfter bs h n x
  pub bound_all : (n : ℕ) → n ≤ left → BreaksAfter bs h n x → turns_from left bs h x ≡ breaks bound
  pub more_given : turns_from left bs h x ≡ breaks turns → GoesOn bs h (suc left) x
  pub more_all : GoesOn bs h (suc left) x → turns_from left bs h x ≡ breaks turns

abbrev pub TurnsLaw : Type 0
TurnsLaw = (left : ℕ) (bs : List Binding) (h : Head) (x : Option Valued) → ((vs : List ℤ) → TurnsAre left bs h x vs) × TurnsBreak left bs h x

-- ---- how many statements a text has, blocks and empty ones among them
abbrev mutual
  pub count : StmtTree → ℕ
  count (s_block s all) = 1 + count_row all
  count (s_empty s) = 1
  count (s_locals s ty ds) = 1
  count (s_assign s a) = 1
  count (s_if s c x) = 1 + count x
  count (s_if_else s c x y) = 1 + count x + count y
  count (s_for s ty n start test last body) = 1 + count body
  count (s_spawn s x) = 1 + count x

  pub count_row : StmtRow → ℕ
  count_row row_end = 0
  count_row (row_more x rest) = count x + count_row rest

abbrev pub count_instrs : List InstrTree → ℕ
count_instrs [] = 0
count_instrs (i ∷ is') = count i.body + count_instrs is'

abbrev pub count_blocks : List BlockTree → ℕ
count_blocks [] = 0
count_blocks (b ∷ bs) = count b.body + count_blocks bs

abbrev pub count_kind : SectionKindTree → ℕ
count_kind (k_states xs) = 0
count_kind (k_instructions xs) = count_instrs xs
count_kind (k_always xs) = count_blocks xs

abbrev pub count_sections : List SectionTree → ℕ
count_sections [] = 0
count_sections (s ∷ ss) = count_kind s.kind + count_sections ss

-- where nothing is refused, the marks by which loops are judged have a statement for each of the result, and it has 16,384 at most
pub record MarksAreStatements (t : TextTree) : Type 0 where
  pub as_many : statements (met_sections t.sections) ≡ count_sections (unrolled t).sections
  pub few : count_sections (unrolled t).sections ≤ most_statements

abbrev pub MarksLaw : Type 0
MarksLaw = (t : TextTree) → first_refusal 0 (met_sections t.sections) ≡ None → MarksAreStatements t
