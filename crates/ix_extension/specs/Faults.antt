-- What an extension may break beside its types: rules on encodings and counts, in the order in which they are sought
-- (that no word is two instructions is RISC-V's; the rules, their order and the counts are this project's choice).
use Rattle.std.specs.Prelude.{ℕ, ◌+◌, List, [], ◌∷◌, length, Option, Some, None, Bool, true, false, ◌||◌, if◌then◌else◌, nat_eq, nat_lt, bit_or}
use Rattle.ix_bits.specs.BaseTable.{are_apart, base_patterns}
use Rattle.ix_tree.specs.declared.extension.Table.{Table}
use Rattle.ix_tree.specs.TypedTrees.{TypedLvalueTree, tl_name, tl_pc, tl_x, tl_mem, TypedStmtTree, ts_block, ts_empty, ts_locals, ts_assign, ts_if, ts_if_else, ts_spawn, TypedRow, typed_end, typed_more, TypedInstrTree, TypedTextTree}
use Rattle.ix_extension.specs.Encodings.{bits_of, has_field_twice}
use Rattle.ix_extension.specs.Extensions.{all_instrs, BehaviourTree, InstructionTree, ExtensionTree, extension_of}

-- a rule that is broken, by the instructions that break it
pub data Fault : Type 0 where
  encoding_width : List ℕ → Fault
  field_twice : List ℕ → Fault
  too_many : Fault
  base_overlap : List ℕ → ℕ → Fault
  overlap : List ℕ → List ℕ → ℕ → Fault
  two_pc_blocks : Fault

-- the first of two
abbrev pub or_fault : Option Fault → Option Fault → Option Fault
or_fault (Some f) rest = Some f
or_fault None rest = rest

abbrev pub fault_where : Bool → Fault → Option Fault
fault_where b f = if b then Some f else None

-- ---- encodings
-- the first instruction whose pieces do not have 32 bits
abbrev pub width_fault : List TypedInstrTree → Option Fault
width_fault [] = None
width_fault (x ∷ xs) = if nat_eq (bits_of x.pieces) 32 then width_fault xs else Some (encoding_width x.name)

-- the first instruction of which a bit of a field is given twice
abbrev pub twice_fault : List TypedInstrTree → Option Fault
twice_fault [] = None
twice_fault (x ∷ xs) = if has_field_twice x.pieces then Some (field_twice x.name) else twice_fault xs

-- ---- counts
abbrev pub most_instructions : ℕ
most_instructions = 64

abbrev pub most_registers : ℕ
most_registers = 16

abbrev pub most_blocks : ℕ
most_blocks = 8

abbrev pub most_entries : ℕ
most_entries = 4096

-- the entries of all tables
abbrev pub count_entries : List Table → ℕ
count_entries [] = 0
count_entries (t ∷ ts) = length t.entries + count_entries ts

abbrev pub is_too_large : ExtensionTree → Bool
is_too_large x =
    nat_lt most_instructions (length x.instructions)
    || (nat_lt most_registers (length x.registers) || (nat_lt most_blocks (length x.blocks) || nat_lt most_entries (count_entries x.tables)))

-- ---- words that are two instructions
abbrev pub pattern_of : InstructionTree → ℕ × ℕ
pattern_of i = (i.mask, i.matches)

-- a word that both patterns have: the bits that either asks for
abbrev pub word_of_both : ℕ × ℕ → ℕ × ℕ → ℕ
word_of_both p q = bit_or p.1 q.1

-- the word of the pattern and the first of these that it is not apart from
abbrev pub shared_word : ℕ × ℕ → List (ℕ × ℕ) → Option ℕ
shared_word p [] = None
shared_word p (q ∷ qs) = if are_apart p q then shared_word p qs else Some (word_of_both p q)

abbrev pub base_overlap_of : List ℕ → Option ℕ → Option Fault
base_overlap_of name None = None
base_overlap_of name (Some word) = Some (base_overlap name word)

-- the first instruction that shares a word with a base row, and the first such row
abbrev pub base_fault : List InstructionTree → Option Fault
base_fault [] = None
base_fault (x ∷ xs) = or_fault (base_overlap_of x.behaviour.name (shared_word (pattern_of x) base_patterns)) (base_fault xs)

abbrev pub overlap_with : InstructionTree → List InstructionTree → Option Fault
overlap_with x [] = None
overlap_with x (y ∷ ys) =
    if are_apart (pattern_of x) (pattern_of y) then overlap_with x ys
    else Some (overlap x.behaviour.name y.behaviour.name (word_of_both (pattern_of x) (pattern_of y)))

-- the first two instructions that share a word, by the first and then by the second
abbrev pub overlap_fault : List InstructionTree → Option Fault
overlap_fault [] = None
overlap_fault (x ∷ xs) = or_fault (overlap_with x xs) (overlap_fault xs)

-- ---- always-blocks that write PC, below whatever condition
abbrev pub is_pc : TypedLvalueTree → Bool
is_pc (tl_name n) = false
is_pc tl_pc = true
is_pc (tl_x e) = false
is_pc (tl_mem e f) = false

abbrev mutual
  pub writes_pc : TypedStmtTree → Bool
  writes_pc (ts_block s all) = row_writes_pc all
  writes_pc (ts_empty s) = false
  writes_pc (ts_locals s ty ds) = false
  writes_pc (ts_assign s a) = is_pc a.target.tree
  writes_pc (ts_if s c x) = writes_pc x
  writes_pc (ts_if_else s c x y) = writes_pc x || writes_pc y
  writes_pc (ts_spawn s x) = writes_pc x

  pub row_writes_pc : TypedRow → Bool
  row_writes_pc typed_end = false
  row_writes_pc (typed_more x rest) = writes_pc x || row_writes_pc rest

abbrev pub any_writes_pc : List TypedStmtTree → Bool
any_writes_pc [] = false
any_writes_pc (x ∷ xs) = writes_pc x || any_writes_pc xs

-- how many blocks write PC
abbrev pub count_pc_blocks : List BehaviourTree → ℕ
count_pc_blocks [] = 0
count_pc_blocks (b ∷ bs) = if any_writes_pc b.body then 1 + count_pc_blocks bs else count_pc_blocks bs

-- ---- all rules, one after the other
-- the rules on an extension whose encodings have 32 bits
abbrev pub extension_fault : ExtensionTree → Option Fault
extension_fault x =
    or_fault (fault_where (is_too_large x) too_many)
    (or_fault (base_fault x.instructions)
    (or_fault (overlap_fault x.instructions)
    (fault_where (nat_lt 1 (count_pc_blocks x.blocks)) two_pc_blocks)))

-- the first rule on encodings and counts that a typed text breaks
abbrev pub first_fault : TypedTextTree → Option Fault
first_fault t = or_fault (width_fault (all_instrs t.sections)) (or_fault (twice_fault (all_instrs t.sections)) (extension_fault (extension_of t)))
