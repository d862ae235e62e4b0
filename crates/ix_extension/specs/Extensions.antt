-- The extension that a typed text stands for: registers and tables with their values, encodings, behaviours, in the order of the source
-- (CoreDSL 2, architectural state, instructions and always-blocks).
use Rattle.std.specs.List.{flat_map}
use Rattle.std.specs.Prelude.{ℕ, ◌^◌, ℤ, pos, List, [], ◌∷◌, map, Option, Some, None}
use Rattle.ix_bits.specs.declared.number.Ty.{Ty}
use Rattle.ix_bits.specs.declared.number.Bits.{Bits}
use Rattle.ix_bits.specs.Operators.{pattern_of}
use Rattle.std.proofs.lemmas.Nat.{pow_pos}
use Rattle.ix_bits.proofs.Remainders.{rem_below_lem}
use Rattle.ix_tree.specs.declared.extension.Extension.{Extension}
use Rattle.ix_tree.specs.declared.extension.Register.{Register}
use Rattle.ix_tree.specs.declared.extension.Table.{Table}
use Rattle.ix_tree.specs.declared.extension.Instruction.{Instruction}
use Rattle.ix_tree.specs.declared.extension.Piece.{Piece}
use Rattle.ix_tree.specs.declared.extension.Behaviour.{Behaviour}
use Rattle.ix_tree.specs.LoopHeads.{Valued, head_value}
use Rattle.ix_tree.specs.TypedTrees.{TypedExprTree, erased, TypedStmtTree, TypedStateTree, TypedStateKindTree, tk_register, tk_table, TypedInstrTree, TypedBlockTree, TypedSectionTree, TypedSectionKindTree, tk_states, tk_instructions, tk_always, TypedTextTree}
use Rattle.ix_tree.specs.TypedView.{typed_whole}
use Rattle.ix_typing.specs.Texts.{nearest}
use Rattle.ix_extension.specs.Encodings.{mask_of, match_of, pieces_of}

-- ---- the parts of a text, whatever sections they stand in
abbrev pub states_in : TypedSectionKindTree → List TypedStateTree
states_in (tk_states xs) = xs
states_in (tk_instructions xs) = []
states_in (tk_always xs) = []

abbrev pub instrs_in : TypedSectionKindTree → List TypedInstrTree
instrs_in (tk_states xs) = []
instrs_in (tk_instructions xs) = xs
instrs_in (tk_always xs) = []

abbrev pub blocks_in : TypedSectionKindTree → List TypedBlockTree
blocks_in (tk_states xs) = []
blocks_in (tk_instructions xs) = []
blocks_in (tk_always xs) = xs

abbrev pub all_states : List TypedSectionTree → List TypedStateTree
all_states xs = flat_map (λ x. states_in x.kind) xs

abbrev pub all_instrs : List TypedSectionTree → List TypedInstrTree
all_instrs xs = flat_map (λ x. instrs_in x.kind) xs

abbrev pub all_blocks : List TypedSectionTree → List TypedBlockTree
all_blocks xs = flat_map (λ x. blocks_in x.kind) xs

-- ---- registers and tables
-- the pattern of a number in a type
abbrev pub pattern : Ty → ℤ → Bits
pattern ty n =
    record {
      raw = pattern_of ty.width n;
      width = ty.width;
      some_width = ty.some_width;
      most_width = ty.most_width;
      in_width = rem_below_lem (2 ^ ty.width) n (pow_pos ty.width);
    }

-- the pattern of a constant in a type that holds it; an expression without a value counts as 0, and no constant is one
abbrev pub constant_in : Ty → Option Valued → Bits
constant_in ty None = pattern ty (pos 0)
constant_in ty (Some v) = pattern ty v.number

abbrev pub entry : Ty → TypedExprTree → Bits
entry ty e = constant_in ty (head_value (erased e) [])

-- a register without an initial value starts at 0
abbrev pub initial : Ty → Option TypedExprTree → Bits
initial ty None = pattern ty (pos 0)
initial ty (Some e) = entry ty e

abbrev pub with_register : TypedStateTree → TypedStateKindTree → List Register → List Register
with_register x (tk_register e) rest = record { name = x.name; ty = nearest x.ty.kind; initial = initial (nearest x.ty.kind) e } ∷ rest
with_register x (tk_table n es) rest = rest

abbrev pub registers_of : List TypedStateTree → List Register
registers_of [] = []
registers_of (x ∷ xs) = with_register x x.kind (registers_of xs)

abbrev pub with_table : TypedStateTree → TypedStateKindTree → List Table → List Table
with_table x (tk_register e) rest = rest
with_table x (tk_table n es) rest = record { name = x.name; ty = nearest x.ty.kind; entries = map (entry (nearest x.ty.kind)) es } ∷ rest

abbrev pub tables_of : List TypedStateTree → List Table
tables_of [] = []
tables_of (x ∷ xs) = with_table x x.kind (tables_of xs)

-- ---- instructions and always-blocks, without where they lie in memory
pub record BehaviourTree : Type 0 where
  pub name : List ℕ
  pub body : List TypedStmtTree

pub record InstructionTree : Type 0 where
  pub mask : ℕ
  pub matches : ℕ
  pub pieces : List Piece
  pub behaviour : BehaviourTree

pub record ExtensionTree : Type 0 where
  pub name : List ℕ
  pub registers : List Register
  pub tables : List Table
  pub instructions : List InstructionTree
  pub blocks : List BehaviourTree

abbrev pub instruction_of : TypedInstrTree → InstructionTree
instruction_of x =
    record {
      mask = mask_of x.pieces;
      matches = match_of x.pieces;
      pieces = pieces_of x.pieces;
      behaviour = record { name = x.name; body = x.body ∷ [] };
    }

abbrev pub block_of : TypedBlockTree → BehaviourTree
block_of x = record { name = x.name; body = x.body ∷ [] }

-- the extension of a typed text
abbrev pub extension_of : TypedTextTree → ExtensionTree
extension_of t =
    record {
      name = t.name;
      registers = registers_of (all_states t.sections);
      tables = tables_of (all_states t.sections);
      instructions = map instruction_of (all_instrs t.sections);
      blocks = map block_of (all_blocks t.sections);
    }

-- ---- an extension of the code
abbrev pub view_behaviour : Behaviour → BehaviourTree
view_behaviour b = record { name = b.name; body = map typed_whole b.body }

abbrev pub view_instruction : Instruction → InstructionTree
view_instruction i = record { mask = i.mask; matches = i.matches; pieces = i.pieces; behaviour = view_behaviour i.behaviour }

abbrev pub view_extension : Extension → ExtensionTree
view_extension x =
    record {
      name = x.name;
      registers = x.registers;
      tables = x.tables;
      instructions = map view_instruction x.instructions;
      blocks = map view_behaviour x.blocks;
    }
