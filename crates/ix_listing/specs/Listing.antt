-- The listing of an extension: its name, registers, tables, instructions with their pieces, and blocks, a line each (this project's choice).
use Rattle.std.specs.List.{flat_map}
use Rattle.std.specs.Prelude.{ℕ, ◌+◌, List, [], ◌∷◌, ◌++◌, length, Bool, true, false, codes, decimal}
use Rattle.ix_bits.specs.declared.number.Ty.{Ty}
use Rattle.ix_tree.specs.declared.extension.Register.{Register}
use Rattle.ix_tree.specs.declared.extension.Table.{Table}
use Rattle.ix_tree.specs.declared.extension.Piece.{Piece}
use Rattle.ix_io.specs.Out.{hex_digits}
use Rattle.ix_extension.specs.Extensions.{BehaviourTree, InstructionTree, ExtensionTree}

-- a type, as `unsigned<32>` (CoreDSL 2, integer types)
abbrev pub sign_text : Bool → List ℕ
sign_text true = codes "signed<"
sign_text false = codes "unsigned<"

abbrev pub type_text : Ty → List ℕ
type_text ty = sign_text ty.signed ++ (decimal ty.width ++ codes ">")

-- a word, a space and a name
abbrev pub named_line : List ℕ → List ℕ → List ℕ
named_line word name = word ++ (codes " " ++ (name ++ codes "\n"))

-- `register c0 NAME TYPE`, with the register's number
abbrev pub register_line : ℕ → Register → List ℕ
register_line k r = codes "register c" ++ (decimal k ++ (codes " " ++ (r.name ++ (codes " " ++ (type_text r.ty ++ codes "\n")))))

-- the registers, numbered from this number on
abbrev pub registers_text : ℕ → List Register → List ℕ
registers_text k [] = []
registers_text k (r ∷ rs) = register_line k r ++ registers_text (k + 1) rs

-- `table NAME TYPE LENGTH`
abbrev pub table_line : Table → List ℕ
table_line t = codes "table " ++ (t.name ++ (codes " " ++ (type_text t.ty ++ (codes " " ++ (decimal (length t.entries) ++ codes "\n")))))

-- `piece FIELD HI LO at BIT`: bits HI down to LO of the field stand in the word with their lowest at BIT
abbrev pub bits_text : Piece → List ℕ
bits_text p = decimal p.hi ++ (codes " " ++ (decimal p.lo ++ (codes " at " ++ (decimal p.at ++ codes "\n"))))

abbrev pub piece_line : Piece → List ℕ
piece_line p = codes "piece " ++ (p.field ++ (codes " " ++ bits_text p))

-- `instruction NAME mask M match M`, both with eight hexadecimal digits, and a line for each piece, from left to right
abbrev pub instruction_line : InstructionTree → List ℕ
instruction_line i =
    codes "instruction " ++ (i.behaviour.name ++ (codes " mask " ++ (hex_digits 8 i.mask ++ (codes " match " ++ (hex_digits 8 i.matches ++ codes "\n")))))

abbrev pub instruction_text : InstructionTree → List ℕ
instruction_text i = instruction_line i ++ flat_map piece_line i.pieces

-- `block NAME`
abbrev pub block_line : BehaviourTree → List ℕ
block_line b = named_line (codes "block") b.name

-- the whole listing
abbrev pub listing_text : ExtensionTree → List ℕ
listing_text x =
    named_line (codes "set") x.name
    ++ (registers_text 0 x.registers
    ++ (flat_map table_line x.tables ++ (flat_map instruction_text x.instructions ++ flat_map block_line x.blocks)))
