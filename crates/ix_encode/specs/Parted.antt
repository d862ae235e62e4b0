-- The extension of a text's parts.
use Rattle.std.specs.Prelude.{ℕ, List, map}
use Rattle.ix_tree.specs.TypedView.{typed_state, typed_instr, typed_block}
use Rattle.ix_extension.specs.Extensions.{ExtensionTree, registers_of, tables_of, instruction_of, block_of}
use Rattle.ix_encode.specs.declared.parts.Parts.{Parts}

abbrev pub of_parts : List ℕ → Parts → ExtensionTree
of_parts name p =
    record {
      name = name;
      registers = registers_of (map typed_state p.states.items);
      tables = tables_of (map typed_state p.states.items);
      instructions = map instruction_of (map typed_instr p.instructions.items);
      blocks = map block_of (map typed_block p.blocks.items);
    }
