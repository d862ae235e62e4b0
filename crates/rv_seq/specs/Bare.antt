-- The extension without sections: a core of the base set alone (RISC-V Unprivileged ISA, RV32I).
use Rattle.std.specs.Prelude.{[]}
use Rattle.ix_extension.specs.Extensions.{ExtensionTree}

-- what it is called changes no step
abbrev pub bare : ExtensionTree
bare = record { name = []; registers = []; tables = []; instructions = []; blocks = [] }
