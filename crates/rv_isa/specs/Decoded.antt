-- What a word means as an instruction of RV32I (RISC-V Unprivileged ISA, RV32I Base Integer Instruction Set).
use Rattle.std.specs.Prelude.{ℕ, Option}
use Rattle.std.specs.Option.{option_map}
use Rattle.rv_isa.specs.Table.{format_of, row_of}
use Rattle.rv_isa.specs.Fields.{fields_of}
use Rattle.rv_isa.specs.declared.base.Base.{Base}

-- the instruction of a word: its row, and the fields of the row's format
unfoldable pub decoded : ℕ → Option Base
decoded word = option_map (λ row. fields_of (format_of row) row word) (row_of word)
