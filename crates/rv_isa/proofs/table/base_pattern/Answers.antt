use Rattle.std.proofs.Common.{refl}
use Rattle.ix_bits.specs.BaseTable.{base_patterns}
use Rattle.rv_isa.specs.Table.{pattern_of}
use Rattle.rv_isa.proofs.table.base_pattern.Goals as goal

pub returns : goal.returns
unfolding pattern_of base_patterns
returns c = refl
