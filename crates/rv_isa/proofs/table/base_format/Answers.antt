use Rattle.std.proofs.lemmas.List.{get_or_default}
use Rattle.rv_isa.specs.Table.{format_of, base_formats}
use Rattle.rv_isa.specs.declared.table.Format.TheVariants.{Register, Fixed}
use Rattle.rv_isa.proofs.table.base_format.Goals as goal

-- the code's read past the end, which no row below 40 meets, has another default
pub returns : goal.returns
unfolding format_of base_formats
returns c = get_or_default base_formats c.args.row Register Fixed c.requires
