use Rattle.std.proofs.Common.{ap, ◌∙◌, bit_and}
use Rattle.std.proofs.lemmas.Nat.{and_mask}
use Rattle.ix_slots.proofs.field.cut.Goals as goal

pub returns : goal.returns
returns c = ap (bit_and c.args.bits.raw) c.mask.ensures ∙ and_mask c.args.bits.raw c.args.ty.width
