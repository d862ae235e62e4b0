use Rattle.std.proofs.Math.Facts.{Fits-of_lt}
use Rattle.rv_memory.proofs.LowBytes.{product_fits, sum_fits, fewer, byte_below}
use Rattle.rv_memory.proofs.words.+number_of.Goals as goal

pub overflow_mul-result : goal.overflow_mul-result
overflow_mul-result n c = Fits-of_lt (product_fits c.number_of.result _ (fewer c.args.bytes.now c.in-len1-up.len_at_least c.requires) c.number_of.ensures.fits)

pub overflow_add-result : goal.overflow_add-result
overflow_add-result n c = Fits-of_lt (sum_fits c.from.result c.number_of.result _ (byte_below c.from.result _ c.from.ensures (c.type_inv.bytes 0)) (fewer c.args.bytes.now c.in-len1-up.len_at_least c.requires) c.number_of.ensures.fits)
