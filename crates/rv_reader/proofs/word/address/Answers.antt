use Rattle.std.proofs.Common.{sym, ◌∙◌, arith}
use Rattle.rv_reader.proofs.Readings.{digits_small}
use Rattle.rv_reader.proofs.word.address.Goals as goal

pub overflow_cast-result : goal.overflow_cast-result
overflow_cast-result c = let s = digits_small 8 c.args.word.now c.in-Some.value (sym c.digits.ensures ∙ c.in-Some.is) in omega (arith, s)
