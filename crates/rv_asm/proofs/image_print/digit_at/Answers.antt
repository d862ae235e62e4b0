use Rattle.std.proofs.Common.{arith}
use Rattle.std.proofs.lemmas.Grind.{common_steps}
use Rattle.ix_io.proofs.Digits.{pow_four_times}
use Rattle.rv_asm.proofs.image_print.digit_at.Goals as goal

pub returns-then-digit-lt10 : goal.returns-then-digit-lt10
returns-then-digit-lt10 c = rw (← pow_four_times c.args.place) (grind (arith, common_steps))

pub returns-else-digit-lt10 : goal.returns-else-digit-lt10
returns-else-digit-lt10 c = rw (← pow_four_times c.args.place) (grind (arith, common_steps))
