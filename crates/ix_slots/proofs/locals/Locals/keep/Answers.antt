use Rattle.std.proofs.Common.{◌∙◌, ap, ◌<◌, ◌-◌, drop, length, List, arith}
use Rattle.ix_mean.specs.Resolving.{Slot}
use Rattle.ix_slots.proofs.Keeping.{fewer}
use Rattle.ix_slots.proofs.locals.Locals.keep.Goals as goal

pub loop-self-preserved : goal.loop-self-preserved
loop-self-preserved c =
    let n = c.args.count in
    let more : n < length c.loop-self.self.locals = omega arith in
    (ap (λ (ls : List Slot). drop (length ls - n) ls) c.take_last.ensures.locals ∙ fewer c.loop-self.self.locals n more ∙ c.loop-self.invariant.0, c.take_last.ensures.slots ∙ c.loop-self.invariant.1)
