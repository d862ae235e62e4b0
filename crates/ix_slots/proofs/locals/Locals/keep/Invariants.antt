use Rattle.std.proofs.Common.{◌≡◌, ◌-◌, drop, length}
use Rattle.ix_slots.proofs.locals.Locals.keep.Given as goal

abbrev pub invariant-loop-self : goal.invariant-loop-self
invariant-loop-self l =
    (drop (length l.self.locals - l.count) l.self.locals ≡ drop (length l.fn.self.locals - l.count) l.fn.self.locals) × (l.self.slots ≡ l.fn.self.slots)

abbrev pub decreases-loop-self : goal.decreases-loop-self
decreases-loop-self l = length l.self.locals
