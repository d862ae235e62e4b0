use Rattle.rv_nets.proofs.Making.{HaveStepped}
use Rattle.rv_nets.proofs.modules.step_all.Given as goal

-- the others are left, and once they have taken their steps all have
abbrev pub invariant-loop-number : goal.invariant-loop-number
invariant-loop-number l = HaveStepped l.shown l.fn.drivers l.drivers l.number
