use Rattle.rv_engine.proofs.Seats.{AreDone}
use Rattle.rv_engine.proofs.showing.seats_in.Given as goal

abbrev pub invariant-loop-stage : goal.invariant-loop-stage
invariant-loop-stage l = AreDone l.shape l.file l.flushed l.slots l.seats l.stage
