use Rattle.rv_wave.proofs.Sending.{was_passed, was_broken, ended, breaks_last_of_all}
use Rattle.rv_wave.proofs.writing.end.Goals as goal

pub returns-in-Err : goal.returns-in-Err
returns-in-Err g c = λ k rows modules before first faults sent.
    breaks_last_of_all k rows modules before first (g.S.Sink.written c.args.sink.now) (g.S.Sink.written c.flush.new.sink) c.args.out.now faults (g.S.Sink.faults c.args.sink.now) (g.S.Sink.faults c.flush.new.sink)
    (was_passed k rows modules before first (g.S.Sink.written c.args.sink.now) c.args.out.now faults (g.S.Sink.faults c.args.sink.now) c.args.going c.if-not-going.false sent) c.in-Err.ensures.front c.in-Err.ensures.fault
