use Rattle.rv_wave.proofs.Sending.{begun, broken_at_once}
use Rattle.rv_wave.proofs.writing.begin.Goals as goal

pub returns-in-Ok : goal.returns-in-Ok
returns-in-Ok g c = λ k before same.
    begun k c.args.nets.now same before (g.S.Sink.written c.args.sink.now) (g.S.Sink.written c.write_head.new.sink) c.args.out.now c.write_head.new.out (g.S.Sink.faults c.args.sink.now) (g.S.Sink.faults c.write_head.new.sink) c.requires.first c.in-Ok.ensures.whole c.write_head.ensures.never_fell

pub returns-in-Err : goal.returns-in-Err
returns-in-Err g c = λ k before same.
    broken_at_once k c.args.nets.now same (g.S.Sink.written c.args.sink.now) (g.S.Sink.written c.write_head.new.sink) c.args.out.now (g.S.Sink.faults c.args.sink.now) (g.S.Sink.faults c.write_head.new.sink) c.requires.first c.in-Err.ensures.front c.in-Err.ensures.fault
