use Rattle.rv_text.proofs.Parts.{at_both, at_err, carries_flush, breaks_flush}
use Rattle.rv_text.proofs.state_writing.make_room.Goals as goal

pub returns-then-room-lt2048-clause-carries : goal.returns-then-room-lt2048-clause-carries
returns-then-room-lt2048-clause-carries g c =
    at_both c.flush.result (λ a e rest. carries_flush (g.S.Sink.written c.args.sink.now) (g.S.Sink.written c.flush.new.sink) c.args.out.now c.flush.new.self rest a e) c.flush.ensures.ok c.flush.ensures.empty

pub returns-then-room-lt2048-clause-breaks : goal.returns-then-room-lt2048-clause-breaks
returns-then-room-lt2048-clause-breaks g c =
    at_err c.flush.result (λ f rest. breaks_flush (g.S.Sink.written c.args.sink.now) (g.S.Sink.written c.flush.new.sink) c.args.out.now rest f) c.flush.ensures.front
