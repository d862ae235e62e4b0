use Rattle.std.proofs.Common.{ℕ, List, [], subst}
use Rattle.rv_text.specs.Telling.{Told}
use Rattle.rv_text.proofs.Parts.{at_ok, at_err, told_last, told_last_front}
use Rattle.rv_barrel_text.proofs.Parts.{alone}
use Rattle.rv_barrel_text.proofs.end_writing.write_last.Goals as goal

pub returns-in-Ok-clause-whole : goal.returns-in-Ok-clause-whole
returns-in-Ok-clause-whole g c =
    at_ok c.flush.result
    (λ a x q before whole t.
    told_last before (g.S.Sink.written c.write_end.new.sink) (g.S.Sink.written c.flush.new.sink) c.write_end.new.out whole
    (c.in-Ok.ensures.carries x [] q before whole (subst (λ (l : List ℕ). Told before (g.S.Sink.written c.args.sink.now) c.args.out.now l whole) (alone 1 x c.args.outstanding.now c.args.arch.now) t)) a)
    c.flush.ensures.ok

pub returns-in-Ok-clause-front : goal.returns-in-Ok-clause-front
returns-in-Ok-clause-front g c =
    at_err c.flush.result
    (λ a x q before whole t.
    told_last_front before (g.S.Sink.written c.write_end.new.sink) (g.S.Sink.written c.flush.new.sink) c.write_end.new.out whole
    (c.in-Ok.ensures.carries x [] q before whole (subst (λ (l : List ℕ). Told before (g.S.Sink.written c.args.sink.now) c.args.out.now l whole) (alone 1 x c.args.outstanding.now c.args.arch.now) t)) a)
    c.flush.ensures.front

pub returns-in-Err-clause-front : goal.returns-in-Err-clause-front
returns-in-Err-clause-front g c = λ x q before whole t.
    c.in-Err.ensures.breaks x [] q before whole (subst (λ (l : List ℕ). Told before (g.S.Sink.written c.args.sink.now) c.args.out.now l whole) (alone 1 x c.args.outstanding.now c.args.arch.now) t)
