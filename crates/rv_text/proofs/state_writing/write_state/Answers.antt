use Rattle.std.proofs.Common.{ℕ, List, [], ◌++◌, subst}
use Rattle.rv_text.specs.RunText.{memory_lines, state_text}
use Rattle.rv_text.specs.Telling.{Told}
use Rattle.rv_text.proofs.Parts.{at_ok, at_err, state_is}
use Rattle.rv_text.proofs.state_writing.write_state.Goals as goal

pub returns-in-Ok-clause-carries : goal.returns-in-Ok-clause-carries
returns-in-Ok-clause-carries g c =
    at_ok c.write_memory.result
    (λ f x e before whole t.
    f [] before whole
    (c.in-Ok.ensures.carries (memory_lines c.args.arch.now.mem 262144 0 ++ []) before whole
    (subst (λ (l : List ℕ). Told before (g.S.Sink.written c.args.sink.now) c.args.out.now l whole) (state_is x c.args.outstanding.now c.args.arch.now c.args.registers e) t)))
    c.write_memory.ensures.carries

pub returns-in-Ok-clause-breaks : goal.returns-in-Ok-clause-breaks
returns-in-Ok-clause-breaks g c =
    at_err c.write_memory.result
    (λ f x e before whole t.
    f [] before whole
    (c.in-Ok.ensures.carries (memory_lines c.args.arch.now.mem 262144 0 ++ []) before whole
    (subst (λ (l : List ℕ). Told before (g.S.Sink.written c.args.sink.now) c.args.out.now l whole) (state_is x c.args.outstanding.now c.args.arch.now c.args.registers e) t)))
    c.write_memory.ensures.breaks

pub returns-in-Err-clause-breaks : goal.returns-in-Err-clause-breaks
returns-in-Err-clause-breaks g c = λ x e. c.in-Err.ensures.breaks (state_text x c.args.outstanding.now c.args.arch.now)
