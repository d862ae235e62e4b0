use Rattle.std.proofs.Common.{ℕ, List, ◌++◌, subst}
use Rattle.rv_text.specs.RunText.{memory_lines}
use Rattle.rv_text.specs.Telling.{Told}
use Rattle.rv_text.proofs.Parts.{at_ok, at_err}
use Rattle.rv_barrel_text.specs.BarrelText.{hart_state_text}
use Rattle.rv_barrel_text.proofs.Parts.{state_is}
use Rattle.rv_barrel_text.proofs.end_writing.write_end.Goals as goal

pub returns-in-Ok-clause-carries : goal.returns-in-Ok-clause-carries
returns-in-Ok-clause-carries g c =
    at_ok c.write_memory.result
    (λ f x rest e before whole t.
    f rest before whole
    (c.in-Ok.ensures.carries (memory_lines c.args.arch.now.mem 262144 0 ++ rest) before whole
    (subst (λ (l : List ℕ). Told before (g.S.Sink.written c.args.sink.now) c.args.out.now l whole) (state_is c.args.hart x c.args.outstanding.now c.args.arch.now c.args.registers rest e) t)))
    c.write_memory.ensures.carries

pub returns-in-Ok-clause-breaks : goal.returns-in-Ok-clause-breaks
returns-in-Ok-clause-breaks g c =
    at_err c.write_memory.result
    (λ f x rest e before whole t.
    f rest before whole
    (c.in-Ok.ensures.carries (memory_lines c.args.arch.now.mem 262144 0 ++ rest) before whole
    (subst (λ (l : List ℕ). Told before (g.S.Sink.written c.args.sink.now) c.args.out.now l whole) (state_is c.args.hart x c.args.outstanding.now c.args.arch.now c.args.registers rest e) t)))
    c.write_memory.ensures.breaks

pub returns-in-Err-clause-breaks : goal.returns-in-Err-clause-breaks
returns-in-Err-clause-breaks g c = λ x rest e. c.in-Err.ensures.breaks (hart_state_text c.args.hart x c.args.outstanding.now c.args.arch.now ++ rest)
