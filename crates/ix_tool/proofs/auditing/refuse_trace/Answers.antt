use Rattle.std.proofs.Common.{◌≡◌, ◌∙◌, ◌++◌, ap, subst, inr}
use Rattle.std.specs.Prelude.{codes, decimal}
use Rattle.ix_words.specs.declared.status.Status.TheVariants.{Trace}
use Rattle.ix_tool.specs.CommandOutput.{Writes, fault_text}
use Rattle.ix_words.proofs.Judging.{line_joined}
use Rattle.ix_tool.proofs.auditing.refuse_trace.Goals as goal

pub returns-in-Ok : goal.returns-in-Ok
returns-in-Ok g c =
    let text : c.as_bytes.result.now ≡ fault_text c.args.kind.now c.args.line =
    c.as_bytes.ensures.value ∙ c.in-Ok.ensures.ok ∙ ap (λ l. codes "refused Trace " ++ l) (line_joined (decimal c.args.line) c.args.kind.now) in
    inr (subst (λ t. Writes Trace t (g.S.Sink.written c.args.sink.now) (g.S.Sink.written c.finish.new.sink) (g.S.Sink.faults c.args.sink.now) (g.S.Sink.faults c.finish.new.sink) c.finish.result) text c.finish.ensures)
