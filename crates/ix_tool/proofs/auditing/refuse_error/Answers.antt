use Rattle.std.proofs.Common.{subst, inl, inr}
use Rattle.ix_words.specs.declared.status.Status.TheVariants.{Trace}
use Rattle.ix_tool.specs.CommandOutput.{Writes, fault_text, fault_kind}
use Rattle.ix_tool.proofs.auditing.refuse_error.Goals as goal

pub returns-clause-line : goal.returns-clause-line
returns-clause-line g c = elim c.refuse_trace.ensures [
  | inl memory ↦ inl memory
  | inr told ↦
      inr (
      subst (λ n. Writes Trace (fault_text (fault_kind c.args.error) n) (g.S.Sink.written c.args.sink.now) (g.S.Sink.written c.refuse_trace.new.sink) (g.S.Sink.faults c.args.sink.now) (g.S.Sink.faults c.refuse_trace.new.sink) c.refuse_trace.result) c.fault_number-line.ensures
      (subst (λ k. Writes Trace (fault_text k c.fault_number-line.result) (g.S.Sink.written c.args.sink.now) (g.S.Sink.written c.refuse_trace.new.sink) (g.S.Sink.faults c.args.sink.now) (g.S.Sink.faults c.refuse_trace.new.sink) c.refuse_trace.result) c.fault_word.ensures told)
      )
]
