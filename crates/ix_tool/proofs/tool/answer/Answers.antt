use Rattle.std.proofs.Common.{List, sym, subst, map}
use Rattle.ix_words.specs.declared.value.Value.{Value}
use Rattle.ix_words.specs.Readings.{reading_of}
use Rattle.ix_tool.specs.CommandOutput.{Answered}
use Rattle.ix_tool.proofs.tool.answer.Goals as goal

pub returns-in-RunExtension : goal.returns-in-RunExtension
returns-in-RunExtension g c =
    subst (λ k. Answered k (map reading_of c.args.values.items) (g.S.Sink.written c.args.sink.now) (g.S.Sink.written c.answer_run.new.sink) (g.S.Sink.faults c.args.sink.now) (g.S.Sink.faults c.answer_run.new.sink) c.answer_run.result)
    (sym c.in-RunExtension.is) c.answer_run.ensures

pub returns-in-Bench : goal.returns-in-Bench
returns-in-Bench g c =
    subst (λ k. Answered k (map reading_of c.args.values.items) (g.S.Sink.written c.args.sink.now) (g.S.Sink.written c.answer_bench.new.sink) (g.S.Sink.faults c.args.sink.now) (g.S.Sink.faults c.answer_bench.new.sink) c.answer_bench.result)
    (sym c.in-Bench.is) c.answer_bench.ensures

pub returns-in-RunInterrupted : goal.returns-in-RunInterrupted
returns-in-RunInterrupted g c =
    subst (λ k. Answered k (map reading_of c.args.values.items) (g.S.Sink.written c.args.sink.now) (g.S.Sink.written c.answer_run-in-RunInterrupted.new.sink) (g.S.Sink.faults c.args.sink.now) (g.S.Sink.faults c.answer_run-in-RunInterrupted.new.sink) c.answer_run-in-RunInterrupted.result)
    (sym c.in-RunInterrupted.is) c.answer_run-in-RunInterrupted.ensures

pub returns-in-Wave : goal.returns-in-Wave
returns-in-Wave g c =
    subst (λ k. Answered k (map reading_of c.args.values.items) (g.S.Sink.written c.args.sink.now) (g.S.Sink.written c.answer_run-in-Wave.new.sink) (g.S.Sink.faults c.args.sink.now) (g.S.Sink.faults c.answer_run-in-Wave.new.sink) c.answer_run-in-Wave.result)
    (sym c.in-Wave.is) c.answer_run-in-Wave.ensures

pub returns-in-Audit : goal.returns-in-Audit
returns-in-Audit g c =
    subst (λ k. Answered k (map reading_of c.args.values.items) (g.S.Sink.written c.args.sink.now) (g.S.Sink.written c.answer_audit.new.sink) (g.S.Sink.faults c.args.sink.now) (g.S.Sink.faults c.answer_audit.new.sink) c.answer_audit.result)
    (sym c.in-Audit.is) c.answer_audit.ensures

pub returns-in-Barrel : goal.returns-in-Barrel
returns-in-Barrel g c =
    subst (λ k. Answered k (map reading_of c.args.values.items) (g.S.Sink.written c.args.sink.now) (g.S.Sink.written c.answer_barrel.new.sink) (g.S.Sink.faults c.args.sink.now) (g.S.Sink.faults c.answer_barrel.new.sink) c.answer_barrel.result)
    (sym c.in-Barrel.is) c.answer_barrel.ensures

pub returns-in_default : goal.returns-in_default
returns-in_default g c =
    subst (λ (vs : List Value). Answered c.args.command (map reading_of vs) (g.S.Sink.written c.args.sink.now) (g.S.Sink.written c.answer_read.new.sink) (g.S.Sink.faults c.args.sink.now) (g.S.Sink.faults c.answer_read.new.sink) c.answer_read.result)
    c.as_slice.ensures.value c.answer_read.ensures
