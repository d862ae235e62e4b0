use Rattle.std.proofs.Common.{subst}
use Rattle.ix_extension.specs.Extensions.{view_extension}
use Rattle.ix_words.specs.declared.status.Status.TheVariants.{Ok, Extension}
use Rattle.ix_tool.specs.CommandOutput.{Writes}
use Rattle.ix_tool.proofs.Answering.{sweep_answered, large_answered}
use Rattle.ix_tool.proofs.sweeping.sweep_extension.Goals as goal

pub returns-in-Ok : goal.returns-in-Ok
returns-in-Ok g c =
    sweep_answered (view_extension c.args.extension.now) c.args.sheet.now (g.S.Sink.written c.args.sink.now) (g.S.Sink.written c.finish.new.sink) (g.S.Sink.faults c.args.sink.now) (g.S.Sink.faults c.finish.new.sink) c.finish.result c.in-Ok.text c.in-Ok.ensures.text
    (subst (λ t. Writes Ok t (g.S.Sink.written c.args.sink.now) (g.S.Sink.written c.finish.new.sink) (g.S.Sink.faults c.args.sink.now) (g.S.Sink.faults c.finish.new.sink) c.finish.result) c.as_slice.ensures c.finish.ensures)

pub returns-in-Err-TooManyOps : goal.returns-in-Err-TooManyOps
returns-in-Err-TooManyOps g c =
    large_answered (view_extension c.args.extension.now) c.args.sheet.now (g.S.Sink.written c.args.sink.now) (g.S.Sink.written c.finish-in-Err-TooManyOps.new.sink) (g.S.Sink.faults c.args.sink.now) (g.S.Sink.faults c.finish-in-Err-TooManyOps.new.sink) c.finish-in-Err-TooManyOps.result c.in-Err-TooManyOps.line
    (rw c.in-Err-TooManyOps.field-0-is at c.in-Err-TooManyOps.ensures.large)
    (subst (λ t. Writes Extension t (g.S.Sink.written c.args.sink.now) (g.S.Sink.written c.finish-in-Err-TooManyOps.new.sink) (g.S.Sink.faults c.args.sink.now) (g.S.Sink.faults c.finish-in-Err-TooManyOps.new.sink) c.finish-in-Err-TooManyOps.result) c.as_slice-in-Err-TooManyOps.ensures c.finish-in-Err-TooManyOps.ensures)
