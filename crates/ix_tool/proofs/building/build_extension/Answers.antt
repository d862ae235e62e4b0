use Rattle.std.proofs.Common.{[], subst, inl, inr}
use Rattle.ix_extension.specs.Extensions.{view_extension}
use Rattle.ix_words.specs.declared.status.Status.TheVariants.{Ok}
use Rattle.ix_words.specs.declared.command.Command.TheVariants.{Build}
use Rattle.ix_tool.specs.CommandOutput.{Writes}
use Rattle.ix_tool.proofs.Answering.{modules_answered, behaviour_answered}
use Rattle.ix_tool.proofs.building.build_extension.Goals as goal

pub returns-in-Ok : goal.returns-in-Ok
returns-in-Ok g c =
    modules_answered (view_extension c.args.extension.now) c.args.sheet.now (g.S.Sink.written c.args.sink.now) (g.S.Sink.written c.finish.new.sink) (g.S.Sink.faults c.args.sink.now) (g.S.Sink.faults c.finish.new.sink) c.finish.result c.in-Ok.text c.in-Ok.ensures.text
    (subst (λ t. Writes Ok t (g.S.Sink.written c.args.sink.now) (g.S.Sink.written c.finish.new.sink) (g.S.Sink.faults c.args.sink.now) (g.S.Sink.faults c.finish.new.sink) c.finish.result) c.as_slice.ensures c.finish.ensures)

pub returns-in-Err : goal.returns-in-Err
returns-in-Err g c = elim c.refuse.ensures [
  | inl memory ↦ inl memory
  | inr told ↦
      behaviour_answered (view_extension c.args.extension.now) c.args.sheet.now (g.S.Sink.written c.args.sink.now) (g.S.Sink.written c.refuse.new.sink) (g.S.Sink.faults c.args.sink.now) (g.S.Sink.faults c.refuse.new.sink) c.refuse.result
      Build [] tt c.in-Err.error told.0 told.1 c.in-Err.ensures.refused told.2 told.3
]
