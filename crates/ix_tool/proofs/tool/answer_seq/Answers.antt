use Rattle.std.proofs.Common.{◌≡◌, sym, ap, subst, [], ◌∷◌, map}
use Rattle.ix_extension.specs.Extensions.{view_extension}
use Rattle.ix_words.specs.declared.command.Command.TheVariants.{Seq}
use Rattle.ix_words.specs.Readings.{extension_read, image_read, number_read, reading_of}
use Rattle.ix_tool.specs.CommandOutput.{Answered}
use Rattle.ix_tool.proofs.SheetValues.{seq_values}
use Rattle.ix_tool.proofs.Answering.{steps_answered}
use Rattle.ix_tool.proofs.tool.answer_seq.Goals as goal

pub returns : goal.returns
returns g c =
    let r = seq_values c.args.values.now c.requires in
    let vs : map reading_of c.args.values.now ≡ extension_read (view_extension r.0) ∷ image_read r.1 ∷ number_read r.2 ∷ [] = ap (map reading_of) r.3 in
    let made : Answered Seq (extension_read (view_extension r.0) ∷ image_read r.1 ∷ number_read r.2 ∷ []) (g.S.Sink.written c.args.sink.now) (g.S.Sink.written c.run_steps.new.sink) (g.S.Sink.faults c.args.sink.now) (g.S.Sink.faults c.run_steps.new.sink) c.run_steps.result =
    steps_answered (view_extension r.0) (g.S.Sink.written c.args.sink.now) (g.S.Sink.written c.run_steps.new.sink) (g.S.Sink.faults c.args.sink.now) (g.S.Sink.faults c.run_steps.new.sink) c.run_steps.result r.1 r.2 (rw r.3 at c.run_steps.ensures) in
    subst (λ us. Answered Seq us (g.S.Sink.written c.args.sink.now) (g.S.Sink.written c.run_steps.new.sink) (g.S.Sink.faults c.args.sink.now) (g.S.Sink.faults c.run_steps.new.sink) c.run_steps.result) (sym vs) made
