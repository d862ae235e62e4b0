use Rattle.std.proofs.Common.{◌≡◌, sym, ap, subst, [], ◌∷◌, map}
use Rattle.ix_extension.specs.Extensions.{view_extension}
use Rattle.ix_words.specs.declared.command.Command.TheVariants.{Schedule}
use Rattle.ix_words.specs.Readings.{extension_read, sheet_read, reading_of}
use Rattle.ix_tool.specs.CommandOutput.{Answered}
use Rattle.ix_tool.proofs.SheetValues.{sheet_values}
use Rattle.ix_tool.proofs.tool.answer_schedule.Goals as goal

pub returns : goal.returns
returns g c =
    let r = sheet_values c.args.values.now c.requires in
    let vs : map reading_of c.args.values.now ≡ extension_read (view_extension r.0) ∷ sheet_read r.1 ∷ [] = ap (map reading_of) r.2 in
    let made : Answered Schedule (extension_read (view_extension r.0) ∷ sheet_read r.1 ∷ []) (g.S.Sink.written c.args.sink.now) (g.S.Sink.written c.schedule_extension.new.sink) (g.S.Sink.faults c.args.sink.now) (g.S.Sink.faults c.schedule_extension.new.sink) c.schedule_extension.result = rw r.2 at c.schedule_extension.ensures in
    subst (λ us. Answered Schedule us (g.S.Sink.written c.args.sink.now) (g.S.Sink.written c.schedule_extension.new.sink) (g.S.Sink.faults c.args.sink.now) (g.S.Sink.faults c.schedule_extension.new.sink) c.schedule_extension.result) (sym vs) made
