use Rattle.std.proofs.Common.{◌≡◌, sym, ap, subst, ◌∷◌, map}
use Rattle.ix_extension.specs.Extensions.{view_extension}
use Rattle.ix_words.specs.declared.command.Command.TheVariants.{Barrel}
use Rattle.ix_words.specs.declared.value.Value.TheVariants as value
use Rattle.ix_words.specs.Readings.{extension_read, reading_of}
use Rattle.ix_tool.specs.CommandOutput.{Answered}
use Rattle.ix_tool.proofs.PipelineValues.{first_and_rest}
use Rattle.ix_tool.proofs.BarrelValues.{some_behind}
use Rattle.ix_tool.proofs.turning.barrel_with.Goals as goal

pub returns : goal.returns
returns g c =
    let x = view_extension c.args.extension in
    let vs : c.args.values.items ≡ value.Sheet c.in-Sheet.sheet ∷ c.as_slice.result.now =
    first_and_rest c.args.values.items c.as_slice.result.now c.remove.new.self.items (value.Sheet c.in-Sheet.sheet) (some_behind x c.args.values.items c.requires) c.in-Sheet.ensures.value c.in-Sheet.ensures.items c.as_slice.ensures.value in
    subst (λ us. Answered Barrel (extension_read x ∷ us) (g.S.Sink.written c.args.sink.now) (g.S.Sink.written c.barrel_on_sheet.new.sink) (g.S.Sink.faults c.args.sink.now) (g.S.Sink.faults c.barrel_on_sheet.new.sink) c.barrel_on_sheet.result) (sym (ap (map reading_of) vs)) c.barrel_on_sheet.ensures
