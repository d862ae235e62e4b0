use Rattle.std.proofs.Common.{◌≡◌, refl, sym, ap, subst, ◌∷◌, map}
use Rattle.ix_words.specs.declared.command.Command.TheVariants.{Barrel}
use Rattle.ix_words.specs.declared.value.Value.TheVariants as value
use Rattle.ix_words.specs.Readings.{reading_of}
use Rattle.ix_tool.specs.CommandOutput.{Answered}
use Rattle.ix_tool.proofs.PipelineValues.{first_and_rest}
use Rattle.ix_tool.proofs.BarrelValues.{some_values}
use Rattle.ix_tool.proofs.turning.answer_barrel.Goals as goal

pub returns : goal.returns
returns g c =
    let vs : c.args.values.items ≡ value.Extension c.in-Extension.extension ∷ c.remove.new.self.items =
    first_and_rest c.args.values.items c.remove.new.self.items c.remove.new.self.items (value.Extension c.in-Extension.extension) (some_values c.args.values.items c.requires) c.in-Extension.ensures.value c.in-Extension.ensures.items refl in
    subst (λ us. Answered Barrel us (g.S.Sink.written c.args.sink.now) (g.S.Sink.written c.barrel_with.new.sink) (g.S.Sink.faults c.args.sink.now) (g.S.Sink.faults c.barrel_with.new.sink) c.barrel_with.result) (sym (ap (map reading_of) vs)) c.barrel_with.ensures
