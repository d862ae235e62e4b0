use Rattle.std.proofs.Common.{◌≡◌, sym, ap, subst, [], ◌∷◌, map, arith}
use Rattle.std.proofs.lemmas.Grind.{common_steps}
use Rattle.ix_extension.specs.Extensions.{view_extension}
use Rattle.ix_words.specs.declared.command.Command.TheVariants.{Barrel}
use Rattle.ix_words.specs.Readings.{extension_read, sheet_read, image_read, number_read, reading_of}
use Rattle.ix_tool.specs.CommandOutput.{Answered}
use Rattle.ix_tool.proofs.BarrelValues.{two_images}
use Rattle.ix_tool.proofs.turning.barrel_on_sheet.Goals as goal

pub returns : goal.returns
returns g c =
    let x = view_extension c.args.extension in
    let r = two_images x c.args.sheet c.args.values.now c.requires in
    let vs : map reading_of c.args.values.now ≡ image_read r.0 ∷ image_read r.1 ∷ number_read r.2 ∷ [] = ap (map reading_of) r.3 in
    let made : Answered Barrel (extension_read x ∷ sheet_read c.args.sheet ∷ image_read r.0 ∷ image_read r.1 ∷ number_read r.2 ∷ []) (g.S.Sink.written c.args.sink.now) (g.S.Sink.written c.barrel_extension.new.sink) (g.S.Sink.faults c.args.sink.now) (g.S.Sink.faults c.barrel_extension.new.sink) c.barrel_extension.result =
    rw r.3 at c.barrel_extension.ensures in
    subst (λ us. Answered Barrel (extension_read x ∷ sheet_read c.args.sheet ∷ us) (g.S.Sink.written c.args.sink.now) (g.S.Sink.written c.barrel_extension.new.sink) (g.S.Sink.faults c.args.sink.now) (g.S.Sink.faults c.barrel_extension.new.sink) c.barrel_extension.result) (sym vs) made

pub unreachable-requires : goal.unreachable-requires
unreachable-requires g c =
    let e = (two_images (view_extension c.args.extension) c.args.sheet c.args.values.now c.requires).3 in
    grind (arith, common_steps, e)
