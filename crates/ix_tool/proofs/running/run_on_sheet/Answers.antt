use Rattle.std.proofs.Common.{◌≡◌, sym, ap, subst, [], ◌∷◌, map, arith, inl, inr}
use Rattle.std.proofs.lemmas.Grind.{common_steps}
use Rattle.ix_extension.specs.Extensions.{view_extension}
use Rattle.ix_words.specs.Readings.{extension_read, sheet_read, image_read, waits_read, lines_read, number_read, reading_of}
use Rattle.ix_tool.specs.CommandOutput.{command_in, Answered}
use Rattle.ix_tool.proofs.PipelineValues.{three_or_four, are_three, are_four}
use Rattle.ix_tool.proofs.running.run_on_sheet.Goals as goal

pub returns-in-Image : goal.returns-in-Image
returns-in-Image g c =
    let x = view_extension c.args.extension in
    let r = are_three c.args.form x c.args.sheet c.args.values.now c.requires c.in-Image.len_below in
    let vs : map reading_of c.args.values.now ≡ image_read r.0 ∷ waits_read r.1 ∷ number_read r.2 ∷ [] = ap (map reading_of) r.3 in
    let made : Answered (command_in c.args.form) (extension_read x ∷ sheet_read c.args.sheet ∷ image_read r.0 ∷ waits_read r.1 ∷ number_read r.2 ∷ []) (g.S.Sink.written c.args.sink.now) (g.S.Sink.written c.run_extension.new.sink) (g.S.Sink.faults c.args.sink.now) (g.S.Sink.faults c.run_extension.new.sink) c.run_extension.result =
    rw r.3 at c.run_extension.ensures in
    subst (λ us. Answered (command_in c.args.form) (extension_read x ∷ sheet_read c.args.sheet ∷ us) (g.S.Sink.written c.args.sink.now) (g.S.Sink.written c.run_extension.new.sink) (g.S.Sink.faults c.args.sink.now) (g.S.Sink.faults c.run_extension.new.sink) c.run_extension.result) (sym vs) made

pub returns-in-Image-2 : goal.returns-in-Image-2
returns-in-Image-2 g c =
    let x = view_extension c.args.extension in
    let r = are_four c.args.form x c.args.sheet c.args.values.now c.requires c.in-Image-2.len_at_least in
    let vs : map reading_of c.args.values.now ≡ image_read r.0 ∷ waits_read r.1 ∷ lines_read r.2 ∷ number_read r.3 ∷ [] = ap (map reading_of) r.4 in
    let made : Answered (command_in c.args.form) (extension_read x ∷ sheet_read c.args.sheet ∷ image_read r.0 ∷ waits_read r.1 ∷ lines_read r.2 ∷ number_read r.3 ∷ []) (g.S.Sink.written c.args.sink.now) (g.S.Sink.written c.run_extension-in-Image-2.new.sink) (g.S.Sink.faults c.args.sink.now) (g.S.Sink.faults c.run_extension-in-Image-2.new.sink) c.run_extension-in-Image-2.result =
    rw r.4 at c.run_extension-in-Image-2.ensures in
    subst (λ us. Answered (command_in c.args.form) (extension_read x ∷ sheet_read c.args.sheet ∷ us) (g.S.Sink.written c.args.sink.now) (g.S.Sink.written c.run_extension-in-Image-2.new.sink) (g.S.Sink.faults c.args.sink.now) (g.S.Sink.faults c.run_extension-in-Image-2.new.sink) c.run_extension-in-Image-2.result) (sym vs) made

pub unreachable-requires : goal.unreachable-requires
unreachable-requires g c = elim (three_or_four c.args.form (view_extension c.args.extension) c.args.sheet c.args.values.now c.requires) [
  | inl three ↦ let e = three.3 in grind (arith, common_steps, e)
  | inr four ↦ let e = four.4 in grind (arith, common_steps, e)
]
