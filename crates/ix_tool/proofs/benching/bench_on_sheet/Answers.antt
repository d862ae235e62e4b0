use Rattle.std.proofs.Common.{◌≡◌, sym, ap, subst, [], ◌∷◌, map, arith}
use Rattle.std.proofs.lemmas.Grind.{common_steps}
use Rattle.ix_extension.specs.Extensions.{view_extension}
use Rattle.ix_words.specs.declared.command.Command.TheVariants.{Bench}
use Rattle.ix_words.specs.Readings.{extension_read, sheet_read, number_read, reading_of}
use Rattle.ix_tool.specs.CommandOutput.{Answered}
use Rattle.ix_tool.proofs.BenchValues.{two_numbers}
use Rattle.ix_tool.proofs.benching.bench_on_sheet.Goals as goal

pub returns : goal.returns
returns g c =
    let x = view_extension c.args.extension in
    let r = two_numbers x c.args.sheet c.args.values.now c.requires in
    let vs : map reading_of c.args.values.now ≡ number_read r.0 ∷ number_read r.1 ∷ [] = ap (map reading_of) r.2 in
    let made : Answered Bench (extension_read x ∷ sheet_read c.args.sheet ∷ number_read r.0 ∷ number_read r.1 ∷ []) (g.S.Sink.written c.args.sink.now) (g.S.Sink.written c.bench_extension.new.sink) (g.S.Sink.faults c.args.sink.now) (g.S.Sink.faults c.bench_extension.new.sink) c.bench_extension.result =
    rw r.2 at c.bench_extension.ensures in
    subst (λ us. Answered Bench (extension_read x ∷ sheet_read c.args.sheet ∷ us) (g.S.Sink.written c.args.sink.now) (g.S.Sink.written c.bench_extension.new.sink) (g.S.Sink.faults c.args.sink.now) (g.S.Sink.faults c.bench_extension.new.sink) c.bench_extension.result) (sym vs) made

pub unreachable-requires : goal.unreachable-requires
unreachable-requires g c =
    let e = (two_numbers (view_extension c.args.extension) c.args.sheet c.args.values.now c.requires).2 in
    grind (arith, common_steps, e)
