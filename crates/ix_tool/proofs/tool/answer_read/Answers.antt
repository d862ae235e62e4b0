use Rattle.std.proofs.Common.{◌≡◌, sym, ap, refl, subst, List, [], ◌∷◌, map, ℕ}
use Rattle.ix_tree.specs.declared.extension.Extension.{Extension}
use Rattle.ix_extension.specs.Extensions.{view_extension}
use Rattle.ix_words.specs.declared.command.Command.TheVariants.{Assemble}
use Rattle.ix_words.specs.declared.value.Value.{Value}
use Rattle.ix_words.specs.declared.value.Value.TheVariants as value
use Rattle.ix_words.specs.Readings.{extension_read, source_read, reading_of}
use Rattle.ix_tool.specs.CommandOutput.{Takes, Answered}
use Rattle.ix_tool.proofs.tool.answer_read.Goals as goal

-- what an assembly takes
asm_values : (vs : List Value) → Takes Assemble (map reading_of vs) → (x : Extension) × (s : List ℕ) × (vs ≡ value.Extension x ∷ value.Source s ∷ [])
asm_values [] h = absurd h
asm_values (value.Number n ∷ vs) h = absurd h
asm_values (value.Image i ∷ vs) h = absurd h
asm_values (value.Report ∷ vs) h = absurd h
asm_values (value.Source s ∷ vs) h = absurd h
asm_values (value.Sheet s ∷ vs) h = absurd h
asm_values (value.Waits w ∷ vs) h = absurd h
asm_values (value.Lines w ∷ vs) h = absurd h
asm_values (value.Trace w ∷ vs) h = absurd h
asm_values (value.Extension x ∷ []) h = absurd h
asm_values (value.Extension x ∷ value.Number n ∷ vs) h = absurd h
asm_values (value.Extension x ∷ value.Image i ∷ vs) h = absurd h
asm_values (value.Extension x ∷ value.Report ∷ vs) h = absurd h
asm_values (value.Extension x ∷ value.Extension y ∷ vs) h = absurd h
asm_values (value.Extension x ∷ value.Sheet s ∷ vs) h = absurd h
asm_values (value.Extension x ∷ value.Waits w ∷ vs) h = absurd h
asm_values (value.Extension x ∷ value.Lines w ∷ vs) h = absurd h
asm_values (value.Extension x ∷ value.Trace w ∷ vs) h = absurd h
asm_values (value.Extension x ∷ value.Source s ∷ []) h = (x, s, refl)
asm_values (value.Extension x ∷ value.Source s ∷ w ∷ vs) h = absurd h

pub returns-in-Assemble-Extension : goal.returns-in-Assemble-Extension
returns-in-Assemble-Extension g c =
    let arm = c.in-Assemble-Extension in
    let takes : Takes Assemble (map reading_of c.args.values.now) = subst (λ k. Takes k (map reading_of c.args.values.now)) arm.is-0 c.requires.takes in
    let r = asm_values c.args.values.now takes in
    let vs : map reading_of c.args.values.now ≡ extension_read (view_extension r.0) ∷ source_read r.1 ∷ [] = ap (map reading_of) r.2 in
    let made : Answered Assemble (extension_read (view_extension r.0) ∷ source_read r.1 ∷ []) (g.S.Sink.written c.args.sink.now) (g.S.Sink.written c.assemble_source.new.sink) (g.S.Sink.faults c.args.sink.now) (g.S.Sink.faults c.assemble_source.new.sink) c.assemble_source.result =
    rw r.2 at c.assemble_source.ensures in
    subst (λ k. Answered k (map reading_of c.args.values.now) (g.S.Sink.written c.args.sink.now) (g.S.Sink.written c.assemble_source.new.sink) (g.S.Sink.faults c.args.sink.now) (g.S.Sink.faults c.assemble_source.new.sink) c.assemble_source.result) (sym arm.is-0)
    (subst (λ us. Answered Assemble us (g.S.Sink.written c.args.sink.now) (g.S.Sink.written c.assemble_source.new.sink) (g.S.Sink.faults c.args.sink.now) (g.S.Sink.faults c.assemble_source.new.sink) c.assemble_source.result) (sym vs) made)

pub returns-in-Sweep-default : goal.returns-in-Sweep-default
returns-in-Sweep-default g c =
    subst (λ k. Answered k (map reading_of c.args.values.now) (g.S.Sink.written c.args.sink.now) (g.S.Sink.written c.answer_sweep.new.sink) (g.S.Sink.faults c.args.sink.now) (g.S.Sink.faults c.answer_sweep.new.sink) c.answer_sweep.result)
    (sym c.in-Sweep-default.is-0) c.answer_sweep.ensures

pub returns-in-Build-default : goal.returns-in-Build-default
returns-in-Build-default g c =
    subst (λ k. Answered k (map reading_of c.args.values.now) (g.S.Sink.written c.args.sink.now) (g.S.Sink.written c.answer_build.new.sink) (g.S.Sink.faults c.args.sink.now) (g.S.Sink.faults c.answer_build.new.sink) c.answer_build.result)
    (sym c.in-Build-default.is-0) c.answer_build.ensures

pub returns-in-Schedule-default : goal.returns-in-Schedule-default
returns-in-Schedule-default g c =
    subst (λ k. Answered k (map reading_of c.args.values.now) (g.S.Sink.written c.args.sink.now) (g.S.Sink.written c.answer_schedule.new.sink) (g.S.Sink.faults c.args.sink.now) (g.S.Sink.faults c.answer_schedule.new.sink) c.answer_schedule.result)
    (sym c.in-Schedule-default.is-0) c.answer_schedule.ensures

pub returns-in-Seq-default : goal.returns-in-Seq-default
returns-in-Seq-default g c =
    subst (λ k. Answered k (map reading_of c.args.values.now) (g.S.Sink.written c.args.sink.now) (g.S.Sink.written c.answer_seq.new.sink) (g.S.Sink.faults c.args.sink.now) (g.S.Sink.faults c.answer_seq.new.sink) c.answer_seq.result)
    (sym c.in-Seq-default.is-0) c.answer_seq.ensures

pub returns-in-RunImage-default : goal.returns-in-RunImage-default
returns-in-RunImage-default g c =
    subst (λ k. Answered k (map reading_of c.args.values.now) (g.S.Sink.written c.args.sink.now) (g.S.Sink.written c.answer_image.new.sink) (g.S.Sink.faults c.args.sink.now) (g.S.Sink.faults c.answer_image.new.sink) c.answer_image.result)
    (sym c.in-RunImage-default.is-0) c.answer_image.ensures
