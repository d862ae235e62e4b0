use Rattle.std.proofs.Common.{◌∙◌, sym, ap, subst, ℕ, List}
use Rattle.ix_extension.specs.Extensions.{view_extension}
use Rattle.ix_plan.specs.declared.design.Design.{Design}
use Rattle.rv_text.specs.Telling.{Told}
use Rattle.rv_text.proofs.Parts.{at_ok, at_err, told_first, told_last, told_last_front}
use Rattle.rv_engine.specs.Settings.{first_machine}
use Rattle.rv_pipe.specs.Texts.{text_from}
use Rattle.rv_pipe.proofs.Texts.{end_there}
use Rattle.rv_pipe.proofs.running.tell.Goals as goal

pub returns-in-Ok-write_state-clause-whole : goal.returns-in-Ok-write_state-clause-whole
returns-in-Ok-write_state-clause-whole g c =
    let before = g.S.Sink.written c.args.sink.now in
    let k = c.args.pipeline.now.setting in
    let text = text_from k c.args.cycles (first_machine k) in
    let x = view_extension c.args.design.now.extension in
    let state = end_there k c.write_rows.new.pipeline.machine x c.as_slice.result.now c.arch.result.now (ap (λ (d : Design). view_extension d.extension) c.requires.design) (c.as_slice.ensures.value ∙ c.list_outstanding.ensures.list) c.arch.ensures in
    let rows = c.in-Ok.ensures.carries before text (told_first before c.args.out.now text c.requires.empty) in
    at_ok c.flush.result
    (λ a. told_last before (g.S.Sink.written c.write_state.new.sink) (g.S.Sink.written c.flush.new.sink) c.write_state.new.out text
    (c.in-Ok-write_state.ensures.carries x (sym c.len.ensures) before text (subst (λ (l : List ℕ). Told before (g.S.Sink.written c.write_rows.new.sink) c.write_rows.new.out l text) state rows)) a)
    c.flush.ensures.ok

pub returns-in-Ok-write_state-clause-front : goal.returns-in-Ok-write_state-clause-front
returns-in-Ok-write_state-clause-front g c =
    let before = g.S.Sink.written c.args.sink.now in
    let k = c.args.pipeline.now.setting in
    let text = text_from k c.args.cycles (first_machine k) in
    let x = view_extension c.args.design.now.extension in
    let state = end_there k c.write_rows.new.pipeline.machine x c.as_slice.result.now c.arch.result.now (ap (λ (d : Design). view_extension d.extension) c.requires.design) (c.as_slice.ensures.value ∙ c.list_outstanding.ensures.list) c.arch.ensures in
    let rows = c.in-Ok.ensures.carries before text (told_first before c.args.out.now text c.requires.empty) in
    at_err c.flush.result
    (λ f. told_last_front before (g.S.Sink.written c.write_state.new.sink) (g.S.Sink.written c.flush.new.sink) c.write_state.new.out text
    (c.in-Ok-write_state.ensures.carries x (sym c.len.ensures) before text (subst (λ (l : List ℕ). Told before (g.S.Sink.written c.write_rows.new.sink) c.write_rows.new.out l text) state rows)) f)
    c.flush.ensures.front

pub returns-in-Err-write_state-clause-front : goal.returns-in-Err-write_state-clause-front
returns-in-Err-write_state-clause-front g c =
    let before = g.S.Sink.written c.args.sink.now in
    let k = c.args.pipeline.now.setting in
    let text = text_from k c.args.cycles (first_machine k) in
    let x = view_extension c.args.design.now.extension in
    let state = end_there k c.write_rows.new.pipeline.machine x c.as_slice.result.now c.arch.result.now (ap (λ (d : Design). view_extension d.extension) c.requires.design) (c.as_slice.ensures.value ∙ c.list_outstanding.ensures.list) c.arch.ensures in
    let rows = c.in-Ok.ensures.carries before text (told_first before c.args.out.now text c.requires.empty) in
    c.in-Err-write_state.ensures.breaks x (sym c.len.ensures) before text (subst (λ (l : List ℕ). Told before (g.S.Sink.written c.write_rows.new.sink) c.write_rows.new.out l text) state rows)
