use Rattle.std.proofs.Common.{◌≡◌, sym, ap, ℕ, List, [], length}
use Rattle.ix_extension.specs.Extensions.{view_extension}
use Rattle.rv_text.specs.RunText.{lines_from}
use Rattle.rv_text.specs.Telling.{Told}
use Rattle.rv_text.proofs.Parts.{at_ok, at_err, told_first, told_last, told_last_front}
use Rattle.rv_text.proofs.run_writing.write_whole.Goals as goal

pub returns-in-Ok-write_state-clause-whole : goal.returns-in-Ok-write_state-clause-whole
returns-in-Ok-write_state-clause-whole g c =
    let x = view_extension c.args.ext.now in
    let before = g.S.Sink.written c.args.sink.now in
    let whole = lines_from x c.args.image.now c.args.steps 0 c.args.arch.now in
    let t = c.in-Ok.ensures.carries before whole (told_first before c.args.out.now whole c.requires.empty) in
    let u : Told before (g.S.Sink.written c.write_state.new.sink) c.write_state.new.out [] whole = c.in-Ok-write_state.ensures.carries x (sym c.len.ensures) before whole t in
    at_ok c.flush.result (λ a. told_last before (g.S.Sink.written c.write_state.new.sink) (g.S.Sink.written c.flush.new.sink) c.write_state.new.out whole u a) c.flush.ensures.ok

pub returns-in-Ok-write_state-clause-front : goal.returns-in-Ok-write_state-clause-front
returns-in-Ok-write_state-clause-front g c =
    let x = view_extension c.args.ext.now in
    let before = g.S.Sink.written c.args.sink.now in
    let whole = lines_from x c.args.image.now c.args.steps 0 c.args.arch.now in
    let t = c.in-Ok.ensures.carries before whole (told_first before c.args.out.now whole c.requires.empty) in
    let u : Told before (g.S.Sink.written c.write_state.new.sink) c.write_state.new.out [] whole = c.in-Ok-write_state.ensures.carries x (sym c.len.ensures) before whole t in
    at_err c.flush.result (λ f. told_last_front before (g.S.Sink.written c.write_state.new.sink) (g.S.Sink.written c.flush.new.sink) c.write_state.new.out whole u f) c.flush.ensures.front

pub returns-in-Err-write_state-clause-front : goal.returns-in-Err-write_state-clause-front
returns-in-Err-write_state-clause-front g c =
    let x = view_extension c.args.ext.now in
    let before = g.S.Sink.written c.args.sink.now in
    let whole = lines_from x c.args.image.now c.args.steps 0 c.args.arch.now in
    let t = c.in-Ok.ensures.carries before whole (told_first before c.args.out.now whole c.requires.empty) in
    c.in-Err-write_state.ensures.breaks x (sym c.len.ensures) before whole t
