use Rattle.std.proofs.Common.{◌≡◌, ◌∙◌, ◌-◌, sym, subst, length, map, take, drop, true}
use Rattle.std.specs.Prelude.{string_bytes}
use Rattle.ix_words.specs.CommandLine.{bytes_of, behind, slots_of, fits_slots}
use Rattle.ix_words.specs.WordsRead.{AreRead, RoseIn}
use Rattle.ix_words.specs.Readings.{reading_of}
use Rattle.ix_tool.proofs.Headlines.{fit_behind}
use Rattle.ix_tool.proofs.Taking.{takes}
use Rattle.ix_tool.proofs.Outcomes.{none_of, rest_of, usage_outcome, answered_outcome, refused_outcome}
use Rattle.ix_tool.proofs.tool.run_words.Goals as goal

pub read_words-requires : goal.read_words-requires
read_words-requires g c =
    let words = bytes_of c.args.words.now in
    let fits : fits_slots (slots_of c.in-Some.command) (behind words) ≡ true = fit_behind words c.in-Some.command (sym c.command_of.ensures ∙ c.in-Some.is) in
    subst (λ rest. fits_slots c.slots.result.now rest ≡ true) (sym (rest_of c.args.words.now)) (subst (λ slots. fits_slots slots (behind words) ≡ true) (sym c.slots.ensures) fits)

pub answer-requires : goal.answer-requires
answer-requires g c =
    let files = g.F.Shelf.files c.args.shelf.now in
    let vs = map reading_of c.in-Ok.values.items in
    let read : AreRead files c.slots.result.now (bytes_of (take (length c.args.words.now - 1) (drop 1 c.args.words.now))) vs = c.in-Ok.ensures.read in
    let there : AreRead files (slots_of c.in-Some.command) (behind (bytes_of c.args.words.now)) vs =
    subst (λ slots. AreRead files slots (behind (bytes_of c.args.words.now)) vs) c.slots.ensures (subst (λ rest. AreRead files c.slots.result.now rest vs) (rest_of c.args.words.now) read) in
    takes files c.in-Some.command (behind (bytes_of c.args.words.now)) vs there

pub returns-in_default : goal.returns-in_default
returns-in_default g c =
    usage_outcome (g.F.Shelf.files c.args.shelf.now) (RoseIn (g.F.Shelf.faults c.args.shelf.now) (g.F.Shelf.faults c.args.shelf.now)) (bytes_of c.args.words.now) (g.S.Sink.written c.args.sink.now) (g.S.Sink.written c.finish.new.sink) (g.S.Sink.faults c.args.sink.now) (g.S.Sink.faults c.finish.new.sink) c.finish.result
    (sym c.command_of.ensures ∙ none_of c.command_of.result c.in_default.not-Some) c.finish.ensures

pub returns-in-Ok : goal.returns-in-Ok
returns-in-Ok g c =
    answered_outcome (g.F.Shelf.files c.args.shelf.now) (RoseIn (g.F.Shelf.faults c.args.shelf.now) (g.F.Shelf.faults c.read_words.new.shelf)) (bytes_of c.args.words.now) (bytes_of (take (length c.args.words.now - 1) (drop 1 c.args.words.now))) c.slots.result.now c.in-Some.command (map reading_of c.in-Ok.values.items) (g.S.Sink.written c.args.sink.now) (g.S.Sink.written c.answer.new.sink) (g.S.Sink.faults c.args.sink.now) (g.S.Sink.faults c.answer.new.sink) c.answer.result
    (sym c.command_of.ensures ∙ c.in-Some.is) c.slots.ensures (rest_of c.args.words.now) c.in-Ok.ensures.read
    c.answer.ensures

pub returns-in-Err-Line : goal.returns-in-Err-Line
returns-in-Err-Line g c =
    refused_outcome (g.F.Shelf.files c.args.shelf.now) (RoseIn (g.F.Shelf.faults c.args.shelf.now) (g.F.Shelf.faults c.read_words.new.shelf)) (bytes_of c.args.words.now) (bytes_of (take (length c.args.words.now - 1) (drop 1 c.args.words.now))) c.slots.result.now c.in-Some.command c.in-Err-Line.status (string_bytes c.in-Err-Line.line) c.as_bytes.result.now (g.S.Sink.written c.args.sink.now) (g.S.Sink.written c.finish-in-Err-Line.new.sink) (g.S.Sink.faults c.args.sink.now) (g.S.Sink.faults c.finish-in-Err-Line.new.sink) c.finish-in-Err-Line.result
    (sym c.command_of.ensures ∙ c.in-Some.is) c.slots.ensures (rest_of c.args.words.now) (rw c.in-Err-Line.field-0-is at c.in-Err-Line.ensures.refused) (rw c.in-Err-Line.field-0-is at c.as_bytes.ensures.value) (rw c.in-Err-Line.field-0-is at c.finish-in-Err-Line.ensures)
