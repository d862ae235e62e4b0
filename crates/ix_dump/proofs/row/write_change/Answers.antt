use Rattle.std.proofs.Common.{◌∙◌, ap, sym, refl, ◌++◌}
use Rattle.ix_io.proofs.Appended.{AppendsFront_of_more}
use Rattle.ix_dump.specs.Dump.{change_text, number_before}
use Rattle.ix_dump.proofs.Passing.{passes_behind, passes_empty, at_err}
use Rattle.ix_dump.proofs.row.write_change.Goals as goal

pub returns-then-not-is_shown-clause-whole : goal.returns-then-not-is_shown-clause-whole
returns-then-not-is_shown-clause-whole g c =
    passes_empty (g.S.Sink.written c.args.sink.now) c.args.out.now (change_text c.args.k c.args.now.width (number_before c.args.number c.args.before.raw) c.args.now.raw)
    (c.if-not-is_shown.ensures.hidden refl c.args.k c.args.now.width)

pub returns-in_err-make_room-clause-front : goal.returns-in_err-make_room-clause-front
returns-in_err-make_room-clause-front g c =
    at_err c.from_residual.result
    (AppendsFront_of_more (g.S.Sink.written c.args.sink.now) (g.S.Sink.written c.make_room.new.sink) c.args.out.now
    (change_text c.args.k c.args.now.width (number_before c.args.number c.args.before.raw) c.args.now.raw) c.in_err-make_room.ensures.front)

pub returns-clause-whole : goal.returns-clause-whole
returns-clause-whole g c =
    let waits = c.make_room.new.out in
    passes_behind (g.S.Sink.written c.args.sink.now) (g.S.Sink.written c.make_room.new.sink) c.args.out.now waits c.put_value_line.new.out
    (change_text c.args.k c.args.now.width (number_before c.args.number c.args.before.raw) c.args.now.raw)
    c.in_ok-make_room.ensures.whole (c.put_value_line.ensures ∙ ap (λ l. waits ++ l) (sym (c.if-not-is_shown.ensures.shown refl c.args.k c.args.now.width)))
