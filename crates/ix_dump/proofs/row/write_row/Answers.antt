use Rattle.std.proofs.Common.{refl}
use Rattle.ix_dump.specs.Dump.{changes_text, raws, row_before, row_line, widths}
use Rattle.ix_dump.proofs.Passing.{breaks_of_more, part_start, part_step, part_last, part_last_breaks, at_err}
use Rattle.ix_dump.proofs.row.write_row.Goals as goal

pub returns-in_err-write_time-clause-front : goal.returns-in_err-write_time-clause-front
returns-in_err-write_time-clause-front g c =
    let values = changes_text (row_before c.args.number (raws c.args.before.now)) 0 (widths c.args.now.now) (raws c.args.now.now) in
    at_err c.from_residual.result
    (breaks_of_more (g.S.Sink.written c.args.sink.now) (g.S.Sink.written c.write_time.new.sink) c.args.out.now (row_line c.args.number) values c.in_err-write_time.ensures.front)

pub returns-clause-whole : goal.returns-clause-whole
returns-clause-whole g c = part_last _ _ c.write_changes.result (part_step (part_start refl) refl c.in_ok-write_time.ensures.whole) c.write_changes.ensures.whole

pub returns-clause-front : goal.returns-clause-front
returns-clause-front g c = part_last_breaks _ c.write_changes.result (part_step (part_start refl) refl c.in_ok-write_time.ensures.whole) c.write_changes.ensures.front
