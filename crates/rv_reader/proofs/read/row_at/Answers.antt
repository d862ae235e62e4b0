use Rattle.std.proofs.Common.{◌≡◌, ◌∙◌, sym, ap, subst, arith, length, ◌+◌, ◌≤◌, ℕ}
use Rattle.std.specs.Prelude.{is_some}
use Rattle.rv_shown.specs.Shown.{part_of}
use Rattle.rv_reader.specs.Forms.{IsWord, IsRetiredLine, IsWrittenLine}
use Rattle.rv_reader.specs.Rows.{row_in, read_row}
use Rattle.rv_reader.specs.Traces.{IsSpanAt, bit}
use Rattle.rv_reader.proofs.RowsAt.{bad_end, bad_row, bad_retired, bad_written, row_read, line_of, where_feeds, where_lines}
use Rattle.rv_reader.proofs.read.row_at.Goals as goal

word_of : (n k : ℕ) → n ≡ k → k ≤ 4294967295 → IsWord n
word_of n k e h = omega (arith, e, h)

pub returns-in_default-clause-refused : goal.returns-in_default-clause-refused
returns-in_default-clause-refused c = λ rows r e s. bad_end c.args.widths.now c.args.stages c.args.text.now c.args.at c.args.line rows r (word_of (length rows) c.args.number e (omega (arith, c.ranges.number.fits))) c.in_default.ensures

pub returns-in_default-row-clause-refused : goal.returns-in_default-row-clause-refused
returns-in_default-row-clause-refused c = λ rows r e s.
    bad_row c.args.widths.now c.args.stages c.args.text.now c.args.at c.args.line rows r (word_of (length rows) c.args.number e (omega (arith, c.ranges.number.fits))) c.in-Some.own.now c.in-Some.ensures s
    (ap (λ n. row_in (length c.args.widths.now) c.args.stages n c.in-Some.own.now) e ∙ c.in_default-row.ensures)

pub returns-in_default-retired_at-clause-refused : goal.returns-in_default-retired_at-clause-refused
returns-in_default-retired_at-clause-refused c = λ rows r e s.
    bad_retired c.args.widths.now c.args.stages c.args.text.now c.args.at c.args.line rows r (word_of (length rows) c.args.number e (omega (arith, c.ranges.number.fits))) c.in-Some.own.now c.in-Some.ensures s (read_row c.args.stages c.in-Some-row.found)
    (ap (λ n. row_in (length c.args.widths.now) c.args.stages n c.in-Some.own.now) e ∙ c.in-Some-row.ensures) c.is_some-retires.result c.is_some-retires.ensures c.in_default-retired_at.ensures

pub returns-in_default-written_at-clause-refused : goal.returns-in_default-written_at-clause-refused
returns-in_default-written_at-clause-refused c = λ rows r e s.
    let span = subst (λ b. IsSpanAt (IsRetiredLine c.args.widths.now) b c.args.text.now (c.args.at + length c.in-Some.own.now + 1) c.in-Some-retired_at.retired) c.is_some-retires.ensures c.in-Some-retired_at.ensures in
    let part = part_of c.args.text.now c.in-Some-retired_at.retired in
    bad_written c.args.widths.now c.args.stages c.args.text.now c.args.at c.args.line rows r (word_of (length rows) c.args.number e (omega (arith, c.ranges.number.fits))) c.in-Some.own.now c.in-Some.ensures s (read_row c.args.stages c.in-Some-row.found)
    (ap (λ n. row_in (length c.args.widths.now) c.args.stages n c.in-Some.own.now) e ∙ c.in-Some-row.ensures) part c.in-Some-retired_at.retired.end (line_of (IsRetiredLine c.args.widths.now) c.in-Some-row.found.retired part span.good) span.is
    c.is_some-writes.result _ c.is_some-writes.ensures (where_lines (IsRetiredLine c.args.widths.now) (is_some c.in-Some-row.found.retired) part span.good)
    (ap (λ k. c.args.line + 1 + k) (c.bit_of.ensures ∙ ap bit c.is_some-retires.ensures ∙ sym (where_feeds (IsRetiredLine c.args.widths.now) (is_some c.in-Some-row.found.retired) part span.good))) c.in_default-written_at.ensures

pub returns-clause-read : goal.returns-clause-read
returns-clause-read c =
    row_read c.args.widths.now c.args.stages c.args.number c.args.text.now c.args.at c.in-Some.own.now c.in-Some-row.found c.in-Some-retired_at.retired c.in-Some-written_at.written c.in-Some.ensures c.in-Some-row.ensures
    (subst (λ b. IsSpanAt (IsRetiredLine c.args.widths.now) b c.args.text.now (c.args.at + length c.in-Some.own.now + 1) c.in-Some-retired_at.retired) c.is_some-retires.ensures c.in-Some-retired_at.ensures)
    (subst (λ b. IsSpanAt (IsWrittenLine c.args.widths.now) b c.args.text.now c.in-Some-retired_at.retired.end c.in-Some-written_at.written) c.is_some-writes.ensures c.in-Some-written_at.ensures)
