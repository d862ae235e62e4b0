use Rattle.std.proofs.Common.{◌≡◌, sym, ap, subst, suc, [], length, take, drop, Some, Ok, arith, inl}
use Rattle.std.specs.Prelude.{slice_get}
use Rattle.ix_extension.specs.Extensions.{view_extension}
use Rattle.rv_shown.specs.Shown.{shown_in}
use Rattle.rv_watch.specs.Printed.{widths_of}
use Rattle.rv_watch.specs.Faults.{rows_behind, IsReadAs}
use Rattle.rv_watch.specs.Watched.{setting_of}
use Rattle.rv_audit.specs.Judged.{Judges}
use Rattle.rv_audit.specs.Refused.{IsFault, rows_shown}
use Rattle.rv_audit.proofs.Numbers.{numbers_count, few_rows, parts, row_good, line_is, line_small}
use Rattle.rv_audit.proofs.Rows.{one_more, so_many, row_refused}
use Rattle.rv_audit.proofs.auditing.one_row.Goals as goal

pub line_at-line-requires : goal.line_at-line-requires
line_at-line-requires c =
    let e = ap (λ l. length l) c.requires.read.lines in
    let n = numbers_count 1 c.args.read.now.rows in
    let at = c.requires.at in
    omega (arith, e, n, at)

pub judge-requires-clause-watched : goal.judge-requires-clause-watched
judge-requires-clause-watched c =
    let a = c.args.against.now in
    let d = a.design.now in
    let text = c.args.text.now in
    let read = c.args.read.now in
    let at = c.requires.at in
    let many = so_many a text read.rows c.args.at (omega (arith, at)) in
    let few = few_rows (widths_of (view_extension d.extension)) d.sheet.shape.stages text read.rows (drop read.state text) c.requires.read.trace in
    let short = c.requires.short in
    (rows_behind (setting_of a) [] (rows_shown d text (take c.args.at read.rows)), c.requires.so_far.watched, omega (arith, at, many, few, short))

pub judge-requires-clause-form : goal.judge-requires-clause-form
judge-requires-clause-form c =
    let d = c.args.against.now.design.now in
    let text = c.args.text.now in
    let read = c.args.read.now in
    let widths = widths_of (view_extension d.extension) in
    (widths, row_good widths d.sheet.shape.stages text read.rows (drop read.state text) c.requires.read.trace c.requires.short c.args.at c.row_at-row.result c.row_at-row.ensures)

pub refused-requires : goal.refused-requires
refused-requires c =
    let d = c.args.against.now.design.now in
    let text = c.args.text.now in
    let read = c.args.read.now in
    let line = subst (λ l. slice_get l c.args.at ≡ Some c.line_at-line.result) c.requires.read.lines c.line_at-line.ensures in
    let small = line_small (widths_of (view_extension d.extension)) d.sheet.shape.stages text read.rows (drop read.state text) c.requires.read.trace c.requires.short c.args.at c.row_at-row.result c.row_at-row.ensures c.line_at-line.result line in
    omega (arith, small)

pub returns-in-Ok-None-clause-right : goal.returns-in-Ok-None-clause-right
returns-in-Ok-None-clause-right c =
    let a = c.args.against.now in
    let d = a.design.now in
    let text = c.args.text.now in
    let read = c.args.read.now in
    let at = c.requires.at in
    let earlier = rows_behind (setting_of a) [] (rows_shown d text (take c.args.at read.rows)) in
    let many = so_many a text read.rows c.args.at (omega (arith, at)) in
    let few = few_rows (widths_of (view_extension d.extension)) d.sheet.shape.stages text read.rows (drop read.state text) c.requires.read.trace in
    let short = c.requires.short in
    let told = subst (λ o. Judges a earlier (shown_in d.sheet.shape.stages text c.row_at-row.result) c.judge.new.watch (Ok o)) c.in-Ok-None.field-0-is (c.in-Ok-None.ensures.judged earlier c.requires.so_far.watched (omega (arith, at, many, few, short))) in
    one_more a text read.rows c.args.at c.row_at-row.result c.args.watch.now c.judge.new.watch c.row_at-row.ensures c.requires.so_far told.0 told.1

pub returns-in-Ok-Some-clause-refused : goal.returns-in-Ok-Some-clause-refused
returns-in-Ok-Some-clause-refused c =
    let a = c.args.against.now in
    let d = a.design.now in
    let text = c.args.text.now in
    let read = c.args.read.now in
    let at = c.requires.at in
    let widths = widths_of (view_extension d.extension) in
    let stages = d.sheet.shape.stages in
    let state = drop read.state text in
    let row = c.row_at-row.result in
    let here = c.row_at-row.ensures in
    let before = rows_shown d text (take c.args.at read.rows) in
    let s = shown_in stages text row in
    let rest = rows_shown d text (drop (suc c.args.at) read.rows) in
    let many = so_many a text read.rows c.args.at (omega (arith, at)) in
    let few = few_rows widths stages text read.rows state c.requires.read.trace in
    let short = c.requires.short in
    let told = subst (λ o. Judges a (rows_behind (setting_of a) [] before) s c.judge.new.watch (Ok o)) c.in-Ok-Some.field-0-is (c.in-Ok-Some.ensures.judged (rows_behind (setting_of a) [] before) c.requires.so_far.watched (omega (arith, at, many, few, short))) in
    let line = subst (λ l. slice_get l c.args.at ≡ Some c.line_at-line.result) c.requires.read.lines c.line_at-line.ensures in
    let number = line_is widths stages text read.rows state c.requires.read.trace short c.args.at row here c.line_at-line.result line in
    let whole = subst (λ l. IsReadAs d text l state) (parts widths stages text read.rows state c.requires.read.trace short c.args.at row here) c.requires.read.trace in
    inl (subst (λ e. IsFault d a.image.now a.waits.now text e) (sym c.refused.ensures)
    (row_refused d a.image.now a.waits.now text before s rest state c.in-Ok-Some.fault c.line_at-line.result whole c.requires.so_far.right told number))
