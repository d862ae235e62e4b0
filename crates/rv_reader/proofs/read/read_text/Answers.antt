use Rattle.std.proofs.Common.{arith, map}
use Rattle.rv_shown.specs.Shown.{shown_in}
use Rattle.rv_reader.proofs.Passing.{line_small, rows_few, map_long}
use Rattle.rv_reader.proofs.States.{bad_state}
use Rattle.rv_reader.proofs.read.read_text.Goals as goal

pub overflow_add-read-2 : goal.overflow_add-read-2
overflow_add-read-2 c =
    let r = c.in-Ok.ensures.read in
    let s = r.state in
    let b = line_small c.args.widths.now c.args.stages c.args.text.now c.in-Ok.read.state c.in-Ok.read.state_line _ r.rows (omega (arith, s.within)) in
    omega (arith, b, s.within, c.requires.short)

pub read_state-requires-clause-small : goal.read_state-requires-clause-small
read_state-requires-clause-small c =
    let r = c.in-Ok.ensures.read in
    let s = r.state in
    let b = line_small c.args.widths.now c.args.stages c.args.text.now c.in-Ok.read.state c.in-Ok.read.state_line _ r.rows (omega (arith, s.within)) in
    omega (arith, b)

pub returns-in-Err-read_state-clause-refused : goal.returns-in-Err-read_state-clause-refused
returns-in-Err-read_state-clause-refused c =
    let r = c.in-Ok.ensures.read in
    let s = r.state in
    let b = line_small c.args.widths.now c.args.stages c.args.text.now c.in-Ok.read.state c.in-Ok.read.state_line _ r.rows (omega (arith, s.within)) in
    let f = rows_few c.args.widths.now c.args.stages c.args.text.now c.in-Ok.read.state c.in-Ok.read.state_line c.in-Ok.read.rows r.rows in
    let m = map_long (shown_in c.args.stages c.args.text.now) c.in-Ok.read.rows in
    bad_state c.args.widths.now c.args.stages c.args.text.now c.in-Ok.read.state c.in-Ok.read.state_line (map (shown_in c.args.stages c.args.text.now) c.in-Ok.read.rows) r.rows (omega (arith, b, f, m, s.within, c.requires.short)) s c.in-Err-read_state.line c.in-Err-read_state.ensures.refused
