use Rattle.std.proofs.Common.{take}
use Rattle.std.proofs.lemmas.Option.{MatchOption-at_some, MatchOption-at_none}
use Rattle.ix_verilog.specs.declared.source.Assign.{Assign}
use Rattle.ix_vnets.specs.Tables.{IsCellBy, HasCell}
use Rattle.ix_vnets.proofs.Listed.{zip_more, zip_some, first_at}
use Rattle.ix_vnets.proofs.lines.put_cells.Goals as goal

pub returns-in-None : goal.returns-in-None
returns-in-None c =
    let m = c.args.widths.now in
    let x : Assign = c.index-assigns-number.result in
    first_at (HasCell m) c.args.assigns.now c.loop-number.number x c.index-assigns-number.is c.loop-number-test.true (zip_some (IsCellBy m) (take c.loop-number.number c.args.assigns.now) c.loop-number.cells c.loop-number.invariant)
    (MatchOption-at_none (HasCell m x → ⊥) (IsCellBy m x) c.in-None.is c.in_ok-cell.ensures)

pub loop-number-preserved : goal.loop-number-preserved
loop-number-preserved c =
    let m = c.args.widths.now in
    let x : Assign = c.index-assigns-number.result in
    zip_more (IsCellBy m) c.args.assigns.now c.loop-number.cells c.push.new.self c.loop-number.number x c.in-Some.cell c.index-assigns-number.is c.loop-number-test.true c.loop-number.invariant c.in_ok-push-in-Some.ensures.ok
    (MatchOption-at_some (HasCell m x → ⊥) (IsCellBy m x) c.in-Some.cell c.in-Some.is c.in_ok-cell.ensures)
