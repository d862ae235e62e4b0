use Rattle.std.proofs.Common.{◌∙◌, ◌-◌, ◌++◌, ap, ℕ, List, Option, None, get_or}
use Rattle.std.specs.Prelude.{replicate, slice_set}
use Rattle.std.specs.Option.{option_or}
use Rattle.ix_eval.specs.Tables.{table}
use Rattle.rv_harts.specs.declared.row.BarrelCell.{BarrelCell}
use Rattle.rv_barrel.proofs.Joining.{more_table}
use Rattle.rv_barrel.proofs.barrel.joined.Goals as goal

pub loop-stage-preserved : goal.loop-stage-preserved
loop-stage-preserved c =
    let f : ℕ → Option BarrelCell = λ stage. option_or (get_or c.args.a.now stage None) (get_or c.args.b.now stage None) in
    let n = c.loop-stage.stage in
    ap (λ (l : List (Option BarrelCell)). slice_set l n c.either.result) c.loop-stage.invariant
    ∙ ap (λ (v : Option BarrelCell). slice_set (table f n ++ replicate (5 - n) None) n v) c.either.ensures
    ∙ more_table f None n 5 c.loop-stage-test.true
