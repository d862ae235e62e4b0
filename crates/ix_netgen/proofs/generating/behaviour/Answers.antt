use Rattle.std.proofs.Common.{◌+◌, List, sym, subst}
use Rattle.ix_netgen.specs.declared.kept.Kept.{Kept}
use Rattle.ix_netgen.specs.KeptWires.{timetable_of, IsStage}
use Rattle.ix_cells.proofs.Growing.{extends_same, extends_on}
use Rattle.ix_netgen.proofs.Operations.{stage_next}
use Rattle.ix_netgen.proofs.generating.behaviour.Goals as goal

pub loop-number-init : goal.loop-number-init
loop-number-init c =
    let S : List Kept → Type 0 = λ ws. IsStage (timetable_of c.args.shape c.args.graph.now c.args.times.now) c.args.last 0 c.args.net.now ws in
    record { extends = extends_same c.args.net.now; stage = subst S (sym c.new-kept.ensures.items) c.requires.stage }

pub loop-number-preserved : goal.loop-number-preserved
loop-number-preserved c =
    let S : List Kept → Type 0 = λ ws. IsStage (timetable_of c.args.shape c.args.graph.now c.args.times.now) c.args.last (c.loop-number.number + 1) c.operation.new.net ws in
    record {
      extends = extends_on c.loop-number.invariant.extends c.in_ok-made.ensures.extends;
      stage = subst S (sym c.in_ok-push.ensures.items)
          (stage_next (timetable_of c.args.shape c.args.graph.now c.args.times.now) c.args.last c.loop-number.number c.loop-number.net c.operation.new.net c.loop-number.kept.items c.in_ok-made.made
          c.loop-number.invariant.stage c.in_ok-made.ensures);
    }
