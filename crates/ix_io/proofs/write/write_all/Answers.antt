use Rattle.std.proofs.Common.{arith}
use Rattle.std.proofs.lemmas.List.{take_rest}
use Rattle.std.proofs.Math.Seq.{take-add}
use Rattle.ix_io.proofs.Appended.{Appends_more}
use Rattle.ix_io.proofs.write.write_all.Goals as goal

pub loop-at-preserved : goal.loop-at-preserved
loop-at-preserved g c =
    let piece = rw (take_rest c.args.bytes.now c.loop-at.at) at c.in-Ok.ensures.appends in record {
      within = search (arith);
      appends = rw (take-add c.loop-at.at c.in-Ok.count c.args.bytes.now)
          (Appends_more _ _ _ _ _ c.loop-at.invariant.appends piece);
      never_fell = search (arith);
    }
