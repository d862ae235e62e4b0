use Rattle.std.proofs.Common.{◌≡◌, ◌++◌, take, ◌∙◌, arith}
use Rattle.std.proofs.lemmas.Grind.{common_steps}
use Rattle.ix_io.proofs.Fronts.{IsFront_read}
use Rattle.ix_io.proofs.read.read_all.Goals as goal

pub loop-piece-preserved : goal.loop-piece-preserved
loop-piece-preserved g c =
    let grown : c.extend_from_slice.new.self.items ≡ c.loop-piece.bytes.items ++ take c.in-Ok-read_part.count c.read_part.new.into
    = grind (arith, common_steps) in record {
      kept = c.read_part.ensures.kept ∙ c.loop-piece.invariant.kept;
      none_fell = λ name. omega (arith, c.read_part.ensures.none_fell name, c.loop-piece.invariant.none_fell name);
      room = omega arith;
      front = rw grown (IsFront_read _ _ _ _ _ _ _ c.loop-piece.invariant.kept (omega arith) c.loop-piece.invariant.front
          c.in-Ok-read_part.ensures.placed);
    }
