use Rattle.std.proofs.Common.{◌≡◌}
use Rattle.ix_extension.specs.Extensions.{view_extension}
use Rattle.ix_mean.specs.Given.{inputs_of}
use Rattle.ix_eval.specs.Scratches.{IsScratchOf}
use Rattle.rv_seq.specs.Memory.{peeked}
use Rattle.rv_seq.specs.WordEffects.{blocks_effect}
use Rattle.rv_seq.proofs.word_effect.blocks_effect.Given as goal

abbrev pub invariant-loop-n : goal.invariant-loop-n
invariant-loop-n l = IsScratchOf (view_extension l.ext) l.scratch × (l.all ≡ blocks_effect (view_extension l.ext) (inputs_of l.inputs (peeked l.memory)) l.n)
