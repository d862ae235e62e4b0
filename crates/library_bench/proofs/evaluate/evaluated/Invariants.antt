use Rattle.std.proofs.Common.{◌≡◌, ℕ, map, get_or}
use Rattle.std.specs.Prelude.{IfSome, slice_get}
use Rattle.ix_mean.specs.Core.{u1}
use Rattle.ix_behaviour.specs.Behaviours.{type_of_register}
use Rattle.ix_extension.specs.Extensions.{view_extension}
use Rattle.ix_eval.specs.Scratches.{IsScratchOf}
use Rattle.library_bench.proofs.evaluate.evaluated.Given as goal

abbrev pub invariant-loop : goal.invariant-loop
invariant-loop l = record {
  scratch : IsScratchOf (view_extension l.ext) l.scratch;
  custom : (r : ℕ) → IfSome (slice_get l.inputs.custom r)
      (λ b. b.width ≡ (get_or (map type_of_register l.ext.registers) r u1).width);
}
