use Rattle.ix_extension.specs.Extensions.{view_extension}
use Rattle.ix_eval.specs.Scratches.{IsScratchOf}
use Rattle.net_cases.proofs.token.tokens.Given as goal

abbrev pub invariant-loop : goal.invariant-loop
invariant-loop l = IsScratchOf (view_extension l.ext) l.scratch
