use Rattle.std.proofs.Common.{◌≡◌, ◌-◌, ◌++◌, get_or, None}
use Rattle.std.specs.Prelude.{replicate}
use Rattle.std.specs.Option.{option_or}
use Rattle.ix_eval.specs.Tables.{table}
use Rattle.rv_barrel.proofs.barrel.joined.Given as goal

abbrev pub invariant-loop-stage : goal.invariant-loop-stage
invariant-loop-stage l = l.all ≡ table (λ stage. option_or (get_or l.a stage None) (get_or l.b stage None)) l.stage ++ replicate (5 - l.stage) None
