-- Past the last row of the base table there is no instruction.
use Rattle.std.proofs.Common.{◌≡◌, ℕ, ◌≤◌, sym}
use Rattle.std.proofs.lemmas.List.{get_or_past}
use Rattle.rv_base.specs.declared.operation.Operation.{Operation}
use Rattle.rv_base.specs.declared.operation.Operation.TheVariants.{Break}
use Rattle.rv_base.specs.Operations.{operations, operation_at}

pub past : (row : ℕ) → 40 ≤ row → Break ≡ operation_at row
past row le = sym (get_or_past operations row Break le)
