use Rattle.std.proofs.Common.{◌≡◌, All}
use Rattle.ix_bits.specs.declared.number.Bits.{Bits}
use Rattle.number_cases.proofs.cells.entries.Given as goal

abbrev pub invariant-loop : goal.invariant-loop
invariant-loop l = All (λ (e : Bits). e.width ≡ l.width) l.entries.items
