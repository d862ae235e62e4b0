use Rattle.std.proofs.Common.{ℕ, ◌<◌, get_or}
use Rattle.ix_sheet.specs.declared.problem.Bound.TheVariants.{Early}
use Rattle.ix_cert.specs.Faults.{NamesNone}
use Rattle.ix_cert.proofs.steps.first_unnamed.Given as goal

abbrev pub invariant-bounds : goal.invariant-bounds
invariant-bounds l = (j : ℕ) → j < l.at → NamesNone l.b.problem (get_or l.b.cycle j (Early 0)) → ⊥
