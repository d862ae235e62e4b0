use Rattle.std.proofs.Common.{ℕ, ◌<◌, get_or}
use Rattle.ix_cert.specs.Faults.{NamesNone, blank_part}
use Rattle.ix_cert.proofs.steps.first_unnamed_part.Given as goal

abbrev pub invariant-parts : goal.invariant-parts
invariant-parts l = (j : ℕ) → j < l.at → NamesNone l.b.problem (get_or l.b.flow j blank_part).0 → ⊥
