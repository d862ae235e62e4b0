use Rattle.std.proofs.Common.{◌≡◌, ◌<◌, ℕ, false, get_or}
use Rattle.ix_neteval.proofs.Marking.{Flagged}
use Rattle.ix_neteval.proofs.running.mark_banks.Given as goal

abbrev pub invariant-loop-i : goal.invariant-loop-i
invariant-loop-i l = record {
  flagged : Flagged l.values l.banks l.from l.marks l.i;
  kept : (s : ℕ) → s < l.from → get_or l.marks s false ≡ get_or l.initial.marks s false;
}
