use Rattle.std.proofs.Common.{◌≡◌, ◌+◌, drop}
use Rattle.ix_cert.specs.declared.report.CertErr.{CertErr}
use Rattle.ix_cert.specs.Faults.{IsFirstFault, HasNoFault, steps_from, steps_of}
use Rattle.ix_cert.specs.Checks.{lines_in}
use Rattle.ix_cert.proofs.check.check_report.Given as goal

abbrev pub invariant-blocks-2 : goal.invariant-blocks-2
invariant-blocks-2 l =
    (l.line + lines_in (drop l.block-index l.report.blocks) ≡ l.first + 2 + lines_in l.report.blocks)
    × ((e : CertErr) → IsFirstFault (steps_from (drop l.block-index l.report.blocks) l.line) e → IsFirstFault (steps_of l.report l.first) e)
    × (HasNoFault (steps_from (drop l.block-index l.report.blocks) l.line) → HasNoFault (steps_of l.report l.first))
