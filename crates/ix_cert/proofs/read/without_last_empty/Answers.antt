use Rattle.std.proofs.Common.{◌-◌, arith, Bor, List, ℕ, [], length}
use Rattle.ix_cert.proofs.Outcomes.{last_dropped, last_kept, is_zero, no_zero}
use Rattle.ix_cert.proofs.read.without_last_empty.Goals as goal

abbrev none_line : Bor (List ℕ)
none_line = record { ref_ptr = (0, 0); now = [] }

pub returns-then-is_empty : goal.returns-then-is_empty
returns-then-is_empty c = last_dropped c.args.lines.now (length c.args.lines.now - 1) none_line (omega (arith, c.in-len1-up.len_at_least)) (is_zero c.is_empty.result _ c.is_empty.ensures c.if-is_empty.true)

pub returns-else-is_empty : goal.returns-else-is_empty
returns-else-is_empty c = last_kept c.args.lines.now (length c.args.lines.now - 1) none_line (omega (arith, c.in-len1-up.len_at_least)) (no_zero c.is_empty.result _ c.is_empty.ensures c.if-is_empty.false)
