use Rattle.std.proofs.Common.{◌≡◌, ◌≤◌, drop, length}
use Rattle.ix_typing.specs.Texts.{Fields, fields}
use Rattle.ix_check_parts.proofs.pieces.declare_fields.Given as goal

-- the fields of the pieces from `left` on are visible
abbrev pub invariant-loop-left : goal.invariant-loop-left
invariant-loop-left l =
    record {
      within : l.left ≤ length l.all;
      made : fields l.fn.names (drop l.left l.all) ≡ record { names = l.names; at = l.at };
    }

abbrev pub decreases-loop-left : goal.decreases-loop-left
decreases-loop-left l = l.left
