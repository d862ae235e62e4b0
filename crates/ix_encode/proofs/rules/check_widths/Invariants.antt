use Rattle.std.proofs.Common.{◌≡◌, map, drop}
use Rattle.ix_tree.specs.TypedView.{typed_instr}
use Rattle.ix_extension.specs.Faults.{width_fault}
use Rattle.ix_encode.proofs.rules.check_widths.Given as goal

abbrev pub invariant-loop-instr : goal.invariant-loop-instr
invariant-loop-instr l = width_fault (map typed_instr l.all) ≡ width_fault (map typed_instr (drop l.instr-index l.all))
