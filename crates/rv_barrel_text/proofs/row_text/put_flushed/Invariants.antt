use Rattle.std.proofs.Common.{◌≡◌, ◌≤◌, ◌+◌, ◌*◌, ◌++◌, drop, length, codes}
use Rattle.std.specs.List.{flat_map}
use Rattle.rv_trace.specs.TraceText.{mark_text}
use Rattle.rv_barrel_text.specs.BarrelRowText.{hart_text}
use Rattle.rv_barrel_text.proofs.row_text.put_flushed.Given as goal

abbrev pub invariant-loop-serial : goal.invariant-loop-serial
invariant-loop-serial l = record {
  text : l.out ++ flat_map (mark_text (codes " f" ++ hart_text l.hart)) (drop l.serial-index l.flushed) ≡ l.fn.out ++ flat_map (mark_text (codes " f" ++ hart_text l.hart)) l.flushed;
  few : length l.out ≤ length l.fn.out + 13 * l.serial-index;
}
