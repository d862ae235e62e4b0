use Rattle.std.proofs.Common.{◌≡◌, ◌≤◌, ◌+◌, map, drop}
use Rattle.ix_extension.specs.Extensions.{view_behaviour}
use Rattle.ix_extension.specs.Faults.{count_pc_blocks}
use Rattle.ix_encode.proofs.program_counter.count_pc_blocks.Given as goal

abbrev pub invariant-loop-block : goal.invariant-loop-block
invariant-loop-block l = record { sum : l.count + count_pc_blocks (map view_behaviour (drop l.block-index l.blocks)) ≡ count_pc_blocks (map view_behaviour l.blocks); few : l.count ≤ l.block-index }
