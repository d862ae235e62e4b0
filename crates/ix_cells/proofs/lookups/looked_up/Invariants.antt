use Rattle.std.proofs.Common.{◌≤◌, ◌-◌, ◌^◌, length, map, [], ◌∷◌}
use Rattle.ix_bits.specs.declared.number.Bits.{Bits}
use Rattle.ix_cells.specs.Tables.{AddsAll}
use Rattle.ix_cells.proofs.WireLists.{entry_at}
use Rattle.ix_cells.proofs.lookups.looked_up.Given as goal

abbrev pub invariant-loop-place : goal.invariant-loop-place
invariant-loop-place l = record {
  count : 2 ^ (l.index.width - l.place) ≤ length l.wires.items;
  all : AddsAll (l.index ∷ []) l.fn.net l.net l.wires.items l.width (entry_at (map (λ (e : Bits). e.raw) l.entries) l.index l.place);
}
