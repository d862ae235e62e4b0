use Rattle.std.proofs.Common.{◌≡◌, ◌≤◌, ◌<◌, length, take, vec_capacity}
use Rattle.rv_harts.specs.BarrelLaws.{image_of}
use Rattle.rv_harts.specs.BarrelRows.{hart_setting}
use Rattle.rv_harts.specs.HartStates.{outstanding_targets}
use Rattle.ix_tool.proofs.turning.list_outstanding.Given as goal

abbrev pub invariant-targets : goal.invariant-targets
invariant-targets l = record {
  list : l.list.items ≡ take l.k (outstanding_targets (hart_setting l.barrel.design (image_of l.barrel.first l.barrel.second l.hart)) l.hart l.barrel.made);
  few : length l.list.items ≤ l.k;
  room : 48 ≤ vec_capacity l.list;
  most : 0 < l.k → length (outstanding_targets (hart_setting l.barrel.design (image_of l.barrel.first l.barrel.second l.hart)) l.hart l.barrel.made) ≤ 48;
}
