use Rattle.std.proofs.Common.{◌≡◌, ◌≤◌, ◌-◌, ◌++◌, take, drop, length}
use Rattle.std.specs.Prelude.{vec_capacity}
use Rattle.rv_barrel.specs.Owing.{without_serial}
use Rattle.rv_barrel.proofs.owing.take_out.Given as goal

abbrev pub invariant-loop-place : goal.invariant-loop-place
invariant-loop-place l = record {
  inside : l.place ≤ length l.owed.items;
  done : take l.place l.owed.items ++ without_serial l.out (drop l.place l.owed.items) ≡ without_serial l.out l.fn.owed.items;
  capacity : vec_capacity l.owed ≡ vec_capacity l.fn.owed;
}

abbrev pub decreases-loop-place : goal.decreases-loop-place
decreases-loop-place l = length l.owed.items - l.place
