use Rattle.std.proofs.Common.{◌≡◌, ◌≤◌, length, take, vec_capacity}
use Rattle.rv_machine.specs.Owing.{targets_owed}
use Rattle.rv_machine.specs.DesignText.{most_targets}
use Rattle.rv_pipe.proofs.running.list_outstanding.Given as goal

abbrev pub invariant-targets : goal.invariant-targets
invariant-targets l = record {
  list : l.list.items ≡ take l.k (targets_owed l.pipeline.machine.owed);
  few : length l.list.items ≤ l.k;
  room : most_targets ≤ vec_capacity l.list;
}
