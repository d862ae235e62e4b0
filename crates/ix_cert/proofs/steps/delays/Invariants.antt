use Rattle.std.proofs.Common.{◌≡◌, ℕ, ◌≤◌, ◌++◌, map, drop, get_or}
use Rattle.ix_cert.proofs.steps.delays.Given as goal

abbrev pub invariant-ops : goal.invariant-ops
invariant-ops l =
    (l.delays.items ++ map (λ node. node.delay) (drop l.node-index l.ops) ≡ map (λ node. node.delay) l.ops)
    × ((k : ℕ) → get_or l.delays.items k 0 ≤ 4294967295)
