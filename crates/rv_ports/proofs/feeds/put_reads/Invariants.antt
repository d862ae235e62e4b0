use Rattle.std.proofs.Common.{◌≡◌, ◌++◌, drop, map}
use Rattle.rv_ports.specs.Feeds.{key_of, read_keys}
use Rattle.rv_ports.proofs.feeds.put_reads.Given as goal

abbrev pub invariant-loop-number : goal.invariant-loop-number
invariant-loop-number l = map key_of l.feeds.items ++ read_keys l.shape l.times l.number (drop l.number l.ops) ≡ map key_of l.initial.feeds.items ++ read_keys l.shape l.times 0 l.ops
