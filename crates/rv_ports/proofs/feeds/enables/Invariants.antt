use Rattle.std.proofs.Common.{◌≡◌, ◌-◌, ◌++◌, map}
use Rattle.std.specs.List.{range_with_len}
use Rattle.rv_ports.specs.Feeds.{enable_key, enable_keys, key_of}
use Rattle.rv_ports.proofs.feeds.enables.Given as goal

abbrev pub invariant-loop-time : goal.invariant-loop-time
invariant-loop-time l = map key_of l.feeds.items ++ map enable_key (range_with_len l.time (l.last - l.time)) ≡ enable_keys l.rd l.last
