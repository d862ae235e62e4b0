use Rattle.std.proofs.Common.{◌≡◌, ◌≤◌, drop, max}
use Rattle.ix_ports.specs.Ports.{last_from}
use Rattle.rv_ports.proofs.feeds.last_of.Given as goal

abbrev pub invariant-loop-time : goal.invariant-loop-time
invariant-loop-time l = record {
  low : l.rd ≤ l.last;
  whole : max l.last (last_from l.rd (drop l.time-index l.times)) ≡ last_from l.rd l.times;
}
