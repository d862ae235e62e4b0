use Rattle.std.proofs.Common.{◌≡◌, ◌++◌, drop}
use Rattle.rv_nets.specs.Places.{places_of}
use Rattle.rv_nets.proofs.modules.places_in.Given as goal

-- with those of the others behind them they are all
abbrev pub invariant-loop-number : goal.invariant-loop-number
invariant-loop-number l = l.places.items ++ places_of l.number (drop l.number l.drivers) ≡ places_of 0 l.drivers
