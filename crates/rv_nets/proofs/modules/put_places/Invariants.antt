use Rattle.std.proofs.Common.{◌≡◌, ◌++◌}
use Rattle.rv_nets.specs.Places.{places_from}
use Rattle.rv_nets.proofs.modules.put_places.Given as goal

-- the ports so far stand behind the others
abbrev pub invariant-loop-port : goal.invariant-loop-port
invariant-loop-port l = l.places.items ≡ l.fn.places.items ++ places_from l.driver 0 l.port
