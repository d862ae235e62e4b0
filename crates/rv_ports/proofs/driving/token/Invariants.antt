use Rattle.std.proofs.Common.{◌≡◌, drop}
use Rattle.rv_ports.specs.Inputs.{token_at}
use Rattle.rv_ports.proofs.driving.token.Given as goal

abbrev pub invariant-loop-place : goal.invariant-loop-place
invariant-loop-place l = token_at l.driven l.time (drop l.place l.seats) ≡ token_at l.driven l.time l.seats
