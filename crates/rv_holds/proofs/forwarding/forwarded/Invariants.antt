use Rattle.std.proofs.Common.{◌≡◌, ◌+◌, drop}
use Rattle.rv_holds.specs.Forwarding.{forwarded}
use Rattle.rv_holds.proofs.forwarding.forwarded.Given as goal

abbrev pub invariant-loop-further : goal.invariant-loop-further
invariant-loop-further l = forwarded l.shape l.decided l.r (l.stage + l.further) (drop l.further l.older) l.value ≡ forwarded l.shape l.decided l.r l.stage l.older l.value
