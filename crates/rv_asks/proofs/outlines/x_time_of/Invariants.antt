use Rattle.std.proofs.Common.{◌≡◌, drop}
use Rattle.rv_asks.specs.Acts.{time_of, writes_own}
use Rattle.rv_asks.proofs.outlines.x_time_of.Given as goal

-- those before write no x register
abbrev pub invariant-acts : goal.invariant-acts
invariant-acts l = time_of writes_own (drop l.act-index l.acts) ≡ time_of writes_own l.acts
