use Rattle.std.proofs.Common.{◌<◌, ℕ, Bool, arith}
use Rattle.std.specs.List.{list_any}
use Rattle.rv_asks.specs.Acts.{spawns_custom}
use Rattle.rv_asks.proofs.Flags.{flags_are}
use Rattle.rv_asks.proofs.outlines.spawned_customs_of.Goals as goal

pub returns : goal.returns
returns c =
    let f : ℕ → Bool = λ r. list_any (spawns_custom r) c.args.own.now in
    flags_are c.loop-r.customs f 16 c.loop-r.invariant.0 (λ r less. let below : r < c.loop-r.r = omega arith in c.loop-r.invariant.1 r below)
