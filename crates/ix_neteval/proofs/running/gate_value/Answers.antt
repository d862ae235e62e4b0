use Rattle.std.proofs.Common.{get_or, subst}
use Rattle.ix_net.specs.declared.gates.Gate.{Gate}
use Rattle.ix_neteval.specs.Wired.{GateFits, HasPattern}
use Rattle.ix_neteval.proofs.Masks.{moved_fits}
use Rattle.ix_neteval.proofs.running.gate_value.Goals as goal

pub join-requires-clause-fits : goal.join-requires-clause-fits
join-requires-clause-fits c =
    let P : Gate → Type 0 = λ g. GateFits (HasPattern c.args.values.now) c.args.width g in
    let h = subst P c.in-Join.is c.requires.fits in
    moved_fits (get_or c.args.values.now c.in-Join.high 0) h.0 c.in-Join.width c.args.width h.1.fits h.3 c.requires.most
