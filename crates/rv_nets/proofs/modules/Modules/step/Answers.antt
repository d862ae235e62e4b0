use Rattle.rv_nets.proofs.Placing.{kept_places}
use Rattle.rv_nets.proofs.modules.Modules.step.Goals as goal

pub invariant_of-self : goal.invariant_of-self
invariant_of-self c =
    kept_places c.args.shown.now c.deref_mut.result.now c.self.inside.drivers.items c.step_all.new.drivers c.self.inside.drivers.len c.self.inside.places.items c.deref_mut.ensures.value c.step_all.ensures c.self.inside.drivers.ok.0 c.self.invariant
