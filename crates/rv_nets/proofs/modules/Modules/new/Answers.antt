use Rattle.std.proofs.Common.{◌≡◌, ◌∙◌, ◌≤◌, ap, length, arith}
use Rattle.rv_nets.specs.Modules.{Driver}
use Rattle.rv_nets.proofs.Making.{as_many, long_drivers}
use Rattle.rv_nets.proofs.modules.Modules.new.Goals as goal

pub places_in-requires : goal.places_in-requires
places_in-requires c =
    let many = as_many c.args.design.now.sheet.shape c.args.design.now.plans c.args.design.now.nets c.requires.fitting in
    let long = ap length (c.deref.ensures.value ∙ c.in_ok-drivers.ensures) in
    let all = long_drivers c.args.design.now 0 c.args.design.now.plans c.args.design.now.nets many in
    let few = c.requires.few in
    omega (arith, long, all, few)
