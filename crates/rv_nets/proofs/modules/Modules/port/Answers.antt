use Rattle.std.proofs.Common.{◌≡◌, ◌∙◌, ◌<◌, sym, ap, subst, length, Some, arith}
use Rattle.rv_nets.specs.Modules.{all_ports, ports_shown}
use Rattle.std.specs.Prelude.{slice_get}
use Rattle.ix_net.specs.declared.netlist.Port.{Port}
use Rattle.rv_nets.proofs.Placing.{many_places, driver_inside, found}
use Rattle.rv_nets.proofs.modules.Modules.port.Goals as goal

pub index-place-requires : goal.index-place-requires
index-place-requires c =
    let lt : c.args.k < length (all_ports c.self.inside.drivers.items) = subst (λ l. c.args.k < length (all_ports l)) (sym c.self.view_is) c.requires in
    let count : length c.self.inside.places.items ≡ length (all_ports c.self.inside.drivers.items) = ap length c.self.invariant ∙ many_places 0 c.self.inside.drivers.items in
    let held = c.self.inside.places.ok in
    omega (arith, lt, count, held)

pub index-requires : goal.index-requires
index-requires c =
    let lt : c.args.k < length (all_ports c.self.inside.drivers.items) = subst (λ l. c.args.k < length (all_ports l)) (sym c.self.view_is) c.requires in
    let less = driver_inside c.self.inside.drivers.items c.self.inside.places.items c.args.k c.index-place.result.now c.self.invariant lt c.index-place.ensures in
    let held = c.self.inside.drivers.ok in
    omega (arith, less, held)

pub port-requires : goal.port-requires
port-requires c =
    let lt : c.args.k < length (all_ports c.self.inside.drivers.items) = subst (λ l. c.args.k < length (all_ports l)) (sym c.self.view_is) c.requires in
    (found c.self.inside.drivers.items c.self.inside.places.items c.args.k c.index-place.result.now c.self.invariant lt c.index-place.ensures c.index.result.now c.index.ensures).inside

pub returns-clause-value : goal.returns-clause-value
returns-clause-value c =
    let lt : c.args.k < length (all_ports c.self.inside.drivers.items) = subst (λ l. c.args.k < length (all_ports l)) (sym c.self.view_is) c.requires in
    let x = found c.self.inside.drivers.items c.self.inside.places.items c.args.k c.index-place.result.now c.self.invariant lt c.index-place.ensures c.index.result.now c.index.ensures in
    ap (λ l. slice_get (ports_shown l) c.args.k) (sym c.self.view_is) ∙ x.shown ∙ ap Some (sym (c.port.ensures.value x.port x.port_is))

pub returns-clause-width : goal.returns-clause-width
returns-clause-width c = λ p e.
    let lt : c.args.k < length (all_ports c.self.inside.drivers.items) = subst (λ l. c.args.k < length (all_ports l)) (sym c.self.view_is) c.requires in
    let x = found c.self.inside.drivers.items c.self.inside.places.items c.args.k c.index-place.result.now c.self.invariant lt c.index-place.ensures c.index.result.now c.index.ensures in
    let same : Some x.port ≡ Some p = sym x.all ∙ ap (λ l. slice_get (all_ports l) c.args.k) c.self.view_is ∙ e in
    let port : x.port ≡ p = cc in
    c.port.ensures.width x.port x.port_is ∙ ap (λ (q : Port). q.width) port
