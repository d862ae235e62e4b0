use Rattle.std.proofs.Common.{◌≡◌, ◌∙◌, sym, ap, ℕ, ◌+◌, ◌<◌, List, length, drop, get_or, Some, arith, ◌++◌}
use Rattle.std.specs.Prelude.{slice_get}
use Rattle.std.proofs.lemmas.Option.{slice_get-get_or, same_Some}
use Rattle.ix_net.specs.declared.netlist.Net.{Net}
use Rattle.ix_neteval.specs.State.{first_state}
use Rattle.ix_plan.specs.declared.design.Plan.{Plan}
use Rattle.ix_ports.specs.Ports.{input_ports}
use Rattle.rv_core.specs.declared.Shape.{Shape}
use Rattle.rv_nets.specs.Kept.{AreFitting}
use Rattle.rv_nets.specs.Modules.{Driver, module_at, drivers_from}
use Rattle.rv_ports.specs.declared.modules.Module.{Module}
use Rattle.rv_nets.proofs.Making.{as_many, fits_at, made_next}
use Rattle.rv_nets.proofs.modules.drivers_in.Goals as goal

-- there are as many nets as plans
net_inside : (shape : Shape) (plans all : List Plan) (nets every : List Net) (n : ℕ) → plans ≡ all → nets ≡ every → AreFitting shape all every → n < length plans → n < length nets
net_inside shape plans all nets every n e f fitting lt =
    let many = as_many shape all every fitting in
    let a = ap length e in
    let b = ap length f in
    omega (arith, many, a, b, lt)

pub bounds-nets-number : goal.bounds-nets-number
bounds-nets-number c =
    net_inside c.args.design.now.sheet.shape c.as_slice-plans.result.now c.args.design.now.plans c.as_slice-nets.result.now c.args.design.now.nets c.loop-number.number c.as_slice-plans.ensures c.as_slice-nets.ensures c.requires.fitting c.loop-number-test.true

-- where the loop stands, the plan and the net have this number in the design
plan_at : (plans all : List Plan) (n : ℕ) (p : Plan) → plans ≡ all → n < length plans → p ≡ get_or plans n p → slice_get all n ≡ Some p
plan_at plans all n p same lt is = ap (λ l. slice_get l n) (sym same) ∙ slice_get-get_or plans n p lt ∙ ap Some (sym is)

net_at : (nets all : List Net) (n : ℕ) (net : Net) → nets ≡ all → n < length nets → net ≡ get_or nets n net → slice_get all n ≡ Some net
net_at nets all n net same lt is = ap (λ l. slice_get l n) (sym same) ∙ slice_get-get_or nets n net lt ∙ ap Some (sym is)

pub new-requires-clause-valid : goal.new-requires-clause-valid
new-requires-clause-valid c =
    let plan = plan_at c.as_slice-plans.result.now c.args.design.now.plans c.loop-number.number c.index-plans-number.result c.as_slice-plans.ensures c.loop-number-test.true c.index-plans-number.is in
    let net = net_at c.as_slice-nets.result.now c.args.design.now.nets c.loop-number.number c.index-nets-number.result c.as_slice-nets.ensures (net_inside c.args.design.now.sheet.shape c.as_slice-plans.result.now c.args.design.now.plans c.as_slice-nets.result.now c.args.design.now.nets c.loop-number.number c.as_slice-plans.ensures c.as_slice-nets.ensures c.requires.fitting c.loop-number-test.true) c.index-nets-number.is in
    (fits_at c.args.design.now.sheet.shape c.args.design.now.plans c.args.design.now.nets c.requires.fitting c.loop-number.number c.index-plans-number.result c.index-nets-number.result plan net).0

pub new-requires-clause-ports : goal.new-requires-clause-ports
new-requires-clause-ports c =
    let plan = plan_at c.as_slice-plans.result.now c.args.design.now.plans c.loop-number.number c.index-plans-number-in-loop-number.result c.as_slice-plans.ensures c.loop-number-test.true c.index-plans-number-in-loop-number.is in
    let net = net_at c.as_slice-nets.result.now c.args.design.now.nets c.loop-number.number c.index-nets-number.result c.as_slice-nets.ensures (net_inside c.args.design.now.sheet.shape c.as_slice-plans.result.now c.args.design.now.plans c.as_slice-nets.result.now c.args.design.now.nets c.loop-number.number c.as_slice-plans.ensures c.as_slice-nets.ensures c.requires.fitting c.loop-number-test.true) c.index-nets-number.is in
    (fits_at c.args.design.now.sheet.shape c.args.design.now.plans c.args.design.now.nets c.requires.fitting c.loop-number.number c.index-plans-number-in-loop-number.result c.index-nets-number.result plan net).1
    ∙ ap (λ (m : Module). input_ports m.shape.rd c.index-plans-number-in-loop-number.result.graph.ops c.index-plans-number-in-loop-number.result.times) (sym c.module_of-driven.ensures)

pub loop-number-preserved : goal.loop-number-preserved
loop-number-preserved c =
    let plan = plan_at c.as_slice-plans.result.now c.args.design.now.plans c.loop-number.number c.index-plans-number.result c.as_slice-plans.ensures c.loop-number-test.true c.index-plans-number.is in
    let other = plan_at c.as_slice-plans.result.now c.args.design.now.plans c.loop-number.number c.index-plans-number-in-loop-number.result c.as_slice-plans.ensures c.loop-number-test.true c.index-plans-number-in-loop-number.is in
    let same : c.index-plans-number-in-loop-number.result ≡ c.index-plans-number.result = same_Some c.index-plans-number-in-loop-number.result c.index-plans-number.result (sym other ∙ plan) in
    let net = net_at c.as_slice-nets.result.now c.args.design.now.nets c.loop-number.number c.index-nets-number.result c.as_slice-nets.ensures (net_inside c.args.design.now.sheet.shape c.as_slice-plans.result.now c.args.design.now.plans c.as_slice-nets.result.now c.args.design.now.nets c.loop-number.number c.as_slice-plans.ensures c.as_slice-nets.ensures c.requires.fitting c.loop-number-test.true) c.index-nets-number.is in
    let is : c.in_ok-driver.driver ≡ record { driven = module_at c.args.design.now c.loop-number.number c.index-plans-number.result; plan = c.index-plans-number.result; state = first_state c.index-nets-number.result } =
    c.in_ok-driver.ensures
    ∙ ap (λ (p : Plan). record { driven = c.module_of-driven.result; plan = p; state = first_state c.index-nets-number.result }) same
    ∙ ap (λ (m : Module). record { driven = m; plan = c.index-plans-number.result; state = first_state c.index-nets-number.result }) c.module_of-driven.ensures in
    ap (λ l. l ++ drivers_from c.args.design.now (c.loop-number.number + 1) (drop (c.loop-number.number + 1) c.args.design.now.plans) (drop (c.loop-number.number + 1) c.args.design.now.nets)) c.in_ok-push.ensures.items
    ∙ made_next c.args.design.now c.loop-number.number c.loop-number.drivers.items c.index-plans-number.result c.index-nets-number.result c.in_ok-driver.driver plan net is c.loop-number.invariant
