use Rattle.std.proofs.Common.{◌≡◌, ℕ, ◌<◌, ◌≤◌, List, [], length, arith, refl, ap, sym, ◌∙◌, subst}
use Rattle.ix_graph.specs.declared.graph.Op.{Op}
use Rattle.ix_netgen.specs.declared.kept.Kept.{Kept}
use Rattle.ix_netgen.specs.Outputs.{all_cells, all_ports, Puts}
use Rattle.ix_netgen.specs.KeptWires.{timetable_of, IsStart}
use Rattle.ix_netgen.proofs.Finish.{last_most, stage_first, finish_valid, finish_serves}
use Rattle.ix_netgen.proofs.generating.generate.Goals as goal

starts_at : (name : List ℕ) (rd last : ℕ) (ops xs : List Op) (net : Rattle.ix_net.specs.declared.netlist.Net.Net) → xs ≡ ops → IsStart name rd last xs net → IsStart name rd last ops net
starts_at name rd last ops xs net e h = (let P : List Op → Type 0 = λ z. IsStart name rd last z net in subst P e h)

puts_at :
    (ops xs : List Op) (kept ws : List Kept) (old new : Rattle.ix_net.specs.declared.netlist.Net.Net) → xs ≡ ops → ws ≡ kept
    → Puts old new (all_cells 0 xs ws) (all_ports 0 xs ws) → Puts old new (all_cells 0 ops kept) (all_ports 0 ops kept)
puts_at ops xs kept ws old new e f h =
    let P : List Op → Type 0 = λ z. Puts old new (all_cells 0 z kept) (all_ports 0 z kept) in
    let Q : List Kept → Type 0 = λ z. Puts old new (all_cells 0 xs z) (all_ports 0 xs z) in
    subst P e (subst Q f h)

most_of : (shape : Rattle.rv_core.specs.declared.Shape.Shape) (times : List ℕ) (last : ℕ) → last ≡ Rattle.ix_ports.specs.Ports.last_from shape.rd times → Rattle.std.proofs.Common.All (λ t. t ≤ 64) times → last < 255
most_of shape times last e h =
    let rd : shape.rd ≤ 64 = omega (arith, shape.lawful) in
    let l = last_most shape.rd times rd h in
    omega arith

pub behaviour-requires-clause-most : goal.behaviour-requires-clause-most
behaviour-requires-clause-most c = most_of c.args.shape c.args.times.now c.last_of-last.result c.last_of-last.ensures c.requires.timed.most

pub behaviour-requires-clause-stage : goal.behaviour-requires-clause-stage
behaviour-requires-clause-stage c =
    stage_first (timetable_of c.args.shape c.args.graph.now c.args.times.now) c.last_of-last.result c.args.name.now c.in_ok-net.net c.last_of-last.ensures
    (starts_at c.args.name.now c.args.shape.rd c.last_of-last.result c.args.graph.now.ops c.as_slice.result.now c.in_ok-net.net c.as_slice.ensures c.in_ok-net.ensures)

pub returns-clause-valid : goal.returns-clause-valid
returns-clause-valid c =
    finish_valid (timetable_of c.args.shape c.args.graph.now c.args.times.now) c.last_of-last.result c.args.name.now c.in_ok-net.net c.behaviour.new.net c.outputs.new.net c.in_ok-kept.kept.items c.requires.valid
    c.last_of-last.ensures (most_of c.args.shape c.args.times.now c.last_of-last.result c.last_of-last.ensures c.requires.timed.most)
    (starts_at c.args.name.now c.args.shape.rd c.last_of-last.result c.args.graph.now.ops c.as_slice.result.now c.in_ok-net.net c.as_slice.ensures c.in_ok-net.ensures)
    c.in_ok-kept.ensures
    (puts_at c.args.graph.now.ops c.as_slice-2.result.now c.in_ok-kept.kept.items c.deref.result.now c.behaviour.new.net c.outputs.new.net c.as_slice-2.ensures c.deref.ensures.value c.in_ok-outputs.ensures) c.requires.plain

pub returns-clause-serves : goal.returns-clause-serves
returns-clause-serves c =
    finish_serves (timetable_of c.args.shape c.args.graph.now c.args.times.now) c.last_of-last.result c.args.name.now c.in_ok-net.net c.behaviour.new.net c.outputs.new.net c.in_ok-kept.kept.items c.requires.valid
    c.last_of-last.ensures (most_of c.args.shape c.args.times.now c.last_of-last.result c.last_of-last.ensures c.requires.timed.most)
    (starts_at c.args.name.now c.args.shape.rd c.last_of-last.result c.args.graph.now.ops c.as_slice.result.now c.in_ok-net.net c.as_slice.ensures c.in_ok-net.ensures)
    c.in_ok-kept.ensures
    (puts_at c.args.graph.now.ops c.as_slice-2.result.now c.in_ok-kept.kept.items c.deref.result.now c.behaviour.new.net c.outputs.new.net c.as_slice-2.ensures c.deref.ensures.value c.in_ok-outputs.ensures) c.requires.plain
