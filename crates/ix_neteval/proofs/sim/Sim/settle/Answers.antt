use Rattle.std.proofs.Common.{◌≡◌, ◌∙◌, ◌+◌, ◌<◌, ◌++◌, ℕ, List, Bool, true, false, not, length, map, take, drop, subst, refl, sym, ap, arith}
use Rattle.std.proofs.lemmas.List.{length-map, take_at}
use Rattle.ix_bits.specs.declared.number.Bits.{Bits}
use Rattle.ix_net.specs.declared.netlist.Net.{Net}
use Rattle.ix_net.specs.declared.netlist.Port.{Port}
use Rattle.ix_net.specs.declared.wires.Wiring.{Wiring}
use Rattle.ix_net.specs.Signals.{signals, bank_port}
use Rattle.ix_net.specs.Valuation.{FitPorts, Settles}
use Rattle.ix_net.specs.Wiring.{IsWiring, cell_gate}
use Rattle.ix_net.proofs.FitLemmas.{fit_length}
use Rattle.ix_neteval.specs.State.{State}
use Rattle.ix_neteval.specs.Wired.{AreWired, FitWidths, GateHolds}
use Rattle.ix_neteval.proofs.StateLemmas.{fit_widths, fit_ports, wired_from, settles_from, bank_widths, input_widths, widths_of}
use Rattle.ix_neteval.proofs.sim.Sim.settle.Goals as goal

-- there is one input for each of the net's
input_count : (inputs : List Bits) (state : State) (net : Net) → state.net ≡ net → map (λ (b : Bits). b.width) inputs ≡ widths_of state.net.inputs → length inputs ≡ length net.inputs
input_count inputs state net e h =
    sym (length-map inputs (λ (b : Bits). b.width)) ∙ ap length h ∙ length-map state.net.inputs (λ (p : Port). p.width) ∙ ap (λ (n : Net). length n.inputs) e

-- not all is settled anew where the values are settled
settled_of : (b : Bool) → not b ≡ false → b ≡ true
settled_of true e = refl
settled_of false e = cc

gate_count : (net : Net) (w : Wiring) → IsWiring net w → length w.gates.items ≡ length net.cells
gate_count net w h = ap length h.gates ∙ length-map net.cells (cell_gate (signals net))

pub settle_values-requires-clause-wired : goal.settle_values-requires-clause-wired
settle_values-requires-clause-wired c =
    let net : Net = c.self.inside.net.now in
    let w : Wiring = c.self.inside.wiring in
    let e : length c.args.inputs.now ≡ length net.inputs = input_count c.args.inputs.now c.args.self.now net (sym (ap (λ (s : State). s.net) c.self.view_is)) c.requires in
    let P : ℕ → Type 0 = λ n. AreWired n w.gates.items w.order.items w.widths.items in
    subst P (sym e) (wired_from net w c.self.invariant.valid c.self.invariant.wired)

pub settle_values-requires-clause-fit : goal.settle_values-requires-clause-fit
settle_values-requires-clause-fit c =
    let net : Net = c.self.inside.net.now in
    let P : List ℕ → Type 0 = λ ws. FitWidths ws c.deref_mut-2.result.now in
    let Q : List ℕ → Type 0 = λ vs. FitWidths (widths_of (signals net)) vs in
    subst P (sym c.self.invariant.wired.widths) (subst Q (sym c.deref_mut-2.ensures.value) (fit_widths (signals net) c.self.inside.values.items c.self.invariant.values_fit))

pub settle_values-requires-clause-inputs_fit : goal.settle_values-requires-clause-inputs_fit
settle_values-requires-clause-inputs_fit c =
    let net : Net = c.self.inside.net.now in
    let en : c.args.self.now.net ≡ net = sym (ap (λ (s : State). s.net) c.self.view_is) in
    let e : length c.args.inputs.now ≡ length net.inputs = input_count c.args.inputs.now c.args.self.now net en c.requires in
    c.requires ∙ ap (λ (n : Net). widths_of n.inputs) en ∙ sym (input_widths net (length c.args.inputs.now) e) ∙ ap (take (length c.args.inputs.now)) (sym c.self.invariant.wired.widths)

pub settle_values-requires-clause-banks_fit : goal.settle_values-requires-clause-banks_fit
settle_values-requires-clause-banks_fit c =
    let net : Net = c.self.inside.net.now in
    let w : Wiring = c.self.inside.wiring in
    let m = length c.args.inputs.now + length w.gates.items in
    let e : length c.args.inputs.now ≡ length net.inputs = input_count c.args.inputs.now c.args.self.now net (sym (ap (λ (s : State). s.net) c.self.view_is)) c.requires in
    let em : m ≡ length net.inputs + length net.cells = omega (arith, gate_count net w c.self.invariant.wired) in
    let P : List ℕ → Type 0 = λ ws. FitWidths ws c.deref.result.now in
    let Q : List ℕ → Type 0 = λ vs. FitWidths (widths_of (map bank_port net.banks)) vs in
    subst P (sym (ap (drop m) c.self.invariant.wired.widths ∙ bank_widths net m em))
    (subst Q (sym c.deref.ensures.value) (fit_widths (map bank_port net.banks) c.self.inside.banks.items c.self.invariant.banks_fit))

pub settle_values-requires-clause-marks : goal.settle_values-requires-clause-marks
settle_values-requires-clause-marks c =
    ap length c.deref_mut.ensures.value ∙ c.self.invariant.marks_are ∙ sym (fit_length (signals c.self.inside.net.now) c.self.inside.values.items c.self.invariant.values_fit) ∙ sym (ap length c.deref_mut-2.ensures.value)

pub settle_values-requires-clause-settled : goal.settle_values-requires-clause-settled
settle_values-requires-clause-settled c = λ old.
    let net : Net = c.self.inside.net.now in
    let w : Wiring = c.self.inside.wiring in
    let e : length c.args.inputs.now ≡ length net.inputs = input_count c.args.inputs.now c.args.self.now net (sym (ap (λ (s : State). s.net) c.self.view_is)) c.requires in
    let P : ℕ → Type 0 = λ n. (k : ℕ) → k < length w.gates.items → GateHolds n w.gates.items w.widths.items c.deref_mut-2.result.now k in
    let Q : List ℕ → Type 0 = λ vs. (k : ℕ) → k < length w.gates.items → GateHolds (length net.inputs) w.gates.items w.widths.items vs k in
    subst P (sym e) (subst Q (sym c.deref_mut-2.ensures.value) (c.self.invariant.holding (settled_of c.self.inside.settled old)))

pub invariant_of-self : goal.invariant_of-self
invariant_of-self c =
    let net : Net = c.self.inside.net.now in
    let new : List ℕ = c.settle_values.new.values in
    let old : List ℕ = c.self.inside.values.items in
    let whole : take c.self.inside.values.len (new ++ drop (length new) old) ≡ new =
    take_at new (drop (length new) old) c.self.inside.values.len (omega (arith, c.settle_values.auto.values, ap length c.deref_mut-2.ensures.value, c.self.inside.values.ok.0)) in
    let P : List ℕ → Type 0 = λ ws. FitWidths ws new in
    let Q : List ℕ → Type 0 = λ vs. FitPorts (signals net) vs in
    let w : Wiring = c.self.inside.wiring in
    let e : length c.args.inputs.now ≡ length net.inputs = input_count c.args.inputs.now c.args.self.now net (sym (ap (λ (s : State). s.net) c.self.view_is)) c.requires in
    let marks : List Bool = c.settle_values.new.marks in
    let old_marks : List Bool = c.self.inside.marks.items in
    let same : take c.self.inside.marks.len (marks ++ drop (length marks) old_marks) ≡ marks =
    take_at marks (drop (length marks) old_marks) c.self.inside.marks.len (omega (arith, c.settle_values.auto.marks, ap length c.deref_mut.ensures.value, c.self.inside.marks.ok.0)) in
    let G : ℕ → Type 0 = λ n. (k : ℕ) → k < length w.gates.items → GateHolds n w.gates.items w.widths.items new k in
    let H : List ℕ → Type 0 = λ vs. (k : ℕ) → k < length w.gates.items → GateHolds (length net.inputs) w.gates.items w.widths.items vs k in
    record {
      valid = c.self.invariant.valid;
      wired = c.self.invariant.wired;
      banks_fit = c.self.invariant.banks_fit;
      values_fit = subst Q (sym whole) (fit_ports (signals net) new (subst P c.self.invariant.wired.widths c.settle_values.ensures.fit));
      marks_are = ap length same ∙ c.settle_values.auto.marks ∙ ap length c.deref_mut.ensures.value ∙ c.self.invariant.marks_are;
      holding = λ _. subst H (sym whole) (subst G e c.settle_values.ensures.hold);
    }

pub returns-clause-settled : goal.returns-clause-settled
returns-clause-settled c =
    let net : Net = c.self.inside.net.now in
    let w : Wiring = c.self.inside.wiring in
    let new : List ℕ = c.settle_values.new.values in
    let old : List ℕ = c.self.inside.values.items in
    let raws : List ℕ = map (λ (b : Bits). b.raw) c.args.inputs.now in
    let en : c.args.self.now.net ≡ net = sym (ap (λ (s : State). s.net) c.self.view_is) in
    let eb : c.args.self.now.banks ≡ c.self.inside.banks.items = sym (ap (λ (s : State). s.banks) c.self.view_is) in
    let e : length c.args.inputs.now ≡ length net.inputs = input_count c.args.inputs.now c.args.self.now net en c.requires in
    let whole : take c.self.inside.values.len (new ++ drop (length new) old) ≡ new =
    take_at new (drop (length new) old) c.self.inside.values.len (omega (arith, c.settle_values.auto.values, ap length c.deref_mut-2.ensures.value, c.self.inside.values.ok.0)) in
    let done : Settles net raws c.self.inside.banks.items new =
    settles_from net w (length c.args.inputs.now) raws c.self.inside.banks.items new c.self.invariant.valid c.self.invariant.wired e
    c.settle_values.ensures.fit c.settle_values.ensures.hold c.settle_values.ensures.inputs (c.settle_values.ensures.banks ∙ c.deref.ensures.value) in
    let P : List ℕ → Type 0 = λ vs. Settles net raws c.self.inside.banks.items vs in
    let Q : List ℕ → Type 0 = λ bs. Settles net raws bs (take c.self.inside.values.len (new ++ drop (length new) old)) in
    let R : Net → Type 0 = λ n. Settles n raws c.args.self.now.banks (take c.self.inside.values.len (new ++ drop (length new) old)) in
    subst R (sym en) (subst Q (sym eb) (subst P (sym whole) done))
