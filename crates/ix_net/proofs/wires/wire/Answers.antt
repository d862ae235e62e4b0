use Rattle.std.proofs.Common.{◌≡◌, ◌≢◌, ◌∙◌, ℕ, List, All, AllPairs, map, ap, subst}
use Rattle.std.specs.declared.vec.Vec.{Vec}
use Rattle.std.specs.declared.alloc.Global.{Global}
use Rattle.std.proofs.lemmas.Option.{MatchOption-at_some, MatchOption-at_none}
use Rattle.ix_net.specs.declared.netlist.Net.{Net}
use Rattle.ix_net.specs.declared.netlist.Port.{Port}
use Rattle.ix_net.specs.declared.netlist.Cell.{Cell}
use Rattle.ix_net.specs.declared.netlist.Bank.{Bank}
use Rattle.ix_net.specs.declared.gates.Gate.{Gate}
use Rattle.ix_net.specs.declared.wires.Latch.{Latch}
use Rattle.ix_net.specs.Chain.{Chain}
use Rattle.ix_net.specs.Forms.{Fits}
use Rattle.ix_net.specs.Order.{Reads, IsOrder}
use Rattle.ix_net.specs.Signals.{signals, number_of, width_of}
use Rattle.ix_net.specs.Tables.{IsDeclared}
use Rattle.ix_net.specs.Valid.{names}
use Rattle.ix_net.specs.Wiring.{IsCellPort, EnablesFit, SourcesFit, cell_gate, latch_of}
use Rattle.ix_net.proofs.NetLemmas.{CellsFit, gates_of_net}
use Rattle.ix_net.proofs.ValidLemmas.{refuse_outputs, refuse_loop, wiring_from}
use Rattle.ix_net.proofs.wires.wire.Goals as goal

-- what each step found
abbrev Table : Net → List Port → Type 0
Table net t = IsDeclared net × (t ≡ signals net)

abbrev Outputs : List Port → ℕ → ℕ → List Port → Vec ℕ Global → Type 0
Outputs t inputs cells outputs v = All (IsCellPort t inputs cells) outputs × (v.items ≡ map (λ (p : Port). number_of t p.name) outputs)

abbrev Latches : List Port → List Bank → Vec Latch Global → Type 0
Latches t banks v = EnablesFit t banks × SourcesFit t banks × (v.items ≡ map (latch_of t) banks)

abbrev Fitting : List Port → List Cell → Type 0
Fitting t cells = All (λ (c : Cell). Fits (width_of t) c.width c.form) cells

abbrev Gates : List Port → List Cell → Vec Gate Global → Type 0
Gates t cells v = Fitting t cells × (v.items ≡ map (cell_gate t) cells)

pub returns-in_default-2 : goal.returns-in_default-2
returns-in_default-2 c =
    let net : Net = c.args.net.now in
    let t : List Port = c.in-Some.table in
    let found : Table net t = MatchOption-at_some (IsDeclared net → ⊥) (Table net) t c.in-Some.is c.in_ok-table.ensures in
    let none : All (IsCellPort t c.len-inputs.result c.len.result) c.as_slice-2.result.now → ⊥ =
    MatchOption-at_none (All (IsCellPort t c.len-inputs.result c.len.result) c.as_slice-2.result.now → ⊥) (Outputs t c.len-inputs.result c.len.result c.as_slice-2.result.now) c.in_default-2.is c.in_ok-outputs.ensures in
    refuse_outputs net t c.len-inputs.result c.len.result c.as_slice-2.result.now found.1 c.len-inputs.ensures c.len.ensures c.as_slice-2.ensures none

pub returns-in_default-5 : goal.returns-in_default-5
returns-in_default-5 c =
    let net : Net = c.args.net.now in
    let t : List Port = c.in-Some.table in
    let found : Table net t = MatchOption-at_some (IsDeclared net → ⊥) (Table net) t c.in-Some.is c.in_ok-table.ensures in
    let gates : Gates t c.as_slice-4.result.now c.in-Some-4.gates =
    MatchOption-at_some (Fitting t c.as_slice-4.result.now → ⊥) (Gates t c.as_slice-4.result.now) c.in-Some-4.gates c.in-Some-4.is c.in_ok-gates.ensures in
    let loop : (k : ℕ) × Chain (Reads c.len-inputs.result c.deref.result.now) k k =
    MatchOption-at_none ((k : ℕ) × Chain (Reads c.len-inputs.result c.deref.result.now) k k) (λ v. IsOrder c.len-inputs.result c.deref.result.now v.items) c.in_default-5.is c.in_ok-order.ensures in
    let cells : c.as_slice-4.result.now ≡ net.cells = c.as_slice-4.ensures in
    let F : List Cell → Type 0 = λ cs. Fitting t cs in
    let G : List Port → Type 0 = λ ps. Fitting ps net.cells in
    let fits : CellsFit net = subst G found.1 (subst F cells gates.0) in
    let same : c.deref.result.now ≡ gates_of_net net =
    c.deref.ensures.value ∙ gates.1 ∙ ap (map (cell_gate t)) cells ∙ ap (λ ps. map (cell_gate ps) net.cells) found.1 in
    refuse_loop net c.len-inputs.result c.deref.result.now c.len-inputs.ensures same fits loop

pub returns : goal.returns
returns c =
    let net : Net = c.args.net.now in
    let t : List Port = c.in-Some.table in
    let found : Table net t = MatchOption-at_some (IsDeclared net → ⊥) (Table net) t c.in-Some.is c.in_ok-table.ensures in
    let gates : Gates t c.as_slice-4.result.now c.in-Some-4.gates =
    MatchOption-at_some (Fitting t c.as_slice-4.result.now → ⊥) (Gates t c.as_slice-4.result.now) c.in-Some-4.gates c.in-Some-4.is c.in_ok-gates.ensures in
    let latches : Latches t c.as_slice-3.result.now c.in-Some-3.latches =
    MatchOption-at_some (EnablesFit t c.as_slice-3.result.now × SourcesFit t c.as_slice-3.result.now → ⊥) (Latches t c.as_slice-3.result.now) c.in-Some-3.latches c.in-Some-3.is c.in_ok-latches.ensures in
    let outputs : Outputs t c.len-inputs.result c.len.result c.as_slice-2.result.now c.in-Some-2.outputs =
    MatchOption-at_some (All (IsCellPort t c.len-inputs.result c.len.result) c.as_slice-2.result.now → ⊥) (Outputs t c.len-inputs.result c.len.result c.as_slice-2.result.now) c.in-Some-2.outputs c.in-Some-2.is c.in_ok-outputs.ensures in
    let order : IsOrder c.len-inputs.result c.deref.result.now c.in-Some-5.order.items =
    MatchOption-at_some ((k : ℕ) × Chain (Reads c.len-inputs.result c.deref.result.now) k k) (λ v. IsOrder c.len-inputs.result c.deref.result.now v.items) c.in-Some-5.order c.in-Some-5.is c.in_ok-order.ensures in
    let distinct : AllPairs (λ x y. x ≢ y) (names c.as_slice.result.now) = c.in_ok-are_distinct.ensures.0 c.if-not-branch.false in
    wiring_from net (record { widths = c.in_ok-widths.widths; gates = c.in-Some-4.gates; order = c.in-Some-5.order; latches = c.in-Some-3.latches; outputs = c.in-Some-2.outputs })
    t c.len-inputs.result c.len.result c.as_slice.result.now c.as_slice-2.result.now c.as_slice-3.result.now c.as_slice-4.result.now c.deref.result.now
    found.1 c.len-inputs.ensures c.len.ensures c.as_slice.ensures c.as_slice-2.ensures c.as_slice-3.ensures c.as_slice-4.ensures c.deref.ensures.value
    found.0 distinct outputs.0 outputs.1 latches.0 latches.1 latches.2 gates.0 gates.1 order c.in_ok-widths.ensures
