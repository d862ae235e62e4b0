-- A valid net by name and by number.
use Rattle.std.proofs.Common.{◌≡◌, ℕ, zero, suc, ◌+◌, ◌<◌, ◌^◌, List, [], ◌∷◌, ◌++◌, eqb, Option, Some, None, unwrap_or, length, map, get_or, take, drop, replicate, arith, ap, sym, ◌∙◌, subst, All, Contains}
use Rattle.std.specs.Option.{option_and_then}
use Rattle.std.specs.Prelude.{slice_get}
use Rattle.std.proofs.lemmas.Bool.{cond_both}
use Rattle.std.proofs.lemmas.Grind.{same_number_lists}
use Rattle.std.proofs.lemmas.List.{length-map, map-append, get_or-map, get_or-replicate, get_or_default, take_at, drop_at, append_assoc, length-replicate}
use Rattle.std.proofs.lemmas.List.Elements.{All-contains, recursion_from_All}
use Rattle.std.proofs.lemmas.Nat.{pow_pos}
use Rattle.std.proofs.lemmas.Option.{slice_get-get_or, slice_get_within, get_or_from_slice_get, same_Some}
use Rattle.ix_net.specs.declared.netlist.Net.{Net}
use Rattle.ix_net.specs.declared.netlist.Port.{Port}
use Rattle.ix_net.specs.declared.netlist.Cell.{Cell}
use Rattle.ix_net.specs.declared.netlist.Bank.{Bank}
use Rattle.ix_net.specs.declared.netlist.Form.{Form}
use Rattle.ix_net.specs.declared.netlist.Form.TheVariants.{Hex, Copy, Add, Sub, Mul, And, Or, Xor, Not, Eq, Lt, LtSigned, Join, Range, Choose}
use Rattle.ix_net.specs.declared.gates.Gate.{Gate}
use Rattle.ix_net.specs.declared.wires.Latch.{Latch}
use Rattle.ix_net.specs.declared.wires.Wiring.{Wiring}
use Rattle.ix_net.specs.Forms.{operands, Fits}
use Rattle.ix_net.specs.Gates.{gate_of, gate_result}
use Rattle.ix_net.specs.Order.{IsOrder, gate_at}
use Rattle.ix_net.specs.Run.{next_bank, next_banks}
use Rattle.ix_net.specs.Signals.{signals, cell_port, bank_port, place_of, width_of, number_of, bits_of}
use Rattle.ix_net.specs.Valid.{IsValid, IsWidth}
use Rattle.ix_net.specs.Valuation.{FitPorts, Settles, value_of, right_side}
use Rattle.ix_net.specs.Wiring.{IsWiring, cell_gate, latch_of}
use Rattle.ix_net.proofs.FitLemmas.{fit_length, fit_at, fit_from, value_at_place, value_of_cell, value_fits}
use Rattle.ix_net.proofs.FormLemmas.{gate_result-gate_of, result_of-same}
use Rattle.ix_net.proofs.NetLemmas.{Apart, gates_of_net, slice_get_some, slice_get_mapped, contains_from_slice_get, signal_cell, signal_bank, signals_length, front_length, place_of-at, placed_from_width, operand_placed, number_from_place, gate_at_cell, cell_fits}
use Rattle.ix_net.proofs.TableLemmas.{place_within, width_at_place}
use Rattle.ix_net.proofs.ValidLemmas.{apart_of, cell_port_from}
use Rattle.ix_neteval.specs.Wired.{GateFits, FitWidths, AreWired, GateHolds, latched}

-- widths of ports
abbrev pub widths_of : List Port → List ℕ
widths_of ports = map (λ (p : Port). p.width) ports

pub port_of_width : (ports : List Port) (i w : ℕ) → slice_get (widths_of ports) i ≡ Some w → (p : Port) × (slice_get ports i ≡ Some p) × (p.width ≡ w)
port_of_width ports i w h =
    let size : length (widths_of ports) ≡ length ports = length-map ports (λ (p : Port). p.width) in
    let l : i < length ports = (let lw = slice_get_within (widths_of ports) i w h in omega arith) in
    let p = slice_get_some ports i l in
    (p.0, p.1, same_Some p.0.width w (sym (slice_get_mapped (λ (p : Port). p.width) ports i p.0 p.1) ∙ h))

pub fit_widths : (ports : List Port) (values : List ℕ) → FitPorts ports values → FitWidths (widths_of ports) values
fit_widths ports values h =
    record {
      size = fit_length ports values h ∙ sym (length-map ports (λ (p : Port). p.width));
      fit = λ i w g. (let p = port_of_width ports i w g in let P : ℕ → Type 0 = λ v. get_or values i 0 < 2 ^ v in subst P p.2 (fit_at ports values h i p.0 p.1));
    }

pub fit_ports : (ports : List Port) (values : List ℕ) → FitWidths (widths_of ports) values → FitPorts ports values
fit_ports ports values h =
    fit_from ports values (h.size ∙ length-map ports (λ (p : Port). p.width)) (λ i p g. h.fit i p.width (slice_get_mapped (λ (p : Port). p.width) ports i p g))

-- the number of a name has its width
width_at_number : (o : Option ℕ) (g : ℕ → Option ℕ) (v : ℕ) → option_and_then g o ≡ Some v → g (unwrap_or o 0) ≡ Some v
width_at_number None g v h = absurd (cc)
width_at_number (Some i) g v h = h

has_width : (ports : List Port) (n : List ℕ) (v : ℕ) → width_of ports n ≡ Some v → slice_get (widths_of ports) (number_of ports n) ≡ Some v
has_width ports n v h = width_at_number (place_of ports n) (slice_get (widths_of ports)) v h

bits_are : (ports : List Port) (n : List ℕ) (v : ℕ) → width_of ports n ≡ Some v → bits_of ports n ≡ v
bits_are ports n v h = ap (λ o. unwrap_or o 0) h

-- the widths agree by number where they agree by name
abbrev HasWidth : List Port → ℕ → ℕ → Type 0
HasWidth ports i v = slice_get (widths_of ports) i ≡ Some v

hex_fits : (raw width w : ℕ) → raw < 2 ^ width → width ≡ w → raw < 2 ^ w
hex_fits raw width w l e = let P : ℕ → Type 0 = λ n. raw < 2 ^ n in subst P e l

gate_fits_of : (ports : List Port) (w : ℕ) (f : Form) → Fits (width_of ports) w f → GateFits (HasWidth ports) w (gate_of (number_of ports) (bits_of ports) f)
gate_fits_of ports w (Hex d) h = hex_fits d.raw d.width w d.in_width h
gate_fits_of ports w (Copy a) h = has_width ports a w h
gate_fits_of ports w (Add a b) h = (has_width ports a w h.0, has_width ports b w h.1)
gate_fits_of ports w (Sub a b) h = (has_width ports a w h.0, has_width ports b w h.1)
gate_fits_of ports w (Mul a b) h = (has_width ports a w h.0, has_width ports b w h.1)
gate_fits_of ports w (And a b) h = (has_width ports a w h.0, has_width ports b w h.1)
gate_fits_of ports w (Or a b) h = (has_width ports a w h.0, has_width ports b w h.1)
gate_fits_of ports w (Xor a b) h = (has_width ports a w h.0, has_width ports b w h.1)
gate_fits_of ports w (Not a) h = has_width ports a w h
gate_fits_of ports w (Eq a b) h = (h.0, (h.1.0, has_width ports a h.1.0 h.1.1, has_width ports b h.1.0 h.1.2))
gate_fits_of ports w (Lt a b) h = (h.0, (h.1.0, has_width ports a h.1.0 h.1.1, has_width ports b h.1.0 h.1.2))
gate_fits_of ports w (LtSigned a b) h =
    let P : ℕ → Type 0 = λ v. HasWidth ports (number_of ports a) v × HasWidth ports (number_of ports b) v in
    let both = subst P (sym (bits_are ports a h.1.0 h.1.1)) (has_width ports a h.1.0 h.1.1, has_width ports b h.1.0 h.1.2) in
    (h.0, both.0, both.1)
gate_fits_of ports w (Join a b) h =
    let P : ℕ → Type 0 = λ v. HasWidth ports (number_of ports b) v × (w ≡ h.0 + v) in
    let low = subst P (sym (bits_are ports b h.1 h.3)) (has_width ports b h.1 h.3, h.4) in
    (h.0, has_width ports a h.0 h.2, low.0, low.1)
gate_fits_of ports w (Range a hi lo) h = (h.0, has_width ports a h.0 h.1, h.2, h.3, h.4)
gate_fits_of ports w (Choose c a b) h = (has_width ports c 1 h.0, has_width ports a w h.1, has_width ports b w h.2)

-- the wiring of a valid net agrees
cell_width : (net : Net) (k w : ℕ) (c : Cell) → slice_get net.cells k ≡ Some c → slice_get (widths_of (signals net)) (length net.inputs + k) ≡ Some w → c.width ≡ w
cell_width net k w c hk h = same_Some c.width w (sym (slice_get_mapped (λ (p : Port). p.width) (signals net) (length net.inputs + k) (cell_port c) (signal_cell net k c hk)) ∙ h)

wired_net : (net : Net) (order : List ℕ) → IsValid net → IsOrder (length net.inputs) (gates_of_net net) order → AreWired (length net.inputs) (gates_of_net net) order (widths_of (signals net))
wired_net net order valid h =
    let size : length (gates_of_net net) ≡ length net.cells = length-map net.cells (cell_gate (signals net)) in
    record {
      ordered = h;
      room = omega (arith, signals_length net, length-map (signals net) (λ (p : Port). p.width));
      wide = λ i w g. (let p = port_of_width (signals net) i w g in subst IsWidth p.2 (All-contains (λ (p : Port). IsWidth p.width) (signals net) p.0 valid.widths (contains_from_slice_get (signals net) i p.0 p.1)));
      gates_fit = λ k w l g.
          (let c = slice_get_some net.cells k (omega arith) in
          let fits = gate_fits_of (signals net) c.0.width c.0.form (cell_fits net k c.0 valid.cells_fit c.1) in
          let P : ℕ → Type 0 = λ v. GateFits (HasWidth (signals net)) v (gate_at (gates_of_net net) k) in
          let Q : Gate → Type 0 = λ x. GateFits (HasWidth (signals net)) c.0.width x in
          subst P (cell_width net k w c.0 c.1 g) (subst Q (sym (gate_at_cell net k c.0 c.1)) fits));
    }

pub wired_from : (net : Net) (w : Wiring) → IsValid net → IsWiring net w → AreWired (length net.inputs) w.gates.items w.order.items w.widths.items
wired_from net w valid h =
    let O : List Gate → Type 0 = λ gs. IsOrder (length net.inputs) gs w.order.items in
    let A : List Gate → Type 0 = λ gs. AreWired (length net.inputs) gs w.order.items (widths_of (signals net)) in
    let B : List ℕ → Type 0 = λ ws. AreWired (length net.inputs) w.gates.items w.order.items ws in
    subst B (sym h.widths) (subst A (sym h.gates) (wired_net net w.order.items valid (subst O h.gates h.order)))

-- the value of a declared name is that of its number
pub value_at_number : (net : Net) (values : List ℕ) (n : List ℕ) (v : ℕ) → width_of (signals net) n ≡ Some v → value_of net values n ≡ get_or values (number_of (signals net) n) 0
value_at_number net values n v h =
    let p = placed_from_width (signals net) n v h in
    value_at_place net values n p.0 p.1 ∙ ap (λ i. get_or values i 0) (sym (number_from_place (signals net) n p.0 p.1))

pub number_within : (net : Net) (values : List ℕ) (n : List ℕ) (v : ℕ) → FitPorts (signals net) values → width_of (signals net) n ≡ Some v → number_of (signals net) n < length values
number_within net values n v fit h =
    let p = placed_from_width (signals net) n v h in
    omega (arith, place_within (signals net) n p.0 p.1, number_from_place (signals net) n p.0 p.1, fit_length (signals net) values fit)

-- a cell whose right side holds by number holds by name
right_side_by_number :
    (net : Net) (values : List ℕ) (k : ℕ) (c : Cell) → IsValid net → slice_get net.cells k ≡ Some c
    → gate_result (λ i. get_or values i 0) c.width (cell_gate (signals net) c) ≡ right_side net values c
right_side_by_number net values k c valid hk =
    gate_result-gate_of (λ i. get_or values i 0) (number_of (signals net)) (bits_of (signals net)) c.width c.form
    ∙ result_of-same (λ n. get_or values (number_of (signals net) n) 0) (value_of net values) (bits_of (signals net)) c.width c.form
    (recursion_from_All (λ n. get_or values (number_of (signals net) n) 0 ≡ value_of net values n) (operands c.form) (λ j d l.
    (let n : List ℕ = get_or (operands c.form) j d in
    let within : Contains (operands c.form) n = (j, l, get_or_default (operands c.form) j n d l) in
    let p = operand_placed (signals net) c.width c.form (cell_fits net k c valid.cells_fit hk) n within in
    ap (λ i. get_or values i 0) (number_from_place (signals net) n p.0 p.1) ∙ sym (value_at_place net values n p.0 p.1))))

-- values that hold by number are a valuation
settles_net :
    (net : Net) (inputs banks values : List ℕ) → IsValid net → FitWidths (widths_of (signals net)) values
    → ((k : ℕ) → k < length (gates_of_net net) → GateHolds (length net.inputs) (gates_of_net net) (widths_of (signals net)) values k)
    → take (length net.inputs) values ≡ inputs → drop (length net.inputs + length net.cells) values ≡ banks → Settles net inputs banks values
settles_net net inputs banks values valid fit hold front back =
    let size : length (gates_of_net net) ≡ length net.cells = length-map net.cells (cell_gate (signals net)) in
    let apart : Apart net = apart_of net valid.distinct in
    record {
      valuation = record {
        fit = fit_ports (signals net) values fit;
        holds = λ k d l.
            (let c : Cell = get_or net.cells k d in
            let hk : slice_get net.cells k ≡ Some c = slice_get-get_or net.cells k d l in
            let width : get_or (widths_of (signals net)) (length net.inputs + k) 0 ≡ c.width =
            get_or_from_slice_get (widths_of (signals net)) (length net.inputs + k) c.width 0 (slice_get_mapped (λ (p : Port). p.width) (signals net) (length net.inputs + k) (cell_port c) (signal_cell net k c hk)) in
            value_of_cell net apart values k c hk ∙ hold k (omega arith)
            ∙ ap (λ w. gate_result (λ i. get_or values i 0) w (gate_at (gates_of_net net) k)) width
            ∙ ap (gate_result (λ i. get_or values i 0) c.width) (gate_at_cell net k c hk)
            ∙ right_side_by_number net values k c valid hk);
      };
      inputs_same = front;
      banks_same = back;
    }

pub settles_from :
    (net : Net) (w : Wiring) (first : ℕ) (inputs banks values : List ℕ) → IsValid net → IsWiring net w → first ≡ length net.inputs → FitWidths w.widths.items values
    → ((k : ℕ) → k < length w.gates.items → GateHolds first w.gates.items w.widths.items values k)
    → take first values ≡ inputs → drop (first + length w.gates.items) values ≡ banks → Settles net inputs banks values
settles_from net w first inputs banks values valid h e fit hold front back =
    let F : List ℕ → Type 0 = λ ws. FitWidths ws values in
    let H1 : List ℕ → Type 0 = λ ws. (k : ℕ) → k < length w.gates.items → GateHolds first w.gates.items ws values k in
    let H2 : List Gate → Type 0 = λ gs. (k : ℕ) → k < length gs → GateHolds first gs (widths_of (signals net)) values k in
    let H3 : ℕ → Type 0 = λ n. (k : ℕ) → k < length (gates_of_net net) → GateHolds n (gates_of_net net) (widths_of (signals net)) values k in
    let size : length w.gates.items ≡ length net.cells = ap length h.gates ∙ length-map net.cells (cell_gate (signals net)) in
    settles_net net inputs banks values valid (subst F h.widths fit) (subst H3 e (subst H2 h.gates (subst H1 h.widths hold)))
    (ap (λ n. take n values) (sym e) ∙ front) (ap (λ n. drop n values) (omega arith) ∙ back)

-- the widths of inputs and banks are parts of those of the signals
pub input_widths : (net : Net) (n : ℕ) → n ≡ length net.inputs → take n (widths_of (signals net)) ≡ widths_of net.inputs
input_widths net n e =
    let f : Port → ℕ = λ p. p.width in
    ap (take n) (ap (map f) (append_assoc net.inputs (map cell_port net.cells) (map bank_port net.banks)) ∙ map-append f net.inputs (map cell_port net.cells ++ map bank_port net.banks))
    ∙ take_at (widths_of net.inputs) (widths_of (map cell_port net.cells ++ map bank_port net.banks)) n (length-map net.inputs f ∙ sym e)

pub bank_widths : (net : Net) (m : ℕ) → m ≡ length net.inputs + length net.cells → drop m (widths_of (signals net)) ≡ widths_of (map bank_port net.banks)
bank_widths net m e =
    let f : Port → ℕ = λ p. p.width in
    ap (drop m) (map-append f (net.inputs ++ map cell_port net.cells) (map bank_port net.banks))
    ∙ drop_at (widths_of (net.inputs ++ map cell_port net.cells)) (widths_of (map bank_port net.banks)) m
    (length-map (net.inputs ++ map cell_port net.cells) f ∙ front_length net ∙ sym e)

-- values of 0 fit
pub zeros_fit : (ports : List Port) (n : ℕ) → n ≡ length ports → FitPorts ports (replicate n 0)
zeros_fit ports n e =
    fit_from ports (replicate n 0) (length-replicate n 0 ∙ e)
    (λ i p g.
    (let l : i < length ports = slice_get_within ports i p g in
    let l' : i < n = omega arith in
    let P : ℕ → Type 0 = λ x. x < 2 ^ p.width in
    subst P (sym (get_or-replicate n i 0 0 l')) (pow_pos p.width)))

-- the banks after an edge
bank_width : (net : Net) → Apart net → (k : ℕ) (b : Bank) → slice_get net.banks k ≡ Some b
    → (place_of (signals net) b.target ≡ Some (length net.inputs + length net.cells + k)) × (width_of (signals net) b.target ≡ Some b.width)
bank_width net apart k b h =
    let s : slice_get (signals net) (length net.inputs + length net.cells + k) ≡ Some (bank_port b) = signal_bank net k b h in
    let at : place_of (signals net) b.target ≡ Some (length net.inputs + length net.cells + k) = place_of-at (signals net) apart (length net.inputs + length net.cells + k) (bank_port b) s in (
      at,
      width_at_place (signals net) b.target (length net.inputs + length net.cells + k) (bank_port b) at
          ∙ ap (λ (p : Port). Some p.width) (get_or_from_slice_get (signals net) (length net.inputs + length net.cells + k) (bank_port b) (bank_port b) s),
    )

pub enable_width : (net : Net) (k : ℕ) (b : Bank) → IsValid net → slice_get net.banks k ≡ Some b → width_of (signals net) b.enable ≡ Some 1
enable_width net k b valid h = All-contains (λ (b : Bank). width_of (signals net) b.enable ≡ Some 1) net.banks b valid.enables (contains_from_slice_get net.banks k b h)

pub source_width : (net : Net) (k : ℕ) (b : Bank) → IsValid net → slice_get net.banks k ≡ Some b → width_of (signals net) b.source ≡ Some b.width
source_width net k b valid h = All-contains (λ (b : Bank). width_of (signals net) b.source ≡ Some b.width) net.banks b valid.sources (contains_from_slice_get net.banks k b h)

pub next_banks_fit : (net : Net) (values : List ℕ) → IsValid net → FitPorts (signals net) values → FitPorts (map bank_port net.banks) (next_banks net values)
next_banks_fit net values valid fit =
    let apart : Apart net = apart_of net valid.distinct in
    let size : length (map bank_port net.banks) ≡ length net.banks = length-map net.banks bank_port in
    fit_from (map bank_port net.banks) (next_banks net values) (length-map net.banks (next_bank net values) ∙ sym size)
    (λ i p g.
    (let l : i < length net.banks = (let lp = slice_get_within (map bank_port net.banks) i p g in omega arith) in
    let b = slice_get_some net.banks i l in
    let same : bank_port b.0 ≡ p = same_Some (bank_port b.0) p (sym (slice_get_mapped bank_port net.banks i b.0 b.1) ∙ g) in
    let at : get_or (next_banks net values) i 0 ≡ next_bank net values b.0 = get_or-map (next_bank net values) net.banks i b.0 0 l ∙ ap (next_bank net values) (get_or_from_slice_get net.banks i b.0 b.0 b.1) in
    let P : ℕ → Type 0 = λ x. x < 2 ^ p.width in
    let Q : Port → Type 0 = λ q. next_bank net values b.0 < 2 ^ q.width in
    let below : next_bank net values b.0 < 2 ^ b.0.width =
    cond_both (eqb (value_of net values b.0.enable) 1) (value_of net values b.0.source) (value_of net values b.0.target) (λ x. x < 2 ^ b.0.width)
    (λ t. value_fits net values fit b.0.source b.0.width (source_width net i b.0 valid b.1))
    (λ t. value_fits net values fit b.0.target b.0.width (bank_width net apart i b.0 b.1).1) in
    subst P (sym at) (subst Q same below)))

pub clocked :
    (net : Net) (latches : List Latch) (own : ℕ) (values banks : List ℕ) → IsValid net → latches ≡ map (latch_of (signals net)) net.banks → own ≡ length net.inputs + length net.cells
    → length banks ≡ length net.banks → ((k : ℕ) (l : Latch) → slice_get latches k ≡ Some l → get_or banks k 0 ≡ latched values (own + k) l)
    → banks ≡ next_banks net values
clocked net latches own values banks valid el eo size h =
    let apart : Apart net = apart_of net valid.distinct in
    let size' : length (next_banks net values) ≡ length net.banks = length-map net.banks (next_bank net values) in
    same_number_lists banks (next_banks net values) (size ∙ sym size')
    (λ k lk.
    (let l : k < length net.banks = omega arith in
    let b = slice_get_some net.banks k l in
    let latch : slice_get latches k ≡ Some (latch_of (signals net) b.0) = ap (λ ls. slice_get ls k) el ∙ slice_get_mapped (latch_of (signals net)) net.banks k b.0 b.1 in
    let at : get_or (next_banks net values) k 0 ≡ next_bank net values b.0 = get_or-map (next_bank net values) net.banks k b.0 0 l ∙ ap (next_bank net values) (get_or_from_slice_get net.banks k b.0 b.0 b.1) in
    let e : value_of net values b.0.enable ≡ get_or values (number_of (signals net) b.0.enable) 0 = value_at_number net values b.0.enable 1 (enable_width net k b.0 valid b.1) in
    let s : value_of net values b.0.source ≡ get_or values (number_of (signals net) b.0.source) 0 = value_at_number net values b.0.source b.0.width (source_width net k b.0 valid b.1) in
    let t : value_of net values b.0.target ≡ get_or values (own + k) 0 =
    value_at_place net values b.0.target (length net.inputs + length net.cells + k) (bank_width net apart k b.0 b.1).0 ∙ ap (λ n. get_or values (n + k) 0) (sym eo) in
    let same : next_bank net values b.0 ≡ latched values (own + k) (latch_of (signals net) b.0) = cc (e, s, t) in
    h k (latch_of (signals net) b.0) latch ∙ sym same ∙ sym at))

pub latch_within :
    (net : Net) (latches : List Latch) (values : List ℕ) → IsValid net → FitPorts (signals net) values → latches ≡ map (latch_of (signals net)) net.banks
    → All (λ (l : Latch). (l.enable < length values) × (l.source < length values)) latches
latch_within net latches values valid fit e k d lk =
    let size : length (map (latch_of (signals net)) net.banks) ≡ length net.banks = length-map net.banks (latch_of (signals net)) in
    let l : k < length net.banks = omega (arith, ap length e) in
    let b = slice_get_some net.banks k l in
    let at : latch_of (signals net) b.0 ≡ get_or latches k d =
    sym (get_or_from_slice_get latches k (latch_of (signals net) b.0) d (ap (λ ls. slice_get ls k) e ∙ slice_get_mapped (latch_of (signals net)) net.banks k b.0 b.1)) in
    let P : Latch → Type 0 = λ x. (x.enable < length values) × (x.source < length values) in
    subst P at (number_within net values b.0.enable 1 fit (enable_width net k b.0 valid b.1), number_within net values b.0.source b.0.width fit (source_width net k b.0 valid b.1))

-- an output has its width among the signals
pub output_width : (net : Net) (k : ℕ) (o : Port) → IsValid net → slice_get net.outputs k ≡ Some o → (width_of (signals net) o.name ≡ Some o.width) × IsWidth o.width
output_width net k o valid h =
    let driven : Contains (map cell_port net.cells) o = All-contains (λ o. Contains (map cell_port net.cells) o) net.outputs o valid.outputs_driven (contains_from_slice_get net.outputs k o h) in
    let p = cell_port_from net o (apart_of net valid.distinct) driven in
    let l = place_within (signals net) o.name p.place p.at in
    let w : Some (get_or (signals net) p.place o).width ≡ Some o.width = sym (width_at_place (signals net) o.name p.place o p.at) ∙ p.width in
    (p.width, subst IsWidth (same_Some (get_or (signals net) p.place o).width o.width w) (valid.widths p.place o l))

-- the number of an output is that of its name
pub output_number :
    (net : Net) (w : Wiring) (k : ℕ) (o : Port) (r : ℕ) → IsWiring net w → slice_get net.outputs k ≡ Some o → r ≡ get_or w.outputs.items k r → r ≡ number_of (signals net) o.name
output_number net w k o r h g read =
    let f : Port → ℕ = λ p. number_of (signals net) p.name in
    read ∙ ap (λ xs. get_or xs k r) h.outputs ∙ get_or-map f net.outputs k o r (slice_get_within net.outputs k o g) ∙ ap f (get_or_from_slice_get net.outputs k o o g)

-- the value read for an output, which fits its width
pub output_value :
    (net : Net) (k : ℕ) (o : Port) (values : List ℕ) (r v : ℕ) → IsValid net → FitPorts (signals net) values → slice_get net.outputs k ≡ Some o → r ≡ number_of (signals net) o.name
    → v ≡ get_or values r v → (r < length values) × (v ≡ value_of net values o.name) × (v < 2 ^ o.width)
output_value net k o values r v valid fit g at read =
    let wide = output_width net k o valid g in
    let l : r < length values = omega (arith, at, number_within net values o.name o.width fit wide.0) in
    let value : v ≡ value_of net values o.name = read ∙ get_or_default values r v 0 l ∙ ap (λ i. get_or values i 0) at ∙ sym (value_at_number net values o.name o.width wide.0) in
    let P : ℕ → Type 0 = λ x. x < 2 ^ o.width in
    (l, value, subst P (sym value) (value_fits net values fit o.name o.width wide.0))

-- the value at the place of an input is that of its name, and fits its width
pub input_value :
    (net : Net) (k : ℕ) (p : Port) (values : List ℕ) → IsValid net → FitPorts (signals net) values → slice_get net.inputs k ≡ Some p
    → (k < length values) × (get_or values k 0 ≡ value_of net values p.name) × (get_or values k 0 < 2 ^ p.width) × IsWidth p.width
input_value net k p values valid fit h =
    let rest : List Port = map cell_port net.cells ++ map bank_port net.banks in
    let first : slice_get (net.inputs ++ (map cell_port net.cells ++ map bank_port net.banks)) k ≡ Some p = in_front net.inputs rest k p h in
    let there : slice_get (signals net) k ≡ Some p = ap (λ (l : List Port). slice_get l k) (append_assoc net.inputs (map cell_port net.cells) (map bank_port net.banks)) ∙ first in
    let within : k < length (signals net) = slice_get_within (signals net) k p there in
    let size = fit_length (signals net) values fit in
    let number = place_of-at (signals net) (apart_of net valid.distinct) k p there in
    (omega (arith, within, size), sym (value_at_place net values p.name k number), fit_at (signals net) values fit k p there, subst IsWidth (ap (λ (q : Port). q.width) (get_or_from_slice_get (signals net) k p p there)) (valid.widths k p within))
  where
    in_front : (xs ys : List Port) (i : ℕ) (q : Port) → slice_get xs i ≡ Some q → slice_get (xs ++ ys) i ≡ Some q
    in_front [] ys i q g = absurd (cc)
    in_front (x ∷ xs) ys zero q g = g
    in_front (x ∷ xs) ys (suc i) q g = in_front xs ys i q g
