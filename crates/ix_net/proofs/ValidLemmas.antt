-- Validity from what the code finds, and back.
use Rattle.std.proofs.Common.{◌≡◌, ◌≢◌, ℕ, ◌+◌, ◌-◌, ◌<◌, ◌≤◌, zero, suc, List, [], ◌∷◌, true, Some, length, map, get_or, take, eqb, cond, arith, ap, sym, ◌∙◌, subst, All, AllPairs, Contains}
use Rattle.std.specs.Prelude.{slice_get}
use Rattle.std.specs.Option.{option_map}
use Rattle.std.proofs.lemmas.Bool.{eq-eqb, eqb-true, cond_both}
use Rattle.std.proofs.lemmas.List.{length-map, length-take, get_or-take, get_or_default}
use Rattle.std.proofs.lemmas.Option.{get_or_from_slice_get, slice_get-map, same_Some}
use Rattle.ix_net.specs.declared.netlist.Net.{Net}
use Rattle.ix_net.specs.declared.netlist.Port.{Port}
use Rattle.ix_net.specs.declared.netlist.Cell.{Cell}
use Rattle.ix_net.specs.declared.netlist.Bank.{Bank}
use Rattle.ix_net.specs.declared.gates.Gate.{Gate}
use Rattle.ix_net.specs.Chain.{Chain, one, more}
use Rattle.ix_net.specs.Order.{Reads, IsOrder}
use Rattle.ix_net.specs.Signals.{signals, cell_port, place_of, width_of, number_of}
use Rattle.ix_net.specs.Tables.{IsDeclared}
use Rattle.ix_net.specs.Valid.{Feeds, DependsOn, IsValid, names}
use Rattle.ix_net.specs.Wiring.{cell_gate, latch_of, IsCellPort, EnablesFit, SourcesFit, IsWiring}
use Rattle.ix_net.specs.declared.wires.Wiring.{Wiring}
use Rattle.ix_net.specs.Forms.{Fits}
use Rattle.ix_net.proofs.TableLemmas.{name_at_place, width_at_place, apart_tail}
use Rattle.ix_net.proofs.NetLemmas.{Apart, CellsFit, gates_of_net, chain_feeds, feeds_reads, signal_cell, place_of-at, slice_get_some, slice_get_from_contains, contains_from_slice_get}

-- the first place of a number in an order; the length where it has none
abbrev pub place_in : List ℕ → ℕ → ℕ
place_in [] k = 0
place_in (x ∷ xs) k = cond (eqb x k) 0 (suc (place_in xs k))

place_in-le : (xs : List ℕ) (k i : ℕ) (d : ℕ) → i < length xs → get_or xs i d ≡ k → place_in xs k ≤ i
place_in-le [] k i d l h = absurd (omega arith)
place_in-le (x ∷ xs) k zero d l h = (let e : eqb x k ≡ true = eq-eqb x k h in rw e (omega arith))
place_in-le (x ∷ xs) k (suc i) d l h =
    cond_both (eqb x k) 0 (suc (place_in xs k)) (λ n. n ≤ suc i) (λ e. omega arith) (λ e. omega (arith, place_in-le xs k i d (omega arith) h))

place_in-at : (xs : List ℕ) (k i d : ℕ) → i < length xs → get_or xs i d ≡ k → (get_or xs (place_in xs k) d ≡ k) × (place_in xs k < length xs)
place_in-at [] k i d l h = absurd (omega arith)
place_in-at (x ∷ xs) k zero d l h = (let e : eqb x k ≡ true = eq-eqb x k h in rw e (h, omega arith))
place_in-at (x ∷ xs) k (suc i) d l h =
    let r = place_in-at xs k i d (omega arith) h in
    cond_both (eqb x k) 0 (suc (place_in xs k)) (λ n. (get_or (x ∷ xs) n d ≡ k) × (n < suc (length xs))) (λ e. (eqb-true x k e, omega arith)) (λ e. (r.0, omega (arith, r.1)))

-- in an order each cell stands behind those that it reads
pub place_in-reads : (first : ℕ) (gates : List Gate) (order : List ℕ) → IsOrder first gates order → (a b : ℕ) → Reads first gates a b → place_in order a < place_in order b
place_in-reads first gates order h a b r =
    let at_b = h.whole b r.reader in
    let read : get_or order at_b.0 0 ≡ b = get_or_default order at_b.0 0 b at_b.1 ∙ at_b.2 in
    let p = place_in-at order b at_b.0 0 at_b.1 read in
    let R : ℕ → Type 0 = λ x. Reads first gates a x in
    let before = h.ordered.behind (place_in order b) a p.1 (subst R (sym p.0) r) in
    let short : length (take (place_in order b) order) ≤ place_in order b = omega (arith, length-take (place_in order b) order) in
    let near : before.0 < place_in order b = omega (arith, before.1) in
    let here : get_or order before.0 a ≡ a = sym (get_or-take (place_in order b) order before.0 a near) ∙ before.2 in
    omega (arith, place_in-le order a before.0 a (omega arith) here)

pub place_in-chain : (first : ℕ) (gates : List Gate) (order : List ℕ) → IsOrder first gates order → (a b : ℕ) → Chain (Reads first gates) a b → place_in order a < place_in order b
place_in-chain first gates order h a b (one r) = place_in-reads first gates order h a b r
place_in-chain first gates order h a b (more {y = y} ch r) = omega (arith, place_in-chain first gates order h a y ch, place_in-reads first gates order h y b r)

-- a chain by name that starts at a cell is a chain by number
chain_reads :
    (net : Net) → Apart net → (a : ℕ) (ca : Cell) (x y : List ℕ) → slice_get net.cells a ≡ Some ca → ca.target ≡ x → Chain (Feeds net) x y
    → (b : ℕ) × (cb : Cell) × (slice_get net.cells b ≡ Some cb) × (cb.target ≡ y) × Chain (Reads (length net.inputs) (gates_of_net net)) a b
chain_reads net apart a ca x y ha e (one f) =
    let F : List ℕ → Type 0 = λ n. Feeds net n y in
    let r = feeds_reads net apart a ca y ha (subst F (sym e) f) in
    (r.0, r.1, r.2, r.3, one r.4)
chain_reads net apart a ca x y ha e (more {y = z} ch f) =
    let r = chain_reads net apart a ca x z ha e ch in
    let F : List ℕ → Type 0 = λ n. Feeds net n y in
    let s = feeds_reads net apart r.0 r.1 y r.2 (subst F (sym r.3) f) in
    (s.0, s.1, s.2, s.3, more r.4 s.4)

-- the cell at the end of a chain by name
chain_end : (net : Net) (x y : List ℕ) → Chain (Feeds net) x y → (a : ℕ) × (ca : Cell) × (slice_get net.cells a ≡ Some ca) × (ca.target ≡ y)
chain_end net x y (one f) = (f.in_net.0, f.cell, slice_get_from_contains net.cells f.cell f.in_net, f.drives)
chain_end net x y (more ch f) = (f.in_net.0, f.cell, slice_get_from_contains net.cells f.cell f.in_net, f.drives)

-- two cells with one target are one
same_cell : (net : Net) → Apart net → (a b : ℕ) (ca cb : Cell) → slice_get net.cells a ≡ Some ca → slice_get net.cells b ≡ Some cb → ca.target ≡ cb.target → a ≡ b
same_cell net apart a b ca cb ha hb e =
    let pa : place_of (signals net) ca.target ≡ Some (length net.inputs + a) = place_of-at (signals net) apart (length net.inputs + a) (cell_port ca) (signal_cell net a ca ha) in
    let pb : place_of (signals net) cb.target ≡ Some (length net.inputs + b) = place_of-at (signals net) apart (length net.inputs + b) (cell_port cb) (signal_cell net b cb hb) in
    let same : length net.inputs + a ≡ length net.inputs + b = same_Some (length net.inputs + a) (length net.inputs + b) (sym pa ∙ ap (place_of (signals net)) e ∙ pb) in
    omega arith

-- with an order no cell depends on itself
pub loopless_from : (net : Net) (order : List ℕ) → Apart net → IsOrder (length net.inputs) (gates_of_net net) order → (x : List ℕ) → DependsOn net x x → ⊥
loopless_from net order apart h x d =
    let e = chain_end net x x d in
    let r = chain_reads net apart e.0 e.1 x x e.2 e.3 d in
    let same : e.0 ≡ r.0 = same_cell net apart e.0 r.0 e.1 r.1 e.2 r.2 (e.3 ∙ sym r.3) in
    let less = place_in-chain (length net.inputs) (gates_of_net net) order h e.0 r.0 r.4 in
    omega (arith, ap (place_in order) same)

-- a loop of cells by number is one by name
pub loop_from : (net : Net) (k : ℕ) → CellsFit net → Chain (Reads (length net.inputs) (gates_of_net net)) k k → (x : List ℕ) × DependsOn net x x
loop_from net k fits ch =
    let size : length (gates_of_net net) ≡ length net.cells = length-map net.cells (cell_gate (signals net)) in
    let c = slice_get_some net.cells k (omega (arith, chain_source ch)) in
    (c.0.target, chain_feeds net fits k k ch c.0 c.0 c.1 c.1)
  where
    chain_source : {a b : ℕ} → Chain (Reads (length net.inputs) (gates_of_net net)) a b → a < length (gates_of_net net)
    chain_source (one r) = r.source
    chain_source (more ch r) = chain_source ch

-- ports with one name and one width are one
port_same : (p q : Port) → p.name ≡ q.name → p.width ≡ q.width → p ≡ q
port_same p q n w = (let a : p ≡ record { name = q.name; width = p.width } = ap (λ (x : List ℕ). let r : Port = record { name = x; width = p.width } in r) n in a ∙ ap (λ (x : ℕ). let r : Port = record { name = q.name; width = x } in r) w)

-- an output that stands among the cells is the target of one
pub driven_from : (net : Net) (o : Port) → IsCellPort (signals net) (length net.inputs) (length net.cells) o → Contains (map cell_port net.cells) o
driven_from net o h =
    let k = h.place - length net.inputs in
    let e : length net.inputs + k ≡ h.place = omega (arith, h.behind_inputs) in
    let c = slice_get_some net.cells k (omega (arith, h.behind_inputs, h.before_banks)) in
    let port : get_or (signals net) (length net.inputs + k) (cell_port c.0) ≡ cell_port c.0 = get_or_from_slice_get (signals net) (length net.inputs + k) (cell_port c.0) (cell_port c.0) (signal_cell net k c.0 c.1) in
    let at : get_or (signals net) h.place (cell_port c.0) ≡ cell_port c.0 = ap (λ n. get_or (signals net) n (cell_port c.0)) (sym e) ∙ port in
    let name : c.0.target ≡ o.name = ap (λ (p : Port). p.name) (sym at) ∙ name_at_place (signals net) o.name h.place (cell_port c.0) h.at in
    let wide : Some (get_or (signals net) h.place (cell_port c.0)).width ≡ Some o.width = sym (width_at_place (signals net) o.name h.place (cell_port c.0) h.at) ∙ h.width in
    let width : c.0.width ≡ o.width = ap (λ (p : Port). p.width) (sym at) ∙ same_Some (get_or (signals net) h.place (cell_port c.0)).width o.width wide in
    let C : Port → Type 0 = λ p. Contains (map cell_port net.cells) p in
    subst C (port_same (cell_port c.0) o name width)
    (contains_from_slice_get (map cell_port net.cells) k (cell_port c.0) (slice_get-map cell_port net.cells k ∙ ap (option_map cell_port) c.1))

pub cell_port_from : (net : Net) (o : Port) → Apart net → Contains (map cell_port net.cells) o → IsCellPort (signals net) (length net.inputs) (length net.cells) o
cell_port_from net o apart h =
    let size : length (map cell_port net.cells) ≡ length net.cells = length-map net.cells cell_port in
    let l : h.0 < length net.cells = omega (arith, h.1) in
    let c = slice_get_some net.cells h.0 l in
    let mapped : slice_get (map cell_port net.cells) h.0 ≡ Some (cell_port c.0) = slice_get-map cell_port net.cells h.0 ∙ ap (option_map cell_port) c.1 in
    let is_o : cell_port c.0 ≡ o = same_Some (cell_port c.0) o (sym mapped ∙ slice_get_from_contains (map cell_port net.cells) o h) in
    let signal : slice_get (signals net) (length net.inputs + h.0) ≡ Some o = signal_cell net h.0 c.0 c.1 ∙ ap Some is_o in
    let at : place_of (signals net) o.name ≡ Some (length net.inputs + h.0) = place_of-at (signals net) apart (length net.inputs + h.0) o signal in
    record {
      place = length net.inputs + h.0;
      at = at;
      width = width_at_place (signals net) o.name (length net.inputs + h.0) o at ∙ ap (λ (p : Port). Some p.width) (get_or_from_slice_get (signals net) (length net.inputs + h.0) o o signal);
      behind_inputs = omega arith;
      before_banks = omega arith;
    }

pub apart_of : (net : Net) → AllPairs (λ x y. x ≢ y) (net.name ∷ names (signals net)) → Apart net
apart_of net h = apart_tail net.name (names (signals net)) h

-- a valid net from what the code finds
pub valid_from :
    (net : Net) (order : List ℕ) → IsDeclared net → AllPairs (λ x y. x ≢ y) (names net.outputs) → All (IsCellPort (signals net) (length net.inputs) (length net.cells)) net.outputs
    → EnablesFit (signals net) net.banks → SourcesFit (signals net) net.banks → CellsFit net → IsOrder (length net.inputs) (gates_of_net net) order → IsValid net
valid_from net order d outs driven enables sources cells h =
    record {
      module_named = d.module_named;
      named = d.named;
      distinct = d.distinct;
      widths = d.widths;
      outputs_driven = λ k o l. driven_from net (get_or net.outputs k o) (driven k o l);
      outputs_distinct = outs;
      cells_fit = cells;
      enables = enables;
      sources = sources;
      loopless = loopless_from net order (apart_of net d.distinct) h;
    }

-- what shows that a net is not valid
pub refuse_outputs :
    (net : Net) (ports : List Port) (inputs cells : ℕ) (outputs : List Port) → ports ≡ signals net → inputs ≡ length net.inputs → cells ≡ length net.cells → outputs ≡ net.outputs
    → (All (IsCellPort ports inputs cells) outputs → ⊥) → IsValid net → ⊥
refuse_outputs net ports inputs cells outputs ep ei ec eo never v =
    let A : List Port → Type 0 = λ ps. All (IsCellPort ps inputs cells) outputs in
    let B : ℕ → Type 0 = λ i. All (IsCellPort (signals net) i cells) outputs in
    let C : ℕ → Type 0 = λ n. All (IsCellPort (signals net) (length net.inputs) n) outputs in
    let D : List Port → Type 0 = λ os. All (IsCellPort (signals net) (length net.inputs) (length net.cells)) os in
    let all : All (IsCellPort (signals net) (length net.inputs) (length net.cells)) net.outputs =
    λ k o l. cell_port_from net (get_or net.outputs k o) (apart_of net v.distinct) (v.outputs_driven k o l) in
    never (subst A (sym ep) (subst B (sym ei) (subst C (sym ec) (subst D (sym eo) all))))

pub refuse_loop :
    (net : Net) (inputs : ℕ) (gates : List Gate) → inputs ≡ length net.inputs → gates ≡ gates_of_net net → CellsFit net
    → (k : ℕ) × Chain (Reads inputs gates) k k → IsValid net → ⊥
refuse_loop net inputs gates ei eg fits loop v =
    let A : ℕ → Type 0 = λ i. Chain (Reads i gates) loop.0 loop.0 in
    let B : List Gate → Type 0 = λ gs. Chain (Reads (length net.inputs) gs) loop.0 loop.0 in
    let l = loop_from net loop.0 fits (subst B eg (subst A ei loop.1)) in
    v.loopless l.0 l.1

-- the wiring of a valid net from what the code finds
pub wiring_from :
    (net : Net) (w : Wiring) (t : List Port) (i n : ℕ) (outs outs' : List Port) (banks : List Bank) (cells : List Cell) (gates : List Gate)
    → t ≡ signals net → i ≡ length net.inputs → n ≡ length net.cells → outs ≡ net.outputs → outs' ≡ net.outputs → banks ≡ net.banks → cells ≡ net.cells → gates ≡ w.gates.items
    → IsDeclared net → AllPairs (λ x y. x ≢ y) (names outs) → All (IsCellPort t i n) outs' → w.outputs.items ≡ map (λ (p : Port). number_of t p.name) outs'
    → EnablesFit t banks → SourcesFit t banks → w.latches.items ≡ map (latch_of t) banks
    → All (λ (c : Cell). Fits (width_of t) c.width c.form) cells → w.gates.items ≡ map (cell_gate t) cells
    → IsOrder i gates w.order.items → w.widths.items ≡ map (λ (p : Port). p.width) t → IsValid net × IsWiring net w
wiring_from net w t i n outs outs' banks cells gates et ei en eo eo' eb ec eg d apart driven placed enables sources latched fits gated order wide =
    let made : w.gates.items ≡ gates_of_net net = gated ∙ ap (map (cell_gate t)) ec ∙ ap (λ ps. map (cell_gate ps) net.cells) et in
    let A : List Port → Type 0 = λ os. AllPairs (λ x y. x ≢ y) (names os) in
    let D1 : List Port → Type 0 = λ os. All (IsCellPort t i n) os in
    let D2 : List Port → Type 0 = λ ps. All (IsCellPort ps i n) net.outputs in
    let D3 : ℕ → Type 0 = λ k. All (IsCellPort (signals net) k n) net.outputs in
    let D4 : ℕ → Type 0 = λ k. All (IsCellPort (signals net) (length net.inputs) k) net.outputs in
    let E1 : List Bank → Type 0 = λ bs. EnablesFit t bs in
    let E2 : List Port → Type 0 = λ ps. EnablesFit ps net.banks in
    let S1 : List Bank → Type 0 = λ bs. SourcesFit t bs in
    let S2 : List Port → Type 0 = λ ps. SourcesFit ps net.banks in
    let F1 : List Cell → Type 0 = λ cs. All (λ (c : Cell). Fits (width_of t) c.width c.form) cs in
    let F2 : List Port → Type 0 = λ ps. All (λ (c : Cell). Fits (width_of ps) c.width c.form) net.cells in
    let O1 : ℕ → Type 0 = λ k. IsOrder k gates w.order.items in
    let O2 : List Gate → Type 0 = λ gs. IsOrder (length net.inputs) gs w.order.items in
    let ordered : IsOrder (length net.inputs) w.gates.items w.order.items = subst O2 eg (subst O1 ei order) in (
      valid_from net w.order.items d (subst A eo apart) (subst D4 en (subst D3 ei (subst D2 et (subst D1 eo' driven)))) (subst E2 et (subst E1 eb enables)) (subst S2 et (subst S1 eb sources))
          (subst F2 et (subst F1 ec fits)) (subst O2 made ordered),
      record {
        widths = wide ∙ ap (map (λ (p : Port). p.width)) et;
        gates = made;
        latches = latched ∙ ap (map (latch_of t)) eb ∙ ap (λ ps. map (latch_of ps) net.banks) et;
        outputs = placed ∙ ap (map (λ (p : Port). number_of t p.name)) eo' ∙ ap (λ ps. map (λ (p : Port). number_of ps p.name) net.outputs) et;
        order = ordered;
      },
    )
