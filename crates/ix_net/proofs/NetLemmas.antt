-- Names and numbers of the signals of a net, and dependence by name and by number.
use Rattle.std.proofs.Common.{◌≡◌, ◌≢◌, ℕ, ◌+◌, ◌<◌, zero, suc, List, [], ◌∷◌, ◌++◌, true, Option, Some, None, unwrap_or, length, map, get_or, arith, refl, ap, sym, ◌∙◌, subst, All, AllPairs, Contains}
use Rattle.std.specs.List.{AllByRecursion}
use Rattle.std.specs.Option.{option_and_then, option_map}
use Rattle.std.specs.Prelude.{slice_get}
use Rattle.std.specs.Str.{bytes_eq}
use Rattle.std.proofs.lemmas.Bool.{false_from_ne_true}
use Rattle.std.proofs.lemmas.List.{length-map, get_or-map, get_or_default, length-append}
use Rattle.std.proofs.lemmas.List.Elements.{All-from_recursion, All-contains}
use Rattle.std.proofs.lemmas.Option.{slice_get-get_or, slice_get_within, get_or_from_slice_get, slice_get-map}
use Rattle.std.proofs.lemmas.Slice.Eq.{bytes_eq-Decides}
use Rattle.ix_net.specs.declared.netlist.Net.{Net}
use Rattle.ix_net.specs.declared.netlist.Port.{Port}
use Rattle.ix_net.specs.declared.netlist.Cell.{Cell}
use Rattle.ix_net.specs.declared.netlist.Bank.{Bank}
use Rattle.ix_net.specs.declared.netlist.Form.{Form}
use Rattle.ix_net.specs.declared.netlist.Form.TheVariants.{Hex, Copy, Add, Sub, Mul, And, Or, Xor, Not, Eq, Lt, LtSigned, Join, Range, Choose}
use Rattle.ix_net.specs.declared.gates.Gate.{Gate}
use Rattle.ix_net.specs.declared.gates.Gate.TheVariants as gate
use Rattle.ix_net.specs.Chain.{Chain, one, more}
use Rattle.ix_net.specs.Forms.{operands, Fits}
use Rattle.ix_net.specs.Gates.{gate_of, reads_of}
use Rattle.ix_net.specs.Order.{Reads, gate_at}
use Rattle.ix_net.specs.Signals.{signals, cell_port, bank_port, place_of, width_of, number_of, bits_of}
use Rattle.ix_net.specs.Valid.{Feeds, names}
use Rattle.ix_net.specs.Wiring.{cell_gate}
use Rattle.ix_net.proofs.PlaceLemmas.{position_from-at}
use Rattle.ix_net.proofs.TableLemmas.{name_at_place}

-- reads of lists that are joined
slice_get-append_right : {X : Type 0} (xs ys : List X) (k : ℕ) → slice_get (xs ++ ys) (length xs + k) ≡ slice_get ys k
slice_get-append_right [] ys k = ap (slice_get ys) (omega arith)
slice_get-append_right (x ∷ xs) ys k =
    let e : suc (length xs) + k ≡ suc (length xs + k) = omega arith in
    rw e (slice_get-append_right xs ys k)

slice_get-append_left : {X : Type 0} (xs ys : List X) (k : ℕ) (x : X) → slice_get xs k ≡ Some x → slice_get (xs ++ ys) k ≡ Some x
slice_get-append_left [] ys k x h = absurd (cc)
slice_get-append_left (y ∷ xs) ys zero x h = h
slice_get-append_left (y ∷ xs) ys (suc k) x h = slice_get-append_left xs ys k x h

pub slice_get_some : {X : Type 0} (xs : List X) (k : ℕ) → k < length xs → (x : X) × (slice_get xs k ≡ Some x)
slice_get_some [] k l = absurd (omega arith)
slice_get_some (x ∷ xs) zero l = (x, refl)
slice_get_some (x ∷ xs) (suc k) l = slice_get_some xs k (omega arith)

pub slice_get_mapped : {X Y : Type 0} (f : X → Y) (xs : List X) (k : ℕ) (x : X) → slice_get xs k ≡ Some x → slice_get (map f xs) k ≡ Some (f x)
slice_get_mapped f xs k x h = slice_get-map f xs k ∙ ap (option_map f) h

pub contains_from_slice_get : {X : Type 0} (xs : List X) (k : ℕ) (x : X) → slice_get xs k ≡ Some x → Contains xs x
contains_from_slice_get xs k x h = (k, slice_get_within xs k x h, get_or_from_slice_get xs k x x h)

pub slice_get_from_contains : {X : Type 0} (xs : List X) (x : X) → (c : Contains xs x) → slice_get xs c.0 ≡ Some x
slice_get_from_contains xs x c = slice_get-get_or xs c.0 x c.1 ∙ ap Some c.2

-- the signals by number
pub signal_input : (net : Net) (k : ℕ) (p : Port) → slice_get net.inputs k ≡ Some p → slice_get (signals net) k ≡ Some p
signal_input net k p h =
    slice_get-append_left (net.inputs ++ map cell_port net.cells) (map bank_port net.banks) k p (slice_get-append_left net.inputs (map cell_port net.cells) k p h)

pub signal_cell : (net : Net) (k : ℕ) (c : Cell) → slice_get net.cells k ≡ Some c → slice_get (signals net) (length net.inputs + k) ≡ Some (cell_port c)
signal_cell net k c h =
    slice_get-append_left (net.inputs ++ map cell_port net.cells) (map bank_port net.banks) (length net.inputs + k) (cell_port c)
    (slice_get-append_right net.inputs (map cell_port net.cells) k ∙ slice_get_mapped cell_port net.cells k c h)

pub front_length : (net : Net) → length (net.inputs ++ map cell_port net.cells) ≡ length net.inputs + length net.cells
front_length net = length-append net.inputs (map cell_port net.cells) ∙ ap (λ n. length net.inputs + n) (length-map net.cells cell_port)

pub signal_bank : (net : Net) (k : ℕ) (b : Bank) → slice_get net.banks k ≡ Some b → slice_get (signals net) (length net.inputs + length net.cells + k) ≡ Some (bank_port b)
signal_bank net k b h =
    ap (λ n. slice_get (signals net) (n + k)) (sym (front_length net))
    ∙ slice_get-append_right (net.inputs ++ map cell_port net.cells) (map bank_port net.banks) k
    ∙ slice_get_mapped bank_port net.banks k b h

pub signals_length : (net : Net) → length (signals net) ≡ length net.inputs + length net.cells + length net.banks
signals_length net =
    length-append (net.inputs ++ map cell_port net.cells) (map bank_port net.banks)
    ∙ ap (λ n. n + length (map bank_port net.banks)) (front_length net)
    ∙ ap (λ n. length net.inputs + length net.cells + n) (length-map net.banks bank_port)

-- where no two names are one, the place of a name is that of its port
pub place_of-at : (ports : List Port) → AllPairs (λ x y. x ≢ y) (names ports) → (i : ℕ) (p : Port) → slice_get ports i ≡ Some p → place_of ports p.name ≡ Some i
place_of-at ports apart i p h =
    let l : i < length ports = slice_get_within ports i p h in
    let size : length (names ports) ≡ length ports = length-map ports (λ (q : Port). q.name) in
    let at : get_or ports i p ≡ p = get_or_from_slice_get ports i p p h in
    let here : bytes_eq p.name (get_or ports i p).name ≡ true = (bytes_eq-Decides p.name (get_or ports i p).name).1 (ap (λ (q : Port). q.name) (sym at)) in
    position_from-at (λ (q : Port). bytes_eq p.name q.name) ports 0 i p l here
    (λ m lt. false_from_ne_true (bytes_eq p.name (get_or ports m p).name)
    (λ t. (let same : p.name ≡ (get_or ports m p).name = (bytes_eq-Decides p.name (get_or ports m p).name).0 t in
    let at_m : get_or (names ports) m p.name ≡ (get_or ports m p).name = get_or-map (λ (q : Port). q.name) ports m p p.name (omega arith) in
    let at_i : get_or (names ports) i p.name ≡ (get_or ports i p).name = get_or-map (λ (q : Port). q.name) ports i p p.name l in
    apart m i p.name lt (omega arith) (at_m ∙ sym same ∙ ap (λ (q : Port). q.name) (sym at) ∙ sym at_i))))
    ∙ ap Some (omega arith)

-- the operands of a right side by number
pub reads_of-gate_of : (place width : List ℕ → ℕ) (f : Form) → reads_of (gate_of place width f) ≡ map place (operands f)
reads_of-gate_of place width (Hex d) = refl
reads_of-gate_of place width (Copy a) = refl
reads_of-gate_of place width (Add a b) = refl
reads_of-gate_of place width (Sub a b) = refl
reads_of-gate_of place width (Mul a b) = refl
reads_of-gate_of place width (And a b) = refl
reads_of-gate_of place width (Or a b) = refl
reads_of-gate_of place width (Xor a b) = refl
reads_of-gate_of place width (Not a) = refl
reads_of-gate_of place width (Eq a b) = refl
reads_of-gate_of place width (Lt a b) = refl
reads_of-gate_of place width (LtSigned a b) = refl
reads_of-gate_of place width (Join a b) = refl
reads_of-gate_of place width (Range a hi lo) = refl
reads_of-gate_of place width (Choose c a b) = refl

-- each operand has a width where the widths agree
abbrev pub HasWidth : (List ℕ → Option ℕ) → List ℕ → Type 0
HasWidth width n = (v : ℕ) × (width n ≡ Some v)

pub fits_operands : (width : List ℕ → Option ℕ) (w : ℕ) (f : Form) → Fits width w f → AllByRecursion (HasWidth width) (operands f)
fits_operands width w (Hex d) h = tt
fits_operands width w (Copy a) h = ((w, h), tt)
fits_operands width w (Add a b) h = ((w, h.0), ((w, h.1), tt))
fits_operands width w (Sub a b) h = ((w, h.0), ((w, h.1), tt))
fits_operands width w (Mul a b) h = ((w, h.0), ((w, h.1), tt))
fits_operands width w (And a b) h = ((w, h.0), ((w, h.1), tt))
fits_operands width w (Or a b) h = ((w, h.0), ((w, h.1), tt))
fits_operands width w (Xor a b) h = ((w, h.0), ((w, h.1), tt))
fits_operands width w (Not a) h = ((w, h), tt)
fits_operands width w (Eq a b) h = ((h.1.0, h.1.1), ((h.1.0, h.1.2), tt))
fits_operands width w (Lt a b) h = ((h.1.0, h.1.1), ((h.1.0, h.1.2), tt))
fits_operands width w (LtSigned a b) h = ((h.1.0, h.1.1), ((h.1.0, h.1.2), tt))
fits_operands width w (Join a b) h = ((h.0, h.2), ((h.1, h.3), tt))
fits_operands width w (Range a hi lo) h = ((h.0, h.1), tt)
fits_operands width w (Choose c a b) h = ((1, h.0), ((w, h.1), ((w, h.2), tt)))

place_from_width : (o : Option ℕ) (g : ℕ → Option ℕ) (v : ℕ) → option_and_then g o ≡ Some v → (i : ℕ) × (o ≡ Some i)
place_from_width None g v h = absurd (cc)
place_from_width (Some i) g v h = (i, refl)

pub placed_from_width : (ports : List Port) (n : List ℕ) (v : ℕ) → width_of ports n ≡ Some v → (i : ℕ) × (place_of ports n ≡ Some i)
placed_from_width ports n v h = place_from_width (place_of ports n) (λ i. slice_get (map (λ (p : Port). p.width) ports) i) v h

pub operand_placed : (ports : List Port) (w : ℕ) (f : Form) → Fits (width_of ports) w f → (n : List ℕ) → Contains (operands f) n → (i : ℕ) × (place_of ports n ≡ Some i)
operand_placed ports w f h n c =
    let all : All (HasWidth (width_of ports)) (operands f) = All-from_recursion (HasWidth (width_of ports)) (operands f) (fits_operands (width_of ports) w f h) in
    let v = All-contains (HasWidth (width_of ports)) (operands f) n all c in
    placed_from_width ports n v.0 v.1

pub number_from_place : (ports : List Port) (n : List ℕ) (i : ℕ) → place_of ports n ≡ Some i → number_of ports n ≡ i
number_from_place ports n i h = ap (λ o. unwrap_or o 0) h

pub Contains-map : {Y : Type 0} (f : List ℕ → Y) (xs : List (List ℕ)) (x : List ℕ) → Contains xs x → Contains (map f xs) (f x)
Contains-map f xs x c = let size : length (map f xs) ≡ length xs = length-map xs f in (c.0, omega (arith, c.1), get_or-map f xs c.0 x (f x) c.1 ∙ ap f c.2)

Contains-unmap : {Y : Type 0} (f : List ℕ → Y) (xs : List (List ℕ)) (y : Y) → Contains (map f xs) y → (x : List ℕ) × Contains xs x × (f x ≡ y)
Contains-unmap f xs y c =
    let size : length (map f xs) ≡ length xs = length-map xs f in
    let l : c.0 < length xs = omega (arith, c.1) in
    (get_or xs c.0 [], (c.0, l, get_or_default xs c.0 (get_or xs c.0 []) [] l), sym (get_or-map f xs c.0 [] y l) ∙ c.2)

-- the gates of a net
abbrev pub gates_of_net : Net → List Gate
gates_of_net net = map (cell_gate (signals net)) net.cells

pub gate_at_cell : (net : Net) (k : ℕ) (c : Cell) → slice_get net.cells k ≡ Some c → gate_at (gates_of_net net) k ≡ cell_gate (signals net) c
gate_at_cell net k c h =
    get_or-map (cell_gate (signals net)) net.cells k c (gate.Hex 0) (slice_get_within net.cells k c h)
    ∙ ap (cell_gate (signals net)) (get_or_from_slice_get net.cells k c c h)

abbrev pub CellsFit : Net → Type 0
CellsFit net = All (λ (c : Cell). Fits (width_of (signals net)) c.width c.form) net.cells

abbrev pub Apart : Net → Type 0
Apart net = AllPairs (λ x y. x ≢ y) (names (signals net))

pub cell_fits : (net : Net) (k : ℕ) (c : Cell) → CellsFit net → slice_get net.cells k ≡ Some c → Fits (width_of (signals net)) c.width c.form
cell_fits net k c fits h = All-contains (λ (c : Cell). Fits (width_of (signals net)) c.width c.form) net.cells c fits (contains_from_slice_get net.cells k c h)

-- what a cell reads by number, it reads by name
reads_feeds :
    (net : Net) → CellsFit net → (a b : ℕ) (ca cb : Cell) → slice_get net.cells a ≡ Some ca → slice_get net.cells b ≡ Some cb
    → Reads (length net.inputs) (gates_of_net net) a b → Feeds net ca.target cb.target
reads_feeds net fits a b ca cb ha hb r =
    let C : List ℕ → Type 0 = λ xs. Contains xs (length net.inputs + a) in
    let by_gate : Contains (reads_of (cell_gate (signals net) cb)) (length net.inputs + a) = subst C (ap reads_of (gate_at_cell net b cb hb)) r.reads in
    let by_form : Contains (map (number_of (signals net)) (operands cb.form)) (length net.inputs + a) = subst C (reads_of-gate_of (number_of (signals net)) (bits_of (signals net)) cb.form) by_gate in
    let x = Contains-unmap (number_of (signals net)) (operands cb.form) (length net.inputs + a) by_form in
    let at = operand_placed (signals net) cb.width cb.form (cell_fits net b cb fits hb) x.0 x.1 in
    let same : at.0 ≡ length net.inputs + a = sym (number_from_place (signals net) x.0 at.0 at.1) ∙ x.2 in
    let port : get_or (signals net) (length net.inputs + a) (cell_port ca) ≡ cell_port ca = get_or_from_slice_get (signals net) (length net.inputs + a) (cell_port ca) (cell_port ca) (signal_cell net a ca ha) in
    let name : ca.target ≡ x.0 = ap (λ (p : Port). p.name) (sym port) ∙ name_at_place (signals net) x.0 (length net.inputs + a) (cell_port ca) (at.1 ∙ ap Some same) in
    let D : List ℕ → Type 0 = λ n. Contains (operands cb.form) n in
    record { cell = cb; in_net = contains_from_slice_get net.cells b cb hb; reads = subst D (sym name) x.1; drives = refl }

-- what a cell reads by name of a cell, it reads by number
pub feeds_reads :
    (net : Net) → Apart net → (a : ℕ) (ca : Cell) (y : List ℕ) → slice_get net.cells a ≡ Some ca → Feeds net ca.target y
    → (b : ℕ) × (cb : Cell) × (slice_get net.cells b ≡ Some cb) × (cb.target ≡ y) × Reads (length net.inputs) (gates_of_net net) a b
feeds_reads net apart a ca y ha f =
    let b = f.in_net.0 in
    let hb : slice_get net.cells b ≡ Some f.cell = slice_get_from_contains net.cells f.cell f.in_net in
    let size : length (gates_of_net net) ≡ length net.cells = length-map net.cells (cell_gate (signals net)) in
    let la : a < length net.cells = slice_get_within net.cells a ca ha in
    let lb : b < length net.cells = f.in_net.1 in
    let at : place_of (signals net) ca.target ≡ Some (length net.inputs + a) = place_of-at (signals net) apart (length net.inputs + a) (cell_port ca) (signal_cell net a ca ha) in
    let by_form : Contains (map (number_of (signals net)) (operands f.cell.form)) (number_of (signals net) ca.target) = Contains-map (number_of (signals net)) (operands f.cell.form) ca.target f.reads in
    let C : List ℕ → Type 0 = λ xs. Contains xs (number_of (signals net) ca.target) in
    let D : ℕ → Type 0 = λ i. Contains (reads_of (gate_at (gates_of_net net) b)) i in
    let by_gate : Contains (reads_of (gate_at (gates_of_net net) b)) (number_of (signals net) ca.target) =
    subst C (sym (ap reads_of (gate_at_cell net b f.cell hb) ∙ reads_of-gate_of (number_of (signals net)) (bits_of (signals net)) f.cell.form)) by_form in
    let r : Reads (length net.inputs) (gates_of_net net) a b =
    record { source = omega arith; reader = omega arith; reads = subst D (number_from_place (signals net) ca.target (length net.inputs + a) at) by_gate } in
    (b, f.cell, hb, f.drives, r)

-- a loop by number is a loop by name
pub chain_feeds :
    (net : Net) → CellsFit net → (a b : ℕ) → Chain (Reads (length net.inputs) (gates_of_net net)) a b → (ca cb : Cell)
    → slice_get net.cells a ≡ Some ca → slice_get net.cells b ≡ Some cb → Chain (Feeds net) ca.target cb.target
chain_feeds net fits a b (one r) ca cb ha hb = one (reads_feeds net fits a b ca cb ha hb r)
chain_feeds net fits a b (more {y = y} ch r) ca cb ha hb =
    let size : length (gates_of_net net) ≡ length net.cells = length-map net.cells (cell_gate (signals net)) in
    let cy = slice_get_some net.cells y (omega (arith, r.source)) in
    more (chain_feeds net fits a y ch ca cy.0 ha cy.1) (reads_feeds net fits y b cy.0 cb cy.1 hb r)
