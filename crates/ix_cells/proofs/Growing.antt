-- What holds of a net holds of one that goes on from it.
use Rattle.std.proofs.Common.{◌≡◌, ℕ, ◌+◌, ◌^◌, ◌<◌, ◌≤◌, suc, List, [], ◌∷◌, ◌++◌, length, map, arith, refl, ap, sym, ◌∙◌, subst, All, Contains, ⊎_elim}
use Rattle.std.proofs.lemmas.List.{length-append, get_or_append_left, append_assoc, append-nil, map-append, length-map, get_or-map}
use Rattle.std.proofs.lemmas.List.Elements.{Contains-append_left, Contains-append_right, Contains-append_cases, All-contains, Contains-push}
use Rattle.ix_net.specs.declared.netlist.Net.{Net}
use Rattle.ix_net.specs.declared.netlist.Port.{Port}
use Rattle.ix_net.specs.declared.netlist.Cell.{Cell}
use Rattle.ix_net.specs.declared.netlist.Bank.{Bank}
use Rattle.ix_net.specs.declared.netlist.Form.{Form}
use Rattle.ix_net.specs.Declarations.{Has, FormFits, Explains}
use Rattle.ix_net.proofs.FormFits.{form_fits_more}
use Rattle.ix_net.specs.Signals.{cell_port, bank_port}
use Rattle.ix_net.specs.Forms.{result_of}
use Rattle.ix_net.specs.Valid.{IsWidth}
use Rattle.ix_cells.specs.declared.signal.Signal.{Signal}
use Rattle.ix_cells.specs.declared.signal.Signal.TheVariants.{Enable, Input, Node, Output, Register}
use Rattle.ix_cells.specs.declared.signal.Wire.{Wire}
use Rattle.ix_cells.specs.Naming.{name_of}
use Rattle.ix_cells.specs.Growth.{IsKnown, IsWire, AreWires, Reach, IsSoundCell, AreNodes, Extends, seen, AreSeen, Adds, next_cell, with_cell, IsPushed}

-- the signals of three lists
abbrev pub ports_of : List Port → List Cell → List Bank → List Port
ports_of inputs cells banks = inputs ++ map cell_port cells ++ map bank_port banks

more_ports : (i : List Port) (c c' : List Cell) (b b' : List Bank) (x : Port) → Contains (ports_of i c b) x → Contains (ports_of i (c ++ c') (b ++ b')) x
more_ports i c c' b b' x h =
    ⊎_elim
    (λ (front : Contains (i ++ map cell_port c) x). Contains-append_left (i ++ map cell_port (c ++ c')) (map bank_port (b ++ b')) x
    (⊎_elim (λ (g : Contains i x). Contains-append_left i (map cell_port (c ++ c')) x g)
    (λ (g : Contains (map cell_port c) x). Contains-append_right i (map cell_port (c ++ c')) x
    (let P : List Port → Type 0 = λ ps. Contains ps x in subst P (sym (map-append cell_port c c')) (Contains-append_left (map cell_port c) (map cell_port c') x g)))
    (Contains-append_cases i (map cell_port c) x front)))
    (λ (back : Contains (map bank_port b) x). Contains-append_right (i ++ map cell_port (c ++ c')) (map bank_port (b ++ b')) x
    (let P : List Port → Type 0 = λ ps. Contains ps x in subst P (sym (map-append bank_port b b')) (Contains-append_left (map bank_port b) (map bank_port b') x back)))
    (Contains-append_cases (i ++ map cell_port c) (map bank_port b) x h)

pub has_grows : {old new : Net} → Extends old new → (n : List ℕ) (w : ℕ) → Has old n w → Has new n w
has_grows {old} {new} e n w h =
    let x : Port = record { name = n; width = w } in
    let P : List Port → Type 0 = λ i. Contains (ports_of i new.cells new.banks) x in
    let Q : List Cell → Type 0 = λ c. Contains (ports_of old.inputs c new.banks) x in
    let R : List Bank → Type 0 = λ b. Contains (ports_of old.inputs (old.cells ++ e.cells) b) x in
    subst P (sym e.inputs) (subst Q (sym e.cells_are) (subst R (sym e.banks_are) (more_ports old.inputs old.cells e.cells old.banks e.banks x h)))

pub extends_same : (net : Net) → Extends net net
extends_same net = record {
  named = refl;
  inputs = refl;
  cells = [];
  cells_are = sym (append-nil net.cells);
  banks = [];
  banks_are = sym (append-nil net.banks);
}

pub extends_on : {a b c : Net} → Extends a b → Extends b c → Extends a c
extends_on {a} {b} {c} x y = record {
  named = y.named ∙ x.named;
  inputs = y.inputs ∙ x.inputs;
  cells = x.cells ++ y.cells;
  cells_are = y.cells_are ∙ ap (λ l. l ++ y.cells) x.cells_are ∙ append_assoc a.cells x.cells y.cells;
  banks = x.banks ++ y.banks;
  banks_are = y.banks_are ∙ ap (λ l. l ++ y.banks) x.banks_are ∙ append_assoc a.banks x.banks y.banks;
}

cells_length : {old new : Net} → Extends old new → length old.cells ≤ length new.cells
cells_length {old} {new} e = omega (arith, ap length e.cells_are, length-append old.cells e.cells)

pub known_more : (m n : ℕ) (s : Signal) → m ≤ n → IsKnown m s → IsKnown n s
known_more m n (Enable t) l h = tt
known_more m n (Input k) l h = tt
known_more m n (Node k) l h = omega arith
known_more m n (Output k letter) l h = absurd h
known_more m n (Register k t) l h = tt

pub wire_grows : {old new : Net} → Extends old new → (w : Wire) → IsWire old w → IsWire new w
wire_grows {old} {new} e w h = record {
  has = has_grows e (name_of w.signal) w.width h.has;
  known = known_more (length old.cells) (length new.cells) w.signal (cells_length e) h.known;
  bounded = h.bounded;
  wide = h.wide;
}

pub wires_grow : {old new : Net} → Extends old new → (ws : List Wire) → AreWires old ws → AreWires new ws
wires_grow e [] h = tt
wires_grow e (w ∷ ws) h = (wire_grows e w h.0, wires_grow e ws h.1)

pub nodes_grow : {old new : Net} → Extends old new → (n : ℕ) (cs : List Cell) → AreNodes old n cs → AreNodes new n cs
nodes_grow e n [] h = tt
nodes_grow {old} {new} e n (c ∷ cs) h =
    let grown : (m : List ℕ) (w : ℕ) → Reach old n m w → Reach new n m w =
    λ m w r. record { signal = r.signal; named = r.named; bounded = r.bounded; known = r.known; has = has_grows e m w r.has } in
    (h.0, record { bound = h.1.bound; wide = h.1.wide; fits = form_fits_more (Reach old n) (Reach new n) grown c.width c.form h.1.fits }, nodes_grow e (n + 1) cs h.2)

pub nodes_append : (net : Net) (n : ℕ) (cs ds : List Cell) → AreNodes net n cs → AreNodes net (n + length cs) ds → AreNodes net n (cs ++ ds)
nodes_append net n [] ds h g = (let e : n + 0 ≡ n = omega arith in let P : ℕ → Type 0 = λ m. AreNodes net m ds in subst P e g)
nodes_append net n (c ∷ cs) ds h g =
    let e : n + suc (length cs) ≡ n + 1 + length cs = omega arith in
    let P : ℕ → Type 0 = λ m. AreNodes net m ds in
    (h.0, h.1, nodes_append net (n + 1) cs ds h.2 (subst P e g))

all_front : {X : Type 0} (P : X → Type 0) (xs ys : List X) → All P (xs ++ ys) → All P xs
all_front P xs ys h k d l = subst P (get_or_append_left xs ys d k l) (h k d (omega (arith, length-append xs ys)))

pub explains_before : {old new : Net} → Extends old new → (value wide : List ℕ → ℕ) → Explains new value wide → Explains old value wide
explains_before {old} {new} e value wide x =
    let P : Cell → Type 0 = λ c. value c.target ≡ result_of value wide c.width c.form in
    let A : List Cell → Type 0 = λ cs. All P cs in
    record {
      wide = λ n w h. x.wide n w (has_grows e n w h);
      fit = λ n w h. x.fit n w (has_grows e n w h);
      holds = all_front P old.cells e.cells (subst A e.cells_are x.holds);
    }

pub seen_from : {net : Net} → (value wide : List ℕ → ℕ) → Explains net value wide → (ws : List Wire) → AreWires net ws → AreSeen (seen value) ws
seen_from value wide x [] h = tt
seen_from value wide x (w ∷ ws) h = (x.fit (name_of w.signal) w.width h.0.has, seen_from value wide x ws h.1)

-- a wire as an operand of the next cell
pub reach : {net : Net} (w : Wire) → IsWire net w → Reach net (length net.cells) (name_of w.signal) w.width
reach w h = record { signal = w.signal; named = refl; bounded = h.bounded; known = h.known; has = h.has }

with_cell_extends : (net : Net) (c : Cell) → Extends net (with_cell net c)
with_cell_extends net c = record {
  named = refl;
  inputs = refl;
  cells = c ∷ [];
  cells_are = refl;
  banks = [];
  banks_are = sym (append-nil net.banks);
}

has_cell : (net : Net) (c : Cell) → Contains net.cells c → Has net c.target c.width
has_cell net c h =
    Contains-append_left (net.inputs ++ map cell_port net.cells) (map bank_port net.banks) (cell_port c)
    (Contains-append_right net.inputs (map cell_port net.cells) (cell_port c) (mapped net.cells h))
  where
    mapped : (cs : List Cell) → Contains cs c → Contains (map cell_port cs) (cell_port c)
    mapped cs g = (g.0, omega (arith, length-map cs cell_port, g.1), get_or-map cell_port cs g.0 c (cell_port c) g.1 ∙ ap cell_port g.2)

pub push_adds :
    (needs : List Wire) (old new : Net) (r : Wire) (w : ℕ) (form : Form) (f : (Signal → ℕ) → ℕ)
    → IsPushed old new r w form → (AreWires old needs → IsWidth w) → (AreWires old needs → FormFits (Reach old (length old.cells)) w form)
    → ((value wide : List ℕ → ℕ) → AreWires old needs → Explains old value wide → result_of value wide w form ≡ f (seen value))
    → Adds needs old new r w f
push_adds needs old new r w form f pushed width fits gives =
    let A : Net → Type 0 = λ n. Adds needs old n r w f in
    let B : Wire → Type 0 = λ x. Adds needs old (with_cell old c) x w f in
    subst A (sym pushed.net) (subst B (sym pushed.wire) made)
  where
    c : Cell
    c = next_cell old w form

    grown : Extends old (with_cell old c)
    grown = with_cell_extends old c

    x : Wire
    x = record { signal = Node (length old.cells); width = w }

    within : Contains (old.cells ++ c ∷ []) c
    within = Contains-push old.cells c

    sound : AreNodes old 0 old.cells → AreWires old needs → AreNodes (with_cell old c) 0 (old.cells ++ c ∷ []) × IsWire (with_cell old c) x
    sound nodes wires =
        let len : length (old.cells ++ c ∷ []) ≡ length old.cells + 1 = length-append old.cells (c ∷ []) ∙ omega arith in
        let cell : IsSoundCell old (length old.cells) c = record { bound = pushed.bound; wide = width wires; fits = fits wires } in
        let one : AreNodes old (length old.cells) (c ∷ []) = (refl, cell, tt) in
        let zero_add : 0 + length old.cells ≡ length old.cells = omega arith in
        let P : ℕ → Type 0 = λ n. AreNodes old n (c ∷ []) in (
          nodes_grow grown 0 (old.cells ++ c ∷ []) (nodes_append old 0 old.cells (c ∷ []) nodes (subst P (sym zero_add) one)),
          record { has = has_cell (with_cell old c) c within; known = omega (arith, len); bounded = pushed.bound; wide = width wires },
        )

    made : Adds needs old (with_cell old c) x w f
    made = record {
      extends = grown;
      same_banks = refl;
      same_outputs = refl;
      wide = refl;
      sound = sound;
      gives = λ value wide nodes wires h.
          All-contains (λ (k : Cell). value k.target ≡ result_of value wide k.width k.form) (old.cells ++ c ∷ []) c h.holds within
          ∙ gives value wide wires (explains_before grown value wide h);
    }

-- one addition after another
pub seq :
    {na nb n : List Wire} {n0 n1 n2 : Net} {x r : Wire} {wx w : ℕ} {fx g f : (Signal → ℕ) → ℕ}
    → Adds na n0 n1 x wx fx → Adds nb n1 n2 r w g
    → (AreWires n0 n → AreWires n0 na)
    → (AreWires n0 n → ((v : Wire) → IsWire n0 v → IsWire n1 v) → IsWire n1 x → AreWires n1 nb)
    → ((see : Signal → ℕ) → AreSeen see n → see x.signal ≡ fx see → g see ≡ f see)
    → Adds n n0 n2 r w f
seq {na} {nb} {n} {n0} {n1} {n2} {x} {r} {wx} {w} {fx} {g} {f} a b first second same = record {
  extends = extends_on a.extends b.extends;
  same_banks = b.same_banks ∙ a.same_banks;
  same_outputs = b.same_outputs ∙ a.same_outputs;
  wide = b.wide;
  sound = λ nodes wires. (let s = a.sound nodes (first wires) in b.sound s.0 (second wires (wire_grows a.extends) s.1));
  gives = λ value wide nodes wires h.
      (let before = explains_before b.extends value wide h in
      let s = a.sound nodes (first wires) in
      let at = a.gives value wide nodes (first wires) before in
      let here = seen_from value wide (explains_before a.extends value wide before) n wires in
      b.gives value wide s.0 (second wires (wire_grows a.extends) s.1) h ∙ same (seen value) here at);
}

pub of_width : {needs : List Wire} {old new : Net} {r : Wire} (w v : ℕ) {f : (Signal → ℕ) → ℕ} → w ≡ v → Adds needs old new r w f → Adds needs old new r v f
of_width {needs} {old} {new} {r} w v {f} e a = (let P : ℕ → Type 0 = λ x. Adds needs old new r x f in subst P e a)

-- a wire that is there already
pub same_adds : (net : Net) (a : Wire) (f : (Signal → ℕ) → ℕ) → ((see : Signal → ℕ) → see a.signal < 2 ^ a.width → see a.signal ≡ f see) → Adds (a ∷ []) net net a a.width f
same_adds net a f same = record {
  extends = extends_same net;
  same_banks = refl;
  same_outputs = refl;
  wide = refl;
  sound = λ nodes wires. (nodes, wires.0);
  gives = λ value wide nodes wires x. same (seen value) (x.fit _ a.width wires.0.has);
}

-- the same value in other words
pub with_value : {needs : List Wire} {old new : Net} {r : Wire} {w : ℕ} {f g : (Signal → ℕ) → ℕ} → ((see : Signal → ℕ) → AreSeen see needs → f see ≡ g see) → Adds needs old new r w f → Adds needs old new r w g
with_value {needs} same a = record {
  extends = a.extends;
  same_banks = a.same_banks;
  same_outputs = a.same_outputs;
  wide = a.wide;
  sound = a.sound;
  gives = λ value wide nodes wires x. a.gives value wide nodes wires x ∙ same (seen value) (seen_from value wide (explains_before a.extends value wide x) needs wires);
}

-- what needs nothing, among what needs something
pub needing : {old new : Net} {r : Wire} {w : ℕ} {f : (Signal → ℕ) → ℕ} (needs : List Wire) → Adds [] old new r w f → Adds needs old new r w f
needing needs a = record {
  extends = a.extends;
  same_banks = a.same_banks;
  same_outputs = a.same_outputs;
  wide = a.wide;
  sound = λ nodes wires. a.sound nodes tt;
  gives = λ value wide nodes wires x. a.gives value wide nodes tt x;
}
