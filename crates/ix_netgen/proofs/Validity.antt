-- A generated net is valid.
use Rattle.std.proofs.Common.{◌≡◌, ◌≢◌, ⊎_elim, ◌⊎◌, inl, inr, ◌||◌, ℕ, ◌+◌, ◌<◌, ◌≤◌, ◌^◌, zero, suc, List, [], ◌∷◌, ◌++◌, Some, length, map, get_or, arith, refl, ap, sym, ◌∙◌, subst, All, AllPairs, Contains, IsTrue}
use Rattle.std.specs.Prelude.{slice_get}
use Rattle.std.proofs.lemmas.Option.{same_Some, slice_get-get_or}
use Rattle.std.proofs.lemmas.List.{length-map, get_or-map, map-append}
use Rattle.std.proofs.lemmas.List.Elements.{All-from_recursion, All-contains, All-append, All-map, All-contains_itself, All-weaker, Contains-append_right}
use Rattle.ix_net.specs.declared.netlist.Net.{Net}
use Rattle.ix_net.specs.declared.netlist.Port.{Port}
use Rattle.ix_net.specs.declared.netlist.Cell.{Cell}
use Rattle.ix_net.specs.declared.netlist.Bank.{Bank}
use Rattle.ix_net.specs.declared.netlist.Form.{Form}
use Rattle.ix_net.specs.Chain.{Chain, one, more}
use Rattle.ix_net.specs.Forms.{operands, Fits}
use Rattle.ix_net.specs.Name.{IsName, is_letter, is_mark}
use Rattle.ix_net.specs.Signals.{signals, cell_port, bank_port, width_of, place_of}
use Rattle.ix_net.specs.Valid.{IsValid, IsWidth, Feeds, DependsOn, names}
use Rattle.ix_net.proofs.NetLemmas.{Apart, place_of-at, slice_get_from_contains, signal_cell}
use Rattle.ix_net.proofs.ValidLemmas.{apart_of}
use Rattle.ix_net.proofs.FormFits.{HasSome, fits_from, operands_have}
use Rattle.ix_ports.specs.Ports.{module_name, enable_port}
use Rattle.ix_netgen.proofs.BankLemmas.{has_input}
use Rattle.ix_cells.specs.declared.signal.Signal.{Signal}
use Rattle.ix_cells.specs.declared.signal.Signal.TheVariants.{Node, Output}
use Rattle.ix_cells.specs.Naming.{name_of, IsBounded, Ascends}
use Rattle.ix_cells.specs.Growth.{IsKnown, Reach, IsSoundCell, AreNodes, Extends}
use Rattle.ix_net.specs.Declarations.{FormFits}
use Rattle.ix_netgen.specs.Standing.{Timetable, IsRightBank}
use Rattle.ix_cells.proofs.Names.{name_injective}
use Rattle.ix_cells.proofs.Growing.{has_grows, known_more}
use Rattle.ix_net.proofs.RunLemmas.{width_from_has}
use Rattle.ix_netgen.proofs.InOrder.{signal_at, IsSignal, all_apart, signal_named, module_named}
use Rattle.ix_netgen.proofs.Emitted.{IsOut, AreOuts, out_at}

node_at : (net : Net) (n : ℕ) (cs : List Cell) → AreNodes net n cs → (i : ℕ) (c : Cell) → slice_get cs i ≡ Some c → (c.target ≡ name_of (Node (n + i))) × IsSoundCell net (n + i) c
node_at net n [] h i c g = absurd (cc)
node_at net n (x ∷ cs) h zero c g =
    (let e : n ≡ n + 0 = omega arith in let s = same_Some x c g in
    let P : ℕ → Type 0 = λ m. (x.target ≡ name_of (Node m)) × IsSoundCell net m x in
    let Q : Cell → Type 0 = λ z. (z.target ≡ name_of (Node (n + 0))) × IsSoundCell net (n + 0) z in
    subst Q s (subst P e (h.0, h.1)))
node_at net n (x ∷ cs) h (suc i) c g =
    (let e : n + 1 + i ≡ n + suc i = omega arith in
    let P : ℕ → Type 0 = λ m. (c.target ≡ name_of (Node m)) × IsSoundCell net m c in
    subst P e (node_at net (n + 1) cs h.2 i c g))

-- a cell of the whole net
record IsPlaced (mid : Net) (i : ℕ) (c : Cell) : Type 0 where
  named : ((c.target ≡ name_of (Node i)) × (i < 2 ^ 64)) ⊎ ((s : Signal) × (c.target ≡ name_of s) × IsBounded s × ((n : ℕ) → IsKnown n s → ⊥))
  wide : IsWidth c.width
  fits : FormFits (Reach mid i) c.width c.form

reach_more : (net : Net) (m n : ℕ) → m ≤ n → (x : List ℕ) (w : ℕ) → Reach net m x w → Reach net n x w
reach_more net m n l x w r = record { signal = r.signal; named = r.named; bounded = r.bounded; known = known_more m n r.signal l r.known; has = r.has }

split_at : {X : Type 0} (xs ys : List X) (i : ℕ) (x : X) → slice_get (xs ++ ys) i ≡ Some x → (slice_get xs i ≡ Some x) ⊎ ((j : ℕ) × (i ≡ length xs + j) × (slice_get ys j ≡ Some x))
split_at [] ys i x h = inr (i, omega arith, h)
split_at (y ∷ xs) ys zero x h = inl h
split_at (y ∷ xs) ys (suc i) x h =
    ⊎_elim (λ (a : slice_get xs i ≡ Some x). inl a)
    (λ (b : (j : ℕ) × (i ≡ length xs + j) × (slice_get ys j ≡ Some x)). inr (b.0, omega (arith, b.1), b.2))
    (split_at xs ys i x h)

module _ (p : Timetable) (net mid : Net) (outs : List Cell) (hi : ℕ) (name : List ℕ) (nodes : AreNodes mid 0 mid.cells) (are_outs : AreOuts mid outs) (cells : net.cells ≡ mid.cells ++ outs) (grown : Extends mid net)
    (named : net.name ≡ module_name name) (order : Ascends 0 hi (names (signals net)))
  where
    distinct : AllPairs (λ x y. x ≢ y) (net.name ∷ names (signals net))
    distinct = (let P : List ℕ → Type 0 = λ n. AllPairs (λ x y. x ≢ y) (n ∷ names (signals net)) in subst P (sym named) (all_apart name hi (names (signals net)) order))

    pub apart : Apart net
    apart = apart_of net distinct

    placed : (i : ℕ) (c : Cell) → slice_get net.cells i ≡ Some c → IsPlaced mid i c
    placed i c h =
        let P : List Cell → Type 0 = λ cs. slice_get cs i ≡ Some c in
        ⊎_elim
        (λ (a : slice_get mid.cells i ≡ Some c).
        (let z : 0 + i ≡ i = omega arith in
        let Q : ℕ → Type 0 = λ m. (c.target ≡ name_of (Node m)) × IsSoundCell mid m c in
        let r = subst Q z (node_at mid 0 mid.cells nodes i c a) in
        let x : IsPlaced mid i c = record { named = inl (r.0, r.1.bound); wide = r.1.wide; fits = r.1.fits } in x))
        (λ (b : (j : ℕ) × (i ≡ length mid.cells + j) × (slice_get outs j ≡ Some c)).
        (let o : IsOut mid c = out_at mid outs are_outs b.0 c b.2 in
        let F : Form → Type 0 = λ f. FormFits (Reach mid i) c.width f in
        let r : Reach mid i (name_of o.source) c.width = record { signal = o.source; named = refl; bounded = o.bounded; known = known_more (length mid.cells) i o.source (omega (arith, b.1)) o.known; has = o.has } in
        let no : (n : ℕ) → IsKnown n (Output o.number o.letter) → ⊥ = λ n k. k in
        let x : IsPlaced mid i c =
        record {
          named = inr (Output o.number o.letter, o.named, o.bound, no);
          wide = o.wide;
          fits = subst F (sym o.form) r;
        } in x))
        (split_at mid.cells outs i c (subst P cells h))

    -- what a cell reads of another stands before it
    feeds_rise : (x y : List ℕ) → Feeds net x y → (j : ℕ) (cj : Cell) → slice_get net.cells j ≡ Some cj → cj.target ≡ x → (i : ℕ) × (ci : Cell) × (slice_get net.cells i ≡ Some ci) × (ci.target ≡ y) × (j < i)
    feeds_rise x y f j cj hj ej =
        let i = f.in_net.0 in
        let hi' : slice_get net.cells i ≡ Some f.cell = slice_get_from_contains net.cells f.cell f.in_net in
        let pi : IsPlaced mid i f.cell = placed i f.cell hi' in
        let has = All-contains (HasSome (Reach mid i)) (operands f.cell.form) x (All-from_recursion (HasSome (Reach mid i)) (operands f.cell.form) (operands_have (Reach mid i) f.cell.width f.cell.form pi.fits)) f.reads in
        let r : Reach mid i x has.0 = has.1 in
        let pj : IsPlaced mid j cj = placed j cj hj in
        let K : Signal → Type 0 = λ s. IsKnown i s in
        let below : j < i =
        ⊎_elim
        (λ (a : (cj.target ≡ name_of (Node j)) × (j < 2 ^ 64)). (let same : r.signal ≡ Node j = name_injective r.signal (Node j) r.bounded a.1 (sym r.named ∙ sym ej ∙ a.0) in subst K same r.known))
        (λ (b : (s : Signal) × (cj.target ≡ name_of s) × IsBounded s × ((n : ℕ) → IsKnown n s → ⊥)).
        absurd (let same : r.signal ≡ b.0 = name_injective r.signal b.0 r.bounded b.2 (sym r.named ∙ sym ej ∙ b.1) in b.3 i (subst K same r.known)))
        pj.named in
        (i, f.cell, hi', f.drives, below)

    chain_rise : (x y : List ℕ) → Chain (Feeds net) x y → (j : ℕ) (cj : Cell) → slice_get net.cells j ≡ Some cj → cj.target ≡ x → (i : ℕ) × (ci : Cell) × (slice_get net.cells i ≡ Some ci) × (ci.target ≡ y) × (j < i)
    chain_rise x y (one f) j cj hj ej = feeds_rise x y f j cj hj ej
    chain_rise x y (more {y = z} c f) j cj hj ej =
        let a = chain_rise x z c j cj hj ej in
        let b = feeds_rise z y f a.0 a.1 a.2 a.3 in
        (b.0, b.1, b.2, b.3, omega (arith, a.4, b.4))

    driver : (x y : List ℕ) → Chain (Feeds net) x y → (j : ℕ) × (cj : Cell) × (slice_get net.cells j ≡ Some cj) × (cj.target ≡ y)
    driver x y (one f) = (f.in_net.0, f.cell, slice_get_from_contains net.cells f.cell f.in_net, f.drives)
    driver x y (more {y = z} c f) = (f.in_net.0, f.cell, slice_get_from_contains net.cells f.cell f.in_net, f.drives)

    loopless : (x : List ℕ) → DependsOn net x x → ⊥
    loopless x c =
        let d = driver x x c in
        let r = chain_rise x x c d.0 d.1 d.2 d.3 in
        let at_j = place_of-at (signals net) apart (length net.inputs + d.0) (cell_port d.1) (signal_cell net d.0 d.1 d.2) in
        let at_i = place_of-at (signals net) apart (length net.inputs + r.0) (cell_port r.1) (signal_cell net r.0 r.1 r.2) in
        let same : length net.inputs + d.0 ≡ length net.inputs + r.0 = same_Some (length net.inputs + d.0) (length net.inputs + r.0) (sym at_j ∙ ap (place_of (signals net)) (d.3 ∙ sym r.3) ∙ at_i) in
        omega (arith, r.4)

    all_at : {X : Type 0} (P : X → Type 0) (xs : List X) → ((i : ℕ) (x : X) → slice_get xs i ≡ Some x → P x) → All P xs
    all_at P xs h k d l = h k (get_or xs k d) (slice_get-get_or xs k d l)

    pub valid_net :
        All (λ (b : Bank). IsRightBank p net b) net.banks → All (λ (q : Port). IsWidth q.width) net.inputs → net.outputs ≡ map cell_port outs
        → AllPairs (λ x y. x ≢ y) (names net.outputs) → All (λ b. IsTrue (is_letter b || is_mark b)) name → IsValid net
    valid_net right inputs_wide ports outputs_apart fit =
        let width = width_from_has net apart in
        let PW : Port → Type 0 = λ q. IsWidth q.width in
        let O : List Port → Type 0 = λ os. All (λ o. Contains (map cell_port net.cells) o) os in
        let OC : List Cell → Type 0 = λ cs. All (λ o. Contains (map cell_port cs) o) (map cell_port outs) in
        let N : List ℕ → Type 0 = λ n. IsName n in
        let named_all : All (λ (q : Port). IsName q.name) (signals net) =
        λ k d l.
        (let size : length (names (signals net)) ≡ length (signals net) = length-map (signals net) (λ (q : Port). q.name) in
        let s : IsSignal 0 (get_or (names (signals net)) k (get_or (signals net) k d).name) = signal_at 0 hi (names (signals net)) order k (get_or (signals net) k d).name (omega arith) in
        let at : get_or (names (signals net)) k (get_or (signals net) k d).name ≡ (get_or (signals net) k d).name = get_or-map (λ (q : Port). q.name) (signals net) k d (get_or (signals net) k d).name l in
        subst N at (subst N (sym s.named) (signal_named s.signal s.bounded))) in
        record {
          module_named = subst N (sym named) (module_named name fit);
          named = named_all;
          distinct = distinct;
          widths =
              All-append PW (net.inputs ++ map cell_port net.cells) (map bank_port net.banks)
              (All-append PW net.inputs (map cell_port net.cells) inputs_wide
              (All-map PW cell_port net.cells (all_at (λ (c : Cell). IsWidth c.width) net.cells (λ i c h. (placed i c h).wide))))
              (All-map PW bank_port net.banks (All-weaker (IsRightBank p net) (λ (b : Bank). IsWidth b.width) (λ b r. r.wide) net.banks right));
          outputs_driven =
              subst O (sym ports)
              (subst OC (sym cells)
              (All-weaker (Contains (map cell_port outs)) (λ o. Contains (map cell_port (mid.cells ++ outs)) o)
              (λ o h. (let C : List Port → Type 0 = λ ps. Contains ps o in subst C (sym (map-append cell_port mid.cells outs)) (Contains-append_right (map cell_port mid.cells) (map cell_port outs) o h)))
              (map cell_port outs) (All-contains_itself (map cell_port outs))));
          outputs_distinct = outputs_apart;
          cells_fit =
              all_at (λ (c : Cell). Fits (width_of (signals net)) c.width c.form) net.cells
              (λ i c h. fits_from (Reach mid i) (width_of (signals net)) (λ n w r. width n w (has_grows grown n w r.has)) c.width c.form (placed i c h).fits);
          enables = All-weaker (IsRightBank p net) (λ (b : Bank). width_of (signals net) b.enable ≡ Some 1)
              (λ b r. ap (width_of (signals net)) r.enabled ∙ width _ 1 (has_input net (enable_port r.time) r.has_enable)) net.banks right;
          sources = All-weaker (IsRightBank p net) (λ (b : Bank). width_of (signals net) b.source ≡ Some b.width)
              (λ b r. ap (width_of (signals net)) r.fed ∙ width _ b.width r.has_source) net.banks right;
          loopless = loopless;
        }
