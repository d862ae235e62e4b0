-- What a module says line by line, and the net that it is.
use Rattle.std.proofs.Common.{◌≡◌, ◌≢◌, inl, inr, ℕ, List, [], ◌∷◌, ◌++◌, map, get_or, Some, refl, ap, sym, ◌∙◌, subst}
use Rattle.std.specs.Prelude.{Contains, All, AllPairs}
use Rattle.std.specs.List.{AllZip, AllByRecursion}
use Rattle.std.proofs.lemmas.Option.{same_Some}
use Rattle.std.proofs.lemmas.List.{map-append}
use Rattle.std.proofs.lemmas.List.Elements.{All-contains, All-head, All-tail, All-from_recursion, Contains-append_left, Contains-append_right, Contains-append_cases, Contains-get_or}
use Rattle.ix_net.specs.declared.netlist.Port.{Port}
use Rattle.ix_net.specs.declared.netlist.Net.{Net}
use Rattle.ix_net.specs.declared.netlist.Cell.{Cell}
use Rattle.ix_net.specs.declared.netlist.Bank.{Bank}
use Rattle.ix_net.specs.Name.{IsName}
use Rattle.ix_net.specs.Signals.{signals, cell_port, bank_port, width_of}
use Rattle.ix_net.specs.Forms.{Fits}
use Rattle.ix_net.specs.Valid.{names, IsValid, IsWidth, DependsOn}
use Rattle.ix_net.specs.Declarations.{FormFits}
use Rattle.ix_net.proofs.FormFits.{fits_from}
use Rattle.ix_net.proofs.NetLemmas.{place_of-at, placed_from_width, slice_get_from_contains}
use Rattle.ix_net.proofs.TableLemmas.{place_within, name_at_place, width_at_place}
use Rattle.ix_verilog.specs.declared.source.Source.{Source}
use Rattle.ix_verilog.specs.declared.source.Assign.{Assign}
use Rattle.ix_verilog.specs.declared.source.Update.{Update}
use Rattle.ix_verilog.specs.Words.{Word}
use Rattle.ix_verilog.specs.Lines.{right_of}
use Rattle.ix_verilog.specs.Subset.{assigned, declared, MayDeclare, IsNetOf}
use Rattle.ix_verilog.proofs.Pairs.{contains_mapped, mapped_back, all_of, pairs_left, pairs_right, pairs_cross, pairs_append, pairs_cons, pairs_head, pairs_tail}
use Rattle.ix_vnets.specs.Names.{AllOnce, said_in, targets, updated}
use Rattle.ix_vnets.specs.Widths.{Has}
use Rattle.ix_vnets.specs.Finished.{IsFinished}
use Rattle.ix_vnets.specs.Nets.{IsCellOf, IsBankOf, IsMadeOf}
use Rattle.ix_vnets.proofs.Bridging.{port_once, fits_to, assigned_in, register_in, input_in}

-- ---- lists that go together
zip_map : {X Y Z : Type 0} (R : X → Y → Type 0) (f : X → Z) (g : Y → Z) (xs : List X) (ys : List Y) → ((x : X) (y : Y) → R x y → g y ≡ f x) → AllZip R xs ys → map g ys ≡ map f xs
zip_map R f g [] [] t h = refl
zip_map R f g [] (y ∷ ys) t h = absurd h
zip_map R f g (x ∷ xs) [] t h = absurd h
zip_map R f g (x ∷ xs) (y ∷ ys) t h = ap (λ z. z ∷ map g ys) (t x y h.0) ∙ ap (λ z. f x ∷ z) (zip_map R f g xs ys t h.1)

zip_right : {X Y : Type 0} (R : X → Y → Type 0) (P : Y → Type 0) (xs : List X) (ys : List Y) → ((x : X) (y : Y) → R x y → P y) → AllZip R xs ys → AllByRecursion P ys
zip_right R P [] [] t h = tt
zip_right R P [] (y ∷ ys) t h = absurd h
zip_right R P (x ∷ xs) [] t h = absurd h
zip_right R P (x ∷ xs) (y ∷ ys) t h = (t x y h.0, zip_right R P xs ys t h.1)

all_right : {X Y : Type 0} (R : X → Y → Type 0) (P : Y → Type 0) (xs : List X) (ys : List Y) → ((x : X) (y : Y) → R x y → P y) → AllZip R xs ys → All P ys
all_right R P xs ys t h = All-from_recursion P ys (zip_right R P xs ys t h)

map_map : {X Y Z : Type 0} (f : X → Y) (g : Y → Z) (xs : List X) → map g (map f xs) ≡ map (λ x. g (f x)) xs
map_map f g [] = refl
map_map f g (x ∷ xs) = ap (λ z. g (f x) ∷ z) (map_map f g xs)

map_same : {X : Type 0} (f : X → X) (xs : List X) → ((x : X) → f x ≡ x) → map f xs ≡ xs
map_same f [] h = refl
map_same f (x ∷ xs) h = ap (λ z. z ∷ map f xs) (h x) ∙ ap (λ z. x ∷ z) (map_same f xs h)

abbrev to_update : Bank → Update
to_update b = record { enable = b.enable; target = b.target; source = b.source }

abbrev name_of : Port → Word
name_of p = p.name

-- the width of a port that stands in a list with no double name
pub width_here : (ps : List Port) → AllPairs (λ x y. x ≢ y) (names ps) → (n : Word) (w : ℕ) → Contains ps (record { name = n; width = w }) → width_of ps n ≡ Some w
width_here ps apart n w c =
    let p : Port = record { name = n; width = w } in
    let at = place_of-at ps apart c.0 p (slice_get_from_contains ps p c) in
    width_at_place ps n c.0 p at ∙ ap (λ (q : Port). Some q.width) c.2

width_back : (ps : List Port) (n : Word) (w : ℕ) → width_of ps n ≡ Some w → Contains ps (record { name = n; width = w })
width_back ps n w e =
    let d : Port = record { name = n; width = w } in
    let k = placed_from_width ps n w e in
    let same : (get_or ps k.0 d).width ≡ w = same_Some (get_or ps k.0 d).width w (sym (width_at_place ps n k.0 d k.1) ∙ e) in
    let port : get_or ps k.0 d ≡ d = ap (λ x. let r : Port = record { name = x; width = (get_or ps k.0 d).width } in r) (name_at_place ps n k.0 d k.1) ∙ ap (λ x. let r : Port = record { name = n; width = x } in r) same in
    subst (Contains ps) port (Contains-get_or ps k.0 d (place_within ps n k.0 k.1))

-- ---- the net of a module
module _ (s : Source) (net : Net) (fin : IsFinished s) (once : AllOnce (said_in s)) (made : IsMadeOf s net) where
  apart : AllPairs (λ x y. x ≢ y) (names (declared s))
  apart = pairs_tail (λ x y. x ≢ y) s.name (names (declared s)) once.0

  cell_targets : map (λ (c : Cell). c.target) net.cells ≡ targets s.assigns
  cell_targets = zip_map (IsCellOf s) (λ (a : Assign). a.target) (λ (c : Cell). c.target) s.assigns net.cells (λ a c h. h.target) made.cells

  bank_targets : map (λ (b : Bank). b.target) net.banks ≡ updated s.updates
  bank_targets = zip_map (IsBankOf s) (λ (u : Update). u.target) (λ (b : Bank). b.target) s.updates net.banks (λ u b h. ap (λ (x : Update). x.target) h.is) made.banks

  cells_in : All (λ (c : Cell). Contains (assigned s) (cell_port c)) net.cells
  cells_in = all_right (IsCellOf s) (λ (c : Cell). Contains (assigned s) (cell_port c)) s.assigns net.cells (λ a c h. h.declared_so) made.cells

  banks_in : All (λ (b : Bank). Contains s.registers (bank_port b)) net.banks
  banks_in = all_right (IsBankOf s) (λ (b : Bank). Contains s.registers (bank_port b)) s.updates net.banks (λ u b h. h.declared_so) made.banks

  cell_in : (p : Port) → Contains (map cell_port net.cells) p → Contains (assigned s) p
  cell_in p c = (let r = mapped_back cell_port net.cells p c in subst (Contains (assigned s)) r.2 (All-contains (λ (x : Cell). Contains (assigned s) (cell_port x)) net.cells r.0 cells_in r.1))

  bank_in : (p : Port) → Contains (map bank_port net.banks) p → Contains s.registers p
  bank_in p c = (let r = mapped_back bank_port net.banks p c in subst (Contains s.registers) r.2 (All-contains (λ (x : Bank). Contains s.registers (bank_port x)) net.banks r.0 banks_in r.1))

  -- signals are declared
  signal_in : (p : Port) → Contains (signals net) p → Contains (declared s) p
  signal_in p c = elim (Contains-append_cases (net.inputs ++ map cell_port net.cells) (map bank_port net.banks) p c) [
    | inl a ↦ (elim (Contains-append_cases net.inputs (map cell_port net.cells) p a) [
      | inl b ↦ input_in s p (subst (λ z. Contains z p) made.inputs b)
      | inr b ↦ assigned_in s p (cell_in p b)
    ])
    | inr a ↦ register_in s p (bank_in p a)
  ]

  -- what is declared is a signal
  driven_cell : (p : Port) → Contains (assigned s) p → Contains (map cell_port net.cells) p
  driven_cell p c =
      let t : Contains (map (λ (a : Assign). a.target) s.assigns) p.name = All-contains (λ (q : Port). Contains (map (λ (a : Assign). a.target) s.assigns) q.name) (assigned s) p fin.driven.assigns c in
      let r = mapped_back (λ (x : Cell). x.target) net.cells p.name (subst (λ z. Contains z p.name) (sym cell_targets) t) in
      let i : Contains (map cell_port net.cells) (cell_port r.0) = contains_mapped cell_port net.cells r.0 r.1 in
      let same : cell_port r.0 ≡ p = port_once (declared s) apart (cell_port r.0) p (assigned_in s (cell_port r.0) (cell_in (cell_port r.0) i)) (assigned_in s p c) r.2 in
      subst (Contains (map cell_port net.cells)) same i

  driven_bank : (p : Port) → Contains s.registers p → Contains (map bank_port net.banks) p
  driven_bank p c =
      let t : Contains (map (λ (u : Update). u.target) s.updates) p.name = All-contains (λ (q : Port). Contains (map (λ (u : Update). u.target) s.updates) q.name) s.registers p fin.driven.updates c in
      let r = mapped_back (λ (x : Bank). x.target) net.banks p.name (subst (λ z. Contains z p.name) (sym bank_targets) t) in
      let i : Contains (map bank_port net.banks) (bank_port r.0) = contains_mapped bank_port net.banks r.0 r.1 in
      let same : bank_port r.0 ≡ p = port_once (declared s) apart (bank_port r.0) p (register_in s (bank_port r.0) (bank_in (bank_port r.0) i)) (register_in s p c) r.2 in
      subst (Contains (map bank_port net.banks)) same i

  in_signals : (p : Port) → Contains (declared s) p → Contains (signals net) p
  in_signals p c = elim (Contains-append_cases (s.inputs ++ assigned s) s.registers p c) [
    | inl a ↦ Contains-append_left (net.inputs ++ map cell_port net.cells) (map bank_port net.banks) p (elim (Contains-append_cases s.inputs (assigned s) p a) [
      | inl b ↦ Contains-append_left net.inputs (map cell_port net.cells) p (subst (λ z. Contains z p) (sym made.inputs) b)
      | inr b ↦ Contains-append_right net.inputs (map cell_port net.cells) p (driven_cell p b)
    ])
    | inr a ↦ Contains-append_right (net.inputs ++ map cell_port net.cells) (map bank_port net.banks) p (driven_bank p a)
  ]

  -- names of signals
  name_in : (n : Word) → Contains (names (signals net)) n → Contains (names (declared s)) n
  name_in n c = (let r = mapped_back name_of (signals net) n c in subst (Contains (names (declared s))) r.2 (contains_mapped name_of (declared s) r.0 (signal_in r.0 r.1)))

  abbrev A : List Port
  A = net.inputs

  abbrev B : List Port
  B = map cell_port net.cells

  abbrev C : List Port
  C = map bank_port net.banks

  declared_split : names (declared s) ≡ (names s.inputs ++ names (assigned s)) ++ names s.registers
  declared_split = map-append name_of (s.inputs ++ assigned s) s.registers ∙ ap (λ z. z ++ names s.registers) (map-append name_of s.inputs (assigned s))

  parts : AllPairs (λ x y. x ≢ y) ((names s.inputs ++ names (assigned s)) ++ names s.registers)
  parts = subst (AllPairs (λ x y. x ≢ y)) declared_split apart

  front : AllPairs (λ x y. x ≢ y) (names s.inputs ++ names (assigned s))
  front = pairs_left (λ x y. x ≢ y) (names s.inputs ++ names (assigned s)) (names s.registers) parts

  input_name : (n : Word) → Contains (names A) n → Contains (names s.inputs) n
  input_name n c = subst (λ z. Contains (names z) n) made.inputs c

  cell_name : (n : Word) → Contains (names B) n → Contains (names (assigned s)) n
  cell_name n c = (let r = mapped_back name_of B n c in subst (Contains (names (assigned s))) r.2 (contains_mapped name_of (assigned s) r.0 (cell_in r.0 r.1)))

  bank_name : (n : Word) → Contains (names C) n → Contains (names s.registers) n
  bank_name n c = (let r = mapped_back name_of C n c in subst (Contains (names s.registers)) r.2 (contains_mapped name_of s.registers r.0 (bank_in r.0 r.1)))

  apart_AB : AllPairs (λ x y. x ≢ y) (names A ++ names B)
  apart_AB = pairs_append (λ x y. x ≢ y) (names A) (names B) (subst (λ z. AllPairs (λ x y. x ≢ y) (names z)) (sym made.inputs) (pairs_left (λ x y. x ≢ y) (names s.inputs) (names (assigned s)) front))
      (subst (AllPairs (λ x y. x ≢ y)) (sym (map_map cell_port name_of net.cells ∙ cell_targets)) once.1.0)
      (λ x y c d. pairs_cross (λ x y. x ≢ y) (names s.inputs) (names (assigned s)) front x y (input_name x c) (cell_name y d))

  ab_name : (n : Word) → Contains (names A ++ names B) n → Contains (names s.inputs ++ names (assigned s)) n
  ab_name n c = elim (Contains-append_cases (names A) (names B) n c) [
    | inl a ↦ Contains-append_left (names s.inputs) (names (assigned s)) n (input_name n a)
    | inr b ↦ Contains-append_right (names s.inputs) (names (assigned s)) n (cell_name n b)
  ]

  signals_split : names (signals net) ≡ (names A ++ names B) ++ names C
  signals_split = map-append name_of (A ++ B) C ∙ ap (λ z. z ++ names C) (map-append name_of A B)

  pub signals_apart : AllPairs (λ x y. x ≢ y) (names (signals net))
  signals_apart = subst (AllPairs (λ x y. x ≢ y)) (sym signals_split)
      (pairs_append (λ x y. x ≢ y) (names A ++ names B) (names C) apart_AB
      (subst (AllPairs (λ x y. x ≢ y)) (sym (map_map bank_port name_of net.banks ∙ bank_targets)) once.1.1.0)
      (λ x y c d. pairs_cross (λ x y. x ≢ y) (names s.inputs ++ names (assigned s)) (names s.registers) parts x y (ab_name x c) (bank_name y d)))

  width_is : (n : Word) (w : ℕ) → Has (declared s) n w → width_of (signals net) n ≡ Some w
  width_is n w h = width_here (signals net) signals_apart n w (in_signals (record { name = n; width = w }) h)

  abbrev IsCellFit : Cell → Type 0
  IsCellFit c = Fits (width_of (signals net)) c.width c.form

  output_in : (p : Port) → Contains s.outputs p → Contains (assigned s) p
  output_in p c = Contains-append_left s.outputs s.wires p c

  -- the net is valid where nothing depends on itself
  pub valid_from : ((name : Word) → DependsOn net name name → ⊥) → IsValid net
  valid_from loopless = record {
    module_named = subst IsName (sym made.named) fin.named.0;
    named = all_of (λ (p : Port). IsName p.name) (signals net) (λ p c. (All-contains MayDeclare (declared s) p fin.declares (signal_in p c)).0.0);
    distinct = pairs_cons (λ x y. x ≢ y) net.name (names (signals net)) (λ y c. subst (λ z. z ≢ y) (sym made.named) (pairs_head (λ x y. x ≢ y) s.name (names (declared s)) once.0 y (name_in y c))) signals_apart;
    widths = all_of (λ (p : Port). IsWidth p.width) (signals net) (λ p c. (All-contains MayDeclare (declared s) p fin.declares (signal_in p c)).1);
    outputs_driven = all_of (λ o. Contains (map cell_port net.cells) o) net.outputs (λ o c. driven_cell o (output_in o (subst (λ z. Contains z o) made.outputs c)));
    outputs_distinct = subst (λ z. AllPairs (λ x y. x ≢ y) (names z)) (sym made.outputs)
        (pairs_left (λ x y. x ≢ y) (names s.outputs) (names s.wires) (subst (AllPairs (λ x y. x ≢ y)) (map-append name_of s.outputs s.wires) (pairs_right (λ x y. x ≢ y) (names s.inputs) (names (assigned s)) front)));
    cells_fit = all_right (IsCellOf s) IsCellFit s.assigns net.cells (λ a c h. fits_from (Has (declared s)) (width_of (signals net)) width_is c.width c.form h.fits) made.cells;
    enables = all_right (IsBankOf s) (λ (b : Bank). width_of (signals net) b.enable ≡ Some 1) s.updates net.banks (λ u b h. width_is b.enable 1 h.enable) made.banks;
    sources = all_right (IsBankOf s) (λ (b : Bank). width_of (signals net) b.source ≡ Some b.width) s.updates net.banks (λ u b h. width_is b.source b.width h.source) made.banks;
    loopless = loopless;
  }

  pub net_from : ((name : Word) → DependsOn net name name → ⊥) → IsNetOf s net
  net_from loopless = record {
    named = made.named;
    inputs = made.inputs;
    outputs = made.outputs;
    targets = cell_targets;
    rights = zip_map (IsCellOf s) (λ (a : Assign). a.right) (λ (c : Cell). right_of c.form) s.assigns net.cells (λ a c h. h.right) made.cells;
    cell_widths = cells_in;
    updates = zip_map (IsBankOf s) (λ (u : Update). u) to_update s.updates net.banks (λ u b h. h.is) made.banks ∙ map_same (λ (u : Update). u) s.updates (λ u. refl);
    bank_widths = banks_in;
    once = once.0;
    valid = valid_from loopless;
  }

-- ---- and back
heads : {X : Type 0} (x y : X) (xs ys : List X) → x ∷ xs ≡ y ∷ ys → x ≡ y
heads x y xs ys e = cc

tails : {X : Type 0} (x y : X) (xs ys : List X) → x ∷ xs ≡ y ∷ ys → xs ≡ ys
tails x y xs ys e = cc

no_cons : {X : Type 0} (x : X) (xs : List X) → x ∷ xs ≡ [] → ⊥
no_cons x xs e = cc

record IsFit (s : Source) (c : Cell) : Type 0 where
  pub declared_so : Contains (assigned s) (cell_port c)
  pub fits : FormFits (Has (declared s)) c.width c.form

cells_back : (s : Source) (aas : List Assign) (cs : List Cell) → map (λ (c : Cell). c.target) cs ≡ map (λ (a : Assign). a.target) aas → map (λ (c : Cell). right_of c.form) cs ≡ map (λ (a : Assign). a.right) aas → All (IsFit s) cs → AllZip (IsCellOf s) aas cs
cells_back s [] [] e f h = tt
cells_back s [] (c ∷ cs) e f h = absurd (no_cons c.target (map (λ (x : Cell). x.target) cs) e)
cells_back s (a ∷ aas) [] e f h = absurd (no_cons a.target (map (λ (x : Assign). x.target) aas) (sym e))
cells_back s (a ∷ aas) (c ∷ cs) e f h =
    let k : IsFit s c = All-head (IsFit s) c cs h in (
      record {
        target = heads c.target a.target (map (λ (x : Cell). x.target) cs) (map (λ (x : Assign). x.target) aas) e;
        right = heads (right_of c.form) a.right (map (λ (x : Cell). right_of x.form) cs) (map (λ (x : Assign). x.right) aas) f;
        declared_so = k.declared_so;
        fits = k.fits;
      },
      cells_back s aas cs (tails c.target a.target (map (λ (x : Cell). x.target) cs) (map (λ (x : Assign). x.target) aas) e)
          (tails (right_of c.form) a.right (map (λ (x : Cell). right_of x.form) cs) (map (λ (x : Assign). x.right) aas) f) (All-tail (IsFit s) c cs h),
    )

record IsBankFit (s : Source) (b : Bank) : Type 0 where
  pub declared_so : Contains s.registers (bank_port b)
  pub enable : Has (declared s) b.enable 1
  pub source : Has (declared s) b.source b.width

banks_back : (s : Source) (us : List Update) (bs : List Bank) → map to_update bs ≡ us → All (IsBankFit s) bs → AllZip (IsBankOf s) us bs
banks_back s [] [] e h = tt
banks_back s [] (b ∷ bs) e h = absurd (no_cons (to_update b) (map to_update bs) e)
banks_back s (u ∷ us) [] e h = absurd (no_cons u us (sym e))
banks_back s (u ∷ us) (b ∷ bs) e h =
    let k : IsBankFit s b = All-head (IsBankFit s) b bs h in (
      record { is = heads (to_update b) u (map to_update bs) us e; declared_so = k.declared_so; enable = k.enable; source = k.source },
      banks_back s us bs (tails (to_update b) u (map to_update bs) us e) (All-tail (IsBankFit s) b bs h),
    )

pub made_from : (s : Source) (net : Net) → IsNetOf s net → IsMadeOf s net
made_from s net n =
    let cell : (c : Cell) → Contains net.cells c → Contains (assigned s) (cell_port c) = λ c i. All-contains (λ (x : Cell). Contains (assigned s) (cell_port x)) net.cells c n.cell_widths i in
    let bank : (b : Bank) → Contains net.banks b → Contains s.registers (bank_port b) = λ b i. All-contains (λ (x : Bank). Contains s.registers (bank_port x)) net.banks b n.bank_widths i in
    let sub : (p : Port) → Contains (signals net) p → Contains (declared s) p = λ p c. elim (Contains-append_cases (net.inputs ++ map cell_port net.cells) (map bank_port net.banks) p c) [
      | inl a ↦ (elim (Contains-append_cases net.inputs (map cell_port net.cells) p a) [
        | inl b ↦ input_in s p (subst (λ z. Contains z p) n.inputs b)
        | inr b ↦ (let r = mapped_back cell_port net.cells p b in assigned_in s p (subst (Contains (assigned s)) r.2 (cell r.0 r.1)))
      ])
      | inr a ↦ (let r = mapped_back bank_port net.banks p a in register_in s p (subst (Contains s.registers) r.2 (bank r.0 r.1)))
    ] in
    let has : (m : Word) (w : ℕ) → width_of (signals net) m ≡ Some w → Has (declared s) m w = λ m w e. sub (record { name = m; width = w }) (width_back (signals net) m w e) in
    record {
      named = n.named;
      inputs = n.inputs;
      outputs = n.outputs;
      cells = cells_back s s.assigns net.cells n.targets n.rights (all_of (IsFit s) net.cells (λ c i. record {
        declared_so = cell c i;
        fits = fits_to (Has (declared s)) (width_of (signals net)) has c.width c.form (All-contains (λ (d : Cell). Fits (width_of (signals net)) d.width d.form) net.cells c n.valid.cells_fit i);
      }));
      banks = banks_back s s.updates net.banks n.updates (all_of (IsBankFit s) net.banks (λ b i. record {
        declared_so = bank b i;
        enable = has b.enable 1 (All-contains (λ (d : Bank). width_of (signals net) d.enable ≡ Some 1) net.banks b n.valid.enables i);
        source = has b.source b.width (All-contains (λ (d : Bank). width_of (signals net) d.source ≡ Some d.width) net.banks b n.valid.sources i);
      }));
    }
