-- Loops by number and by name.
use Rattle.std.proofs.Common.{◌≡◌, ◌≢◌, ◌⊎◌, inl, inr, ℕ, zero, suc, ◌<◌, List, [], ◌∷◌, ◌++◌, length, take, drop, get_or, map, Option, Some, None, refl, ap, sym, ◌∙◌, subst, arith}
use Rattle.std.specs.Prelude.{All, AllPairs, Contains, slice_get}
use Rattle.std.proofs.lemmas.List.{length-map}
use Rattle.std.proofs.lemmas.Option.{same_Some, slice_get-get_or, slice_get_within, get_or_from_slice_get}
use Rattle.std.proofs.lemmas.List.Elements.{Contains-append_left, Contains-append_right, Contains-append_cases}
use Rattle.ix_net.specs.declared.netlist.Net.{Net}
use Rattle.ix_net.specs.declared.netlist.Port.{Port}
use Rattle.ix_net.specs.declared.netlist.Cell.{Cell}
use Rattle.ix_net.specs.Signals.{cell_port}
use Rattle.ix_net.specs.Forms.{operands}
use Rattle.ix_net.specs.Valid.{Feeds, DependsOn, names}
use Rattle.ix_net.specs.Chain.{Chain, one, more}
use Rattle.ix_net.proofs.NetLemmas.{slice_get_some, slice_get_mapped, slice_get_from_contains, contains_from_slice_get, place_of-at}
use Rattle.ix_net.proofs.TableLemmas.{name_at_place}
use Rattle.ix_vread.specs.Graphs.{read_by, listed, cell_of, graph_of, Edge, IsOnLoop, IsFirstOnLoop, HasNoLoop}
use Rattle.ix_vread.specs.Loops.{AreDrivenOnce, IsLoopless, IsFirstLoop, FirstLoop}

head_case : {X : Type 0} (x : X) (xs : List X) (y : X) → Contains (x ∷ xs) y → (x ≡ y) ⊎ Contains xs y
head_case x xs y c = go c.0 c.1 c.2
  where
    go : (k : ℕ) → k < length (x ∷ xs) → get_or (x ∷ xs) k y ≡ y → (x ≡ y) ⊎ Contains xs y
    go zero l e = inl e
    go (suc k) l e = inr (k, omega arith, e)

-- ---- numbers of names
read_back : (f : List ℕ → Option ℕ) (ns : List (List ℕ)) (k : ℕ) → Contains (read_by f ns) k → (n : List ℕ) × Contains ns n × (f n ≡ Some k)
read_back f [] k c = absurd (omega (arith, c.1))
read_back f (n ∷ ns) k c = elim (Contains-append_cases (listed (f n)) (read_by f ns) k c) [
  | inl q ↦ (n, (0, omega arith, refl), is_listed (f n) k q)
  | inr q ↦ (let r = read_back f ns k q in (r.0, (suc r.1.0, omega (arith, r.1.1), r.1.2), r.2))
]
  where
    is_listed : (o : Option ℕ) (k : ℕ) → Contains (listed o) k → o ≡ Some k
    is_listed None k c = absurd (omega (arith, c.1))
    is_listed (Some j) k c = go c.0 c.1 c.2
      where
        go : (i : ℕ) → i < 1 → get_or (j ∷ []) i k ≡ k → Some j ≡ Some k
        go zero l e = ap Some e
        go (suc i) l e = absurd (omega (arith, l))

read_to : (f : List ℕ → Option ℕ) (ns : List (List ℕ)) (n : List ℕ) (k : ℕ) → Contains ns n → f n ≡ Some k → Contains (read_by f ns) k
read_to f [] n k c e = absurd (omega (arith, c.1))
read_to f (m ∷ ns) n k c e = elim (head_case m ns n c) [
  | inl q ↦ (let h : f m ≡ Some k = ap f q ∙ e in Contains-append_left (listed (f m)) (read_by f ns) k (subst (λ o. Contains (listed o) k) (sym h) (0, omega arith, refl)))
  | inr q ↦ Contains-append_right (listed (f m)) (read_by f ns) k (read_to f ns n k q e)
]

pub read_same : (f g : List ℕ → Option ℕ) → ((n : List ℕ) → f n ≡ g n) → (ns : List (List ℕ)) → read_by f ns ≡ read_by g ns
read_same f g h [] = refl
read_same f g h (n ∷ ns) = ap (λ o. listed o ++ read_by f ns) (h n) ∙ ap (λ z. listed (g n) ++ z) (read_same f g h ns)

-- ---- cells
map_map : {X Y Z : Type 0} (f : X → Y) (g : Y → Z) (xs : List X) → map g (map f xs) ≡ map (λ x. g (f x)) xs
map_map f g [] = refl
map_map f g (x ∷ xs) = ap (λ z. g (f x) ∷ z) (map_map f g xs)

pub apart_ports : (cells : List Cell) → AreDrivenOnce cells → AllPairs (λ x y. x ≢ y) (names (map cell_port cells))
apart_ports cells h = subst (AllPairs (λ x y. x ≢ y)) (sym (map_map cell_port (λ (p : Port). p.name) cells)) h

pub cell_at : (cells : List Cell) → AreDrivenOnce cells → (k : ℕ) (c : Cell) → slice_get cells k ≡ Some c → cell_of cells c.target ≡ Some k
cell_at cells h k c e = place_of-at (map cell_port cells) (apart_ports cells h) k (cell_port c) (slice_get_mapped cell_port cells k c e)

cell_named : (cells : List Cell) (n : List ℕ) (k : ℕ) (c : Cell) → cell_of cells n ≡ Some k → slice_get cells k ≡ Some c → c.target ≡ n
cell_named cells n k c e g =
    let p : Port = cell_port c in
    let at : get_or (map cell_port cells) k p ≡ p = get_or_from_slice_get (map cell_port cells) k p p (slice_get_mapped cell_port cells k c g) in
    ap (λ (q : Port). q.name) (sym at) ∙ name_at_place (map cell_port cells) n k p e

abbrev row : List Cell → Cell → List ℕ
row cells c = read_by (cell_of cells) (operands c.form)

row_at : (cells : List Cell) (k : ℕ) (c : Cell) → slice_get cells k ≡ Some c → get_or (graph_of cells) k [] ≡ row cells c
row_at cells k c e = get_or_from_slice_get (graph_of cells) k (row cells c) [] (slice_get_mapped (row cells) cells k c e)

long : (cells : List Cell) → length (graph_of cells) ≡ length cells
long cells = length-map cells (row cells)

-- an edge by number is one by name
edge_feeds : (net : Net) (a b : ℕ) (ca cb : Cell) → slice_get net.cells a ≡ Some ca → slice_get net.cells b ≡ Some cb → Edge (graph_of net.cells) a b → Feeds net ca.target cb.target
edge_feeds net a b ca cb ha hb d =
    let r = read_back (cell_of net.cells) (operands cb.form) a (subst (λ z. Contains z a) (row_at net.cells b cb hb) d.reads) in
    let same : ca.target ≡ r.0 = cell_named net.cells r.0 a ca r.2 ha in
    record { cell = cb; in_net = contains_from_slice_get net.cells b cb hb; reads = subst (λ z. Contains (operands cb.form) z) (sym same) r.1; drives = refl }

chain_feeds : (net : Net) (a b : ℕ) → Chain (Edge (graph_of net.cells)) a b → (ca cb : Cell) → slice_get net.cells a ≡ Some ca → slice_get net.cells b ≡ Some cb → Chain (Feeds net) ca.target cb.target
chain_feeds net a b (one d) ca cb ha hb = one (edge_feeds net a b ca cb ha hb d)
chain_feeds net a b (more {y = y} ch d) ca cb ha hb =
    let cy = slice_get_some net.cells y (omega (arith, d.source, long net.cells)) in
    more (chain_feeds net a y ch ca cy.0 ha cy.1) (edge_feeds net y b cy.0 cb cy.1 hb d)

pub loop_named : (net : Net) (k : ℕ) (c : Cell) → slice_get net.cells k ≡ Some c → IsOnLoop (graph_of net.cells) k → DependsOn net c.target c.target
loop_named net k c e l = chain_feeds net k k l c c e e

-- and an edge by name one by number
feeds_edge : (net : Net) → AreDrivenOnce net.cells → (a : ℕ) (ca : Cell) (y : List ℕ) → slice_get net.cells a ≡ Some ca → Feeds net ca.target y
    → (b : ℕ) × (cb : Cell) × (slice_get net.cells b ≡ Some cb) × (cb.target ≡ y) × Edge (graph_of net.cells) a b
feeds_edge net h a ca y ha f =
    let b = f.in_net.0 in
    let hb : slice_get net.cells b ≡ Some f.cell = slice_get_from_contains net.cells f.cell f.in_net in
    let la : a < length net.cells = slice_get_within net.cells a ca ha in
    let r : Contains (row net.cells f.cell) a = read_to (cell_of net.cells) (operands f.cell.form) ca.target a f.reads (cell_at net.cells h a ca ha) in
    (b, f.cell, hb, f.drives, record { source = omega (arith, la, long net.cells); reader = omega (arith, f.in_net.1, long net.cells); reads = subst (λ z. Contains z a) (sym (row_at net.cells b f.cell hb)) r })

feeds_chain : (net : Net) → AreDrivenOnce net.cells → (a : ℕ) (ca : Cell) (x y : List ℕ) → slice_get net.cells a ≡ Some ca → ca.target ≡ x → Chain (Feeds net) x y
    → (b : ℕ) × (cb : Cell) × (slice_get net.cells b ≡ Some cb) × (cb.target ≡ y) × Chain (Edge (graph_of net.cells)) a b
feeds_chain net h a ca x y ha e (one f) =
    let r = feeds_edge net h a ca y ha (subst (λ z. Feeds net z y) (sym e) f) in
    (r.0, r.1, r.2, r.3, one r.4)
feeds_chain net h a ca x y ha e (more {y = z} ch f) =
    let r = feeds_chain net h a ca x z ha e ch in
    let s = feeds_edge net h r.0 r.1 y r.2 (subst (λ q. Feeds net q y) (sym r.3) f) in
    (s.0, s.1, s.2, s.3, more r.4 s.4)

pub loop_numbered : (net : Net) → AreDrivenOnce net.cells → (k : ℕ) (c : Cell) → slice_get net.cells k ≡ Some c → DependsOn net c.target c.target → IsOnLoop (graph_of net.cells) k
loop_numbered net h k c e d =
    let r = feeds_chain net h k c c.target c.target e refl d in
    let same : r.0 ≡ k = same_Some r.0 k (sym (cell_at net.cells h r.0 r.1 r.2) ∙ ap (cell_of net.cells) r.3 ∙ cell_at net.cells h k c e) in
    subst (λ z. Chain (Edge (graph_of net.cells)) k z) same r.4

-- a name that depends on something is the target of a cell
chain_cell : (net : Net) (x y : List ℕ) → Chain (Feeds net) x y → (k : ℕ) × (c : Cell) × (slice_get net.cells k ≡ Some c) × (c.target ≡ y)
chain_cell net x y (one f) = (f.in_net.0, f.cell, slice_get_from_contains net.cells f.cell f.in_net, f.drives)
chain_cell net x y (more ch f) = (f.in_net.0, f.cell, slice_get_from_contains net.cells f.cell f.in_net, f.drives)

pub loopless_from : (net : Net) (graph : List (List ℕ)) → graph ≡ graph_of net.cells → AreDrivenOnce net.cells → HasNoLoop graph → IsLoopless net
loopless_from net graph e h none name d =
    let r = chain_cell net name name d in
    let q : DependsOn net r.1.target r.1.target = subst (λ z. DependsOn net z z) (sym r.3) d in
    let l : IsOnLoop graph r.0 = subst (λ g. IsOnLoop g r.0) (sym e) (loop_numbered net h r.0 r.1 r.2 q) in
    none r.0 (omega (arith, ap length e, long net.cells, slice_get_within net.cells r.0 r.1 r.2)) l

split_at : {X : Type 0} (xs : List X) (k : ℕ) (x : X) → slice_get xs k ≡ Some x → xs ≡ take k xs ++ x ∷ drop (suc k) xs
split_at [] k x e = absurd (none e)
  where
    none : slice_get [] k ≡ Some x → ⊥
    none f = cc
split_at (y ∷ xs) zero x e = ap (λ z. z ∷ xs) (same_Some y x e)
split_at (y ∷ xs) (suc k) x e = ap (λ z. y ∷ z) (split_at xs k x e)

short : {X : Type 0} (xs : List X) (k j : ℕ) → j < length (take k xs) → j < k
short [] zero j l = absurd (omega (arith, l))
short [] (suc k) j l = absurd (omega (arith, l))
short (x ∷ xs) zero j l = absurd (omega (arith, l))
short (x ∷ xs) (suc k) zero l = omega arith
short (x ∷ xs) (suc k) (suc j) l = omega (arith, short xs k j (omega (arith, l)))

taken : {X : Type 0} (xs : List X) (k j : ℕ) (d : X) → j < length (take k xs) → slice_get xs j ≡ Some (get_or (take k xs) j d)
taken [] zero j d l = absurd (omega (arith, l))
taken [] (suc k) j d l = absurd (omega (arith, l))
taken (x ∷ xs) zero j d l = absurd (omega (arith, l))
taken (x ∷ xs) (suc k) zero d l = refl
taken (x ∷ xs) (suc k) (suc j) d l = taken xs k j d (omega (arith, l))

pub first_from : (net : Net) (graph : List (List ℕ)) (k : ℕ) (c : Cell) (name : List ℕ) → graph ≡ graph_of net.cells → AreDrivenOnce net.cells → IsFirstOnLoop graph k → slice_get net.cells k ≡ Some c → c.target ≡ name → IsFirstLoop net name
first_from net graph k c name e h f at named =
    record {
      front = take k net.cells;
      cell = c;
      rest = drop (suc k) net.cells;
      are = split_at net.cells k c at;
      named = named;
      loop = subst (λ z. DependsOn net z z) named (loop_named net k c at (subst (λ g. IsOnLoop g k) e f.loop));
      before = λ j d l.
          (let cj = get_or (take k net.cells) j d in
          λ q. f.before j (short net.cells k j l) (subst (λ g. IsOnLoop g j) (sym e) (loop_numbered net h j cj (taken net.cells k j d l) q)));
    }

-- ---- nets one after another
pub first_net : (nets : List Net) (i : ℕ) (net : Net) (name : List ℕ) → i < length nets → net ≡ get_or nets i net → IsFirstLoop net name → All IsLoopless (take i nets) → FirstLoop nets name
first_net nets i net name l e f before =
    record {
      front = take i nets;
      net = net;
      rest = drop (suc i) nets;
      are = split_at nets i net (slice_get-get_or nets i net l ∙ ap Some (sym e));
      loop = f;
      before = before;
    }
