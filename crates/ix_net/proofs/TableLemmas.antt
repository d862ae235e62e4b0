-- What a table of signals shows of a net.
use Rattle.std.proofs.Common.{◌≡◌, ◌≢◌, ℕ, ◌<◌, ◌-◌, zero, suc, List, [], ◌∷◌, true, Some, None, Result, Ok, Err, IfOk, length, map, get_or, arith, refl, ap, sym, ◌∙◌, subst, All, AllPairs}
use Rattle.std.specs.Option.{option_and_then}
use Rattle.std.specs.Prelude.{slice_get}
use Rattle.std.specs.Str.{bytes_eq}
use Rattle.std.proofs.lemmas.Bool.{false≢true}
use Rattle.std.proofs.lemmas.List.{length-map, get_or-map}
use Rattle.std.proofs.lemmas.List.Elements.{All-map}
use Rattle.std.proofs.lemmas.Option.{slice_get-get_or}
use Rattle.std.proofs.lemmas.Slice.Eq.{bytes_eq-Decides}
use Rattle.ix_net.specs.declared.netlist.Net.{Net}
use Rattle.ix_net.specs.declared.netlist.Port.{Port}
use Rattle.ix_net.specs.declared.tables.Signal.{Signal}
use Rattle.ix_net.specs.Name.{IsName}
use Rattle.ix_net.specs.Signals.{signals, place_of, width_of}
use Rattle.ix_net.specs.Valid.{IsWidth, names}
use Rattle.ix_net.specs.Tables.{port_of, IsDeclared}
use Rattle.ix_net.proofs.PlaceLemmas.{position_from-Some, position_from-None}

-- the place of a name is within the list, and the port there has the name
pub place_within : (ports : List Port) (name : List ℕ) (i : ℕ) → place_of ports name ≡ Some i → i < length ports
place_within ports name i h = omega (arith, (position_from-Some (λ (q : Port). bytes_eq name q.name) ports 0 i h).within)

pub name_at_place : (ports : List Port) (name : List ℕ) (i : ℕ) (d : Port) → place_of ports name ≡ Some i → (get_or ports i d).name ≡ name
name_at_place ports name i d h =
    let f = position_from-Some (λ (q : Port). bytes_eq name q.name) ports 0 i h in
    let z : i - 0 ≡ i = omega arith in
    let passes : bytes_eq name (get_or ports (i - 0) d).name ≡ true = f.passes d in
    sym ((bytes_eq-Decides name (get_or ports (i - 0) d).name).0 passes ∙ ap (λ n. (get_or ports n d).name) z)

-- a name that is nowhere in the list
pub no_place : (ports : List Port) (name : List ℕ) (k : ℕ) (d : Port) → place_of ports name ≡ None → k < length ports → (get_or ports k d).name ≢ name
no_place ports name k d h l same =
    false≢true (sym (position_from-None (λ (q : Port). bytes_eq name q.name) ports 0 h k d l) ∙ (bytes_eq-Decides name (get_or ports k d).name).1 (sym same))

-- the width beside the place
pub width_at_place :
    (ports : List Port) (name : List ℕ) (i : ℕ) (d : Port) → place_of ports name ≡ Some i → width_of ports name ≡ Some (get_or ports i d).width
width_at_place ports name i d h =
    let l : i < length ports = place_within ports name i h in
    let size : length (map (λ (p : Port). p.width) ports) ≡ length ports = length-map ports (λ (p : Port). p.width) in
    ap (λ o. option_and_then (λ i. slice_get (map (λ (p : Port). p.width) ports) i) o) h
    ∙ slice_get-get_or (map (λ (p : Port). p.width) ports) i d.width (omega arith)
    ∙ ap Some (get_or-map (λ (p : Port). p.width) ports i d d.width l)

pub width_of_signal :
    (xs : List Signal) (ports : List Port) (name : List ℕ) (i : ℕ) (s : Signal) → map port_of xs ≡ ports → s ≡ get_or xs i s → place_of ports name ≡ Some i
    → width_of ports name ≡ Some s.width
width_of_signal xs ports name i s e read h =
    let l : i < length ports = place_within ports name i h in
    let size : length ports ≡ length xs = sym (ap length e) ∙ length-map xs port_of in
    let at : get_or ports i (port_of s) ≡ port_of (get_or xs i s) = ap (λ ps. get_or ps i (port_of s)) (sym e) ∙ get_or-map port_of xs i s (port_of s) (omega arith) in
    width_at_place ports name i (port_of s) h ∙ ap (λ (p : Port). Some p.width) (at ∙ ap port_of (sym read))

-- parts of the fact that no two names of a list are one
pub apart_tail : (x : List ℕ) (xs : List (List ℕ)) → AllPairs (λ x y. x ≢ y) (x ∷ xs) → AllPairs (λ x y. x ≢ y) xs
apart_tail x xs h i j d lt l = h (suc i) (suc j) d (omega arith) (omega arith)

apart_cons : (x : List ℕ) (xs : List (List ℕ)) → ((k : ℕ) (d : List ℕ) → k < length xs → x ≢ get_or xs k d) → AllPairs (λ x y. x ≢ y) xs → AllPairs (λ x y. x ≢ y) (x ∷ xs)
apart_cons x xs new h zero zero d lt l = absurd (omega arith)
apart_cons x xs new h (suc i) zero d lt l = absurd (omega arith)
apart_cons x xs new h zero (suc j) d lt l = new j d (omega arith)
apart_cons x xs new h (suc i) (suc j) d lt l = h i j d (omega arith) (omega arith)

pub apart_from_None : (ports : List Port) (name : List ℕ) → place_of ports name ≡ None → AllPairs (λ x y. x ≢ y) (names ports) → AllPairs (λ x y. x ≢ y) (name ∷ names ports)
apart_from_None ports name h apart =
    let p : Port = record { name = []; width = 0 } in
    let size : length (names ports) ≡ length ports = length-map ports (λ (q : Port). q.name) in
    apart_cons name (names ports)
    (λ k d l same. (let lk : k < length ports = omega arith in no_place ports name k p h lk (sym (get_or-map (λ (q : Port). q.name) ports k p d lk) ∙ sym same)))
    apart

pub not_apart_from_Some : (ports : List Port) (name : List ℕ) (i : ℕ) → place_of ports name ≡ Some i → AllPairs (λ x y. x ≢ y) (name ∷ names ports) → ⊥
not_apart_from_Some ports name i h apart =
    let p : Port = record { name = []; width = 0 } in
    let size : length (names ports) ≡ length ports = length-map ports (λ (q : Port). q.name) in
    let l : i < length ports = place_within ports name i h in
    apart 0 (suc i) name (omega arith) (omega arith) (sym (name_at_place ports name i p h) ∙ sym (get_or-map (λ (q : Port). q.name) ports i p name l))

-- a fact of each port, from the same of each signal, and back
abbrev pub IsGood : Signal → Type 0
IsGood s = IsName s.name.now × IsWidth s.width

pub named_ports : (xs : List Signal) → All IsGood xs → All (λ (p : Port). IsName p.name) (map port_of xs)
named_ports xs h = All-map (λ (p : Port). IsName p.name) port_of xs (λ k d l. (h k d l).0)

pub wide_ports : (xs : List Signal) → All IsGood xs → All (λ (p : Port). IsWidth p.width) (map port_of xs)
wide_ports xs h = All-map (λ (p : Port). IsWidth p.width) port_of xs (λ k d l. (h k d l).1)

pub good_signals : (xs : List Signal) → All (λ (p : Port). IsName p.name) (map port_of xs) → All (λ (p : Port). IsWidth p.width) (map port_of xs) → All IsGood xs
good_signals xs n w k d l =
    let size : length (map port_of xs) ≡ length xs = length-map xs port_of in
    let at : get_or (map port_of xs) k (port_of d) ≡ port_of (get_or xs k d) = get_or-map port_of xs k d (port_of d) l in
    let N : Port → Type 0 = λ p. IsName p.name in
    let W : Port → Type 0 = λ p. IsWidth p.width in
    (subst N at (n k (port_of d) (omega arith)), subst W at (w k (port_of d) (omega arith)))

-- the rules on what is declared, from what the code finds
pub declared_from :
    (net : Net) (xs : List Signal) → map port_of xs ≡ signals net → IsName net.name → All IsGood xs → AllPairs (λ x y. x ≢ y) (names (map port_of xs))
    → place_of (map port_of xs) net.name ≡ None → IsDeclared net
declared_from net xs e n good apart free =
    let N : List Port → Type 0 = λ ps. All (λ (p : Port). IsName p.name) ps in
    let W : List Port → Type 0 = λ ps. All (λ (p : Port). IsWidth p.width) ps in
    let D : List Port → Type 0 = λ ps. AllPairs (λ x y. x ≢ y) (net.name ∷ names ps) in
    record {
      module_named = n;
      named = subst N e (named_ports xs good);
      distinct = subst D e (apart_from_None (map port_of xs) net.name free apart);
      widths = subst W e (wide_ports xs good);
    }

pub good_from : (net : Net) (xs : List Signal) → map port_of xs ≡ signals net → IsDeclared net → All IsGood xs
good_from net xs e h =
    let N : List Port → Type 0 = λ ps. All (λ (p : Port). IsName p.name) ps in
    let W : List Port → Type 0 = λ ps. All (λ (p : Port). IsWidth p.width) ps in
    good_signals xs (subst N (sym e) h.named) (subst W (sym e) h.widths)

pub apart_from : (net : Net) (xs : List Signal) → map port_of xs ≡ signals net → IsDeclared net → AllPairs (λ x y. x ≢ y) (net.name ∷ names (map port_of xs))
apart_from net xs e h = let D : List Port → Type 0 = λ ps. AllPairs (λ x y. x ≢ y) (net.name ∷ names ps) in subst D (sym e) h.distinct

-- the same of a result that may want memory
pub IfOk_same : {A E : Type 0} (r : Result A E) (f : A → List ℕ) (xs ys : List ℕ) → xs ≡ ys → IfOk r (λ v. f v ≡ xs) → IfOk r (λ v. f v ≡ ys)
IfOk_same (Ok v) f xs ys e h = h ∙ e
IfOk_same (Err x) f xs ys e h = tt

pub widths-ports : (xs : List Signal) → map (λ (s : Signal). s.width) xs ≡ map (λ (p : Port). p.width) (map port_of xs)
widths-ports [] = refl
widths-ports (x ∷ xs) = ap (λ ws. x.width ∷ ws) (widths-ports xs)
