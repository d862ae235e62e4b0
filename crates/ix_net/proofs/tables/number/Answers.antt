use Rattle.std.proofs.Common.{◌≡◌, ◌≢◌, ◌<◌, ℕ, get_or, map, [], List, Option, Some, None, true, false, is_some, sym, ◌∙◌, length, take, subst, arith, AllPairs}
use Rattle.std.specs.BTreeMap.{BTreeMap, get_by}
use Rattle.std.specs.Cmp.Lexicographic.{slice_cmp}
use Rattle.std.specs.Ordering.{nat_cmp}
use Rattle.std.proofs.lemmas.List.{get_or-map, length-map, take_all}
use Rattle.std.proofs.lemmas.Map.Text.{btree_map_updates_str}
use denote.Ref.{Bor}
use Rattle.ix_net.specs.declared.tables.Signal.{Signal}
use Rattle.ix_net.specs.declared.netlist.Port.{Port}
use Rattle.ix_net.specs.Valid.{names}
use Rattle.ix_net.specs.Tables.{port_of, Holds}
use Rattle.ix_net.proofs.PlaceLemmas.{place_of-updated, distinct-more, not_distinct}
use Rattle.ix_net.proofs.tables.number.Goals as goal

-- a signal that no list has
none : Signal
none = record { name = record { ref_ptr = (0, 0); now = [] }; width = 0 }

-- what a map has at a name
abbrev found : BTreeMap (Bor (List ℕ)) ℕ → List ℕ → Option ℕ
found m name = get_by (λ (k : Bor (List ℕ)). slice_cmp nat_cmp name k.now) m

is_none : (o : Option ℕ) → is_some o ≡ false → o ≡ None
is_none None h = cc
is_none (Some x) h = absurd (cc)

some_of : (o : Option ℕ) → is_some o ≡ true → (j : ℕ) × (o ≡ Some j)
some_of None h = absurd (cc)
some_of (Some x) h = (x, cc)

here : (signals : List Signal) (i : ℕ) (d : Signal) → i < length signals → get_or (map port_of signals) i (port_of (get_or signals i d)) ≡ port_of (get_or signals i d)
here signals i d l = get_or-map port_of signals i d (port_of (get_or signals i d)) l

pub loop-place-preserved : goal.loop-place-preserved
loop-place-preserved c =
    let i = c.loop-place.place in
    let xs = c.args.signals.now in
    let p : Port = port_of (get_or xs i (record { name = record { ref_ptr = (0, 0); now = [] }; width = 0 })) in
    let size : length (map port_of xs) ≡ length xs = length-map xs port_of in
    let within : i < length (map port_of xs) = omega (arith, c.loop-place-test.true) in
    let at : get_or (map port_of xs) i p ≡ p = here xs i _ c.loop-place-test.true in
    let fresh : found c.loop-place.places p.name ≡ None = sym c.in_ok-insert.ensures.old ∙ is_none c.in_ok-insert.field-0 (sym c.is_some.ensures ∙ c.if-is_some.false) in
    record {
      held =
          place_of-updated (map port_of xs) i p (found c.loop-place.places) (found c.insert.new.self) within at c.loop-place.invariant.held
          (btree_map_updates_str p.name c.loop-place.places c.insert.new.self (Some i) c.in_ok-insert.ensures.updates) fresh;
      distinct = distinct-more (map port_of xs) i p within at (sym (c.loop-place.invariant.held p.name) ∙ fresh) c.loop-place.invariant.distinct;
    }

pub returns-then-is_some : goal.returns-then-is_some
returns-then-is_some c =
    let i = c.loop-place.place in
    let xs = c.args.signals.now in
    let p : Port = port_of (get_or xs i (record { name = record { ref_ptr = (0, 0); now = [] }; width = 0 })) in
    let size : length (map port_of xs) ≡ length xs = length-map xs port_of in
    let old = some_of c.in_ok-insert.field-0 (sym c.is_some.ensures ∙ c.if-is_some.true) in
    let was : found c.loop-place.places p.name ≡ Some old.0 = sym c.in_ok-insert.ensures.old ∙ old.1 in
    not_distinct (map port_of xs) i old.0 p (omega (arith, c.loop-place-test.true)) (here xs i _ c.loop-place-test.true) (sym (c.loop-place.invariant.held p.name) ∙ was)

pub returns : goal.returns
returns c =
    let i = c.loop-place.place in
    let xs = c.args.signals.now in
    let ports : List Port = map port_of xs in
    let size : length ports ≡ length xs = length-map xs port_of in
    let size' : length (names ports) ≡ length ports = length-map ports (λ (q : Port). q.name) in
    let all : take i ports ≡ ports = take_all i ports (omega (arith, c.loop-place-test.false)) in
    let all' : take i (names ports) ≡ names ports = take_all i (names ports) (omega (arith, c.loop-place-test.false)) in
    let P : List (List ℕ) → Type 0 = λ ns. AllPairs (λ x y. x ≢ y) ns in
    let Q : List Port → Type 0 = λ ps. Holds ps c.loop-place.places in
    (subst P all' c.loop-place.invariant.distinct, subst Q all c.loop-place.invariant.held)
