use Rattle.std.proofs.Common.{◌≡◌, ◌≢◌, ◌∙◌, ℕ, List, true, false, Option, Some, None, is_some, map, sym, ap, subst, All, AllPairs}
use Rattle.std.specs.BTreeMap.{BTreeMap}
use Rattle.std.proofs.lemmas.Bool.{false≢true}
use Rattle.std.proofs.lemmas.Option.{MatchOption-at_some, MatchOption-at_none}
use denote.Ref.{Bor}
use Rattle.ix_net.specs.declared.tables.Signal.{Signal}
use Rattle.ix_net.specs.Name.{IsName}
use Rattle.ix_net.specs.Signals.{place_of}
use Rattle.ix_net.specs.Valid.{names}
use Rattle.ix_net.specs.Tables.{port_of, Holds}
use Rattle.ix_net.proofs.TableLemmas.{IsGood, declared_from, good_from, apart_from, apart_tail, not_apart_from_Some}
use Rattle.ix_net.proofs.tables.Table.of_net.Goals as goal

-- what `number` says where it finds a double name, and where it finds none
abbrev Doubled : List Signal → Type 0
Doubled xs = AllPairs (λ x y. x ≢ y) (names (map port_of xs)) → ⊥

abbrev Numbers : List Signal → BTreeMap (Bor (List ℕ)) ℕ → Type 0
Numbers xs m = AllPairs (λ x y. x ≢ y) (names (map port_of xs)) × Holds (map port_of xs) m

-- a place from a test that finds one
place_from : (o : Option ℕ) → is_some o ≡ true → (i : ℕ) × (o ≡ Some i)
place_from None h = absurd (cc)
place_from (Some i) h = (i, cc)

none_from : (o : Option ℕ) → is_some o ≡ false → o ≡ None
none_from None h = cc
none_from (Some i) h = absurd (cc)

pub returns-then-not-are_named : goal.returns-then-not-are_named
returns-then-not-are_named c = λ d.
    let P : List Signal → Type 0 = λ xs. All IsGood xs in
    let good = subst P (sym c.deref.ensures.value) (good_from c.args.net.now c.in_ok-signals.signals.items c.in_ok-signals.ensures d) in
    let yes = c.are_named.ensures.1 good in
    false≢true (sym c.if-not-are_named.true ∙ yes)

pub returns-in_default : goal.returns-in_default
returns-in_default c = λ d.
    let xs = c.in_ok-signals.signals.items in
    let doubled : Doubled c.deref-2.result.now = MatchOption-at_none (Doubled c.deref-2.result.now) (Numbers c.deref-2.result.now) c.in_default.is c.in_ok-places.ensures in
    let P : List Signal → Type 0 = λ ys. AllPairs (λ x y. x ≢ y) (names (map port_of ys)) in
    doubled (subst P (sym c.deref-2.ensures.value) (apart_tail c.args.net.now.name (names (map port_of xs)) (apart_from c.args.net.now xs c.in_ok-signals.ensures d)))

pub returns-then-contains_key : goal.returns-then-contains_key
returns-then-contains_key c = λ d.
    let xs = c.in_ok-signals.signals.items in
    let numbers : Numbers c.deref-2.result.now c.in-Some.places = MatchOption-at_some (Doubled c.deref-2.result.now) (Numbers c.deref-2.result.now) c.in-Some.places c.in-Some.is c.in_ok-places.ensures in
    let key = c.as_str-2.result.now in
    let found : is_some (place_of (map port_of c.deref-2.result.now) key) ≡ true = ap is_some (sym (numbers.1 key)) ∙ sym c.contains_key.ensures ∙ c.if-contains_key.true in
    let at = place_from (place_of (map port_of c.deref-2.result.now) key) found in
    let P : List Signal → Type 0 = λ ys. place_of (map port_of ys) key ≡ Some at.0 in
    let Q : List ℕ → Type 0 = λ n. place_of (map port_of xs) n ≡ Some at.0 in
    let here : place_of (map port_of xs) c.args.net.now.name ≡ Some at.0 = subst Q c.as_str-2.ensures.text (subst P c.deref-2.ensures.value at.1) in
    not_apart_from_Some (map port_of xs) c.args.net.now.name at.0 here (apart_from c.args.net.now xs c.in_ok-signals.ensures d)

pub returns : goal.returns
returns c =
    let xs = c.in_ok-signals.signals.items in
    let numbers : Numbers c.deref-2.result.now c.in-Some.places = MatchOption-at_some (Doubled c.deref-2.result.now) (Numbers c.deref-2.result.now) c.in-Some.places c.in-Some.is c.in_ok-places.ensures in
    let key = c.as_str-2.result.now in
    let missed : is_some (place_of (map port_of c.deref-2.result.now) key) ≡ false = ap is_some (sym (numbers.1 key)) ∙ sym c.contains_key.ensures ∙ c.if-contains_key.false in
    let P : List Signal → Type 0 = λ ys. place_of (map port_of ys) key ≡ None in
    let Q : List ℕ → Type 0 = λ n. place_of (map port_of xs) n ≡ None in
    let A : List Signal → Type 0 = λ ys. AllPairs (λ x y. x ≢ y) (names (map port_of ys)) in
    let G : List Signal → Type 0 = λ ys. All IsGood ys in
    let free : place_of (map port_of xs) c.args.net.now.name ≡ None = subst Q c.as_str-2.ensures.text (subst P c.deref-2.ensures.value (none_from (place_of (map port_of c.deref-2.result.now) key) missed)) in
    let good : All IsGood xs = subst G c.deref.ensures.value (c.are_named.ensures.0 c.if-not-are_named.false) in
    let name : IsName c.args.net.now.name = subst IsName c.as_str.ensures.text (c.is_name.ensures.0 c.if-not-is_name.false) in
    (declared_from c.args.net.now xs c.in_ok-signals.ensures name good (subst A c.deref-2.ensures.value numbers.0) free, c.in_ok-signals.ensures)
