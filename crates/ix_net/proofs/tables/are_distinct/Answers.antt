use Rattle.std.proofs.Common.{◌≡◌, ◌≢◌, ◌∙◌, ℕ, List, ◌++◌, map, sym, ap, subst, AllPairs}
use Rattle.std.specs.BTreeMap.{BTreeMap}
use Rattle.std.proofs.lemmas.Bool.{false≢true}
use Rattle.std.proofs.lemmas.Option.{MatchOption-at_none}
use denote.Ref.{Bor}
use Rattle.ix_net.specs.declared.netlist.Port.{Port}
use Rattle.ix_net.specs.declared.tables.Signal.{Signal}
use Rattle.ix_net.specs.Valid.{names}
use Rattle.ix_net.specs.Tables.{port_of, Holds}
use Rattle.ix_net.proofs.tables.are_distinct.Goals as goal

abbrev Doubled : List Signal → Type 0
Doubled xs = AllPairs (λ x y. x ≢ y) (names (map port_of xs)) → ⊥

abbrev Numbers : List Signal → BTreeMap (Bor (List ℕ)) ℕ → Type 0
Numbers xs m = AllPairs (λ x y. x ≢ y) (names (map port_of xs)) × Holds (map port_of xs) m

pub returns : goal.returns
returns c =
    let same : map port_of c.deref.result.now ≡ c.args.ports.now =
    ap (map port_of) c.deref.ensures.value ∙ c.in_ok-add_ports.ensures ∙ ap (λ xs. map port_of xs ++ c.args.ports.now) c.new-signals.ensures.items in
    let doubled : Doubled c.deref.result.now = MatchOption-at_none (Doubled c.deref.result.now) (Numbers c.deref.result.now) c.in-None.is c.in_ok-number.ensures in
    let P : List Port → Type 0 = λ ps. AllPairs (λ x y. x ≢ y) (names ps) in
    (λ h. absurd (false≢true h), λ d. absurd (doubled (subst P (sym same) d)))
