use Rattle.std.proofs.Common.{◌≡◌, ◌<◌, ℕ, get_or, map, List, Option, Some, None, sym, ◌∙◌, ap, length, take, subst, arith, cond}
use Rattle.std.specs.Str.{bytes_eq}
use Rattle.std.proofs.lemmas.List.{get_or-map, length-map}
use Rattle.std.proofs.lemmas.Map.Text.{btree_map_updates_str}
use Rattle.ix_net.specs.declared.netlist.Port.{Port}
use Rattle.ix_net.specs.declared.netlist.Cell.{Cell}
use Rattle.ix_net.specs.Signals.{cell_port, place_of}
use Rattle.ix_net.proofs.PlaceLemmas.{place_of-updated, not_distinct}
use Rattle.ix_vread.specs.Graphs.{found}
use Rattle.ix_vread.proofs.Naming.{apart_ports}
use Rattle.ix_vread.proofs.graph.places_of.Goals as goal

none_from : (o : Option ℕ) → ((j : ℕ) → o ≡ Some j → ⊥) → o ≡ None
none_from None h = cc
none_from (Some j) h = absurd (h j cc)

pub loop-place-preserved : goal.loop-place-preserved
loop-place-preserved c =
    let i = c.loop-place.place in
    let xs : List Cell = c.args.cells.now in
    let p : Port = cell_port c.index-cells-place.result in
    let size : length (map cell_port xs) ≡ length xs = length-map xs cell_port in
    let within : i < length (map cell_port xs) = omega (arith, c.loop-place-test.true) in
    let at : get_or (map cell_port xs) i p ≡ p = get_or-map cell_port xs i c.index-cells-place.result p c.loop-place-test.true ∙ ap cell_port (sym c.index-cells-place.is) in
    let fresh : place_of (take i (map cell_port xs)) p.name ≡ None = none_from (place_of (take i (map cell_port xs)) p.name) (λ j e. not_distinct (map cell_port xs) i j p within at e (apart_ports xs c.requires)) in
    place_of-updated (map cell_port xs) i p (found c.loop-place.places) (found c.insert.new.self) within at c.loop-place.invariant
    (subst (λ n. (q : List ℕ) → found c.insert.new.self q ≡ cond (bytes_eq n q) (Some i) (found c.loop-place.places q)) c.as_str.ensures.text
    (btree_map_updates_str c.as_str.result.now c.loop-place.places c.insert.new.self (Some i) c.in_ok-insert.ensures.updates)) (c.loop-place.invariant p.name ∙ fresh)
