use Rattle.std.proofs.Common.{◌≡◌, ◌+◌, ◌<◌, arith, refl, get_or, inl, inr, sym, ◌∙◌, ap}
use Rattle.std.proofs.lemmas.List.{get_or_read}
use Rattle.ix_solve.specs.Search.{no_arc, arc_at, IsInside, Leads}
use Rattle.ix_solve.proofs.Walks.{back_at_root, back_late}
use Rattle.ix_solve.proofs.cycle.cycle_by.Goals as goal

pub returns : goal.returns
returns c =
    let net = c.args.network.now in
    let s = c.args.search.now in
    let arcs = net.arcs.items in
    let e = c.in_ok-cycle.ensures in
    let over = c.requires.overdue in
    let a = arc_at arcs c.args.place in
    let is : c.index-arc.result.now ≡ a = get_or_read arcs c.args.place c.index-arc.result.now over.within c.index-arc.ensures no_arc in
    let inside : IsInside net.root a = c.requires.framed.inside c.args.place no_arc over.within in
    let not_less = rw is at c.if-arc-network.false in
    let to : a.to ≡ net.root = omega (arith, inside.1) in
    let base : get_or s.reach.items a.to 0 ≡ 255 = ap (λ v. get_or s.reach.items v 0) (to ∙ sym c.requires.source) ∙ c.requires.search.root in
    let unmet = over.unmet in
    let leads : Leads arcs s.source c.in_ok-cycle.cycle.items c.index-arc.result.now.from = e.leads in
    let sum = rw is at e.sum in
    rw c.in_ok-push.ensures.items
    (back_at_root arcs net.root a.from 255 (get_or s.reach.items a.from 0) c.in_ok-cycle.cycle.items c.args.place
    (rw (is, c.requires.source) at leads) sum e.within over.within refl to (omega arith))

pub returns-then-arc-network : goal.returns-then-arc-network
returns-then-arc-network c =
    let net = c.args.network.now in
    let s = c.args.search.now in
    let arcs = net.arcs.items in
    let e = c.in_ok-cycle.ensures in
    let over = c.requires.overdue in
    let a = arc_at arcs c.args.place in
    let is : c.index-arc.result.now ≡ a = get_or_read arcs c.args.place c.index-arc.result.now over.within c.index-arc.ensures no_arc in
    let less : a.to < net.root = rw is at c.if-arc-network.true in
    let late = c.requires.framed.late a.to less in
    let source = c.requires.source in
    let far : 510 + a.down < get_or s.reach.items a.from 0 + a.up = elim over.late [
      | inl back ↦ absurd (omega arith)
      | inr far ↦ far
    ] in
    let leads : Leads arcs s.source c.in_ok-cycle.cycle.items c.index-arc.result.now.from = e.leads in
    let sum = rw is at e.sum in
    rw (c.in_ok-push-2.ensures.items, c.in_ok-push.ensures.items, is)
    (back_late arcs net.root a.from 255 (get_or s.reach.items a.from 0) c.in_ok-cycle.cycle.items c.args.place (net.root + a.to)
    (rw (is, source) at leads) sum e.within over.within (omega (arith, c.requires.framed.enough)) refl late.0 late.1 (omega (arith, late.2, late.3)))
