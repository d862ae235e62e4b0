use Rattle.std.proofs.Common.{◌≡◌, ◌+◌, ◌<◌, None, length, get_or, refl, arith}
use Rattle.std.proofs.lemmas.List.{get_or_read}
use Rattle.ix_sheet.specs.Bounds.{IsTight}
use Rattle.ix_solve.specs.declared.forest.Branch.{Branch}
use Rattle.ix_solve.specs.Search.{no_arc, arc_at}
use Rattle.ix_solve.specs.Forests.{no_branch, branch_at, entry_at, IsOnward}
use Rattle.ix_solve.proofs.Forests.{trees_more, onward_inside, none_of}
use Rattle.ix_solve.proofs.forest.grow.Goals as goal

pub returns-clause-forest : goal.returns-clause-forest
returns-clause-forest c =
    let net = c.args.network.now in
    let f = c.args.forest.now in
    let h = c.requires.forest in
    let place = c.args.place in
    let node = c.in-Some.node in
    let in_arcs : place < length net.arcs.items = omega (arith, c.requires.place, c.requires.network.len) in
    let a : c.index-arc.result.now ≡ arc_at net.arcs.items place = get_or_read net.arcs.items place c.index-arc.result.now in_arcs c.index-arc.ensures no_arc in
    let b : c.index.result.now ≡ branch_at f.log.items c.args.number = get_or_read f.log.items c.args.number c.index.result.now c.requires.number c.index.ensures no_branch in
    let on : IsOnward (arc_at net.arcs.items place) (branch_at f.log.items c.args.number).node (node, c.in-Some.along) = rw (a, b) at c.in-Some.ensures in
    let inside = onward_inside net.root (arc_at net.arcs.items place) (branch_at f.log.items c.args.number).node (node, c.in-Some.along) (c.requires.network.framed.inside place no_arc in_arcs) on in
    let tight : IsTight (λ v. get_or c.args.times.now v 0) (arc_at net.arcs.items place) = rw a at (c.if-not-is_tight.ensures refl) in
    let e : c.index-2.result.now ≡ entry_at f.entries.items node = get_or_read f.entries.items node c.index-2.result.now (omega (arith, h.listed.len)) c.index-2.ensures None in
    let none : entry_at f.entries.items node ≡ None = rw e at (none_of c.index-2.result.now c.is_some.result c.is_some.ensures c.if-is_some.false) in
    let branch : Branch = record { node = node; parent = c.args.number; place = place; along = c.in-Some.along } in
    trees_more (net.root + 1) net.bounds net.arcs.items (λ v. get_or c.args.times.now v 0) f.roots f.log.items _ f.entries.items _ branch c.len-count.result h (omega arith) none c.requires.number c.requires.place on.0 on.1 tight
    c.in_ok-push.ensures.items (omega (arith, c.len-count.ensures, f.log.ok.0)) refl
