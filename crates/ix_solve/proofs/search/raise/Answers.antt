use Rattle.std.proofs.Common.{◌≡◌, ◌+◌, ◌≤◌, ◌<◌, ◌≢◌, arith, sym, get_or}
use Rattle.std.proofs.lemmas.List.{get_or_read}
use Rattle.ix_solve.specs.Search.{no_arc, arc_at, IsInside}
use Rattle.ix_solve.proofs.Steps.{raised_at}
use Rattle.ix_solve.proofs.search.raise.Goals as goal

pub returns-clause-search : goal.returns-clause-search
returns-clause-search c =
    let s = c.args.search.now in
    let net = c.args.network.now in
    let h = c.requires.search in
    let a = c.index-arc.result.now in
    let is : a ≡ arc_at net.arcs.items c.args.place = get_or_read net.arcs.items c.args.place a c.requires.within c.index-arc.ensures no_arc in
    let inside : IsInside net.root a = rw is c.requires.inside in
    let unmet : get_or s.reach.items a.to 0 + a.down < get_or s.reach.items a.from 0 + a.up = rw is c.requires.unmet in
    let fits : get_or s.reach.items a.from 0 + a.up ≤ 510 + a.down = rw is c.requires.fits in
    let apart : a.to ≢ s.source = rw is c.requires.not_source in
    let x = get_or_read s.reach.items a.from c.index.result.now (omega (arith, h.reach_len, inside.0)) c.index.ensures 0 in
    let p = get_or_read s.last.items a.from c.index-parent.result.now (omega (arith, h.last_len, inside.0)) c.index-parent.ensures 0 in
    raised_at net.root s.source 255 510 net.arcs.items s.reach.items s.last.items s.log.items _ a c.args.place _ _ _
    h inside.0 inside.1 apart (c.requires.within, sym is) (omega (arith, x)) (omega (arith, x)) (omega (arith, x)) (omega (arith, c.len-count.ensures, s.log.ok.0)) p c.in_ok-push.ensures.items
