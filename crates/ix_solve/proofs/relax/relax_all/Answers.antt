use Rattle.std.proofs.Common.{◌∙◌, arith}
use Rattle.ix_solve.specs.Search.{arc_at, IsRelaxed}
use Rattle.ix_solve.proofs.Rounds.{so_far_met, so_far_raised, all_visited}
use Rattle.ix_solve.proofs.relax.relax_all.Goals as goal
use Rattle.ix_solve.proofs.relax.relax_all.Goals.{in-Met, in-Raised}

pub arcs-preserved : goal.arcs-preserved
arcs-preserved c =
    let arcs = c.args.network.now.arcs.items in
    let l = c.arcs in
    let h = l.invariant.so_far in
    let v : IsRelaxed (arc_at arcs l.place) l.search c.relax.new.search c.in_ok-relax.field-0 = c.in_ok-relax.ensures.relaxed in
    record {
      search = c.in_ok-relax.ensures.search.0;
      source = c.in_ok-relax.ensures.search.1 ∙ l.invariant.source;
      so_far = elim c.match-branch-2.branch [
        | in-Met w ↦
            (let m = rw w.in-Met.is at v in
            so_far_met arcs _ l.search.reach.items c.relax.new.search.reach.items l.grown _ l.place h (omega (arith, c.arcs-test.true)) m.0 m.1 w.grown-is)
        | in-Raised w ↦
            (let m = rw w.in-Raised.is at v in
            so_far_raised arcs _ l.search.reach.items c.relax.new.search.reach.items l.grown _ l.place _ h m w.grown-is)
      ];
    }

pub returns-else-grown-clause-round : goal.returns-else-grown-clause-round
returns-else-grown-clause-round c =
    all_visited c.args.network.now.arcs.items _ c.arcs.search.reach.items _ _ c.arcs.invariant.so_far (omega (arith, c.arcs-test.false)) c.if-grown.false
