use Rattle.std.proofs.Common.{ℕ, List, sym, subst}
use Rattle.ix_sheet.specs.declared.problem.Problem.{Problem}
use Rattle.ix_sheet.specs.Schedules.{IsSchedule}
use Rattle.ix_sheet.specs.Behaviours.{AreEdges}
use Rattle.ix_netgen.specs.KeptWires.{timetable_of, IsTimed}
use Rattle.net_cases.proofs.module.made.Goals as goal

pub generate-requires-clause-timed : goal.generate-requires-clause-timed
generate-requires-clause-timed c =
    let s = c.in-Ok.ensures.scheduled in
    let P : Problem → Type 0 = λ p. AreEdges c.args.graph.ops p.edges in
    let Q : Problem → Type 0 = λ p. IsSchedule p c.in-Ok.scheduled.times in
    let T : List ℕ → Type 0 = λ ts. IsTimed (timetable_of c.args.sheet.now.shape c.args.graph ts) in
    subst T (sym c.as_slice.ensures)
    (c.times_fit.ensures c.args.graph c.args.sheet.now c.in-Ok.scheduled.mode c.in-Ok.scheduled.times c.requires.graph c.requires.sheet (subst P s.problem_is s.edges_are) (subst Q s.problem_is s.schedule))
