use Rattle.std.proofs.Common.{ℕ, List, refl, ap, sym, ◌∙◌, subst}
use Rattle.ix_sheet.specs.Behaviours.{AreEdges, edges_from, problem_of}
use Rattle.ix_problem.proofs.EdgeRelation.{are_edges}
use Rattle.ix_problem.proofs.problem.problem_of.Goals as goal

pub returns-clause-problem : goal.returns-clause-problem
unfolding problem_of
returns-clause-problem c = rw (c.in_ok-nodes_of.ensures, c.in_ok-edges_of.ensures, c.as_slice.ensures) refl

pub returns-clause-edges : goal.returns-clause-edges
returns-clause-edges c =
    let P : List (ℕ × ℕ) → Type 0 = λ edges. AreEdges c.args.graph.now.ops edges in
    subst P (sym (c.in_ok-edges_of.ensures ∙ ap (edges_from 0) c.as_slice.ensures)) (are_edges c.args.graph.now c.requires.graph)
