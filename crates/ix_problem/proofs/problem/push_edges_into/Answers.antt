use Rattle.std.proofs.Common.{◌++◌, ℕ, true, false, List, [], ◌∷◌}
use Rattle.std.specs.List.{list_any}
use Rattle.ix_sheet.specs.Behaviours.{names_op}
use Rattle.ix_problem.proofs.problem.push_edges_into.Goals as goal
use Rattle.std.proofs.Common.{ap, sym, ◌∙◌}
use Rattle.std.proofs.lemmas.List.{append-nil}
use Rattle.ix_problem.proofs.Lists.{picked_push}
use Rattle.ix_problem.proofs.problem.push_edges_into.Goals.{then-has_argument+in_ok-push, else-has_argument}

pub starts-preserved : goal.starts-preserved
starts-preserved c =
    let next = picked_push (λ i. (i, c.args.to)) (λ i. list_any (names_op i) c.args.op.now.args) c.args.edges.now c.starts.from in
    elim c.if-has_argument.branch [
      | then-has_argument+in_ok-push w ↦
          w.edges-is ∙ w.in_ok-push.ensures.ok ∙ ap (λ (xs : List (ℕ × ℕ)). xs ++ (c.starts.from, c.args.to) ∷ []) c.starts.invariant
          ∙ next true (sym c.has_argument.ensures ∙ w.if-has_argument.true)
      | else-has_argument w ↦
          w.edges-is ∙ c.starts.invariant ∙ sym (append-nil _) ∙ next false (sym c.has_argument.ensures ∙ w.if-has_argument.false)
    ]
