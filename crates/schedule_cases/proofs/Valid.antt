-- A problem with one more edge.
use Rattle.std.proofs.Common.{◌≢◌, ℕ, ◌<◌, [], ◌∷◌, ◌++◌, length, get_or, sym, ◌∙◌}
use Rattle.std.proofs.lemmas.List.{get_or_default}
use Rattle.std.proofs.lemmas.List.Elements.{All-push}
use Rattle.std.proofs.lemmas.List.Quantifiers.{all_pairs_push}
use Rattle.ix_sheet.specs.declared.problem.Problem.{Problem}
use Rattle.ix_sheet.specs.Schedules.{IsValidProblem, IsForward}

pub valid_more : (p : Problem) (e : ℕ × ℕ) → IsValidProblem p → e.0 < e.1 → e.1 < length p.ops →
    ((k : ℕ) → k < length p.edges → get_or p.edges k (0, 0) ≢ e) →
    IsValidProblem (record { ops = p.ops; edges = p.edges ++ e ∷ []; period = p.period })
valid_more p e valid up within fresh =
    let q : Problem = record { ops = p.ops; edges = p.edges ++ e ∷ []; period = p.period } in
    record {
      few = valid.few;
      weights = valid.weights;
      forward = All-push (IsForward q) p.edges e valid.forward (up, within);
      once = all_pairs_push (λ x y. x ≢ y) p.edges e valid.once
          (λ k d b same. fresh k b (sym (get_or_default p.edges k d (0, 0) b) ∙ same));
    }
