-- Rounds over the arcs.
use Rattle.std.proofs.Common.{◌≡◌, Bool, true, false, take, ℕ, ◌+◌, ◌≤◌, ◌<◌, List, length, get_or, arith}
use Rattle.std.specs.Prelude.{sum, All}
use Rattle.std.proofs.lemmas.List.{take_all}
use Rattle.std.proofs.lemmas.List.Elements.{All-more}
use Rattle.ix_sheet.specs.declared.problem.Arc.{Arc}
use Rattle.ix_sheet.specs.Bounds.{Meets}
use Rattle.ix_solve.specs.Search.{no_arc, arc_at}

-- the arcs visited so far are met, or something has grown
pub record IsRoundSoFar (arcs : List Arc) (old reach : List ℕ) (grown : Bool) (i : ℕ) : Type 0 where
  pub more : grown ≡ true → sum old < sum reach
  pub never_less : sum old ≤ sum reach
  pub settled : grown ≡ false → All (Meets (λ v. get_or reach v 0)) (take i arcs)

pub so_far_met : (arcs : List Arc) (old reach new : List ℕ) (grown now : Bool) (i : ℕ) → IsRoundSoFar arcs old reach grown i → i < length arcs →
    Meets (λ v. get_or new v 0) (arc_at arcs i) → new ≡ reach → now ≡ grown → IsRoundSoFar arcs old new now (i + 1)
so_far_met arcs old reach new grown now i h b met same kept =
    let at : Meets (λ v. get_or reach v 0) (arc_at arcs i) = rw (← same) met in
    rw (same, kept) (record {
      more = h.more;
      never_less = h.never_less;
      settled = λ e. All-more (Meets (λ v. get_or reach v 0)) arcs i no_arc b (h.settled e) at;
    })

both_ways : (b : Bool) → b ≡ true → b ≡ false → ⊥
both_ways b p q = cc

pub so_far_raised : (arcs : List Arc) (old reach new : List ℕ) (grown now : Bool) (i j : ℕ) → IsRoundSoFar arcs old reach grown i →
    sum reach < sum new → now ≡ true → IsRoundSoFar arcs old new now j
so_far_raised arcs old reach new grown now i j h up done =
    record { more = λ _. omega (arith, h.never_less); never_less = omega (arith, h.never_less); settled = λ other. absurd (both_ways now done other) }

pub all_visited : (arcs : List Arc) (old reach : List ℕ) (grown : Bool) (i : ℕ) → IsRoundSoFar arcs old reach grown i → length arcs ≤ i → grown ≡ false →
    All (Meets (λ v. get_or reach v 0)) arcs
all_visited arcs old reach grown i h b none = let all = h.settled none in rw (take_all i arcs b) at all
