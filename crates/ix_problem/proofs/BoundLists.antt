-- The list of all constraints: what it has, and what times that meet it meet.
use Rattle.std.proofs.Common.{◌≡◌, ℕ, ◌<◌, List, [], ◌++◌, length, get_or, map, sym, ◌∙◌, ap, subst, arith}
use Rattle.std.specs.Prelude.{All}
use Rattle.std.specs.List.{range_with_len}
use Rattle.std.proofs.lemmas.List.{append_assoc}
use Rattle.std.proofs.lemmas.List.Elements.{All-append, All-map, All-contains, All-contains_itself}
use Rattle.ix_sheet.specs.declared.problem.Bound.{Bound}
use Rattle.ix_sheet.specs.declared.problem.Bound.TheVariants.{Early, Late, Dep, Chain}
use Rattle.ix_sheet.specs.declared.problem.Problem.{Problem}
use Rattle.ix_sheet.specs.Schedules.{IsValidProblem, IsAfter, IsFreePath, first_of, last_of}
use Rattle.ix_sheet.specs.Bounds.{IsBoundOf, MeetsBound, MeetsAll}
use Rattle.ix_sheet.proofs.Rooted.{rooted_below}
use Rattle.ix_sheet.proofs.Paths.{first_inside, last_inside}
use Rattle.ix_sheet.proofs.BoundLemmas.{legal_is_bounds}
use Rattle.ix_problem.specs.Constraints.{bounds_with, AreConstraints, MeetWhereLegal}
use Rattle.ix_problem.specs.Reaches.{Rises, AreChains}
use Rattle.ix_problem.proofs.Lists.{all_front, all_back, all_unmap, range_contains, range_below}

abbrev dep_of : ℕ × ℕ → Bound
dep_of e = Dep e.0 e.1

-- ---- each is a bound
each_bound : (p : Problem) (paths : List (List ℕ)) → All (λ path. IsBoundOf p (Chain path)) paths → All (IsBoundOf p) (bounds_with p paths)
each_bound p paths of =
    let n : ℕ = length p.ops in
    let ops = range_with_len 0 n in
    let below : All (λ k. k < n) ops = range_below 0 n n (omega arith) in
    All-append (IsBoundOf p) (map Early ops) (map Late ops ++ (map dep_of p.edges ++ map Chain paths))
    (All-map (IsBoundOf p) Early ops below)
    (All-append (IsBoundOf p) (map Late ops) (map dep_of p.edges ++ map Chain paths)
    (All-map (IsBoundOf p) Late ops below)
    (All-append (IsBoundOf p) (map dep_of p.edges) (map Chain paths)
    (All-map (IsBoundOf p) dep_of p.edges (All-contains_itself p.edges))
    (All-map (IsBoundOf p) Chain paths of)))

-- ---- times that meet the list
pub record MeetParts (p : Problem) (t : ℕ → ℕ) (paths : List (List ℕ)) : Type 0 where
  pub early : All (λ k. MeetsBound p t (Early k)) (range_with_len 0 (length p.ops))
  pub late : All (λ k. MeetsBound p t (Late k)) (range_with_len 0 (length p.ops))
  pub edges : All (λ e. MeetsBound p t (Dep e.0 e.1)) p.edges
  pub chains : All (λ path. MeetsBound p t (Chain path)) paths

parts : (p : Problem) (t : ℕ → ℕ) (paths : List (List ℕ)) → All (MeetsBound p t) (bounds_with p paths) → MeetParts p t paths
parts p t paths met =
    let ops = range_with_len 0 (length p.ops) in
    let rest = all_back (MeetsBound p t) (map Early ops) (map Late ops ++ (map dep_of p.edges ++ map Chain paths)) met in
    let last = all_back (MeetsBound p t) (map Late ops) (map dep_of p.edges ++ map Chain paths) rest in
    record {
      early = all_unmap (MeetsBound p t) Early ops (all_front (MeetsBound p t) (map Early ops) (map Late ops ++ (map dep_of p.edges ++ map Chain paths)) met);
      late = all_unmap (MeetsBound p t) Late ops (all_front (MeetsBound p t) (map Late ops) (map dep_of p.edges ++ map Chain paths) rest);
      edges = all_unmap (MeetsBound p t) dep_of p.edges (all_front (MeetsBound p t) (map dep_of p.edges) (map Chain paths) last);
      chains = all_unmap (MeetsBound p t) Chain paths (all_back (MeetsBound p t) (map dep_of p.edges) (map Chain paths) last);
    }

after_met : (p : Problem) (t : ℕ → ℕ) → IsValidProblem p → All (λ e. MeetsBound p t (Dep e.0 e.1)) p.edges → All (IsAfter p t) p.edges
after_met p t valid met k d h =
    let e = get_or p.edges k d in
    let forward = valid.forward k d h in
    let dep = met k d h in
    let from = rooted_below p t e.0 (omega arith) in
    let to = rooted_below p t e.1 (omega arith) in
    omega arith

rises_met : (p : Problem) (t : ℕ → ℕ) (path : List ℕ) → IsValidProblem p → IsFreePath p path → MeetsBound p t (Chain path) → Rises t path
rises_met p t path valid free met =
    let from = rooted_below p t (first_of path) (first_inside p path free) in
    let to = rooted_below p t (last_of path) (last_inside p path valid free) in
    omega (arith, met)

met_rises : (p : Problem) (t : ℕ → ℕ) (path : List ℕ) → IsValidProblem p → IsFreePath p path → Rises t path → MeetsBound p t (Chain path)
met_rises p t path valid free rises =
    let from = rooted_below p t (first_of path) (first_inside p path free) in
    let to = rooted_below p t (last_of path) (last_inside p path valid free) in
    omega (arith, rises)

all_met : (p : Problem) (t : ℕ → ℕ) (paths : List (List ℕ)) → IsValidProblem p → AreChains p (length p.ops) paths → MeetParts p t paths → MeetsAll p t
all_met p t paths valid chains met (Early k) h =
    All-contains (λ k. MeetsBound p t (Early k)) (range_with_len 0 (length p.ops)) k met.early (range_contains 0 (length p.ops) k k (omega arith) h)
all_met p t paths valid chains met (Late k) h =
    All-contains (λ k. MeetsBound p t (Late k)) (range_with_len 0 (length p.ops)) k met.late (range_contains 0 (length p.ops) k k (omega arith) h)
all_met p t paths valid chains met (Dep i j) h = All-contains (λ e. MeetsBound p t (Dep e.0 e.1)) p.edges (i, j) met.edges h
all_met p t paths valid chains met (Chain path) h =
    let rise : All (Rises t) paths = λ k d within. rises_met p t (get_or paths k d) valid (chains.of k d within).0 (met.chains k d within) in
    met_rises p t path valid h.0 (chains.enough t (after_met p t valid met.edges) rise path h (first_inside p path h.0))

pub are_constraints : (p : Problem) (bounds : List Bound) (paths : List (List ℕ)) → IsValidProblem p → AreChains p (length p.ops) paths
    → bounds ≡ bounds_with p paths → AreConstraints p bounds
are_constraints p bounds paths valid chains same = record {
  paths = paths;
  are = same;
  of = subst (All (IsBoundOf p)) (sym same) (each_bound p paths chains.of);
  greatest = chains.greatest;
  once = chains.once;
  enough = λ t met. all_met p t paths valid chains (parts p t paths (subst (All (MeetsBound p t)) same met));
}

pub meet_where_legal : (p : Problem) (bounds : List Bound) → IsValidProblem p → AreConstraints p bounds → MeetWhereLegal p bounds
meet_where_legal p bounds valid are = record {
  legal = λ t met. (legal_is_bounds p valid t).legal (are.enough t met);
  met = λ t legal k d h. (legal_is_bounds p valid t).met legal (get_or bounds k d) (are.of k d h);
}

pub four_parts : (p : Problem) (none earlies lates edges all : List Bound) (paths : List (List ℕ)) → none ≡ [] → earlies ≡ none ++ map Early (range_with_len 0 (length p.ops))
    → lates ≡ earlies ++ map Late (range_with_len 0 (length p.ops)) → edges ≡ lates ++ map dep_of p.edges → all ≡ edges ++ map Chain paths → all ≡ bounds_with p paths
four_parts p none earlies lates edges all paths a b c d e =
    let ops = range_with_len 0 (length p.ops) in
    let chains : List Bound = map Chain paths in
    e ∙ ap (λ (x : List Bound). x ++ chains) d ∙ append_assoc lates (map dep_of p.edges) chains
    ∙ ap (λ (x : List Bound). x ++ (map dep_of p.edges ++ chains)) c ∙ append_assoc earlies (map Late ops) (map dep_of p.edges ++ chains)
    ∙ ap (λ (x : List Bound). x ++ (map Late ops ++ (map dep_of p.edges ++ chains))) (b ∙ ap (λ (x : List Bound). x ++ map Early ops) a)
