-- Lists of chains: of one source, and of all sources.
use Rattle.std.proofs.Common.{◌≡◌, ℕ, zero, suc, ◌+◌, ◌≤◌, ◌<◌, ltb, true, false, List, [], ◌∷◌, ◌++◌, length, get_or, map, Option, Some, None, refl, sym, ◌∙◌, ap, subst, arith, ◌⊎◌, inl, inr}
use Rattle.std.specs.Prelude.{All, Contains}
use Rattle.std.proofs.lemmas.Bool.{cases_Bool}
use Rattle.std.proofs.lemmas.Bool.Decides.{nat_tests}
use Rattle.std.proofs.lemmas.List.{append_assoc, map-append, append-nil}
use Rattle.std.proofs.lemmas.List.Elements.{All-nil, All-append, All-push, All-weaker, All-contains, Contains-append_left, Contains-push}
use Rattle.std.proofs.lemmas.List.Quantifiers.{all_pairs_push}
use Rattle.ix_sheet.specs.declared.problem.Bound.{Bound}
use Rattle.ix_sheet.specs.declared.problem.Bound.TheVariants.{Chain}
use Rattle.ix_sheet.specs.declared.problem.Problem.{Problem}
use Rattle.ix_sheet.specs.Schedules.{IsValidProblem, IsAfter, HasFreeEdge, first_of, last_of}
use Rattle.ix_sheet.specs.Bounds.{IsBoundOf}
use Rattle.ix_problem.specs.declared.reach.Reach.{Reach}
use Rattle.ix_problem.specs.Constraints.{IsGreatest}
use Rattle.ix_problem.specs.Reaches.{AreStartsOf, reach_at, AreReaches, passes_at, passed_at, IsChainOption, IsPassed, IsChainFrom, Apart, AreChainsFrom, HasChainsOf, Rises, AreChains, HasChains}
use Rattle.ix_problem.proofs.Lists.{contains_head, contains_tail, all_front, all_back, pairs_append}
use Rattle.ix_problem.proofs.Reaching.{edge_forward, found_within}
use Rattle.ix_problem.proofs.Trails.{trail_path, path_reached}

eq_or_lt : (a b : ℕ) → a < b + 1 → (a ≡ b) ⊎ (a < b)
eq_or_lt a b h = grind arith

-- ---- tests
passed_some : (period : ℕ) (o : Option Reach) → passes_at period o ≡ true → (r : Reach) × (o ≡ Some r) × (period < r.delay)
passed_some period None h = cc
passed_some period (Some r) h = (r, refl, grind (arith, nat_tests))

passed_from : (p : Problem) (reaches : List (Option Reach)) (k : ℕ) (r : Reach) → reach_at reaches k ≡ Some r → p.period < r.delay → IsPassed p reaches k
passed_from p reaches k r e h = let test : ltb p.period r.delay ≡ true = grind (arith, nat_tests) in ap (passes_at p.period) e ∙ test

passed_start : (period : ℕ) (reaches : List (Option Reach)) (starts : List ℕ) → passed_at period reaches starts ≡ true
    → (k : ℕ) × Contains starts k × (passes_at period (reach_at reaches k) ≡ true)
passed_start period reaches [] h = cc
passed_start period reaches (k ∷ rest) h = elim (cases_Bool (passes_at period (reach_at reaches k))) [
  | inl here ↦ (k, contains_head k k rest refl, here)
  | inr other ↦
      (let later : passed_at period reaches rest ≡ true = rw other at h in
      let more = passed_start period reaches rest later in
      (more.0, contains_tail k more.0 rest more.1, more.2))
]

-- ---- the chains of a source, one operation after the other
pub no_chains : (p : Problem) (source : ℕ) (reaches : List (Option Reach)) → AreChainsFrom p source 0 reaches []
no_chains p source reaches = record {
  of = All-nil (IsChainFrom p source 0 reaches);
  covers = λ j h. absurd (omega arith);
  once = λ i j d less within. absurd (omega arith);
}

below_more : (p : Problem) (source below : ℕ) (reaches : List (Option Reach)) (path : List ℕ) → IsChainFrom p source below reaches path
    → IsChainFrom p source (below + 1) reaches path
below_more p source below reaches path c = record {
  free = c.free;
  first = c.first;
  last = omega (arith, c.last);
  reach = c.reach;
  found = c.found;
  delay = c.delay;
  long = c.long;
}

abbrev Covered : Problem → List (Option Reach) → List (List ℕ) → ℕ → Type 0
Covered p reaches paths j = ((path : List ℕ) × Contains paths path × (last_of path ≡ j)) ⊎ ((k : ℕ) × HasFreeEdge p k j × IsPassed p reaches k)

covered_more : (p : Problem) (reaches : List (Option Reach)) (paths more : List (List ℕ)) (j : ℕ) → Covered p reaches paths j → Covered p reaches (paths ++ more) j
covered_more p reaches paths more j (inl c) = inl (c.0, Contains-append_left paths more c.0 c.1, c.2)
covered_more p reaches paths more j (inr c) = inr c

-- none is added
pub chains_same : (p : Problem) (source below : ℕ) (reaches : List (Option Reach)) (starts : List ℕ) (paths : List (List ℕ)) → AreStartsOf p below starts
    → AreChainsFrom p source below reaches paths → IsChainOption p.period reaches starts source below None → AreChainsFrom p source (below + 1) reaches paths
chains_same p source below reaches starts paths are chains none = record {
  of = All-weaker (IsChainFrom p source below reaches) (IsChainFrom p source (below + 1) reaches) (below_more p source below reaches) paths chains.of;
  covers = λ j h passed. elim (eq_or_lt j below h) [
    | inl last ↦
        (let here : IsPassed p reaches below = ap (λ k. passes_at p.period (reach_at reaches k)) (sym last) ∙ passed in
        elim none [
          | inl other ↦ absurd (let clash : false ≡ true = sym other ∙ here in cc)
          | inr start ↦
              (let k = passed_start p.period reaches starts start in
              inr (k.0, subst (HasFreeEdge p k.0) (sym last) (are.0 k.0 k.1), k.2))
        ])
    | inr before ↦ chains.covers j before passed
  ];
  once = chains.once;
}

-- one is added
apart_last : (p : Problem) (source below : ℕ) (reaches : List (Option Reach)) (x y : List ℕ) → last_of y ≡ below → IsChainFrom p source below reaches x → Apart x y
apart_last p source below reaches x y last c ends = omega (arith, c.last, ends.1, last)

pub chains_push : (p : Problem) (source below : ℕ) (reaches : List (Option Reach)) (starts : List ℕ) (paths : List (List ℕ)) (path : List ℕ)
    → AreReaches p source reaches → length reaches ≡ length p.ops → source < length p.ops
    → AreChainsFrom p source below reaches paths → IsChainOption p.period reaches starts source below (Some path)
    → AreChainsFrom p source (below + 1) reaches (paths ++ path ∷ [])
chains_push p source below reaches starts paths path reached count inside chains some =
    let to = trail_path p source below reaches path reached count inside some.0 in
    let passed = passed_some p.period (reach_at reaches below) some.1 in
    let same : passed.0 ≡ to.reach = (let e : Some passed.0 ≡ Some to.reach = sym passed.1 ∙ to.found in cc) in
    let new : IsChainFrom p source (below + 1) reaches path = record {
      free = to.free;
      first = to.first;
      last = omega (arith, to.last);
      reach = to.reach;
      found = ap (reach_at reaches) to.last ∙ to.found;
      delay = to.total;
      long = omega (arith, passed.2, ap (λ (x : Reach). x.delay) same);
    } in
    record {
      of = All-push (IsChainFrom p source (below + 1) reaches) paths path
          (All-weaker (IsChainFrom p source below reaches) (IsChainFrom p source (below + 1) reaches) (below_more p source below reaches) paths chains.of) new;
      covers = λ j h given. elim (eq_or_lt j below h) [
        | inl last ↦ inl (path, Contains-push paths path, to.last ∙ sym last)
        | inr before ↦ covered_more p reaches paths (path ∷ []) j (chains.covers j before given)
      ];
      once = all_pairs_push Apart paths path chains.once
          (λ k d within. apart_last p source below reaches (get_or paths k d) path to.last (chains.of k d within));
    }

-- ---- where times rise along the chains of a source, they rise to each operation at which the period is passed
edge_up : (p : Problem) (t : ℕ → ℕ) (i j : ℕ) → All (IsAfter p t) p.edges → HasFreeEdge p i j → t i ≤ t j
edge_up p t i j kept e = let after : IsAfter p t (i, j) = All-contains (IsAfter p t) p.edges (i, j) kept e.0 in omega (arith, e.1)

rises_to : (p : Problem) (source : ℕ) (reaches : List (Option Reach)) (paths : List (List ℕ)) (t : ℕ → ℕ) → IsValidProblem p
    → AreChainsFrom p source (length p.ops) reaches paths → All (IsAfter p t) p.edges → All (Rises t) paths
    → (most j : ℕ) → j < most → j < length p.ops → IsPassed p reaches j → t source + 1 ≤ t j
rises_to p source reaches paths t valid chains kept rise zero j low inside passed = absurd (omega arith)
rises_to p source reaches paths t valid chains kept rise (suc most) j low inside passed = elim (chains.covers j inside passed) [
  | inl c ↦
      (let up : Rises t c.0 = All-contains (Rises t) paths c.0 rise c.1 in
      let from : IsChainFrom p source (length p.ops) reaches c.0 = All-contains (IsChainFrom p source (length p.ops) reaches) paths c.0 chains.of c.1 in
      omega (arith, up, ap t from.first, ap t c.2))
  | inr c ↦
      (let forward = edge_forward p c.0 j valid c.1 in
      let before = rises_to p source reaches paths t valid chains kept rise most c.0 (omega arith) (omega arith) c.2 in
      omega (arith, before, edge_up p t c.0 j kept c.1))
]

source_rises : (p : Problem) (source : ℕ) (reaches : List (Option Reach)) (paths : List (List ℕ)) (t : ℕ → ℕ) (path : List ℕ) → IsValidProblem p
    → AreReaches p source reaches → length reaches ≡ length p.ops → AreChainsFrom p source (length p.ops) reaches paths
    → All (IsAfter p t) p.edges → All (Rises t) paths → IsBoundOf p (Chain path) → first_of path ≡ source → Rises t path
source_rises p source reaches paths t path valid reached count chains kept rise bound first =
    let last = path_reached p source reaches path valid reached count bound.0 first in
    let inside : last_of path < length p.ops = omega (arith, found_within reaches (last_of path) last.0 last.1) in
    let passed = passed_from p reaches (last_of path) last.0 last.1 (omega (arith, bound.1, last.2)) in
    let up = rises_to p source reaches paths t valid chains kept rise (last_of path + 1) (last_of path) (omega arith) inside passed in
    omega (arith, up, ap t first)

-- ---- the chains of all sources
pub no_lists : (p : Problem) → AreChains p 0 []
no_lists p = record {
  of = All-nil (λ path. IsBoundOf p (Chain path));
  first = All-nil (λ path. first_of path < 0);
  greatest = All-nil (IsGreatest p);
  once = λ i j d less within. absurd (omega arith);
  enough = λ t kept rise path bound low. absurd (omega arith);
}

bound_from : (p : Problem) (source : ℕ) (reaches : List (Option Reach)) (path : List ℕ) → IsChainFrom p source (length p.ops) reaches path → IsBoundOf p (Chain path)
bound_from p source reaches path c = (c.free, omega (arith, c.delay, c.long))

greatest_from : (p : Problem) (source : ℕ) (reaches : List (Option Reach)) → IsValidProblem p → AreReaches p source reaches → length reaches ≡ length p.ops
    → (path : List ℕ) → IsChainFrom p source (length p.ops) reaches path → IsGreatest p path
greatest_from p source reaches valid reached count path c other free ends =
    let last = path_reached p source reaches other valid reached count free (ends.0 ∙ c.first) in
    let same : last.0 ≡ c.reach = (let e : Some last.0 ≡ Some c.reach = sym last.1 ∙ ap (reach_at reaches) ends.1 ∙ c.found in cc) in
    omega (arith, last.2, c.delay, ap (λ (x : Reach). x.delay) same)

apart_first : (p : Problem) (source : ℕ) (reaches : List (Option Reach)) (x y : List ℕ) → first_of x < source → IsChainFrom p source (length p.ops) reaches y → Apart x y
apart_first p source reaches x y low c ends = omega (arith, ends.0, c.first)

enough_next : (p : Problem) (source : ℕ) (reaches : List (Option Reach)) (before paths : List (List ℕ)) → IsValidProblem p
    → AreReaches p source reaches → length reaches ≡ length p.ops → AreChains p source before → AreChainsFrom p source (length p.ops) reaches paths
    → (t : ℕ → ℕ) → All (IsAfter p t) p.edges → All (Rises t) (before ++ paths)
    → (path : List ℕ) → IsBoundOf p (Chain path) → first_of path < source + 1 → Rises t path
enough_next p source reaches before paths valid reached count old chains t kept rise path bound low = elim (eq_or_lt (first_of path) source low) [
  | inl here ↦
      source_rises p source reaches paths t path valid reached count chains kept
      (all_back (Rises t) before paths rise) bound here
  | inr less ↦ old.enough t kept (all_front (Rises t) before paths rise) path bound less
]

chains_next : (p : Problem) (source : ℕ) (reaches : List (Option Reach)) (before paths : List (List ℕ)) → IsValidProblem p
    → AreReaches p source reaches → length reaches ≡ length p.ops → AreChains p source before → AreChainsFrom p source (length p.ops) reaches paths
    → AreChains p (source + 1) (before ++ paths)
chains_next p source reaches before paths valid reached count old chains = record {
  of = All-append (λ path. IsBoundOf p (Chain path)) before paths old.of
      (All-weaker (IsChainFrom p source (length p.ops) reaches) (λ path. IsBoundOf p (Chain path)) (bound_from p source reaches) paths chains.of);
  first = All-append (λ path. first_of path < source + 1) before paths
      (All-weaker (λ path. first_of path < source) (λ path. first_of path < source + 1) (λ path h. omega arith) before old.first)
      (All-weaker (IsChainFrom p source (length p.ops) reaches) (λ path. first_of path < source + 1) (λ path c. omega (arith, c.first)) paths chains.of);
  greatest = All-append (IsGreatest p) before paths old.greatest
      (All-weaker (IsChainFrom p source (length p.ops) reaches) (IsGreatest p) (greatest_from p source reaches valid reached count) paths chains.of);
  once = pairs_append Apart before paths old.once chains.once
      (All-weaker (λ path. first_of path < source) (λ x. All (Apart x) paths)
      (λ x low. All-weaker (IsChainFrom p source (length p.ops) reaches) (Apart x) (λ y. apart_first p source reaches x y low) paths chains.of)
      before old.first);
  enough = enough_next p source reaches before paths valid reached count old chains;
}

pub has_none : (p : Problem) (bounds : List Bound) → HasChains p 0 bounds bounds
has_none p bounds = record { paths = []; chains = no_lists p; joined = sym (append-nil bounds) }

pub has_next : (p : Problem) (source : ℕ) (first middle last : List Bound) → IsValidProblem p → HasChains p source first middle → HasChainsOf p source middle last
    → HasChains p (source + 1) first last
has_next p source first middle last valid old new = record {
  paths = old.paths ++ new.paths;
  chains = chains_next p source new.reaches old.paths new.paths valid new.are new.count old.chains new.chains;
  joined = new.joined ∙ ap (λ (x : List Bound). x ++ map Chain new.paths) old.joined ∙ append_assoc first (map Chain old.paths) (map Chain new.paths)
      ∙ ap (λ (x : List Bound). first ++ x) (sym (map-append Chain old.paths new.paths));
}

-- ---- one operation more, in the code's words
abbrev pub HasSoFar : Problem → ℕ → ℕ → List (Option Reach) → List Bound → List Bound → Type 0
HasSoFar p source below reaches first now = (paths : List (List ℕ)) × AreChainsFrom p source below reaches paths × (now ≡ first ++ map Chain paths)

pub chain_none : (p : Problem) (source below : ℕ) (reaches : List (Option Reach)) (starts : List ℕ) (first now : List Bound) (chain : Option (List ℕ))
    → AreStartsOf p below starts → HasSoFar p source below reaches first now → IsChainOption p.period reaches starts source below chain → chain ≡ None
    → HasSoFar p source (below + 1) reaches first now
chain_none p source below reaches starts first now chain are old option e =
    (old.0, chains_same p source below reaches starts old.0 are old.1 (subst (IsChainOption p.period reaches starts source below) e option), old.2)

pub chain_some : (p : Problem) (source below : ℕ) (reaches : List (Option Reach)) (starts : List ℕ) (first now last : List Bound) (chain : Option (List ℕ)) (path : List ℕ)
    → AreReaches p source reaches → length reaches ≡ length p.ops → source < length p.ops
    → HasSoFar p source below reaches first now → IsChainOption p.period reaches starts source below chain → chain ≡ Some path → last ≡ now ++ Chain path ∷ []
    → HasSoFar p source (below + 1) reaches first last
chain_some p source below reaches starts first now last chain path reached count inside old option e more = (
  old.0 ++ path ∷ [],
  chains_push p source below reaches starts old.0 path reached count inside old.1 (subst (IsChainOption p.period reaches starts source below) e option),
  more ∙ ap (λ (x : List Bound). x ++ Chain path ∷ []) old.2 ∙ append_assoc first (map Chain old.0) (Chain path ∷ [])
      ∙ ap (λ (x : List Bound). first ++ x) (sym (map-append Chain old.0 (path ∷ []))),
)
