-- Whether a bound is one of a problem.
use Rattle.std.proofs.Common.{◌≡◌, ℕ, ◌+◌, ◌<◌, ◌==◌, nat_lt, true, false, List, [], ◌∷◌, length, get_or, refl, sym, ◌∙◌, subst, arith, ◌⊎◌, inl, inr}
use Rattle.std.proofs.lemmas.Bool.{cases_Bool, eqb-true, and_parts, and_from}
use Rattle.std.proofs.lemmas.Bool.Decides.{nat_tests}
use Rattle.ix_sheet.specs.declared.problem.Bound.{Bound}
use Rattle.ix_sheet.specs.declared.problem.Bound.TheVariants.{Early, Late, Dep, Chain}
use Rattle.ix_sheet.specs.declared.problem.Problem.{Problem}
use Rattle.ix_sheet.specs.Schedules.{node_at, HasFreeEdge, Runs, IsFreePath, delay_along}
use Rattle.ix_sheet.specs.Bounds.{IsBoundOf}
use Rattle.ix_cert.specs.Faults.{NamesNone, blank_part}
use Rattle.std.proofs.lemmas.List.{get_or_default}
use Rattle.ix_cert.specs.Checks.{has_edge, is_joined, has_runs, has_free_path, names_bound}
use Rattle.ix_cert.proofs.EdgeLists.{has_from, has_to}

less_true : (a b : ℕ) → a < b → nat_lt a b ≡ true
less_true a b h = grind (arith, nat_tests)

true_less : (a b : ℕ) → nat_lt a b ≡ true → a < b
true_less a b h = grind (arith, nat_tests)

zero_true : (a : ℕ) → a ≡ 0 → (a == 0) ≡ true
zero_true a h = grind (arith, nat_tests)

joined_to : (p : Problem) (i j : ℕ) → is_joined p i j ≡ true → HasFreeEdge p i j
joined_to p i j h =
    let parts = and_parts (has_edge p.edges i j) ((node_at p i).latency == 0) h in
    (has_to p.edges i j parts.0, eqb-true (node_at p i).latency 0 parts.1)

joined_from : (p : Problem) (i j : ℕ) → HasFreeEdge p i j → is_joined p i j ≡ true
joined_from p i j e = and_from (has_edge p.edges i j) ((node_at p i).latency == 0) (has_from p.edges (i, j) e.0) (zero_true (node_at p i).latency e.1)

runs_to : (p : Problem) (i : ℕ) (rest : List ℕ) → has_runs p i rest ≡ true → Runs p i rest
runs_to p i [] h = tt
runs_to p i (j ∷ rest) h = let parts = and_parts (is_joined p i j) (has_runs p j rest) h in (joined_to p i j parts.0, runs_to p j rest parts.1)

runs_from : (p : Problem) (i : ℕ) (rest : List ℕ) → Runs p i rest → has_runs p i rest ≡ true
runs_from p i [] r = refl
runs_from p i (j ∷ rest) r = and_from (is_joined p i j) (has_runs p j rest) (joined_from p i j r.0) (runs_from p j rest r.1)

path_to : (p : Problem) (path : List ℕ) → has_free_path p path ≡ true → IsFreePath p path
path_to p [] h = cc
path_to p (i ∷ rest) h = let parts = and_parts (nat_lt i (length p.ops)) (has_runs p i rest) h in (true_less i (length p.ops) parts.0, runs_to p i rest parts.1)

path_from : (p : Problem) (path : List ℕ) → IsFreePath p path → has_free_path p path ≡ true
path_from p [] r = absurd r
path_from p (i ∷ rest) r = and_from (nat_lt i (length p.ops)) (has_runs p i rest) (less_true i (length p.ops) r.0) (runs_from p i rest r.1)

-- the test tells whether the bound is one of the problem
pub bound_to : (p : Problem) (bound : Bound) → names_bound p bound ≡ true → IsBoundOf p bound
bound_to p (Early k) h = true_less k (length p.ops) h
bound_to p (Late k) h = true_less k (length p.ops) h
bound_to p (Dep i j) h = has_to p.edges i j h
bound_to p (Chain path) h =
    let parts = and_parts (has_free_path p path) (nat_lt p.period (delay_along p path)) h in
    (path_to p path parts.0, true_less p.period (delay_along p path) parts.1)

pub bound_from : (p : Problem) (bound : Bound) → IsBoundOf p bound → names_bound p bound ≡ true
bound_from p (Early k) b = less_true k (length p.ops) b
bound_from p (Late k) b = less_true k (length p.ops) b
bound_from p (Dep i j) b = has_from p.edges (i, j) b
bound_from p (Chain path) b =
    and_from (has_free_path p path) (nat_lt p.period (delay_along p path)) (path_from p path b.0) (less_true p.period (delay_along p path) b.1)

pub bound_not : (p : Problem) (bound : Bound) → names_bound p bound ≡ false → IsBoundOf p bound → ⊥
bound_not p bound h b = let clash : false ≡ true = sym h ∙ bound_from p bound b in cc

-- what is not unnamed is named
pub bound_or_not : (p : Problem) (bound : Bound) → ((IsBoundOf p bound → ⊥) → ⊥) → IsBoundOf p bound
bound_or_not p bound h = elim (cases_Bool (names_bound p bound)) [
  | inl test ↦ bound_to p bound test
  | inr test ↦ absurd (h (bound_not p bound test))
]

-- ---- the first bad item
eq_or_lt : (a b : ℕ) → a < b + 1 → (a ≡ b) ⊎ (a < b)
eq_or_lt a b h = grind arith

-- none so far, and not this one
pub none_more : (IsBad : ℕ → Type 0) (at : ℕ) → ((j : ℕ) → j < at → IsBad j → ⊥) → (IsBad at → ⊥) → (j : ℕ) → j < at + 1 → IsBad j → ⊥
none_more IsBad at before here j h bad = elim (eq_or_lt j at h) [
  | inl same ↦ here (subst IsBad same bad)
  | inr less ↦ before j less bad
]

abbrev bound_at : List Bound → ℕ → Bound
bound_at cycle k = get_or cycle k (Early 0)

pub unnamed_at : (p : Problem) (cycle : List Bound) (k : ℕ) (x : Bound) → k < length cycle → x ≡ get_or cycle k x → names_bound p x ≡ false → NamesNone p (bound_at cycle k)
unnamed_at p cycle k x inside e test = subst (NamesNone p) (e ∙ get_or_default cycle k x (Early 0) inside) (bound_not p x test)

pub named_at : (p : Problem) (cycle : List Bound) (k : ℕ) (x : Bound) → k < length cycle → x ≡ get_or cycle k x → names_bound p x ≡ true → NamesNone p (bound_at cycle k) → ⊥
named_at p cycle k x inside e test none = none (subst (IsBoundOf p) (e ∙ get_or_default cycle k x (Early 0) inside) (bound_to p x test))

abbrev part_at : List (Bound × ℕ) → ℕ → Bound × ℕ
part_at flow k = get_or flow k blank_part

pub unnamed_part_at : (p : Problem) (flow : List (Bound × ℕ)) (k : ℕ) (x : Bound × ℕ) → k < length flow → names_bound p (get_or flow k x).0 ≡ false
    → NamesNone p (part_at flow k).0
unnamed_part_at p flow k x inside test = subst (λ (y : Bound × ℕ). NamesNone p y.0) (get_or_default flow k x blank_part inside) (bound_not p (get_or flow k x).0 test)

pub named_part_at : (p : Problem) (flow : List (Bound × ℕ)) (k : ℕ) (x : Bound × ℕ) → k < length flow → names_bound p (get_or flow k x).0 ≡ true
    → NamesNone p (part_at flow k).0 → ⊥
named_part_at p flow k x inside test none = none (subst (λ (y : Bound × ℕ). IsBoundOf p y.0) (get_or_default flow k x blank_part inside) (bound_to p (get_or flow k x).0 test))
