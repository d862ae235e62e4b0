-- Trees of tight steps, entry by entry, and the way to an entry.
use Rattle.std.proofs.Common.{◌≡◌, ℕ, zero, suc, ◌≢◌, ◌+◌, ◌≤◌, ◌<◌, Bool, true, false, cond, is_some, Option, Some, None, List, [], ◌∷◌, ◌++◌, length, set, refl, sym, ◌∙◌, ap, arith, length-set, reverse, ◌⊎◌, inl, inr}
use Rattle.std.proofs.lemmas.List.{get_or_append_left, get_or_push, get_or_past, get_or-set_same, get_or-set_other, length_push, reverse-append}
use Rattle.ix_sheet.specs.declared.problem.Arc.{Arc}
use Rattle.ix_sheet.specs.Bounds.{IsTight}
use Rattle.ix_residual.specs.Residuals.{place_at, IsOnce}
use Rattle.ix_solve.specs.declared.forest.Branch.{Branch}
use Rattle.ix_solve.specs.Search.{arc_at, IsInside}
use Rattle.ix_solve.specs.Networks.{step_from, step_to, node_after, IsTightPath}
use Rattle.ix_solve.proofs.Paths.{two_ends}
use Rattle.ix_solve.specs.Forests.{no_branch, branch_at, entry_at, AreEntries, IsBranch, AreTrees, IsOnward}

same_or_not : (v w : ℕ) → (v ≡ w) ⊎ (v ≢ w)
same_or_not v w = grind arith

below_or_last : (k n : ℕ) → k < n + 1 → (k < n) ⊎ (k ≡ n)
below_or_last k n h = grind arith

below_or_not : (k n : ℕ) → (k < n) ⊎ (n ≤ k)
below_or_not k n = grind arith

some_same : (j k : ℕ) → Some j ≡ Some k → j ≡ k
some_same j k e = cc

some_or_none : (e : Option ℕ) (k : ℕ) → e ≡ Some k → e ≡ None → ⊥
some_or_none e k s n = cc

branch_old : (log : List Branch) (b : Branch) (k : ℕ) → k < length log → branch_at (log ++ b ∷ []) k ≡ branch_at log k
branch_old log b k h = get_or_append_left log (b ∷ []) no_branch k h

branch_new : (log : List Branch) (b : Branch) → branch_at (log ++ b ∷ []) (length log) ≡ b
branch_new log b = get_or_push log b no_branch (length log) refl

-- two entries are of two nodes
pub nodes_apart : (n : ℕ) (log : List Branch) (entries : List (Option ℕ)) (j k : ℕ) → AreEntries n log entries → j < k → k < length log → (branch_at log j).node ≢ (branch_at log k).node
nodes_apart n log entries j k h lt b same =
    let first = (h.known j (omega arith)).1 in
    let second = (h.known k b).1 in
    let e : j ≡ k = some_same j k (sym first ∙ ap (entry_at entries) same ∙ second) in
    omega arith

-- one more entry, of a node that is not reached
pub entries_more : (n : ℕ) (log : List Branch) (entries : List (Option ℕ)) (b : Branch) → AreEntries n log entries → b.node < n → entry_at entries b.node ≡ None →
    AreEntries n (log ++ b ∷ []) (set entries b.node (Some (length log)))
entries_more n log entries b h inside none =
    let long : length (log ++ b ∷ []) ≡ length log + 1 = length_push log b in
    let new : entry_at (set entries b.node (Some (length log))) b.node ≡ Some (length log) = get_or-set_same entries b.node (Some (length log)) None (omega (arith, h.len)) in
    record {
      len = length-set entries b.node (Some (length log)) ∙ h.len;
      found = λ v k e. elim (same_or_not v b.node) [
        | inl same ↦
            (let at : entry_at (set entries b.node (Some (length log))) v ≡ Some (length log) = ap (entry_at (set entries b.node (Some (length log)))) same ∙ new in
            let is : k ≡ length log = some_same k (length log) (sym e ∙ at) in
            rw (is, same, branch_new log b) (omega arith, refl))
        | inr other ↦
            (let at : entry_at (set entries b.node (Some (length log))) v ≡ entry_at entries v = get_or-set_other entries b.node v (Some (length log)) None other in
            let old = h.found v k (sym at ∙ e) in
            (omega (arith, old.0), ap (λ (x : Branch). x.node) (branch_old log b k old.0) ∙ old.1))
      ];
      known = λ k k_in. elim (below_or_last k (length log) (omega arith)) [
        | inl low ↦
            (let old = h.known k low in
            let other : (branch_at log k).node ≢ b.node = λ same. some_or_none (entry_at entries b.node) k (ap (entry_at entries) (sym same) ∙ old.1) none in
            rw (branch_old log b k low) (old.0, get_or-set_other entries b.node (branch_at log k).node (Some (length log)) None other ∙ old.1))
        | inr last ↦ rw (last, branch_new log b) (inside, new)
      ];
    }

branch_more : (arcs : List Arc) (m : ℕ) (t : ℕ → ℕ) (log : List Branch) (b : Branch) (k : ℕ) → k < length log → IsBranch arcs m t log k → IsBranch arcs m t (log ++ b ∷ []) k
branch_more arcs m t log b k k_in h =
    let here = branch_old log b k k_in in
    let before = branch_old log b (branch_at log k).parent (omega (arith, h.earlier)) in
    record {
      earlier = rw here h.earlier;
      within = rw here h.within;
      joined = rw (here, before) h.joined;
      ends = rw here h.ends;
      tight = rw here h.tight;
    }

-- one more step, to a node that is not reached
pub trees_more : (n m : ℕ) (arcs : List Arc) (t : ℕ → ℕ) (roots : ℕ) (log more : List Branch) (entries new : List (Option ℕ)) (b : Branch) (count : ℕ) → AreTrees n m arcs t roots log entries →
    b.node < n → entry_at entries b.node ≡ None → b.parent < length log → b.place < m → step_from arcs (b.place, b.along) ≡ (branch_at log b.parent).node →
    step_to arcs (b.place, b.along) ≡ b.node → IsTight t (arc_at arcs b.place) → more ≡ log ++ b ∷ [] → count ≡ length log → new ≡ set entries b.node (Some count) →
    AreTrees n m arcs t roots more new
trees_more n m arcs t roots log more entries new b count h inside none parent within joined ends tight em ec en =
    let long : length (log ++ b ∷ []) ≡ length log + 1 = length_push log b in
    let last = branch_new log b in
    let before = branch_old log b b.parent parent in
    rw (em, en, ec) (record {
      listed = entries_more n log entries b h.listed inside none;
      begun = omega (arith, h.begun);
      grown = λ k from k_in. elim (below_or_last k (length log) (omega arith)) [
        | inl low ↦ branch_more arcs m t log b k low (h.grown k from low)
        | inr at ↦ rw at (record {
          earlier = rw last parent;
          within = rw last within;
          joined = rw (last, before) joined;
          ends = rw last ends;
          tight = rw last tight;
        })
      ];
    })

-- one more node, where a tree begins
pub entries_begun : (n : ℕ) (log more : List Branch) (entries new : List (Option ℕ)) (b : Branch) (count : ℕ) → AreEntries n log entries → b.node ≡ n → more ≡ log ++ b ∷ [] → count ≡ length log →
    new ≡ entries ++ Some count ∷ [] →
    AreEntries (n + 1) more new
entries_begun n log more entries new b count h at em ec en =
    let long : length (log ++ b ∷ []) ≡ length log + 1 = length_push log b in
    let here : entry_at (entries ++ Some (length log) ∷ []) n ≡ Some (length log) = get_or_push entries (Some (length log)) None n h.len in
    rw (em, en, ec) (record {
      len = length_push entries (Some (length log)) ∙ omega (arith, h.len);
      found = λ v k e. elim (below_or_not v n) [
        | inl low ↦
            (let old = h.found v k (sym (get_or_append_left entries (Some (length log) ∷ []) None v (omega (arith, h.len))) ∙ e) in
            (omega (arith, old.0), ap (λ (x : Branch). x.node) (branch_old log b k old.0) ∙ old.1))
        | inr high ↦ elim (same_or_not v n) [
          | inl same ↦
              (let is : k ≡ length log = some_same k (length log) (sym e ∙ ap (entry_at (entries ++ Some (length log) ∷ [])) same ∙ here) in
              rw (is, same, branch_new log b) (omega arith, at))
          | inr other ↦ absurd (some_or_none (entry_at (entries ++ Some (length log) ∷ []) v) k e
              (get_or_past (entries ++ Some (length log) ∷ []) v None (omega (arith, length_push entries (Some (length log)), h.len))))
        ]
      ];
      known = λ k k_in. elim (below_or_last k (length log) (omega arith)) [
        | inl low ↦
            (let old = h.known k low in
            rw (branch_old log b k low) (omega (arith, old.0), get_or_append_left entries (Some (length log) ∷ []) None (branch_at log k).node (omega (arith, old.0, h.len)) ∙ old.1))
        | inr last ↦ rw (last, branch_new log b, at) (omega arith, here)
      ];
    })

-- one more node, which is not reached
pub entries_none : (n : ℕ) (log : List Branch) (entries new : List (Option ℕ)) → AreEntries n log entries → new ≡ entries ++ None ∷ [] → AreEntries (n + 1) log new
entries_none n log entries new h en =
    let here : entry_at (entries ++ None ∷ []) n ≡ None = get_or_push entries None None n h.len in
    rw en (record {
      len = length_push entries None ∙ omega (arith, h.len);
      found = λ v k e. elim (below_or_not v n) [
        | inl low ↦ h.found v k (sym (get_or_append_left entries (None ∷ []) None v (omega (arith, h.len))) ∙ e)
        | inr high ↦ elim (same_or_not v n) [
          | inl same ↦ absurd (some_or_none (entry_at (entries ++ None ∷ []) v) k e (ap (entry_at (entries ++ None ∷ [])) same ∙ here))
          | inr other ↦ absurd (some_or_none (entry_at (entries ++ None ∷ []) v) k e
              (get_or_past (entries ++ None ∷ []) v None (omega (arith, length_push entries None, h.len))))
        ]
      ];
      known = λ k k_in.
          (let old = h.known k k_in in
          (omega (arith, old.0), get_or_append_left entries (None ∷ []) None (branch_at log k).node (omega (arith, old.0, h.len)) ∙ old.1));
    })

-- before the first node
pub entries_start : (log : List Branch) (entries : List (Option ℕ)) → log ≡ [] → entries ≡ [] → AreEntries 0 log entries
entries_start log entries el ee = rw (el, ee) (record {
  len = refl;
  found = λ v k e. absurd (some_or_none (entry_at [] v) k e (get_or_past [] v None (omega arith)));
  known = λ k k_in. absurd (omega arith);
})

-- the steps from the entry k to the node b
pub record IsTail (m : ℕ) (arcs : List Arc) (t : ℕ → ℕ) (log : List Branch) (k b : ℕ) (steps : List (ℕ × Bool)) : Type 0 where
  pub entry : k < length log
  pub within : (i : ℕ) → i < length steps → (place_at steps i).0 < m
  pub joined : (i : ℕ) → i < length steps → step_from arcs (place_at steps i) ≡ node_after arcs (branch_at log k).node steps i
  pub ends : node_after arcs (branch_at log k).node steps (length steps) ≡ b
  pub later : (i : ℕ) → i < length steps → (j : ℕ) × (k < j) × (j < length log) × (node_after arcs (branch_at log k).node steps (suc i) ≡ (branch_at log j).node)
  pub apart : (i l : ℕ) → i < l → l ≤ length steps → node_after arcs (branch_at log k).node steps i ≢ node_after arcs (branch_at log k).node steps l
  pub tight : (i : ℕ) → i < length steps → IsTight t (arc_at arcs (place_at steps i).0)

pub tail_start : (n m : ℕ) (arcs : List Arc) (t : ℕ → ℕ) (roots : ℕ) (log : List Branch) (entries : List (Option ℕ)) (k b : ℕ) → AreTrees n m arcs t roots log entries → entry_at entries b ≡ Some k →
    IsTail m arcs t log k b []
tail_start n m arcs t roots log entries k b h e =
    let f = h.listed.found b k e in
    record {
      entry = f.0;
      within = λ i i_in. absurd (omega arith);
      joined = λ i i_in. absurd (omega arith);
      ends = f.1;
      later = λ i i_in. absurd (omega arith);
      apart = λ i l lt l_in. absurd (omega arith);
      tight = λ i i_in. absurd (omega arith);
    }

-- the nodes of one more step before
next_node : (arcs : List Arc) (a c : ℕ) (s : ℕ × Bool) (rest : List (ℕ × Bool)) → step_to arcs s ≡ c → (i : ℕ) → node_after arcs a (s ∷ rest) (suc i) ≡ node_after arcs c rest i
next_node arcs a c s rest e zero = e
next_node arcs a c s rest e (suc i) = refl

within_more : (m : ℕ) (s : ℕ × Bool) (rest : List (ℕ × Bool)) → s.0 < m → ((i : ℕ) → i < length rest → (place_at rest i).0 < m) → (i : ℕ) → i < length (s ∷ rest) → (place_at (s ∷ rest) i).0 < m
within_more m s rest here there zero b = here
within_more m s rest here there (suc i) b = there i (omega arith)

joined_more : (arcs : List Arc) (a c : ℕ) (s : ℕ × Bool) (rest : List (ℕ × Bool)) → step_from arcs s ≡ a → ((i : ℕ) → node_after arcs a (s ∷ rest) (suc i) ≡ node_after arcs c rest i) →
    ((i : ℕ) → i < length rest → step_from arcs (place_at rest i) ≡ node_after arcs c rest i) → (i : ℕ) → i < length (s ∷ rest) → step_from arcs (place_at (s ∷ rest) i) ≡ node_after arcs a (s ∷ rest) i
joined_more arcs a c s rest here next there zero b = here
joined_more arcs a c s rest here next there (suc i) b = there i (omega arith) ∙ sym (next i)

tight_more : (arcs : List Arc) (t : ℕ → ℕ) (s : ℕ × Bool) (rest : List (ℕ × Bool)) → IsTight t (arc_at arcs s.0) → ((i : ℕ) → i < length rest → IsTight t (arc_at arcs (place_at rest i).0)) →
    (i : ℕ) → i < length (s ∷ rest) → IsTight t (arc_at arcs (place_at (s ∷ rest) i).0)
tight_more arcs t s rest here there zero b = here
tight_more arcs t s rest here there (suc i) b = there i (omega arith)

-- the nodes behind the steps of a tail are those of later entries
abbrev AreLater : List Arc → List Branch → ℕ → ℕ → List (ℕ × Bool) → Type 0
AreLater arcs log k a steps = (i : ℕ) → i < length steps → (j : ℕ) × (k < j) × (j < length log) × (node_after arcs a steps (suc i) ≡ (branch_at log j).node)

later_more : (arcs : List Arc) (log : List Branch) (a k p : ℕ) (s : ℕ × Bool) (rest : List (ℕ × Bool)) → p < k → k < length log →
    ((i : ℕ) → node_after arcs a (s ∷ rest) (suc i) ≡ node_after arcs (branch_at log k).node rest i) → AreLater arcs log k (branch_at log k).node rest → AreLater arcs log p a (s ∷ rest)
later_more arcs log a k p s rest lt k_in next there zero b = (k, lt, k_in, next zero)
later_more arcs log a k p s rest lt k_in next there (suc i) b = let r = there i (omega arith) in (r.0, omega (arith, r.1), r.2, next (suc i) ∙ r.3)

-- no two nodes along steps are the same
abbrev AreApartAlong : List Arc → ℕ → List (ℕ × Bool) → Type 0
AreApartAlong arcs a steps = (i l : ℕ) → i < l → l ≤ length steps → node_after arcs a steps i ≢ node_after arcs a steps l

apart_more : (n : ℕ) (arcs : List Arc) (log : List Branch) (entries : List (Option ℕ)) (p c : ℕ) (s : ℕ × Bool) (rest : List (ℕ × Bool)) → AreEntries n log entries →
    ((i : ℕ) → node_after arcs (branch_at log p).node (s ∷ rest) (suc i) ≡ node_after arcs c rest i) → AreLater arcs log p (branch_at log p).node (s ∷ rest) → AreApartAlong arcs c rest →
    AreApartAlong arcs (branch_at log p).node (s ∷ rest)
apart_more n arcs log entries p c s rest h next later there i zero lt b same = absurd (omega arith)
apart_more n arcs log entries p c s rest h next later there zero (suc l) lt b same = let r = later l (omega arith) in nodes_apart n log entries p r.0 h r.1 r.2 (same ∙ r.3)
apart_more n arcs log entries p c s rest h next later there (suc i) (suc l) lt b same = there i l (omega arith) (omega arith) (sym (next i) ∙ same ∙ next l)

pub tail_more : (n m : ℕ) (arcs : List Arc) (t : ℕ → ℕ) (roots : ℕ) (log : List Branch) (entries : List (Option ℕ)) (k b : ℕ) (rest : List (ℕ × Bool)) → AreTrees n m arcs t roots log entries → roots ≤ k →
    IsTail m arcs t log k b rest → IsTail m arcs t log (branch_at log k).parent b (((branch_at log k).place, (branch_at log k).along) ∷ rest)
tail_more n m arcs t roots log entries k b rest h from w =
    let is = h.grown k from w.entry in
    let p = (branch_at log k).parent in
    let c = (branch_at log k).node in
    let s : ℕ × Bool = ((branch_at log k).place, (branch_at log k).along) in
    let a = (branch_at log p).node in
    let next = next_node arcs a c s rest is.ends in
    let later = later_more arcs log a k p s rest is.earlier w.entry next w.later in
    record {
      entry = omega (arith, is.earlier, w.entry);
      within = within_more m s rest is.within w.within;
      joined = joined_more arcs a c s rest is.joined next w.joined;
      ends = next (length rest) ∙ w.ends;
      later = later;
      apart = apart_more n arcs log entries p c s rest h.listed next later w.apart;
      tight = tight_more arcs t s rest is.tight w.tight;
    }

-- what comes to no node twice names no inequality twice
pub once_apart : (arcs : List Arc) (a : ℕ) (steps : List (ℕ × Bool)) → ((i : ℕ) → i < length steps → step_from arcs (place_at steps i) ≡ node_after arcs a steps i) →
    ((i l : ℕ) → i < l → l ≤ length steps → node_after arcs a steps i ≢ node_after arcs a steps l) → IsOnce steps
once_apart arcs a steps joined apart i l lt b same =
    elim (two_ends arcs (place_at steps i) (place_at steps l) same) [
      | inl e ↦ apart i (suc l) (omega arith) (omega arith) (sym (joined i (omega arith)) ∙ sym e)
      | inr e ↦ apart (suc i) (suc l) (omega arith) (omega arith) (sym e)
    ]

-- a tail that begins where its tree does is a path
pub tail_path : (m : ℕ) (arcs : List Arc) (t : ℕ → ℕ) (log : List Branch) (k b : ℕ) (steps : List (ℕ × Bool)) → IsTail m arcs t log k b steps → IsTightPath arcs m t (branch_at log k).node b steps
tail_path m arcs t log k b steps w = record {
  within = w.within;
  joined = w.joined;
  ends = w.ends;
  once = once_apart arcs (branch_at log k).node steps w.joined w.apart;
  tight = w.tight;
}

-- .. as the steps are read
pub tail_more_at : (n m : ℕ) (arcs : List Arc) (t : ℕ → ℕ) (roots : ℕ) (log : List Branch) (entries : List (Option ℕ)) (k b : ℕ) (back new : List (ℕ × Bool)) (s : Branch) → AreTrees n m arcs t roots log entries → roots ≤ k →
    IsTail m arcs t log k b (reverse back) → s ≡ branch_at log k → new ≡ back ++ (s.place, s.along) ∷ [] → IsTail m arcs t log s.parent b (reverse new)
tail_more_at n m arcs t roots log entries k b back new s h from w es en =
    rw (en, es, reverse-append back (((branch_at log k).place, (branch_at log k).along) ∷ [])) (tail_more n m arcs t roots log entries k b (reverse back) h from w)

pub tail_path_at : (m : ℕ) (arcs : List Arc) (t : ℕ → ℕ) (log : List Branch) (k b : ℕ) (back steps : List (ℕ × Bool)) (s : Branch) → IsTail m arcs t log k b (reverse back) → s ≡ branch_at log k → steps ≡ reverse back →
    IsTightPath arcs m t s.node b steps
tail_path_at m arcs t log k b back steps s w es e = rw (es, e) (tail_path m arcs t log k b (reverse back) w)

step_inside : (n : ℕ) (a : Arc) (w : ℕ) (along : Bool) → IsInside n a → cond along a.to a.from ≡ w → w ≤ n
step_inside n a w true i e = rw (← e) i.1
step_inside n a w false i e = rw (← e) i.0

-- a step leads inside
pub onward_inside : (n : ℕ) (a : Arc) (v : ℕ) (next : ℕ × Bool) → IsInside n a → IsOnward a v next → next.0 ≤ n
onward_inside n a v next inside on = step_inside n a next.0 next.1 inside on.1

-- what is not some is none
pub none_of : (o : Option ℕ) (some : Bool) → some ≡ is_some o → some ≡ false → o ≡ None
none_of None some e f = refl
none_of (Some k) some e f = absurd (true_false some e f)
  where
    true_false : (b : Bool) → b ≡ true → b ≡ false → ⊥
    true_false b p q = cc
