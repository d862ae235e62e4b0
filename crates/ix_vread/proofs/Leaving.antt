-- A depth-first search: the path that is open, and the cells that it has left.
use Rattle.std.proofs.Common.{◌≡◌, ◌≢◌, ◌⊎◌, inl, inr, ⊎_elim, ℕ, ◌+◌, ◌<◌, ◌≤◌, List, [], ◌∷◌, ◌++◌, Bool, true, false, length, get_or, set, take, arith, refl, ap, sym, ◌∙◌, subst, All, Contains}
use Rattle.std.specs.Prelude.{AllPairs}
use Rattle.std.proofs.lemmas.Bool.{cases_lt}
use Rattle.std.proofs.lemmas.List.{length-set, get_or_append_left, get_or_push, take-append-le, take_at, length_push}
use Rattle.std.proofs.lemmas.List.Elements.{Contains-append_left, Contains-push, Contains-push_cases, Contains-get_or, All-push}
use Rattle.std.proofs.lemmas.List.Quantifiers.{all_pairs_push}
use Rattle.ix_net.specs.Chain.{Chain, one, more}
use Rattle.ix_net.proofs.Rank.{chain_join}
use Rattle.ix_vread.specs.Graphs.{Edge}
use Rattle.ix_vread.specs.Orders.{Follows, AreLeft, IsOrder, IsMarked, IsResting, Leaves}
use Rattle.ix_vread.proofs.Marking.{set_cases, set_here, set_kept, marked_apart, only_one, front_pairs, last_pair}

-- two cells of the path: the first depends on the second
abbrev pub Leads : List (List ℕ) → ℕ → ℕ → Type 0
Leads graph a b = (a ≢ b) × Chain (Edge graph) b a

pub record IsWalking (graph : List (List ℕ)) (old marks : List Bool) (path order : List ℕ) (root : ℕ) : Type 0 where
  pub size : length marks ≡ length graph
  pub cells : All (λ k. k < length graph) path
  pub linked : AllPairs (Leads graph) path
  pub left : AreLeft (Edge graph) (length graph) order
  pub placed : (k : ℕ) → IsMarked marks k → Contains path k ⊎ Contains order k
  pub open_marked : (k : ℕ) → Contains path k → IsMarked marks k
  pub marked : (k : ℕ) → Contains order k → IsMarked marks k
  pub closed : (a b : ℕ) → Contains order b → Edge graph a b → IsMarked marks a
  pub apart : (k : ℕ) → Contains path k → Contains order k → ⊥
  pub kept : (k : ℕ) → IsMarked old k → IsMarked marks k
  pub root_marked : IsMarked marks root

pub walking_first : (graph : List (List ℕ)) (old : List Bool) (path order : List ℕ) (root : ℕ) → root < length graph → get_or old root false ≡ false → IsResting graph old order → path ≡ root ∷ []
    → IsWalking graph old (set old root true) path order root
walking_first graph old path order root l new r e =
    let lo : root < length old = omega (arith, l, r.size) in
    let is_root : (k : ℕ) → Contains path k → k ≡ root = λ k c. only_one root k (subst (λ z. Contains z k) e c) in
    let here : Contains path root = subst (λ z. Contains z root) (sym e) (0, omega arith, refl) in
    record {
      size = length-set old root true ∙ r.size;
      cells = subst (All (λ k. k < length graph)) (sym e) (All-push (λ k. k < length graph) [] root (λ k d lk. absurd (omega (arith, lk))) l);
      linked = subst (AllPairs (Leads graph)) (sym e) (λ i j d li lj. absurd (omega (arith, li, lj)));
      left = r.left;
      placed = λ k h. ⊎_elim (λ (q : k ≡ root). inl (subst (λ z. Contains path z) (sym q) here)) (λ (q : IsMarked old k). inr (r.placed k q)) (set_cases old root k h);
      open_marked = λ k c. subst (IsMarked (set old root true)) (sym (is_root k c)) (set_here old root lo);
      marked = λ k c. set_kept old root k lo (r.marked k c);
      closed = λ a b c d. set_kept old root a lo (r.closed a b c d);
      apart = λ k c o. marked_apart old k root (r.marked k o) new (is_root k c);
      kept = λ k h. set_kept old root k lo h;
      root_marked = set_here old root lo;
    }

-- the path goes on to a cell that the last one reads
pub walking_on : (graph : List (List ℕ)) (old marks : List Bool) (path rest path' order : List ℕ) (root cell next : ℕ) → path ≡ rest ++ cell ∷ [] → path' ≡ path ++ next ∷ []
    → IsWalking graph old marks path order root → get_or marks next false ≡ false → Edge graph next cell
    → IsWalking graph old (set marks next true) path' order root
walking_on graph old marks path rest path' order root cell next e f s new d =
    let l : next < length marks = omega (arith, d.source, s.size) in
    let fits : Contains path cell = subst (λ z. Contains z cell) (sym e) (Contains-push rest cell) in
    let feeds : (k : ℕ) → Contains path k → Chain (Edge graph) next k = λ k c. ⊎_elim
    (λ (q : Contains rest k). chain_join (one d) (last_pair (Leads graph) rest cell k (subst (AllPairs (Leads graph)) e s.linked) q).1)
    (λ (q : cell ≡ k). subst (λ z. Chain (Edge graph) next z) q (one d))
    (Contains-push_cases rest cell k (subst (λ z. Contains z k) e c)) in
    let cases : (k : ℕ) → Contains path' k → Contains path k ⊎ (next ≡ k) = λ k c. Contains-push_cases path next k (subst (λ z. Contains z k) f c) in
    let stays : (k : ℕ) → Contains path k → Contains path' k = λ k c. subst (λ z. Contains z k) (sym f) (Contains-append_left path (next ∷ []) k c) in
    record {
      size = length-set marks next true ∙ s.size;
      cells = subst (All (λ k. k < length graph)) (sym f) (All-push (λ k. k < length graph) path next s.cells d.source);
      linked = subst (AllPairs (Leads graph)) (sym f) (all_pairs_push (Leads graph) path next s.linked
          (λ k x lk. let c : Contains path (get_or path k x) = Contains-get_or path k x lk in (marked_apart marks (get_or path k x) next (s.open_marked (get_or path k x) c) new, feeds (get_or path k x) c)));
      left = s.left;
      placed = λ k h. ⊎_elim (λ (q : k ≡ next). inl (subst (λ z. Contains path' z) (sym q) (subst (λ z. Contains z next) (sym f) (Contains-push path next))))
          (λ (q : IsMarked marks k). ⊎_elim (λ (t : Contains path k). inl (stays k t)) (λ (t : Contains order k). inr t) (s.placed k q)) (set_cases marks next k h);
      open_marked = λ k c. ⊎_elim (λ (q : Contains path k). set_kept marks next k l (s.open_marked k q)) (λ (q : next ≡ k). subst (IsMarked (set marks next true)) q (set_here marks next l)) (cases k c);
      marked = λ k c. set_kept marks next k l (s.marked k c);
      closed = λ a b c g. set_kept marks next a l (s.closed a b c g);
      apart = λ k c o. ⊎_elim (λ (q : Contains path k). s.apart k q o) (λ (q : next ≡ k). marked_apart marks k next (s.marked k o) new (sym q)) (cases k c);
      kept = λ k h. set_kept marks next k l (s.kept k h);
      root_marked = set_kept marks next root l s.root_marked;
    }

-- the order with one more cell: what feeds it is left, or on the path
left_push : (graph : List (List ℕ)) (order path : List ℕ) (cell : ℕ) → cell < length graph → AreLeft (Edge graph) (length graph) order → (Contains order cell → ⊥)
    → ((a b : ℕ) → Contains order b ⊎ (cell ≡ b) → Edge graph a b → Contains order a ⊎ Follows (Edge graph) cell a)
    → AreLeft (Edge graph) (length graph) (order ++ cell ∷ [])
left_push graph order path cell l s apart feeds =
    let size : length (order ++ cell ∷ []) ≡ length order + 1 = length_push order cell in
    let old_at : (i : ℕ) → i < length order → get_or (order ++ cell ∷ []) i 0 ≡ get_or order i 0 = λ i li. get_or_append_left order (cell ∷ []) 0 i li in
    let new_at : (i : ℕ) → i ≡ length order → get_or (order ++ cell ∷ []) i 0 ≡ cell = λ i e. get_or_push order cell 0 i (sym e) in
    let old_take : (i : ℕ) → i ≤ length order → take i (order ++ cell ∷ []) ≡ take i order = λ i li. take-append-le i order (cell ∷ []) li in
    let new_take : (i : ℕ) → i ≡ length order → take i (order ++ cell ∷ []) ≡ order = λ i e. take_at order (cell ∷ []) i (sym e) in
    record {
      cells = All-push (λ k. k < length graph) order cell s.cells l;
      once = λ i li c. ⊎_elim
          (λ (lt : i < length order). s.once i lt (subst (λ z. Contains z (get_or order i 0)) (old_take i (omega (arith, lt))) (subst (λ x. Contains (take i (order ++ cell ∷ [])) x) (old_at i lt) c)))
          (λ (ge : length order ≤ i). (let e : i ≡ length order = omega (arith, ge, li, size) in
          apart (subst (λ z. Contains z cell) (new_take i e) (subst (λ x. Contains (take i (order ++ cell ∷ [])) x) (new_at i e) c))))
          (cases_lt i (length order));
      turned = λ i k a lik lk d. ⊎_elim
          (λ (lt : k < length order).
          (let d' : Edge graph a (get_or order i 0) = subst (Edge graph a) (old_at i (omega (arith, lik, lt))) d in
          ⊎_elim (λ (q : Contains (take k order) a). inl (subst (λ z. Contains z a) (sym (old_take k (omega (arith, lt)))) q))
          (λ (q : Follows (Edge graph) (get_or order k 0) a). inr (subst (λ x. Follows (Edge graph) x a) (sym (old_at k lt)) q))
          (s.turned i k a lik lt d')))
          (λ (ge : length order ≤ k).
          (let e : k ≡ length order = omega (arith, ge, lk, size) in
          let at : Contains order (get_or (order ++ cell ∷ []) i 0) ⊎ (cell ≡ get_or (order ++ cell ∷ []) i 0) = ⊎_elim
          (λ (lt : i < length order). inl (subst (Contains order) (sym (old_at i lt)) (Contains-get_or order i 0 lt)))
          (λ (gi : length order ≤ i). inr (sym (new_at i (omega (arith, gi, lik, e)))))
          (cases_lt i (length order)) in
          ⊎_elim (λ (q : Contains order a). inl (subst (λ z. Contains z a) (sym (new_take k e)) q))
          (λ (q : Follows (Edge graph) cell a). inr (subst (λ x. Follows (Edge graph) x a) (sym (new_at k e)) q))
          (feeds a (get_or (order ++ cell ∷ []) i 0) at d)))
          (cases_lt k (length order));
    }

-- the last cell of the path is left: all that it reads is marked
pub walking_back : (graph : List (List ℕ)) (old marks : List Bool) (path rest order order' : List ℕ) (root cell : ℕ) → path ≡ rest ++ cell ∷ [] → order' ≡ order ++ cell ∷ []
    → IsWalking graph old marks path order root → ((a : ℕ) → Edge graph a cell → IsMarked marks a)
    → IsWalking graph old marks rest order' root
walking_back graph old marks path rest order order' root cell e f s all =
    let linked : AllPairs (Leads graph) (rest ++ cell ∷ []) = subst (AllPairs (Leads graph)) e s.linked in
    let here : Contains path cell = subst (λ z. Contains z cell) (sym e) (Contains-push rest cell) in
    let stays : (k : ℕ) → Contains rest k → Contains path k = λ k c. subst (λ z. Contains z k) (sym e) (Contains-append_left rest (cell ∷ []) k c) in
    let cases : (k : ℕ) → Contains path k → Contains rest k ⊎ (cell ≡ k) = λ k c. Contains-push_cases rest cell k (subst (λ z. Contains z k) e c) in
    let left_cases : (k : ℕ) → Contains order' k → Contains order k ⊎ (cell ≡ k) = λ k c. Contains-push_cases order cell k (subst (λ z. Contains z k) f c) in
    let lc : cell < length graph = go_cells (length graph) path cell s.cells here in
    let feeds : (a : ℕ) → IsMarked marks a → Contains order a ⊎ Follows (Edge graph) cell a = λ a m. ⊎_elim
    (λ (q : Contains path a). ⊎_elim (λ (t : Contains rest a). inr (inr (last_pair (Leads graph) rest cell a linked t).1)) (λ (t : cell ≡ a). inr (inl t)) (cases a q))
    (λ (q : Contains order a). inl q) (s.placed a m) in
    let closed : (a b : ℕ) → Contains order b ⊎ (cell ≡ b) → Edge graph a b → IsMarked marks a = λ a b c d. ⊎_elim
    (λ (q : Contains order b). s.closed a b q d) (λ (q : cell ≡ b). all a (subst (Edge graph a) (sym q) d)) c in
    record {
      size = s.size;
      cells = λ k d lk. subst (λ x. x < length graph) (get_or_append_left rest (cell ∷ []) d k lk) (subst (All (λ x. x < length graph)) e s.cells k d (omega (arith, lk, length_push rest cell)));
      linked = front_pairs (Leads graph) rest cell linked;
      left = subst (AreLeft (Edge graph) (length graph)) (sym f) (left_push graph order path cell lc s.left (s.apart cell here) (λ a b c d. feeds a (closed a b c d)));
      placed = λ k m. ⊎_elim
          (λ (q : Contains path k). ⊎_elim (λ (t : Contains rest k). inl t) (λ (t : cell ≡ k). inr (subst (Contains order') t (subst (λ z. Contains z cell) (sym f) (Contains-push order cell)))) (cases k q))
          (λ (q : Contains order k). inr (subst (λ z. Contains z k) (sym f) (Contains-append_left order (cell ∷ []) k q))) (s.placed k m);
      open_marked = λ k c. s.open_marked k (stays k c);
      marked = λ k c. ⊎_elim (λ (q : Contains order k). s.marked k q) (λ (q : cell ≡ k). subst (IsMarked marks) q (s.open_marked cell here)) (left_cases k c);
      closed = λ a b c d. closed a b (left_cases b c) d;
      apart = λ k c o. ⊎_elim (λ (q : Contains order k). s.apart k (stays k c) q) (λ (q : cell ≡ k). (last_pair (Leads graph) rest cell k linked c).0 (sym q)) (left_cases k o);
      kept = s.kept;
      root_marked = s.root_marked;
    }
  where
    go_cells : (n : ℕ) (xs : List ℕ) (x : ℕ) → All (λ k. k < n) xs → Contains xs x → x < n
    go_cells n xs x h c = subst (λ z. z < n) c.2 (h c.0 x c.1)

pub walking_end : (graph : List (List ℕ)) (old marks : List Bool) (path order : List ℕ) (root : ℕ) → path ≡ [] → IsWalking graph old marks path order root → Leaves graph old marks order root
walking_end graph old marks path order root e s =
    let none : (k : ℕ) → Contains path k → ⊥ = λ k c. (let q : Contains [] k = subst (λ z. Contains z k) e c in omega (arith, q.1)) in
    record {
      resting = record {
        size = s.size;
        left = s.left;
        placed = λ k m. ⊎_elim (λ (q : Contains path k). absurd (none k q)) (λ (q : Contains order k). q) (s.placed k m);
        marked = s.marked;
        closed = s.closed;
      };
      kept = s.kept;
      root_marked = s.root_marked;
    }

-- the last cell of the path
pub last_within : (n : ℕ) (path rest : List ℕ) (cell : ℕ) → path ≡ rest ++ cell ∷ [] → All (λ k. k < n) path → cell < n
last_within n path rest cell e h =
    let c : Contains path cell = subst (λ z. Contains z cell) (sym e) (Contains-push rest cell) in
    subst (λ z. z < n) c.2 (h c.0 cell c.1)

-- at the start nothing is marked
pub resting_first : (graph : List (List ℕ)) (marks : List Bool) (order : List ℕ) → length marks ≡ length graph → ((k : ℕ) → IsMarked marks k → ⊥) → order ≡ [] → IsResting graph marks order
resting_first graph marks order s clear e =
    let none : (k : ℕ) → Contains order k → ⊥ = λ k c. (let q : Contains [] k = subst (λ z. Contains z k) e c in omega (arith, q.1)) in
    let size : length order ≡ 0 = ap length e in
    record {
      size = s;
      left = record {
        cells = λ k d l. absurd (omega (arith, l, size));
        once = λ i l. absurd (omega (arith, l, size));
        turned = λ i k a l m. absurd (omega (arith, m, size));
      };
      placed = λ k m. absurd (clear k m);
      marked = λ k c. absurd (none k c);
      closed = λ a b c. absurd (none b c);
    }

-- at the end all cells are
pub order_whole : (graph : List (List ℕ)) (marks : List Bool) (order : List ℕ) → IsResting graph marks order → ((k : ℕ) → k < length graph → IsMarked marks k) → IsOrder (Edge graph) (length graph) order
order_whole graph marks order r all = record { left = r.left; whole = λ k l. r.placed k (all k l) }
