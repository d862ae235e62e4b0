-- What the machine's run says of a list of tokens: its tree, the first token that is refused, or the first that nests too deep.
use Rattle.std.proofs.Common.{◌≡◌, ℕ, zero, suc, ◌<◌, ◌≤◌, ⊎_elim, List, [], ◌∷◌, ◌++◌, length, refl, ap, sym, ◌∙◌, subst, arith}
use Rattle.std.specs.Prelude.{take, drop}
use Rattle.std.proofs.Math.Seq.{take-suc, drop-cons}
use Rattle.std.proofs.Math.ListN.{get_or}
use Rattle.std.proofs.lemmas.Bool.{cases_order, cases_lt}
use Rattle.std.proofs.lemmas.List.{length-append, take-append-drop, take-take, length-take-le, take-append-le}
use Rattle.std.proofs.lemmas.List.Elements.{All-take, All-append}
use Rattle.ix_tree.specs.declared.token.Token.{Token}
use Rattle.ix_tree.specs.Trees.{TextTree}
use Rattle.ix_tree.specs.Grammar.{IsText, Derives}
use Rattle.ix_tree.specs.Machine.{State, starting, ended, Next, stop, go, step, Outcome, accept, stuck, then_at, finish, run, marked}
use Rattle.ix_tree.specs.Parsing.{Begins, IsFlat, IsRefusedAt, IsTooDeepAt, Verdict, is_tree, refused_at, too_deep_at, IsVerdict, VerdictLaw, SomeVerdictLaw}
use Rattle.ix_tree.proofs.Steps.{one, marked-append}
use Rattle.ix_tree.proofs.Sections.{accepted}
use Rattle.ix_tree.proofs.Unique.{unique}
use Rattle.ix_tree.proofs.Reached.{r_starting}
use Rattle.ix_tree.proofs.KeptSteps.{ends_text}
use Rattle.ix_tree.proofs.Walks.{Walks, stands, goes, at_stop, at_end, no_mark, Walking, walks_front, walks_all, through, same_walks}
use Rattle.ix_tree.proofs.Viable.{a_name}
use Rattle.ix_tree.proofs.ViableStates.{begins_text}

-- ---- what begins a text is walked over
pub walk_of : {ts : List Token} {ms : List ℕ} → (b : Begins ts ms) → Walking starting ts ms b.rest (marked b.nestings (accept b.tree))
walk_of {ts} {ms} b = walks_front ts b.rest ms starting (marked b.nestings (accept b.tree)) (accepted b.is ∙ marked-append ms b.nestings (accept b.tree)) b.count

-- a front of a walk
record Cut (s : State) (ts : List Token) (ms : List ℕ) : Type 0 where
  state : State
  walks : Walks s ts ms state

cut : (n : ℕ) {s z : State} {ts : List Token} {ms : List ℕ} → Walks s ts ms z → Cut s (take n ts) (take n ms)
cut zero {s} w = record { state = s; walks = stands }
cut (suc n) {s} stands = record { state = s; walks = stands }
cut (suc n) (goes t m e w) = let h = cut n w in record { state = h.state; walks = goes t m e h.walks }

shorter : (ts : List Token) (n k : ℕ) {z : State} {ms : List ℕ} → Walks starting (take k ts) ms z → n ≤ k → Cut starting (take n ts) (take n ms)
shorter ts n k {ms = ms} w l = subst (λ (us : List Token). Cut starting us (take n ms)) (take-take n k ts l) (cut n w)

-- ---- the three answers
pub tree_is : (ts : List Token) (ms : List ℕ) (x : TextTree) → run starting ts ≡ marked ms (accept x) → IsFlat ms → Derives ts x
tree_is ts ms x e f = record { nestings = ms; is = ends_text starting [] ts [] ms x r_starting e; flat = f }

blocked : {y z : State} {t : Token} {ks : List ℕ} (rest l : List Token) → Walks y (t ∷ []) ks z → run y (t ∷ rest) ≡ stuck l → ⊥
blocked {y} rest l (goes {y = x} t m e w) h = let q : then_at m (run x rest) ≡ stuck l = sym (one y t rest m x e) ∙ h in cc

no_both : (ms ks : List ℕ) (l : List Token) (x : TextTree) → marked ms (stuck l) ≡ marked ks (accept x) → ⊥
no_both [] [] l x e = cc
no_both [] (k ∷ ks) l x e = cc
no_both (m ∷ ms) [] l x e = cc
no_both (m ∷ ms) (k ∷ ks) l x e = no_both ms ks l x cc

-- the walk over one token more goes on from the state where this one ends
next_of : (t : Token) {ts us : List Token} {ms ks : List ℕ} {y z : State} → Walks starting ts ms y → us ≡ ts ++ t ∷ [] → Walks starting us ks z → (rest l : List Token)
    → run y (t ∷ rest) ≡ stuck l → ⊥
next_of t {ts} {ks = ks} {z = z} w e v rest l h =
    let r = through ts (t ∷ []) (subst (λ (q : List Token). Walks starting q ks z) e v) in
    let q = same_walks w r.walks refl in
    blocked rest l r.onward (ap (λ (s : State). run s (t ∷ rest)) (sym q.1) ∙ h)

pub at_is : (ts : List Token) (n : ℕ) (ms : List ℕ) → run starting ts ≡ marked ms (stuck (drop n ts)) → length ms ≡ n → n ≤ length ts → IsFlat ms → IsRefusedAt ts n
at_is ts n ms e l h f =
    let w = walks_front (take n ts) (drop n ts) ms starting (stuck (drop n ts)) (ap (run starting) (take-append-drop n ts) ∙ e) (l ∙ sym (length-take-le n ts h)) in
    record {
      place = h;
      nestings = ms;
      front = begins_text w.walks;
      flat = f;
      next = λ g ks b.
          let d = a_name in
          next_of (get_or ts n d) w.walks (take-suc ts n d g) (walk_of b).walks (drop (suc n) ts) (drop n ts) (ap (run w.state) (sym (drop-cons ts n d g)) ∙ w.left);
      end = λ g ks x d. no_both ms ks (drop n ts) x (sym e ∙ accepted d);
    }

within : (t : Token) (ts : List Token) (m : ℕ) (ms : List ℕ) (s : State) (o : Outcome) → ((y : State) → run y ts ≡ marked ms o → length ms < length ts)
    → (n : Next) → step s t ≡ n → run s (t ∷ ts) ≡ then_at m (marked ms o)
    → length ms < length ts
within t ts m ms s o ih stop h e = absurd (let q : stuck (t ∷ ts) ≡ then_at m (marked ms o) = sym (at_stop s t ts h) ∙ e in cc)
within t ts m ms s o ih (go n y) h e =
    let q : then_at n (run y ts) ≡ then_at m (marked ms o) = sym (one s t ts n y h) ∙ e in
    ih y cc

marks_within : (ms : List ℕ) (ts : List Token) (s : State) (m : ℕ) (o : Outcome) → run s ts ≡ marked ms (then_at m o) → length ms < length ts
marks_within [] [] s m o e = absurd (no_mark s m o (sym (at_end s) ∙ e))
marks_within (k ∷ ms) [] s m o e = absurd (no_mark s k (marked ms (then_at m o)) (sym (at_end s) ∙ e))
marks_within [] (t ∷ ts) s m o e = omega arith
marks_within (k ∷ ms) (t ∷ ts) s m o e = let h = within t ts k ms s (then_at m o) (λ y f. marks_within ms ts y m o f) (step s t) refl e in omega arith

pub deep_is : (ts : List Token) (n : ℕ) (ms : List ℕ) (m : ℕ) (o : Outcome) → run starting ts ≡ marked ms (then_at m o) → length ms ≡ n → IsFlat ms → 64 < m
    → IsTooDeepAt ts n
deep_is ts n ms m o e l f h =
    let g : n < length ts = subst (λ (k : ℕ). k < length ts) l (marks_within ms ts starting m o e) in
    let c : length (ms ++ m ∷ []) ≡ suc n = length-append ms (m ∷ []) ∙ (omega arith) in
    let w = walks_front (take (suc n) ts) (drop (suc n) ts) (ms ++ m ∷ []) starting o
    (ap (run starting) (take-append-drop (suc n) ts) ∙ e ∙ sym (marked-append ms (m ∷ []) o)) (c ∙ sym (length-take-le (suc n) ts (omega arith))) in
    record { place = g; nestings = ms; nesting = m; front = begins_text w.walks; flat = f; deep = h }

-- ---- one thing is told
refused_next : {ts : List Token} {n : ℕ} → IsRefusedAt ts n → {ks : List ℕ} {y : State} → n < length ts → Walks starting (take (suc n) ts) ks y → ⊥
refused_next r {ks} l w = r.next l ks (begins_text w)

last_of : (xs : List ℕ) (m : ℕ) → IsFlat (xs ++ m ∷ []) → m ≤ 64
last_of [] m f = f 0 0 (omega arith)
last_of (x ∷ xs) m f = last_of xs m (λ k d l. f (suc k) d (omega arith))

deep_not_flat : {ts : List Token} {n : ℕ} → IsTooDeepAt ts n → {ks : List ℕ} {y : State} → Walks starting (take (suc n) ts) ks y → IsFlat ks → ⊥
deep_not_flat r w f =
    let e = (same_walks w (walk_of r.front).walks refl).0 in
    let l = last_of r.nestings r.nesting (subst IsFlat e f) in
    omega (arith, r.deep)

walk_of_text : {ts : List Token} {ms : List ℕ} {x : TextTree} → IsText ts ms x → Cut starting ts ms
walk_of_text {ts} {ms} {x} d = let h = walks_all ts ms starting x (accepted d) in record { state = h.state; walks = h.walks }

flat_front : (n : ℕ) (ms : List ℕ) → IsFlat ms → IsFlat (take n ms)
flat_front n ms f = All-take (λ m. m ≤ 64) n ms f

tree_refused : {ts : List Token} {x : TextTree} {n : ℕ} → Derives ts x → IsRefusedAt ts n → ⊥
tree_refused {ts} {x} {n} d r =
    let w = walk_of_text d.is in
    ⊎_elim (λ l. refused_next r l (cut (suc n) w.walks).walks) (λ l. r.end (let p = r.place in omega arith) d.nestings x d.is) (cases_lt n (length ts))

tree_deep : {ts : List Token} {x : TextTree} {n : ℕ} → Derives ts x → IsTooDeepAt ts n → ⊥
tree_deep {n = n} d r = deep_not_flat r (cut (suc n) (walk_of_text d.is).walks).walks (flat_front (suc n) d.nestings d.flat)

refused_later : {ts : List Token} {n k : ℕ} → IsRefusedAt ts n → IsRefusedAt ts k → n < k → ⊥
refused_later {ts} {n} {k} r q l = refused_next r (let p = q.place in omega arith) (shorter ts (suc n) k (walk_of q.front).walks l).walks

deep_later : {ts : List Token} {n k : ℕ} → IsTooDeepAt ts n → IsTooDeepAt ts k → n < k → ⊥
deep_later {ts} {n} {k} r q l =
    let w = walk_of q.front in
    let c : suc n ≤ length q.nestings = let p = q.front.count in let u = length-append q.nestings (q.nesting ∷ []) in let v = length-take-le (suc k) ts (let p = q.place in omega arith) in omega arith in
    deep_not_flat r (shorter ts (suc n) (suc k) w.walks (omega arith)).walks
    (subst IsFlat (sym (take-append-le (suc n) q.nestings (q.nesting ∷ []) c)) (flat_front (suc n) q.nestings q.flat))

refused_deep : {ts : List Token} {n k : ℕ} → IsRefusedAt ts n → IsTooDeepAt ts k → ⊥
refused_deep {ts} {n} {k} r q =
    ⊎_elim
    (λ l. deep_not_flat q (shorter ts (suc k) n (walk_of r.front).walks l).walks (flat_front (suc k) r.nestings r.flat))
    (λ l. refused_next r (let p = q.place in omega arith) (shorter ts (suc n) (suc k) (walk_of q.front).walks (omega arith)).walks)
    (cases_lt k n)

pub one_verdict : VerdictLaw
one_verdict ts (is_tree x) (is_tree y) a b = ap is_tree (unique a.is b.is).1
one_verdict ts (is_tree x) (refused_at n) a b = absurd (tree_refused a b)
one_verdict ts (is_tree x) (too_deep_at n) a b = absurd (tree_deep a b)
one_verdict ts (refused_at n) (is_tree x) a b = absurd (tree_refused b a)
one_verdict ts (refused_at n) (refused_at k) a b =
    ⊎_elim (λ e. ap refused_at e) (λ h. absurd (⊎_elim (λ l. refused_later a b l) (λ l. refused_later b a l) h)) (cases_order n k)
one_verdict ts (refused_at n) (too_deep_at k) a b = absurd (refused_deep a b)
one_verdict ts (too_deep_at n) (is_tree x) a b = absurd (tree_deep b a)
one_verdict ts (too_deep_at n) (refused_at k) a b = absurd (refused_deep b a)
one_verdict ts (too_deep_at n) (too_deep_at k) a b =
    ⊎_elim (λ e. ap too_deep_at e) (λ h. absurd (⊎_elim (λ l. deep_later a b l) (λ l. deep_later b a l) h)) (cases_order n k)

-- ---- something is told
-- where a run is stuck, the tokens are left that were given no nesting
record StuckAt (ts l : List Token) (n : ℕ) : Type 0 where
  left : l ≡ drop n ts
  within : n ≤ length ts

stuck_end : (s : State) (l : List Token) → finish s ≡ stuck l → l ≡ []
stuck_end (ended x) l e = cc
stuck_end _ l e = cc

stuck_on : (t : Token) (ts : List Token) (ms : List ℕ) (s : State) (l : List Token) → ((ns : List ℕ) (y : State) → run y ts ≡ marked ns (stuck l) → StuckAt ts l (length ns))
    → (n : Next) → step s t ≡ n → run s (t ∷ ts) ≡ marked ms (stuck l)
    → StuckAt (t ∷ ts) l (length ms)
stuck_on t ts [] s l ih stop h e =
    record { left = let q : stuck (t ∷ ts) ≡ stuck l = sym (at_stop s t ts h) ∙ e in let r : l ≡ t ∷ ts = cc in r; within = omega arith }
stuck_on t ts (m ∷ ms) s l ih stop h e = absurd (let q : stuck (t ∷ ts) ≡ then_at m (marked ms (stuck l)) = sym (at_stop s t ts h) ∙ e in cc)
stuck_on t ts [] s l ih (go n y) h e = absurd (let q : then_at n (run y ts) ≡ stuck l = sym (one s t ts n y h) ∙ e in cc)
stuck_on t ts (m ∷ ms) s l ih (go n y) h e =
    let q : then_at n (run y ts) ≡ then_at m (marked ms (stuck l)) = sym (one s t ts n y h) ∙ e in
    let r = ih ms y cc in
    record { left = r.left; within = let w = r.within in omega arith }

stuck_at : (ts : List Token) (ms : List ℕ) (s : State) (l : List Token) → run s ts ≡ marked ms (stuck l) → StuckAt ts l (length ms)
stuck_at [] [] s l e = record { left = stuck_end s l (sym (at_end s) ∙ e); within = omega arith }
stuck_at [] (m ∷ ms) s l e = absurd (no_mark s m (marked ms (stuck l)) (sym (at_end s) ∙ e))
stuck_at (t ∷ ts) ms s l e = stuck_on t ts ms s l (λ ns y h. stuck_at ts ns y l h) (step s t) refl e

flat_more : (ms : List ℕ) (m : ℕ) → IsFlat ms → m ≤ 64 → IsFlat (ms ++ m ∷ [])
flat_more ms m f l = All-append (λ m. m ≤ 64) ms (m ∷ []) f (λ i d h. let e : i ≡ 0 = omega arith in rw e l)

verdict_from : (ts : List Token) (o : Outcome) (ms : List ℕ) → run starting ts ≡ marked ms o → IsFlat ms → (v : Verdict) × IsVerdict ts v
verdict_from ts (accept x) ms e f = (is_tree x, tree_is ts ms x e f)
verdict_from ts (stuck l) ms e f =
    let r = stuck_at ts ms starting l e in
    (refused_at (length ms), at_is ts (length ms) ms (e ∙ ap (λ (q : List Token). marked ms (stuck q)) r.left) refl r.within f)
verdict_from ts (then_at m o) ms e f =
    ⊎_elim (λ l. (too_deep_at (length ms), deep_is ts (length ms) ms m o e refl f l))
    (λ l. verdict_from ts o (ms ++ m ∷ []) (e ∙ sym (marked-append ms (m ∷ []) o)) (flat_more ms m f l)) (cases_lt 64 m)

pub some_verdict : SomeVerdictLaw
some_verdict ts = verdict_from ts (run starting ts) [] refl (λ i d h. absurd (omega arith))
