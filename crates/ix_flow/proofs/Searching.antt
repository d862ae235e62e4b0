-- A search with a list of what is left puts each operation once, behind its arguments.
use Rattle.std.proofs.Common.{◌≡◌, ℕ, ◌+◌, ◌*◌, ◌<◌, ◌≤◌, refl, sym, ap, subst, ◌∙◌, ⊎_elim, arith, true, List, [], ◌∷◌, ◌++◌, length, append_assoc, Result, Ok, Err}
use Rattle.std.specs.List.{AllByRecursion}
use Rattle.std.proofs.lemmas.List.{append-nil}
use Rattle.ix_mean.specs.Terms.{Term, t_const, t_read, t_one, t_entry, t_two, t_three}
use Rattle.ix_mean.specs.Order.{postorder, has_term, add_all, Among, IsClosed}
use Rattle.ix_mean.proofs.Ordering.{add_append, all_length, none_added, has_among, closed_all, among_left, among_right, among_either, all_keep, all_has}
use Rattle.ix_terms.specs.Stores.{Stock, at, size}
use Rattle.ix_flow.specs.declared.error.FlowErr.{FlowErr}
use Rattle.ix_flow.specs.declared.error.FlowErr.TheVariants.{TooManyOps, Memory}
use Rattle.ix_flow.specs.declared.order.Task.{Task}
use Rattle.ix_flow.specs.declared.order.Task.TheVariants.{Enter, Leave}
use Rattle.ix_flow.specs.Orders.{terms_at, IsOrder, HasVisited, Comes, Puts, Visits, below_term, itself}
use Rattle.ix_flow.specs.Searches.{task_terms, task_place, pending, IsReady, AreReady, term_size, weights, IsExtended, HasStepped, IsSearching}
use Rattle.ix_flow.proofs.Visiting.{order_split}

-- ---- what is left
pending_append : (s : Stock) (xs ys : List Task) → pending s (xs ++ ys) ≡ pending s ys ++ pending s xs
pending_append s [] ys = sym (append-nil (pending s ys))
pending_append s (x ∷ xs) ys = ap (λ (us : List Term). us ++ task_terms s x) (pending_append s xs ys) ∙ append_assoc (pending s ys) (pending s xs) (task_terms s x)

weights_append : (s : Stock) (xs ys : List Task) → weights s (xs ++ ys) ≡ weights s xs + weights s ys
weights_append s [] ys = omega arith
weights_append s (x ∷ xs) ys = omega (arith, weights_append s xs ys)

all_front : (n : ℕ) (xs ys : List Task) → AllByRecursion (λ x. task_place x < n) (xs ++ ys) → AllByRecursion (λ x. task_place x < n) xs
all_front n [] ys h = tt
all_front n (x ∷ xs) ys h = (h.0, all_front n xs ys h.1)

all_both : (n : ℕ) (xs ys : List Task) → AllByRecursion (λ x. task_place x < n) xs → AllByRecursion (λ x. task_place x < n) ys → AllByRecursion (λ x. task_place x < n) (xs ++ ys)
all_both n [] ys h k = k
all_both n (x ∷ xs) ys h k = (h.0, all_both n xs ys h.1 k)

all_last : (n : ℕ) (xs : List Task) (t : Task) → AllByRecursion (λ x. task_place x < n) (xs ++ t ∷ []) → task_place t < n
all_last n [] t h = h.0
all_last n (x ∷ xs) t h = all_last n xs t h.1

ready_as : (s : Stock) (xs ys : List Term) (t : Task) → ((u : Term) → Among xs u → Among ys u) → IsReady s xs t → IsReady s ys t
ready_as s xs ys (Enter k) f h = tt
ready_as s xs ys (Leave k) f h = λ u m. f u (h u m)

ready_last : (s : Stock) (os : List Term) (xs : List Task) (t : Task) → AreReady s os (xs ++ t ∷ []) → IsReady s (os ++ []) t
ready_last s os [] t h = h.0
ready_last s os (x ∷ xs) t h = ready_last s os xs t h.1

-- other tasks in the place of the last ones
ready_swap : (s : Stock) (os ps : List Term) (ys zs : List Task) → ((u : Term) → Among (os ++ pending s ys) u → Among (ps ++ pending s zs) u) → AreReady s ps zs → (xs : List Task) → AreReady s os (xs ++ ys) → AreReady s ps (xs ++ zs)
ready_swap s os ps ys zs f r [] h = r
ready_swap s os ps ys zs f r (x ∷ xs) h = (
  ready_as s (os ++ pending s (xs ++ ys)) (ps ++ pending s (xs ++ zs)) x
      (λ u m.
      let to : Among (ps ++ pending s zs ++ pending s xs) u → Among (ps ++ pending s (xs ++ zs)) u =
      (λ n. subst (λ (us : List Term). Among us u) (append_assoc ps (pending s zs) (pending s xs) ∙ ap (λ (us : List Term). ps ++ us) (sym (pending_append s xs zs))) n) in
      let from : Among (os ++ pending s ys ++ pending s xs) u =
      subst (λ (us : List Term). Among us u) (ap (λ (us : List Term). os ++ us) (pending_append s xs ys) ∙ sym (append_assoc os (pending s ys) (pending s xs))) m in
      to (⊎_elim (λ (a : Among (os ++ pending s ys) u). among_left (ps ++ pending s zs) (pending s xs) u (f u a)) (λ (b : Among (pending s xs) u). among_right (ps ++ pending s zs) (pending s xs) u b)
      (among_either (os ++ pending s ys) (pending s xs) u from)))
      h.0,
  ready_swap s os ps ys zs f r xs h.1,
)

-- ---- the loop
pub searching_start : (s : Stock) (old : List ℕ) (tasks : List Task) (k : ℕ) → IsOrder s old → k < size s → tasks ≡ Enter k ∷ [] → IsSearching s old old tasks (postorder (at s k))
searching_start s old tasks k o h e =
    subst (λ (ts : List Task). IsSearching s old old ts (postorder (at s k))) (sym e) (record { order = o; same = refl; ready = (tt, tt); below = (h, tt) })

pub searching_step : (s : Stock) (old now new : List ℕ) (tasks rest made : List Task) (t : Task) (us : List Term) → IsSearching s old now tasks us → tasks ≡ rest ++ t ∷ [] → HasStepped s now new rest made t → IsSearching s old new made us
searching_step s old now new tasks rest made t us g e h =
    let r : AreReady s (terms_at s now) (rest ++ t ∷ []) = subst (AreReady s (terms_at s now)) e g.ready in
    let b : AllByRecursion (λ x. task_place x < size s) (rest ++ t ∷ []) = subst (λ (ts : List Task). AllByRecursion (λ x. task_place x < size s) ts) e g.below in
    record {
      order = h.order;
      same =
          ap (λ (ts : List Task). add_all (terms_at s new) (pending s ts)) h.whole
          ∙ ap (add_all (terms_at s new)) (pending_append s rest h.more)
          ∙ add_append (terms_at s new) (pending s h.more) (pending s rest)
          ∙ ap (λ (os : List Term). add_all os (pending s rest)) (sym h.same)
          ∙ sym (add_append (terms_at s now) (task_terms s t) (pending s rest))
          ∙ ap (add_all (terms_at s now)) (sym (pending_append s rest (t ∷ [])))
          ∙ ap (λ (ts : List Task). add_all (terms_at s now) (pending s ts)) (sym e) ∙ g.same;
      ready = subst (AreReady s (terms_at s new)) (sym h.whole) (ready_swap s (terms_at s now) (terms_at s new) (t ∷ []) h.more h.keeps h.ready rest r);
      below = subst (λ (ts : List Task). AllByRecursion (λ x. task_place x < size s) ts) (sym h.whole) (all_both (size s) rest h.more (all_front (size s) rest (t ∷ []) b) h.below);
    }

pub searching_less : (s : Stock) (now new : List ℕ) (tasks rest made : List Task) (t : Task) → tasks ≡ rest ++ t ∷ [] → HasStepped s now new rest made t → weights s made < weights s tasks
searching_less s now new tasks rest made t e h =
    let a = weights_append s rest h.more in
    let b = weights_append s rest (t ∷ []) in
    subst (λ (ts : List Task). weights s made < weights s ts) (sym e) (subst (λ (ts : List Task). weights s ts < weights s (rest ++ t ∷ [])) (sym h.whole) (omega (arith, a, b, h.less)))

pub task_ready : (s : Stock) (old now : List ℕ) (tasks rest : List Task) (t : Task) (us : List Term) → IsSearching s old now tasks us → tasks ≡ rest ++ t ∷ [] → IsReady s (terms_at s now ++ []) t
task_ready s old now tasks rest t us g e = ready_last s (terms_at s now) rest t (subst (AreReady s (terms_at s now)) e g.ready)

pub task_below : (s : Stock) (old now : List ℕ) (tasks rest : List Task) (t : Task) (us : List Term) → IsSearching s old now tasks us → tasks ≡ rest ++ t ∷ [] → task_place t < size s
task_below s old now tasks rest t us g e = all_last (size s) rest t (subst (λ (ts : List Task). AllByRecursion (λ x. task_place x < size s) ts) e g.below)

pub searching_err : (s : Stock) (old now new made : List ℕ) (tasks rest left : List Task) (t : Task) (us : List Term) (x : FlowErr) → IsSearching s old now tasks us → tasks ≡ rest ++ t ∷ []
    → Comes (HasStepped s now new rest left t) s now (task_terms s t) (Err x) → Visits s old made us (Err x)
searching_err s old now new made tasks rest left t us TooManyOps g e h =
    let l : 256 < length (add_all (terms_at s now) (task_terms s t)) = h in
    let m = all_length (add_all (terms_at s now) (task_terms s t)) (pending s rest) in
    subst (λ (xs : List Term). 256 < length xs)
    (sym (add_append (terms_at s now) (task_terms s t) (pending s rest)) ∙ ap (add_all (terms_at s now)) (sym (pending_append s rest (t ∷ [])))
    ∙ ap (λ (ts : List Task). add_all (terms_at s now) (pending s ts)) (sym e) ∙ g.same) (omega (arith, l, m))
searching_err s old now new made tasks rest left t us Memory g e h = tt

pub searching_end : (s : Stock) (old now : List ℕ) (tasks : List Task) (us : List Term) → IsSearching s old now tasks us → tasks ≡ [] → HasVisited s old now us
searching_end s old now tasks us g e = record { terms = ap (λ (ts : List Task). add_all (terms_at s now) (pending s ts)) (sym e) ∙ g.same; order = g.order }

-- ---- a term that is entered
size_some : (t : Term) → 1 ≤ term_size t
size_some (t_const ty raw) = omega arith
size_some (t_read k ty) = omega arith
size_some (t_one k ty a) = omega arith
size_some (t_entry n es ty a) = omega arith
size_some (t_two k ty a b) = omega arith
size_some (t_three k ty a b c) = omega arith

-- what is met, or is no operation, leaves nothing
pub nothing_left : (s : Stock) (os : List ℕ) (rest : List Task) (k : ℕ) → IsOrder s os → ((u : Term) → Among (postorder (at s k)) u → Among (terms_at s os) u) → HasStepped s os os rest rest (Enter k)
nothing_left s os rest k o f = record {
  more = [];
  whole = sym (append-nil rest);
  order = o;
  same = none_added (terms_at s os) (postorder (at s k)) f;
  keeps = λ u m. subst (λ (us : List Term). Among us u) (sym (append-nil (terms_at s os))) (⊎_elim (λ (a : Among (terms_at s os) u). a) (λ (b : Among (postorder (at s k)) u). f u b) (among_either (terms_at s os) (postorder (at s k)) u m));
  ready = tt;
  below = tt;
  less = omega (arith, size_some (at s k));
}

pub met_left : (s : Stock) (os : List ℕ) (rest : List Task) (k : ℕ) → IsOrder s os → has_term (terms_at s os) (at s k) ≡ true → HasStepped s os os rest rest (Enter k)
met_left s os rest k o h = nothing_left s os rest k o (λ u m. o.closed (at s k) u (has_among (terms_at s os) (at s k) h) m)

pub const_left : (s : Stock) (os : List ℕ) (rest : List Task) (k : ℕ) (t : Term) → IsOrder s os → at s k ≡ t → postorder t ≡ [] → HasStepped s os os rest rest (Enter k)
const_left s os rest k t o e n = nothing_left s os rest k o (λ u m. absurd (subst (λ (us : List Term). Among us u) (ap postorder e ∙ n) m))

-- others in its place
expanded : (s : Stock) (os : List ℕ) (rest made more : List Task) (k : ℕ) → IsOrder s os → made ≡ rest ++ more → postorder (at s k) ≡ pending s more → AreReady s (terms_at s os) more
    → AllByRecursion (λ x. task_place x < size s) more → weights s more < 2 * term_size (at s k) → HasStepped s os os rest made (Enter k)
expanded s os rest made more k o w e r b l = record {
  more = more;
  whole = w;
  order = o;
  same = ap (add_all (terms_at s os)) e;
  keeps = λ u m. subst (λ (us : List Term). Among (terms_at s os ++ us) u) e m;
  ready = r;
  below = b;
  less = l;
}

-- over the term that stands at the place
pub read_left : (s : Stock) (os : List ℕ) (rest made : List Task) (k : ℕ) (t : Term) → IsOrder s os → k < size s → at s k ≡ t → itself t ≡ postorder t → below_term t ≡ [] → 1 < 2 * term_size t → made ≡ rest ++ Leave k ∷ []
    → HasStepped s os os rest made (Enter k)
read_left s os rest made k t o h e i n l w =
    expanded s os rest made (Leave k ∷ []) k o w (ap postorder e ∙ sym i ∙ ap itself (sym e))
    (λ u m. absurd (subst (λ (us : List Term). Among us u) (ap below_term e ∙ n) m), tt) (h, tt) (subst (λ (x : Term). 1 + 0 < 2 * term_size x) (sym e) (omega (arith, l)))

pub one_left : (s : Stock) (os : List ℕ) (rest made : List Task) (k a : ℕ) (t : Term) → IsOrder s os → k < size s → a < k → at s k ≡ t → postorder t ≡ postorder (at s a) ++ itself t → below_term t ≡ postorder (at s a)
    → term_size t ≡ 1 + term_size (at s a) → made ≡ rest ++ (Leave k ∷ Enter a ∷ []) → HasStepped s os os rest made (Enter k)
one_left s os rest made k a t o h l e p n z w =
    expanded s os rest made (Leave k ∷ Enter a ∷ []) k o w (ap postorder e ∙ p ∙ ap (λ (x : Term). postorder (at s a) ++ itself x) (sym e))
    (λ u m. among_right (terms_at s os) (postorder (at s a)) u (subst (λ (us : List Term). Among us u) (ap below_term e ∙ n) m), (tt, tt)) (h, (omega arith, tt))
    (let y = ap term_size e ∙ z in omega (arith, y))

pub two_left : (s : Stock) (os : List ℕ) (rest made : List Task) (k a b : ℕ) (t : Term) → IsOrder s os → k < size s → a < k → b < k → at s k ≡ t → postorder t ≡ postorder (at s a) ++ postorder (at s b) ++ itself t
    → below_term t ≡ postorder (at s a) ++ postorder (at s b) → term_size t ≡ 1 + term_size (at s a) + term_size (at s b) → made ≡ rest ++ (Leave k ∷ Enter b ∷ Enter a ∷ []) → HasStepped s os os rest made (Enter k)
two_left s os rest made k a b t o h la lb e p n z w =
    expanded s os rest made (Leave k ∷ Enter b ∷ Enter a ∷ []) k o w (ap postorder e ∙ p ∙ ap (λ (x : Term). postorder (at s a) ++ postorder (at s b) ++ itself x) (sym e))
    (λ u m. among_right (terms_at s os) (postorder (at s a) ++ postorder (at s b)) u (subst (λ (us : List Term). Among us u) (ap below_term e ∙ n) m), (tt, (tt, tt))) (h, (omega arith, (omega arith, tt)))
    (let y = ap term_size e ∙ z in omega (arith, y))

pub three_left : (s : Stock) (os : List ℕ) (rest made : List Task) (k a b c : ℕ) (t : Term) → IsOrder s os → k < size s → a < k → b < k → c < k → at s k ≡ t
    → postorder t ≡ postorder (at s a) ++ postorder (at s b) ++ postorder (at s c) ++ itself t → below_term t ≡ postorder (at s a) ++ postorder (at s b) ++ postorder (at s c)
    → term_size t ≡ 1 + term_size (at s a) + term_size (at s b) + term_size (at s c) → made ≡ rest ++ (Leave k ∷ Enter c ∷ Enter b ∷ Enter a ∷ []) → HasStepped s os os rest made (Enter k)
three_left s os rest made k a b c t o h la lb lc e p n z w =
    expanded s os rest made (Leave k ∷ Enter c ∷ Enter b ∷ Enter a ∷ []) k o w (ap postorder e ∙ p ∙ ap (λ (x : Term). postorder (at s a) ++ postorder (at s b) ++ postorder (at s c) ++ itself x) (sym e))
    (λ u m. among_right (terms_at s os) (postorder (at s a) ++ postorder (at s b) ++ postorder (at s c)) u (subst (λ (us : List Term). Among us u) (ap below_term e ∙ n) m), (tt, (tt, (tt, tt)))) (h, (omega arith, (omega arith, (omega arith, tt))))
    (let y = ap term_size e ∙ z in omega (arith, y))

-- ---- a term that is left
pub left_told : (s : Stock) (old new : List ℕ) (rest : List Task) (k : ℕ) (r : Result (Unit {0}) FlowErr) → IsOrder s old → IsReady s (terms_at s old ++ []) (Leave k) → Puts s old new (itself (at s k)) r
    → Comes (HasStepped s old new rest rest (Leave k)) s old (itself (at s k)) r
left_told s old new rest k (Ok x) o f g =
    let os = terms_at s old in
    let t = at s k in
    let there : (u : Term) → Among (below_term t) u → Among os u = (λ u m. subst (λ (us : List Term). Among us u) (append-nil os) (f u m)) in
    let e : add_all os (postorder t) ≡ add_all os (itself t) =
    ap (add_all os) (order_split t) ∙ add_append os (below_term t) (itself t) ∙ ap (λ (us : List Term). add_all us (itself t)) (none_added os (below_term t) there) in
    record {
      more = [];
      whole = sym (append-nil rest);
      order = record { below = g.below; closed = subst IsClosed (e ∙ sym g.terms) (closed_all os t o.closed); few = g.few };
      same = sym g.terms;
      keeps = λ u m. subst (λ (us : List Term). Among us u) (sym (append-nil (terms_at s new)))
          (subst (λ (us : List Term). Among us u) (sym g.terms)
          (⊎_elim (λ (a : Among os u). all_keep os (itself t) u a) (λ (b : Among (itself t) u). all_has os (itself t) u b) (among_either os (itself t) u m)));
      ready = tt;
      below = tt;
      less = omega arith;
    }
left_told s old new rest k (Err TooManyOps) o f g = g
left_told s old new rest k (Err Memory) o f g = tt

-- what was put behind, or memory was not found
pub extended : (P : Type 0) (s : Stock) (os : List ℕ) (us : List Term) (old new more : List Task) (r : Result (Unit {0}) FlowErr) → IsExtended old new more r → (new ≡ old ++ more → P) → Comes P s os us r
extended P s os us old new more (Ok x) h f = f h
extended P s os us old new more (Err TooManyOps) h f = absurd (cc)
extended P s os us old new more (Err Memory) h f = tt

pub left_as : (s : Stock) (old new : List ℕ) (rest : List Task) (k : ℕ) (t : Task) (r : Result (Unit {0}) FlowErr) → t ≡ Leave k → IsOrder s old → IsReady s (terms_at s old ++ []) t → Puts s old new (itself (at s k)) r
    → Comes (HasStepped s old new rest rest t) s old (task_terms s t) r
left_as s old new rest k t r e o f g =
    subst (λ (x : Task). Comes (HasStepped s old new rest rest x) s old (task_terms s x) r) (sym e) (left_told s old new rest k r o (subst (IsReady s (terms_at s old ++ [])) e f) g)
