-- The values that are given are those of the turns, and a loop is refused where its head breaks a rule or it has too many turns.
use Rattle.std.proofs.Common.{◌≡◌, ℕ, zero, suc, ◌<◌, ◌≤◌, List, [], ◌∷◌, length, Option, Some, None, Bool, true, false, cond, ℤ, refl, ap, sym, ◌∙◌, subst, arith}
use Rattle.ix_bits.specs.Operators.{is_true}
use Rattle.ix_tree.specs.LoopHeads.{Binding, Valued, is_int}
use Rattle.ix_tree.specs.Unrolling.{Head, Broken, Turns, these, breaks, bound, turns, after, on_value, on_test, test_value, next_value, turns_from}
use Rattle.ix_unroll.specs.Laws.{TurnsOf, no_turn, one_turn, BreaksAfter, no_value, no_int, no_test, one_later, GoesOn, goes, goes_one, TurnsLaw}

-- one step where the tests are known
stop : (bs : List Binding) (h : Head) (x t : Valued) (rest : ℤ → Turns) → is_int x.number ≡ true → test_value bs h x.number ≡ Some t → is_true t.number ≡ false
    → on_value (Some x) (λ v. on_test (test_value bs h v) (rest v)) ≡ these []
stop bs h x t rest i e f = rw (i, e, f) refl

go : (bs : List Binding) (h : Head) (x t : Valued) (rest : ℤ → Turns) → is_int x.number ≡ true → test_value bs h x.number ≡ Some t → is_true t.number ≡ true
    → on_value (Some x) (λ v. on_test (test_value bs h v) (rest v)) ≡ rest x.number
go bs h x t rest i e f = rw (i, e, f) refl

pub all_turns : (left : ℕ) (bs : List Binding) (h : Head) (x : Option Valued) (vs : List ℤ) → TurnsOf bs h x vs → length vs ≤ left → turns_from left bs h x ≡ these vs
unfolding turns_from
all_turns zero bs h _ _ (no_turn x t i e f) l = stop bs h x t (λ v. breaks turns) i e f
all_turns (suc n) bs h _ _ (no_turn x t i e f) l = stop bs h x t (λ v. after v (turns_from n bs h (next_value bs h v))) i e f
all_turns zero bs h _ _ (one_turn {vs = vs} x t i e f r) l = absurd (omega arith)
all_turns (suc n) bs h _ _ (one_turn {vs = vs} x t i e f r) l =
    go bs h x t (λ v. after v (turns_from n bs h (next_value bs h v))) i e f ∙ ap (after x.number) (all_turns n bs h (next_value bs h x.number) vs r (omega arith))

pub more_turns : (left : ℕ) (bs : List Binding) (h : Head) (x : Option Valued) (vs : List ℤ) → TurnsOf bs h x vs → left < length vs → turns_from left bs h x ≡ breaks turns
unfolding turns_from
more_turns zero bs h _ _ (no_turn x t i e f) l = absurd (omega arith)
more_turns (suc n) bs h _ _ (no_turn x t i e f) l = absurd (omega arith)
more_turns zero bs h _ _ (one_turn {vs = vs} x t i e f r) l = go bs h x t (λ v. breaks turns) i e f
more_turns (suc n) bs h _ _ (one_turn {vs = vs} x t i e f r) l =
    go bs h x t (λ v. after v (turns_from n bs h (next_value bs h v))) i e f ∙ ap (after x.number) (more_turns n bs h (next_value bs h x.number) vs r (omega arith))

-- what a step that gives values was
pub data Stepped (bs : List Binding) (h : Head) (x : Valued) (rest : Turns) (vs : List ℤ) : Type 0 where
  ended : (t : Valued) → is_int x.number ≡ true → test_value bs h x.number ≡ Some t → is_true t.number ≡ false → vs ≡ [] → Stepped bs h x rest vs
  went : (t : Valued) → is_int x.number ≡ true → test_value bs h x.number ≡ Some t → is_true t.number ≡ true → rest ≡ these vs → Stepped bs h x rest vs

by_truth : (bs : List Binding) (h : Head) (x t : Valued) (rest : Turns) (vs : List ℤ) (b : Bool) → is_int x.number ≡ true → test_value bs h x.number ≡ Some t → is_true t.number ≡ b
    → cond b rest (these []) ≡ these vs → Stepped bs h x rest vs
by_truth bs h x t rest vs true i e f g = went t i e f g
by_truth bs h x t rest vs false i e f g = ended t i e f cc

by_test : (bs : List Binding) (h : Head) (x : Valued) (rest : Turns) (vs : List ℤ) (o : Option Valued) → is_int x.number ≡ true → test_value bs h x.number ≡ o → on_test o rest ≡ these vs → Stepped bs h x rest vs
by_test bs h x rest vs None i e g = cc
by_test bs h x rest vs (Some t) i e g = by_truth bs h x t rest vs (is_true t.number) i e refl g

by_int : (bs : List Binding) (h : Head) (x : Valued) (rest : ℤ → Turns) (vs : List ℤ) (b : Bool) → is_int x.number ≡ b
    → cond b (on_test (test_value bs h x.number) (rest x.number)) (breaks bound) ≡ these vs → Stepped bs h x (rest x.number) vs
by_int bs h x rest vs true i g = by_test bs h x (rest x.number) vs (test_value bs h x.number) i refl g
by_int bs h x rest vs false i g = cc

-- the turn before turns that give values
pub data Front (v : ℤ) (rest : Turns) (vs : List ℤ) : Type 0 where
  front : (ws : List ℤ) → rest ≡ these ws → vs ≡ v ∷ ws → Front v rest vs

front_of : (v : ℤ) (rest : Turns) (vs : List ℤ) → after v rest ≡ these vs → Front v rest vs
front_of v (these ws) vs e = front ws refl cc
front_of v (breaks b) vs e = cc

pub given_turns : (left : ℕ) (bs : List Binding) (h : Head) (x : Option Valued) (vs : List ℤ) → turns_from left bs h x ≡ these vs → TurnsOf bs h x vs × (length vs ≤ left)
unfolding turns_from
given_turns zero bs h None vs g = cc
given_turns (suc n) bs h None vs g = cc
given_turns zero bs h (Some x) vs g = last (by_int bs h x (λ v. breaks turns) vs (is_int x.number) refl g)
  where
    last : Stepped bs h x (breaks turns) vs → TurnsOf bs h (Some x) vs × (length vs ≤ 0)
    last (ended t i e f k) = let P : List ℤ → Type 0 = λ ws. TurnsOf bs h (Some x) ws × (length ws ≤ 0) in subst P (sym k) (no_turn x t i e f, omega arith)
    last (went t i e f k) = cc
given_turns (suc n) bs h (Some x) vs g =
    some (λ ws k. given_turns n bs h (next_value bs h x.number) ws k) (by_int bs h x (λ v. after v (turns_from n bs h (next_value bs h v))) vs (is_int x.number) refl g)
  where
    with_front : (t : Valued) → is_int x.number ≡ true → test_value bs h x.number ≡ Some t → is_true t.number ≡ true
        → ((ws : List ℤ) → turns_from n bs h (next_value bs h x.number) ≡ these ws → TurnsOf bs h (next_value bs h x.number) ws × (length ws ≤ n))
        → Front x.number (turns_from n bs h (next_value bs h x.number)) vs → TurnsOf bs h (Some x) vs × (length vs ≤ suc n)
    with_front t i e f rec (front ws k m) =
        let r = rec ws k in
        let P : List ℤ → Type 0 = λ us. TurnsOf bs h (Some x) us × (length us ≤ suc n) in
        subst P (sym m) (one_turn x t i e f r.0, omega (arith, r.1))

    some : ((ws : List ℤ) → turns_from n bs h (next_value bs h x.number) ≡ these ws → TurnsOf bs h (next_value bs h x.number) ws × (length ws ≤ n))
        → Stepped bs h x (after x.number (turns_from n bs h (next_value bs h x.number))) vs → TurnsOf bs h (Some x) vs × (length vs ≤ suc n)
    some rec (ended t i e f k) = let P : List ℤ → Type 0 = λ ws. TurnsOf bs h (Some x) ws × (length ws ≤ suc n) in subst P (sym k) (no_turn x t i e f, omega arith)
    some rec (went t i e f k) = with_front t i e f rec (front_of x.number _ vs k)

-- ---- the head breaks a rule
broken_of : Turns → Broken
broken_of (these vs) = bound
broken_of (breaks b) = b

same_breaks : (b c : Broken) → breaks b ≡ breaks c → b ≡ c
unfolding broken_of
same_breaks b c e = ap broken_of e

no_int_is : (bs : List Binding) (h : Head) (x : Valued) (f : ℤ → Turns) → is_int x.number ≡ false → on_value (Some x) f ≡ breaks bound
no_int_is bs h x f i = rw i refl

no_test_is : (bs : List Binding) (h : Head) (x : Valued) (rest : ℤ → Turns) → is_int x.number ≡ true → test_value bs h x.number ≡ None
    → on_value (Some x) (λ v. on_test (test_value bs h v) (rest v)) ≡ breaks bound
no_test_is bs h x rest i e = rw (i, e) refl

pub bound_all : (left : ℕ) (bs : List Binding) (h : Head) (n : ℕ) (x : Option Valued) → n ≤ left → BreaksAfter bs h n x → turns_from left bs h x ≡ breaks bound
unfolding turns_from
bound_all zero bs h _ _ l no_value = refl
bound_all (suc k) bs h _ _ l no_value = refl
bound_all zero bs h _ _ l (no_int x i) = no_int_is bs h x (λ v. on_test (test_value bs h v) (breaks turns)) i
bound_all (suc k) bs h _ _ l (no_int x i) = no_int_is bs h x (λ v. on_test (test_value bs h v) (after v (turns_from k bs h (next_value bs h v)))) i
bound_all zero bs h _ _ l (no_test x i e) = no_test_is bs h x (λ v. breaks turns) i e
bound_all (suc k) bs h _ _ l (no_test x i e) = no_test_is bs h x (λ v. after v (turns_from k bs h (next_value bs h v))) i e
bound_all zero bs h _ _ l (one_later {n = n} x t i e f r) = absurd (omega arith)
bound_all (suc k) bs h _ _ l (one_later {n = n} x t i e f r) =
    go bs h x t (λ v. after v (turns_from k bs h (next_value bs h v))) i e f ∙ ap (after x.number) (bound_all k bs h n (next_value bs h x.number) (omega arith) r)

pub more_all : (left : ℕ) (bs : List Binding) (h : Head) (x : Option Valued) → GoesOn bs h (suc left) x → turns_from left bs h x ≡ breaks turns
unfolding turns_from
more_all zero bs h _ (goes_one x t i e f r) = go bs h x t (λ v. breaks turns) i e f
more_all (suc k) bs h _ (goes_one x t i e f r) =
    go bs h x t (λ v. after v (turns_from k bs h (next_value bs h v))) i e f ∙ ap (after x.number) (more_all k bs h (next_value bs h x.number) r)

-- what a step that breaks was: the head at once, or what is behind a turn
data Broke (bs : List Binding) (h : Head) (x : Valued) (rest : Turns) (b : Broken) : Type 0 where
  at_once : b ≡ bound → BreaksAfter bs h 0 (Some x) → Broke bs h x rest b
  behind : (t : Valued) → is_int x.number ≡ true → test_value bs h x.number ≡ Some t → is_true t.number ≡ true → rest ≡ breaks b → Broke bs h x rest b

broke_truth : (bs : List Binding) (h : Head) (x t : Valued) (rest : Turns) (b : Broken) (c : Bool) → is_int x.number ≡ true → test_value bs h x.number ≡ Some t → is_true t.number ≡ c
    → cond c rest (these []) ≡ breaks b → Broke bs h x rest b
broke_truth bs h x t rest b true i e f g = behind t i e f g
broke_truth bs h x t rest b false i e f g = cc

broke_test : (bs : List Binding) (h : Head) (x : Valued) (rest : Turns) (b : Broken) (o : Option Valued) → is_int x.number ≡ true → test_value bs h x.number ≡ o → on_test o rest ≡ breaks b → Broke bs h x rest b
broke_test bs h x rest b None i e g = at_once (sym (same_breaks bound b g)) (no_test x i e)
broke_test bs h x rest b (Some t) i e g = broke_truth bs h x t rest b (is_true t.number) i e refl g

broke_int : (bs : List Binding) (h : Head) (x : Valued) (rest : ℤ → Turns) (b : Broken) (c : Bool) → is_int x.number ≡ c
    → cond c (on_test (test_value bs h x.number) (rest x.number)) (breaks bound) ≡ breaks b → Broke bs h x (rest x.number) b
broke_int bs h x rest b true i g = broke_test bs h x (rest x.number) b (test_value bs h x.number) i refl g
broke_int bs h x rest b false i g = at_once (sym (same_breaks bound b g)) (no_int x i)

after_breaks : (v : ℤ) (t : Turns) (b : Broken) → after v t ≡ breaks b → t ≡ breaks b
after_breaks v (these ws) b e = cc
after_breaks v (breaks c) b e = e

bound_is_not_turns : bound ≡ turns → ⊥
bound_is_not_turns e = cc

pub bound_given : (left : ℕ) (bs : List Binding) (h : Head) (x : Option Valued) → turns_from left bs h x ≡ breaks bound → (n : ℕ) × (n ≤ left) × BreaksAfter bs h n x
unfolding turns_from
bound_given zero bs h None g = (0, omega arith, no_value)
bound_given (suc k) bs h None g = (0, omega arith, no_value)
bound_given zero bs h (Some x) g = elim (broke_int bs h x (λ v. breaks turns) bound (is_int x.number) refl g) [
  | at_once e b ↦ (0, omega arith, b)
  | behind t i e f r ↦ absurd (bound_is_not_turns (sym (same_breaks turns bound r)))
]
bound_given (suc k) bs h (Some x) g =
    by_step (λ r. bound_given k bs h (next_value bs h x.number) r) (broke_int bs h x (λ v. after v (turns_from k bs h (next_value bs h v))) bound (is_int x.number) refl g)
  where
    by_step : (turns_from k bs h (next_value bs h x.number) ≡ breaks bound → (n : ℕ) × (n ≤ k) × BreaksAfter bs h n (next_value bs h x.number))
        → Broke bs h x (after x.number (turns_from k bs h (next_value bs h x.number))) bound → (n : ℕ) × (n ≤ suc k) × BreaksAfter bs h n (Some x)
    by_step rec (at_once e b) = (0, omega arith, b)
    by_step rec (behind t i e f r) = let found = rec (after_breaks x.number _ bound r) in (suc found.0, omega (arith, found.1), one_later x t i e f found.2)

pub more_given : (left : ℕ) (bs : List Binding) (h : Head) (x : Option Valued) → turns_from left bs h x ≡ breaks turns → GoesOn bs h (suc left) x
unfolding turns_from
more_given zero bs h None g = absurd (bound_is_not_turns (same_breaks bound turns g))
more_given (suc k) bs h None g = absurd (bound_is_not_turns (same_breaks bound turns g))
more_given zero bs h (Some x) g = elim (broke_int bs h x (λ v. breaks turns) turns (is_int x.number) refl g) [
  | at_once e b ↦ absurd (bound_is_not_turns (sym e))
  | behind t i e f r ↦ goes_one x t i e f goes
]
more_given (suc k) bs h (Some x) g =
    by_step (λ r. more_given k bs h (next_value bs h x.number) r) (broke_int bs h x (λ v. after v (turns_from k bs h (next_value bs h v))) turns (is_int x.number) refl g)
  where
    by_step : (turns_from k bs h (next_value bs h x.number) ≡ breaks turns → GoesOn bs h (suc k) (next_value bs h x.number))
        → Broke bs h x (after x.number (turns_from k bs h (next_value bs h x.number))) turns → GoesOn bs h (suc (suc k)) (Some x)
    by_step rec (at_once e b) = absurd (bound_is_not_turns (sym e))
    by_step rec (behind t i e f r) = goes_one x t i e f (rec (after_breaks x.number _ turns r))

pub turns_law : TurnsLaw
turns_law left bs h x = (
  λ vs. record { given = given_turns left bs h x vs; all = all_turns left bs h x vs; more = more_turns left bs h x vs },
  record {
    bound_given = bound_given left bs h x;
    bound_all = λ n l b. bound_all left bs h n x l b;
    more_given = more_given left bs h x;
    more_all = more_all left bs h x;
  },
)
