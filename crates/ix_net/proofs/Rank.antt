-- A relation on the numbers below n has a rank that rises along each step, or a loop.
use Rattle.std.proofs.Common.{◌≡◌, ◌⊎◌, inl, inr, ⊎_elim, ℕ, ◌+◌, ◌*◌, ◌<◌, ◌≤◌, zero, suc, max, Bool, true, false, cond, ◌||◌, ◌&&◌, eqb, arith, refl, sym, ◌∙◌, ap}
use Rattle.std.proofs.lemmas.Bool.{cases_eq, cases_Bool, eq-eqb, ne_eqb, cond_both, or_cases, or_left, and_parts, and_from, false≢true}
use Rattle.ix_net.specs.Chain.{Chain, one, more}

-- steps of a test
abbrev pub Passes : (ℕ → ℕ → Bool) → ℕ → ℕ → Type 0
Passes e a b = e a b ≡ true

-- chains one after another
pub chain_join : {N : Type 0} {Step : N → N → Type 0} {x y z : N} → Chain Step x y → Chain Step y z → Chain Step x z
chain_join c (one s) = more c s
chain_join c (more d s) = more (chain_join c d) s

-- the relation with each way through n made one step
abbrev bypass : (ℕ → ℕ → Bool) → ℕ → ℕ → ℕ → Bool
bypass e n a b = e a b || (e a n && e n b)

step_back : (e : ℕ → ℕ → Bool) (n a b : ℕ) → bypass e n a b ≡ true → Chain (Passes e) a b
step_back e n a b h =
    ⊎_elim (λ (d : e a b ≡ true). one d)
    (λ (t : (e a n && e n b) ≡ true). let p = and_parts (e a n) (e n b) t in more (one p.0) p.1)
    (or_cases (e a b) (e a n && e n b) h)

chain_back : (e : ℕ → ℕ → Bool) (n a b : ℕ) → Chain (Passes (bypass e n)) a b → Chain (Passes e) a b
chain_back e n a b (one s) = step_back e n a b s
chain_back e n a b (more {y = y} c s) = chain_join (chain_back e n a y c) (step_back e n y b s)

-- past the ranks of the numbers below j that lead to n
abbrev past : (ℕ → ℕ → Bool) → (ℕ → ℕ) → ℕ → ℕ → ℕ
past e r n zero = 0
past e r n (suc j) = max (past e r n j) (cond (e j n) (suc (r j)) 0)

past-above : (e : ℕ → ℕ → Bool) (r : ℕ → ℕ) (n j a : ℕ) → a < j → e a n ≡ true → r a < past e r n j
past-above e r n zero a l h = absurd (omega arith)
past-above e r n (suc j) a l h =
    ⊎_elim
    (λ (same : a ≡ j). (let t : e j n ≡ true = ap (λ x. e x n) (sym same) ∙ h in let is : cond (e j n) (suc (r j)) 0 ≡ suc (r j) = ap (λ b. cond b (suc (r j)) 0) t in omega (arith, ap r same, is)))
    (λ (ne : a ≡ j → ⊥). (let less : a < j = omega arith in omega (arith, past-above e r n j a less h)))
    (cases_eq a j)

past-below : (e : ℕ → ℕ → Bool) (r : ℕ → ℕ) (n j x : ℕ) → ((a : ℕ) → a < j → e a n ≡ true → r a < x) → past e r n j ≤ x
past-below e r n zero x h = omega arith
past-below e r n (suc j) x h =
    let before = past-below e r n j x (λ a l t. h a (omega arith) t) in
    let here : cond (e j n) (suc (r j)) 0 ≤ x = cond_both (e j n) (suc (r j)) 0 (λ y. y ≤ x) (λ t. omega (arith, h j (omega arith) t)) (λ t. omega arith) in
    omega arith

-- a rank below n, made one below n + 1
abbrev extended : (ℕ → ℕ → Bool) → (ℕ → ℕ) → ℕ → ℕ → ℕ
extended e r n x = cond (eqb x n) (2 * past e r n n) (2 * r x + 1)

extended-at : (e : ℕ → ℕ → Bool) (r : ℕ → ℕ) (n x : ℕ) → x ≡ n → extended e r n x ≡ 2 * past e r n n
extended-at e r n x h = ap (λ b. cond b (2 * past e r n n) (2 * r x + 1)) (eq-eqb x n h)

extended-below : (e : ℕ → ℕ → Bool) (r : ℕ → ℕ) (n x : ℕ) → (x ≡ n → ⊥) → extended e r n x ≡ 2 * r x + 1
extended-below e r n x h = ap (λ b. cond b (2 * past e r n n) (2 * r x + 1)) (ne_eqb x n h)

pub record IsRank (n : ℕ) (e : ℕ → ℕ → Bool) : Type 0 where
  pub rank : ℕ → ℕ
  pub rises : (a b : ℕ) → a < n → b < n → e a b ≡ true → rank a < rank b

-- the rank of the relation without n, and no step from n to n
extend : (n : ℕ) (e : ℕ → ℕ → Bool) → e n n ≡ false → IsRank n (bypass e n) → IsRank (suc n) e
extend n e free h =
    record {
      rank = extended e h.rank n;
      rises = λ a b la lb s. ⊎_elim
          (λ (ea : a ≡ n). ⊎_elim
          (λ (eb : b ≡ n). absurd (false≢true (sym free ∙ ap (λ x. e n x) (sym eb) ∙ ap (λ x. e x b) (sym ea) ∙ s)))
          (λ (nb : b ≡ n → ⊥).
          (let s' : e n b ≡ true = ap (λ x. e x b) (sym ea) ∙ s in
          let below = past-below e h.rank n n (h.rank b) (λ c lc t. h.rises c b lc (omega arith) (or_right_from (e c b) (e c n && e n b) (and_from (e c n) (e n b) t s'))) in
          omega (arith, below, extended-at e h.rank n a ea, extended-below e h.rank n b nb)))
          (cases_eq b n))
          (λ (na : a ≡ n → ⊥). ⊎_elim
          (λ (eb : b ≡ n).
          (let s' : e a n ≡ true = ap (λ x. e a x) (sym eb) ∙ s in
          omega (arith, past-above e h.rank n n a (omega arith) s', extended-below e h.rank n a na, extended-at e h.rank n b eb)))
          (λ (nb : b ≡ n → ⊥).
          (let less = h.rises a b (omega arith) (omega arith) (or_left (e a b) (e a n && e n b) s) in
          omega (arith, less, extended-below e h.rank n a na, extended-below e h.rank n b nb)))
          (cases_eq b n))
          (cases_eq a n);
    }
  where
    or_right_from : (x y : Bool) → y ≡ true → (x || y) ≡ true
    or_right_from true y h = refl
    or_right_from false y h = h

pub rank_or_loop : (n : ℕ) (e : ℕ → ℕ → Bool) → IsRank n e ⊎ ((k : ℕ) × Chain (Passes e) k k)
rank_or_loop zero e = inl (record { rank = λ x. 0; rises = λ a b la lb s. absurd (omega arith) })
rank_or_loop (suc n) e =
    ⊎_elim
    (λ (t : e n n ≡ true). inr (n, one t))
    (λ (f : e n n ≡ false). ⊎_elim (λ (h : IsRank n (bypass e n)). inl (extend n e f h)) (λ (l : (k : ℕ) × Chain (Passes (bypass e n)) k k). inr (l.0, chain_back e n l.0 l.0 l.1)) (rank_or_loop n (bypass e n)))
    (cases_Bool (e n n))
