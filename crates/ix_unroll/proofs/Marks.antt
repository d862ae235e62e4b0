-- The first refusal of marks that are joined.
use Rattle.std.proofs.Common.{◌≡◌, ℕ, ◌+◌, List, [], ◌∷◌, ◌++◌, Bool, true, false, cond, Option, Some, None, refl, ap, sym, ◌∙◌, arith, nat_lt}
use Rattle.ix_tree.specs.Unrolling.{Mark, statement, fault, Refusal, bound_at, turns_at, assigned_at, size_at, first_refusal}
use Rattle.ix_unroll.specs.declared.error.UnrollErr.{UnrollErr}
use Rattle.ix_unroll.specs.declared.error.UnrollErr.TheVariants as E
use Rattle.ix_unroll.specs.Telling.{statements, Passes, Refuses}

pub chosen_none : (b : Bool) (x : Option Refusal) (r : Refusal) → cond b x (Some r) ≡ None → (b ≡ true) × (x ≡ None)
chosen_none true x r e = (refl, e)
chosen_none false x r e = cc

pub count_join : (xs ys : List Mark) → statements (xs ++ ys) ≡ statements xs + statements ys
count_join [] ys = omega arith
count_join (statement s ∷ xs) ys = let h = count_join xs ys in omega arith
count_join (fault b s ∷ xs) ys = count_join xs ys

-- what comes behind marks that pass is judged from their count on
first_behind : (n : ℕ) (xs ys : List Mark) → first_refusal n xs ≡ None → first_refusal n (xs ++ ys) ≡ first_refusal (n + statements xs) ys
first_behind n [] ys e = let k : n ≡ n + 0 = omega arith in ap (λ (m : ℕ). first_refusal m ys) k
first_behind n (statement s ∷ xs) ys e =
    let p = chosen_none (nat_lt n 16384) (first_refusal (n + 1) xs) (size_at s) e in
    let k : n + 1 + statements xs ≡ n + (statements xs + 1) = omega arith in
    rw p.0 (first_behind (n + 1) xs ys p.1 ∙ ap (λ (m : ℕ). first_refusal m ys) k)
first_behind n (fault b s ∷ xs) ys e = cc

by_test : (b : Bool) (x y z r : Option Refusal) → (x ≡ r → y ≡ r) → cond b x z ≡ r → cond b y z ≡ r
by_test true x y z r f e = f e
by_test false x y z r f e = e

first_front : (n : ℕ) (xs ys : List Mark) (r : Refusal) → first_refusal n xs ≡ Some r → first_refusal n (xs ++ ys) ≡ Some r
first_front n [] ys r e = cc
first_front n (statement s ∷ xs) ys r e = by_test (nat_lt n 16384) _ _ _ (Some r) (λ h. first_front (n + 1) xs ys r h) e
first_front n (fault b s ∷ xs) ys r e = e

pub passes_nothing : (n : ℕ) → Passes n [] n
passes_nothing n = record { none = refl; count = omega arith }

pub passes_join : {n m k : ℕ} {xs ys : List Mark} → Passes n xs m → Passes m ys k → Passes n (xs ++ ys) k
passes_join {n = n} {xs = xs} {ys = ys} p q =
    record {
      none = first_behind n xs ys p.none ∙ ap (λ (m : ℕ). first_refusal m ys) (sym p.count) ∙ q.none;
      count = omega (arith, p.count, q.count, count_join xs ys);
    }

pub refuses_front : (e : UnrollErr) (n : ℕ) (xs ys : List Mark) → Refuses e n xs → Refuses e n (xs ++ ys)
refuses_front E.Memory n xs ys h = tt
refuses_front (E.Bound s) n xs ys h = first_front n xs ys (bound_at s) h
refuses_front (E.Turns s) n xs ys h = first_front n xs ys (turns_at s) h
refuses_front (E.Assigned s) n xs ys h = first_front n xs ys (assigned_at s) h
refuses_front (E.Size s) n xs ys h = first_front n xs ys (size_at s) h

pub refuses_behind : (e : UnrollErr) (n m : ℕ) (xs ys : List Mark) → Passes n xs m → Refuses e m ys → Refuses e n (xs ++ ys)
refuses_behind e n m xs ys p h = by_error e h
  where
    behind : (r : Refusal) → first_refusal m ys ≡ Some r → first_refusal n (xs ++ ys) ≡ Some r
    behind r g = first_behind n xs ys p.none ∙ ap (λ (k : ℕ). first_refusal k ys) (sym p.count) ∙ g

    by_error : (e : UnrollErr) → Refuses e m ys → Refuses e n (xs ++ ys)
    by_error E.Memory h = tt
    by_error (E.Bound s) h = behind (bound_at s) h
    by_error (E.Turns s) h = behind (turns_at s) h
    by_error (E.Assigned s) h = behind (assigned_at s) h
    by_error (E.Size s) h = behind (size_at s) h
