-- Where at most one access of memory stands, all stores have one type.
use Rattle.std.proofs.Common.{◌≡◌, ap, refl, ℕ, ◌+◌, ◌≤◌, arith, Option, Some, None, Bool, true, false, cond, nat_eq}
use Rattle.ix_bits.specs.declared.number.Ty.{Ty}
use Rattle.ix_mean.specs.Core.{Statement, st_skip, st_then, st_set, st_write, st_if}
use Rattle.ix_behaviour.specs.Behaviours.{first_of, stored_in, or_byte, stored_type, loads_in, accesses_in}

-- each store has the type m
abbrev pub Stores : Ty → Statement → Type 0
Stores m st_skip = Unit {0}
Stores m (st_then x y) = Stores m x × Stores m y
Stores m (st_set k ty e) = Unit {0}
Stores m (st_write k ty e a) = k ≡ 0 → m ≡ ty
Stores m (st_if c x y) = Stores m x × Stores m y

-- what is stored is counted
store_counted : (x : Statement) (ty : Ty) → stored_in x ≡ Some ty → 1 ≤ accesses_in x
store_counted st_skip ty e = cc
store_counted (st_then x y) ty e = by (stored_in x) refl (λ t f. store_counted x t f) (λ t f. store_counted y t f) e
  where
    by : (o : Option Ty) → stored_in x ≡ o → ((t : Ty) → stored_in x ≡ Some t → 1 ≤ accesses_in x) → ((t : Ty) → stored_in y ≡ Some t → 1 ≤ accesses_in y) → first_of o (stored_in y) ≡ Some ty
        → 1 ≤ accesses_in x + accesses_in y
    by None f g h e = let l = h ty e in omega (arith, l)
    by (Some t) f g h e = let l = g t f in omega (arith, l)
store_counted (st_set k t v) ty e = cc
store_counted (st_write k t v a) ty e = by (nat_eq k 0) e
  where
    by : (b : Bool) → cond b (Some t) None ≡ Some ty → 1 ≤ cond b 1 0 + loads_in v + loads_in a
    by true e = omega arith
    by false e = cc
store_counted (st_if c x y) ty e = by (stored_in x) refl (λ t f. store_counted x t f) (λ t f. store_counted y t f) e
  where
    by : (o : Option Ty) → stored_in x ≡ o → ((t : Ty) → stored_in x ≡ Some t → 1 ≤ accesses_in x) → ((t : Ty) → stored_in y ≡ Some t → 1 ≤ accesses_in y) → first_of o (stored_in y) ≡ Some ty
        → 1 ≤ loads_in c + accesses_in x + accesses_in y
    by None f g h e = let l = h ty e in omega (arith, l)
    by (Some t) f g h e = let l = g t f in omega (arith, l)

-- the first of two is that of the first, or that of the second where the first has none
first_is : (o p : Option Ty) (m : Ty) → ((ty : Ty) → first_of o p ≡ Some ty → m ≡ ty) → (ty : Ty) → o ≡ Some ty → m ≡ ty
first_is None p m h ty e = cc
first_is (Some t) p m h ty e = h ty e

second_is : (o p : Option Ty) (m : Ty) → ((ty : Ty) → first_of o p ≡ Some ty → m ≡ ty) → ((t ty : Ty) → o ≡ Some t → p ≡ Some ty → ⊥) → (ty : Ty) → p ≡ Some ty → m ≡ ty
second_is None p m h n ty e = h ty e
second_is (Some t) p m h n ty e = absurd (n t ty refl e)

stores_are : (x : Statement) (m : Ty) → accesses_in x ≤ 1 → ((ty : Ty) → stored_in x ≡ Some ty → m ≡ ty) → Stores m x
stores_are st_skip m l h = tt
stores_are (st_then x y) m l h =
    let never : (t ty : Ty) → stored_in x ≡ Some t → stored_in y ≡ Some ty → ⊥ = λ t ty e f. omega (arith, l, store_counted x t e, store_counted y ty f) in
    (stores_are x m (omega (arith, l)) (first_is (stored_in x) (stored_in y) m h), stores_are y m (omega (arith, l)) (second_is (stored_in x) (stored_in y) m h never))
stores_are (st_set k ty e) m l h = tt
stores_are (st_write k ty e a) m l h = λ z. h ty (ap (λ (n : ℕ). cond (nat_eq n 0) (Some ty) None) z)
stores_are (st_if c x y) m l h =
    let never : (t ty : Ty) → stored_in x ≡ Some t → stored_in y ≡ Some ty → ⊥ = λ t ty e f. omega (arith, l, store_counted x t e, store_counted y ty f) in
    (stores_are x m (omega (arith, l)) (first_is (stored_in x) (stored_in y) m h), stores_are y m (omega (arith, l)) (second_is (stored_in x) (stored_in y) m h never))

pub one_type : (x : Statement) → accesses_in x ≤ 1 → Stores (stored_type x) x
one_type x l = stores_are x (stored_type x) l (λ ty e. ap or_byte e)
