-- What is read and stored stands in the statement.
use Rattle.std.proofs.Common.{◌≡◌, refl, ℕ, zero, suc, ◌+◌, ◌≤◌, arith, ℤ, List, [], ◌∷◌, ◌++◌, length, map, set, Option, Some, None, Bool, true, false, cond, length-append}
use Rattle.ix_bits.specs.declared.number.Ty.{Ty}
use Rattle.ix_bits.specs.Operators.{is_true}
use Rattle.ix_mean.specs.Core.{Expression, x_const, x_slot, x_read, x_load, x_one, x_cast, x_entry, x_two, x_choose, Statement, st_skip, st_then, st_set, st_write, st_if}
use Rattle.ix_mean.specs.Meaning.{Inputs, number, Write, Numbers, run, Access, accesses, reads}
use Rattle.ix_mean.specs.Effects.{no_write}
use Rattle.ix_behaviour.specs.Behaviours.{loads_in, stores_at, accesses_in}
use Rattle.ix_behaviour.specs.Laws.{stores}

all_loads : (i : Inputs) (s : List ℤ) (e : Expression) → length (accesses i s e) ≡ loads_in e
all_loads i s (x_const ty raw) = refl
all_loads i s (x_slot n ty) = refl
all_loads i s (x_read kind ty) = refl
all_loads i s (x_load ty a) =
    let one : Access = record { ty = ty; at = number i s a } in
    let h = all_loads i s a in
    let g = length-append (accesses i s a) (one ∷ []) in
    omega (arith, h, g)
all_loads i s (x_one kind ty a) = all_loads i s a
all_loads i s (x_cast ty a) = all_loads i s a
all_loads i s (x_entry n es ty a) = all_loads i s a
all_loads i s (x_two op ty a b) = let g = length-append (accesses i s a) (accesses i s b) in omega (arith, g, all_loads i s a, all_loads i s b)
all_loads i s (x_choose ty c a b) =
    let g = length-append (accesses i s c) (accesses i s a) in
    let h = length-append (accesses i s c ++ accesses i s a) (accesses i s b) in
    omega (arith, g, h, all_loads i s c, all_loads i s a, all_loads i s b)

stored_more : (ts : List (Option Write)) (k : ℕ) (w : Write) → stores (set ts k (Some w)) ≤ stores_at k + stores ts
stored_more [] k w = omega arith
stored_more (t ∷ ts) zero w = omega arith
stored_more (None ∷ ts) (suc k) w = omega arith
stored_more (Some t ∷ ts) (suc k) w = omega arith

either_done : (b : Bool) (xs ys : List Access) (s t : Numbers) (k m n : ℕ) → length xs + stores s.targets ≤ m + k → length ys + stores t.targets ≤ n + k
    → length (cond b xs ys) + stores (cond b s t).targets ≤ m + n + k
either_done true xs ys s t k m n h g = omega (arith, h)
either_done false xs ys s t k m n h g = omega (arith, g)

pub all_done : (i : Inputs) (x : Statement) (s : Numbers) → length (reads i x s) + stores (run i x s).targets ≤ accesses_in x + stores s.targets
all_done i st_skip s = omega arith
all_done i (st_then x y) s =
    let g = length-append (reads i x s) (reads i y (run i x s)) in
    let h = all_done i x s in
    let k = all_done i y (run i x s) in
    omega (arith, g, h, k)
all_done i (st_set k ty e) s = let h = all_loads i s.slots e in omega (arith, h)
all_done i (st_write k ty e a) s =
    let g = length-append (accesses i s.slots a) (accesses i s.slots e) in
    let h = all_loads i s.slots e in
    let j = all_loads i s.slots a in
    let m = stored_more s.targets k (record { value = number i s.slots e; address = number i s.slots a }) in
    omega (arith, g, h, j, m)
all_done i (st_if c x y) s =
    let b = is_true (number i s.slots c) in
    let g = length-append (accesses i s.slots c) (cond b (reads i x s) (reads i y s)) in
    let h = all_loads i s.slots c in
    let e = either_done b (reads i x s) (reads i y s) (run i x s) (run i y s) (stores s.targets) (accesses_in x) (accesses_in y) (all_done i x s) (all_done i y s) in
    omega (arith, g, h, e)

pub none_at_first : (ts : List Ty) → stores (map no_write ts) ≡ 0
none_at_first [] = refl
none_at_first (ty ∷ ts) = refl
