-- The turns of a loop, one after another.
use Rattle.std.proofs.Common.{◌≡◌, ℕ, zero, suc, Bool, true, false, cond, Some, None, List, [], ◌∷◌, ◌++◌, ℤ, refl, ap}
use Rattle.ix_tree.specs.LoopHeads.{Binding, Valued, is_int}
use Rattle.ix_tree.specs.Unrolling.{Head, Turns, these, breaks, Broken, bound, turns, after, on_value, on_test, test_value, next_value, turns_from, unassigned}
use Rattle.ix_unroll.specs.Values.{in_int}

-- the turns with these values, and then more
abbrev pub all_after : List ℤ → Turns → Turns
all_after [] t = t
all_after (v ∷ vs) t = after v (all_after vs t)

pub after_more : (vs : List ℤ) (v : ℤ) (t : Turns) → all_after (vs ++ v ∷ []) t ≡ all_after vs (after v t)
after_more [] v t = refl
after_more (w ∷ vs) v t = ap (after w) (after_more vs v t)

pub after_broken : (vs : List ℤ) (b : Broken) → all_after vs (breaks b) ≡ breaks b
after_broken [] b = refl
after_broken (v ∷ vs) b = ap (after v) (after_broken vs b)

pub after_end : (vs : List ℤ) → all_after vs (these []) ≡ these vs
after_end [] = refl
after_end (v ∷ vs) = ap (after v) (after_end vs)

-- what a turn leads to where one more may come, and where none may
abbrev pub rest_of : ℕ → List Binding → Head → ℤ → Turns
rest_of n bs h v = after v (turns_from n bs h (next_value bs h v))

abbrev pub none_left : ℤ → Turns
none_left v = breaks turns

pub turns_more : (left n : ℕ) (bs : List Binding) (h : Head) (x : _) → left ≡ suc n → turns_from left bs h x ≡ on_value x (λ v. on_test (test_value bs h v) (rest_of n bs h v))
unfolding turns_from
turns_more left n bs h x e = rw e refl

pub turns_last : (left : ℕ) (bs : List Binding) (h : Head) (x : _) → left ≡ 0 → turns_from left bs h x ≡ on_value x (λ v. on_test (test_value bs h v) (none_left v))
unfolding turns_from
turns_last left bs h x e = rw e refl

-- ---- a start that is no number of the type `int`
no_int : (b : Bool) (n : ℤ) → None ≡ cond b (Some n) None → b ≡ false
no_int false n e = refl
no_int true n e = cc

pub turns_out : (left : ℕ) (bs : List Binding) (h : Head) (x : Valued) → None ≡ in_int x.number → turns_from left bs h (Some x) ≡ breaks bound
unfolding turns_from
turns_out zero bs h x e = rw (no_int (is_int x.number) x.number e) refl
turns_out (suc n) bs h x e = rw (no_int (is_int x.number) x.number e) refl

pub started_out : (known touched : Bool) (t : Turns) → t ≡ breaks bound → cond known (unassigned touched t) (breaks bound) ≡ breaks bound
started_out false touched t e = refl
started_out true touched t e = rw e refl
