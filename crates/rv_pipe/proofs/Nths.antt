-- The element at a place of lists one behind the other.
use Rattle.std.proofs.Common.{◌≡◌, ◌∙◌, sym, ap, ℕ, zero, suc, ◌+◌, ◌-◌, ◌<◌, ◌≤◌, List, [], ◌∷◌, ◌++◌, length, map, take, drop, get_or, Some, None, Bool, true, arith}
use Rattle.std.specs.Prelude.{slice_get, if◌then◌else◌}
use Rattle.std.proofs.lemmas.List.{take_all}
use Rattle.ix_plan.specs.declared.design.Target.{Target}
use Rattle.rv_engine.specs.declared.owing.Owed.{Owed}
use Rattle.rv_lawful.specs.Outstanding.{targets_of}
use Rattle.rv_machine.specs.Owing.{targets_owed}

-- past the first of two lists
past_first : {A : Type 0} (xs ys : List A) (k rest : ℕ) → k ≡ length xs + rest → slice_get (xs ++ ys) k ≡ slice_get ys rest
past_first [] ys k rest e = ap (λ n. slice_get ys n) (omega (arith, e))
past_first (x ∷ xs) ys zero rest e = absurd (omega (arith, e))
past_first (x ∷ xs) ys (suc k) rest e = past_first xs ys k rest (omega (arith, e))

-- of a list that is mapped
pub nth_map : {A B : Type 0} (f : A → B) (xs : List A) (k : ℕ) (x : A) → slice_get xs k ≡ Some x → slice_get (map f xs) k ≡ Some (f x)
nth_map f [] k x h = cc
nth_map f (y ∷ xs) zero x h = let e : y ≡ x = cc in ap (λ z. Some (f z)) e
nth_map f (y ∷ xs) (suc k) x h = nth_map f xs k x h

-- the newest behind the others
pub nth_newest : (owed : List Owed) (newest : Owed) (k past : ℕ) (t : Target) → 1 ≤ length owed → newest ≡ get_or owed 0 newest → k ≡ length (targets_owed (take (length owed - 1) (drop 1 owed))) + past → slice_get (targets_of newest.asks) past ≡ Some t
    → slice_get (targets_owed owed) k ≡ Some (newest.serial, t)
nth_newest [] newest k past t l is e h = absurd (omega (arith, l))
nth_newest (o ∷ older) newest k past t l is e h =
    let same : o ≡ newest = sym is in
    let all : take (suc (length older) - 1) older ≡ older = take_all (suc (length older) - 1) older (omega arith) in
    past_first (targets_owed older) (map (λ (u : Target). (o.serial, u)) (targets_of o.asks)) k past (e ∙ ap (λ (l : List Owed). length (targets_owed l) + past) all)
    ∙ ap (λ (z : Owed). slice_get (map (λ (u : Target). (z.serial, u)) (targets_of z.asks)) past) same
    ∙ nth_map (λ (u : Target). (newest.serial, u)) (targets_of newest.asks) past t h

-- the first elements, one more of them
one_more : {A : Type 0} (xs : List A) (k : ℕ) (x : A) → slice_get xs k ≡ Some x → take k xs ++ x ∷ [] ≡ take (suc k) xs
one_more [] k x q = cc
one_more (y ∷ xs) zero x q = (let same : y ≡ x = cc in ap (λ z. z ∷ []) (sym same))
one_more (y ∷ xs) (suc k) x q = ap (λ l. y ∷ l) (one_more xs k x q)

-- so where one more was put behind them
pub taken_next : {A : Type 0} (xs items new : List A) (k : ℕ) (x : A) (ok : Bool) → ok ≡ true → new ≡ (if ok then items ++ x ∷ [] else items) → items ≡ take k xs → slice_get xs k ≡ Some x → new ≡ take (k + 1) xs
taken_next xs items new k x ok so is e h =
    let next : k + 1 ≡ suc k = omega arith in
    is ∙ ap (λ b. if b then items ++ x ∷ [] else items) so ∙ ap (λ l. l ++ x ∷ []) e ∙ one_more xs k x h ∙ ap (λ n. take n xs) (sym next)

-- they are all, where there is none at the next place
few_there : {A : Type 0} (xs : List A) (k : ℕ) → slice_get xs k ≡ None → length xs ≤ k
few_there [] k q = omega arith
few_there (y ∷ xs) zero q = cc
few_there (y ∷ xs) (suc k) q = let l = few_there xs k q in omega (arith, l)

pub taken_all : {A : Type 0} (xs items : List A) (k : ℕ) → items ≡ take k xs → slice_get xs k ≡ None → k < 48 → items ≡ take 48 xs
taken_all xs items k e h lt = let past = few_there xs k h in e ∙ take_all k xs past ∙ sym (take_all 48 xs (omega (arith, past, lt)))
