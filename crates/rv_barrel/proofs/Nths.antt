-- The element at a place of lists one behind the other.
use Rattle.std.proofs.Common.{◌≡◌, ◌∙◌, sym, ap, refl, ℕ, zero, suc, ◌+◌, ◌-◌, ◌≤◌, List, [], ◌∷◌, ◌++◌, length, map, take, drop, get_or, Some, None, arith}
use Rattle.std.specs.Prelude.{slice_get}
use Rattle.std.proofs.lemmas.List.{take_all, length-map, length-append}
use Rattle.ix_plan.specs.declared.design.Target.{Target}
use Rattle.rv_asks.specs.declared.asks.Asks.{Asks}
use Rattle.rv_harts.specs.Harts.{Fetched}
use Rattle.rv_lawful.specs.Outstanding.{targets_of}
use Rattle.rv_lawful.specs.Settings.{Setting}
use Rattle.rv_barrel.specs.declared.cell.Owed.{Owed}
use Rattle.rv_barrel.specs.Barrels.{targets_owed}
use Rattle.rv_barrel.specs.Cells.{AreOwed}
use Rattle.rv_barrel.specs.Owing.{listed}

-- past the first of two lists, and in the first
past_first : {A : Type 0} (xs ys : List A) (k rest : ℕ) → k ≡ length xs + rest → slice_get (xs ++ ys) k ≡ slice_get ys rest
past_first [] ys k rest e = ap (λ n. slice_get ys n) (omega (arith, e))
past_first (x ∷ xs) ys zero rest e = absurd (omega (arith, e))
past_first (x ∷ xs) ys (suc k) rest e = past_first xs ys k rest (omega (arith, e))

in_first : {A : Type 0} (xs ys : List A) (k : ℕ) (x : A) → slice_get xs k ≡ Some x → slice_get (xs ++ ys) k ≡ Some x
in_first [] ys k x h = cc
in_first (y ∷ xs) ys zero x h = h
in_first (y ∷ xs) ys (suc k) x h = in_first xs ys k x h

nth_map : {A B : Type 0} (f : A → B) (xs : List A) (k : ℕ) (x : A) → slice_get xs k ≡ Some x → slice_get (map f xs) k ≡ Some (f x)
nth_map f [] k x h = cc
nth_map f (y ∷ xs) zero x h = let e : y ≡ x = cc in ap (λ z. Some (f z)) e
nth_map f (y ∷ xs) (suc k) x h = nth_map f xs k x h

past_end : {A : Type 0} (xs : List A) (k rest : ℕ) → k ≡ length xs + rest → slice_get xs k ≡ None
past_end [] zero rest e = refl
past_end [] (suc k) rest e = refl
past_end (x ∷ xs) zero rest e = absurd (omega (arith, e))
past_end (x ∷ xs) (suc k) rest e = past_end xs k rest (omega (arith, e))

abbrev mapped : Owed → List (ℕ × Target)
mapped o = map (λ (t : Target). (o.serial, t)) (targets_of o.asks)

-- the one in the oldest
pub nth_oldest : (owed : List Owed) (oldest : Owed) (k : ℕ) (t : Target) → 1 ≤ length owed → oldest ≡ get_or owed 0 oldest → slice_get (targets_of oldest.asks) k ≡ Some t → slice_get (listed owed) k ≡ Some (oldest.serial, t)
nth_oldest [] oldest k t l is h = absurd (omega (arith, l))
nth_oldest (o ∷ newer) oldest k t l is h =
    ap (λ (z : Owed). slice_get (mapped z ++ listed newer) k) (sym is)
    ∙ in_first (mapped oldest) (listed newer) k (oldest.serial, t) (nth_map (λ (u : Target). (oldest.serial, u)) (targets_of oldest.asks) k t h)

-- one behind it
rest_is : (o : Owed) (newer : List Owed) → take (suc (length newer) - 1) newer ≡ newer
rest_is o newer = take_all (suc (length newer) - 1) newer (omega arith)

pub nth_newer : (owed : List Owed) (oldest : Owed) (k past : ℕ) → 1 ≤ length owed → oldest ≡ get_or owed 0 oldest → k ≡ length (targets_of oldest.asks) + past → slice_get (listed owed) k ≡ slice_get (listed (take (length owed - 1) (drop 1 owed))) past
nth_newer [] oldest k past l is e = absurd (omega (arith, l))
nth_newer (o ∷ newer) oldest k past l is e =
    ap (λ (z : Owed). slice_get (mapped z ++ listed newer) k) (sym is)
    ∙ past_first (mapped oldest) (listed newer) k past (e ∙ sym (ap (λ (m : ℕ). m + past) (length-map (targets_of oldest.asks) (λ (u : Target). (oldest.serial, u)))))
    ∙ sym (ap (λ (w : List Owed). slice_get (listed w) past) (rest_is o newer))

pub long_newer : (owed : List Owed) (oldest : Owed) (k past rest : ℕ) → 1 ≤ length owed → oldest ≡ get_or owed 0 oldest → k ≡ length (targets_of oldest.asks) + past →
    past ≡ length (listed (take (length owed - 1) (drop 1 owed))) + rest → k ≡ length (listed owed) + rest
long_newer [] oldest k past rest l is e f = absurd (omega (arith, l))
long_newer (o ∷ newer) oldest k past rest l is e f =
    let a = ap (λ (w : List Owed). length (listed w)) (rest_is o newer) in
    let b = ap (λ (z : Owed). length (mapped z ++ listed newer)) is in
    let c = length-append (mapped oldest) (listed newer) in
    let named : Target → ℕ × Target = λ u. (oldest.serial, u) in
    let d = length-map (targets_of oldest.asks) named in
    omega (arith, a, b, c, d, e, f)

-- what is listed is what is outstanding
pub listed_is : (s : Setting) (owed : List Owed) (all : List Fetched) → AreOwed s owed all → listed owed ≡ targets_owed s all
listed_is s [] [] h = refl
listed_is s [] (c ∷ cs) h = absurd h
listed_is s (o ∷ os) [] h = absurd h
listed_is s (o ∷ os) (c ∷ cs) h =
    ap (λ (n : ℕ). map (λ (t : Target). (n, t)) (targets_of o.asks) ++ listed os) h.0.serial
    ∙ ap (λ (a : Asks). map (λ (t : Target). (c.serial, t)) (targets_of a) ++ listed os) h.0.asks
    ∙ ap (λ (l : List (ℕ × Target)). map (λ (t : Target). (c.serial, t)) (targets_of (s.asks c.word)) ++ l) (listed_is s os cs h.1)

pub none_past : (owed : List Owed) (k rest : ℕ) → k ≡ length (listed owed) + rest → slice_get (listed owed) k ≡ None
none_past owed k rest e = past_end (listed owed) k rest e
