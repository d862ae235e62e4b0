-- Modules one after another.
use Rattle.std.proofs.Common.{◌≡◌, ℕ, zero, suc, ◌+◌, ◌<◌, ◌≤◌, List, [], ◌∷◌, ◌++◌, length, take, drop, get_or, map, refl, ap, sym, ◌∙◌, subst, arith, inl, inr}
use Rattle.std.proofs.lemmas.List.{map-append}
use Rattle.ix_verilog.specs.declared.source.Source.{Source}
use Rattle.ix_verilog.specs.Words.{Word}
use Rattle.ix_vnets.specs.Names.{AreOnce, AllOnce, FirstTwice, IsFirstTwice, said, said_in}
use Rattle.ix_vnets.proofs.Seen.{once_both, twice_left, twice_right}

-- what holds of the rest of the modules, behind those of these names, holds of all
pub record Rests (before : List Word) (rest all : List Source) : Type 0 where
  pub once : AllOnce (said before rest) → AllOnce (said [] all)
  pub twice : (n : Word) → FirstTwice (said before rest) n → FirstTwice (said [] all) n

pub rests_start : (all : List Source) → Rests [] all all
rests_start all = record { once = λ h. h; twice = λ n h. h }

drop_at : {X : Type 0} (xs : List X) (i : ℕ) (x : X) → x ≡ get_or xs i x → i < length xs → drop i xs ≡ x ∷ drop (i + 1) xs
drop_at [] i x e l = absurd (omega (arith, l))
drop_at (y ∷ xs) zero x e l = ap (λ z. z ∷ xs) (sym e)
drop_at (y ∷ xs) (suc i) x e l = (let k : suc i + 1 ≡ suc (i + 1) = omega arith in drop_at xs i x e (omega (arith, l)) ∙ ap (λ j. x ∷ drop j (y ∷ xs)) (sym k))

take_at : {X : Type 0} (xs : List X) (i : ℕ) (x : X) → x ≡ get_or xs i x → i < length xs → take (i + 1) xs ≡ take i xs ++ x ∷ []
take_at [] i x e l = absurd (omega (arith, l))
take_at (y ∷ xs) zero x e l = ap (λ z. z ∷ []) (sym e)
take_at (y ∷ xs) (suc i) x e l = (let k : suc i + 1 ≡ suc (i + 1) = omega arith in ap (λ j. take j (y ∷ xs)) k ∙ ap (λ z. y ∷ z) (take_at xs i x e (omega (arith, l))))

abbrev pub names_of : List Source → List Word
names_of ss = map (λ (s : Source). s.name) ss

-- a module without a doubled name
pub rests_more : (all : List Source) (i : ℕ) (s : Source) → s ≡ get_or all i s → i < length all → AreOnce (names_of (take i all) ++ s.name ∷ []) → AllOnce (said_in s) → Rests (names_of (take i all)) (drop i all) all
    → Rests (names_of (take (i + 1) all)) (drop (i + 1) all) all
rests_more all i s e l o h r =
    let d = drop_at all i s e l in
    let t : names_of (take (i + 1) all) ≡ names_of (take i all) ++ s.name ∷ [] = ap names_of (take_at all i s e l) ∙ map-append (λ (x : Source). x.name) (take i all) (s ∷ []) in
    let b = names_of (take i all) in
    let q : Rests b (s ∷ drop (i + 1) all) all = subst (λ z. Rests b z all) d r in
    let k : Rests (b ++ s.name ∷ []) (drop (i + 1) all) all = record {
      once = λ a. q.once (o, once_both (said_in s) (said (b ++ s.name ∷ []) (drop (i + 1) all)) h a);
      twice = λ n a. q.twice n (inr (o, twice_right (said_in s) (said (b ++ s.name ∷ []) (drop (i + 1) all)) n h a));
    } in
    subst (λ z. Rests z (drop (i + 1) all) all) (sym t) k

-- a name of two modules
pub rests_named : (all : List Source) (i : ℕ) (s : Source) → s ≡ get_or all i s → i < length all → IsFirstTwice (names_of (take i all) ++ s.name ∷ []) s.name → Rests (names_of (take i all)) (drop i all) all → FirstTwice (said [] all) s.name
rests_named all i s e l t r = (let q = subst (λ z. Rests (names_of (take i all)) z all) (drop_at all i s e l) r in q.twice s.name (inl t))

-- a doubled name in a module
pub rests_twice : (all : List Source) (i : ℕ) (s : Source) (n : Word) → s ≡ get_or all i s → i < length all → AreOnce (names_of (take i all) ++ s.name ∷ []) → FirstTwice (said_in s) n → Rests (names_of (take i all)) (drop i all) all
    → FirstTwice (said [] all) n
rests_twice all i s n e l o t r =
    let b = names_of (take i all) in
    let q = subst (λ z. Rests b z all) (drop_at all i s e l) r in
    q.twice n (inr (o, twice_left (said_in s) (said (b ++ s.name ∷ []) (drop (i + 1) all)) n t))

pub rests_end : (all : List Source) (i : ℕ) → drop i all ≡ [] → Rests (names_of (take i all)) (drop i all) all → AllOnce (said [] all)
rests_end all i d r = (let q = subst (λ z. Rests (names_of (take i all)) z all) d r in q.once tt)

pub drop_past : {X : Type 0} (xs : List X) (i : ℕ) → length xs ≤ i → drop i xs ≡ []
drop_past [] zero l = refl
drop_past [] (suc i) l = refl
drop_past (x ∷ xs) zero l = absurd (omega (arith, l))
drop_past (x ∷ xs) (suc i) l = drop_past xs i (omega (arith, l))
