-- Lists of names of which no two are one.
use Rattle.std.proofs.Common.{◌≡◌, ◌≢◌, sym, subst, refl, ◌∙◌, ℕ, List, [], ◌∷◌, ◌++◌, Bool, true, false, ◌||◌, nat_eq, arith}
use Rattle.std.specs.Prelude.{All, AllPairs}
use Rattle.std.proofs.lemmas.Bool.{true≢false}
use Rattle.std.proofs.lemmas.Bool.Decides.{nat_tests}
use Rattle.std.proofs.lemmas.List.Elements.{All-nil, All-cons}
use Rattle.std.proofs.lemmas.List.Kept.{AllPairs-cons}
use Rattle.ix_tree.specs.Lexing.{same_bytes}
use Rattle.ix_typing.specs.Names.{is_listed}

abbrev pub Name : Type 0
Name = List ℕ

-- ---- each element of a list
abbrev pub Each : {A : Type 0} → (A → Type 0) → List A → Type 0
Each P [] = Unit {0}
Each P (x ∷ xs) = P x × Each P xs

pub each_join : {A : Type 0} (P : A → Type 0) (xs ys : List A) → Each P xs → Each P ys → Each P (xs ++ ys)
each_join P [] ys a b = b
each_join P (x ∷ xs) ys a b = (a.0, each_join P xs ys a.1 b)

pub each_weaker : {A : Type 0} (P Q : A → Type 0) → ((x : A) → P x → Q x) → (xs : List A) → Each P xs → Each Q xs
each_weaker P Q f [] h = tt
each_weaker P Q f (x ∷ xs) h = (f x h.0, each_weaker P Q f xs h.1)

each_all : {A : Type 0} (P : A → Type 0) (xs : List A) → Each P xs → All P xs
each_all P [] a = All-nil P
each_all P (x ∷ xs) a = All-cons P x xs a.0 (each_all P xs a.1)

-- ---- names that differ
abbrev pub Differs : Name → List Name → Type 0
Differs n ns = Each (λ m. n ≢ m) ns

abbrev pub AreApart : List Name → Type 0
AreApart [] = Unit {0}
AreApart (n ∷ ns) = Differs n ns × AreApart ns

-- each of the first list differs from each of the second
abbrev pub AreAway : List Name → List Name → Type 0
AreAway ms ns = Each (λ m. Differs m ns) ms

pub away_empty : (ms : List Name) → AreAway ms []
away_empty [] = tt
away_empty (m ∷ ms) = (tt, away_empty ms)

away_more : (ms ns : List Name) (n : Name) → Each (λ m. m ≢ n) ms → AreAway ms ns → AreAway ms (n ∷ ns)
away_more [] ns n h a = tt
away_more (m ∷ ms) ns n h a = ((h.0, a.0), away_more ms ns n h.1 a.1)

pub away_by : (ms ns : List Name) → Each (λ n. Each (λ m. m ≢ n) ms) ns → AreAway ms ns
away_by ms [] h = away_empty ms
away_by ms (n ∷ ns) h = away_more ms ns n h.0 (away_by ms ns h.1)

turned : (n : Name) (ms : List Name) → Each (λ m. m ≢ n) ms → Differs n ms
turned n [] h = tt
turned n (m ∷ ms) h = ((λ e. h.0 (sym e)), turned n ms h.1)

pub away_turned : (ms ns : List Name) → Each (λ n. Each (λ m. m ≢ n) ms) ns → AreAway ns ms
away_turned ms [] h = tt
away_turned ms (n ∷ ns) h = (turned n ms h.0, away_turned ms ns h.1)

pub apart_join : (ms ns : List Name) → AreApart ms → AreApart ns → AreAway ms ns → AreApart (ms ++ ns)
apart_join [] ns a b c = b
apart_join (m ∷ ms) ns a b c = (each_join (λ n. m ≢ n) ms ns a.0 c.0, apart_join ms ns a.1 b c.1)

pub apart_pairs : (ns : List Name) → AreApart ns → AllPairs (λ m n. m ≢ n) ns
apart_pairs [] h = λ i j d lt within. absurd (omega (arith, within))
apart_pairs (n ∷ ns) h = AllPairs-cons (λ m k. m ≢ k) n ns (each_all (λ m. n ≢ m) ns h.0) (apart_pairs ns h.1)

-- ---- names that are listed
same_self : (n : Name) → same_bytes n n ≡ true
same_self [] = refl
same_self (x ∷ n) = let h = same_self n in let e : nat_eq x x ≡ true = grind (arith, nat_tests) in rw (e, h) refl

unlike : (m n : Name) → same_bytes m n ≡ false → m ≢ n
unlike m n h e = true≢false (sym (same_self m) ∙ (subst (λ k. same_bytes m k ≡ false) (sym e) h))

or_none : (a b : Bool) → (a || b) ≡ false → (a ≡ false) × (b ≡ false)
or_none true b e = absurd (true≢false e)
or_none false b e = (refl, e)

-- what is not listed in two lists is not in the first, and differs from each of the second
pub not_listed : (seen ns : List Name) (n : Name) → is_listed (seen ++ ns) n ≡ false → (is_listed seen n ≡ false) × Each (λ m. m ≢ n) ns
not_listed [] [] n e = (refl, tt)
not_listed [] (m ∷ ns) n e =
    let p = or_none (same_bytes m n) (is_listed ns n) e in
    (refl, (unlike m n p.0, (not_listed [] ns n p.1).1))
not_listed (s ∷ seen) ns n e =
    let p = or_none (same_bytes s n) (is_listed (seen ++ ns) n) e in
    let q = not_listed seen ns n p.1 in
    ((rw (p.0, q.0) refl), q.1)
