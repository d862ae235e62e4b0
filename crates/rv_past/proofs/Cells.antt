-- Lists in five places, as they are filled.
use Rattle.std.proofs.Common.{◌≡◌, ◌∙◌, refl, sym, ap, subst, ℕ, zero, suc, ◌+◌, ◌-◌, ◌<◌, List, [], ◌∷◌, ◌++◌, map, take, length, get_or, Option, Some, None, arith}
use Rattle.std.specs.Prelude.{replicate}
use Rattle.std.proofs.Math.ListN.{set}
use Rattle.std.proofs.lemmas.List.{take_more}
use Rattle.rv_trace.specs.RowParts.{given, in_five}
use Rattle.rv_trace.proofs.Forms.{in_five_more, long_more, given_in_five}

-- one place more is filled
more_places : {A B : Type 0} (f : A → B) (d : B) (xs : List A) (n m : ℕ) (e : A) → n < length xs → set (map f (take n xs) ++ replicate (suc m) d) n (f (get_or xs n e)) ≡ map f (take (suc n) xs) ++ replicate m d
more_places f d [] n m e lt = absurd (omega (arith, lt))
more_places f d (x ∷ xs) zero m e lt = refl
more_places f d (x ∷ xs) (suc n) m e lt = ap (λ l. f x ∷ l) (more_places f d xs n m e (omega (arith, lt)))

pub more_cells : {A B : Type 0} (f : A → B) (d : B) (xs : List A) (n most : ℕ) (e : A) → n < length xs → n < most
    → set (map f (take n xs) ++ replicate (most - n) d) n (f (get_or xs n e)) ≡ map f (take (n + 1) xs) ++ replicate (most - (n + 1)) d
more_cells f d xs n most e lt less =
    let one : most - n ≡ suc (most - (n + 1)) = omega (arith, less) in
    let two : n + 1 ≡ suc n = omega arith in
    ap (λ j. set (map f (take n xs) ++ replicate j d) n (f (get_or xs n e))) one
    ∙ more_places f d xs n (most - (n + 1)) e lt
    ∙ ap (λ j. map f (take j xs) ++ replicate (most - (n + 1)) d) (sym two)

-- serials that are there, with one element more
given_push : (xs : List (Option ℕ)) (o : Option ℕ) → given (xs ++ o ∷ []) ≡ given xs ++ given (o ∷ [])
given_push [] None = refl
given_push [] (Some s) = refl
given_push (None ∷ xs) o = given_push xs o
given_push (Some t ∷ xs) o = ap (λ l. t ∷ l) (given_push xs o)

given_take : (xs : List (Option ℕ)) (i : ℕ) (o : Option ℕ) → i < length xs → get_or xs i None ≡ o → given (take (i + 1) xs) ≡ given (take i xs) ++ given (o ∷ [])
given_take xs i o lt e = ap given (take_more xs i None lt) ∙ given_push (take i xs) (get_or xs i None) ∙ ap (λ p. given (take i xs) ++ given (p ∷ [])) e

nothing_more : (l : List ℕ) → l ++ [] ≡ l
nothing_more [] = refl
nothing_more (x ∷ l) = ap (λ r. x ∷ r) (nothing_more l)

pub none_given : (xs : List (Option ℕ)) (i : ℕ) → i < length xs → get_or xs i None ≡ None → given (take (i + 1) xs) ≡ given (take i xs)
none_given xs i lt e = given_take xs i None lt e ∙ nothing_more (given (take i xs))

pub one_given : (xs : List (Option ℕ)) (i s : ℕ) → i < length xs → get_or xs i None ≡ Some s → given (take (i + 1) xs) ≡ given (take i xs) ++ s ∷ []
one_given xs i s lt e = given_take xs i (Some s) lt e

-- one serial more takes the next place
pub one_listed : (all xs : List (Option ℕ)) (i count s : ℕ) → i < length xs → get_or xs i None ≡ Some s → all ≡ in_five (given (take i xs)) → count ≡ length (given (take i xs)) → count < 5
    → set all count (Some s) ≡ in_five (given (take (i + 1) xs))
one_listed all xs i count s lt e done counted few =
    ap (λ (l : List (Option ℕ)). set l count (Some s)) done
    ∙ ap (λ m. set (in_five (given (take i xs))) m (Some s)) counted
    ∙ sym (in_five_more (given (take i xs)) s (subst (λ m. m < 5) counted few))
    ∙ ap in_five (sym (one_given xs i s lt e))

pub one_counted : (xs : List (Option ℕ)) (i count s : ℕ) → i < length xs → get_or xs i None ≡ Some s → count ≡ length (given (take i xs)) → count + 1 ≡ length (given (take (i + 1) xs))
one_counted xs i count s lt e counted =
    let more : count + 1 ≡ suc count = omega arith in
    more ∙ ap suc counted ∙ sym (long_more (given (take i xs)) s) ∙ ap (λ (l : List ℕ). length l) (sym (one_given xs i s lt e))

-- serials in the first places are listed there again
pub listed_again : (flushed : List (Option ℕ)) (l : List ℕ) → flushed ≡ in_five l → flushed ≡ in_five (given flushed)
listed_again flushed l e = e ∙ ap in_five (sym (given_in_five l)) ∙ ap (λ f. in_five (given f)) (sym e)
