-- The first of so many that there is, one number after another.
use Rattle.std.proofs.Common.{◌≡◌, ℕ, zero, suc, ◌+◌, ◌-◌, ◌<◌, ◌≤◌, Option, Some, None, refl, sym, ap, ◌∙◌, arith}
use Rattle.rv_holds.specs.Tokens.{or_else}
use Rattle.rv_holds.specs.Holds.{register_count, numbered, least_from}

pub count_is : register_count ≡ 48
unfolding register_count
count_is = refl

one_more : (f : ℕ → Option ℕ) (n top : ℕ) → n < top → least_from f n (top - n) ≡ or_else (numbered n (f n)) (least_from f (n + 1) (top - (n + 1)))
one_more f n top lt =
    let e : top - n ≡ suc (top - (n + 1)) = omega (arith, lt) in
    let up : suc n ≡ n + 1 = omega arith in
    ap (λ c. least_from f n c) e ∙ ap (λ j. or_else (numbered n (f n)) (least_from f j (top - (n + 1)))) up

-- it is this one
pub least_here : (f : ℕ → Option ℕ) (n top j : ℕ) (found : Option ℕ) → n < top → found ≡ f n → found ≡ Some j → least_from f n (top - n) ≡ Some (n, j)
least_here f n top j found lt e some = one_more f n top lt ∙ ap (λ o. or_else (numbered n o) (least_from f (n + 1) (top - (n + 1)))) (sym e ∙ some)

-- it is a later one
pub least_later : (f : ℕ → Option ℕ) (n top : ℕ) (found : Option ℕ) → n < top → found ≡ f n → found ≡ None → least_from f n (top - n) ≡ least_from f (n + 1) (top - (n + 1))
least_later f n top found lt e none = one_more f n top lt ∙ ap (λ o. or_else (numbered n o) (least_from f (n + 1) (top - (n + 1)))) (sym e ∙ none)

-- there is none
pub least_none : (f : ℕ → Option ℕ) (n top : ℕ) → top ≤ n → least_from f n (top - n) ≡ None
least_none f n top le = let e : top - n ≡ 0 = omega (arith, le) in ap (λ c. least_from f n c) e

-- there is none where there is none of any number
pub least_of_none : (f : ℕ → Option ℕ) (n count : ℕ) → ((k : ℕ) → f k ≡ None) → least_from f n count ≡ None
least_of_none f n zero none = refl
least_of_none f n (suc count) none = ap (λ o. or_else (numbered n o) (least_from f (suc n) count)) (none n) ∙ least_of_none f (suc n) count none
