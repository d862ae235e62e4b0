-- The first of so many that there is, one number after another.
use Rattle.std.proofs.Common.{◌≡◌, ℕ, suc, ◌+◌, ◌-◌, ◌<◌, ◌≤◌, Option, Some, None, true, false, refl, sym, ap, ◌∙◌, arith}
use Rattle.std.specs.Prelude.{is_some}
use Rattle.std.specs.Option.{option_or}
use Rattle.rv_trace.specs.declared.row.Hold.{Hold}
use Rattle.rv_holdings.specs.Expected.{first_from, register_count, custom_count}

pub registers : register_count ≡ 48
unfolding register_count
registers = refl

pub customs : custom_count ≡ 16
unfolding custom_count
customs = refl

none_first : (a b : Option Hold) → false ≡ is_some a → option_or a b ≡ b
none_first None b h = refl
none_first (Some x) b h = cc

some_first : (a b : Option Hold) → true ≡ is_some a → option_or a b ≡ a
some_first None b h = cc
some_first (Some x) b h = refl

one_more : (f : ℕ → Option Hold) (n top : ℕ) → n < top → first_from f n (top - n) ≡ option_or (f n) (first_from f (n + 1) (top - (n + 1)))
one_more f n top lt =
    let e : top - n ≡ suc (top - (n + 1)) = omega (arith, lt) in
    let up : suc n ≡ n + 1 = omega arith in
    ap (λ c. first_from f n c) e ∙ ap (λ j. option_or (f n) (first_from f j (top - (n + 1)))) up

-- it is this one
pub found_here : (f : ℕ → Option Hold) (n top : ℕ) (h : Option Hold) → n < top → h ≡ f n → true ≡ is_some h → first_from f n (top - n) ≡ h
found_here f n top h lt e some = one_more f n top lt ∙ ap (λ x. option_or x (first_from f (n + 1) (top - (n + 1)))) (sym e) ∙ some_first h (first_from f (n + 1) (top - (n + 1))) some

-- it is a later one
pub found_later : (f : ℕ → Option Hold) (n top : ℕ) (h : Option Hold) → n < top → h ≡ f n → false ≡ is_some h → first_from f n (top - n) ≡ first_from f (n + 1) (top - (n + 1))
found_later f n top h lt e none = one_more f n top lt ∙ ap (λ x. option_or x (first_from f (n + 1) (top - (n + 1)))) (sym e) ∙ none_first h (first_from f (n + 1) (top - (n + 1))) none

-- there is none
pub found_none : (f : ℕ → Option Hold) (n top : ℕ) → top ≤ n → first_from f n (top - n) ≡ None
found_none f n top le = let e : top - n ≡ 0 = omega (arith, le) in ap (λ c. first_from f n c) e
