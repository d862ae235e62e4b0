-- What is left at the ends of a path, and how much moves along it.
use Rattle.std.proofs.Common.{◌≡◌, ℕ, ℤ, pos, negsuc, ◌+ℤ◌, ◌-ℤ◌, ◌≤◌, ◌<◌, cond, Bool, true, false, min, List, [], ◌∷◌, get_or, refl, ap, arith, FitsSigned, w64, to_z, of_z}
use Rattle.std.specs.Prelude.{All}
use Rattle.std.proofs.lemmas.Int.{ints}
use Rattle.std.proofs.lemmas.List.Elements.{All-head, All-tail, All-cons}
use Rattle.ix_residual.specs.Residuals.{Step, need_of, spare_of, room}

-- an amount that an end has
pub need_fits : (x : ℤ) (d : ℕ) → FitsSigned w64 x → d ≤ need_of x → d < 9223372036854775808
need_fits (pos n) d f h = omega (arith, ints, f)
need_fits (negsuc n) d f h = omega arith

pub less_needed : (x : ℤ) (d : ℕ) → FitsSigned w64 x → d ≤ need_of x → FitsSigned w64 (x -ℤ pos d)
less_needed (pos n) d f h = omega (arith, ints, f)
less_needed (negsuc n) d f h = omega (arith, ints, f)

pub less_spared : (x : ℤ) (d : ℕ) → FitsSigned w64 x → d ≤ spare_of x → FitsSigned w64 (x +ℤ pos d)
less_spared (pos n) d f h = omega (arith, ints, f)
less_spared (negsuc n) d f h = omega (arith, ints, f)

-- room is at most what it begins with
pub room_most : (amounts : List ℕ) (most : ℕ) (steps : List Step) → room amounts most steps ≤ most
room_most amounts most [] = omega arith
room_most amounts most (s ∷ rest) =
    at s.1 most (get_or amounts s.0 0) (room amounts (cond s.1 most (min most (get_or amounts s.0 0))) rest) (room_most amounts (cond s.1 most (min most (get_or amounts s.0 0))) rest)
  where
    at : (c : Bool) (x y r : ℕ) → r ≤ cond c x (min x y) → r ≤ x
    at true x y r h = h
    at false x y r h = omega arith

room_first : (amounts : List ℕ) (most : ℕ) (s : Step) (rest : List Step) → s.1 ≡ false → room amounts most (s ∷ rest) ≤ get_or amounts s.0 0
room_first amounts most s rest e =
    let le = room_most amounts (cond s.1 most (min most (get_or amounts s.0 0))) rest in
    let is : cond s.1 most (min most (get_or amounts s.0 0)) ≡ min most (get_or amounts s.0 0) = ap (λ c. cond c most (min most (get_or amounts s.0 0))) e in
    omega arith

-- .. and at most each amount that falls
pub room_each : (amounts : List ℕ) (most : ℕ) (steps : List Step) → All (λ s. s.1 ≡ false → room amounts most steps ≤ get_or amounts s.0 0) steps
room_each amounts most [] = λ k d b e. absurd (omega arith)
room_each amounts most (s ∷ rest) = All-cons (λ t. t.1 ≡ false → room amounts most (s ∷ rest) ≤ get_or amounts t.0 0) s rest
    (room_first amounts most s rest)
    (room_each amounts (cond s.1 most (min most (get_or amounts s.0 0))) rest)

-- .. and above 0 where all these are
pub room_some : (amounts : List ℕ) (most : ℕ) (steps : List Step) → 0 < most → All (λ s. s.1 ≡ false → 0 < get_or amounts s.0 0) steps → 0 < room amounts most steps
room_some amounts most [] pos_most h = pos_most
room_some amounts most (s ∷ rest) pos_most h =
    room_some amounts (cond s.1 most (min most (get_or amounts s.0 0))) rest
    (at s.1 (get_or amounts s.0 0) (All-head (λ t. t.1 ≡ false → 0 < get_or amounts t.0 0) s rest h))
    (All-tail (λ t. t.1 ≡ false → 0 < get_or amounts t.0 0) s rest h)
  where
    at : (c : Bool) (y : ℕ) → (c ≡ false → 0 < y) → 0 < cond c most (min most y)
    at true y f = pos_most
    at false y f = let q = f refl in omega arith

-- what code makes of the ends
pub back_more : (x : ℤ) (d : ℕ) → FitsSigned w64 x → d ≤ spare_of x → d < 9223372036854775808 →
    FitsSigned w64 (to_z w64 (of_z w64 x) +ℤ to_z w64 d) × (to_z w64 (of_z w64 (to_z w64 (of_z w64 x) +ℤ to_z w64 d)) ≡ x +ℤ pos d)
back_more (pos n) d f h b = (omega (arith, ints, f), omega (arith, ints, f))
back_more (negsuc n) d f h b = (omega (arith, ints, f), omega (arith, ints, f))

pub back_less : (x : ℤ) (d : ℕ) → FitsSigned w64 x → d ≤ need_of x →
    FitsSigned w64 (to_z w64 (of_z w64 x) -ℤ to_z w64 d) × (to_z w64 (of_z w64 (to_z w64 (of_z w64 x) -ℤ to_z w64 d)) ≡ x -ℤ pos d)
back_less (pos n) d f h = (omega (arith, ints, f), omega (arith, ints, f))
back_less (negsuc n) d f h = (omega (arith, ints, f), omega (arith, ints, f))
