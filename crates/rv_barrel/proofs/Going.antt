-- Moves from the oldest stage down.
use Rattle.std.proofs.Common.{◌≡◌, ◌∙◌, refl, sym, ap, ℕ, zero, suc, ◌+◌, ◌-◌, ◌<◌, [], ◌∷◌, take, drop, length, get_or, List, ◌++◌, append_assoc, Option, None, arith}
use Rattle.std.specs.Prelude.{replicate}
use Rattle.ix_extension.specs.Extensions.{ExtensionTree}
use Rattle.rv_seq.specs.declared.arch.Arch.{Arch}
use Rattle.std.proofs.Math.ListN.{set}
use Rattle.std.proofs.lemmas.List.{at_drop_more, drop-set, take-set, get_or-take, take_more_set}
use Rattle.rv_barrel.specs.declared.cell.InFlight.{InFlight}
use Rattle.rv_barrel.specs.Cells.{Slots}
use Rattle.rv_barrel.specs.Moving.{going, advanced, put_first, with_step, tried_at}

-- one more stage is moved
pub advanced_more : (gone n : ℕ) (now old new : Slots) → 0 < n → n < length old → length now ≡ length old → take (n + 1) now ≡ take (n + 1) old → drop (n + 1) now ≡ advanced gone (n + 1) (going gone n (get_or old n None)) (drop (n + 1) old)
    → new ≡ set now n (going gone (n - 1) (get_or now (n - 1) None)) → drop n new ≡ advanced gone n (going gone (n - 1) (get_or old (n - 1) None)) (drop n old)
advanced_more gone n now old new least lt long front back e =
    let before : get_or now (n - 1) None ≡ get_or old (n - 1) None = sym (get_or-take (n + 1) now (n - 1) None (omega arith)) ∙ ap (λ (l : Slots). get_or l (n - 1) None) front ∙ get_or-take (n + 1) old (n - 1) None (omega arith) in
    let up : n + 1 ≡ suc n = omega arith in
    ap (λ (l : Slots). drop n l) e
    ∙ drop-set now n (going gone (n - 1) (get_or now (n - 1) None)) (omega (arith, lt, long))
    ∙ ap (λ (l : Slots). going gone (n - 1) (get_or now (n - 1) None) ∷ l) (back ∙ ap (λ (j : ℕ). advanced gone j (going gone n (get_or old n None)) (drop (n + 1) old)) up)
    ∙ ap (λ (u : Option InFlight). going gone (n - 1) u ∷ advanced gone (suc n) (going gone n (get_or old n None)) (drop (n + 1) old)) before
    ∙ sym (ap (λ (l : Slots). advanced gone n (going gone (n - 1) (get_or old (n - 1) None)) l) (at_drop_more (λ (l : Slots). l) old n None lt))

shorter : (n : ℕ) (l : Slots) → take n (take (n + 1) l) ≡ take n l
shorter zero l = refl
shorter (suc n) [] = nil (suc n + 1) where
  nil : (m : ℕ) → ◌≡◌ {A = Slots} (take (suc n) (take m [])) []
  nil zero = refl
  nil (suc m) = refl
shorter (suc n) (s ∷ l) = let up : suc n + 1 ≡ suc (n + 1) = omega arith in ap (λ (m : ℕ). take (suc n) (take m (s ∷ l))) up ∙ ap (λ (o : Slots). s ∷ o) (shorter n l)

fewer : (n : ℕ) (now old : Slots) → take (n + 1) now ≡ take (n + 1) old → take n now ≡ take n old
fewer n now old e = sym (shorter n now) ∙ ap (λ (l : Slots). take n l) e ∙ shorter n old

pub front_more : (n : ℕ) (now old new : Slots) (r : Option InFlight) → take (n + 1) now ≡ take (n + 1) old → new ≡ set now n r → take n new ≡ take n old
front_more n now old new r front e = ap (λ (l : Slots). take n l) e ∙ take-set now n r ∙ fewer n now old front

-- the first stage, behind all others
pub advanced_first : (gone : ℕ) (now old : Slots) → 0 < length old → length now ≡ length old → drop 1 now ≡ advanced gone 1 (going gone 0 (get_or old 0 None)) (drop 1 old) → set now 0 None ≡ advanced gone 0 None old
advanced_first gone now [] lt long back = absurd (omega (arith, lt))
advanced_first gone [] (s ∷ older) lt long back = absurd (omega (arith, long))
advanced_first gone (t ∷ behind) (s ∷ older) lt long back = ap (λ (l : Slots). None ∷ l) back

-- one more stage is free
pub none_more : (n m : ℕ) (xs : Slots) → n < m → length xs ≡ m → take n xs ++ replicate (m - n) None ≡ replicate m None → take (n + 1) (set xs n None) ++ replicate (m - (n + 1)) None ≡ replicate m None
none_more n m xs lt long e =
    let more : m - n ≡ suc (m - (n + 1)) = omega (arith, lt) in
    ap (λ (l : Slots). l ++ replicate (m - (n + 1)) None) (take_more_set xs n None (omega (arith, lt, long)))
    ∙ append_assoc (take n xs) (None ∷ []) (replicate (m - (n + 1)) None)
    ∙ ap (λ (j : ℕ). take n xs ++ replicate j None) (sym more)
    ∙ e

-- what is set in a stage
pub first_set : (s : Slots) (new : Option InFlight) → 0 < length s → set s 0 new ≡ put_first new s
first_set [] new lt = absurd (omega (arith, lt))
first_set (s ∷ older) new lt = refl

pub tried_set : (x : ExtensionTree) (image : List ℕ) (a : Arch) (n : ℕ) (s : Slots) (slot : Option InFlight) → n < length s → slot ≡ get_or s n slot → set s n (with_step x image a slot) ≡ tried_at x image a n s
tried_set x image a n [] slot lt e = absurd (omega (arith, lt))
tried_set x image a zero (s ∷ older) slot lt e = ap (λ (t : Option InFlight). with_step x image a t ∷ older) e
tried_set x image a (suc n) (s ∷ older) slot lt e = ap (λ (l : Slots). s ∷ l) (tried_set x image a n older slot (omega (arith, lt)) e)

pub put_long : (new : Option InFlight) (s : Slots) → length (put_first new s) ≡ length s
put_long new [] = refl
put_long new (s ∷ older) = refl

pub tried_long : (x : ExtensionTree) (image : List ℕ) (a : Arch) (n : ℕ) (s : Slots) → length (tried_at x image a n s) ≡ length s
tried_long x image a n [] = refl
tried_long x image a zero (s ∷ older) = refl
tried_long x image a (suc n) (s ∷ older) = ap suc (tried_long x image a n older)

-- inside a list the default says nothing
pub got_any : (l : Slots) (n : ℕ) (s t : Option InFlight) → n < length l → get_or l n s ≡ get_or l n t
got_any [] n s t lt = absurd (omega (arith, lt))
got_any (u ∷ l) zero s t lt = refl
got_any (u ∷ l) (suc n) s t lt = got_any l n s t (omega (arith, lt))
