-- Cells of both harts, stage by stage.
use Rattle.std.proofs.Common.{◌≡◌, ◌∙◌, refl, sym, ap, ℕ, zero, suc, ◌+◌, ◌-◌, ◌<◌, List, [], ◌∷◌, ◌++◌, get_or, length, Option, None, arith}
use Rattle.std.specs.Prelude.{replicate}
use Rattle.std.proofs.Math.ListN.{set}
use Rattle.ix_eval.specs.Tables.{table}

-- one place more of a table
more_places : {A : Type 0} (f : ℕ → A) (d : A) (n m : ℕ) → set (table f n ++ replicate (suc m) d) n (f n) ≡ table f (suc n) ++ replicate m d
more_places f d zero m = refl
more_places {A} f d (suc n) m = ap (λ (l : List A). f 0 ∷ l) (more_places (λ r. f (suc r)) d n m)

pub more_table : {A : Type 0} (f : ℕ → A) (d : A) (n most : ℕ) → n < most → set (table f n ++ replicate (most - n) d) n (f n) ≡ table f (n + 1) ++ replicate (most - (n + 1)) d
more_table f d n most lt =
    let one : most - n ≡ suc (most - (n + 1)) = omega (arith, lt) in
    let two : n + 1 ≡ suc n = omega arith in
    ap (λ j. set (table f n ++ replicate j d) n (f n)) one
    ∙ more_places f d n (most - (n + 1))
    ∙ ap (λ j. table f j ++ replicate (most - (n + 1)) d) (sym two)

pub all_table : {A : Type 0} (f : ℕ → A) (d : A) (n most : ℕ) → n ≡ most → table f n ++ replicate (most - n) d ≡ table f most
all_table {A} f d n most e =
    let none : most - n ≡ 0 = omega (arith, e) in
    ap (λ j. table f n ++ replicate j d) none ∙ nothing (table f n) ∙ ap (table f) e where
      nothing : (l : List A) → l ++ replicate 0 d ≡ l
      nothing [] = refl
      nothing (a ∷ l) = ap (λ (r : List A). a ∷ r) (nothing l)

pub got_in : {A : Type 0} (l : List (Option A)) (n : ℕ) (s : Option A) → n < length l → s ≡ get_or l n s → get_or l n None ≡ s
got_in [] n s lt e = absurd (omega (arith, lt))
got_in (t ∷ l) zero s lt e = sym e
got_in (t ∷ l) (suc n) s lt e = got_in l n s (omega (arith, lt)) e
