-- A mark of a row lowers the places above its serial, where that was not flushed before.
use Rattle.std.proofs.Common.{◌≡◌, ◌∙◌, refl, sym, ap, ℕ, zero, suc, ◌+◌, ◌≤◌, List, [], ◌∷◌, Option, Some, None, Bool, true, false, arith, inl, inr}
use Rattle.std.specs.Prelude.{◌&&◌, ◌||◌, not, if◌then◌else◌, ◌==◌, nat_lt}
use Rattle.std.proofs.lemmas.Bool.{cases_lt}
use Rattle.rv_trace.specs.declared.row.Row.{Row}
use Rattle.rv_trace.specs.Trace.{has_serial, is_flushed, place}
use Rattle.rv_trace.specs.RowParts.{given, AscendFrom}
use Rattle.rv_watch.specs.Places.{lowering}
use Rattle.rv_watch.proofs.SeenTests.{number_same, number_below, number_above, below, not_below, false_or}

abbrev bit : Bool → ℕ
bit b = if b then 1 else 0

-- ---- marks that ascend

not_later : (l : List (Option ℕ)) (t s : ℕ) → AscendFrom (Some t) (given l) → s ≤ t → has_serial l s ≡ false
not_later [] t s h le = refl
not_later (None ∷ rest) t s h le = not_later rest t s h le
not_later (Some j ∷ rest) t s h le =
    let lt = h.0 in
    false_or (j == s) (has_serial rest s) (number_above j s (omega (arith, lt, le))) (not_later rest j s h.1 (omega (arith, lt, le)))

ascends : (o : Option ℕ) (j : ℕ) (l : List ℕ) → AscendFrom o (j ∷ l) → AscendFrom (Some j) l
ascends None j l h = h
ascends (Some t) j l h = h.1

-- ---- one serial more

lower_more : (f g : Bool) (h : Bool) (m n : ℕ) → m ≡ n + bit (h && not g) → (if not f then suc m else m) ≡ (if not f then suc n else n) + bit (h && not g)
lower_more true g h m n e = e
lower_more false g h m n e = omega (arith, e)

lower_same : (g : Bool) (m n : ℕ) → m ≡ n → (if not g then suc m else m) ≡ n + bit (not g)
lower_same true m n e = omega (arith, e)
lower_same false m n e = omega (arith, e)

module _ (before : ℕ → Bool) where
  -- the tests of one mark
  tests : (j s : ℕ) (rest : List (Option ℕ)) (a b q h : Bool) → nat_lt j (suc s) ≡ a → nat_lt j s ≡ b → (j == s) ≡ q → has_serial rest s ≡ h
      → (if a && not (before j) then suc (lowering before rest (suc s)) else lowering before rest (suc s))
      ≡ (if b && not (before j) then suc (lowering before rest s) else lowering before rest s) + bit ((q || h) && not (before s))
      → lowering before (Some j ∷ rest) (suc s) ≡ lowering before (Some j ∷ rest) s + bit (has_serial (Some j ∷ rest) s && not (before s))
  tests j s rest a b q h ea eb eq eh goal =
      ap (λ x. if x && not (before j) then suc (lowering before rest (suc s)) else lowering before rest (suc s)) ea
      ∙ goal
      ∙ ap (λ x. (if x && not (before j) then suc (lowering before rest s) else lowering before rest s) + bit ((q || h) && not (before s))) (sym eb)
      ∙ ap (λ x. lowering before (Some j ∷ rest) s + bit ((x || h) && not (before s))) (sym eq)
      ∙ ap (λ x. lowering before (Some j ∷ rest) s + bit (((j == s) || x) && not (before s))) (sym eh)

  one : (j s : ℕ) (rest : List (Option ℕ)) → AscendFrom (Some j) (given rest) → lowering before rest (suc s) ≡ lowering before rest s + bit (has_serial rest s && not (before s))
      → lowering before (Some j ∷ rest) (suc s) ≡ lowering before (Some j ∷ rest) s + bit (has_serial (Some j ∷ rest) s && not (before s))
  one j s rest h ih = elim (cases_lt j s) [
    | inl lt ↦ tests j s rest true true false (has_serial rest s) (below j (suc s) (omega (arith, lt))) (below j s lt) (number_below j s lt) refl
        (lower_more (before j) (before s) (has_serial rest s) (lowering before rest (suc s)) (lowering before rest s) ih)
    | inr le ↦ elim (cases_lt s j) [
      | inl lt ↦ tests j s rest false false false (has_serial rest s) (not_below j (suc s) (omega (arith, lt))) (not_below j s (omega (arith, lt))) (number_above j s lt) refl ih
      | inr ge ↦ same (omega (arith, le, ge))
    ]
  ] where
    same : j ≡ s → lowering before (Some j ∷ rest) (suc s) ≡ lowering before (Some j ∷ rest) s + bit (has_serial (Some j ∷ rest) s && not (before s))
    same e =
        let none : has_serial rest s ≡ false = not_later rest j s h (omega (arith, e)) in
        let rest_same : lowering before rest (suc s) ≡ lowering before rest s + 0 = ih ∙ ap (λ x. lowering before rest s + bit (x && not (before s))) none in
        tests j s rest true false true false (below j (suc s) (omega (arith, e))) (not_below j s (omega (arith, e))) (number_same j s e) none
        (ap (λ n. if not (before n) then suc (lowering before rest (suc s)) else lowering before rest (suc s)) e
        ∙ lower_same (before s) (lowering before rest (suc s)) (lowering before rest s) (omega (arith, rest_same)))

  pub lowering_more : (l : List (Option ℕ)) (o : Option ℕ) (s : ℕ) → AscendFrom o (given l) → lowering before l (suc s) ≡ lowering before l s + bit (has_serial l s && not (before s))
  lowering_more [] o s h = refl
  lowering_more (None ∷ rest) o s h = lowering_more rest o s h
  lowering_more (Some j ∷ rest) o s h = let up = ascends o j (given rest) h in one j s rest up (lowering_more rest (Some j) s up)

  pub lowering_first : (l : List (Option ℕ)) → lowering before l 0 ≡ 0
  lowering_first [] = refl
  lowering_first (None ∷ rest) = lowering_first rest
  lowering_first (Some j ∷ rest) = ap (λ x. if x && not (before j) then suc (lowering before rest 0) else lowering before rest 0) (not_below j 0 (omega arith)) ∙ lowering_first rest

-- with tests that say the same
pub lowering_same : (f g : ℕ → Bool) → ((j : ℕ) → f j ≡ g j) → (l : List (Option ℕ)) (s : ℕ) → lowering f l s ≡ lowering g l s
lowering_same f g e [] s = refl
lowering_same f g e (None ∷ rest) s = lowering_same f g e rest s
lowering_same f g e (Some j ∷ rest) s =
    ap (λ x. if nat_lt j s && not x then suc (lowering f rest s) else lowering f rest s) (e j)
    ∙ ap (λ n. if nat_lt j s && not (g j) then suc n else n) (lowering_same f g e rest s)

-- ---- places

place_more : (rows : List Row) (s : ℕ) → place rows (suc s) ≡ (if is_flushed rows s then place rows s else suc (place rows s))
unfolding place
place_more rows s = refl

place_first : (rows : List Row) → place rows 0 ≡ 0
unfolding place
place_first rows = refl

flushed_more : (row : Row) (rows : List Row) (s : ℕ) → is_flushed (row ∷ rows) s ≡ (has_serial row.flushed s || is_flushed rows s)
unfolding is_flushed
flushed_more row rows s = refl

lowered_step : (h f : Bool) (p q n : ℕ) → p ≡ q + n → (if f then p else suc p) ≡ (if h || f then q else suc q) + (n + bit (h && not f))
lowered_step true true p q n e = omega (arith, e)
lowered_step true false p q n e = omega (arith, e)
lowered_step false true p q n e = omega (arith, e)
lowered_step false false p q n e = omega (arith, e)

-- the place before a row is that behind it, and one more for each mark below that is new
pub lowered : (row : Row) (earlier : List Row) (s : ℕ) → AscendFrom None (given row.flushed) → place earlier s ≡ place (row ∷ earlier) s + lowering (is_flushed earlier) row.flushed s
lowered row earlier zero h = let a = place_first earlier in let b = place_first (row ∷ earlier) in let c = lowering_first (is_flushed earlier) row.flushed in omega (arith, a, b, c)
lowered row earlier (suc s) h =
    place_more earlier s
    ∙ lowered_step (has_serial row.flushed s) (is_flushed earlier s) (place earlier s) (place (row ∷ earlier) s) (lowering (is_flushed earlier) row.flushed s) (lowered row earlier s h)
    ∙ ap (λ x. (if x then place (row ∷ earlier) s else suc (place (row ∷ earlier) s)) + (lowering (is_flushed earlier) row.flushed s + bit (has_serial row.flushed s && not (is_flushed earlier s)))) (sym (flushed_more row earlier s))
    ∙ ap (λ n. n + (lowering (is_flushed earlier) row.flushed s + bit (has_serial row.flushed s && not (is_flushed earlier s)))) (sym (place_more (row ∷ earlier) s))
    ∙ ap (λ n. place (row ∷ earlier) (suc s) + n) (sym (lowering_more (is_flushed earlier) row.flushed None s h))
