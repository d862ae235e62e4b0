-- What has retired is older than what stands above stage 0.
use Rattle.std.proofs.Common.{◌≡◌, ℕ, zero, suc, ◌+◌, ◌-◌, ◌<◌, ◌≤◌, List, [], ◌∷◌, drop, take, Option, Some, None, Bool, true, false, refl, sym, ap, ◌∙◌, subst, arith, inl, inr}
use Rattle.std.specs.Prelude.{◌||◌, if◌then◌else◌, is_some}
use Rattle.std.proofs.lemmas.Bool.{cases_lt}
use Rattle.rv_seq.specs.declared.commit.Commit.{Commit}
use Rattle.rv_trace.specs.declared.row.Cell.{Cell}
use Rattle.rv_trace.specs.declared.row.Row.{Row}
use Rattle.rv_trace.specs.Trace.{has_serial, is_flushed, retires, is_retired, place, retirements, newest}
use Rattle.rv_lawful.specs.Settings.{Setting, stages_of}
use Rattle.rv_lawful.specs.LawfulTrace.{new_cell, Lawful}
use Rattle.rv_rows.specs.Facts.{IsPlain, AreGoingOn, cells_in, above, RowFacts}
use Rattle.rv_rows.proofs.Moving.{above_of}
use Rattle.rv_holdings.proofs.Tests.{same_number}

place_step : (rows : List Row) (s : ℕ) → place rows (suc s) ≡ (if is_flushed rows s then place rows s else suc (place rows s))
unfolding place
place_step rows s = refl

if_low : (b : Bool) (n : ℕ) → n ≤ (if b then n else suc n)
if_low true n = omega arith
if_low false n = omega arith

-- places go up with serials
pub place_up : (rows : List Row) (a n : ℕ) → place rows a ≤ place rows (n + a)
place_up rows a zero = let z : a ≡ 0 + a = omega arith in subst (λ m. place rows a ≤ place rows m) z (omega arith)
place_up rows a (suc n) =
    let h = place_up rows a n in
    let e = place_step rows (n + a) in
    let l = if_low (is_flushed rows (n + a)) (place rows (n + a)) in
    let z : suc n + a ≡ suc (n + a) = omega arith in
    subst (λ m. place rows a ≤ place rows m) (sym z) (omega (arith, h, e, l))

-- what has the lower place has the lower serial
pub lower_serial : (rows : List Row) (a b : ℕ) → place rows a < place rows b → a < b
lower_serial rows a b lt = elim (cases_lt a b) [
  | inl less ↦ less
  | inr more ↦
      let z : (a - b) + b ≡ a = omega (arith, more) in
      let h : place rows b ≤ place rows a = subst (λ m. place rows b ≤ place rows m) z (place_up rows b (a - b)) in
      absurd (omega (arith, h, lt))
]

more_flushed : (row : Row) (rows : List Row) (s : ℕ) → is_flushed (row ∷ rows) s ≡ (has_serial row.flushed s || is_flushed rows s)
unfolding is_flushed
more_flushed row rows s = refl

-- one more row has no greater places
place_more : (row : Row) (rows : List Row) (s : ℕ) → place (row ∷ rows) s ≤ place rows s
unfolding place
place_more row rows zero = omega arith
place_more row rows (suc s) = by_case (has_serial row.flushed s) (is_flushed rows s) (is_flushed (row ∷ rows) s) (place (row ∷ rows) s) (place rows s) (more_flushed row rows s) (place_more row rows s) where
  by_case : (a b c : Bool) (m n : ℕ) → c ≡ (a || b) → m ≤ n → (if c then m else suc m) ≤ (if b then n else suc n)
  by_case true true c m n e le = subst (λ x. (if x then m else suc m) ≤ n) (sym e) le
  by_case true false c m n e le = subst (λ x. (if x then m else suc m) ≤ suc n) (sym e) (omega (arith, le))
  by_case false true c m n e le = subst (λ x. (if x then m else suc m) ≤ n) (sym e) le
  by_case false false c m n e le = subst (λ x. (if x then m else suc m) ≤ suc n) (sym e) (omega (arith, le))

retired_more : (row : Row) (rows : List Row) (j : ℕ) → is_retired (row ∷ rows) j ≡ (retires row.retired j || is_retired rows j)
unfolding is_retired
retired_more row rows j = refl

retirements_more : (row : Row) (rows : List Row) → retirements (row ∷ rows) ≡ (if is_some row.retired then suc (retirements rows) else retirements rows)
unfolding retirements
retirements_more row rows = refl

none_retired : (j : ℕ) → is_retired [] j ≡ true → ⊥
unfolding is_retired
none_retired j e = cc

if_high : (b : Bool) (n : ℕ) → n ≤ (if b then suc n else n)
if_high true n = omega arith
if_high false n = omega arith

drop_take : (n : ℕ) (xs : List (Option Cell)) → drop n (take n xs) ≡ []
drop_take zero [] = refl
drop_take zero (x ∷ xs) = refl
drop_take (suc n) [] = refl
drop_take (suc n) (x ∷ xs) = drop_take n xs

-- nothing stands above the last stage
none_above : (k : Setting) (row : Row) (stage : ℕ) → suc stage ≡ k.shape.stages → above k row stage ≡ 0
none_above k row stage e = ap (λ l. cells_in l) (ap (λ n. drop n (stages_of k row)) e ∙ drop_take k.shape.stages row.cells)

last_of : (n : ℕ) → 0 < n → (m : ℕ) × (suc m ≡ n)
last_of zero lt = absurd (omega (arith, lt))
last_of (suc m) lt = (m, refl)

-- the place of what has retired is below the count of retirements
pub past : (k : Setting) (rows : List Row) → IsPlain k → RowFacts → Lawful (λ places. k) rows → (j : ℕ) → is_retired rows j ≡ true → place rows j < retirements rows
past k [] plain facts l j e = absurd (none_retired j e)
past k (row ∷ rows) plain facts l j e = by_case (past k rows plain facts l.2 j) (retires row.retired j) refl (sym (retired_more row rows j) ∙ e) where
  count : retirements (row ∷ rows) ≡ (if is_some row.retired then suc (retirements rows) else retirements rows)
  count = retirements_more row rows

  le : place (row ∷ rows) j ≤ place rows j
  le = place_more row rows j

  going : AreGoingOn k rows
  going = record { lawful = l.2; going = l.1 }

  here : (o : Option (ℕ × Commit)) → row.retired ≡ o → retires o j ≡ true → place (row ∷ rows) j < retirements (row ∷ rows)
  here None q r = cc
  here (Some (s, commit)) q r =
      let b1 = plain.rd_pos in
      let b2 = plain.rd_ex in
      let b3 = plain.ex_mem in
      let b4 = plain.mem_last in
      let m = last_of k.shape.stages (omega (arith, b4)) in
      let x = (l.0.retires m.0 m.1).leaver s commit q in
      let facts' = facts.above k rows row plain going (above_of (newest rows) (new_cell k rows) (stages_of k (newest rows)) (stages_of k row) l.0.moves) in
      let top = m.1 in
      let placed = (facts'.in_place m.0 x.0 (omega (arith, b1, b2, b3, b4, top)) x.1).placed in
      let none = none_above k row m.0 m.1 in
      let same : place rows x.0.serial ≡ place rows j = ap (λ n. place rows n) (x.3 ∙ same_number s j r) in
      let more : retirements (row ∷ rows) ≡ suc (retirements rows) = count ∙ ap (λ (y : Option (ℕ × Commit)). if is_some y then suc (retirements rows) else retirements rows) q in
      let low = le in
      omega (arith, placed, none, same, more, low)

  before : place rows j < retirements rows → place (row ∷ rows) j < retirements (row ∷ rows)
  before h =
      let low = le in
      let c = count in
      let d = if_high (is_some row.retired) (retirements rows) in
      omega (arith, h, low, c, d)

  by_case : (is_retired rows j ≡ true → place rows j < retirements rows) → (b : Bool) → retires row.retired j ≡ b → (b || is_retired rows j) ≡ true → place (row ∷ rows) j < retirements (row ∷ rows)
  by_case ih true q r = here row.retired refl q
  by_case ih false q r = before (ih r)

pub unflushed_more : (row : Row) (rows : List Row) (s : ℕ) → has_serial row.flushed s ≡ false → is_flushed rows s ≡ false → is_flushed (row ∷ rows) s ≡ false
unflushed_more row rows s e f = more_flushed row rows s ∙ ap (λ b. b || is_flushed rows s) e ∙ f

pub unflushed_both : (row : Row) (rows : List Row) (s : ℕ) → is_flushed (row ∷ rows) s ≡ false → (has_serial row.flushed s ≡ false) × (is_flushed rows s ≡ false)
unflushed_both row rows s e = or_false (has_serial row.flushed s) (is_flushed rows s) (sym (more_flushed row rows s) ∙ e) where
  or_false : (a b : Bool) → (a || b) ≡ false → (a ≡ false) × (b ≡ false)
  or_false true b e = cc
  or_false false b e = (refl, e)

pub retired_both : (row : Row) (rows : List Row) (s : ℕ) → is_retired (row ∷ rows) s ≡ false → (retires row.retired s ≡ false) × (is_retired rows s ≡ false)
retired_both row rows s e = or_false (retires row.retired s) (is_retired rows s) (sym (retired_more row rows s) ∙ e) where
  or_false : (a b : Bool) → (a || b) ≡ false → (a ≡ false) × (b ≡ false)
  or_false true b e = cc
  or_false false b e = (refl, e)

pub unretired_more : (row : Row) (rows : List Row) (s : ℕ) → retires row.retired s ≡ false → is_retired rows s ≡ false → is_retired (row ∷ rows) s ≡ false
unretired_more row rows s e f = retired_more row rows s ∙ ap (λ b. b || is_retired rows s) e ∙ f
