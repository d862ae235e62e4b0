-- Addresses behind cells: where the older cell has settled its successor, the address behind it is the run's. What a row leaves of this, and how it moves.
use Rattle.std.proofs.Common.{◌≡◌, ℕ, zero, suc, ◌+◌, ◌<◌, ◌≤◌, List, [], ◌∷◌, drop, length, Option, Some, None, Bool, true, false, refl, sym, ap, ◌∙◌, subst, arith, inl, inr, ◌⊎◌}
use Rattle.std.specs.Prelude.{slice_get}
use Rattle.std.proofs.lemmas.Bool.{cases_lt}
use Rattle.rv_trace.specs.declared.row.Cell.{Cell}
use Rattle.rv_trace.specs.declared.row.Row.{Row}
use Rattle.rv_trace.specs.Trace.{has_serial}
use Rattle.rv_trace.specs.RowParts.{Name, name_of, names_of, stays, leaves, front, InStage, MovesInto}
use Rattle.rv_lawful.specs.Settings.{Setting}
use Rattle.rv_lawful.specs.LawfulTrace.{IsSettlingStage}
use Rattle.rv_rows.specs.Facts.{MoveAbove}
use Rattle.rv_rows.proofs.Coming.{Fate, gone, kept, left, fate, some_same}
use Rattle.rv_rows.proofs.Placed.{count, one, live, live_gone, live_more, out, moved_count}

-- an instruction that writes the pc late, or not, has settled its successor where it stands in this stage
abbrev pub HasSettled : Setting → Bool → ℕ → Type 0
HasSettled k false stage = k.shape.ex < stage
HasSettled k true stage = k.shape.stages ≤ stage

-- it settles as it leaves the stage below
pub settled_or_settles : (k : Setting) (late : Bool) (stage : ℕ) → stage < k.shape.stages → HasSettled k late (suc stage) → HasSettled k late stage ⊎ IsSettlingStage k late stage
settled_or_settles k false stage lt h = elim (cases_lt k.shape.ex stage) [ inl less ↦ inl less | inr more ↦ inr (omega (arith, h, more)) ]
settled_or_settles k true stage lt h = inr (omega (arith, h, lt))

-- behind the last stage each has
settled_last : (k : Setting) (late : Bool) → k.shape.ex < k.shape.stages → HasSettled k late k.shape.stages
settled_last k false lt = lt
settled_last k true lt = omega arith

-- this address stands behind the names of these stages, the first of which is this one: behind each that has settled stands the address of the run, and so it does behind none
abbrev pub AreRight : Setting → ℕ → ℕ → ℕ → List (Option Name) → Type 0
AreRight k r stage at [] = at ≡ k.course.pc r
AreRight k r stage at (None ∷ older) = AreRight k r (suc stage) at older
AreRight k r stage at (Some n ∷ older) = (HasSettled k (k.asks n.2).late stage → at ≡ k.course.pc (suc (r + count older))) × AreRight k r (suc stage) n.1 older

-- the stage in which a cell stands after the row
abbrev pub next_stage : ℕ → Option Name → ℕ
next_stage stage None = stage
next_stage stage (Some n) = suc stage

-- the same of what the row does not flush, as it stands after the row
abbrev pub AreRightAfter : Setting → ℕ → Row → ℕ → ℕ → List (Option Cell) → Type 0
AreRightAfter k r row stage at [] = at ≡ k.course.pc r
AreRightAfter k r row stage at (None ∷ older) = AreRightAfter k r row (suc stage) at older
AreRightAfter k r row stage at (Some c ∷ older) =
    (has_serial row.flushed c.serial ≡ true → AreRightAfter k r row (suc stage) at older)
    × (has_serial row.flushed c.serial ≡ false
    → (HasSettled k (k.asks c.word).late (next_stage stage (leaves row (Some c))) → at ≡ k.course.pc (suc (r + live row older))) × AreRightAfter k r row (suc stage) c.at older)

-- with what comes into the first of these stages
abbrev pub AreRightInto : Setting → ℕ → Row → ℕ → Option Name → ℕ → List (Option Cell) → Type 0
AreRightInto k r row stage None at cells = AreRightAfter k r row stage at cells
AreRightInto k r row stage (Some n) at cells = (HasSettled k (k.asks n.2).late stage → at ≡ k.course.pc (suc (r + live row cells))) × AreRightAfter k r row stage n.1 cells

-- ---- moves

put_right : (k : Setting) (r s stage : ℕ) (row : Row) (came now : Option Name) (at : ℕ) (cells : List (Option Cell)) (later : List (Option Name)) → now ≡ came → r + live row cells ≡ s + count later
    → ((at : ℕ) → AreRightAfter k r row stage at cells → AreRight k s (suc stage) at later) → AreRightInto k r row stage came at cells → AreRight k s stage at (now ∷ later)
put_right k r s stage row came now at cells later e n inner h = subst (λ o. AreRight k s stage at (o ∷ later)) (sym e) (by_case came h) where
  by_case : (came : Option Name) → AreRightInto k r row stage came at cells → AreRight k s stage at (came ∷ later)
  by_case None h = inner at h
  by_case (Some m) h = (λ x. h.0 x ∙ ap (λ z. k.course.pc (suc z)) n, inner m.1 h.1)

-- one stage
module _ (k : Setting) (r s stage : ℕ) (row : Row) (c : Cell) (before : List (Option Cell)) (later : List (Option Name))
    (rest : (at : ℕ) → AreRightInto k r row (suc stage) (leaves row (Some c)) at before → AreRight k s (suc stage) at later) where
  -- what does not stay
  pub inner_gone : has_serial row.flushed c.serial ≡ true → leaves row (Some c) ≡ None → (at : ℕ) → AreRightAfter k r row stage at (Some c ∷ before) → AreRight k s (suc stage) at later
  inner_gone g l at h = rest at (subst (λ o. AreRightInto k r row (suc stage) o at before) (sym l) (h.0 g))

  pub inner_left : has_serial row.flushed c.serial ≡ false → leaves row (Some c) ≡ name_of (Some c) → (at : ℕ) → AreRightAfter k r row stage at (Some c ∷ before) → AreRight k s (suc stage) at later
  inner_left g l at h = rest at (subst (λ o. AreRightInto k r row (suc stage) o at before) (sym l) (settles, (h.1 g).1)) where
    settles : HasSettled k (k.asks c.word).late (suc stage) → at ≡ k.course.pc (suc (r + live row before))
    settles x = (h.1 g).0 (subst (λ o. HasSettled k (k.asks c.word).late (next_stage stage o)) (sym l) x)

  -- what does
  pub inner_kept : has_serial row.flushed c.serial ≡ false → leaves row (Some c) ≡ None → (at : ℕ) → AreRightAfter k r row stage at (Some c ∷ before) → AreRight k s (suc stage) c.at later
  inner_kept g l at h = rest c.at (subst (λ o. AreRightInto k r row (suc stage) o c.at before) (sym l) (h.1 g).1)

  stage_right : (came now : Option Name) (at : ℕ) → InStage (stays row (Some c)) came now → s ≡ r + one (out row (leaves row (Some c)) before)
      → count later + one (out row (leaves row (Some c)) before) ≡ one (leaves row (Some c)) + live row before → AreRightInto k r row stage came at (Some c ∷ before) → AreRight k s stage at (now ∷ later)
  stage_right came now at i q n h = by_fate (fate row c) where
    held_in : (came : Option Name) → InStage (name_of (Some c)) came now → (now ≡ name_of (Some c)) × (came ≡ None)
    held_in None e = (e, refl)
    held_in (Some m) e = absurd e

    by_fate : Fate row c → AreRight k s stage at (now ∷ later)
    by_fate (gone g t l) =
        let d = live_gone row c before g in
        let x = ap one l in
        put_right k r s stage row came now at (Some c ∷ before) later (subst (λ o. InStage o came now) t i) (omega (arith, d, x, q, n)) (inner_gone g l) h
    by_fate (left g f t l) =
        let d = live_more row c before g in
        let x = ap one l in
        put_right k r s stage row came now at (Some c ∷ before) later (subst (λ o. InStage o came now) t i) (omega (arith, d, x, q, n)) (inner_left g l) h
    by_fate (kept g f t l) =
        let y = held_in came (subst (λ o. InStage o came now) t i) in
        let x = ap one l in
        let same : r + live row before ≡ s + count later = omega (arith, x, q, n) in
        let a : AreRightAfter k r row stage at (Some c ∷ before) = subst (λ o. AreRightInto k r row stage o at (Some c ∷ before)) y.1 h in
        subst (λ o. AreRight k s stage at (o ∷ later)) (sym y.0) (λ z. (a.1 g).0 (subst (λ o. HasSettled k (k.asks c.word).late (next_stage stage o)) (sym l) z) ∙ ap (λ w. k.course.pc (suc w)) same, inner_kept g l at a)

pub right_moved : (k : Setting) (r : ℕ) (row : Row) (stage : ℕ) (came : Option Name) (at : ℕ) (cells : List (Option Cell)) (names : List (Option Name)) → k.shape.ex < k.shape.stages → stage + length cells ≡ k.shape.stages
    → MovesInto row came cells names → AreRightInto k r row stage came at cells → AreRight k (r + one (out row came cells)) stage at names
right_moved k r row stage None at [] [] lt long m h = let z : r ≡ r + 0 = omega arith in h ∙ ap (k.course.pc) z
right_moved k r row stage (Some n) at [] [] lt long m h =
    let z : suc (r + 0) ≡ r + 1 = omega arith in
    let last : k.shape.stages ≡ stage = omega (arith, long) in
    h.0 (subst (λ j. HasSettled k (k.asks n.2).late j) last (settled_last k (k.asks n.2).late lt)) ∙ ap (k.course.pc) z
right_moved k r row stage came at [] (now ∷ later) lt long m h = absurd m
right_moved k r row stage came at (was ∷ before) [] lt long m h = absurd m
right_moved k r row stage came at (None ∷ before) (now ∷ later) lt long m h =
    let c = moved_count row None before later m.1 in
    put_right k r (r + one (out row None before)) stage row came now at (None ∷ before) later m.0 (omega (arith, c)) (λ a x. right_moved k r row (suc stage) None a before later lt (omega (arith, long)) m.1 x) h
right_moved k r row stage came at (Some c ∷ before) (now ∷ later) lt long m h =
    stage_right k r (r + one (out row (leaves row (Some c)) before)) stage row c before later (λ a x. right_moved k r row (suc stage) (leaves row (Some c)) a before later lt (omega (arith, long)) m.1 x) came now at m.0 refl
    (moved_count row (leaves row (Some c)) before later m.1) h

-- the address behind what stays in stage 0, or behind all
abbrev pub behind : Option Name → ℕ → ℕ
behind None at = at
behind (Some n) at = n.1

-- above stage 0
pub right_above : (k : Setting) (r : ℕ) (row : Row) (at : ℕ) (cells : List (Option Cell)) (names : List (Option Name)) → k.shape.ex < k.shape.stages → 0 < length cells → length cells ≡ k.shape.stages → MoveAbove row cells names
    → AreRightAfter k r row 0 at cells → AreRight k (r + one (out row None cells)) 1 (behind (stays row (front cells)) at) (drop 1 names)
right_above k r row at [] names lt some long m h = absurd (omega (arith, some))
right_above k r row at (was ∷ before) [] lt some long m h = absurd m
right_above k r row at (None ∷ before) (now ∷ later) lt some long m h = right_moved k r row 1 None at before later lt (omega (arith, long)) m h
right_above k r row at (Some c ∷ before) (now ∷ later) lt some long m h = by_fate (fate row c) (λ a x. right_moved k r row 1 (leaves row (Some c)) a before later lt (omega (arith, long)) m x) where
  by_fate : Fate row c → ((a : ℕ) → AreRightInto k r row 1 (leaves row (Some c)) a before → AreRight k (r + one (out row (leaves row (Some c)) before)) 1 a later)
      → AreRight k (r + one (out row (leaves row (Some c)) before)) 1 (behind (stays row (Some c)) at) later
  by_fate (gone g t l) rest =
      subst (λ o. AreRight k (r + one (out row (leaves row (Some c)) before)) 1 (behind o at) later) (sym t)
      (inner_gone k r (r + one (out row (leaves row (Some c)) before)) 0 row c before later rest g l at h)
  by_fate (left g f t l) rest =
      subst (λ o. AreRight k (r + one (out row (leaves row (Some c)) before)) 1 (behind o at) later) (sym t)
      (inner_left k r (r + one (out row (leaves row (Some c)) before)) 0 row c before later rest g l at h)
  by_fate (kept g f t l) rest =
      subst (λ o. AreRight k (r + one (out row (leaves row (Some c)) before)) 1 (behind o at) later) (sym t)
      (inner_kept k r (r + one (out row (leaves row (Some c)) before)) 0 row c before later rest g l at h)

-- ---- what is right

right_first : (k : Setting) (r stage at : ℕ) (l : List (Option Cell)) → k.shape.ex < stage → ((i : ℕ) (d : Cell) → slice_get l i ≡ Some (Some d) → (k.asks d.word).late ≡ false) → AreRight k r stage at (names_of l)
    → at ≡ k.course.pc (r + count (names_of l))
right_first k r stage at [] lt plain h = let z : r ≡ r + 0 = omega arith in h ∙ ap (k.course.pc) z
right_first k r stage at (None ∷ l) lt plain h = right_first k r (suc stage) at l (omega (arith, lt)) (λ i d e. plain (suc i) d e) h
right_first k r stage at (Some d ∷ l) lt plain h =
    let z : suc (r + count (names_of l)) ≡ r + suc (count (names_of l)) = omega arith in
    h.0 (subst (λ b. HasSettled k b stage) (sym (plain 0 d refl)) lt) ∙ ap (k.course.pc) z

-- a cell in EX or above with no late write of the pc above it has the address of the run
pub right_at : (k : Setting) (r stage at n : ℕ) (l : List (Option Cell)) (c : Cell) → slice_get l n ≡ Some (Some c) → k.shape.ex ≤ stage + n
    → ((i : ℕ) (d : Cell) → n < i → slice_get l i ≡ Some (Some d) → (k.asks d.word).late ≡ false) → AreRight k r stage at (names_of l) → c.at ≡ k.course.pc (r + count (names_of (drop (suc n) l)))
right_at k r stage at n [] c e le plain h = cc
right_at k r stage at zero (None ∷ l) c e le plain h = cc
right_at k r stage at zero (Some d ∷ l) c e le plain h =
    let same : d ≡ c = some_same d c (some_same (Some d) (Some c) e) in
    sym (ap (λ (x : Cell). x.at) same) ∙ right_first k r (suc stage) d.at l (omega (arith, le)) (λ i b q. plain (suc i) b (omega arith) q) h.1
right_at k r stage at (suc n) (None ∷ l) c e le plain h = right_at k r (suc stage) at n l c e (omega (arith, le)) (λ i d lt q. plain (suc i) d (omega (arith, lt)) q) h
right_at k r stage at (suc n) (Some b ∷ l) c e le plain h = right_at k r (suc stage) b.at n l c e (omega (arith, le)) (λ i d lt q. plain (suc i) d (omega (arith, lt)) q) h.1
