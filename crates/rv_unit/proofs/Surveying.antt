-- What is found of entries, one after another.
use Rattle.std.proofs.Common.{◌≡◌, ℕ, zero, suc, ◌<◌, ◌≢◌, List, [], ◌∷◌, ◌++◌, length, Option, Some, None, Bool, true, false, refl, sym, ap, ◌∙◌, arith, get_or, get_or-set_same, get_or-set_other, replicate}
use Rattle.std.specs.Prelude.{◌&&◌, ◌||◌, not, if◌then◌else◌, ◌==◌, min, slice_index_or, slice_set}
use Rattle.std.proofs.Math.ListN.{length-set}
use Rattle.std.proofs.lemmas.Bool.Decides.{nat_tests}
use Rattle.rv_unit.specs.declared.entry.Entry.{Entry}
use Rattle.rv_unit.specs.declared.survey.Survey.{Survey}
use Rattle.rv_unit.specs.Entries.{last_time, is_finished, has_finished, lower, writer, is_number, is_frozen}
use Rattle.rv_unit.specs.Surveys.{IsSurvey, is_frozen_by}

-- ---- nothing is found at first
pub none_anywhere : (m n : ℕ) → slice_index_or {A = Option ℕ} (replicate m None) n None ≡ None
none_anywhere zero n = refl
none_anywhere (suc m) zero = refl
none_anywhere (suc m) (suc n) = none_anywhere m n

pub false_anywhere : (m n : ℕ) → slice_index_or (replicate m false) n false ≡ false
false_anywhere zero n = refl
false_anywhere (suc m) zero = refl
false_anywhere (suc m) (suc n) = false_anywhere m n

-- ---- one entry more
-- the unit that writes, with one more that is finished or not
abbrev with_finished : Bool → ℕ → Option ℕ → Option ℕ
with_finished true u found = Some (lower u found)
with_finished false u found = found

writer_more : (lasts : List ℕ) (l : List Entry) (e : Entry) → writer lasts (l ++ e ∷ []) ≡ with_finished (is_finished lasts e) e.unit (writer lasts l)
writer_more lasts [] e = by_case (is_finished lasts e) where
  by_case : (a : Bool) → (if a then Some e.unit else None) ≡ with_finished a e.unit None
  by_case true = refl
  by_case false = refl
writer_more lasts (p ∷ l) e =
    ap (λ o. if is_finished lasts p then Some (lower p.unit o) else o) (writer_more lasts l e)
    ∙ by_case (is_finished lasts p) (is_finished lasts e) (writer lasts l) where
      turned : (m n : ℕ) → min m n ≡ min n m
      turned m n = omega arith

      three : (m n k : ℕ) → min m (min n k) ≡ min n (min m k)
      three m n k = omega arith

      by_case : (a b : Bool) (o : Option ℕ) → (if a then Some (lower p.unit (with_finished b e.unit o)) else with_finished b e.unit o) ≡
          with_finished b e.unit (if a then Some (lower p.unit o) else o)
      by_case true true None = ap Some (turned p.unit e.unit)
      by_case true true (Some w) = ap Some (three p.unit e.unit w)
      by_case true false o = refl
      by_case false b o = refl

has_more : (lasts : List ℕ) (u : ℕ) (l : List Entry) (e : Entry) →
    has_finished lasts u (l ++ e ∷ []) ≡ (has_finished lasts u l || (is_finished lasts e && (e.unit == u)))
has_more lasts u [] e = by_case (is_finished lasts e && (e.unit == u)) where
  by_case : (a : Bool) → (a || false) ≡ (false || a)
  by_case true = refl
  by_case false = refl
has_more lasts u (p ∷ l) e =
    ap (λ b. (is_finished lasts p && (p.unit == u)) || b) (has_more lasts u l e)
    ∙ by_case (is_finished lasts p && (p.unit == u)) (has_finished lasts u l) (is_finished lasts e && (e.unit == u)) where
      by_case : (a b c : Bool) → (a || (b || c)) ≡ ((a || b) || c)
      by_case true b c = refl
      by_case false b c = refl

-- one that is not at its last time
pub passed : (lasts : List ℕ) (l : List Entry) (e : Entry) (s : Survey) → (e.time ≡ last_time lasts e.unit → ⊥) → IsSurvey lasts l s →
    IsSurvey lasts (l ++ e ∷ []) s
passed lasts l e s ne h = record {
  granted = h.granted ∙ sym (writer_more lasts l e ∙ ap (λ b. with_finished b e.unit (writer lasts l)) not_yet);
  whole = h.whole;
  finished = λ u lt. h.finished u lt ∙ sym (has_more lasts u l e ∙ ap (λ b. has_finished lasts u l || (b && (e.unit == u))) not_yet ∙ or_false (has_finished lasts u l));
} where
  not_yet : is_finished lasts e ≡ false
  not_yet = grind (arith, nat_tests)

  or_false : (b : Bool) → (b || false) ≡ b
  or_false true = refl
  or_false false = refl

-- one that is
pub added : (lasts : List ℕ) (l : List Entry) (e : Entry) (s : Survey) (g n : ℕ) → e.time ≡ last_time lasts e.unit → g ≡ lower e.unit s.granted →
    n ≡ e.unit → n < 72 → IsSurvey lasts l s → IsSurvey lasts (l ++ e ∷ []) (record { granted = Some g; finished = slice_set s.finished n true })
added lasts l e s g n at q r lt h = record {
  granted = ap Some q ∙ ap (λ o. Some (lower e.unit o)) h.granted ∙ sym (writer_more lasts l e ∙ ap (λ b. with_finished b e.unit (writer lasts l)) now);
  whole = length-set s.finished n true ∙ h.whole;
  finished = λ u lt'. by_case u lt' (e.unit == u) refl ∙ sym (has_more lasts u l e ∙ ap (λ b. has_finished lasts u l || (b && (e.unit == u))) now);
} where
  now : is_finished lasts e ≡ true
  now = grind (arith, nat_tests)

  or_true : (b : Bool) → true ≡ (b || true)
  or_true true = refl
  or_true false = refl

  or_false : (b : Bool) → b ≡ (b || false)
  or_false true = refl
  or_false false = refl

  by_case : (u : ℕ) → u < 72 → (b : Bool) → (e.unit == u) ≡ b → get_or (slice_set s.finished n true) u false ≡ (has_finished lasts u l || (true && b))
  by_case u lt' true t =
      let same : u ≡ n = grind (arith, nat_tests) in
      let within : n < length s.finished = rw h.whole lt in
      ap (λ v. get_or (slice_set s.finished n true) v false) same ∙ get_or-set_same s.finished n true false within ∙ or_true (has_finished lasts u l)
  by_case u lt' false t =
      let other : u ≢ n = grind (arith, nat_tests) in
      get_or-set_other s.finished n u true false other ∙ h.finished u lt' ∙ or_false (has_finished lasts u l)

-- ---- frozen units are found
pub frozen_found : (lasts : List ℕ) (l : List Entry) (s : Survey) (u : ℕ) → IsSurvey lasts l s → u < 72 → is_frozen_by s u ≡ is_frozen lasts l u
frozen_found lasts l s u h lt =
    ap (λ b. b && not (is_number s.granted u)) (h.finished u lt) ∙ ap (λ o. has_finished lasts u l && not (is_number o u)) h.granted
