-- The steps that are kept, by their places.
use Rattle.std.proofs.Common.{◌≡◌, ◌∙◌, refl, sym, ap, subst, ℕ, zero, suc, ◌<◌, List, [], ◌∷◌, ◌++◌, length, Some, None, arith, inl, inr}
use Rattle.std.specs.Prelude.{slice_get}
use Rattle.std.proofs.lemmas.Bool.{cases_lt}
use Rattle.std.proofs.lemmas.Option.{same_Some}
use Rattle.ix_extension.specs.Extensions.{ExtensionTree}
use Rattle.rv_lawful.specs.Settings.{Course, course_of}
use Rattle.rv_past.specs.declared.step.Step.{Step}
use Rattle.rv_past.specs.declared.steps.Steps.{Steps}
use Rattle.rv_past.specs.Steps.{step_at, first_steps, AreSteps}

longer : {A : Type 0} (l : List A) (y : A) → length (l ++ y ∷ []) ≡ suc (length l)
longer [] y = refl
longer (a ∷ l) y = ap suc (longer l y)

get_front : {A : Type 0} (l : List A) (y : A) (n : ℕ) → n < length l → slice_get (l ++ y ∷ []) n ≡ slice_get l n
get_front [] y n lt = absurd (omega (arith, lt))
get_front (a ∷ l) y zero lt = refl
get_front (a ∷ l) y (suc n) lt = get_front l y n (omega (arith, lt))

get_last : {A : Type 0} (l : List A) (y : A) → slice_get (l ++ y ∷ []) (length l) ≡ Some y
get_last [] y = refl
get_last (a ∷ l) y = get_last l y

count : (c : Course) (n : ℕ) → length (first_steps c n) ≡ n
unfolding first_steps
count c zero = refl
count c (suc n) = longer (first_steps c n) (step_at c n) ∙ ap suc (count c n)

there : (c : Course) (n p : ℕ) → p < n → slice_get (first_steps c n) p ≡ Some (step_at c p)
unfolding first_steps
there c zero p lt = absurd (omega (arith, lt))
there c (suc n) p lt = elim (cases_lt p n) [
  | inl less ↦ let e = count c n in get_front (first_steps c n) (step_at c n) p (omega (arith, e, less)) ∙ there c n p less
  | inr more ↦
      let same : n ≡ p = omega (arith, lt, more) in
      subst (λ m. slice_get (first_steps c n ++ step_at c n ∷ []) m ≡ Some (step_at c m)) same
      (subst (λ m. slice_get (first_steps c n ++ step_at c n ∷ []) m ≡ Some (step_at c n)) (count c n) (get_last (first_steps c n) (step_at c n)))
]

-- a step that is kept is that of its place
pub step_is : (x : ExtensionTree) (image : List ℕ) (s : Steps) → AreSteps x image s → (p : ℕ) (one : Step) → p < length s.steps → slice_get s.steps p ≡ Some one → one ≡ step_at (course_of x image None) p
step_is x image s are p one lt e =
    same_Some one (step_at (course_of x image None) p) (sym e ∙ ap (λ l. slice_get l p) are.steps ∙ there (course_of x image None) (length s.steps) p lt)
