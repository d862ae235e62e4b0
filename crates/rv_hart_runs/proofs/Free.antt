-- Of some cells none has a property; and what a choice of options comes to where it is nothing.
use Rattle.std.proofs.Common.{◌≡◌, ◌∙◌, refl, sym, ap, subst, ℕ, zero, suc, List, [], ◌∷◌, ◌++◌, Option, Some, None, Bool, true, false}
use Rattle.std.specs.Prelude.{find, filter, reverse, take, option_map, is_some, if◌then◌else◌}
use Rattle.std.specs.Option.{option_or}
use Rattle.std.proofs.lemmas.Grind.{reverse_onto}
use Rattle.rv_lawful.specs.Settings.{Setting}
use Rattle.rv_harts.specs.Harts.{Fetched}
use Rattle.rv_harts.specs.Turns.{asked, eldest}
use Rattle.rv_harts.specs.Events.{standing}
use Rattle.rv_harts.specs.HartRows.{last_in, owing}

-- ---- options

pub or_left : {A : Type 0} (a b : Option A) → option_or a b ≡ None → a ≡ None
or_left None b e = refl
or_left (Some x) b e = cc

pub or_right : {A : Type 0} (a b : Option A) → option_or a b ≡ None → b ≡ None
or_right None b e = e
or_right (Some x) b e = cc

pub unmapped : {A B : Type 0} (f : A → B) (o : Option A) → option_map f o ≡ None → o ≡ None
unmapped f None e = refl
unmapped f (Some x) e = cc

pub where_true : {A : Type 0} (b : Bool) (o : Option A) → b ≡ true → (if b then o else None) ≡ None → o ≡ None
where_true true o e h = h
where_true false o e h = cc

pub neither : {A : Type 0} (a b : Bool) (x y : Option A) → a ≡ false → b ≡ false → option_or (if a then x else None) (if b then y else None) ≡ None
neither false false x y p q = refl
neither false true x y p q = cc
neither true b x y p q = cc

pub same_some : {A : Type 0} (x y : A) → ◌≡◌ {A = Option A} (Some x) (Some y) → x ≡ y
same_some x y e = cc

-- ---- cells

-- none of these has the property
abbrev pub Free : (Fetched → Bool) → List Fetched → Type 0
Free f [] = Unit {0}
Free f (c ∷ cells) = (f c ≡ false) × Free f cells

first_free : (f : Fetched → Bool) (c : Fetched) (cells : List Fetched) (b : Bool) → f c ≡ b →
    option_map (λ (d : Fetched). d.serial) (if b then Some c else find f cells) ≡ None → (eldest f cells ≡ None → Free f cells) → (f c ≡ false) × Free f cells
first_free f c cells true q e rest = cc
first_free f c cells false q e rest = (q, rest e)

pub free_from : (f : Fetched → Bool) (cells : List Fetched) → eldest f cells ≡ None → Free f cells
free_from f [] e = tt
free_from f (c ∷ cells) e = first_free f c cells (f c) refl e (free_from f cells)

pub free_none : (f : Fetched → Bool) (cells : List Fetched) → Free f cells → eldest f cells ≡ None
free_none f [] h = refl
free_none f (c ∷ cells) h = ap (λ (b : Bool). option_map (λ (d : Fetched). d.serial) (if b then Some c else find f cells)) h.0 ∙ free_none f cells h.1

pub free_both : (f : Fetched → Bool) (xs ys : List Fetched) → Free f xs → Free f ys → Free f (xs ++ ys)
free_both f [] ys h g = g
free_both f (x ∷ xs) ys h g = (h.0, free_both f xs ys h.1 g)

pub free_left : (f : Fetched → Bool) (xs ys : List Fetched) → Free f (xs ++ ys) → Free f xs
free_left f [] ys h = tt
free_left f (x ∷ xs) ys h = (h.0, free_left f xs ys h.1)

pub free_right : (f : Fetched → Bool) (xs ys : List Fetched) → Free f (xs ++ ys) → Free f ys
free_right f [] ys h = h
free_right f (x ∷ xs) ys h = free_right f xs ys h.1

pub unreversed : (f : Fetched → Bool) (xs : List Fetched) → Free f (reverse xs) → Free f xs
unreversed f [] h = tt
unreversed f (x ∷ xs) h =
    let there = subst (λ (l : List Fetched). Free f l) (reverse_onto xs x []) h in
    ((free_right f (reverse xs) (x ∷ []) there).0, unreversed f xs (free_left f (reverse xs) (x ∷ []) there))

pub free_kept : (f g : Fetched → Bool) (xs : List Fetched) → Free f xs → Free f (filter g xs)
free_kept f g [] h = tt
free_kept f g (x ∷ xs) h = by_test (g x) (free_kept f g xs h.1) where
  by_test : (b : Bool) → Free f (filter g xs) → Free f (if b then x ∷ filter g xs else filter g xs)
  by_test true rest = (h.0, rest)
  by_test false rest = rest

-- ---- what stands in stages

pub free_taken : (f : Fetched → Bool) (n : ℕ) (stages : List (Option Fetched)) → Free f (standing stages) → Free f (standing (take n stages))
free_taken f zero stages h = tt
free_taken f (suc n) [] h = tt
free_taken f (suc n) (None ∷ stages) h = free_taken f n stages h
free_taken f (suc n) (Some c ∷ stages) h = (h.0, free_taken f n stages h.1)

pub free_last : (f : Fetched → Bool) (stages : List (Option Fetched)) (c : Fetched) → Free f (standing stages) → last_in stages ≡ Some c → f c ≡ false
free_last f [] c h e = cc
free_last f (None ∷ []) c h e = cc
free_last f (Some d ∷ []) c h e = ap f (sym (same_some d c e)) ∙ h.0
free_last f (None ∷ t ∷ stages) c h e = free_last f (t ∷ stages) c h e
free_last f (Some d ∷ t ∷ stages) c h e = free_last f (t ∷ stages) c h.1 e

pub free_owing : (k : Setting) (f : Fetched → Bool) (o : Option Fetched) → ((c : Fetched) → o ≡ Some c → f c ≡ false) → Free f (owing k o)
free_owing k f None h = tt
free_owing k f (Some c) h = by_unit (is_some (asked k c).unit) where
  by_unit : (b : Bool) → Free f (if b then c ∷ [] else [])
  by_unit true = (h c refl, tt)
  by_unit false = tt
