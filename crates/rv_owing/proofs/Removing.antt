-- What is kept of the outstanding instructions, the oldest first: one is found by its serial, and taken out of each list.
use Rattle.std.proofs.Common.{◌≡◌, ◌∙◌, refl, sym, ap, subst, ℕ, zero, suc, ◌+◌, ◌<◌, ◌≤◌, List, [], ◌∷◌, ◌++◌, map, length, Option, Some, None, Bool, true, false, arith, inl, inr}
use Rattle.std.specs.Prelude.{◌&&◌, ◌==◌, if◌then◌else◌, reverse, slice_index_or}
use Rattle.std.specs.List.{remove}
use Rattle.std.specs.Option.{option_map}
use Rattle.std.proofs.lemmas.Bool.Decides.{nat_tests}
use Rattle.std.proofs.lemmas.List.{reverse-reverse}
use Rattle.rv_lawful.specs.Settings.{Setting}
use Rattle.rv_lawful.specs.Outstanding.{Decoupled, is_serial, without}
use Rattle.rv_rows.specs.declared.known.Owed.{Owed}
use Rattle.rv_rows.specs.Known.{Falling, owed_of}
use Rattle.rv_owing.specs.Kept.{place_from, place_among, without_at, are_all}
use Rattle.rv_owing.proofs.Among.{Among, among_left, among_right, reverse_cons, without_reverse, Under, Falls}

-- ---- their order, the oldest first

-- these have higher serials
abbrev pub Over : ℕ → List Decoupled → Type 0
Over s [] = Unit {0}
Over s (o ∷ rest) = (s < o.0) × Over s rest

abbrev pub Rises : List Decoupled → Type 0
Rises [] = Unit {0}
Rises (o ∷ rest) = Over o.0 rest × Rises rest

over_end : (s : ℕ) (xs : List Decoupled) (o : Decoupled) → Over s xs → s < o.0 → Over s (xs ++ o ∷ [])
over_end s [] o h lt = (lt, tt)
over_end s (x ∷ xs) o h lt = (h.0, over_end s xs o h.1 lt)

rises_end : (xs : List Decoupled) (o : Decoupled) → Rises xs → Under o.0 xs → Rises (xs ++ o ∷ [])
rises_end [] o h u = (tt, tt)
rises_end (x ∷ xs) o h u = (over_end x.0 xs o h.0 u.0, rises_end xs o h.1 u.1)

under_end : (s : ℕ) (xs : List Decoupled) (o : Decoupled) → Under s xs → o.0 < s → Under s (xs ++ o ∷ [])
under_end s [] o h lt = (lt, tt)
under_end s (x ∷ xs) o h lt = (h.0, under_end s xs o h.1 lt)

under_reverse : (s : ℕ) (l : List Decoupled) → Under s l → Under s (reverse l)
under_reverse s [] h = tt
under_reverse s (o ∷ older) h = subst (λ z. Under s z) (sym (reverse_cons o older)) (under_end s (reverse older) o (under_reverse s older h.1) h.0)

pub rises_reverse : (l : List Decoupled) → Falls l → Rises (reverse l)
rises_reverse [] h = tt
rises_reverse (o ∷ older) h = subst Rises (sym (reverse_cons o older)) (rises_end (reverse older) o (rises_reverse older h.1) (under_reverse o.0 older h.0))

under_less : (s t : ℕ) (l : List Decoupled) → s < t → Under s l → Under t l
under_less s t [] lt h = tt
under_less s t (o ∷ older) lt h = let low = h.0 in (omega (arith, low, lt), under_less s t older lt h.1)

pub falls_of : (l : List Decoupled) → Falling l → Falls l
falls_of [] h = tt
falls_of (d ∷ []) h = (tt, tt)
falls_of (d ∷ e ∷ older) h = let rest = falls_of (e ∷ older) h.1 in ((h.0, under_less e.0 d.0 older h.0 rest.0), rest)

pub among_reverse : (l : List Decoupled) (d : Decoupled) → Among l d → Among (reverse l) d
among_reverse [] d x = absurd x
among_reverse (o ∷ older) d (inl e) = subst (λ z. Among z d) (sym (reverse_cons o older)) (among_right (reverse older) (o ∷ []) d (inl e))
among_reverse (o ∷ older) d (inr x) = subst (λ z. Among z d) (sym (reverse_cons o older)) (among_left (reverse older) (o ∷ []) d (among_reverse older d x))

-- ---- tests

same_number : (a b : ℕ) → (a == b) ≡ true → a ≡ b
same_number a b e = grind (arith, nat_tests)

itself : (a : ℕ) → (a == a) ≡ true
itself a = grind (arith, nat_tests)

flipped : (a b : ℕ) (c : Bool) → (a == b) ≡ c → (b == a) ≡ c
flipped a b true e = grind (arith, nat_tests)
flipped a b false e = grind (arith, nat_tests)

lower_number : (a b : ℕ) → a < b → (a == b) ≡ false
lower_number a b lt = grind (arith, nat_tests)

-- ---- the place of a serial

place_later : (at s : ℕ) (l : List Owed) → place_from (at + 1) s l ≡ option_map suc (place_from at s l)
place_later at s [] = refl
place_later at s (w ∷ rest) = by_case (w.serial == s) (place_later (at + 1) s rest) where
  one : at + 1 ≡ suc at
  one = omega arith

  by_case : (b : Bool) → place_from (at + 1 + 1) s rest ≡ option_map suc (place_from (at + 1) s rest) → (if b then Some (at + 1) else place_from (at + 1 + 1) s rest) ≡ option_map suc (if b then Some at else place_from (at + 1) s rest)
  by_case true h = ap (λ n. Some n) one
  by_case false h = h

over_without : (s : ℕ) (xs : List Decoupled) → Over s xs → without (is_serial (Some s)) xs ≡ xs
over_without s [] h = refl
over_without s (x ∷ xs) h = ap (λ b. if b then without (is_serial (Some s)) xs else x ∷ without (is_serial (Some s)) xs) (lower_number s x.0 h.0) ∙ ap (λ l. x ∷ l) (over_without s xs h.1)

none_without : (xs : List Decoupled) → without (is_serial None) xs ≡ xs
none_without [] = refl
none_without (x ∷ xs) = ap (λ l. x ∷ l) (none_without xs)

removed_later : {A : Type 0} (o : Option ℕ) (a : A) (l : List A) → without_at (option_map suc o) (a ∷ l) ≡ a ∷ without_at o l
removed_later None a l = refl
removed_later (Some n) a l = refl

-- the one with this serial is taken out of each list that is made of these
cut_one : {A : Type 0} (k : Setting) (f : Decoupled → A) (s : ℕ) (xs : List Decoupled) → Rises xs → without_at (place_from 0 s (map (owed_of k) xs)) (map f xs) ≡ map f (without (is_serial (Some s)) xs)
cut_one k f s [] h = refl
cut_one k f s (x ∷ xs) h = by_case (x.0 == s) refl (cut_one k f s xs h.1) where
  by_case : (b : Bool) → (x.0 == s) ≡ b → without_at (place_from 0 s (map (owed_of k) xs)) (map f xs) ≡ map f (without (is_serial (Some s)) xs)
      → without_at (if b then Some 0 else place_from (0 + 1) s (map (owed_of k) xs)) (f x ∷ map f xs) ≡ map f (if s == x.0 then without (is_serial (Some s)) xs else x ∷ without (is_serial (Some s)) xs)
  by_case true q rest =
      let same = same_number x.0 s q in
      ap (map f) (sym (over_without s xs (subst (λ n. Over n xs) same h.0)))
      ∙ ap (λ b. map f (if b then without (is_serial (Some s)) xs else x ∷ without (is_serial (Some s)) xs)) (sym (flipped x.0 s true q))
  by_case false q rest =
      ap (λ o. without_at o (f x ∷ map f xs)) (place_later 0 s (map (owed_of k) xs))
      ∙ removed_later (place_from 0 s (map (owed_of k) xs)) (f x) (map f xs)
      ∙ ap (λ l. f x ∷ l) rest
      ∙ ap (λ b. map f (if b then without (is_serial (Some s)) xs else x ∷ without (is_serial (Some s)) xs)) (sym (flipped x.0 s false q))

pub cut : {A : Type 0} (k : Setting) (f : Decoupled → A) (w : Option ℕ) (xs : List Decoupled) → Rises xs → without_at (place_among w (map (owed_of k) xs)) (map f xs) ≡ map f (without (is_serial w) xs)
cut k f None xs h = ap (map f) (sym (none_without xs))
cut k f (Some s) xs h = cut_one k f s xs h

over_at : (s : ℕ) (xs : List Decoupled) (d : Decoupled) → Over s xs → Among xs d → s < d.0
over_at s [] d h x = absurd x
over_at s (o ∷ rest) d h (inl e) = subst (λ (z : Decoupled). s < z.0) e h.0
over_at s (o ∷ rest) d h (inr x) = over_at s rest d h.1 x

-- one that is among these is found
pub found : {A : Type 0} (k : Setting) (f : Decoupled → A) (d : A) (s word : ℕ) (xs : List Decoupled) (n : ℕ) → Rises xs → Among xs (s, word) → place_from 0 s (map (owed_of k) xs) ≡ Some n → slice_index_or (map f xs) n d ≡ f (s, word)
found k f d s word [] n h x e = absurd x
found k f d s word (x ∷ xs) n h (inl same) e = at_first (x.0 == s) (ap (λ (z : Decoupled). z.0 == s) same ∙ itself s) e where
  at_first : (b : Bool) → b ≡ true → (if b then Some 0 else place_from (0 + 1) s (map (owed_of k) xs)) ≡ Some n → slice_index_or (f x ∷ map f xs) n d ≡ f (s, word)
  at_first false p q = cc
  at_first true p q = let zero_is : 0 ≡ n = cc in ap (λ m. slice_index_or (f x ∷ map f xs) m d) (sym zero_is) ∙ ap f same
found k f d s word (x ∷ xs) n h (inr y) e =
    later (x.0 == s) (lower_number x.0 s (over_at x.0 xs (s, word) h.0 y)) e (place_from 0 s (map (owed_of k) xs)) (place_later 0 s (map (owed_of k) xs)) (λ m q. found k f d s word xs m h.1 y q) where
      later : (b : Bool) → b ≡ false → (if b then Some 0 else place_from (0 + 1) s (map (owed_of k) xs)) ≡ Some n → (o : Option ℕ) → place_from (0 + 1) s (map (owed_of k) xs) ≡ option_map suc o
          → ((m : ℕ) → o ≡ Some m → slice_index_or (map f xs) m d ≡ f (s, word)) → slice_index_or (f x ∷ map f xs) n d ≡ f (s, word)
      later true p q o r rest = cc
      later false p q None r rest = cc
      later false p q (Some m) r rest = let next : suc m ≡ n = cc in ap (λ i. slice_index_or (f x ∷ map f xs) i d) (sym next) ∙ rest m refl

pub not_missing : (k : Setting) (s word : ℕ) (xs : List Decoupled) → Among xs (s, word) → place_from 0 s (map (owed_of k) xs) ≡ None → ⊥
not_missing k s word [] x e = x
not_missing k s word (x ∷ xs) (inl same) e = at_first (x.0 == s) (ap (λ (z : Decoupled). z.0 == s) same ∙ itself s) e where
  at_first : (b : Bool) → b ≡ true → (if b then Some 0 else place_from (0 + 1) s (map (owed_of k) xs)) ≡ None → ⊥
  at_first false p q = cc
  at_first true p q = cc
not_missing k s word (x ∷ xs) (inr y) e = later (x.0 == s) e (place_from 0 s (map (owed_of k) xs)) (place_later 0 s (map (owed_of k) xs)) (λ q. not_missing k s word xs y q) where
  later : (b : Bool) → (if b then Some 0 else place_from (0 + 1) s (map (owed_of k) xs)) ≡ None → (o : Option ℕ) → place_from (0 + 1) s (map (owed_of k) xs) ≡ option_map suc o → (o ≡ None → ⊥) → ⊥
  later true q o r rest = cc
  later false q None r rest = rest refl
  later false q (Some m) r rest = cc

-- past its end nothing is taken out of a list
pub remove_past : {A : Type 0} (xs : List A) (n : ℕ) → length xs ≤ n → remove xs n ≡ xs
remove_past [] zero le = refl
remove_past [] (suc n) le = refl
remove_past (x ∷ xs) zero le = absurd (omega (arith, le))
remove_past (x ∷ xs) (suc n) le = ap (λ l. x ∷ l) (remove_past xs n (omega (arith, le)))

-- ---- all are written

pub all_gone : (k : Setting) (w : Option ℕ) (xs : List Decoupled) → are_all w (map (owed_of k) xs) ≡ true → without (is_serial w) xs ≡ []
all_gone k w [] e = refl
all_gone k w (x ∷ xs) e = by_case (is_serial w x.0) e (λ q. all_gone k w xs q) where
  by_case : (b : Bool) → (b && are_all w (map (owed_of k) xs)) ≡ true → (are_all w (map (owed_of k) xs) ≡ true → without (is_serial w) xs ≡ []) → (if b then without (is_serial w) xs else x ∷ without (is_serial w) xs) ≡ []
  by_case true q rest = rest q
  by_case false q rest = cc

pub gone_all : (k : Setting) (w : Option ℕ) (xs : List Decoupled) → without (is_serial w) xs ≡ [] → are_all w (map (owed_of k) xs) ≡ true
gone_all k w [] e = refl
gone_all k w (x ∷ xs) e = by_case (is_serial w x.0) e (λ q. gone_all k w xs q) where
  by_case : (b : Bool) → (if b then without (is_serial w) xs else x ∷ without (is_serial w) xs) ≡ [] → (without (is_serial w) xs ≡ [] → are_all w (map (owed_of k) xs) ≡ true) → (b && are_all w (map (owed_of k) xs)) ≡ true
  by_case true q rest = rest q
  by_case false q rest = cc

pub none_reversed : (f : ℕ → Bool) (l : List Decoupled) → without f l ≡ [] → without f (reverse l) ≡ []
none_reversed f l e = without_reverse f l ∙ ap (λ z. reverse z) e

pub none_straight : (f : ℕ → Bool) (l : List Decoupled) → without f (reverse l) ≡ [] → without f l ≡ []
none_straight f l e = sym (reverse-reverse (without f l)) ∙ ap (λ z. reverse z) (sym (without_reverse f l) ∙ e)

pub none_both : (a b : List Decoupled) → a ≡ [] → b ≡ [] → a ++ b ≡ []
none_both [] b p q = q
none_both (o ∷ a) b p q = cc

pub none_first : (a b : List Decoupled) → a ++ b ≡ [] → a ≡ []
none_first [] b e = refl
none_first (o ∷ a) b e = cc

pub none_last : (a b : List Decoupled) → a ++ b ≡ [] → b ≡ []
none_last [] b e = e
none_last (o ∷ a) b e = cc
