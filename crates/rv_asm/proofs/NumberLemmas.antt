-- Facts on the numbers of a text.
use Rattle.std.proofs.Common.{◌≡◌, ◌≢◌, ℕ, zero, suc, ◌+◌, ◌-◌, ◌<◌, ◌≤◌, List, [], ◌∷◌, ◌++◌, length, Option, Some, None, Bool, true, false, refl, sym, ap, ◌∙◌, subst, arith}
use Rattle.std.specs.Prelude.{nat_le, ◌&&◌, if◌then◌else◌, slice_get, map, ◌==◌}
use Rattle.std.proofs.Common.{take, drop}
use Rattle.std.proofs.lemmas.Bool.Decides.{nat_tests}
use Rattle.rv_asm.specs.NumbersText.{words_among, digit_value, AreNumbers}
use Rattle.rv_asm.proofs.ImageLemmas.{parts_at, taken_next}

-- a decimal digit is below 10
pub digit_below : (b d : ℕ) → digit_value b ≡ Some d → d < 10
digit_below b d h = by_case (nat_le 48 b) refl (nat_le b 57) refl h where
  by_case : (p : Bool) → nat_le 48 b ≡ p → (q : Bool) → nat_le b 57 ≡ q → (if p && q then Some (b - 48) else None) ≡ Some d → d < 10
  by_case true u true v e = let same : b - 48 ≡ d = cc in grind (arith, nat_tests, same, u, v)
  by_case true u false v e = cc
  by_case false u q v e = cc

-- parts and words, one after another
pub words_among-append : (xs ys : List (List ℕ)) → words_among (xs ++ ys) ≡ words_among xs ++ words_among ys
words_among-append [] ys = refl
words_among-append ([] ∷ xs) ys = words_among-append xs ys
words_among-append ((b ∷ w) ∷ xs) ys = ap (λ l. (b ∷ w) ∷ l) (words_among-append xs ys)

pub map-append : {A B : Type 0} (f : A → B) (xs ys : List A) → map f (xs ++ ys) ≡ map f xs ++ map f ys
map-append f [] ys = refl
map-append f (x ∷ xs) ys = ap (λ l. f x ∷ l) (map-append f xs ys)

pub length-map : {A B : Type 0} (f : A → B) (xs : List A) → length (map f xs) ≡ length xs
length-map f [] = refl
length-map f (x ∷ xs) = ap suc (length-map f xs)

one_word : (part : List ℕ) → part ≢ [] → words_among (part ∷ []) ≡ part ∷ []
one_word [] f = absurd (f refl)
one_word (b ∷ w) f = refl

empty_part : (words : List (List ℕ)) → words ++ words_among ([] ∷ []) ≡ words
empty_part [] = refl
empty_part (w ∷ words) = ap (λ l. w ∷ l) (empty_part words)

-- an empty part adds no number
pub after_empty : (f : List ℕ → Option ℕ) (all : List (List ℕ)) (i : ℕ) (part : List ℕ) (numbers : List ℕ) → slice_get all i ≡ Some part → part ≡ []
    → AreNumbers f (words_among (take i all)) numbers → AreNumbers f (words_among (take (i + 1) all)) numbers
after_empty f all i part numbers h e are =
    let at : slice_get all i ≡ Some [] = h ∙ ap Some e in
    ap (map f) (ap words_among (taken_next all i [] at) ∙ words_among-append (take i all) ([] ∷ []) ∙ empty_part (words_among (take i all))) ∙ are

-- a number is behind those before it
pub after_word : (f : List ℕ → Option ℕ) (all : List (List ℕ)) (i number : ℕ) (part : List ℕ) (numbers : List ℕ) → slice_get all i ≡ Some part → part ≢ [] → f part ≡ Some number
    → AreNumbers f (words_among (take i all)) numbers → AreNumbers f (words_among (take (i + 1) all)) (numbers ++ number ∷ [])
after_word f all i number part numbers h some is are =
    ap (map f) (ap words_among (taken_next all i part h) ∙ words_among-append (take i all) (part ∷ []) ∙ ap (λ l. words_among (take i all) ++ l) (one_word part some))
    ∙ map-append f (words_among (take i all)) (part ∷ [])
    ∙ ap (λ l. l ++ f part ∷ []) are
    ∙ ap (λ o. map Some numbers ++ o ∷ []) is
    ∙ sym (map-append Some numbers (number ∷ []))

pub counted : (f : List ℕ → Option ℕ) (words : List (List ℕ)) (numbers : List ℕ) → AreNumbers f words numbers → length words ≡ length numbers
counted f words numbers are = sym (length-map f words) ∙ ap length are ∙ length-map Some numbers

-- the words of a text, at the part of this number
pub words_at : (parts : List (List ℕ)) (i : ℕ) (part : List ℕ) → slice_get parts i ≡ Some part → part ≢ []
    → words_among parts ≡ words_among (take i parts) ++ part ∷ words_among (drop (suc i) parts)
words_at parts i part h some =
    ap words_among (parts_at parts i part h)
    ∙ words_among-append (take i parts) (part ∷ drop (suc i) parts)
    ∙ ap (λ l. words_among (take i parts) ++ l) (words_among-append (part ∷ []) (drop (suc i) parts) ∙ ap (λ l. l ++ words_among (drop (suc i) parts)) (one_word part some))

-- after all parts
pub all_numbers : (f : List ℕ → Option ℕ) (parts : List (List ℕ)) (numbers : List ℕ) (i : ℕ) → AreNumbers f (words_among (take i parts)) numbers → length parts ≤ i → AreNumbers f (words_among parts) numbers
all_numbers f parts numbers i are le = subst (λ l. AreNumbers f (words_among l) numbers) (whole parts i le) are where
  whole : (l : List (List ℕ)) (n : ℕ) → length l ≤ n → take n l ≡ l
  whole [] zero h = refl
  whole [] (suc n) h = refl
  whole (x ∷ l) zero h = absurd (omega (arith, h))
  whole (x ∷ l) (suc n) h = ap (λ r. x ∷ r) (whole l n (omega (arith, h)))

-- words have one list of numbers
pub same_somes : (xs ys : List ℕ) → map Some xs ≡ map Some ys → xs ≡ ys
same_somes [] [] e = refl
same_somes [] (y ∷ ys) e = cc
same_somes (x ∷ xs) [] e = cc
same_somes (x ∷ xs) (y ∷ ys) e =
    let first : x ≡ y = cc in
    let rest : map Some xs ≡ map Some ys = cc in
    ap (λ n. n ∷ xs) first ∙ ap (λ l. y ∷ l) (same_somes xs ys rest)

pub one_list : (f : List ℕ → Option ℕ) (words : List (List ℕ)) (xs ys : List ℕ) → AreNumbers f words xs → AreNumbers f words ys → xs ≡ ys
one_list f words xs ys x y = same_somes xs ys (sym x ∙ y)

-- where words are numbers, the word behind these of them is the number behind theirs
pub record Reached (f : List ℕ → Option ℕ) (word : List ℕ) (numbers all : List ℕ) : Type 0 where
  pub number : ℕ
  pub rest : List ℕ
  pub is : f word ≡ Some number
  pub all_are : all ≡ numbers ++ number ∷ rest

pub reached : (f : List ℕ → Option ℕ) (before : List (List ℕ)) (word : List ℕ) (behind : List (List ℕ)) (numbers all : List ℕ)
    → AreNumbers f before numbers → AreNumbers f (before ++ word ∷ behind) all → Reached f word numbers all
reached f [] word behind [] [] are e = cc
reached f [] word behind [] (n ∷ all) are e = record { number = n; rest = all; is = cc; all_are = refl }
reached f [] word behind (m ∷ numbers) all are e = cc
reached f (w ∷ before) word behind [] all are e = cc
reached f (w ∷ before) word behind (m ∷ numbers) [] are e = cc
reached f (w ∷ before) word behind (m ∷ numbers) (n ∷ all) are e =
    let first : f w ≡ Some m = cc in
    let same : Some n ≡ Some m = cc in
    let is : n ≡ m = cc in
    let here : AreNumbers f before numbers = cc in
    let there : AreNumbers f (before ++ word ∷ behind) all = cc in
    let r = reached f before word behind numbers all here there in
    record { number = r.number; rest = r.rest; is = r.is; all_are = ap (λ k. k ∷ all) is ∙ ap (λ l. m ∷ l) r.all_are }

pub some_part : (part : List ℕ) → false ≡ (length part == 0) → part ≢ []
some_part [] h e = cc
some_part (b ∷ w) h e = cc

pub no_part : (part : List ℕ) → true ≡ (length part == 0) → part ≡ []
no_part [] h = refl
no_part (b ∷ w) h = grind (arith, nat_tests, h)
