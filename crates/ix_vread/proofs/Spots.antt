-- Places and lines.
use Rattle.std.proofs.Common.{Some, ◌≡◌, ◌⊎◌, inl, inr, ℕ, zero, suc, ◌+◌, ◌<◌, ◌≤◌, ◌^◌, List, [], ◌∷◌, ◌++◌, Bool, true, false, cond, length, take, drop, get_or, map, filter, refl, ap, sym, ◌∙◌, subst, arith}
use Rattle.std.specs.Prelude.{slice_get}
use Rattle.std.specs.List.{AllByRecursion}
use Rattle.std.proofs.lemmas.List.{length-map, length-append, take_more, drop-drop, get_or-drop}
use Rattle.ix_verilog.specs.declared.source.Source.{Source}
use Rattle.ix_verilog.specs.declared.token.Token.{Token}
use Rattle.ix_verilog.specs.Words.{Spells, words_of}
use Rattle.ix_verilog.specs.Subset.{IsWritten, place_of_token}
use Rattle.ix_vnets.specs.Drives.{is_drive, DriveFits, IsFirstNot, assigning, updating, drives, drives_in}
use Rattle.ix_vread.specs.Told.{begins_drive}
use Rattle.ix_vread.specs.Spots.{drive_place}
use Rattle.ix_vread.proofs.Places.{spelled_within}

-- ---- lists
filter_both : {X : Type 0} (p : X → Bool) (xs : List X) (x : X) → filter p (xs ++ x ∷ []) ≡ filter p xs ++ cond (p x) (x ∷ []) []
filter_both p [] x = go (p x)
  where
    go : (b : Bool) → cond b (x ∷ []) [] ≡ cond b (x ∷ []) []
    go b = refl
filter_both p (y ∷ xs) x = go (p y) (filter_both p xs x)
  where
    go : (b : Bool) → filter p (xs ++ x ∷ []) ≡ filter p xs ++ cond (p x) (x ∷ []) [] → cond b (y ∷ filter p (xs ++ x ∷ [])) (filter p (xs ++ x ∷ [])) ≡ cond b (y ∷ filter p xs) (filter p xs) ++ cond (p x) (x ∷ []) []
    go true h = ap (λ z. y ∷ z) h
    go false h = h

pub filter_next : {X : Type 0} (p : X → Bool) (xs : List X) (i : ℕ) (x : X) (b : Bool) → x ≡ get_or xs i x → i < length xs → p x ≡ b → filter p (take (i + 1) xs) ≡ filter p (take i xs) ++ cond b (x ∷ []) []
filter_next p xs i x b e l h =
    let t : take (i + 1) xs ≡ take i xs ++ x ∷ [] = take_more xs i x l ∙ ap (λ z. take i xs ++ z ∷ []) (sym e) in
    ap (filter p) t ∙ filter_both p (take i xs) x ∙ ap (λ c. filter p (take i xs) ++ cond c (x ∷ []) []) h

get_place : (ts : List Token) (k : ℕ) → get_or (map (λ (t : Token). t.place) ts) k 0 ≡ place_of_token 0 k ts
get_place [] zero = refl
get_place [] (suc k) = refl
get_place (t ∷ ts) zero = refl
get_place (t ∷ ts) (suc k) = get_place ts k

-- ---- lines of modules
drives_long : (s : Source) → length (drives_in s) ≡ length s.assigns + length s.updates
drives_long s = omega (arith, length-append (map (assigning s) s.assigns) (map (updating s) s.updates), length-map s.assigns (assigning s), length-map s.updates (updating s))

drives_push : (ss : List Source) (s : Source) → length (drives (ss ++ s ∷ [])) ≡ length (drives ss) + length (drives_in s)
drives_push [] s = omega (arith, length-append (drives_in s) [])
drives_push (x ∷ ss) s = omega (arith, drives_push ss s, length-append (drives_in x) (drives (ss ++ s ∷ [])), length-append (drives_in x) (drives ss))

pub behind_more : (ss : List Source) (i : ℕ) (s : Source) (places rest mid new : List ℕ) (a u : ℕ) → s ≡ get_or ss i s → i < length ss → rest ≡ drop (length (drives (take i ss))) places → a ≡ length s.assigns → u ≡ length s.updates
    → mid ≡ drop a rest → new ≡ drop u mid → new ≡ drop (length (drives (take (i + 1) ss))) places
behind_more ss i s places rest mid new a u e l h p q m n =
    let t : take (i + 1) ss ≡ take i ss ++ s ∷ [] = take_more ss i s l ∙ ap (λ z. take i ss ++ z ∷ []) (sym e) in
    let k = length (drives (take i ss)) in
    let long : length (drives (take (i + 1) ss)) ≡ (k + a) + u = omega (arith, ap (λ z. length (drives z)) t, drives_push (take i ss) s, drives_long s, p, q) in
    n ∙ ap (drop u) (m ∙ ap (drop a) h ∙ drop-drop a k places) ∙ drop-drop u (k + a) places ∙ ap (λ z. drop z places) (sym long)

-- ---- the place of a line
kept : (p : Token → Bool) (n : ℕ) (ts : List Token) → AllByRecursion (λ (t : Token). t.place < n) ts → AllByRecursion (λ (t : Token). t.place < n) (filter p ts)
kept p n [] h = tt
kept p n (t ∷ ts) h = go (p t) (kept p n ts h.1)
  where
    go : (b : Bool) → AllByRecursion (λ (t : Token). t.place < n) (filter p ts) → AllByRecursion (λ (t : Token). t.place < n) (cond b (t ∷ filter p ts) (filter p ts))
    go true k = (h.0, k)
    go false k = k

small_at : (n : ℕ) (ts : List Token) (k : ℕ) → AllByRecursion (λ (t : Token). t.place < n) ts → (place_of_token 0 k ts ≡ 0) ⊎ (place_of_token 0 k ts < n)
small_at n [] zero h = inl refl
small_at n [] (suc k) h = inl refl
small_at n (t ∷ ts) zero h = inr h.0
small_at n (t ∷ ts) (suc k) h = small_at n ts k h.1

pub place_found : (tokens : List Token) (places rest : List ℕ) (n drive place : ℕ) → places ≡ map (λ (t : Token). t.place) (filter begins_drive tokens) → rest ≡ drop n places → place ≡ get_or rest drive 0
    → place ≡ drive_place tokens (n + drive)
place_found tokens places rest n drive place e r p =
    p ∙ ap (λ z. get_or z drive 0) r ∙ get_or-drop n places drive 0 ∙ ap (λ z. get_or z (n + drive) 0) e ∙ get_place (filter begins_drive tokens) (n + drive)

pub place_small : (text : List ℕ) (tokens : List Token) (number place : ℕ) → length text < 2 ^ 32 → Spells 0 text tokens → place ≡ drive_place tokens number → (place ≤ length text) × (place + 1 < 2 ^ 32)
place_small text tokens number place small s here =
    let zero_more : 0 + length text ≡ length text = omega arith in
    let bound : (place ≡ 0) ⊎ (place < length text) = subst (λ z. (z ≡ 0) ⊎ (z < length text)) (sym here) (small_at (length text) (filter begins_drive tokens) number (kept begins_drive (length text) tokens (subst (λ z. AllByRecursion (λ (t : Token). t.place < z) tokens) zero_more (spelled_within s)))) in
    elim bound [
      | inl z ↦ (omega (arith, z), omega (arith, z))
      | inr z ↦ (omega (arith, z), omega (arith, z, small))
    ]

-- the word with which a line begins
same_count : (ts : List Token) → length (filter is_drive (words_of ts)) ≡ length (filter begins_drive ts)
same_count [] = refl
same_count (t ∷ ts) = go (is_drive t.word) (same_count ts)
  where
    go : (b : Bool) → length (filter is_drive (words_of ts)) ≡ length (filter begins_drive ts) → length (cond b (t.word ∷ filter is_drive (words_of ts)) (filter is_drive (words_of ts))) ≡ length (cond b (t ∷ filter begins_drive ts) (filter begins_drive ts))
    go true h = ap suc h
    go false h = h

stands_at : (ts : List Token) (k : ℕ) → k < length ts → (t : Token) × (slice_get ts k ≡ Some t) × (place_of_token 0 k ts ≡ t.place)
stands_at [] k l = absurd (omega (arith, l))
stands_at (t ∷ ts) zero l = (t, refl, refl)
stands_at (t ∷ ts) (suc k) l = stands_at ts k (omega (arith, l))

pub drive_stands : (text : List ℕ) (ss : List Source) (w : IsWritten text ss) (k : ℕ) → length (filter is_drive (words_of w.tokens)) ≡ length (drives ss) → IsFirstNot DriveFits (drives ss) k
    → (t : Token) × (slice_get (filter begins_drive w.tokens) k ≡ Some t) × (drive_place w.tokens k ≡ t.place)
drive_stands text ss w k e f = stands_at (filter begins_drive w.tokens) k (omega (arith, sym (same_count w.tokens) ∙ e, f.number, ap length f.are, length-append f.front (f.item ∷ f.rest)))
