-- The first place in a list that passes a test, and the places of ports by their names.
use Rattle.std.proofs.Common.{◌≡◌, ◌≢◌, ℕ, ◌+◌, ◌<◌, ◌≤◌, ◌-◌, suc, zero, List, [], ◌∷◌, ◌++◌, Bool, true, false, cond, Option, Some, None, is_some, length, get_or, take, arith, refl, ap, sym, ◌∙◌, subst, AllPairs}
use Rattle.std.proofs.lemmas.List.{take_more, length-take-le, length-map, get_or-map, get_or-take, take-map}
use Rattle.std.proofs.lemmas.List.Quantifiers.{all_pairs_push}
use Rattle.std.specs.List.{position_from}
use Rattle.std.specs.Str.{bytes_eq}
use Rattle.std.proofs.lemmas.Bool.{false≢true}
use Rattle.std.proofs.lemmas.Slice.Eq.{bytes_eq-Decides}
use Rattle.ix_net.specs.declared.netlist.Port.{Port}
use Rattle.ix_net.specs.Signals.{place_of}
use Rattle.ix_net.specs.Valid.{names}

-- one more element behind the list
pub position_from-push :
    {X : Type 0} (t : X → Bool) (i : ℕ) (xs : List X) (x : X)
    → position_from t i (xs ++ x ∷ []) ≡ cond (is_some (position_from t i xs)) (position_from t i xs) (cond (t x) (Some (i + length xs)) None)
position_from-push t i [] x = ap (λ n. cond (t x) (Some n) None) (omega arith)
position_from-push t i (y ∷ ys) x = go (t y) (position_from-push t (i + 1) ys x)
  where
    go :
        (b : Bool)
        → position_from t (i + 1) (ys ++ x ∷ []) ≡ cond (is_some (position_from t (i + 1) ys)) (position_from t (i + 1) ys) (cond (t x) (Some (i + 1 + length ys)) None)
        → cond b (Some i) (position_from t (i + 1) (ys ++ x ∷ [])) ≡ cond (is_some (cond b (Some i) (position_from t (i + 1) ys))) (cond b (Some i) (position_from t (i + 1) ys)) (cond (t x) (Some (i + suc (length ys))) None)
    go true h = refl
    go false h =
        let e : i + 1 + length ys ≡ i + suc (length ys) = omega arith in
        h ∙ ap (λ n. cond (is_some (position_from t (i + 1) ys)) (position_from t (i + 1) ys) (cond (t x) (Some n) None)) e

-- what holds at the place found
pub record IsFirst {X : Type 0} (t : X → Bool) (xs : List X) (i j : ℕ) : Type 0 where
  pub from : i ≤ j
  pub within : j < i + length xs
  pub passes : (d : X) → t (get_or xs (j - i) d) ≡ true

pub position_from-Some : {X : Type 0} (t : X → Bool) (xs : List X) (i j : ℕ) → position_from t i xs ≡ Some j → IsFirst t xs i j
position_from-Some t [] i j h = absurd (cc)
position_from-Some {X} t (x ∷ xs) i j h = go (t x) refl h (λ g. position_from-Some t xs (i + 1) j g)
  where
    go : (b : Bool) → t x ≡ b → cond b (Some i) (position_from t (i + 1) xs) ≡ Some j → (position_from t (i + 1) xs ≡ Some j → IsFirst t xs (i + 1) j) → IsFirst t (x ∷ xs) i j
    go true e g rest =
        let same : i ≡ j = cc in
        record {
          from = omega arith;
          within = omega arith;
          passes = λ d. (let z : j - i ≡ 0 = omega arith in rw z e);
        }
    go false e g rest =
        let r = rest g in
        record {
          from = omega (arith, r.from);
          within = omega (arith, r.within);
          passes = λ d. (let z : j - i ≡ suc (j - (i + 1)) = omega (arith, r.from) in rw z (r.passes d));
        }

pub position_from-None : {X : Type 0} (t : X → Bool) (xs : List X) (i : ℕ) → position_from t i xs ≡ None → (k : ℕ) (d : X) → k < length xs → t (get_or xs k d) ≡ false
position_from-None t [] i h k d l = absurd (omega arith)
position_from-None {X} t (x ∷ xs) i h k d l = go (t x) refl h (λ g n m. position_from-None t xs (i + 1) g n d m) k l
  where
    go :
        (b : Bool) → t x ≡ b → cond b (Some i) (position_from t (i + 1) xs) ≡ None
        → (position_from t (i + 1) xs ≡ None → (n : ℕ) → n < length xs → t (get_or xs n d) ≡ false)
        → (k : ℕ) → k < length (x ∷ xs) → t (get_or (x ∷ xs) k d) ≡ false
    go true e g rest k l = absurd (cc)
    go false e g rest zero l = e
    go false e g rest (suc k) l = rest g k (omega arith)

pub position_from-at :
    {X : Type 0} (t : X → Bool) (xs : List X) (i k : ℕ) (d : X) → k < length xs → t (get_or xs k d) ≡ true
    → ((m : ℕ) → m < k → t (get_or xs m d) ≡ false) → position_from t i xs ≡ Some (i + k)
position_from-at t [] i k d l h before = absurd (omega arith)
position_from-at t (x ∷ xs) i zero d l h before = rw h (ap Some (omega arith))
position_from-at t (x ∷ xs) i (suc k) d l h before =
    let no : t x ≡ false = before 0 (omega arith) in
    rw no (position_from-at t xs (i + 1) k d (omega arith) h (λ m lt. before (suc m) (omega arith)) ∙ ap Some (omega arith))

-- the place of a name that one more port has, or had before
pub place_of-more :
    (ports : List Port) (i : ℕ) (p : Port) → i < length ports → get_or ports i p ≡ p → (name : List ℕ)
    → place_of (take (i + 1) ports) name ≡ cond (is_some (place_of (take i ports) name)) (place_of (take i ports) name) (cond (bytes_eq name p.name) (Some i) None)
place_of-more ports i p l e name =
    let more : take (i + 1) ports ≡ take i ports ++ p ∷ [] = take_more ports i p l ∙ ap (λ q. take i ports ++ q ∷ []) e in
    let size : length (take i ports) ≡ i = length-take-le i ports (omega arith) in
    rw more
    (position_from-push (λ (q : Port). bytes_eq name q.name) 0 (take i ports) p
    ∙ ap (λ n. cond (is_some (place_of (take i ports) name)) (place_of (take i ports) name) (cond (bytes_eq name p.name) (Some n) None)) (omega arith))

-- a map from names to places, with one more name
pub place_of-updated :
    (ports : List Port) (i : ℕ) (p : Port) (old new : List ℕ → Option ℕ) → i < length ports → get_or ports i p ≡ p
    → ((q : List ℕ) → old q ≡ place_of (take i ports) q) → ((q : List ℕ) → new q ≡ cond (bytes_eq p.name q) (Some i) (old q)) → old p.name ≡ None
    → (q : List ℕ) → new q ≡ place_of (take (i + 1) ports) q
place_of-updated ports i p old new l e held updates fresh q =
    updates q ∙ go (bytes_eq p.name q) (bytes_eq q p.name) (place_of (take i ports) q) (bytes_eq-Decides p.name q) (bytes_eq-Decides q p.name) (held q) (λ (same : p.name ≡ q). sym (held q) ∙ ap old (sym same) ∙ fresh)
    ∙ sym (place_of-more ports i p l e q)
  where
    go :
        (a b : Bool) (o : Option ℕ) → (a ≡ true → p.name ≡ q) × (p.name ≡ q → a ≡ true) → (b ≡ true → q ≡ p.name) × (q ≡ p.name → b ≡ true)
        → old q ≡ o → (p.name ≡ q → o ≡ None) → cond a (Some i) (old q) ≡ cond (is_some o) o (cond b (Some i) None)
    go true true None x y h f = refl
    go true true (Some j) x y h f = absurd (let n = f (x.0 refl) in cc)
    go true false o x y h f = absurd (false≢true (y.1 (sym (x.0 refl))))
    go false true o x y h f = absurd (false≢true (x.1 (sym (y.0 refl))))
    go false false None x y h f = h
    go false false (Some j) x y h f = h

-- a name at a place below i, where the place of the name is None among the first i
pub differs-from_None : (ports : List Port) (i k : ℕ) (name : List ℕ) (d : List ℕ) → place_of (take i ports) name ≡ None → k < length (take i ports) → get_or (names (take i ports)) k d ≢ name
differs-from_None ports i k name d h l same =
    let p : Port = record { name = []; width = 0 } in
    let no = position_from-None (λ (q : Port). bytes_eq name q.name) (take i ports) 0 h k p l in
    let read : get_or (names (take i ports)) k d ≡ (get_or (take i ports) k p).name = get_or-map (λ (q : Port). q.name) (take i ports) k p d l in
    false≢true (sym no ∙ (bytes_eq-Decides name (get_or (take i ports) k p).name).1 (sym same ∙ read))

-- one more name that is new
pub distinct-more :
    (ports : List Port) (i : ℕ) (p : Port) → i < length ports → get_or ports i p ≡ p → place_of (take i ports) p.name ≡ None
    → AllPairs (λ x y. x ≢ y) (take i (names ports)) → AllPairs (λ x y. x ≢ y) (take (i + 1) (names ports))
distinct-more ports i p l e fresh before =
    let size : length (names ports) ≡ length ports = length-map ports (λ (q : Port). q.name) in
    let at : get_or (names ports) i p.name ≡ p.name = get_or-map (λ (q : Port). q.name) ports i p p.name l ∙ ap (λ (q : Port). q.name) e in
    let more : take (i + 1) (names ports) ≡ take i (names ports) ++ p.name ∷ [] = take_more (names ports) i p.name (omega arith) ∙ ap (λ n. take i (names ports) ++ n ∷ []) at in
    let cut : take i (names ports) ≡ names (take i ports) = take-map (λ (q : Port). q.name) i ports in
    let P : List (List ℕ) → Type 0 = λ ns. AllPairs (λ x y. x ≢ y) ns in
    subst P (sym more)
    (all_pairs_push (λ x y. x ≢ y) (take i (names ports)) p.name before
    (λ k d lk same.
    differs-from_None ports i k p.name d fresh
    (let same_size : length (take i (names ports)) ≡ length (take i ports) = ap length cut ∙ length-map (take i ports) (λ (q : Port). q.name) in omega arith)
    (ap (λ ns. get_or ns k d) (sym cut) ∙ same)))

-- a name that stands earlier too
pub not_distinct :
    (ports : List Port) (i j : ℕ) (p : Port) → i < length ports → get_or ports i p ≡ p → place_of (take i ports) p.name ≡ Some j
    → AllPairs (λ x y. x ≢ y) (names ports) → ⊥
not_distinct ports i j p l e found apart =
    let f = position_from-Some (λ (q : Port). bytes_eq p.name q.name) (take i ports) 0 j found in
    let short : length (take i ports) ≡ i = length-take-le i ports (omega arith) in
    let size : length (names ports) ≡ length ports = length-map ports (λ (q : Port). q.name) in
    let below : j < i = omega (arith, f.within) in
    let z : j - 0 ≡ j = omega arith in
    let passes : bytes_eq p.name (get_or (take i ports) (j - 0) p).name ≡ true = f.passes p in
    let same : p.name ≡ (get_or (take i ports) (j - 0) p).name = (bytes_eq-Decides p.name (get_or (take i ports) (j - 0) p).name).0 passes in
    let here : get_or (take i ports) (j - 0) p ≡ get_or ports j p = ap (λ n. get_or (take i ports) n p) z ∙ get_or-take i ports j p below in
    let at_j : get_or (names ports) j p.name ≡ (get_or ports j p).name = get_or-map (λ (q : Port). q.name) ports j p p.name (omega arith) in
    let at_i : get_or (names ports) i p.name ≡ (get_or ports i p).name = get_or-map (λ (q : Port). q.name) ports i p p.name l in
    apart j i p.name below (omega arith)
    (at_j ∙ ap (λ (q : Port). q.name) (sym here) ∙ sym same ∙ sym (ap (λ (q : Port). q.name) e) ∙ sym at_i)
