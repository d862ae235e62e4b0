-- Names that were seen.
use Rattle.std.proofs.Common.{◌≡◌, ◌≢◌, ◌⊎◌, ℕ, zero, suc, ◌+◌, ◌<◌, ◌≤◌, List, [], ◌∷◌, ◌++◌, length, take, drop, get_or, map, Bool, true, false, not, refl, ap, sym, ◌∙◌, subst, arith, append_assoc, inl, inr, Option, Some, None}
use Rattle.std.specs.Prelude.{Contains, AllPairs, IsTrue, ◌↔◌, ◌||◌, String, MatchOption, Result, Ok, Err, IfOk, cond}
use Rattle.std.specs.BTreeSet.{BTreeSet, contains_text}
use Rattle.std.specs.Str.{bytes_eq}
use Rattle.std.proofs.lemmas.Bool.{or_cases, true≢false}
use Rattle.std.proofs.lemmas.List.{append-nil, map-append, take_all}
use Rattle.std.proofs.lemmas.Option.{same_Some}
use Rattle.std.proofs.lemmas.List.Elements.{Contains-append_left, Contains-push, Contains-push_cases}
use Rattle.std.proofs.lemmas.Slice.Eq.{bytes_eq-Decides}
use Rattle.ix_net.specs.declared.netlist.Port.{Port}
use Rattle.ix_net.specs.Valid.{names}
use Rattle.ix_verilog.specs.declared.source.Source.{Source}
use Rattle.ix_verilog.specs.Words.{Word}
use Rattle.ix_verilog.specs.Subset.{declared, assigned}
use Rattle.ix_verilog.proofs.Pairs.{pairs_append}
use Rattle.ix_vnets.specs.Names.{AreOnce, AllOnce, FirstTwice, IsFirstTwice, said, said_in}
use Rattle.ix_vnets.specs.Sets.{IsSet}

-- the set after one more name
abbrev pub IsMore : {Y : Type 0} → BTreeSet (String Y) → BTreeSet (String Y) → Word → Type 0
IsMore m k n = (q : Word) → contains_text k q ≡ (bytes_eq n q || contains_text m q)

one_name : (n : Word) → AreOnce (n ∷ [])
one_name n = λ i j d l k. absurd (omega (arith, l, k))

or_left : (a b : Bool) → a ≡ true → (a || b) ≡ true
or_left true b e = refl
or_left false b e = absurd (true≢false (sym e))

or_right : (a b : Bool) → b ≡ true → (a || b) ≡ true
or_right true b e = refl
or_right false b e = e

single : (n y : Word) → Contains (n ∷ []) y → n ≡ y
single n y c = go c.0 c.1 c.2
  where
    go : (k : ℕ) → k < length (n ∷ []) → get_or (n ∷ []) k y ≡ y → n ≡ y
    go zero l e = e
    go (suc k) l e = absurd (omega (arith, l))

not_twice : (b : Bool) → true ≡ not b → b ≡ true → ⊥
not_twice true e f = true≢false e
not_twice false e f = true≢false (sym f)

pub set_more : {Y : Type 0} (m k : BTreeSet (String Y)) (xs : List Word) (n : Word) → IsSet m xs → true ≡ not (contains_text m n) → IsMore m k n → IsSet k (xs ++ n ∷ [])
set_more m k xs n s f g = record {
  once = pairs_append (λ x y. x ≢ y) xs (n ∷ []) s.once (one_name n) (λ x y c d e. not_twice (contains_text m n) f ((s.has n).1 (subst (Contains xs) (e ∙ sym (single n y d)) c)));
  has = λ q. (
    (λ t. elim (or_cases (bytes_eq n q) (contains_text m q) (sym (g q) ∙ t)) [
      | inl e ↦ subst (Contains (xs ++ n ∷ [])) ((bytes_eq-Decides n q).0 e) (Contains-push xs n)
      | inr e ↦ Contains-append_left xs (n ∷ []) q ((s.has q).0 e)
    ]),
    λ c. g q ∙ (elim (Contains-push_cases xs n q c) [
      | inl d ↦ or_right (bytes_eq n q) (contains_text m q) ((s.has q).1 d)
      | inr e ↦ or_left (bytes_eq n q) (contains_text m q) ((bytes_eq-Decides n q).1 e)
    ]),
  );
}

seen_before : (b : Bool) → false ≡ not b → b ≡ true
seen_before true e = refl
seen_before false e = absurd (true≢false (sym e))

pub set_twice : {Y : Type 0} (m : BTreeSet (String Y)) (xs rest : List Word) (n : Word) → IsSet m xs → false ≡ not (contains_text m n) → IsFirstTwice (xs ++ n ∷ rest) n
set_twice m xs rest n s f = record { front = xs; rest = rest; are = refl; once = s.once; again = (s.has n).0 (seen_before (contains_text m n) f) }

pub set_none : {Y : Type 0} (m : BTreeSet (String Y)) → ((q : Word) → contains_text m q ≡ false) → IsSet m []
set_none m e = record { once = λ i j d l k. absurd (omega (arith, k)); has = λ q. ((λ t. absurd (true≢false (sym t ∙ e q))), λ c. absurd (omega (arith, c.1))) }

-- a longer list
pub twice_more : (xs ys : List Word) (n : Word) → IsFirstTwice xs n → IsFirstTwice (xs ++ ys) n
twice_more xs ys n t = record { front = t.front; rest = t.rest ++ ys; are = ap (λ z. z ++ ys) t.are ∙ append_assoc t.front (n ∷ t.rest) ys; once = t.once; again = t.again }

-- ---- elements one after another
at_more : {X : Type 0} (xs : List X) (i : ℕ) (x : X) → x ≡ get_or xs i x → i < length xs → (rest : List X) × (xs ≡ take i xs ++ x ∷ rest) × (take (i + 1) xs ≡ take i xs ++ x ∷ [])
at_more [] i x e l = absurd (omega (arith, l))
at_more (y ∷ xs) zero x e l = (xs, ap (λ z. z ∷ xs) (sym e), ap (λ z. z ∷ []) (sym e))
at_more (y ∷ xs) (suc i) x e l =
    let r = at_more xs i x e (omega (arith, l)) in
    let k : suc i + 1 ≡ suc (i + 1) = omega arith in
    (r.0, ap (λ z. y ∷ z) r.1, ap (λ j. take j (y ∷ xs)) k ∙ ap (λ z. y ∷ z) r.2)

-- the names so far, and one more
pub next_set : {X Y : Type 0} (f : X → Word) (m k : BTreeSet (String Y)) (front : List Word) (xs : List X) (i : ℕ) (x : X) → x ≡ get_or xs i x → i < length xs → IsSet m (front ++ map f (take i xs))
    → true ≡ not (contains_text m (f x)) → IsMore m k (f x) → IsSet k (front ++ map f (take (i + 1) xs))
next_set f m k front xs i x e l s t g =
    let r = at_more xs i x e l in
    let q : front ++ map f (take (i + 1) xs) ≡ (front ++ map f (take i xs)) ++ f x ∷ [] = ap (λ z. front ++ map f z) r.2 ∙ ap (λ z. front ++ z) (map-append f (take i xs) (x ∷ [])) ∙ sym (append_assoc front (map f (take i xs)) (f x ∷ [])) in
    subst (IsSet k) (sym q) (set_more m k (front ++ map f (take i xs)) (f x) s t g)

pub next_twice : {X Y : Type 0} (f : X → Word) (m : BTreeSet (String Y)) (front : List Word) (xs : List X) (i : ℕ) (x : X) → x ≡ get_or xs i x → i < length xs → IsSet m (front ++ map f (take i xs))
    → false ≡ not (contains_text m (f x)) → IsFirstTwice (front ++ map f xs) (f x)
next_twice f m front xs i x e l s t =
    let r = at_more xs i x e l in
    let q : front ++ map f xs ≡ (front ++ map f (take i xs)) ++ f x ∷ map f r.0 =
    ap (λ z. front ++ map f z) r.1 ∙ ap (λ z. front ++ z) (map-append f (take i xs) (x ∷ r.0)) ∙ sym (append_assoc front (map f (take i xs)) (f x ∷ map f r.0)) in
    subst (λ z. IsFirstTwice z (f x)) (sym q) (set_twice m (front ++ map f (take i xs)) (map f r.0) (f x) s t)

-- ---- what a module declares
abbrev pub with_inputs : Source → List Word
with_inputs s = (s.name ∷ []) ++ names s.inputs

abbrev pub with_outputs : Source → List Word
with_outputs s = with_inputs s ++ names s.outputs

abbrev pub with_wires : Source → List Word
with_wires s = with_outputs s ++ names s.wires

pub all_declared : (s : Source) → with_wires s ++ names s.registers ≡ s.name ∷ names (declared s)
all_declared s =
    let f : Port → Word = λ p. p.name in
    let a : names (declared s) ≡ (names s.inputs ++ (names s.outputs ++ names s.wires)) ++ names s.registers =
    map-append f (s.inputs ++ assigned s) s.registers ∙ ap (λ z. z ++ names s.registers) (map-append f s.inputs (assigned s) ∙ ap (λ z. names s.inputs ++ z) (map-append f s.outputs s.wires)) in
    let b : with_wires s ≡ s.name ∷ (names s.inputs ++ (names s.outputs ++ names s.wires)) = ap (λ z. s.name ∷ z) (append_assoc (names s.inputs) (names s.outputs) (names s.wires)) in
    ap (λ z. z ++ names s.registers) b ∙ ap (λ z. s.name ∷ z) (sym a)

-- ---- lists of lists
pub once_both : (xss yss : List (List Word)) → AllOnce xss → AllOnce yss → AllOnce (xss ++ yss)
once_both [] yss h k = k
once_both (xs ∷ xss) yss h k = (h.0, once_both xss yss h.1 k)

pub twice_left : (xss yss : List (List Word)) (n : Word) → FirstTwice xss n → FirstTwice (xss ++ yss) n
twice_left [] yss n h = absurd h
twice_left (xs ∷ xss) yss n (inl h) = inl h
twice_left (xs ∷ xss) yss n (inr h) = inr (h.0, twice_left xss yss n h.1)

pub twice_right : (xss yss : List (List Word)) (n : Word) → AllOnce xss → FirstTwice yss n → FirstTwice (xss ++ yss) n
twice_right [] yss n h k = k
twice_right (xs ∷ xss) yss n h k = inr (h.0, twice_right xss yss n h.1 k)

-- ---- what a call for one name says
pub step_set : {X Y : Type 0} (f : X → Word) (m k : BTreeSet (String Y)) (front : List Word) (xs : List X) (i : ℕ) (x : X) → x ≡ get_or xs i x → i < length xs → IsSet m (front ++ map f (take i xs)) → (n : Word) (b : Bool) → n ≡ f x
    → b ≡ not (contains_text m n) → b ≡ true → IsMore m k n → IsSet k (front ++ map f (take (i + 1) xs))
step_set f m k front xs i x e l s n b q p t g =
    next_set f m k front xs i x e l s (subst (λ z. true ≡ not (contains_text m z)) q (sym t ∙ p)) (subst (IsMore m k) q g)

pub step_twice : {X Y : Type 0} (f : X → Word) (m : BTreeSet (String Y)) (front : List Word) (xs : List X) (i : ℕ) (x : X) → x ≡ get_or xs i x → i < length xs → IsSet m (front ++ map f (take i xs)) → (n : Word) (b : Bool) → n ≡ f x
    → b ≡ not (contains_text m n) → b ≡ false → (r : Word) → r ≡ f x → IsFirstTwice (front ++ map f xs) r
step_twice f m front xs i x e l s n b q p t r z =
    subst (IsFirstTwice (front ++ map f xs)) (sym z) (next_twice f m front xs i x e l s (subst (λ w. false ≡ not (contains_text m w)) q (sym t ∙ p)))

pub at_end : {X Y : Type 0} (f : X → Word) (m : BTreeSet (String Y)) (front : List Word) (xs : List X) (i : ℕ) → length xs ≤ i → IsSet m (front ++ map f (take i xs)) → IsSet m (front ++ map f xs)
at_end f m front xs i l s = subst (λ z. IsSet m (front ++ map f z)) (take_all i xs l) s

-- a set of one name
pub set_one : {Y : Type 0} (m k : BTreeSet (String Y)) (n w : Word) → w ≡ n → ((q : Word) → contains_text m q ≡ false) → IsMore m k w → IsSet k (n ∷ [])
set_one m k n w e h g = set_more m k [] n (set_none m h) (ap not (sym (h n))) (subst (IsMore m k) e g)

-- ---- what a call for ports says
abbrev pub Sees : {Y : Type 0} → BTreeSet (String Y) → BTreeSet (String Y) → List Port → Option Word → Type 0
Sees m k ports twice = (front : List Word) → IsSet m front → MatchOption twice (IsSet k (front ++ names ports)) (IsFirstTwice (front ++ names ports))

pub some_seen : {Y : Type 0} (m k : BTreeSet (String Y)) (ps qs : List Port) (o : Option Word) (n : Word) (front : List Word) → Sees m k ps o → ps ≡ qs → o ≡ Some n → IsSet m front → IsFirstTwice (front ++ names qs) n
some_seen m k ps qs None n front h e f s = absurd (cc)
some_seen m k ps qs (Some x) n front h e f s =
    let g : x ≡ n = same_Some x n f in
    subst (λ z. IsFirstTwice (front ++ names z) n) e (subst (λ w. IsFirstTwice (front ++ names ps) w) g (h front s))

pub none_seen : {Y : Type 0} (m k : BTreeSet (String Y)) (ps qs : List Port) (o : Option Word) (front : List Word) → Sees m k ps o → ps ≡ qs → o ≡ None → IsSet m front → IsSet k (front ++ names qs)
none_seen m k ps qs None front h e f s = subst (λ z. IsSet k (front ++ names z)) e (h front s)
none_seen m k ps qs (Some x) front h e f s = absurd (cc)

-- the answer of the last call
abbrev pub IsDeclaredOnce : Source → Option Word → Type 0
IsDeclaredOnce s o = MatchOption o (AreOnce (s.name ∷ names (declared s))) (IsFirstTwice (s.name ∷ names (declared s)))

last_some : (s : Source) (n : Word) → IsFirstTwice (with_wires s ++ names s.registers) n → IsFirstTwice (s.name ∷ names (declared s)) n
last_some s n h = subst (λ z. IsFirstTwice z n) (all_declared s) h

pub last_seen : {E Y : Type 0} (s : Source) (m k : BTreeSet (String Y)) (ps : List Port) (r : Result (Option Word) E) → IfOk r (Sees m k ps) → ps ≡ s.registers → IsSet m (with_wires s) → IfOk r (IsDeclaredOnce s)
last_seen s m k ps (Err e) h q t = tt
last_seen s m k ps (Ok None) h q t = subst AreOnce (all_declared s) (subst (λ z. IsSet k (with_wires s ++ names z)) q (h (with_wires s) t)).once
last_seen s m k ps (Ok (Some n)) h q t = last_some s n (subst (λ z. IsFirstTwice (with_wires s ++ names z) n) q (h (with_wires s) t))

-- a name that is doubled early
pub early : (s : Source) (xs ys : List Word) (n : Word) → IsFirstTwice xs n → xs ++ ys ≡ with_wires s ++ names s.registers → IsFirstTwice (s.name ∷ names (declared s)) n
early s xs ys n t e = last_some s n (subst (λ z. IsFirstTwice z n) e (twice_more xs ys n t))

pub inputs_early : (s : Source) → with_inputs s ++ (names s.outputs ++ (names s.wires ++ names s.registers)) ≡ with_wires s ++ names s.registers
inputs_early s = sym (append_assoc (with_inputs s) (names s.outputs) (names s.wires ++ names s.registers)) ∙ sym (append_assoc (with_outputs s) (names s.wires) (names s.registers))

pub outputs_early : (s : Source) → with_outputs s ++ (names s.wires ++ names s.registers) ≡ with_wires s ++ names s.registers
outputs_early s = sym (append_assoc (with_outputs s) (names s.wires) (names s.registers))

-- the answer of a module's last list
pub module_end : {E : Type 0} (xs ys zs ws : List Word) (r : Result (Option Word) E) → IfOk r (λ o. MatchOption o (AreOnce zs) (IsFirstTwice zs)) → zs ≡ ws → AreOnce xs → AreOnce ys
    → IfOk r (λ o. MatchOption o (AllOnce (xs ∷ ys ∷ ws ∷ [])) (FirstTwice (xs ∷ ys ∷ ws ∷ [])))
module_end xs ys zs ws (Err e) h q a b = tt
module_end xs ys zs ws (Ok None) h q a b = (a, (b, (subst AreOnce q h, tt)))
module_end xs ys zs ws (Ok (Some n)) h q a b = inr (a, inr (b, inl (subst (λ z. IsFirstTwice z n) q h)))

pub some_told : (xs : List Word) (o : Option Word) (n : Word) → MatchOption o (AreOnce xs) (IsFirstTwice xs) → o ≡ Some n → IsFirstTwice xs n
some_told xs None n h e = absurd (cc)
some_told xs (Some x) n h e = subst (IsFirstTwice xs) (same_Some x n e) h

pub none_told : (xs : List Word) (o : Option Word) → MatchOption o (AreOnce xs) (IsFirstTwice xs) → o ≡ None → AreOnce xs
none_told xs None h e = h
none_told xs (Some x) h e = absurd (cc)

pub some_of : (xss : List (List Word)) (o : Option Word) (n : Word) → MatchOption o (AllOnce xss) (FirstTwice xss) → o ≡ Some n → FirstTwice xss n
some_of xss None n h e = absurd (cc)
some_of xss (Some x) n h e = subst (FirstTwice xss) (same_Some x n e) h

pub none_of : (xss : List (List Word)) (o : Option Word) → MatchOption o (AllOnce xss) (FirstTwice xss) → o ≡ None → AllOnce xss
none_of xss None h e = h
none_of xss (Some x) h e = absurd (cc)

pub cond_or : (a b : Bool) → cond a true b ≡ (a || b)
cond_or true b = refl
cond_or false b = refl

pub seen_twice : {Y : Type 0} (m : BTreeSet (String Y)) (xs : List Word) (n w : Word) (b : Bool) → IsSet m xs → w ≡ n → b ≡ not (contains_text m w) → b ≡ false → IsFirstTwice (xs ++ n ∷ []) n
seen_twice m xs n w b s q p t = set_twice m xs [] n s (subst (λ z. false ≡ not (contains_text m z)) q (sym t ∙ p))

pub seen_more : {Y : Type 0} (m k : BTreeSet (String Y)) (xs : List Word) (n w : Word) (b : Bool) → IsSet m xs → w ≡ n → b ≡ not (contains_text m w) → b ≡ true → IsMore m k w → IsSet k (xs ++ n ∷ [])
seen_more m k xs n w b s q p t g = set_more m k xs n s (subst (λ z. true ≡ not (contains_text m z)) q (sym t ∙ p)) (subst (IsMore m k) q g)
