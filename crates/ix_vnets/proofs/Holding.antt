-- Widths by name, one port after another.
use Rattle.std.proofs.Common.{◌≡◌, ◌≢◌, ℕ, zero, suc, ◌+◌, ◌<◌, ◌≤◌, ◌⊎◌, List, [], ◌∷◌, ◌++◌, length, take, get_or, Bool, true, false, refl, ap, sym, ◌∙◌, subst, arith, append_assoc, inl, inr, Option, Some, None}
use Rattle.std.specs.Prelude.{Contains, AllPairs, cond}
use Rattle.std.specs.Str.{bytes_eq}
use Rattle.std.proofs.lemmas.Bool.{false_from_ne_true}
use Rattle.std.proofs.lemmas.List.{map-append, take_all, append-nil}
use Rattle.std.proofs.lemmas.Option.{same_Some}
use Rattle.std.proofs.lemmas.List.Elements.{Contains-append_left, Contains-push, Contains-push_cases}
use Rattle.std.proofs.lemmas.Slice.Eq.{bytes_eq-Decides}
use Rattle.ix_net.specs.declared.netlist.Port.{Port}
use Rattle.ix_net.specs.Valid.{names}
use Rattle.ix_verilog.specs.declared.source.Source.{Source}
use Rattle.ix_verilog.specs.Words.{Word}
use Rattle.ix_verilog.specs.Subset.{declared}
use Rattle.ix_verilog.proofs.Pairs.{pairs_left, pairs_cross, contains_mapped}
use Rattle.ix_vnets.specs.Widths.{Has}
use Rattle.ix_vnets.specs.WidthTables.{Map, found, AreApart, Holds}

-- ports that are apart, and one more
apart_more : (xs : List Port) (p : Port) → AreApart (xs ++ p ∷ []) → (n : Word) (w : ℕ) → Has xs n w → n ≢ p.name
apart_more xs p h n w c =
    let names_are : names (xs ++ p ∷ []) ≡ names xs ++ p.name ∷ [] = map-append (λ (q : Port). q.name) xs (p ∷ []) in
    let apart : AllPairs (λ x y. x ≢ y) (names xs ++ p.name ∷ []) = subst (AllPairs (λ x y. x ≢ y)) names_are h in
    pairs_cross (λ x y. x ≢ y) (names xs) (p.name ∷ []) apart n p.name (contains_mapped (λ (q : Port). q.name) xs (record { name = n; width = w }) c) (0, omega arith, refl)

-- what an insertion leaves
abbrev pub IsMore : Map → Map → Port → Type 0
IsMore m k p = (q : Word) → found k q ≡ cond (bytes_eq p.name q) (Some p.width) (found m q)

with_port : (b : Bool) (p : Port) (o : Option ℕ) (w : ℕ) → cond b (Some p.width) o ≡ Some w → ((b ≡ true) × (p.width ≡ w)) ⊎ ((b ≡ false) × (o ≡ Some w))
with_port true p o w e = inl (refl, same_Some p.width w e)
with_port false p o w e = inr (refl, e)

holds_more : (m k : Map) (xs : List Port) (p : Port) → AreApart (xs ++ p ∷ []) → Holds xs m → IsMore m k p → Holds (xs ++ p ∷ []) k
holds_more m k xs p apart h g n w = (to, from)
  where
    to : found k n ≡ Some w → Has (xs ++ p ∷ []) n w
    to e = elim (with_port (bytes_eq p.name n) p (found m n) w (sym (g n) ∙ e)) [
      | inl a ↦ (let name : p.name ≡ n = (bytes_eq-Decides p.name n).0 a.0 in
          let at : Contains (xs ++ p ∷ []) p = Contains-push xs p in
          let same : p ≡ record { name = n; width = w } = ap (λ z. record { name = z; width = p.width }) name ∙ ap (λ z. record { name = n; width = z }) a.1 in
          subst (Contains (xs ++ p ∷ [])) same at)
      | inr a ↦ Contains-append_left xs (p ∷ []) (record { name = n; width = w }) ((h n w).0 a.1)
    ]

    from : Has (xs ++ p ∷ []) n w → found k n ≡ Some w
    from c = elim (Contains-push_cases xs p (record { name = n; width = w }) c) [
      | inl a ↦ (let other : bytes_eq p.name n ≡ false = false_from_ne_true (bytes_eq p.name n) (λ t. apart_more xs p apart n w a (sym ((bytes_eq-Decides p.name n).0 t))) in
          g n ∙ ap (λ b. cond b (Some p.width) (found m n)) other ∙ (h n w).1 a)
      | inr e ↦ (let same : bytes_eq p.name n ≡ true = (bytes_eq-Decides p.name n).1 (ap (λ (q : Port). q.name) e) in
          g n ∙ ap (λ b. cond b (Some p.width) (found m n)) same ∙ ap (λ (q : Port). Some q.width) e)
    ]

at_more : {X : Type 0} (xs : List X) (i : ℕ) (x : X) → x ≡ get_or xs i x → i < length xs → (rest : List X) × (xs ≡ take i xs ++ x ∷ rest) × (take (i + 1) xs ≡ take i xs ++ x ∷ [])
at_more [] i x e l = absurd (omega (arith, l))
at_more (y ∷ xs) zero x e l = (xs, ap (λ z. z ∷ xs) (sym e), ap (λ z. z ∷ []) (sym e))
at_more (y ∷ xs) (suc i) x e l =
    let r = at_more xs i x e (omega (arith, l)) in
    let k : suc i + 1 ≡ suc (i + 1) = omega arith in
    (r.0, ap (λ z. y ∷ z) r.1, ap (λ j. take j (y ∷ xs)) k ∙ ap (λ z. y ∷ z) r.2)

apart_front : (front xs rest : List Port) (p : Port) → AreApart (front ++ (xs ++ p ∷ rest)) → AreApart ((front ++ xs) ++ p ∷ [])
apart_front front xs rest p h =
    let cut : front ++ (xs ++ p ∷ rest) ≡ ((front ++ xs) ++ p ∷ []) ++ rest =
    sym (append_assoc front xs (p ∷ rest)) ∙ sym (append_assoc (front ++ xs) (p ∷ []) rest) in
    let split : names (((front ++ xs) ++ p ∷ []) ++ rest) ≡ names ((front ++ xs) ++ p ∷ []) ++ names rest = map-append (λ (q : Port). q.name) ((front ++ xs) ++ p ∷ []) rest in
    let whole : AreApart (((front ++ xs) ++ p ∷ []) ++ rest) = subst AreApart cut h in
    pairs_left (λ x y. x ≢ y) (names ((front ++ xs) ++ p ∷ [])) (names rest) (subst (AllPairs (λ x y. x ≢ y)) split whole)

pub next_port : (m k : Map) (front xs : List Port) (i : ℕ) (p : Port) → p ≡ get_or xs i p → i < length xs → AreApart (front ++ xs) → Holds (front ++ take i xs) m → IsMore m k p → Holds (front ++ take (i + 1) xs) k
next_port m k front xs i p e l apart h g =
    let r = at_more xs i p e l in
    let here : AreApart ((front ++ take i xs) ++ p ∷ []) = apart_front front (take i xs) r.0 p (subst (λ z. AreApart (front ++ z)) r.1 apart) in
    let q : (front ++ take i xs) ++ p ∷ [] ≡ front ++ take (i + 1) xs = append_assoc front (take i xs) (p ∷ []) ∙ ap (λ z. front ++ z) (sym r.2) in
    subst (λ z. Holds z k) q (holds_more m k (front ++ take i xs) p here h g)

pub last_port : (m : Map) (front xs : List Port) (i : ℕ) → length xs ≤ i → Holds (front ++ take i xs) m → Holds (front ++ xs) m
last_port m front xs i l h = subst (λ z. Holds (front ++ z) m) (take_all i xs l) h

empty_found : (m : Map) (q : Word) → m.entries ≡ [] → found m q ≡ None
empty_found m q e = rw e refl

pub holds_none : (m : Map) → m.entries ≡ [] → Holds [] m
holds_none m e n w = ((λ f. absurd (never w (sym (empty_found m n e) ∙ f))), λ c. absurd (omega (arith, c.1)))
  where
    never : (v : ℕ) → None ≡ Some v → ⊥
    never v f = cc

pub first_port : (m : Map) (front : List Port) → Holds front m → Holds (front ++ []) m
first_port m front h = subst (λ z. Holds z m) (sym (append-nil front)) h

apart_left : (xs ys : List Port) → AreApart (xs ++ ys) → AreApart xs
apart_left xs ys h = pairs_left (λ x y. x ≢ y) (names xs) (names ys) (subst (AllPairs (λ x y. x ≢ y)) (map-append (λ (q : Port). q.name) xs ys) h)

-- what putting ports into a map does
abbrev pub Puts : Map → List Port → Map → Type 0
Puts m ports k = (front : List Port) → AreApart (front ++ ports) → Holds front m → Holds (front ++ ports) k

pub declared_holds : (s : Source) (i o w r : List Port) (m0 m1 m2 m3 m4 : Map) → i ≡ s.inputs → o ≡ s.outputs → w ≡ s.wires → r ≡ s.registers
    → Holds [] m0 → Puts m0 i m1 → Puts m1 o m2 → Puts m2 w m3 → Puts m3 r m4 → AreApart (declared s) → Holds (declared s) m4
declared_holds s i o w r m0 m1 m2 m3 m4 a b c d h p q t u apart =
    let same : ((i ++ o) ++ w) ++ r ≡ declared s =
    ap (λ z. z ++ r) (append_assoc i o w) ∙ ap (λ z. (z ++ (o ++ w)) ++ r) a ∙ ap (λ z. (s.inputs ++ (z ++ w)) ++ r) b ∙ ap (λ z. (s.inputs ++ (s.outputs ++ z)) ++ r) c ∙ ap (λ z. (s.inputs ++ (s.outputs ++ s.wires)) ++ z) d in
    let whole : AreApart (((i ++ o) ++ w) ++ r) = subst AreApart (sym same) apart in
    let three : AreApart ((i ++ o) ++ w) = apart_left ((i ++ o) ++ w) r whole in
    let two : AreApart (i ++ o) = apart_left (i ++ o) w three in
    let one : AreApart i = apart_left i o two in
    let x : Holds i m1 = p [] one h in
    let y : Holds (i ++ o) m2 = q i two x in
    let z : Holds ((i ++ o) ++ w) m3 = t (i ++ o) three y in
    subst (λ l. Holds l m4) same (u ((i ++ o) ++ w) whole z)
