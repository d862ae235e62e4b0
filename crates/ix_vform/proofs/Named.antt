-- Lists with an element of a name, and what a name is first.
use Rattle.std.proofs.Common.{◌≡◌, ◌⊎◌, ℕ, suc, ◌+◌, ◌<◌, ◌≤◌, List, [], ◌∷◌, ◌++◌, map, length, get_or, Bool, true, false, refl, ap, sym, ◌∙◌, subst, arith, inl, inr, Some}
use Rattle.std.specs.Prelude.{◌||◌, IsTrue, ◌↔◌, Contains, slice_get}
use Rattle.std.specs.List.{list_any}
use Rattle.std.specs.Str.{bytes_eq}
use Rattle.std.proofs.lemmas.Bool.{or_cases, true≢false, cases_order}
use Rattle.std.proofs.lemmas.List.{map-append, get_or_default}
use Rattle.std.proofs.lemmas.Option.{slice_get_read, slice_get_within, same_Some}
use Rattle.std.proofs.lemmas.List.Elements.{Contains-append_left, Contains-append_right, Contains-append_cases}
use Rattle.std.proofs.lemmas.Slice.Eq.{bytes_eq-Decides}
use Rattle.ix_net.specs.declared.netlist.Port.{Port}
use Rattle.ix_net.specs.Valid.{names}
use Rattle.ix_verilog.specs.declared.source.Source.{Source}
use Rattle.ix_verilog.specs.Words.{Word}
use Rattle.ix_verilog.specs.Subset.{Names, declared, assigned, IsNext, IsTarget}
use Rattle.ix_vline.specs.Slots.{HasTarget}
use Rattle.ix_verilog.proofs.Pairs.{head_case, mapped_back, contains_mapped}
use Rattle.ix_vform.specs.declared.role.Role.{Role}
use Rattle.ix_vform.specs.declared.role.Role.TheVariants.{Input, Assigned, Register}
use Rattle.ix_vform.specs.Roles.{IsRole, HasOne}

-- ---- a test for each element
or_left : (a b : Bool) → a ≡ true → (a || b) ≡ true
or_left true b e = refl
or_left false b e = absurd (true≢false (sym e))

or_right : (a b : Bool) → b ≡ true → (a || b) ≡ true
or_right true b e = refl
or_right false b e = e

any_contains : {X : Type 0} (f : X → Word) (xs : List X) (n : Word) → list_any (λ x. bytes_eq (f x) n) xs ≡ true → Contains (map f xs) n
any_contains f [] n h = absurd (true≢false (sym h))
any_contains f (x ∷ xs) n h = elim (or_cases (bytes_eq (f x) n) (list_any (λ x. bytes_eq (f x) n) xs) h) [
  | inl e ↦ (0, omega arith, (bytes_eq-Decides (f x) n).0 e)
  | inr e ↦ (let r = any_contains f xs n e in (suc r.0, omega (arith, r.1), r.2))
]

contains_any : {X : Type 0} (f : X → Word) (xs : List X) (n : Word) → Contains (map f xs) n → list_any (λ x. bytes_eq (f x) n) xs ≡ true
contains_any f [] n c = absurd (omega (arith, c.1))
contains_any f (x ∷ xs) n c = elim (head_case (f x) (map f xs) n c) [
  | inl e ↦ or_left (bytes_eq (f x) n) (list_any (λ x. bytes_eq (f x) n) xs) ((bytes_eq-Decides (f x) n).1 e)
  | inr k ↦ or_right (bytes_eq (f x) n) (list_any (λ x. bytes_eq (f x) n) xs) (contains_any f xs n k)
]

pub any_named : {X : Type 0} (f : X → Word) (xs : List X) (n : Word) (r : Bool) → r ≡ list_any (λ x. bytes_eq (f x) n) xs → IsTrue r ↔ Contains (map f xs) n
any_named f xs n r e = ((λ t. any_contains f xs n (sym e ∙ t)), λ c. e ∙ contains_any f xs n c)

-- ---- names of lists one behind the other
pub names_left : (xs ys : List Port) (n : Word) → Names xs n → Names (xs ++ ys) n
names_left xs ys n h = subst (λ z. Contains z n) (sym (map-append (λ (p : Port). p.name) xs ys)) (Contains-append_left (names xs) (names ys) n h)

pub names_right : (xs ys : List Port) (n : Word) → Names ys n → Names (xs ++ ys) n
names_right xs ys n h = subst (λ z. Contains z n) (sym (map-append (λ (p : Port). p.name) xs ys)) (Contains-append_right (names xs) (names ys) n h)

pub names_cases : (xs ys : List Port) (n : Word) → Names (xs ++ ys) n → Names xs n ⊎ Names ys n
names_cases xs ys n h = Contains-append_cases (names xs) (names ys) n (subst (λ z. Contains z n) (map-append (λ (p : Port). p.name) xs ys) h)

-- ---- roles
pub role_declared : (s : Source) (n : Word) (r : Role) → IsRole s n r → Names (declared s) n
role_declared s n Input h = names_left (s.inputs ++ assigned s) s.registers n (names_left s.inputs (assigned s) n h)
role_declared s n Assigned h = names_left (s.inputs ++ assigned s) s.registers n (names_right s.inputs (assigned s) n h.1)
role_declared s n Register h = names_right (s.inputs ++ assigned s) s.registers n h.1

-- ---- ports that were passed
abbrev pub NonePassed : (Word → Type 0) → List Port → ℕ → Type 0
NonePassed P ports i = (k : ℕ) (d : Port) → k < i → P (get_or ports k d).name → ⊥

pub none_more : (P : Word → Type 0) (ports : List Port) (i : ℕ) (x : Port) → x ≡ get_or ports i x → i < length ports → (P x.name → ⊥) → NonePassed P ports i → NonePassed P ports (i + 1)
none_more P ports i x e l f h k d m p = elim (cases_order k i) [
  | inl s ↦ f (subst (λ (q : Port). P q.name) (get_or_default ports i d x l ∙ sym e) (subst (λ j. P (get_or ports j d).name) s p))
  | inr t ↦ elim t [ inl s ↦ h k d s p | inr s ↦ omega (arith, s, m) ]
]

-- a name among those of ports is that of one
pub none_at_all : (P : Word → Type 0) (ports : List Port) → NonePassed P ports (length ports) → (n : Word) → Names ports n → P n → ⊥
none_at_all P ports h n c p =
    let r = mapped_back (λ (q : Port). q.name) ports n c in
    h r.1.0 r.0 r.1.1 (subst (λ (q : Port). P q.name) (sym r.1.2) (subst P (sym r.2) p))

pub one_named : (ports : List Port) (i : ℕ) (x : Port) → x ≡ get_or ports i x → i < length ports → Names ports x.name
one_named ports i x e l = contains_mapped (λ (q : Port). q.name) ports x (i, l, sym e)

-- each port that was passed
abbrev pub EachPassed : (Word → Type 0) → List Port → ℕ → Type 0
EachPassed P ports i = (k : ℕ) (d : Port) → k < i → P (get_or ports k d).name

pub each_more : (P : Word → Type 0) (ports : List Port) (i : ℕ) (x : Port) → x ≡ get_or ports i x → i < length ports → P x.name → EachPassed P ports i → EachPassed P ports (i + 1)
each_more P ports i x e l f h k d m = elim (cases_order k i) [
  | inl s ↦ subst (λ j. P (get_or ports j d).name) (sym s) (subst (λ (q : Port). P q.name) (e ∙ sym (get_or_default ports i d x l)) f)
  | inr t ↦ elim t [ inl s ↦ h k d s | inr s ↦ omega (arith, s, m) ]
]

-- ---- the port that is declared next
pub next_some : (s : Source) (xs ys : List Port) (zs : List Word) (n w : Word) (r : Bool) → xs ≡ s.inputs → ys ≡ s.outputs → zs ≡ s.ports → length xs + length ys < length zs → n ≡ get_or zs (length xs + length ys) n
    → r ≡ bytes_eq n w → IsTrue r ↔ IsNext s w
next_some s xs ys zs n w r a b c l e f =
    let i : length xs + length ys ≡ length s.inputs + length s.outputs = ap (λ (z : List Port). length z + length ys) a ∙ ap (λ (z : List Port). length s.inputs + length z) b in
    let g : slice_get zs (length xs + length ys) ≡ Some n = slice_get_read zs (length zs) (length xs + length ys) n refl l e in
    let h : slice_get s.ports (length s.inputs + length s.outputs) ≡ Some n = ap (slice_get s.ports) (sym i) ∙ ap (λ (z : List Word). slice_get z (length xs + length ys)) (sym c) ∙ g in
    ((λ t. h ∙ ap Some ((bytes_eq-Decides n w).0 (sym f ∙ t))), λ k. f ∙ (bytes_eq-Decides n w).1 (same_Some n w (sym h ∙ k)))

pub next_none : (s : Source) (xs ys : List Port) (zs : List Word) (w : Word) → xs ≡ s.inputs → ys ≡ s.outputs → zs ≡ s.ports → length zs ≤ length xs + length ys → IsTrue false ↔ IsNext s w
next_none s xs ys zs w a b c l =
    let i : length xs + length ys ≡ length s.inputs + length s.outputs = ap (λ (z : List Port). length z + length ys) a ∙ ap (λ (z : List Port). length s.inputs + length z) b in
    let j : length zs ≡ length s.ports = ap length c in
    ((λ t. absurd (true≢false (sym t))), λ k. (let m = slice_get_within s.ports (length s.inputs + length s.outputs) w k in absurd (omega (arith, i, j, l, m))))

-- ---- what an `assign` may drive
pub target_in : (s : Source) (xs ys : List Port) (a b : Bool) → xs ≡ s.outputs → ys ≡ s.wires → IsTrue a ↔ HasOne (IsTarget s) xs → a ≡ false → IsTrue b ↔ HasOne (IsTarget s) ys → IsTrue b ↔ HasTarget s
target_in s xs ys a b e f g h k = (
  (λ t. (let r = k.0 t in (r.0, r.2))),
  λ r. elim (names_cases s.outputs s.wires r.0 r.1.declared_so) [
    | inl o ↦ absurd (true≢false (sym (g.1 (r.0, subst (λ z. Names z r.0) (sym e) o, r.1)) ∙ h))
    | inr o ↦ k.1 (r.0, subst (λ z. Names z r.0) (sym f) o, r.1)
  ],
)
