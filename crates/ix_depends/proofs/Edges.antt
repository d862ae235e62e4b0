-- An argument of an operation is joined to it by an edge.
use Rattle.std.proofs.Common.{◌≡◌, ℕ, zero, suc, ◌+◌, ◌<◌, ◌⊎◌, inl, inr, Bool, true, List, [], ◌∷◌, map, Some, refl, ap, sym, ◌∙◌, subst, arith}
use Rattle.std.specs.Prelude.{Contains, filter, slice_get}
use Rattle.std.specs.List.{list_any, range_with_len}
use Rattle.std.proofs.lemmas.Bool.{cases_Bool, eq-eqb}
use Rattle.std.proofs.lemmas.Option.{same_Some}
use Rattle.std.proofs.lemmas.List.Elements.{Contains-append_left, Contains-append_right}
use Rattle.ix_graph.specs.declared.args.Arg.{Arg}
use Rattle.ix_graph.specs.declared.args.Arg.TheVariants as arg
use Rattle.ix_graph.specs.declared.graph.Op.{Op}
use Rattle.ix_sheet.specs.Behaviours.{names_op, edges_into, edges_from}

contains_head : {X : Type 0} (x y : X) (xs : List X) → x ≡ y → Contains (x ∷ xs) y
contains_head x y xs e = (0, omega arith, e)

contains_tail : {X : Type 0} (x y : X) (xs : List X) → Contains xs y → Contains (x ∷ xs) y
contains_tail x y xs (k, h, e) = (suc k, omega arith, e)

contains_cases : {X : Type 0} (x y : X) (xs : List X) → Contains (x ∷ xs) y → (x ≡ y) ⊎ Contains xs y
contains_cases x y xs (zero, h, e) = inl e
contains_cases x y xs (suc k, h, e) = inr (k, omega arith, e)

contains_nothing : {X : Type 0} (y : X) → Contains [] y → ⊥
contains_nothing y (k, h, e) = absurd (omega arith)

contains_map : {X Y : Type 0} (f : X → Y) (x : X) (xs : List X) → Contains xs x → Contains (map f xs) (f x)
contains_map f x [] c = absurd (contains_nothing x c)
contains_map f x (y ∷ xs) c = elim (contains_cases y x xs c) [
  | inl same ↦ contains_head (f y) (f x) (map f xs) (ap f same)
  | inr later ↦ contains_tail (f y) (f x) (map f xs) (contains_map f x xs later)
]

range_contains : (a n k j : ℕ) → a + k ≡ j → k < n → Contains (range_with_len a n) j
range_contains a zero k j e h = absurd (omega arith)
range_contains a (suc n) zero j e h = contains_head a j (range_with_len (a + 1) n) (omega arith)
range_contains a (suc n) (suc k) j e h = contains_tail a j (range_with_len (a + 1) n) (range_contains (a + 1) n k j (omega arith) (omega arith))

names_itself : (i : ℕ) (a : Arg) → a ≡ arg.Op i → names_op i a ≡ true
names_itself i a e = rw e (eq-eqb i i refl)

any_head : (p : Arg → Bool) (a : Arg) (args : List Arg) → p a ≡ true → list_any p (a ∷ args) ≡ true
any_head p a args h = rw h refl

any_tail : (p : Arg → Bool) (a : Arg) (args : List Arg) → list_any p args ≡ true → list_any p (a ∷ args) ≡ true
any_tail p a args h = elim (cases_Bool (p a)) [ inl t ↦ rw t refl | inr f ↦ rw f h ]

names_any : (i : ℕ) (args : List Arg) → Contains args (arg.Op i) → list_any (names_op i) args ≡ true
names_any i [] h = absurd (contains_nothing (arg.Op i) h)
names_any i (a ∷ args) h =
    elim (contains_cases a (arg.Op i) args h) [
      | inl e ↦ any_head (names_op i) a args (names_itself i a e)
      | inr later ↦ any_tail (names_op i) a args (names_any i args later)
    ]

kept_all : (p : ℕ → Bool) (xs : List ℕ) (i : ℕ) → Contains xs i → p i ≡ true → Contains (filter p xs) i
kept_all p [] i h t = absurd (contains_nothing i h)
kept_all p (x ∷ xs) i h t =
    elim (contains_cases x i xs h) [
      | inl e ↦ (let px : p x ≡ true = ap p e ∙ t in rw px (contains_head x i (filter p xs) e))
      | inr later ↦
          elim (cases_Bool (p x)) [
            | inl u ↦ rw u (contains_tail x i (filter p xs) (kept_all p xs i later t))
            | inr f ↦ rw f (kept_all p xs i later t)
          ]
    ]

into_all : (i j : ℕ) (op : Op) → i < j → Contains op.args (arg.Op i) → Contains (edges_into j op) (i, j)
into_all i j op less h =
    contains_map (λ (n : ℕ). (n, j)) i (filter (λ n. list_any (names_op n) op.args) (range_with_len 0 j))
    (kept_all (λ n. list_any (names_op n) op.args) (range_with_len 0 j) i (range_contains 0 j i i (omega arith) less) (names_any i op.args h))

pub all_from : (i j k : ℕ) (ops : List Op) (op : Op) → slice_get ops k ≡ Some op → i < j + k → Contains op.args (arg.Op i) → Contains (edges_from j ops) (i, j + k)
all_from i j k [] op g less h = cc
all_from i j zero (x ∷ ops) op g less h =
    let same : x ≡ op = same_Some x op g in
    let P : Op → Type 0 = λ o. Contains o.args (arg.Op i) in
    let here : Contains (edges_into j x) (i, j) = into_all i j x (omega arith) (subst P (sym same) h) in
    let e : j ≡ j + 0 = omega arith in
    let Q : ℕ → Type 0 = λ n. Contains (edges_from j (x ∷ ops)) (i, n) in
    subst Q e (Contains-append_left (edges_into j x) (edges_from (j + 1) ops) (i, j) here)
all_from i j (suc k) (x ∷ ops) op g less h =
    let later : Contains (edges_from (j + 1) ops) (i, j + 1 + k) = all_from i (j + 1) k ops op g (omega arith) h in
    let e : j + 1 + k ≡ j + suc k = omega arith in
    let Q : ℕ → Type 0 = λ n. Contains (edges_from j (x ∷ ops)) (i, n) in
    subst Q e (Contains-append_right (edges_into j x) (edges_from (j + 1) ops) (i, j + 1 + k) later)
