-- The edges of a problem are those between an operation and its arguments.
use Rattle.std.proofs.Common.{◌≡◌, ℕ, zero, suc, ◌+◌, ◌<◌, inl, inr, Bool, true, List, [], ◌∷◌, Some, refl, ap, sym, ◌∙◌, subst, arith}
use Rattle.std.specs.Prelude.{All, Contains, filter, slice_get}
use Rattle.std.specs.List.{list_any, range_with_len}
use Rattle.std.proofs.lemmas.Bool.{cases_Bool, eqb-true, eq-eqb}
use Rattle.std.proofs.lemmas.Option.{same_Some}
use Rattle.std.proofs.lemmas.List.Elements.{All-nil, All-cons, All-map, All-append, All-weaker, All-contains, Contains-append_left, Contains-append_right}
use Rattle.ix_graph.specs.declared.args.Arg.{Arg}
use Rattle.ix_graph.specs.declared.args.Arg.TheVariants as arg
use Rattle.ix_graph.specs.declared.graph.Op.{Op}
use Rattle.ix_graph.specs.declared.graph.Graph.{Graph}
use Rattle.ix_graph.specs.Graphs.{IsValidGraph, IsArgument}
use Rattle.ix_sheet.specs.Behaviours.{names_op, edges_into, edges_from, IsEdge, AreEdges}
use Rattle.ix_sheet.proofs.Edges.{edges_in_order}
use Rattle.ix_problem.proofs.Lists.{contains_head, contains_tail, contains_cases, contains_nothing, contains_map, range_contains}

-- ---- a test that is passed, and an argument
names_is : (i : ℕ) (a : Arg) → names_op i a ≡ true → a ≡ arg.Op i
names_is i (arg.Op number) h = ap arg.Op (eqb-true number i h)
names_is i (arg.Const ty bits) h = cc

named : (i : ℕ) (args : List Arg) → list_any (names_op i) args ≡ true → Contains args (arg.Op i)
named i [] h = cc
named i (a ∷ args) h =
    elim (cases_Bool (names_op i a)) [
      | inl t ↦ contains_head a (arg.Op i) args (names_is i a t)
      | inr f ↦ contains_tail a (arg.Op i) args (named i args (rw f at h))
    ]

names_itself : (i : ℕ) (a : Arg) → a ≡ arg.Op i → names_op i a ≡ true
names_itself i a e = rw e (eq-eqb i i refl)

any_head : (p : Arg → Bool) (a : Arg) (args : List Arg) → p a ≡ true → list_any p (a ∷ args) ≡ true
any_head p a args h = rw h refl

any_tail : (p : Arg → Bool) (a : Arg) (args : List Arg) → list_any p args ≡ true → list_any p (a ∷ args) ≡ true
any_tail p a args h = elim (cases_Bool (p a)) [ inl t ↦ rw t refl | inr f ↦ rw f h ]

names_any : (i : ℕ) (args : List Arg) → Contains args (arg.Op i) → list_any (names_op i) args ≡ true
names_any i [] h = absurd (contains_nothing (arg.Op i) h)
names_any i (a ∷ args) h =
    elim (contains_cases a (arg.Op i) args h) [
      | inl e ↦ any_head (names_op i) a args (names_itself i a e)
      | inr later ↦ any_tail (names_op i) a args (names_any i args later)
    ]

-- ---- what a filter keeps
kept_pass : (p : ℕ → Bool) (xs : List ℕ) → All (λ i. p i ≡ true) (filter p xs)
kept_pass p [] = All-nil (λ i. p i ≡ true)
kept_pass p (x ∷ xs) =
    elim (cases_Bool (p x)) [
      | inl t ↦ rw t (All-cons (λ i. p i ≡ true) x (filter p xs) t (kept_pass p xs))
      | inr f ↦ rw f (kept_pass p xs)
    ]

kept_all : (p : ℕ → Bool) (xs : List ℕ) (i : ℕ) → Contains xs i → p i ≡ true → Contains (filter p xs) i
kept_all p [] i h t = absurd (contains_nothing i h)
kept_all p (x ∷ xs) i h t =
    elim (contains_cases x i xs h) [
      | inl e ↦ (let px : p x ≡ true = ap p e ∙ t in rw px (contains_head x i (filter p xs) e))
      | inr later ↦
          elim (cases_Bool (p x)) [
            | inl u ↦ rw u (contains_tail x i (filter p xs) (kept_all p xs i later t))
            | inr f ↦ rw f (kept_all p xs i later t)
          ]
    ]

-- ---- the edges of a list of operations whose first has the number j
record IsEdgeFrom (j : ℕ) (ops : List Op) (e : ℕ × ℕ) : Type 0 where
  place : ℕ
  end : e.1 ≡ j + place
  op : Op
  at : slice_get ops place ≡ Some op
  argument : Contains op.args (arg.Op e.0)

into_first : (j : ℕ) (op : Op) (ops : List Op) → All (IsEdgeFrom j (op ∷ ops)) (edges_into j op)
into_first j op ops =
    All-map (IsEdgeFrom j (op ∷ ops)) (λ i. (i, j)) (filter (λ i. list_any (names_op i) op.args) (range_with_len 0 j))
    (All-weaker (λ i. list_any (names_op i) op.args ≡ true) (λ i. IsEdgeFrom j (op ∷ ops) (i, j))
    (λ i h. record { place = 0; end = omega arith; op = op; at = refl; argument = named i op.args h })
    (filter (λ i. list_any (names_op i) op.args) (range_with_len 0 j)) (kept_pass (λ i. list_any (names_op i) op.args) (range_with_len 0 j)))

from_later : (j : ℕ) (op : Op) (ops : List Op) (e : ℕ × ℕ) → IsEdgeFrom (j + 1) ops e → IsEdgeFrom j (op ∷ ops) e
from_later j op ops e h = record { place = suc h.place; end = (let x = h.end in omega arith); op = h.op; at = h.at; argument = h.argument }

each_from : (j : ℕ) (ops : List Op) → All (IsEdgeFrom j ops) (edges_from j ops)
each_from j [] = All-nil (IsEdgeFrom j [])
each_from j (op ∷ ops) =
    All-append (IsEdgeFrom j (op ∷ ops)) (edges_into j op) (edges_from (j + 1) ops) (into_first j op ops)
    (All-weaker (IsEdgeFrom (j + 1) ops) (IsEdgeFrom j (op ∷ ops)) (from_later j op ops) (edges_from (j + 1) ops) (each_from (j + 1) ops))

into_all : (i j : ℕ) (op : Op) → i < j → Contains op.args (arg.Op i) → Contains (edges_into j op) (i, j)
into_all i j op less h =
    contains_map (λ (n : ℕ). (n, j)) i (filter (λ n. list_any (names_op n) op.args) (range_with_len 0 j))
    (kept_all (λ n. list_any (names_op n) op.args) (range_with_len 0 j) i (range_contains 0 j i i (omega arith) less) (names_any i op.args h))

all_from : (i j k : ℕ) (ops : List Op) (op : Op) → slice_get ops k ≡ Some op → i < j + k → Contains op.args (arg.Op i) → Contains (edges_from j ops) (i, j + k)
all_from i j k [] op g less h = cc
all_from i j zero (x ∷ ops) op g less h =
    let same : x ≡ op = same_Some x op g in
    let P : Op → Type 0 = λ o. Contains o.args (arg.Op i) in
    let here : Contains (edges_into j x) (i, j) = into_all i j x (omega arith) (subst P (sym same) h) in
    let e : j ≡ j + 0 = omega arith in
    let Q : ℕ → Type 0 = λ n. Contains (edges_from j (x ∷ ops)) (i, n) in
    subst Q e (Contains-append_left (edges_into j x) (edges_from (j + 1) ops) (i, j) here)
all_from i j (suc k) (x ∷ ops) op g less h =
    let later : Contains (edges_from (j + 1) ops) (i, j + 1 + k) = all_from i (j + 1) k ops op g (omega arith) h in
    let e : j + 1 + k ≡ j + suc k = omega arith in
    let Q : ℕ → Type 0 = λ n. Contains (edges_from j (x ∷ ops)) (i, n) in
    subst Q e (Contains-append_right (edges_into j x) (edges_from (j + 1) ops) (i, j + 1 + k) later)

from_start : (ops : List Op) (e : ℕ × ℕ) → IsEdgeFrom 0 ops e → IsEdge ops e
from_start ops e h =
    let same : h.place ≡ e.1 = (let x = h.end in omega arith) in
    record { op = h.op; end = ap (slice_get ops) (sym same) ∙ h.at; argument = h.argument }

-- the operation that is an argument is an earlier one
earlier : (g : Graph) → IsValidGraph g → (e : ℕ × ℕ) → IsEdge g.ops e → e.0 < e.1
earlier g valid e h = (All-contains (IsArgument g.ops e.1) h.op.args (arg.Op e.0) (valid.ops e.1 h.op h.end).arguments h.argument).0

pub are_edges : (g : Graph) → IsValidGraph g → AreEdges g.ops (edges_from 0 g.ops)
are_edges g valid =
    record {
      each = All-weaker (IsEdgeFrom 0 g.ops) (IsEdge g.ops) (from_start g.ops) (edges_from 0 g.ops) (each_from 0 g.ops);
      all = λ e h.
          let less = earlier g valid e h in
          let found : Contains (edges_from 0 g.ops) (e.0, 0 + e.1) = all_from e.0 0 e.1 g.ops h.op h.end (omega arith) h.argument in
          let same : 0 + e.1 ≡ e.1 = omega arith in
          let Q : ℕ → Type 0 = λ n. Contains (edges_from 0 g.ops) (e.0, n) in
          subst Q same found;
      order = edges_in_order 0 g.ops;
    }
