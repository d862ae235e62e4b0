-- The instructions above a cell: where they stand, and the oldest that is looked for.
use Rattle.std.proofs.Common.{◌≡◌, ℕ, zero, suc, ◌+◌, ◌<◌, ◌≤◌, List, [], ◌∷◌, get_or, take, Option, Some, None, Bool, true, false, refl, sym, ap, ◌∙◌, arith, ◌⊎◌, inl, inr}
use Rattle.std.specs.Prelude.{◌&&◌, if◌then◌else◌, nat_lt, slice_get}
use Rattle.std.specs.Option.{option_or}
use Rattle.std.proofs.lemmas.Bool.Decides.{nat_tests}
use Rattle.rv_core.specs.declared.Shape.{Shape}
use Rattle.rv_trace.specs.declared.row.Cell.{Cell}
use Rattle.rv_trace.specs.declared.row.Row.{Row}
use Rattle.rv_trace.specs.Trace.{has_serial}
use Rattle.rv_lawful.specs.Settings.{Setting, Stands}
use Rattle.rv_rows.specs.declared.known.Known.{Known}
use Rattle.rv_rows.specs.declared.known.Owed.{Owed}
use Rattle.rv_rows.specs.Known.{IsKnown}
use Rattle.rv_holdings.specs.declared.want.Want.{Want}
use Rattle.rv_holdings.specs.Expected.{Older, owed_by, instruction_in, instruction_at, instructions_above, meets, oldest}

-- Elements by their place

pub get_of : {A : Type 0} (m n : ℕ) (xs : List (Option A)) (c : A) → slice_get (take m xs) n ≡ Some (Some c) → (n < m) × (get_or xs n None ≡ Some c)
get_of zero n [] c e = cc
get_of zero n (x ∷ xs) c e = cc
get_of (suc m) n [] c e = cc
get_of (suc m) zero (x ∷ xs) c e = (omega arith, cc)
get_of (suc m) (suc n) (x ∷ xs) c e = let r = get_of m n xs c e in let lt = r.0 in (omega (arith, lt), r.1)

pub of_get : {A : Type 0} (m n : ℕ) (xs : List (Option A)) (c : A) → n < m → get_or xs n None ≡ Some c → slice_get (take m xs) n ≡ Some (Some c)
of_get zero n xs c lt e = absurd (omega (arith, lt))
of_get (suc m) n [] c lt e = cc
of_get (suc m) zero (x ∷ xs) c lt e = ap (λ y. Some y) e
of_get (suc m) (suc n) (x ∷ xs) c lt e = of_get m n xs c (omega (arith, lt)) e

pub get_plain : {A : Type 0} (n : ℕ) (xs : List (Option A)) (c : A) → slice_get xs n ≡ Some (Some c) → get_or xs n None ≡ Some c
get_plain n [] c e = cc
get_plain zero (x ∷ xs) c e = cc
get_plain (suc n) (x ∷ xs) c e = get_plain n xs c e

pub is_below : (a b : ℕ) → nat_lt a b ≡ true → a < b
is_below a b e = grind (arith, nat_tests)

pub below_is : (a b : ℕ) → a < b → nat_lt a b ≡ true
below_is a b e = grind (arith, nat_tests)

pub not_below : (a b : ℕ) → nat_lt a b ≡ false → b ≤ a
not_below a b e = grind (arith, nat_tests)

pub no_less : (a b : ℕ) → b ≤ a → nat_lt a b ≡ false
no_less a b e = grind (arith, nat_tests)

pub both : (a b : Bool) → (a && b) ≡ true → (a ≡ true) × (b ≡ true)
both true b e = (refl, e)
both false b e = cc

pub and_both : (a b : Bool) → a ≡ true → b ≡ true → (a && b) ≡ true
and_both true b x y = y
and_both false b x y = cc

pub one_cell : {A : Type 0} (a b : A) → ◌≡◌ {A = Option A} (Some a) (Some b) → a ≡ b
one_cell a b e = cc

module _ (k : Setting) (earlier : List Row) (row : Row) (known : Known) (is_known : IsKnown k earlier row known) where
  asks_at : (at : ℕ) (d : Cell) → Stands k row at d → get_or known.asks at None ≡ Some (k.asks d.word)
  asks_at at d s = get_plain at known.asks (k.asks d.word) (is_known.asks at d s)

  -- the cell of an instruction above a stage
  pub record IsOf (stage at : ℕ) (o : Owed) : Type 0 where
    pub cell : Cell
    pub later : stage < at
    pub stands : Stands k row at cell
    pub unflushed : has_serial row.flushed cell.serial ≡ false
    pub serial : o.serial ≡ cell.serial
    pub asks : o.asks ≡ k.asks cell.word

  is_of : (stage at : ℕ) (o : Owed) → instruction_at k.shape row known stage at ≡ Some o → IsOf stage at o
  is_of stage at o e = by_test (nat_lt stage at && nat_lt at k.shape.stages) refl e where
    by_cell : (c : Cell) → Stands k row at c → stage < at → (b : Bool) → has_serial row.flushed c.serial ≡ b → (if b then None else owed_by c.serial (Some (k.asks c.word))) ≡ Some o → IsOf stage at o
    by_cell c s lt true f q = cc
    by_cell c s lt false f q =
        let same = one_cell (record { serial = c.serial; asks = k.asks c.word }) o q in
        record { cell = c; later = lt; stands = s; unflushed = f; serial = sym (ap (λ (p : Owed). p.serial) same); asks = sym (ap (λ (p : Owed). p.asks) same) }

    by_get : (oc : Option Cell) → get_or row.cells at None ≡ oc → stage < at → at < k.shape.stages → instruction_in row.flushed oc (get_or known.asks at None) ≡ Some o → IsOf stage at o
    by_get None g lt low q = cc
    by_get (Some c) g lt low q =
        let s : Stands k row at c = of_get k.shape.stages at row.cells c low g in
        by_cell c s lt (has_serial row.flushed c.serial) refl (ap (λ x. if has_serial row.flushed c.serial then None else owed_by c.serial x) (sym (asks_at at c s)) ∙ q)

    by_test : (b : Bool) → (nat_lt stage at && nat_lt at k.shape.stages) ≡ b → (if b then instruction_in row.flushed (get_or row.cells at None) (get_or known.asks at None) else None) ≡ Some o → IsOf stage at o
    by_test false t q = cc
    by_test true t q =
        let p = both (nat_lt stage at) (nat_lt at k.shape.stages) t in
        by_get (get_or row.cells at None) refl (is_below stage at p.0) (is_below at k.shape.stages p.1) q

  stands_there : (stage at : ℕ) (d : Cell) → stage < at → Stands k row at d → has_serial row.flushed d.serial ≡ false → instruction_at k.shape row known stage at ≡ Some (record { serial = d.serial; asks = k.asks d.word })
  stands_there stage at d lt s f =
      let g = get_of k.shape.stages at row.cells d s in
      ap (λ b. if b then instruction_in row.flushed (get_or row.cells at None) (get_or known.asks at None) else None)
      (and_both (nat_lt stage at) (nat_lt at k.shape.stages) (below_is stage at lt) (below_is at k.shape.stages g.0))
      ∙ ap (λ x. instruction_in row.flushed x (get_or known.asks at None)) g.1
      ∙ ap (λ b. if b then None else owed_by d.serial (get_or known.asks at None)) f
      ∙ ap (λ x. owed_by d.serial x) (asks_at at d s)

  -- they are listed by their stages
  at_place : (f : ℕ → Option Owed) (n : ℕ) (o : Owed) → slice_get (f 0 ∷ f 1 ∷ f 2 ∷ f 3 ∷ f 4 ∷ []) n ≡ Some (Some o) → f n ≡ Some o
  at_place f zero o e = one_cell (f 0) (Some o) e
  at_place f (suc zero) o e = one_cell (f 1) (Some o) e
  at_place f (suc (suc zero)) o e = one_cell (f 2) (Some o) e
  at_place f (suc (suc (suc zero))) o e = one_cell (f 3) (Some o) e
  at_place f (suc (suc (suc (suc zero)))) o e = one_cell (f 4) (Some o) e
  at_place f (suc (suc (suc (suc (suc n))))) o e = cc

  place_at : (f : ℕ → Option Owed) (n : ℕ) (o : Owed) → n < 5 → f n ≡ Some o → slice_get (f 0 ∷ f 1 ∷ f 2 ∷ f 3 ∷ f 4 ∷ []) n ≡ Some (Some o)
  place_at f zero o lt e = ap (λ x. Some x) e
  place_at f (suc zero) o lt e = ap (λ x. Some x) e
  place_at f (suc (suc zero)) o lt e = ap (λ x. Some x) e
  place_at f (suc (suc (suc zero))) o lt e = ap (λ x. Some x) e
  place_at f (suc (suc (suc (suc zero)))) o lt e = ap (λ x. Some x) e
  place_at f (suc (suc (suc (suc (suc n))))) o lt e = absurd (omega (arith, lt))

  pub listed_is : (stage at : ℕ) (o : Owed) → slice_get (instructions_above k.shape row known stage) at ≡ Some (Some o) → IsOf stage at o
  listed_is stage at o e = is_of stage at o (at_place (instruction_at k.shape row known stage) at o e)

  pub is_listed : (stage at : ℕ) (d : Cell) → stage < at → at < 5 → Stands k row at d → has_serial row.flushed d.serial ≡ false
      → slice_get (instructions_above k.shape row known stage) at ≡ Some (Some (record { serial = d.serial; asks = k.asks d.word }))
  is_listed stage at d lt few s f = place_at (instruction_at k.shape row known stage) at (record { serial = d.serial; asks = k.asks d.word }) few (stands_there stage at d lt s f)

-- The oldest

-- each has a greater serial than those behind it
abbrev pub Descends : Older → Type 0
Descends older = (i l : ℕ) (o p : Owed) → i < l → slice_get older i ≡ Some (Some o) → slice_get older l ≡ Some (Some p) → p.serial < o.serial

-- of these, the first of which stands in this stage, one with this serial is looked for
abbrev pub Meets : Shape → Row → Want → ℕ → Older → ℕ → Type 0
Meets k row w stage older j = (n : ℕ) × (o : Owed) × (slice_get older n ≡ Some (Some o)) × (o.serial ≡ j) × (meets k row w (stage + n) o ≡ true)

-- it is the least serial of those, or there is none
abbrev pub OldestIs : Shape → Row → Want → ℕ → Older → Option ℕ → Type 0
OldestIs k row w stage older None = (j : ℕ) → Meets k row w stage older j → ⊥
OldestIs k row w stage older (Some i) = Meets k row w stage older i × ((j : ℕ) → Meets k row w stage older j → i ≤ j)

module _ (k : Shape) (row : Row) (w : Want) where
  meets_behind : (stage : ℕ) (s : Option Owed) (older : Older) (j : ℕ) → Meets k row w (suc stage) older j → Meets k row w stage (s ∷ older) j
  meets_behind stage s older j m =
      let z : suc stage + m.0 ≡ stage + suc m.0 = omega arith in
      (suc m.0, m.1, m.2, m.3, ap (λ n. meets k row w n m.1) (sym z) ∙ m.4)

  meets_front : (stage : ℕ) (o : Owed) (older : Older) (j : ℕ) → Meets k row w stage (Some o ∷ older) j → ((o.serial ≡ j) × (meets k row w stage o ≡ true)) ⊎ Meets k row w (suc stage) older j
  meets_front stage o older j m = by_index m.0 m.2 m.4 where
    by_index : (n : ℕ) → slice_get (Some o ∷ older) n ≡ Some (Some m.1) → meets k row w (stage + n) m.1 ≡ true → ((o.serial ≡ j) × (meets k row w stage o ≡ true)) ⊎ Meets k row w (suc stage) older j
    by_index zero e q =
        let same : o ≡ m.1 = cc in
        let z : stage + 0 ≡ stage = omega arith in
        inl (ap (λ (u : Owed). u.serial) same ∙ m.3, ap (λ (u : Owed). meets k row w stage u) same ∙ ap (λ n. meets k row w n m.1) (sym z) ∙ q)
    by_index (suc n) e q = (let z : suc stage + n ≡ stage + suc n = omega arith in inr (n, m.1, e, m.3, ap (λ i. meets k row w i m.1) z ∙ q))

  meets_only : (stage : ℕ) (older : Older) (j : ℕ) → Meets k row w stage (None ∷ older) j → Meets k row w (suc stage) older j
  meets_only stage older j m = by_index m.0 m.2 m.4 where
    by_index : (n : ℕ) → slice_get (None ∷ older) n ≡ Some (Some m.1) → meets k row w (stage + n) m.1 ≡ true → Meets k row w (suc stage) older j
    by_index zero e q = cc
    by_index (suc n) e q = (let z : suc stage + n ≡ stage + suc n = omega arith in (n, m.1, e, m.3, ap (λ i. meets k row w i m.1) z ∙ q))

  pub oldest_is : (stage : ℕ) (older : Older) → Descends older → OldestIs k row w stage older (oldest k row w stage older)
  oldest_is stage [] falls = λ j m. cc (m.2)
  oldest_is stage (None ∷ older) falls = by_case (oldest k row w (suc stage) older) (oldest_is (suc stage) older (λ i l o p lt a b. falls (suc i) (suc l) o p (omega (arith, lt)) a b)) where
    by_case : (o : Option ℕ) → OldestIs k row w (suc stage) older o → OldestIs k row w stage (None ∷ older) o
    by_case None g = λ j m. g j (meets_only stage older j m)
    by_case (Some i) g = (meets_behind stage None older i g.0, λ j m. g.1 j (meets_only stage older j m))
  oldest_is stage (Some t ∷ older) falls = by_case (oldest k row w (suc stage) older) (oldest_is (suc stage) older (λ i l o p lt a b. falls (suc i) (suc l) o p (omega (arith, lt)) a b)) where
    last : (b : Bool) → meets k row w stage t ≡ b → ((j : ℕ) → Meets k row w (suc stage) older j → ⊥) → OldestIs k row w stage (Some t ∷ older) (if b then Some t.serial else None)
    last true q g =
        let z : stage + 0 ≡ stage = omega arith in (
          (0, t, refl, refl, ap (λ n. meets k row w n t) z ∙ q),
          λ j m. elim (meets_front stage t older j m) [ inl x ↦ omega (arith, x.0) | inr x ↦ absurd (g j x) ],
        )
    last false q g = λ j m. elim (meets_front stage t older j m) [ inl x ↦ cc (q, x.1) | inr x ↦ g j x ]

    by_case : (o : Option ℕ) → OldestIs k row w (suc stage) older o → OldestIs k row w stage (Some t ∷ older) (option_or o (if meets k row w stage t then Some t.serial else None))
    by_case None g = last (meets k row w stage t) refl g
    by_case (Some i) g = (
      meets_behind stage (Some t) older i g.0,
      λ j m. elim (meets_front stage t older j m) [
        | inl x ↦
            let g0 = g.0 in
            let lt = falls 0 (suc g0.0) t g0.1 (omega arith) refl g0.2 in
            let e = g0.3 in
            omega (arith, lt, e, x.0)
        | inr x ↦ g.1 j x
      ],
    )
