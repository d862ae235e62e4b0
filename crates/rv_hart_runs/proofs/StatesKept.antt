-- What a hart keeps from row to row: serials fall from stage to stage and are distinct among what is outstanding, and a cell that has left RD touches no spawn target of an older one.
use Rattle.std.proofs.Common.{◌≡◌, refl, sym, ap, subst, ℕ, zero, suc, ◌-◌, ◌<◌, ◌≤◌, List, [], ◌∷◌, ◌++◌, length, Option, Some, None, Bool, true, false, ◌⊎◌, inl, inr, arith}
use Rattle.std.specs.Prelude.{not, is_some, if◌then◌else◌, take, replicate}
use Rattle.std.proofs.lemmas.Bool.{cases_lt}
use Rattle.rv_lawful.specs.Settings.{Setting}
use Rattle.rv_seq.specs.Steps.{word_at}
use Rattle.rv_unit.specs.Entries.{is_number}
use Rattle.rv_harts.specs.Harts.{Fetched, Hart, first_hart}
use Rattle.rv_harts.specs.Turns.{asked}
use Rattle.rv_harts.specs.HartRows.{fetches, fetched, entering, stages_in, serial_out, kept_in, event_in, lost, cleared, leaving, owing, owed_after, stopping, next_hart}
use Rattle.rv_hart_runs.specs.HartRuns.{IsGoingOn}
use Rattle.rv_hart_runs.proofs.Free.{same_some}
use Rattle.rv_hart_runs.proofs.StatesLists.{In, in_filter, in_either, At, nothing_stands, none_length, IsLeft, left_there, left_length, last_there}
use Rattle.rv_hart_runs.proofs.StatesEvents.{IsFreeOf, stays_free}
use Rattle.rv_hart_runs.proofs.StatesOwed.{IsBefore, AreInTurn, apart_filtered, apart_one_more}

-- the cell of a stage is younger than o, and touches none of its spawn targets once it has left RD
pub record IsBehind (k : Setting) (stage : ℕ) (c o : Fetched) : Type 0 where
  pub younger : o.serial < c.serial
  pub free : k.shape.rd < stage → IsFreeOf k c o

-- what is kept of a hart before a row
pub record IsOrdered (k : Setting) (g : Hart) : Type 0 where
  pub long : length g.above ≡ k.shape.stages - 1
  pub below : (i : ℕ) (c : Fetched) → At g.above i c → c.serial < g.next
  pub pairs : (i j : ℕ) (c o : Fetched) → i < j → At g.above i c → At g.above j o → IsBehind k (suc i) c o
  pub beside : (i : ℕ) (c o : Fetched) → At g.above i c → In o g.owed → IsBehind k (suc i) c o
  pub first : (o : Fetched) → In o g.owed → o.serial < g.next
  pub apart : AreInTurn k g.owed
  pub going : (o : Fetched) → In o g.owed → IsGoingOn k o

pub kept_first : (k : Setting) → IsOrdered k (first_hart k)
kept_first k = record {
  long = none_length (k.shape.stages - 1);
  below = λ i c e. absurd (nothing_stands (k.shape.stages - 1) i c e);
  pairs = λ i j c o lt e f. absurd (nothing_stands (k.shape.stages - 1) i c e);
  beside = λ i c o e is. absurd is;
  first = λ o is. absurd is;
  apart = tt;
  going = λ o is. absurd is;
}

-- what is fetched has the next serial
module _ (k : Setting) (h n : ℕ) (g : Hart) where
  abbrev pub next : ℕ
  next = if is_some (entering k h n g) then suc g.next else g.next

  fetched_serial : (w : Option ℕ) (c : Fetched) → fetched g w ≡ Some c → c.serial ≡ g.next
  fetched_serial None c e = cc
  fetched_serial (Some word) c e = sym (ap (λ (z : Fetched). z.serial) (same_some (record { serial = g.next; at = g.fetch; word = word; place = _ }) c e))

  entering_serial : (c : Fetched) → entering k h n g ≡ Some c → c.serial ≡ g.next
  entering_serial c e = by_case (fetches h n g) e where
    by_case : (b : Bool) → (if b then fetched g (word_at k.image g.fetch) else None) ≡ Some c → c.serial ≡ g.next
    by_case true e = fetched_serial (word_at k.image g.fetch) c e
    by_case false e = cc

  next_most : g.next ≤ next
  next_most = by_case (is_some (entering k h n g)) where
    by_case : (b : Bool) → g.next ≤ (if b then suc g.next else g.next)
    by_case true = omega arith
    by_case false = omega arith

  entering_below : (c : Fetched) → entering k h n g ≡ Some c → c.serial < next
  entering_below c e =
      let same = entering_serial c e in
      subst (λ (o : Option Fetched). c.serial < (if is_some o then suc g.next else g.next)) (sym e) (let z : c.serial < suc g.next = omega (arith, same) in z)

  -- ---- in the row

  module _ (kept : IsOrdered k g) where
    row_below : (i : ℕ) (c : Fetched) → At (stages_in k h n g) i c → c.serial < next
    row_below zero c e = entering_below c (same_some (entering k h n g) (Some c) e)
    row_below (suc i) c e = let a = kept.below i c e in let b = next_most in omega (arith, a, b)

    row_pairs : (i j : ℕ) (c o : Fetched) → i < j → At (stages_in k h n g) i c → At (stages_in k h n g) j o → IsBehind k i c o
    row_pairs i zero c o lt e f = absurd (omega (arith, lt))
    row_pairs zero (suc j) c o lt e f =
        let same = entering_serial c (same_some (entering k h n g) (Some c) e) in
        let less = kept.below j o f in
        record { younger = omega (arith, same, less); free = λ past. absurd (omega (arith, past)) }
    row_pairs (suc i) (suc j) c o lt e f = kept.pairs i j c o (omega (arith, lt)) e f

    row_beside : (i : ℕ) (c o : Fetched) → At (stages_in k h n g) i c → In o g.owed → IsBehind k i c o
    row_beside zero c o e is =
        let same = entering_serial c (same_some (entering k h n g) (Some c) e) in
        let less = kept.first o is in
        record { younger = omega (arith, same, less); free = λ past. absurd (omega (arith, past)) }
    row_beside (suc i) c o e is = kept.beside i c o e is

    -- ---- behind the row

    abbrev most : ℕ
    most = k.shape.stages - 1

    abbrev gone : ℕ
    gone = lost (event_in k h n g)

    abbrev Stays : ℕ → Fetched → Type 0
    Stays i c = IsLeft gone most (stages_in k h n g) i c

    abbrev after : List (Option Fetched)
    after = if is_some (stopping k h n g) then replicate most None else take most (cleared gone (stages_in k h n g))

    stays : (i : ℕ) (c : Fetched) → At after i c → Stays i c
    stays i c e = left_there (is_some (stopping k h n g)) gone most (stages_in k h n g) i c e

    moved : (i : ℕ) (c o : Fetched) → Stays i c → IsBehind k i c o → In o g.owed ⊎ ((j : ℕ) × (i < j) × At (stages_in k h n g) j o) → IsBehind k (suc i) c o
    moved i c o left behind is = record {
      younger = behind.younger;
      free = λ past. elim (cases_lt k.shape.rd i) [
        | inl less ↦ behind.free less
        | inr more ↦ let le = left.past in stays_free k g.owed (kept_in k h n g) g.fetch 0 (stages_in k h n g) i c left.there (omega (arith, le)) (omega (arith, past, more)) o is
      ];
    }

    row_length : length (stages_in k h n g) ≡ suc most
    row_length = ap (λ m. suc m) kept.long

    leaves_at : (o : Fetched) → leaving k h n g ≡ Some o → At (stages_in k h n g) most o
    leaves_at o e = last_there (stages_in k h n g) most o row_length e

    owing_is : (l : Option Fetched) (o : Fetched) → In o (owing k l) → l ≡ Some o
    owing_is None o is = absurd is
    owing_is (Some c) o is = by_case (is_some (asked k c).unit) is where
      by_case : (b : Bool) → In o (if b then c ∷ [] else []) → Some c ≡ Some o
      by_case true (inl e) = ap (λ z. Some z) (sym e)
      by_case true (inr none) = absurd none
      by_case false none = absurd none

    -- what is outstanding then was so before, or retires
    either : (o : Fetched) → In o (owed_after k h n g) → In o g.owed ⊎ (leaving k h n g ≡ Some o)
    either o is = elim (in_either o (kept_in k h n g) (owing k (leaving k h n g)) is) [
      | inl a ↦ inl (in_filter (λ (c : Fetched). not (is_number (serial_out k h n g) c.serial)) o g.owed a)
      | inr b ↦ inr (owing_is (leaving k h n g) o b)
    ]

    module _ (inside : k.shape.rd < most) (tried : (c : Fetched) → leaving k h n g ≡ Some c → IsGoingOn k c) where
      -- what retires is younger than what is outstanding, and touches no target of that
      pub leaves_behind : (c o : Fetched) → leaving k h n g ≡ Some c → In o g.owed → IsBefore k o c
      leaves_behind c o e is = let b = row_beside most c o (leaves_at c e) is in record { older = b.younger; free = b.free inside }

      apart_after : (l : Option Fetched) → leaving k h n g ≡ l → AreInTurn k (kept_in k h n g ++ owing k l)
      apart_after l e = by_leaving l e where
        kept_apart : AreInTurn k (kept_in k h n g)
        kept_apart = apart_filtered k (λ (c : Fetched). not (is_number (serial_out k h n g) c.serial)) g.owed kept.apart

        none_more : (xs : List Fetched) → AreInTurn k xs → AreInTurn k (xs ++ [])
        none_more [] a = tt
        none_more (x ∷ xs) a = (λ p is. elim (in_either p xs [] is) [ inl b ↦ a.0 p b | inr none ↦ absurd none ], none_more xs a.1)

        by_leaving : (l : Option Fetched) → leaving k h n g ≡ l → AreInTurn k (kept_in k h n g ++ owing k l)
        by_leaving None e = none_more (kept_in k h n g) kept_apart
        by_leaving (Some c) e = by_unit (is_some (asked k c).unit) where
          by_unit : (b : Bool) → AreInTurn k (kept_in k h n g ++ (if b then c ∷ [] else []))
          by_unit true = apart_one_more k c (kept_in k h n g) kept_apart (λ o is. leaves_behind c o e (in_filter (λ (c : Fetched). not (is_number (serial_out k h n g) c.serial)) o g.owed is))
          by_unit false = none_more (kept_in k h n g) kept_apart

      beside_after : (i : ℕ) (c o : Fetched) → At after i c → In o (owed_after k h n g) → IsBehind k (suc i) c o
      beside_after i c o e is =
          let left = stays i c e in
          elim (either o is) [
            | inl a ↦ moved i c o left (row_beside i c o left.there a) (inl a)
            | inr b ↦ moved i c o left (row_pairs i most c o left.inside left.there (leaves_at o b)) (inr (most, left.inside, leaves_at o b))
          ]

      pub kept_next : IsOrdered k (next_hart k h n g)
      unfolding next_hart
      kept_next = record {
        long = left_length (is_some (stopping k h n g)) gone most (stages_in k h n g) (let e = row_length in omega (arith, e));
        below = λ i c e. row_below i c (stays i c e).there;
        pairs = λ i j c o lt e f.
            let left = stays i c e in
            let right = stays j o f in
            moved i c o left (row_pairs i j c o lt left.there right.there) (inr (j, lt, right.there));
        beside = beside_after;
        first = λ o is. elim (either o is) [
          | inl a ↦ let x = kept.first o a in let y = next_most in omega (arith, x, y)
          | inr b ↦ row_below most o (leaves_at o b)
        ];
        apart = apart_after (leaving k h n g) refl;
        going = λ o is. elim (either o is) [ inl a ↦ kept.going o a | inr b ↦ tried o b ];
      }
