-- The outstanding targets of a hart are different registers, so they are no more than there are registers.
use Rattle.std.proofs.Common.{◌≡◌, ◌∙◌, refl, sym, ap, subst, ℕ, zero, suc, ◌+◌, ◌<◌, ◌≤◌, List, [], ◌∷◌, ◌++◌, map, length, get_or, Option, Some, None, Bool, true, false, ◌⊎◌, inl, inr, arith}
use Rattle.std.specs.Prelude.{slice_index_or, ◌||◌}
use Rattle.std.specs.List.{flat_map, list_any, AllByRecursion, IsDistinct}
use Rattle.std.proofs.Math.Dec.{eqb}
use Rattle.std.proofs.lemmas.Bool.{false≢true, ne_eqb}
use Rattle.std.proofs.lemmas.Bool.Decides.{Decides-eqb}
use Rattle.std.proofs.lemmas.List.{length-map, map-append}
use Rattle.std.proofs.lemmas.List.Concat.{flat_map-cons}
use Rattle.std.proofs.lemmas.Map.Steps.{length-le_from_distinct_below}
use Rattle.ix_extension.specs.Extensions.{view_extension}
use Rattle.ix_plan.specs.declared.design.Design.{Design}
use Rattle.ix_plan.specs.declared.design.Plan.{Plan}
use Rattle.ix_plan.specs.declared.design.Target.{Target}
use Rattle.ix_standing.specs.Standing.{Stands}
use Rattle.rv_asks.specs.declared.asks.Asks.{Asks}
use Rattle.rv_asks.specs.Acts.{acts_of, spawns_custom}
use Rattle.rv_asks.specs.Asks.{flags, plan_outline, block_acts, blank_in, asks_in}
use Rattle.rv_seq.specs.declared.decoded.Decoded.{Decoded}
use Rattle.rv_seq.specs.declared.decoded.Decoded.TheVariants as D
use Rattle.rv_seq.specs.Decoding.{decoded_in}
use Rattle.rv_holds.specs.Holds.{register_at}
use Rattle.rv_lawful.specs.Outstanding.{has_target, is_register, x_target, custom_targets, targets_of, owed_targets}
use Rattle.rv_lawful.specs.Settings.{Setting}
use Rattle.rv_lawful.specs.Sight.{asked}
use Rattle.rv_sight.specs.InUnits.{AreInUnits}
use Rattle.rv_unit.specs.Reservations.{target_number}
use Rattle.rv_harts.specs.BarrelRows.{hart_setting}
use Rattle.rv_harts.specs.Harts.{Fetched}
use Rattle.rv_harts.specs.HartRows.{hart_at}
use Rattle.rv_hart_runs.specs.HartRuns.{KnownLaw, FewLaw}
use Rattle.rv_hart_runs.proofs.Passing.{test_same}
use Rattle.rv_hart_runs.proofs.StatesLists.{In, in_either}
use Rattle.rv_hart_runs.proofs.StatesTargets.{x_at, custom_at, spawned_few}
use Rattle.rv_hart_runs.proofs.StatesOwed.{AreInTurn}
use Rattle.rv_hart_runs.proofs.StatesOrdered.{ordered}

-- ---- different numbers

-- no two are one
abbrev NoTwo : List ℕ → Type 0
NoTwo [] = Unit {0}
NoTwo (x ∷ xs) = (In x xs → ⊥) × NoTwo xs

two_parts : (xs ys : List ℕ) → NoTwo xs → NoTwo ys → ((n : ℕ) → In n xs → In n ys → ⊥) → NoTwo (xs ++ ys)
two_parts [] ys a b apart = b
two_parts (x ∷ xs) ys a b apart = (
  λ is. elim (in_either x xs ys is) [ inl i ↦ a.0 i | inr i ↦ apart x (inl refl) i ],
  two_parts xs ys a.1 b (λ n i j. apart n (inr i) j),
)

none_equal : (n : ℕ) (xs : List ℕ) → (In n xs → ⊥) → AllByRecursion (λ (y : ℕ). eqb n y ≡ false) xs
none_equal n [] none = tt
none_equal n (x ∷ xs) none = (ne_eqb n x (λ e. none (inl e)), none_equal n xs (λ i. none (inr i)))

all_apart : (xs : List ℕ) → NoTwo xs → IsDistinct eqb xs
unfolding IsDistinct
all_apart [] h = tt
all_apart (x ∷ xs) h = (none_equal x xs h.0, all_apart xs h.1)

listed_in : (n : ℕ) (xs : List ℕ) → list_any (eqb n) xs ≡ true → In n xs
listed_in n [] e = cc
listed_in n (x ∷ xs) e = by_test (eqb n x) refl e (listed_in n xs) where
  by_test : (b : Bool) → eqb n x ≡ b → (b || list_any (eqb n) xs) ≡ true → (list_any (eqb n) xs ≡ true → In n xs) → (n ≡ x) ⊎ In n xs
  by_test true q e rest = inl ((Decides-eqb n x).0 q)
  by_test false q e rest = inr (rest e)

-- different numbers below a bound are no more than the bound
at_most : (bound : ℕ) (xs : List ℕ) → NoTwo xs → ((n : ℕ) → In n xs → n < bound) → length xs ≤ bound
at_most bound xs apart below = length-le_from_distinct_below xs bound (all_apart xs apart) (λ n e. below n (listed_in n xs e))

-- ---- an instruction spawns to the sixteen custom registers alone

flags_length : (f : ℕ → Bool) (n : ℕ) → length (flags f n) ≡ n
flags_length f zero = refl
flags_length f (suc n) = ap suc (flags_length (λ r. f (suc r)) n)

plan_customs : (d : Design) (p : Plan) → length (plan_outline d.sheet.shape (block_acts d) p).spawned_customs ≡ 16
unfolding plan_outline
plan_customs d p = flags_length (λ r. list_any (spawns_custom r) (acts_of p)) 16

blank_customs : (d : Design) → length (blank_in d).spawned_customs ≡ 16
blank_customs d = flags_length (λ r. list_any (spawns_custom r) []) 16

outline_customs : (d : Design) (plans : List Plan) (n : ℕ) → length (slice_index_or (map (plan_outline d.sheet.shape (block_acts d)) plans) n (blank_in d)).spawned_customs ≡ 16
outline_customs d [] n = blank_customs d
outline_customs d (p ∷ plans) zero = plan_customs d p
outline_customs d (p ∷ plans) (suc n) = outline_customs d plans n

asks_customs : (d : Design) (word : ℕ) (what : Option Decoded) → length (asks_in d word what).spawned_customs ≡ 16
unfolding asks_in
asks_customs d word None = blank_customs d
asks_customs d word (Some (D.Base b)) = flags_length (λ r. false) 16
asks_customs d word (Some (D.Own n)) = outline_customs d d.plans n

-- ---- the targets of one instruction

-- the number is that of a register which its `spawn` body writes
abbrev Spawns : Asks → ℕ → Type 0
Spawns a n = (n < 48) × (has_target a (register_at n) ≡ true)

-- different registers that it so writes
record AreSpawned (a : Asks) (ns : List ℕ) : Type 0 where
  each : (n : ℕ) → In n ns → Spawns a n
  apart : NoTwo ns

abbrev numbers : List Target → List ℕ
numbers ts = map target_number ts

-- of the custom registers from this one on
record AreCustom (a : Asks) (c : ℕ) (ns : List ℕ) : Type 0 where
  spawned : AreSpawned a ns
  from : (n : ℕ) → In n ns → 32 + c ≤ n

module _ (a : Asks) where
  customs : (c : ℕ) (set : List Bool) → c + length set ≤ 16 → ((i : ℕ) → get_or set i false ≡ get_or a.spawned_customs (c + i) false) → AreCustom a c (numbers (custom_targets c set))
  customs c [] le same = record { spawned = record { each = λ n is. absurd is; apart = tt }; from = λ n is. absurd is }
  customs c (b ∷ rest) le same = by_flag b here (customs (suc c) rest (omega (arith, le)) later) where
    here : get_or a.spawned_customs c false ≡ b
    here = let e : c ≡ c + 0 = omega arith in ap (λ n. get_or a.spawned_customs n false) e ∙ sym (same 0)

    later : (i : ℕ) → get_or rest i false ≡ get_or a.spawned_customs (suc c + i) false
    later i = let e : c + suc i ≡ suc c + i = omega arith in same (suc i) ∙ ap (λ n. get_or a.spawned_customs n false) e

    few : 32 + c < 48
    few = omega (arith, le)

    by_flag : (b : Bool) → get_or a.spawned_customs c false ≡ b → AreCustom a (suc c) (numbers (custom_targets (suc c) rest)) → AreCustom a c (numbers (custom_targets c (b ∷ rest)))
    by_flag false set r = record { spawned = r.spawned; from = λ n is. (let le = r.from n is in omega (arith, le)) }
    by_flag true set r =
        record {
          spawned = record {
            each = λ n is. elim is [ inl e ↦ subst (λ m. Spawns a m) (sym e) (few, ap (λ t. has_target a t) (sym (custom_at c)) ∙ set) | inr i ↦ r.spawned.each n i ];
            apart = (λ is. (let le = r.from (32 + c) is in absurd (omega (arith, le))), r.spawned.apart);
          };
          from = λ n is. elim is [ inl e ↦ omega (arith, e) | inr i ↦ let le = r.from n i in omega (arith, le) ];
        }

targets : (d : Design) (word : ℕ) → AreSpawned (asked d word) (numbers (targets_of (asked d word)))
targets d word = by_x (asked d word).spawned refl where
  all : AreCustom (asked d word) 0 (numbers (custom_targets 0 (asked d word).spawned_customs))
  all =
      let sixteen = asks_customs d word (decoded_in (view_extension d.extension) word) in
      customs (asked d word) 0 (asked d word).spawned_customs (omega (arith, sixteen)) (λ i. let e : i ≡ 0 + i = omega arith in ap (λ n. get_or (asked d word).spawned_customs n false) e)

  by_x : (o : Option ℕ) → (asked d word).spawned ≡ o → AreSpawned (asked d word) (numbers (x_target o ++ custom_targets 0 (asked d word).spawned_customs))
  by_x None e = all.spawned
  by_x (Some r) e =
      let few = spawned_few d word r e in
      let is : has_target (asked d word) (register_at r) ≡ true = ap (λ t. has_target (asked d word) t) (sym (x_at r few)) ∙ ap (λ o. is_register o r) e ∙ test_same r r refl in
      record {
        each = λ n i. elim i [ inl q ↦ subst (λ m. Spawns (asked d word) m) (sym q) (omega (arith, few), is) | inr j ↦ all.spawned.each n j ];
        apart = (λ i. (let le = all.from r i in absurd (omega (arith, le, few))), all.spawned.apart);
      }

-- ---- those of all that is outstanding

module _ (d : Design) (image : List ℕ) (units : AreInUnits d) where
  abbrev k : Setting
  k = hart_setting d image

  -- the numbers of some targets with serials
  abbrev numbered : List (ℕ × Target) → List ℕ
  numbered ts = map (λ (t : ℕ × Target). target_number t.1) ts

  abbrev owed_of : Fetched → List (ℕ × Target)
  owed_of c = owed_targets k (c.serial, c.word)

  without_serial : (serial : ℕ) (ts : List Target) → numbered (map (λ (t : Target). (serial, t)) ts) ≡ numbers ts
  without_serial serial [] = refl
  without_serial serial (t ∷ ts) = ap (λ (l : List ℕ). target_number t ∷ l) (without_serial serial ts)

  -- each is a register that one of these writes, and no two are one
  record AreOwed (owed : List Fetched) (ns : List ℕ) : Type 0 where
    each : (n : ℕ) → In n ns → (c : Fetched) × In c owed × Spawns (asked d c.word) n
    apart : NoTwo ns

  one_more : (c : Fetched) (later : List Fetched) (ms ns : List ℕ) → AreInTurn k (c ∷ later) → AreSpawned (asked d c.word) ms → AreOwed later ns → AreOwed (c ∷ later) (ms ++ ns)
  one_more c later ms ns h own rest = record {
    each = λ n is. elim (in_either n ms ns is) [ inl i ↦ (c, inl refl, own.each n i) | inr i ↦ let r = rest.each n i in (r.0, inr r.1, r.2) ];
    apart = two_parts ms ns own.apart rest.apart meets;
  } where
    meets : (n : ℕ) → In n ms → In n ns → ⊥
    meets n i j =
        let mine = own.each n i in
        let r = rest.each n j in
        let free = (h.0 r.0 r.1).free n mine.0 (units.touching r.0.word (register_at n) r.2.1) in
        false≢true (sym free ∙ mine.1)

  owed_numbers : (owed : List Fetched) → AreInTurn k owed → AreOwed owed (numbered (flat_map owed_of owed))
  owed_numbers [] h = record { each = λ n is. absurd is; apart = tt }
  owed_numbers (c ∷ later) h =
      subst (λ (l : List ℕ). AreOwed (c ∷ later) l)
      (sym (ap (λ (l : List (ℕ × Target)). numbered l) (flat_map-cons owed_of c later) ∙ map-append (λ (t : ℕ × Target). target_number t.1) (owed_of c) (flat_map owed_of later)))
      (one_more c later (numbered (owed_of c)) (numbered (flat_map owed_of later)) h
      (subst (λ (l : List ℕ). AreSpawned (asked d c.word) l) (sym (without_serial c.serial (targets_of (asked d c.word)))) (targets d c.word)) (owed_numbers later h.1))

  few_owed : (owed : List Fetched) → AreInTurn k owed → length (flat_map owed_of owed) ≤ 48
  few_owed owed h =
      let all = owed_numbers owed h in
      let most = at_most 48 (numbered (flat_map owed_of owed)) all.apart (λ n i. (all.each n i).2.0) in
      let same = length-map (flat_map owed_of owed) (λ (t : ℕ × Target). target_number t.1) in
      omega (arith, most, same)

-- of each hart of a design that stands
pub few_law : ((d : Design) → Stands d → AreInUnits d) → KnownLaw → FewLaw
few_law units hart d image h n stands low =
    few_owed d image (units d stands) (hart_at (hart_setting d image) h n).owed (ordered d image h (λ m. hart d image h m stands low) n).apart
