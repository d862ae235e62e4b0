-- What is owed lists the outstanding registers, and they are no more than there are registers.
use Rattle.std.proofs.Common.{◌≡◌, ◌∙◌, refl, sym, ap, ℕ, suc, ◌+◌, ◌<◌, ◌≤◌, List, [], ◌∷◌, ◌++◌, map, length, get_or, Option, Some, None, Bool, true, false, arith}
use Rattle.std.specs.Prelude.{reverse}
use Rattle.std.specs.List.{flat_map}
use Rattle.std.proofs.lemmas.Bool.{false≢true}
use Rattle.std.proofs.lemmas.List.{append-nil, reverse-append, length-append, length-map}
use Rattle.std.proofs.lemmas.Grind.{flat_map-append}
use Rattle.ix_plan.specs.declared.design.Target.{Target}
use Rattle.ix_plan.specs.declared.design.Target.TheVariants.{Custom}
use Rattle.rv_asks.specs.declared.asks.Asks.{Asks}
use Rattle.rv_trace.specs.declared.row.Row.{Row}
use Rattle.rv_unit.specs.declared.entry.Entry.{Entry}
use Rattle.rv_unit.specs.Reservations.{target_number}
use Rattle.rv_holds.specs.Holds.{register_at}
use Rattle.rv_engine.specs.declared.owing.Owed.{Owed}
use Rattle.rv_engine.specs.Owing.{holder}
use Rattle.rv_engine.specs.Settings.{Setting}
use Rattle.rv_lawful.specs.Outstanding.{Decoupled, has_target, is_register, x_target, custom_targets, targets_of, owed_targets}
use Rattle.rv_lawful.specs.Sight.{asked}
use Rattle.rv_machine.specs.Owing.{judged, targets_owed, Owing, Distinct}
use Rattle.rv_machine.specs.Placed.{IsReady}
use Rattle.rv_machine.proofs.Apart.{holder_parts}
use Rattle.rv_machine.proofs.BoardHolds.{spawned_few}
use Rattle.rv_machine.proofs.Numbers.{x_at, custom_at}
use Rattle.rv_machine.proofs.Sixteen.{customs_few}
use Rattle.rv_machine.proofs.Pigeonhole.{Below, Without, NoTwo, at_most}

-- ---- the list

-- of a list behind its last one
behind_last : {A B : Type 0} (f : A → List B) (x : A) (xs : List A) → flat_map f (reverse (x ∷ xs)) ≡ flat_map f (reverse xs) ++ f x
behind_last f x xs = ap (flat_map f) (reverse-append (x ∷ []) xs) ∙ flat_map-append f (reverse xs) (x ∷ []) ∙ ap (λ l. flat_map f (reverse xs) ++ l) (append-nil (f x))

module _ (k : Setting) where
  pub targets_listed : (rows : List Row) (outs : List Decoupled) (entries : List Entry) (owed : List Owed) → Owing k rows outs entries owed → targets_owed owed ≡ flat_map (owed_targets (judged k)) (reverse outs)
  targets_listed rows [] [] [] h = refl
  targets_listed rows [] [] (w ∷ owed) h = absurd h
  targets_listed rows [] (e ∷ entries) owed h = absurd h
  targets_listed rows (o ∷ outs) [] owed h = absurd h
  targets_listed rows (o ∷ outs) (e ∷ entries) [] h = absurd h
  targets_listed rows (o ∷ outs) (e ∷ entries) (w ∷ owed) h =
      let rest = targets_listed rows outs entries owed h.2 in
      let mine = ap (λ (s : ℕ). map (λ (t : Target). (s, t)) (targets_of w.asks)) h.0.owed ∙ ap (λ (a : Asks). map (λ (t : Target). (o.0, t)) (targets_of a)) h.0.asks in
      ap (λ (l : List (ℕ × Target)). l ++ map (λ (t : Target). (w.serial, t)) (targets_of w.asks)) rest
      ∙ ap (λ (l : List (ℕ × Target)). flat_map (owed_targets (judged k)) (reverse outs) ++ l) mine
      ∙ sym (behind_last (owed_targets (judged k)) o outs)

-- ---- the count

-- each of these numbers is one of a register that the instruction spawns
abbrev Spawn : Asks → List ℕ → Type 0
Spawn a [] = Unit {0}
Spawn a (n ∷ ns) = (n < 48) × (has_target a (register_at n) ≡ true) × Spawn a ns

spawn_without : (a : Asks) (n : ℕ) (ns : List ℕ) → Spawn a ns → has_target a (register_at n) ≡ false → Without n ns
spawn_without a n [] h e = tt
spawn_without a n (m ∷ ns) h e = (λ same. false≢true (sym e ∙ ap (λ i. has_target a (register_at i)) same ∙ h.1), spawn_without a n ns h.2 e)

-- numbers from this one on
abbrev From : ℕ → List ℕ → Type 0
From n [] = Unit {0}
From n (m ∷ ns) = (n ≤ m) × From n ns

from_without : (n m : ℕ) (ns : List ℕ) → n < m → From m ns → Without n ns
from_without n m [] lt h = tt
from_without n m (x ∷ ns) lt h = let l = h.0 in (λ same. absurd (omega (arith, l, lt, same)), from_without n m ns lt h.1)

from_less : (n m : ℕ) (ns : List ℕ) → n ≤ m → From m ns → From n ns
from_less n m [] le h = tt
from_less n m (x ∷ ns) le h = let l = h.0 in (omega (arith, l, le), from_less n m ns le h.1)

abbrev numbers : List Target → List ℕ
numbers ts = map target_number ts

-- of the custom registers from this one on
record Customs (a : Asks) (c : ℕ) (ns : List ℕ) : Type 0 where
  spawn : Spawn a ns
  from : From (32 + c) ns
  apart : NoTwo ns

module _ (a : Asks) (few : (c : ℕ) → get_or a.spawned_customs c false ≡ true → c < 16) where
  customs : (c : ℕ) (flags : List Bool) → ((i : ℕ) → get_or flags i false ≡ get_or a.spawned_customs (c + i) false) → Customs a c (numbers (custom_targets c flags))
  customs c [] same = record { spawn = tt; from = tt; apart = tt }
  customs c (false ∷ rest) same =
      let r = customs (suc c) rest (λ i. same (suc i) ∙ ap (λ n. get_or a.spawned_customs n false) (omega arith)) in
      record { spawn = r.spawn; from = from_less (32 + c) (32 + suc c) (numbers (custom_targets (suc c) rest)) (omega arith) r.from; apart = r.apart }
  customs c (true ∷ rest) same =
      let r = customs (suc c) rest (λ i. same (suc i) ∙ ap (λ n. get_or a.spawned_customs n false) (omega arith)) in
      let set : get_or a.spawned_customs c false ≡ true = ap (λ n. get_or a.spawned_customs n false) (omega arith) ∙ sym (same 0) in
      let lt = few c set in
      record {
        spawn = (omega (arith, lt), ap (λ t. has_target a t) (sym (custom_at c)) ∙ set, r.spawn);
        from = (omega arith, from_less (32 + c) (32 + suc c) (numbers (custom_targets (suc c) rest)) (omega arith) r.from);
        apart = (from_without (32 + c) (32 + suc c) (numbers (custom_targets (suc c) rest)) (omega arith) r.from, r.apart);
      }

-- of all registers that an instruction spawns
record Own (a : Asks) (ns : List ℕ) : Type 0 where
  spawn : Spawn a ns
  apart : NoTwo ns

own : (a : Asks) → ((c : ℕ) → get_or a.spawned_customs c false ≡ true → c < 16) → ((r : ℕ) → is_register a.spawned r ≡ true → r < 32) → Own a (numbers (targets_of a))
own a few below = by_case a.spawned refl where
  all : Customs a 0 (numbers (custom_targets 0 a.spawned_customs))
  all = customs a few 0 a.spawned_customs (λ i. ap (λ n. get_or a.spawned_customs n false) (omega arith))

  itself : (r : ℕ) → is_register (Some r) r ≡ true
  itself r = grind arith

  by_case : (o : Option ℕ) → a.spawned ≡ o → Own a (numbers (x_target o ++ custom_targets 0 a.spawned_customs))
  by_case None e = record { spawn = all.spawn; apart = all.apart }
  by_case (Some r) e =
      let is : is_register a.spawned r ≡ true = ap (λ (p : Option ℕ). is_register p r) e ∙ itself r in
      let lt = below r is in
      record {
        spawn = (omega (arith, lt), ap (λ t. has_target a t) (sym (x_at r lt)) ∙ is, all.spawn);
        apart = (from_without r (32 + 0) (numbers (custom_targets 0 a.spawned_customs)) (omega (arith, lt)) all.from, all.apart);
      }

without_both : (n : ℕ) (xs ys : List ℕ) → Without n xs → Without n ys → Without n (xs ++ ys)
without_both n [] ys h g = g
without_both n (x ∷ xs) ys h g = (h.0, without_both n xs ys h.1 g)

below_both : (a : Asks) (xs ys : List ℕ) → Spawn a xs → Below 48 ys → Below 48 (xs ++ ys)
below_both a [] ys h g = g
below_both a (x ∷ xs) ys h g = (h.0, below_both a xs ys h.2 g)

-- a number for each register that these owe
abbrev all_numbers : List Owed → List ℕ
all_numbers [] = []
all_numbers (o ∷ older) = numbers (targets_of o.asks) ++ all_numbers older

record AllApart (owed : List Owed) (ns : List ℕ) : Type 0 where
  without : (n : ℕ) → holder n owed ≡ None → Without n ns
  below : Below 48 ns
  apart : NoTwo ns

-- the numbers of one before those of the rest
module _ (o : Owed) (older : List Owed) (ns : List ℕ) (rest : AllApart older ns) (distinct : (n : ℕ) → n < 48 → has_target o.asks (register_at n) ≡ true → holder n older ≡ None) where
  joined : (ms : List ℕ) → Spawn o.asks ms → NoTwo ms → NoTwo (ms ++ ns)
  joined [] h g = rest.apart
  joined (m ∷ ms) h g = (without_both m ms ns g.0 (rest.without m (distinct m h.0 h.1)), joined ms h.2 g.1)

  one_more : (ms : List ℕ) → Own o.asks ms → AllApart (o ∷ older) (ms ++ ns)
  one_more ms h =
      record {
        without = λ n none. (let p = holder_parts n o older none in without_both n ms ns (spawn_without o.asks n ms h.spawn p.0) (rest.without n p.1));
        below = below_both o.asks ms ns h.spawn rest.below;
        apart = joined ms h.spawn h.apart;
      }

counted : (owed : List Owed) → length (targets_owed owed) ≡ length (all_numbers owed)
counted [] = refl
counted (o ∷ older) = both (targets_owed older) (all_numbers older) (targets_of o.asks) (counted older) where
  both : (ts : List (ℕ × Target)) (ns : List ℕ) (own : List Target) → length ts ≡ length ns → length (ts ++ map (λ (t : Target). (o.serial, t)) own) ≡ length (numbers own ++ ns)
  both ts ns own e =
      let mine : List (ℕ × Target) = map (λ (t : Target). (o.serial, t)) own in
      let a : length (ts ++ mine) ≡ length ts + length mine = length-append ts mine in
      let b : length mine ≡ length own = length-map own (λ (t : Target). (o.serial, t)) in
      let c : length (numbers own ++ ns) ≡ length (numbers own) + length ns = length-append (numbers own) ns in
      let d : length (numbers own) ≡ length own = length-map own target_number in
      omega (arith, e, a, b, c, d)

module _ (k : Setting) (ready : IsReady k) where
  own_of : (word : ℕ) (a : Asks) → a ≡ asked k.design word → Own a (numbers (targets_of a))
  own_of word a same =
      own a
      (λ c set. customs_few k.design word c (ready.in_units.touching word (Custom c) (ap (λ (b : Asks). get_or b.spawned_customs c false) (sym same) ∙ set)))
      (λ r set. spawned_few k.design word r (ap (λ (b : Asks). is_register b.spawned r) (sym same) ∙ set))

  all_apart : (rows : List Row) (outs : List Decoupled) (entries : List Entry) (owed : List Owed) → Owing k rows outs entries owed → Distinct owed → AllApart owed (all_numbers owed)
  all_apart rows [] [] [] h d = record { without = λ n none. tt; below = tt; apart = tt }
  all_apart rows [] [] (w ∷ owed) h d = absurd h
  all_apart rows [] (e ∷ entries) owed h d = absurd h
  all_apart rows (o ∷ outs) [] owed h d = absurd h
  all_apart rows (o ∷ outs) (e ∷ entries) [] h d = absurd h
  all_apart rows (o ∷ outs) (e ∷ entries) (w ∷ owed) h d =
      one_more w owed (all_numbers owed) (all_apart rows outs entries owed h.2 d.1) d.0 (numbers (targets_of w.asks)) (own_of o.1 w.asks h.0.asks)

  pub few_targets : (rows : List Row) (outs : List Decoupled) (entries : List Entry) (owed : List Owed) → Owing k rows outs entries owed → Distinct owed → length (targets_owed owed) ≤ 48
  few_targets rows outs entries owed h d =
      let all = all_apart rows outs entries owed h d in
      let most = at_most 48 (all_numbers owed) all.below all.apart in
      let same = counted owed in
      omega (arith, most, same)
