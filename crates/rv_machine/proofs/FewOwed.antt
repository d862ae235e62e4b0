-- What stands in units owes a register each, and no two the same one.
use Rattle.std.proofs.Common.{◌≡◌, ◌∙◌, refl, sym, ap, ℕ, suc, ◌+◌, ◌<◌, ◌≤◌, List, [], ◌∷◌, length, None, true, arith}
use Rattle.std.proofs.lemmas.Bool.{false≢true}
use Rattle.ix_plan.specs.declared.design.Target.{Target}
use Rattle.ix_plan.specs.declared.design.Target.TheVariants.{X, Custom}
use Rattle.rv_asks.specs.declared.asks.Asks.{Asks}
use Rattle.rv_trace.specs.declared.row.Row.{Row}
use Rattle.rv_unit.specs.declared.entry.Entry.{Entry}
use Rattle.rv_holds.specs.Holds.{register_at}
use Rattle.rv_engine.specs.declared.owing.Owed.{Owed}
use Rattle.rv_engine.specs.Owing.{holder}
use Rattle.rv_engine.specs.Settings.{Setting}
use Rattle.rv_lawful.specs.Outstanding.{Decoupled, has_target}
use Rattle.rv_lawful.specs.Sight.{asked}
use Rattle.rv_machine.specs.Owing.{IsOwing, Owing, Distinct}
use Rattle.rv_machine.specs.Placed.{most_entries, IsReady}
use Rattle.rv_machine.proofs.Apart.{holder_parts}
use Rattle.rv_machine.proofs.BoardHolds.{spawned_few}
use Rattle.rv_machine.proofs.Numbers.{x_at, custom_at}
use Rattle.rv_machine.proofs.Sixteen.{customs_few}
use Rattle.rv_machine.proofs.Pigeonhole.{Below, Without, NoTwo, at_most}

-- each owes the register with this number
abbrev Owe : List ℕ → List Owed → Type 0
Owe [] [] = Unit {0}
Owe (n ∷ ns) (o ∷ owed) = (n < 48) × (has_target o.asks (register_at n) ≡ true) × Owe ns owed
Owe [] (o ∷ owed) = ⊥
Owe (n ∷ ns) [] = ⊥

-- a register that none of these owes is none of theirs
none_owes : (n : ℕ) (ns : List ℕ) (owed : List Owed) → Owe ns owed → holder n owed ≡ None → Without n ns
none_owes n [] [] h none = tt
none_owes n [] (o ∷ owed) h none = absurd h
none_owes n (m ∷ ns) [] h none = absurd h
none_owes n (m ∷ ns) (o ∷ owed) h none =
    let x = holder_parts n o owed none in
    (λ same. false≢true (sym x.0 ∙ ap (λ i. has_target o.asks (register_at i)) same ∙ h.1), none_owes n ns owed h.2 x.1)

-- a number for each entry
record Numbers (bound : ℕ) (entries : List Entry) (owed : List Owed) : Type 0 where
  numbers : List ℕ
  count : length entries ≡ length numbers
  owe : Owe numbers owed
  below : Below bound numbers
  apart : NoTwo numbers

module _ (k : Setting) (ready : IsReady k) where
  -- the number of a register that an instruction spawns
  abbrev HasNumber : ℕ → Type 0
  HasNumber word = (n : ℕ) × (n < 48) × (has_target (asked k.design word) (register_at n) ≡ true) × (n < most_entries k)

  numbered : (word : ℕ) (t : Target) → has_target (asked k.design word) t ≡ true → HasNumber word
  numbered word (X r) h =
      let lt = spawned_few k.design word r h in
      (r, omega (arith, lt), ap (λ t. has_target (asked k.design word) t) (sym (x_at r lt)) ∙ h, omega (arith, lt))
  numbered word (Custom c) h =
      let lt = customs_few k.design word c (ready.in_units.touching word (Custom c) h) in
      let few = ready.in_units.few word c h in
      (32 + c, omega (arith, lt), ap (λ t. has_target (asked k.design word) t) (sym (custom_at c)) ∙ h, omega (arith, few))

  owed_number : (rows : List Row) (o : Decoupled) (e : Entry) (w : Owed) → IsOwing k rows o e w → HasNumber o.1
  owed_number rows o e w h =
      let t = ready.in_units.having o.1 e.unit (ap (λ (a : Asks). a.unit) (sym h.asks) ∙ h.unit) in
      numbered o.1 t.0 t.1

  numbers_of : (rows : List Row) (outs : List Decoupled) (entries : List Entry) (owed : List Owed) → Owing k rows outs entries owed → Distinct owed → Numbers (most_entries k) entries owed
  numbers_of rows [] [] [] h d = record { numbers = []; count = refl; owe = tt; below = tt; apart = tt }
  numbers_of rows [] [] (w ∷ owed) h d = absurd h
  numbers_of rows [] (e ∷ entries) owed h d = absurd h
  numbers_of rows (o ∷ outs) [] owed h d = absurd h
  numbers_of rows (o ∷ outs) (e ∷ entries) [] h d = absurd h
  numbers_of rows (o ∷ outs) (e ∷ entries) (w ∷ owed) h d =
      let rest = numbers_of rows outs entries owed h.2 d.1 in
      let n = owed_number rows o e w h.0 in
      let target : has_target w.asks (register_at n.0) ≡ true = ap (λ (a : Asks). has_target a (register_at n.0)) h.0.asks ∙ n.2 in
      record {
        numbers = n.0 ∷ rest.numbers;
        count = ap suc rest.count;
        owe = (n.1, target, rest.owe);
        below = (n.3, rest.below);
        apart = (none_owes n.0 rest.numbers owed rest.owe (d.0 n.0 n.1 target), rest.apart);
      }

  pub few_owed : (rows : List Row) (outs : List Decoupled) (entries : List Entry) (owed : List Owed) → Owing k rows outs entries owed → Distinct owed → length entries ≤ most_entries k
  few_owed rows outs entries owed h d =
      let r = numbers_of rows outs entries owed h d in
      let most = at_most (most_entries k) r.numbers r.below r.apart in
      let count = r.count in
      omega (arith, most, count)
