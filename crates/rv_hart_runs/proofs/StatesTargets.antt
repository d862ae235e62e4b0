-- Registers by their numbers: where an instruction touches no spawn target of another one, what both write goes to different registers.
use Rattle.std.proofs.Common.{◌≡◌, ◌≢◌, ◌∙◌, refl, sym, ap, subst, ℕ, ◌+◌, ◌-◌, ◌<◌, get_or, Option, Some, None, Bool, true, false, arith}
use Rattle.std.specs.Prelude.{if◌then◌else◌, nat_lt, ◌==◌, ◌||◌, not, is_some, slice_index_or}
use Rattle.std.proofs.lemmas.Bool.{false≢true}
use Rattle.std.proofs.lemmas.Bool.Decides.{nat_tests}
use Rattle.ix_extension.specs.Extensions.{view_extension}
use Rattle.ix_plan.specs.declared.design.Design.{Design}
use Rattle.ix_plan.specs.declared.design.Target.TheVariants.{X, Custom}
use Rattle.rv_asks.specs.declared.asks.Asks.{Asks}
use Rattle.rv_asks.specs.Asks.{some_so, blank_in, outlines_in, asks_in}
use Rattle.rv_seq.specs.declared.decoded.Decoded.{Decoded}
use Rattle.rv_seq.specs.declared.decoded.Decoded.TheVariants as D
use Rattle.rv_seq.specs.Decoding.{decoded_in}
use Rattle.rv_holds.specs.Holds.{register_at}
use Rattle.rv_isa.specs.Fields.{rd_of}
use Rattle.rv_lawful.specs.Outstanding.{is_register, has_target, touches}
use Rattle.rv_lawful.specs.Sight.{asked, SpawnsNothing}
use Rattle.rv_seq.specs.declared.commit.Commit.{Commit}
use Rattle.rv_sight.specs.InUnits.{AreInUnits}
use Rattle.rv_tried.specs.declared.parts.Spawned.{Spawned}
use Rattle.rv_hart_runs.proofs.Passing.{test_same, same_number}
use Rattle.rv_hart_runs.proofs.StatesSwaps.{BothPaid, WithRecord}
use Rattle.rv_hart_runs.proofs.StatesParts.{IsSparse, IsOwnWrite, sparse_apart, own_apart}

pub x_at : (r : ℕ) → r < 32 → X r ≡ register_at r
x_at r lt = ap (λ (b : Bool). if b then X r else Custom (r - 32)) (low r lt) where
  low : (r : ℕ) → r < 32 → true ≡ nat_lt r 32
  low r lt = grind (arith, nat_tests)

pub custom_at : (c : ℕ) → Custom c ≡ register_at (32 + c)
custom_at c = ap (λ n. Custom n) same ∙ ap (λ (b : Bool). if b then X (32 + c) else Custom (32 + c - 32)) (high c) where
  same : c ≡ 32 + c - 32
  same = omega arith

  high : (c : ℕ) → false ≡ nat_lt (32 + c) 32
  high c = grind (arith, nat_tests)

-- an x register that an instruction spawns is one of the 32
some_few : (b : Bool) (word r : ℕ) → is_register (some_so b (rd_of word)) r ≡ true → r < 32
some_few true word r e = let few : rd_of word < 32 = omega arith in subst (λ n. n < 32) (same_number (rd_of word) r e) few
some_few false word r e = cc

spawned_in : (d : Design) (word r : ℕ) (o : Option Decoded) → is_register (asks_in d word o).spawned r ≡ true → r < 32
unfolding asks_in
spawned_in d word r None e = some_few (blank_in d).spawned word r e
spawned_in d word r (Some (D.Base b)) e = cc
spawned_in d word r (Some (D.Own n)) e = some_few (slice_index_or (outlines_in d) n (blank_in d)).spawned word r e

pub spawned_few : (d : Design) (word r : ℕ) → (asked d word).spawned ≡ Some r → r < 32
spawned_few d word r e = spawned_in d word r (decoded_in (view_extension d.extension) word) (ap (λ o. is_register o r) e ∙ test_same r r refl)

-- an instruction touches no spawn target of another one
abbrev pub NoTouched : Asks → Asks → Type 0
NoTouched a b = (n : ℕ) → n < 48 → touches a (register_at n) ≡ true → has_target b (register_at n) ≡ false

touched_x : (d : Design) (word : ℕ) (a : Asks) → NoTouched a (asked d word) → (r : ℕ) → touches a (X r) ≡ true → (asked d word).spawned ≡ Some r → ⊥
touched_x d word a h r t f =
    let few = spawned_few d word r f in
    let at = x_at r few in
    false≢true
    (sym (h r (omega (arith, few)) (ap (λ z. touches a z) (sym at) ∙ t)) ∙ ap (λ z. has_target (asked d word) z) (sym at) ∙ ap (λ o. is_register o r) f
    ∙ test_same r r refl)

touched_custom : (a b : Asks) → NoTouched a b → (r : ℕ) → r < 16 → touches a (Custom r) ≡ true → get_or b.spawned_customs r false ≡ true → ⊥
touched_custom a b h r few t f =
    let at = custom_at r in
    false≢true (sym (h (32 + r) (omega (arith, few)) (ap (λ z. touches a z) (sym at) ∙ t)) ∙ ap (λ z. has_target b z) (sym at) ∙ f)

-- its destination, but x0, is touched
destination_touched : (a : Asks) (r : ℕ) → r ≢ 0 → a.destination ≡ r → touches a (X r) ≡ true
destination_touched a r some e = rw (not_zero r some, e, test_same r r refl) (either (r == a.first) (r == a.second) (is_register a.spawned r)) where
  not_zero : (n : ℕ) → n ≢ 0 → not (n == 0) ≡ true
  not_zero n ne = by_flag (n == 0) refl where
    by_flag : (b : Bool) → (n == 0) ≡ b → not (n == 0) ≡ true
    by_flag true q = absurd (ne (same_number n 0 q))
    by_flag false q = ap (λ b. not b) q

  either : (b c s : Bool) → ((b || (c || true)) || s) ≡ true
  either true c s = refl
  either false true s = refl
  either false false s = refl

module _ (d : Design) (units : AreInUnits d) where
  -- what an instruction spawns it touches
  spawned_touched : (word r : ℕ) → (asked d word).spawned ≡ Some r → touches (asked d word) (X r) ≡ true
  spawned_touched word r e = units.touching word (X r) (ap (λ o. is_register o r) e ∙ test_same r r refl)

  pub unspawned : (word r : ℕ) → get_or (asked d word).customs r false ≡ false → get_or (asked d word).spawned_customs r false ≡ false
  unspawned word r none = by_case (get_or (asked d word).spawned_customs r false) refl where
    by_case : (b : Bool) → get_or (asked d word).spawned_customs r false ≡ b → get_or (asked d word).spawned_customs r false ≡ false
    by_case false e = e
    by_case true e = absurd (false≢true (sym none ∙ units.touching word (Custom r) e))

  -- one without a unit spawns nothing
  pub no_unit : (word : ℕ) → (asked d word).unit ≡ None → SpawnsNothing (asked d word)
  no_unit word none = record {
    x = by_x (asked d word).spawned refl;
    customs = λ r. by_custom r (get_or (asked d word).spawned_customs r false) refl;
    unit = none;
  } where
    no_target : is_some (asked d word).unit ≡ true → ⊥
    no_target h = false≢true (sym (ap (λ (o : Option ℕ). is_some o) none) ∙ h)

    by_x : (o : Option ℕ) → (asked d word).spawned ≡ o → o ≡ None
    by_x None e = refl
    by_x (Some r) e = absurd (no_target (units.spawning word (X r) (ap (λ o. is_register o r) e ∙ test_same r r refl)))

    by_custom : (r : ℕ) (b : Bool) → get_or (asked d word).spawned_customs r false ≡ b → get_or (asked d word).spawned_customs r false ≡ false
    by_custom r false e = e
    by_custom r true e = absurd (no_target (units.spawning word (Custom r) e))

  -- what two instructions spawn, where one touches no target of the other
  pub spawns_apart : (v w : ℕ) (p q : Spawned) → NoTouched (asked d v) (asked d w) → IsSparse (asked d v) p → IsSparse (asked d w) q → BothPaid p q
  spawns_apart v w p q h sp sq =
      sparse_apart (asked d v) (asked d w) p q sp sq (λ r e f. touched_x d w (asked d v) h r (spawned_touched v r e) f)
      (λ r few e f. touched_custom (asked d v) (asked d w) h r few (units.touching v (Custom r) e) f)

  -- what one writes itself, and what the other spawns
  pub own_spawn_apart : (v w : ℕ) (c : Commit) (q : Spawned) → NoTouched (asked d v) (asked d w) → IsOwnWrite (asked d v) c → IsSparse (asked d w) q → WithRecord c q
  own_spawn_apart v w c q h own sq =
      own_apart (asked d v) (asked d w) c q own sq (λ r some e f. touched_x d w (asked d v) h r (destination_touched (asked d v) r some e) f)
      (λ r few e f. touched_custom (asked d v) (asked d w) h r few e f)
