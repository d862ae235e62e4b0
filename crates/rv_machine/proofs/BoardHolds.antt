-- A token waits for the least register with an outstanding write, and for the oldest that is to write it.
use Rattle.std.proofs.Common.{◌≡◌, ℕ, ◌+◌, ◌-◌, ◌<◌, ◌≤◌, List, ◌∷◌, drop, Option, Some, None, Bool, true, false, refl, sym, ap, ◌∙◌, subst, arith, ◌⊎◌, inl, inr}
use Rattle.std.specs.Prelude.{if◌then◌else◌, ◌==◌, nat_lt, slice_index_or}
use Rattle.std.proofs.lemmas.Bool.Decides.{nat_tests}
use Rattle.ix_plan.specs.declared.design.Design.{Design}
use Rattle.ix_plan.specs.declared.design.Target.{Target}
use Rattle.ix_plan.specs.declared.design.Target.TheVariants.{X}
use Rattle.ix_plan.specs.declared.design.Target.TheVariants as target
use Rattle.ix_extension.specs.Extensions.{view_extension}
use Rattle.rv_isa.specs.Fields.{rd_of}
use Rattle.rv_seq.specs.declared.decoded.Decoded.{Decoded}
use Rattle.rv_seq.specs.declared.decoded.Decoded.TheVariants as D
use Rattle.rv_seq.specs.Decoding.{decoded_in}
use Rattle.rv_asks.specs.declared.asks.Asks.{Asks}
use Rattle.rv_asks.specs.Asks.{some_so, blank_in, outlines_in, asks_in}
use Rattle.rv_trace.specs.declared.row.Hold.{Hold}
use Rattle.rv_trace.specs.declared.row.Hold.TheVariants.{Board}
use Rattle.rv_trace.specs.declared.row.Row.{Row}
use Rattle.rv_trace.specs.Trace.{is_retired, retirements}
use Rattle.rv_trace.specs.RowParts.{ComesFirst, target_number}
use Rattle.rv_holds.specs.declared.token.Token.{Token}
use Rattle.rv_holds.specs.Tokens.{Slots}
use Rattle.rv_holds.specs.Holds.{oldest, register_count, register_at, spawns_at, spawner, least_from, lower_of, board, board_hold}
use Rattle.rv_engine.specs.Owing.{holder, holder_for, board_of}
use Rattle.rv_engine.specs.Settings.{Setting, shape_of}
use Rattle.rv_lawful.specs.Sight.{asked}
use Rattle.rv_lawful.specs.Outstanding.{is_register, has_target, touches, is_written}
use Rattle.rv_lawful.specs.LawfulTrace.{OwnHold, WaitsForWrite}
use Rattle.rv_machine.specs.Owing.{judged}
use Rattle.rv_machine.specs.Placed.{IsReady, Placed}
use Rattle.rv_machine.specs.Told.{Told}
use Rattle.rv_machine.proofs.Deciding.{test_eq, test_ne}
use Rattle.rv_machine.proofs.Standing.{Has, OldestIs, oldest_is}
use Rattle.rv_machine.proofs.Ordering.{board_kind, FirstOf}
use Rattle.rv_machine.proofs.Sixteen.{customs_few}
use Rattle.rv_machine.proofs.Owes.{Owes, OldestOwes, owing_falls, holder_is}
use Rattle.rv_machine.proofs.Older as O
use Rattle.rv_machine.proofs.Least.{OneIs, LeastIs, least_is, Either, lower_is}
use Rattle.rv_machine.proofs.Numbers.{x_at, custom_at}

-- Registers and their numbers

number_at : (n : ℕ) → target_number (register_at n) ≡ n
number_at n = by_case (nat_lt n 32) refl where
  by_case : (b : Bool) → nat_lt n 32 ≡ b → target_number (if b then X n else target.Custom (n - 32)) ≡ n
  by_case true e = refl
  by_case false e = above n e where
    above : (n : ℕ) → nat_lt n 32 ≡ false → 32 + (n - 32) ≡ n
    above n e = grind (arith, nat_tests)

-- an x register that an instruction spawns is one of the 32
rd_few : (word : ℕ) → rd_of word < 32
rd_few word = omega arith

some_few : (b : Bool) (word r : ℕ) → is_register (some_so b (rd_of word)) r ≡ true → r < 32
some_few true word r e = let same = test_eq (rd_of word) r e in subst (λ n. n < 32) same (rd_few word)
some_few false word r e = cc

spawned_in : (d : Design) (word r : ℕ) (o : Option Decoded) → is_register (asks_in d word o).spawned r ≡ true → r < 32
unfolding asks_in
spawned_in d word r None e = some_few (blank_in d).spawned word r e
spawned_in d word r (Some (D.Base b)) e = cc
spawned_in d word r (Some (D.Own n)) e = some_few (slice_index_or (outlines_in d) n (blank_in d)).spawned word r e

pub spawned_few : (d : Design) (word r : ℕ) → is_register (asked d word).spawned r ≡ true → r < 32
spawned_few d word r e = spawned_in d word r (decoded_in (view_extension d.extension) word) e

-- a token in a stage, with what is told of the row
module _ (k : Setting) (ready : IsReady k) (earlier : List Row) (row : Row) (seen : Slots) (told : Told k earlier row seen) (stage : ℕ) (t : Token) (older : Slots)
    (rest : drop stage seen ≡ Some t ∷ older) (placed : Placed k (retirements earlier) stage (Some t ∷ older)) where
  abbrev Of : ℕ → Option Hold → Type 0
  Of n o = FirstOf (judged k) earlier row stage t.cell n o

  abbrev Waits : Target → ℕ → Type 0
  Waits goal j = WaitsForWrite (judged k) earlier row stage t.cell goal j

  -- one that owes the register, and an older token that spawns it
  abbrev Owed : ℕ → ℕ → Type 0
  Owed n j = (touches t.asks (register_at n) ≡ true) × Owes told.outstanding.owed (λ a. has_target a (register_at n)) j

  abbrev Spawned : ℕ → ℕ → Type 0
  Spawned n j = (touches t.asks (register_at n) ≡ true) × Has older (spawns_at n) j

  one_owed : (n : ℕ) → OneIs Owed n (holder_for told.outstanding.owed t.asks n)
  one_owed n =
      by_case (touches t.asks (register_at n)) refl (holder n told.outstanding.owed)
      (holder_is n told.outstanding.owed (owing_falls k earlier _ told.outstanding.entries told.outstanding.owed told.beside.owing)) where
        by_case : (b : Bool) → touches t.asks (register_at n) ≡ b → (o : Option ℕ) → OldestOwes told.outstanding.owed (λ a. has_target a (register_at n)) o → OneIs Owed n (if b then o else None)
        by_case true e None f = λ j w. f j w.1
        by_case true e (Some i) f = ((e, f.0), λ j w. f.1 j w.1)
        by_case false e o f = λ j w. cc (w.0, e)

  one_spawned : (n : ℕ) → OneIs Spawned n (spawner older t.asks n)
  one_spawned n =
      by_case (touches t.asks (register_at n)) refl (oldest (spawns_at n) older)
      (oldest_is (row ∷ earlier) (retirements earlier) (spawns_at n) older (O.ordered k earlier row seen told stage t older rest).1) where
        by_case : (b : Bool) → touches t.asks (register_at n) ≡ b → (o : Option ℕ) → OldestIs older (spawns_at n) o → OneIs Spawned n (if b then o else None)
        by_case true e None f = λ j w. f j w.1
        by_case true e (Some i) f = ((e, f.0), λ j w. f.1 j w.1)
        by_case false e o f = λ j w. cc (w.0, e)

  owed_before : (n m i j : ℕ) → Owed n i → Spawned m j → i ≤ j
  owed_before n m i j p q =
      let f : Asks → Bool = λ a. has_target a (register_at n) in
      let g : Asks → Bool = λ a. has_target a (register_at m) in
      O.owed_first k earlier row seen told stage t older rest f i j (O.is_owed k earlier row seen told f i p.1)
      (O.older_of k earlier row seen told stage t older rest g j q.1).unflushed (O.unretired_of k earlier row seen told stage t older rest g j q.1)

  abbrev IsWaited : ℕ → ℕ → Type 0
  IsWaited = Either Owed Spawned

  least_waited : stage ≡ (shape_of k).rd → LeastIs IsWaited 0 48 (lower_of t.beside.board (least_from (spawner older t.asks) 0 register_count))
  unfolding register_count
  least_waited at =
      subst (λ o. LeastIs IsWaited 0 48 (lower_of o (least_from (spawner older t.asks) 0 48))) (sym met)
      (lower_is Owed Spawned 0 48 owed_before (least_from (holder_for told.outstanding.owed t.asks) 0 48) (least_from (spawner older t.asks) 0 48)
      (least_is Owed (holder_for told.outstanding.owed t.asks) 0 48 one_owed) (least_is Spawned (spawner older t.asks) 0 48 one_spawned)) where
        met : t.beside.board ≡ board_of told.outstanding.owed t.asks
        met = ap (λ b. b.board) (told.beside.meets stage t older rest) ∙ by_test (stage == (shape_of k).rd) refl where
          by_test : (b : Bool) → (stage == (shape_of k).rd) ≡ b → (if b then board_of told.outstanding.owed t.asks else None) ≡ board_of told.outstanding.owed t.asks
          by_test true e = refl
          by_test false e = absurd (test_ne stage (shape_of k).rd e at)

  -- what is waited for is one of these
  touched : (goal : Target) (n : ℕ) → goal ≡ register_at n → touches (asked k.design t.cell.word) goal ≡ true → touches t.asks (register_at n) ≡ true
  touched goal n same e = ap (λ (a : Asks). touches a (register_at n)) placed.0.asks ∙ ap (λ g. touches (asked k.design t.cell.word) g) (sym same) ∙ e

  from_write : (goal : Target) (n j : ℕ) → goal ≡ register_at n → Waits goal j → IsWaited n j
  from_write goal n j same w = by_case (is_retired earlier j) refl where
    f : Asks → Bool
    f a = has_target a (register_at n)

    spawns : f (asked k.design w.spawns.0) ≡ true
    spawns = ap (λ g. has_target (asked k.design w.spawns.0) g) (sym same) ∙ w.spawns.2

    by_case : (b : Bool) → is_retired earlier j ≡ b → IsWaited n j
    by_case true e =
        inl (
          touched goal n same w.touches,
          O.owes_of k earlier row seen told f j w.spawns.0 w.older.unflushed e w.unwritten w.spawns.1 (ready.in_units.spawning w.spawns.0 (register_at n) spawns) spawns,
        )
    by_case false e = inr (touched goal n same w.touches, O.from_word k earlier row seen told stage t older rest f j w.older e w.spawns.0 w.spawns.1 spawns)

  unwritten_false : (b : Bool) → (b ≡ true → ⊥) → b ≡ false
  unwritten_false true h = absurd (h refl)
  unwritten_false false h = refl

  to_write : (n j : ℕ) → stage ≡ (shape_of k).rd → IsWaited n j → Waits (register_at n) j
  to_write n j at (inl x) =
      let f : Asks → Bool = λ a. has_target a (register_at n) in
      let o = O.is_owed k earlier row seen told f j x.1 in
      record {
        reading = at;
        touches = sym (ap (λ (a : Asks). touches a (register_at n)) placed.0.asks) ∙ x.0;
        older = O.owed_older k earlier row seen told stage t older rest f j o;
        unwritten = O.owed_unwritten k earlier row seen told f j o;
        spawns = O.owed_word k earlier row seen told f j o;
      }
  to_write n j at (inr x) =
      let f : Asks → Bool = λ a. has_target a (register_at n) in
      let stays = O.unretired_of k earlier row seen told stage t older rest f j x.1 in
      record {
        reading = at;
        touches = sym (ap (λ (a : Asks). touches a (register_at n)) placed.0.asks) ∙ x.0;
        older = O.older_of k earlier row seen told stage t older rest f j x.1;
        unwritten = unwritten_false (is_written earlier j) (λ e. cc (told.beside.paid j e, stays));
        spawns = O.word_of k earlier row seen told stage t older rest f j x.1;
      }

  -- each register has a number below 48
  numbered_at : (goal : Target) (j : ℕ) → Waits goal j → (n : ℕ) × (n < 48) × (goal ≡ register_at n)
  numbered_at (X r) j w =
      let lt = spawned_few k.design w.spawns.0 r w.spawns.2 in
      (r, omega (arith, lt), x_at r lt)
  numbered_at (target.Custom c) j w =
      let lt = customs_few k.design w.spawns.0 c (ready.in_units.touching w.spawns.0 (target.Custom c) w.spawns.2) in
      (32 + c, omega (arith, lt), custom_at c)

  board_of-least : stage ≡ (shape_of k).rd → (o : Option (ℕ × ℕ)) → LeastIs IsWaited 0 48 o → Of 1 (board o)
  board_of-least at None u = λ h e own.
      let x = board_kind h e in
      let w = subst (λ y. OwnHold (judged k) earlier row stage t.cell y) x.2 own in
      let n = numbered_at x.0 x.1 w in
      u n.0 x.1 (omega arith) n.1 (from_write x.0 n.0 x.1 n.2 w)
  board_of-least at (Some found) u = (
    refl,
    to_write found.0 found.1 at u.0,
    λ g e own.
        let x = board_kind g e in
        let w = subst (λ y. OwnHold (judged k) earlier row stage t.cell y) x.2 own in
        let n = numbered_at x.0 x.1 w in
        subst (λ y. ComesFirst (Board (register_at found.0) found.1) y) (sym x.2)
        (inr (refl, named x.0 n.0 x.1 n.2 (u.3 n.0 x.1 (omega arith) n.1 (from_write x.0 n.0 x.1 n.2 w)))),
  ) where
    named : (goal : Target) (n j : ℕ) → goal ≡ register_at n → (found.0 < n) ⊎ ((found.0 ≡ n) × (found.1 ≤ j))
        → (target_number (register_at found.0) < target_number goal) ⊎ ((target_number (register_at found.0) ≡ target_number goal) × (found.1 ≤ j))
    named goal n j same (inl lt) =
        let a = number_at found.0 in
        let b = ap target_number same ∙ number_at n in
        inl (omega (arith, a, b, lt))
    named goal n j same (inr e) =
        let a = number_at found.0 in
        let b = ap target_number same ∙ number_at n in
        let c = e.0 in
        inr (omega (arith, a, b, c), e.1)

  pub board_where : Of 1 (if stage == (shape_of k).rd then board_hold t older else None)
  board_where = by_case (stage == (shape_of k).rd) refl where
    by_case : (b : Bool) → (stage == (shape_of k).rd) ≡ b → Of 1 (if b then board_hold t older else None)
    by_case true e =
        let at = test_eq stage (shape_of k).rd e in
        board_of-least at (lower_of t.beside.board (least_from (spawner older t.asks) 0 register_count)) (least_waited at)
    by_case false e = λ h q own.
        let x = board_kind h q in
        let w = subst (λ y. OwnHold (judged k) earlier row stage t.cell y) x.2 own in
        test_ne stage (shape_of k).rd e w.reading
