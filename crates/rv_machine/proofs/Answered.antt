-- An interrupt that is to be taken is taken: nothing goes past EX before, and what stands above it retires.
use Rattle.std.proofs.Common.{◌≡◌, ℕ, zero, suc, ◌+◌, ◌-◌, ◌*◌, ◌<◌, ◌≤◌, List, [], ◌∷◌, drop, length, Option, Some, None, Bool, true, false, refl, sym, ap, ◌∙◌, subst, arith, inl, inr}
use Rattle.std.specs.Prelude.{if◌then◌else◌, ◌&&◌, ◌==◌, is_some, is_none, slice_get}
use Rattle.std.proofs.Math.Nat.{mul-le-mul_right, suc-mul}
use Rattle.std.proofs.lemmas.Bool.{cases_lt}
use Rattle.std.proofs.lemmas.List.{length-drop}
use Rattle.rv_seq.specs.declared.commit.Commit.{Commit}
use Rattle.rv_seq.specs.declared.commit.Stop.{Stop}
use Rattle.rv_trace.specs.declared.row.Cell.{Cell}
use Rattle.rv_trace.specs.declared.row.Row.{Row}
use Rattle.rv_trace.specs.declared.row.Hold.{Hold}
use Rattle.rv_trace.specs.declared.row.Hold.TheVariants.{Trap}
use Rattle.rv_trace.specs.Trace.{retirements, rows_without}
use Rattle.rv_holds.specs.declared.token.Beside.{Beside}
use Rattle.rv_holds.specs.declared.token.Token.{Token}
use Rattle.rv_holds.specs.Tokens.{Slots, cells_of}
use Rattle.rv_holds.specs.Holds.{waiting_hold, trap_hold, drain_hold, leaving_hold, own_hold}
use Rattle.rv_holds.specs.Flushing.{struck, remains}
use Rattle.rv_engine.specs.Settings.{Setting, Machine, shape_of, outstanding_in, interrupted_by}
use Rattle.rv_engine.specs.Rows.{waited, going, advanced, turn_by, seen_by, IsRowOf, machine_after}
use Rattle.rv_lawful.specs.Settings as Lawful
use Rattle.rv_lawful.specs.Entering.{is_interrupted, IsClearAfter}
use Rattle.rv_lawful.specs.LawfulTrace.{LawfulRow}
use Rattle.rv_machine.specs.Owing.{judged}
use Rattle.rv_machine.specs.Placed.{one_more, count, IsReady, Inv}
use Rattle.rv_machine.specs.Told.{Decided, NoStops}
use Rattle.rv_machine.proofs.Alike.{alike_count}
use Rattle.rv_machine.proofs.Deciding.{or_else_none, or_else_none_b, own_none, same_test}
use Rattle.rv_machine.proofs.Standing.{cell_here, decided_drop, drop_more}
use Rattle.rv_machine.proofs.Stopping.{remains_none}
use Rattle.rv_machine.proofs.Meeting.{meets_at, seen_meets}
use Rattle.rv_machine.proofs.Moves.{advanced_length}
use Rattle.rv_machine.proofs.Past.{slot_of, drop_advanced}
use Rattle.rv_machine.proofs.NextCounts.{stops_drop}
use Rattle.rv_machine.proofs.Entered.{get_drop, interrupted_is}
use Rattle.rv_machine.proofs.Before as B
use Rattle.rv_machine.proofs.Flushing as F
use Rattle.rv_machine.proofs.Past as P
use Rattle.rv_machine.proofs.NextRow as N
use Rattle.rv_machine.proofs.GoesNext as G
use Rattle.rv_machine.proofs.GoesNext.{token_of_cell}
use Rattle.rv_machine.proofs.EachRow as R

-- where no token is left after the moves, none remained
remain_none : (come : Option Token) (l : Slots) → count (advanced come l) ≡ 0 → remains l ≡ false
remain_none come [] e = refl
remain_none None (None ∷ l) e = remain_none None l e
remain_none (Some c) (None ∷ l) e = absurd (omega (arith, e))
remain_none come (Some t ∷ []) e = by_hold (is_some t.cell.hold) e where
  by_hold : (b : Bool) → count ((if b then Some (waited t) else come) ∷ []) ≡ 0 → b ≡ false
  by_hold false q = refl
  by_hold true q = absurd (omega (arith, q))
remain_none come (Some t ∷ u ∷ l) e = absurd (by_hold (is_some t.cell.hold) e) where
  comes : (s : Option Token) → count ((if is_some (Some t) then Some t else None) ∷ []) ≡ 0 → ⊥
  comes s q = omega (arith, q)

  next : (v : Option Token) → count (advanced (Some t) (v ∷ l)) ≡ 0 → ⊥
  next None q = omega (arith, q)
  next (Some v) q = held (is_some v.cell.hold) q where
    held : (b : Bool) → count ((if b then Some (waited v) else Some t) ∷ advanced (if b then None else Some v) l) ≡ 0 → ⊥
    held true q = omega (arith, q)
    held false q = omega (arith, q)

  by_hold : (b : Bool) → count ((if b then Some (waited t) else come) ∷ advanced (if b then None else Some t) (u ∷ l)) ≡ 0 → ⊥
  by_hold true q = omega (arith, q)
  by_hold false q = next u (behind come q) where
    behind : (c : Option Token) → count (c ∷ advanced (Some t) (u ∷ l)) ≡ 0 → count (advanced (Some t) (u ∷ l)) ≡ 0
    behind None q = q
    behind (Some c) q = absurd (omega (arith, q))

count_le : (l : Slots) → count l ≤ length l
count_le [] = omega arith
count_le (None ∷ l) = let h = count_le l in omega (arith, h)
count_le (Some t ∷ l) = let h = count_le l in omega (arith, h)

if_so : (c : Bool) (z : Option Hold) → c ≡ true → (if c then z else None) ≡ None → z ≡ None
if_so true z p q = q
if_so false z p q = cc

module _ (k : Setting) (ready : IsReady k) (earlier : List Row) (m : Machine) (row : Row) (inv : Inv k earlier m) (is : IsRowOf k m row) where
  law : LawfulRow (judged k) earlier row
  law = R.lawful k ready earlier m row inv is

  -- a row with a stop takes an interrupt that is to be taken
  pub stop_takes : (stop : Stop) → row.stop ≡ Some stop → is_interrupted (judged k) earlier ≡ true → is_some row.taken ≡ true
  stop_takes stop h now = elim (law.stops.cause stop h) [
    | inl x ↦ absurd (x.3.free Trap (record { executing = x.3.executing; interrupted = now }))
    | inr y ↦ law.takes.due now (λ stage c lt stands. y.1 stage c stands)
  ]

  -- where none remains above EX, none stands there after the row
  clear_after : remains (drop (suc (shape_of k).ex) (seen_by k m)) ≡ false → IsClearAfter (judged k) row
  clear_after none stage c lt stands = elim (cases_lt stage (struck (turn_by k m))) [
    | inl less ↦ inl (F.stands_flushed k ready earlier m row inv is stage c less stands).1
    | inr le ↦
        let n = stage - suc (shape_of k).ex in
        let z : suc (shape_of k).ex + n ≡ stage = omega (arith, lt) in
        let t = token_of_cell (seen_by k m) stage c (sym (F.stands_at k ready earlier m row inv is stage le) ∙ stands) in
        let there : slice_get (drop (suc (shape_of k).ex) (seen_by k m)) n ≡ Some (Some t.0) = get_drop (suc (shape_of k).ex) n (seen_by k m) ∙ ap (λ i. slice_get (seen_by k m) i) z ∙ t.1 in
        let x = remains_none (drop (suc (shape_of k).ex) (seen_by k m)) none n t.0.cell (cell_here (drop (suc (shape_of k).ex) (seen_by k m)) n t.0 there) in
        let long = length-drop (suc (shape_of k).ex) (seen_by k m) in
        let all = B.seen_length k ready earlier m inv in
        let last = x.0 in
        let a = ready.ex_last in
        inr (omega (arith, last, long, all, a, z), ap (λ (d : Cell). d.hold) (sym t.2) ∙ x.1)
  ]

  module _ (now : is_interrupted (judged k) earlier ≡ true) (untaken : is_none row.taken ≡ true) (stop : row.stop ≡ None) where
    none_taken : is_some row.taken ≡ true → ⊥
    none_taken h = by_case row.taken untaken h where
      by_case : (o : Option ℕ) → is_none o ≡ true → is_some o ≡ true → ⊥
      by_case None a b = cc
      by_case (Some at) a b = cc

    abbrev after : Slots
    after = drop (suc (shape_of k).ex) (advanced None (seen_by k m))

    at_ex : (s : Option Token) × (older : Slots) × (drop (shape_of k).ex (seen_by k m) ≡ s ∷ older)
    at_ex = let a = ready.ex_last in let long = B.seen_length k ready earlier m inv in slot_of (shape_of k).ex (seen_by k m) (omega (arith, long, a))

    -- a token stays above EX
    some_after : 0 < count (drop (suc (shape_of k).ex) (advanced None (seen_by k m)))
    some_after = by_count (count (drop (suc (shape_of k).ex) (advanced None (seen_by k m)))) refl where
      by_count : (n : ℕ) → count (drop (suc (shape_of k).ex) (advanced None (seen_by k m))) ≡ n → 0 < n
      by_count (suc n) e = omega arith
      by_count zero e =
          let d = at_ex in
          let moved = ap count (drop_advanced (shape_of k).ex None (seen_by k m) d.1 d.0 d.2) in
          let none = remain_none (going d.0) d.1 (sym moved ∙ e) in
          let same : remains (drop (suc (shape_of k).ex) (seen_by k m)) ≡ false = ap (λ (l : Slots). remains l) (drop_more (seen_by k m) d.1 d.0 (shape_of k).ex d.2) ∙ none in
          absurd (none_taken (law.takes.due now (clear_after same)))

    -- and none goes past EX
    none_goes : (s : Option Token) (older : Slots) → drop (shape_of k).ex (seen_by k m) ≡ s ∷ older → going s ≡ None
    none_goes None older d = refl
    none_goes (Some t) older d = by_hold (is_some t.cell.hold) refl where
      z : 0 + (shape_of k).ex ≡ (shape_of k).ex
      z = omega arith

      trap : t.beside.trap ≡ true
      trap =
          ap (λ (b : Beside). b.trap) (meets_at (shape_of k) (interrupted_by k m) (outstanding_in k m) (shape_of k).ex (seen_by k m) older t (seen_meets k m (B.struck_inside k ready earlier m inv)) d)
          ∙ interrupted_is k earlier m inv ∙ now

      shown : Decided k (shape_of k).ex (Some t ∷ older)
      shown = subst (λ l. Decided k (shape_of k).ex l) d (subst (λ b. Decided k b (drop (shape_of k).ex (seen_by k m))) z (decided_drop k 0 (shape_of k).ex (seen_by k m) (B.seen_decided k ready earlier m inv)))

      goes_on : NoStops k (shape_of k).ex (Some t ∷ older)
      goes_on = subst (λ l. NoStops k (shape_of k).ex l) d (subst (λ b. NoStops k b (drop (shape_of k).ex (seen_by k m))) z (stops_drop k 0 (shape_of k).ex (seen_by k m) (N.no_stop k ready earlier m row inv is stop)))

      no_trap : own_hold (shape_of k) (shape_of k).ex t older ≡ None → t.beside.trap ≡ false
      no_trap e =
          untrapped t.beside.trap
          (or_else_none (trap_hold t) (drain_hold t older)
          (if_so ((shape_of k).ex == (shape_of k).ex) (leaving_hold t older) (same_test (shape_of k).ex (shape_of k).ex refl)
          (or_else_none (if (shape_of k).ex == (shape_of k).ex then leaving_hold t older else None) _ (or_else_none_b (waiting_hold (shape_of k) (shape_of k).ex t older) _ e)))) where
            untrapped : (b : Bool) → (if b then Some Trap else None) ≡ None → b ≡ false
            untrapped false q = refl
            untrapped true q = cc

      by_hold : (b : Bool) → is_some t.cell.hold ≡ b → (if b then None else Some t) ≡ None
      by_hold true e = refl
      by_hold false e = cc (no_trap (own_none (shape_of k) (shape_of k).ex t older t.cell.hold shown.0 e goes_on.0), trap)

    -- so what stands above EX is what did, but for what retires
    fewer_above : retirements (row ∷ earlier) + count (drop (suc (shape_of k).ex) (advanced None (seen_by k m))) ≡ retirements earlier + count (drop (suc (shape_of k).ex) m.slots)
    fewer_above =
        let d = at_ex in
        let bound = G.executed_bound k ready earlier m row inv is stop d.0 d.1 d.2 in
        let none = ap (λ o. one_more o (count d.1)) (none_goes d.0 d.1 d.2) in
        let same = alike_count (drop (suc (shape_of k).ex) m.slots) (drop (suc (shape_of k).ex) (seen_by k m)) (P.past_alike k ready earlier m row inv is) in
        let older = ap count (drop_more (seen_by k m) d.1 d.0 (shape_of k).ex d.2) in
        omega (arith, bound, none, same, older)

    -- the rows so far, with those that the tokens above EX may still take
    pub answered : (bound w top : ℕ) → rows_without earlier ≤ bound → w + count (drop (suc (shape_of k).ex) m.slots) * (bound + 1) ≤ top + rows_without earlier
        → suc w + count (drop (suc (shape_of k).ex) (advanced None (seen_by k m))) * (bound + 1) ≤ top + rows_without (row ∷ earlier)
    unfolding retirements rows_without
    answered bound w top le h = by_retired row.retired refl where
      by_retired : (o : Option (ℕ × Commit)) → row.retired ≡ o → suc w + count (drop (suc (shape_of k).ex) (advanced None (seen_by k m))) * (bound + 1) ≤ top + (if is_some row.retired then 0 else suc (rows_without earlier))
      by_retired None e =
          let r = ap (λ (o : Option (ℕ × Commit)). if is_some o then suc (retirements earlier) else retirements earlier) e in
          let w' = ap (λ (o : Option (ℕ × Commit)). if is_some o then 0 else suc (rows_without earlier)) e in
          let f = fewer_above in
          let same : count (drop (suc (shape_of k).ex) (advanced None (seen_by k m))) ≡ count (drop (suc (shape_of k).ex) m.slots) = omega (arith, f, r) in
          let product = ap (λ n. n * (bound + 1)) same in
          omega (arith, product, h, w')
      by_retired (Some p) e =
          let r = ap (λ (o : Option (ℕ × Commit)). if is_some o then suc (retirements earlier) else retirements earlier) e in
          let w' = ap (λ (o : Option (ℕ × Commit)). if is_some o then 0 else suc (rows_without earlier)) e in
          let f = fewer_above in
          let same : count (drop (suc (shape_of k).ex) m.slots) ≡ suc (count (drop (suc (shape_of k).ex) (advanced None (seen_by k m)))) = omega (arith, f, r) in
          let product = ap (λ n. n * (bound + 1)) same ∙ suc-mul (count (drop (suc (shape_of k).ex) (advanced None (seen_by k m)))) (bound + 1) in
          omega (arith, product, h, w', le)

    -- so they are within the bound
    pub answered_low : (bound w top : ℕ) → rows_without (row ∷ earlier) ≤ bound → suc w + count (drop (suc (shape_of k).ex) (advanced None (seen_by k m))) * (bound + 1) ≤ top + rows_without (row ∷ earlier) → suc w ≤ top
    answered_low bound w top le h =
        let some = some_after in
        let product = mul-le-mul_right {m = 1} {n = count (drop (suc (shape_of k).ex) (advanced None (seen_by k m)))} (bound + 1) some in
        omega (arith, product, h, le)

  -- no more tokens stand above EX than there are stages
  pub answered_new : (bound without : ℕ) → 0 + count (drop (suc (shape_of k).ex) (advanced None (seen_by k m))) * (bound + 1) ≤ ((shape_of k).stages - 1 - (shape_of k).ex) * (bound + 1) + without
  answered_new bound without =
      let long = advanced_length None (seen_by k m) ∙ B.seen_length k ready earlier m inv in
      let rest = length-drop (suc (shape_of k).ex) (advanced None (seen_by k m)) in
      let few = count_le (drop (suc (shape_of k).ex) (advanced None (seen_by k m))) in
      let le : count (drop (suc (shape_of k).ex) (advanced None (seen_by k m))) ≤ (shape_of k).stages - 1 - (shape_of k).ex = omega (arith, long, rest, few) in
      let product = mul-le-mul_right {m = count (drop (suc (shape_of k).ex) (advanced None (seen_by k m)))} {n = (shape_of k).stages - 1 - (shape_of k).ex} (bound + 1) le in
      omega (arith, product)
