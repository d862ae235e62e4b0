-- For how many rows each module still goes on after a row.
use Rattle.std.proofs.Common.{◌≡◌, ℕ, zero, suc, ◌+◌, ◌<◌, ◌≤◌, List, [], ◌∷◌, drop, length, Option, Some, None, Bool, true, false, refl, sym, ap, ◌∙◌, subst, arith, inl, inr, ◌-◌}
use Rattle.std.specs.Prelude.{if◌then◌else◌, ◌==◌, is_some, get_or, min, max, ◌&&◌, slice_get}
use Rattle.std.proofs.lemmas.Bool.Decides.{nat_tests}
use Rattle.rv_core.specs.declared.Shape.{Shape}
use Rattle.rv_trace.specs.declared.row.Row.{Row}
use Rattle.rv_trace.specs.declared.row.Hold.{Hold}
use Rattle.rv_trace.specs.declared.row.Hold.TheVariants as H
use Rattle.rv_holds.specs.declared.token.Token.{Token}
use Rattle.rv_holds.specs.Tokens.{Slots, or_else, stop_of, cells_of}
use Rattle.rv_holds.specs.Holds.{oldest, operand, withholder, waits_for, operand_hold, custom, writes_late, waits_for_custom, first_from, custom_hold, late, is_late, late_hold, waiting_hold, drain, drain_hold, store_ahead, does_store, store_hold, memory_hold, own_hold, stops_now, is_blocked, shown, board, reading_hold, left_behind, board_hold, ending_hold, lower_of, least_from, spawner, register_count, trap_hold, leaving_hold}
use Rattle.rv_engine.specs.Settings.{Setting, Machine, shape_of, outstanding_in, interrupted_by}
use Rattle.rv_engine.specs.Rows.{tail_after, advanced, seen_by, IsRowOf}
use Rattle.rv_lawful.specs.Settings as Lawful
use Rattle.rv_machine.specs.Owing.{judged}
use Rattle.rv_machine.specs.Placed.{IsReady, Inv}
use Rattle.rv_machine.specs.Told.{Decided}
use Rattle.rv_machine.proofs.Deciding.{test_eq, same_test}
use Rattle.rv_machine.proofs.Standing.{decided_drop, here_of, cell_here}
use Rattle.rv_machine.proofs.Moves.{advanced_length}
use Rattle.rv_machine.proofs.Before as B
use Rattle.rv_machine.proofs.Telling as T
use Rattle.rv_machine.proofs.Tails.{Moved, stayed, went, moved_from, last_hold}
use Rattle.rv_machine.proofs.GoesNext.{TailsAfter}
use Rattle.rv_machine.proofs.Meeting.{seen_meets, meets_at}
use Rattle.rv_asks.specs.declared.asks.Asks.{Asks}
use Rattle.rv_unit.specs.Entries.{is_frozen}
use Rattle.rv_engine.specs.Owing.{Outstanding, paying, unit_hold, port_serial, port_hold, retiring_hold, beside_of}
use Rattle.rv_trace.specs.declared.row.Cell.{Cell}
use Rattle.rv_trace.specs.Trace.{retirements}
use Rattle.rv_machine.proofs.Places.{token_order}
use Rattle.rv_machine.proofs.Flushing.{alike_get, new_serial, fetched_serial}
use Rattle.rv_machine.proofs.Flushing as F

-- ---- below the last stage no hold is Tail

abbrev IsPlain : Option Hold → Type 0
IsPlain o = Lawful.is_tail o ≡ false

plain_or : (a b : Option Hold) → IsPlain a → IsPlain b → IsPlain (or_else a b)
plain_or None b p q = q
plain_or (Some h) b p q = p

plain_if : (b : Bool) (o : Option Hold) → IsPlain o → IsPlain (if b then o else None)
plain_if true o p = p
plain_if false o p = refl

plain_unless : (b : Bool) (o : Option Hold) → IsPlain o → IsPlain (if b then None else o)
plain_unless true o p = refl
plain_unless false o p = p

plain_operand : (r : ℕ) (o : Option ℕ) → IsPlain (operand r o)
plain_operand r None = refl
plain_operand r (Some j) = refl

plain_custom : (r : ℕ) (o : Option ℕ) → IsPlain (custom r o)
plain_custom r None = refl
plain_custom r (Some j) = refl

plain_late : (o : Option ℕ) → IsPlain (late o)
plain_late None = refl
plain_late (Some j) = refl

plain_drain : (o : Option ℕ) → IsPlain (drain o)
plain_drain None = refl
plain_drain (Some j) = refl

plain_store : (o : Option ℕ) → IsPlain (store_ahead o)
plain_store None = refl
plain_store (Some j) = refl

plain_board : (o : Option (ℕ × ℕ)) → IsPlain (board o)
plain_board None = refl
plain_board (Some found) = refl

plain_first : (f : ℕ → Option Hold) (r n : ℕ) → ((i : ℕ) → IsPlain (f i)) → IsPlain (first_from f r n)
plain_first f r zero p = refl
plain_first f r (suc n) p = plain_or (f r) (first_from f (suc r) n) (p r) (plain_first f (suc r) n p)

plain_waits : (k : Shape) (r stage : ℕ) (older : Slots) → IsPlain (waits_for k r stage older)
plain_waits k r stage older = plain_unless (r == 0) (operand r (withholder k r stage older)) (plain_operand r (withholder k r stage older))

plain_waiting : (k : Shape) (stage : ℕ) (t : Token) (older : Slots) → IsPlain (waiting_hold k stage t older)
plain_waiting k stage t older =
    plain_or (if stage == k.rd then reading_hold k stage t older else None) (if stage == k.ex then or_else (custom_hold older t.asks) (late_hold older) else None)
    (plain_if (stage == k.rd) (reading_hold k stage t older)
    (plain_or (operand_hold k (suc stage) older t.asks) (board_hold t older)
    (plain_or (waits_for k (min t.asks.first t.asks.second) (suc stage) older) (waits_for k (max t.asks.first t.asks.second) (suc stage) older) (plain_waits k (min t.asks.first t.asks.second) (suc stage) older) (plain_waits k (max t.asks.first t.asks.second) (suc stage) older))
    (plain_board (lower_of t.beside.board (least_from (spawner older t.asks) 0 register_count)))))
    (plain_if (stage == k.ex) (or_else (custom_hold older t.asks) (late_hold older))
    (plain_or (custom_hold older t.asks) (late_hold older)
    (plain_first (waits_for_custom older t.asks) 0 16 (λ r. plain_if (get_or t.asks.customs r false) (custom r (oldest (writes_late r) older)) (plain_custom r (oldest (writes_late r) older)))) (plain_late (oldest is_late older))))

plain_own : (k : Shape) (stage : ℕ) (t : Token) (older : Slots) → (suc stage == k.stages) ≡ false → IsPlain (own_hold k stage t older)
plain_own k stage t older e =
    plain_or (waiting_hold k stage t older) _ (plain_waiting k stage t older)
    (plain_or (if stage == k.ex then leaving_hold t older else None) _ (plain_if (stage == k.ex) (leaving_hold t older) (plain_or (trap_hold t) (drain_hold t older) (plain_if t.beside.trap (Some H.Trap) refl) (plain_if (is_some (stop_of t)) (drain (left_behind t older)) (plain_drain (left_behind t older)))))
    (plain_or (if stage == k.mem then or_else (memory_hold t) (store_hold older t.asks) else None) (if suc stage == k.stages then ending_hold t else None)
    (plain_if (stage == k.mem) (or_else (memory_hold t) (store_hold older t.asks))
    (plain_or (memory_hold t) (store_hold older t.asks) (plain_unless (t.wait == 0) (Some (H.Wait t.wait)) refl) (plain_if t.asks.loads (store_ahead (oldest does_store older)) (plain_store (oldest does_store older)))))
    (ap (λ (b : Bool). Lawful.is_tail (if b then ending_hold t else None)) e)))

pub plain_shown : (k : Shape) (stage : ℕ) (t : Token) (older : Slots) → (suc stage == k.stages) ≡ false → IsPlain (shown k stage t older)
plain_shown k stage t older e =
    plain_unless (stops_now k stage t older) (or_else (own_hold k stage t older) (if is_blocked k (suc stage) older then Some H.Behind else None))
    (plain_or (own_hold k stage t older) (if is_blocked k (suc stage) older then Some H.Behind else None) (plain_own k stage t older e) (plain_if (is_blocked k (suc stage) older) (Some H.Behind) refl))

-- nor is what is met beside the stages
pub plain_met : (k : Shape) (now : Bool) (o : Outstanding) (stage : ℕ) (a : Asks) → IsPlain (beside_of k now o stage a).port
plain_met k now o stage a = plain_if (suc stage == k.stages) (retiring_hold o a) (plain_or (unit_hold o a.unit) (port_hold (port_serial (paying o)) a.destination) (plain_unit a.unit) (plain_port (port_serial (paying o)))) where
  plain_unit : (u : Option ℕ) → IsPlain (unit_hold o u)
  plain_unit None = refl
  plain_unit (Some u) = plain_if (is_frozen o.lasts o.entries u) (Some (H.UnitFull u)) refl

  plain_port : (s : Option ℕ) → IsPlain (port_hold s a.destination)
  plain_port None = refl
  plain_port (Some j) = plain_unless (a.destination == 0) (Some (H.Port j)) refl

-- a row held by Tail takes one
one_less : (o : Option Hold) (tail held asked : ℕ) → (Lawful.is_tail o ≡ true → 0 < tail) → tail + held ≡ asked → tail_after o tail + (if Lawful.is_tail o then suc held else held) ≡ asked
one_less None tail held asked p e = e
one_less (Some (H.Tail left)) tail held asked p e = let lt = p refl in omega (arith, lt, e)
one_less (Some h) tail held asked p e = e

-- a token of the last stage shows Tail for its module alone
some_tail : (in_mem : Bool) (t : Token) → Lawful.is_tail t.beside.port ≡ false → Lawful.is_tail (or_else (if in_mem then memory_hold t else None) (ending_hold t)) ≡ true → 0 < t.tail
some_tail in_mem t plain h = by_case in_mem (t.wait == 0) (t.tail == 0) refl h where
  above : (n : ℕ) → (n == 0) ≡ false → 0 < n
  above n h = grind (arith, nat_tests)

  by_case : (a b c : Bool) → (t.tail == 0) ≡ c → Lawful.is_tail (or_else (if a then (if b then None else Some (H.Wait t.wait)) else None) (or_else (if c then None else Some (H.Tail t.tail)) t.beside.port)) ≡ true → 0 < t.tail
  by_case a b false q e = above t.tail q
  by_case false b true q e = cc (plain, e)
  by_case true true true q e = cc (plain, e)
  by_case true false true q e = cc

module _ (k : Setting) (ready : IsReady k) (earlier : List Row) (m : Machine) (row : Row) (inv : Inv k earlier m) (is : IsRowOf k m row) where
  -- the row shows another token in the last stage
  below_last : (n : ℕ) (t : Token) (older : Slots) → drop n (seen_by k m) ≡ Some t ∷ older → suc n < (shape_of k).stages → Lawful.tailed (judged k) (row ∷ earlier) t.cell.serial ≡ Lawful.tailed (judged k) earlier t.cell.serial
  unfolding Lawful.tailed
  below_last n t older e lt =
      let here = here_of (seen_by k m) older t n e in
      let x = F.left_from k ready earlier m row inv is n t here in
      let le = x.0 in
      ap (λ o. if Lawful.has_tail o t.cell.serial then suc (Lawful.tailed (judged k) earlier t.cell.serial) else Lawful.tailed (judged k) earlier t.cell.serial) (F.stands_at k ready earlier m row inv is ((shape_of k).stages - 1) (omega (arith, le, lt)))
      ∙ by_slot (slice_get (cells_of (seen_by k m)) ((shape_of k).stages - 1)) refl where
        other : (x y : ℕ) → x < y → (x == y) ≡ false
        other x y lt = grind (arith, nat_tests)

        token_there : (l : Slots) (i : ℕ) (c : Cell) → slice_get (cells_of l) i ≡ Some (Some c) → (w : Token) × (slice_get l i ≡ Some (Some w)) × (w.cell ≡ c)
        token_there [] i c q = cc
        token_there (None ∷ l) zero c q = cc
        token_there (Some w ∷ l) zero c q = (w, refl, same_cell w.cell c q) where
          same_cell : (a b : Cell) → ◌≡◌ {A = Option (Option Cell)} (Some (Some a)) (Some (Some b)) → a ≡ b
          same_cell a b z = cc
        token_there (s ∷ l) (suc i) c q = token_there l i c q

        by_slot : (o : Option (Option Cell)) → slice_get (cells_of (seen_by k m)) ((shape_of k).stages - 1) ≡ o → (if Lawful.has_tail o t.cell.serial then suc (Lawful.tailed (judged k) earlier t.cell.serial) else Lawful.tailed (judged k) earlier t.cell.serial) ≡ Lawful.tailed (judged k) earlier t.cell.serial
        by_slot None q = refl
        by_slot (Some None) q = refl
        by_slot (Some (Some c)) q =
            let w = token_there (seen_by k m) ((shape_of k).stages - 1) c q in
            let less = token_order (row ∷ earlier) (retirements earlier) n ((shape_of k).stages - 1) (seen_by k m) t w.0 (F.seen_serials k ready earlier m row inv is) (omega (arith, lt)) (here_of (seen_by k m) older t n e) w.1 in
            let same = ap (λ (d : Cell). d.serial) w.2 in
            ap (λ (b : Bool). if b && Lawful.is_tail c.hold then suc (Lawful.tailed (judged k) earlier t.cell.serial) else Lawful.tailed (judged k) earlier t.cell.serial) (other c.serial t.cell.serial (omega (arith, less, same)))

  -- a token of the last stage is shown there
  at_last : (n : ℕ) (t : Token) (older : Slots) → drop n (seen_by k m) ≡ Some t ∷ older → suc n ≡ (shape_of k).stages → Lawful.tailed (judged k) (row ∷ earlier) t.cell.serial ≡ (if Lawful.is_tail t.cell.hold then suc (Lawful.tailed (judged k) earlier t.cell.serial) else Lawful.tailed (judged k) earlier t.cell.serial)
  unfolding Lawful.tailed
  at_last n t older e last =
      let here = here_of (seen_by k m) older t n e in
      let x = F.left_from k ready earlier m row inv is n t here in
      let i : (shape_of k).stages - 1 ≡ n = omega (arith, last) in
      ap (λ o. if Lawful.has_tail o t.cell.serial then suc (Lawful.tailed (judged k) earlier t.cell.serial) else Lawful.tailed (judged k) earlier t.cell.serial)
      (ap (λ j. slice_get (Lawful.stages_of (judged k) row) j) i ∙ F.stands_at k ready earlier m row inv is n x.0 ∙ cell_here (seen_by k m) n t here)
      ∙ ap (λ (b : Bool). if b && Lawful.is_tail t.cell.hold then suc (Lawful.tailed (judged k) earlier t.cell.serial) else Lawful.tailed (judged k) earlier t.cell.serial) (same_test t.cell.serial t.cell.serial refl)

  within : (n : ℕ) (l older : Slots) (s : Option Token) → drop n l ≡ s ∷ older → n + suc (length older) ≡ length l
  within zero [] older s e = cc
  within zero (x ∷ l) older s e = let h = ap length e in omega (arith, h)
  within (suc n) [] older s e = cc
  within (suc n) (x ∷ l) older s e = let h = within n l older s e in omega (arith, h)

  empty : (l : Slots) → length l ≡ 0 → l ≡ []
  empty [] h = refl
  empty (s ∷ l) h = absurd (omega (arith, h))

  held_at : (i : ℕ) (t : Token) (rest : Slots) → drop i (seen_by k m) ≡ Some t ∷ rest → t.cell.hold ≡ shown (shape_of k) i t rest
  held_at i t rest d =
      let z : 0 + i ≡ i = omega arith in
      (subst (λ l. Decided k i l) d (subst (λ b. Decided k b (drop i (seen_by k m))) z (decided_drop k 0 i (seen_by k m) (B.seen_decided k ready earlier m inv)))).0

  -- what it meets is not Tail
  met_at : (i : ℕ) (t : Token) (rest : Slots) → drop i (seen_by k m) ≡ Some t ∷ rest → Lawful.is_tail t.beside.port ≡ false
  met_at i t rest d =
      let o = outstanding_in k m in
      ap (λ b. Lawful.is_tail b.port) (meets_at (shape_of k) (interrupted_by k m) o i (seen_by k m) rest t (seen_meets k m (B.struck_inside k ready earlier m inv)) d)
      ∙ plain_met (shape_of k) (interrupted_by k m) o i t.asks

  stays_counted : (n : ℕ) (t : Token) (rest : Slots) → drop n (seen_by k m) ≡ Some t ∷ rest → (b : Bool) → (suc n == (shape_of k).stages) ≡ b → tail_after t.cell.hold t.tail + Lawful.tailed (judged k) (row ∷ earlier) t.cell.serial ≡ t.asks.tail
  stays_counted n t rest d false q =
      let w = within n (seen_by k m) rest (Some t) d in
      let long = B.seen_length k ready earlier m inv in
      let plain : Lawful.is_tail t.cell.hold ≡ false = ap (λ o. Lawful.is_tail o) (held_at n t rest d) ∙ plain_shown (shape_of k) n t rest q in
      ap (λ j. tail_after t.cell.hold t.tail + j) (below_last n t rest d (less (suc n) (shape_of k).stages q (omega (arith, w, long))) ∙ ap (λ (b : Bool). if b then suc (Lawful.tailed (judged k) earlier t.cell.serial) else Lawful.tailed (judged k) earlier t.cell.serial) (sym plain))
      ∙ one_less t.cell.hold t.tail (Lawful.tailed (judged k) earlier t.cell.serial) t.asks.tail (λ e. cc (plain, e)) (T.modules_told k ready earlier m row inv is n t rest d) where
        less : (a b : ℕ) → (a == b) ≡ false → a ≤ b → a < b
        less a b x le = grind (arith, nat_tests)
  stays_counted n t rest d true q =
      let last = test_eq (suc n) (shape_of k).stages q in
      let w = within n (seen_by k m) rest (Some t) d in
      let long = B.seen_length k ready earlier m inv in
      let none = empty rest (omega (arith, w, long, last)) in
      let a = ready.rd_ex in
      let b = ready.ex_last in
      let no_rd = higher n (shape_of k).rd (omega (arith, a, b, last)) in
      let no_ex = higher n (shape_of k).ex (omega (arith, b, last)) in
      let shows = held_at n t rest d ∙ ap (λ l. shown (shape_of k) n t l) none ∙ last_hold (shape_of k) n t no_rd no_ex q in
      ap (λ j. tail_after t.cell.hold t.tail + j) (at_last n t rest d last)
      ∙ one_less t.cell.hold t.tail (Lawful.tailed (judged k) earlier t.cell.serial) t.asks.tail (λ e. some_tail (n == (shape_of k).mem) t (met_at n t rest d) (sym (ap (λ o. Lawful.is_tail o) shows) ∙ e)) (T.modules_told k ready earlier m row inv is n t rest d) where
        higher : (a b : ℕ) → b < a → (a == b) ≡ false
        higher a b lt = grind (arith, nat_tests)

  pub tails_after : TailsAfter k (row ∷ earlier) (advanced None (seen_by k m))
  tails_after n u older e = elim (moved_from n None (seen_by k m) older u e) [ inl x ↦ by_move x | inr c ↦ cc (c.1) ] where
    by_move : Moved n (seen_by k m) u → u.tail + Lawful.tailed (judged k) (row ∷ earlier) u.cell.serial ≡ u.asks.tail
    by_move (stayed t rest d h q) = subst (λ (v : Token). v.tail + Lawful.tailed (judged k) (row ∷ earlier) v.cell.serial ≡ v.asks.tail) q (stays_counted n t rest d (suc n == (shape_of k).stages) refl)
    by_move (went i rest q d h) =
        let w = within n (advanced None (seen_by k m)) older (Some u) e in
        let a = advanced_length None (seen_by k m) in
        let long = B.seen_length k ready earlier m inv in
        ap (λ j. u.tail + j) (below_last i u rest d (omega (arith, q, w, a, long))) ∙ T.modules_told k ready earlier m row inv is i u rest d
