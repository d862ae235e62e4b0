-- After each row the machine is tied to the rows again, but for the bound on its progress.
use Rattle.std.proofs.Common.{◌≡◌, ℕ, suc, ◌+◌, ◌<◌, ◌≤◌, List, [], ◌∷◌, length, Option, Some, None, Bool, true, false, refl, sym, ap, ◌∙◌, subst, arith, inl, inr}
use Rattle.std.specs.Prelude.{if◌then◌else◌, is_some}
use Rattle.rv_trace.specs.declared.row.Cell.{Cell}
use Rattle.rv_seq.specs.WordEffects.{AreWide}
use Rattle.rv_trace.specs.declared.row.Row.{Row}
use Rattle.rv_trace.specs.Trace.{retirements}
use Rattle.rv_trace.specs.RowParts.{names_of, serial_after, MovesInto}
use Rattle.rv_holds.specs.declared.token.Token.{Token}
use Rattle.rv_holds.specs.Tokens.{Slots, makes_access, cell_of, cells_of}
use Rattle.rv_holds.specs.Flushing.{struck, slot_stop}
use Rattle.rv_engine.specs.Settings.{Setting, Machine, shape_of, tree_of}
use Rattle.rv_engine.specs.Rows.{advanced, first_slot, fill_first, next_after, new_by, loaded_by, turn_by, seen_by, left_by, fetch_by, accesses_after, stood_after, IsRowOf, machine_after, entered_by}
use Rattle.rv_lawful.specs.Settings as Lawful
use Rattle.rv_lawful.specs.LawfulTrace.{IsWordOf}
use Rattle.rv_machine.specs.Owing.{judged}
use Rattle.rv_machine.specs.Placed.{one_more, count, tail, expected, HasWord, Placed, Serials, IsFuture, past_ex, IsReady, Inv, paid_file}
use Rattle.rv_machine.specs.Told.{NoStops, out_of}
use Rattle.rv_machine.proofs.Deciding.{or_else_none}
use Rattle.rv_machine.proofs.Places.{HasSerial, first_fetched, first_named, first_kept}
use Rattle.rv_machine.proofs.Moving.{KeepsAll, keeps_all, clears, advanced_from}
use Rattle.rv_machine.proofs.Stopping.{no_stops}
use Rattle.rv_machine.proofs.Moves.{count_advanced, serials_advanced}
use Rattle.rv_machine.proofs.Clearing.{cleared_first}
use Rattle.rv_machine.proofs.Before as B
use Rattle.rv_machine.proofs.NextPlaces as N
use Rattle.rv_machine.proofs.Flushing as F
use Rattle.rv_machine.proofs.Flushing.{new_serial}
use Rattle.rv_machine.proofs.Retiring as R
use Rattle.rv_machine.proofs.Past as P
use Rattle.rv_machine.proofs.MadeRow.{alike_names}
use Rattle.rv_seq.specs.Steps.{word_at}

pub few_more : (n : ℕ) (s : Option Token) → accesses_after n s ≤ suc n
few_more n None = omega arith
few_more n (Some t) = by_case (is_some t.cell.hold) (makes_access t) where
  by_case : (a b : Bool) → (if a then n else if b then suc n else n) ≤ suc n
  by_case true b = omega arith
  by_case false true = omega arith
  by_case false false = omega arith

pub stood_more : (n : ℕ) (s : Option Token) → stood_after n s ≤ suc n
stood_more n None = omega arith
stood_more n (Some t) = by_case (is_some t.cell.hold) where
  by_case : (a : Bool) → (if a then suc n else 0) ≤ suc n
  by_case true = omega arith
  by_case false = omega arith

module _ (k : Setting) (ready : IsReady k) (earlier : List Row) (m : Machine) (row : Row) (inv : Inv k earlier m) (is : IsRowOf k m row) where
  seen_length : length (seen_by k m) ≡ (shape_of k).stages
  seen_length = B.seen_length k ready earlier m inv

  pub no_stop : row.stop ≡ None → NoStops k 0 (seen_by k m)
  no_stop e = no_stops k 0 (seen_by k m) (or_else_none (slot_stop (shape_of k) 0 (seen_by k m)) _ (sym is.stop ∙ e))

  -- so many are retired after the row
  pub retired_is : retirements earlier + one_more (left_by k m) 0 ≡ retirements (row ∷ earlier)
  retired_is = ap (λ n. retirements earlier + n) (R.left_out k ready earlier m row inv is) ∙ sym (R.retired_now k ready earlier m row inv is)

  pub counted : row.stop ≡ None → count (seen_by k m) ≡ count (advanced None (seen_by k m)) + out_of (seen_by k m)
  counted e =
      let c = count_advanced k 0 None (seen_by k m) (B.seen_decided k ready earlier m inv) (no_stop e) (λ h. refl) in
      let o = R.left_out k ready earlier m row inv is in
      omega (arith, c, o)

  pub placed_next : row.stop ≡ None → Placed k (retirements (row ∷ earlier)) 0 (advanced None (seen_by k m))
  placed_next e = subst (λ n. Placed k n 0 (advanced None (seen_by k m))) retired_is (N.next_placed k ready earlier m inv (no_stop e))

  pub fetch_next : entered_by k m ≡ false → row.stop ≡ None → fetch_by k m ≡ expected k (retirements (row ∷ earlier)) 1 (tail (advanced None (seen_by k m)))
  fetch_next plain e = N.next_fetch k ready earlier m inv (no_stop e) plain ∙ ap (λ n. expected k n 1 (tail (advanced None (seen_by k m)))) retired_is

  pub future_next : row.stop ≡ None → IsFuture k (retirements (row ∷ earlier)) (paid_file (machine_after k m).owed (machine_after k m).future) (past_ex k (advanced None (seen_by k m)))
  future_next e = subst (λ n. IsFuture k n (paid_file (machine_after k m).owed (machine_after k m).future) (past_ex k (advanced None (seen_by k m)))) retired_is (P.file_next k ready earlier m row inv is (no_stop e)).0

  pub wide_next : row.stop ≡ None → AreWide (tree_of k) (machine_after k m).future
  wide_next e = (P.file_next k ready earlier m row inv is (no_stop e)).1

  pub serials_next : row.stop ≡ None → Serials (row ∷ earlier) (retirements (row ∷ earlier)) (advanced None (seen_by k m))
  serials_next e =
      subst (λ n. Serials (row ∷ earlier) n (advanced None (seen_by k m))) retired_is
      (serials_advanced k (row ∷ earlier) (retirements earlier) 0 None (seen_by k m) (F.seen_serials k ready earlier m row inv is) (B.seen_decided k ready earlier m inv) (no_stop e) (λ h. refl) tt)

  pub words_next : (s word : ℕ) → IsWordOf (judged k) (row ∷ earlier) s word → HasWord (advanced None (seen_by k m)) s word
  words_next s word h n u here serial = elim (advanced_from n None (seen_by k m) u here) [
    | inl y ↦ ap (λ (c : Cell). c.word) (sym y.3) ∙ F.words_now k ready earlier m row inv is s word h y.0 y.1 y.2 (ap (λ (c : Cell). c.serial) y.3 ∙ serial)
    | inr y ↦ cc (y.1)
  ]

  pub seen_kept : KeepsAll row (seen_by k m)
  seen_kept = keeps_all row (seen_by k m) (λ i t e. let x = F.left_from k ready earlier m row inv is i t e in F.none_below k ready earlier m row inv is i t x.0 x.1 t.cell.serial (omega arith))

  pub moves_now : row.stop ≡ None → MovesInto row None (Lawful.stages_of (judged k) row) (names_of (cells_of (advanced None (seen_by k m))))
  moves_now e =
      subst (λ l. MovesInto row None l (names_of (cells_of (advanced None (seen_by k m))))) (sym is.cells)
      (clears k row 0 (struck (turn_by k m)) (loaded_by k m) (B.struck_inside k ready earlier m inv) (F.flushes_first k ready earlier m row inv is) seen_kept (B.seen_decided k ready earlier m inv) (no_stop e) (λ h. refl))

  some_slots : 0 < length m.slots
  some_slots = let a = ready.ex_last in let s = inv.stages in omega (arith, s, a)

  abbrev next : ℕ
  next = next_after m.next m.slots (new_by k m)

  pub first_loaded : (n : ℕ) → serial_after n (cell_of (first_slot (loaded_by k m))) ≡ serial_after n (cell_of (first_slot (fill_first (new_by k m) m.slots)))
  first_loaded n = first_named n (loaded_by k m) (fill_first (new_by k m) m.slots) (alike_names (fill_first (new_by k m) m.slots) (loaded_by k m) (B.loaded_alike k ready earlier m inv))

  first_new : serial_after (next_after m.next m.slots (new_by k m)) (cell_of (first_slot (fill_first (new_by k m) m.slots))) ≡ next_after m.next m.slots (new_by k m)
  first_new = again m.slots (new_by k m) some_slots inv.next_first (new_serial k.design m.future m.arch.trap m.next m.fetch (word_at k.image m.fetch)) where
    again : (l : Slots) (o : Option Token) → 0 < length l → serial_after m.next (cell_of (first_slot l)) ≡ m.next → HasSerial m.next o → serial_after (next_after m.next l o) (cell_of (first_slot (fill_first o l))) ≡ next_after m.next l o
    again l o lt e h = first_fetched m.next o l lt e h

  pub next_first : serial_after (next_after m.next m.slots (new_by k m)) (cell_of (first_slot (advanced None (seen_by k m)))) ≡ next_after m.next m.slots (new_by k m)
  next_first =
      first_kept (next_after m.next m.slots (new_by k m)) (seen_by k m)
      (cleared_first (struck (turn_by k m)) (next_after m.next m.slots (new_by k m)) (loaded_by k m) (first_loaded (next_after m.next m.slots (new_by k m)) ∙ first_new))

  -- the serial of the next fetch is told by stage 0
  pub first_of_filled : serial_after m.next (cell_of (first_slot (fill_first (new_by k m) m.slots))) ≡ next_after m.next m.slots (new_by k m)
  first_of_filled = by_slots m.slots (new_by k m) some_slots inv.next_first (new_serial k.design m.future m.arch.trap m.next m.fetch (word_at k.image m.fetch)) where
    by_slots : (l : Slots) (o : Option Token) → 0 < length l → serial_after m.next (cell_of (first_slot l)) ≡ m.next → HasSerial m.next o → serial_after m.next (cell_of (first_slot (fill_first o l))) ≡ next_after m.next l o
    by_slots [] o lt e h = absurd (omega (arith, lt))
    by_slots (Some t ∷ l) o lt e h = e
    by_slots (None ∷ l) None lt e h = refl
    by_slots (None ∷ l) (Some t) lt e h = ap suc h
