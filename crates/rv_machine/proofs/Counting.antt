-- What a row counts: its serials, its accesses, and for how many rows the token of MEM has stood there.
use Rattle.std.proofs.Common.{◌≡◌, ℕ, zero, suc, ◌+◌, ◌-◌, ◌<◌, ◌≤◌, List, [], ◌∷◌, drop, length, Option, Some, None, Bool, true, false, refl, sym, ap, ◌∙◌, subst, arith}
use Rattle.std.specs.Prelude.{if◌then◌else◌, ◌==◌, is_some, slice_get}
use Rattle.std.proofs.lemmas.Bool.Decides.{nat_tests}
use Rattle.rv_trace.specs.declared.row.Cell.{Cell}
use Rattle.rv_trace.specs.declared.row.Row.{Row}
use Rattle.rv_trace.specs.Trace.{has_cell, retirements}
use Rattle.rv_trace.specs.RowParts.{front, unless, leaves, serial_after}
use Rattle.rv_holds.specs.declared.token.Token.{Token}
use Rattle.rv_holds.specs.declared.flushing.Turn.{Turn}
use Rattle.rv_holds.specs.Tokens.{Slots, makes_access, cell_of, cells_of}
use Rattle.rv_holds.specs.Flushing.{struck, redirect_of, unheld, cleared, fetch_after}
use Rattle.rv_engine.specs.Settings.{Setting, Machine, shape_of}
use Rattle.rv_engine.specs.Rows.{unless as unless_of, waited, going, kept, advanced, first_slot, next_after, new_by, loaded_by, turn_by, seen_by, fetch_by, memory_by, accesses_after, stood_after, IsRowOf}
use Rattle.rv_lawful.specs.Settings as Lawful
use Rattle.rv_lawful.specs.Settings.{Course}
use Rattle.rv_lawful.specs.LawfulTrace.{guessed, plain_fetch, fetch_address, next_serial}
use Rattle.rv_machine.specs.Owing.{judged}
use Rattle.rv_machine.specs.Placed.{one_more, count, expected, IsReady, Inv}
use Rattle.rv_machine.specs.Told.{NoStops}
use Rattle.rv_machine.proofs.Deciding.{decided_tail, no_stops_tail}
use Rattle.rv_machine.proofs.Places.{token_order}
use Rattle.rv_machine.proofs.Standing.{here_of, drop_more}
use Rattle.rv_machine.proofs.Filling.{front_cells, fetch_told}
use Rattle.rv_machine.proofs.Alike.{alike_count}
use Rattle.rv_machine.proofs.Going.{AreSeen, free_ahead}
use Rattle.rv_machine.proofs.Moves.{count_advanced}
use Rattle.rv_machine.proofs.Clearing.{unheld_first}
use Rattle.rv_machine.proofs.Settling.{seen_rest}
use Rattle.rv_machine.proofs.Before as B
use Rattle.rv_machine.proofs.Flushing as F
use Rattle.rv_machine.proofs.Telling as T
use Rattle.rv_machine.proofs.Telling.{makes_of}
use Rattle.rv_machine.proofs.Past as P
use Rattle.rv_machine.proofs.Past.{slot_of, drop_advanced, leaving_drop}
use Rattle.rv_machine.proofs.NextRow as N

-- one more row in MEM, where the cell stands there in it
stood_suc : (k : Lawful.Setting) (row : Row) (earlier : List Row) (s : ℕ) → Lawful.stood k (row ∷ earlier) s ≡ (if has_cell (slice_get (Lawful.stages_of k row) k.shape.mem) s then suc (Lawful.stood k earlier s) else 0)
unfolding Lawful.stood
stood_suc k row earlier s = refl

-- one more access, where the step makes one
accesses_suc : (c : Course) (p : ℕ) → Lawful.accesses_before c (suc p) ≡ (if c.accesses p then suc (Lawful.accesses_before c p) else Lawful.accesses_before c p)
unfolding Lawful.accesses_before
accesses_suc c p = refl

module _ (k : Setting) (ready : IsReady k) (earlier : List Row) (m : Machine) (row : Row) (inv : Inv k earlier m) (is : IsRowOf k m row) where
  seen_length : length (seen_by k m) ≡ (shape_of k).stages
  seen_length = B.seen_length k ready earlier m inv

  -- ---- serials

  pub serial_now : next_after m.next m.slots (new_by k m) ≡ next_serial (judged k) (row ∷ earlier)
  unfolding next_serial
  serial_now =
      sym (ap (λ l. serial_after (next_serial (judged k) earlier) (front l)) is.cells
      ∙ ap (λ n. serial_after n (front (cells_of (unheld (struck (turn_by k m)) (loaded_by k m))))) (sym inv.next_is)
      ∙ unheld_first (struck (turn_by k m)) m.next (loaded_by k m)
      ∙ ap (λ c. serial_after m.next c) (front_cells (loaded_by k m))
      ∙ N.first_loaded k ready earlier m row inv is m.next
      ∙ N.first_of_filled k ready earlier m row inv is)

  -- ---- the fetch address

  plain_now : turn_by k m ≡ None → fetch_after m.fetch (seen_by k m) ≡ plain_fetch (judged k) earlier (fetch_address (judged k) earlier) row
  plain_now e =
      fetch_told k earlier row m.fetch (seen_by k m) (N.seen_kept k ready earlier m row inv is) (B.seen_first k ready earlier m inv)
      ∙ ap (λ l. guessed (judged k) earlier m.fetch (leaves row (front l))) (sym (is.cells ∙ ap (λ o. cells_of (unheld (struck o) (loaded_by k m))) e ∙ sym (ap (λ o. cells_of (cleared (struck o) (loaded_by k m))) e)))
      ∙ ap (λ n. guessed (judged k) earlier n (leaves row (front (Lawful.stages_of (judged k) row)))) inv.fetch_is

  pub fetch_now : fetch_by k m ≡ fetch_address (judged k) (row ∷ earlier)
  unfolding fetch_address
  fetch_now = by_turn (turn_by k m) refl ∙ ap (λ o. unless o (plain_fetch (judged k) earlier (fetch_address (judged k) earlier) row)) (sym is.redirect) where
    by_turn : (o : Option Turn) → turn_by k m ≡ o → fetch_by k m ≡ unless (redirect_of (turn_by k m)) (plain_fetch (judged k) earlier (fetch_address (judged k) earlier) row)
    by_turn None e =
        ap (λ o. unless_of (redirect_of o) (fetch_after m.fetch (seen_by k m))) e ∙ plain_now e
        ∙ ap (λ o. unless (redirect_of o) (plain_fetch (judged k) earlier (fetch_address (judged k) earlier) row)) (sym e)
    by_turn (Some turn) e =
        ap (λ o. unless_of (redirect_of o) (fetch_after m.fetch (seen_by k m))) e
        ∙ ap (λ o. unless (redirect_of o) (plain_fetch (judged k) earlier (fetch_address (judged k) earlier) row)) (sym e)

  -- ---- accesses

  memory : (s : Option Token) × (rest : Slots) × (drop (shape_of k).mem (seen_by k m) ≡ s ∷ rest)
  memory = let a = ready.mem_last in slot_of (shape_of k).mem (seen_by k m) (omega (arith, a, seen_length))

  memory_is : (s : Option Token) (older : Slots) → drop (shape_of k).mem (seen_by k m) ≡ s ∷ older → memory_by k m ≡ s
  memory_is s older e = ap first_slot e

  pub accesses_next : NoStops k 0 (seen_by k m) → accesses_after m.accesses (memory_by k m) ≡ Lawful.accesses_before (judged k).course (retirements (row ∷ earlier) + count (drop (suc (shape_of k).mem) (advanced None (seen_by k m))))
  accesses_next none = by_slot memory.0 memory.1 memory.2 where
    at_mem : (s : Option Token) (older : Slots) → drop (shape_of k).mem (seen_by k m) ≡ s ∷ older → AreSeen k (retirements earlier) (shape_of k).mem (s ∷ older)
    at_mem s older d =
        let z : 0 + (shape_of k).mem ≡ (shape_of k).mem = omega arith in
        subst (λ b. AreSeen k (retirements earlier) b (s ∷ older)) z (seen_rest k (retirements earlier) 0 (shape_of k).mem (seen_by k m) (s ∷ older) (B.seen_all k ready earlier m inv none) d)

    places : (s : Option Token) (older : Slots) → drop (shape_of k).mem (seen_by k m) ≡ s ∷ older → retirements (row ∷ earlier) + count (drop (suc (shape_of k).mem) (advanced None (seen_by k m))) ≡ retirements earlier + one_more (going s) (count older)
    places s older d =
        let h = at_mem s older d in
        let c = count_advanced k (suc (shape_of k).mem) (going s) older (decided_tail k (shape_of k).mem s older h.decided) (no_stops_tail k (shape_of k).mem s older h.stops) (free_ahead k 0 (shape_of k).mem s older h.decided h.stops) in
        let out = ap (λ o. one_more o 0) (leaving_drop (shape_of k).mem None (seen_by k m) older s d) in
        let counts = ap count (drop_advanced (shape_of k).mem None (seen_by k m) older s d) in
        let n = N.retired_is k ready earlier m row inv is in
        omega (arith, n, c, out, counts)

    before : (older : Slots) (s : Option Token) → drop (shape_of k).mem (seen_by k m) ≡ s ∷ older → m.accesses ≡ Lawful.accesses_before (judged k).course (retirements earlier + count older)
    before older s d =
        let a = ready.ex_mem in
        inv.accesses
        ∙ ap (λ n. Lawful.accesses_before (judged k).course (retirements earlier + n))
        (sym (alike_count (drop (suc (shape_of k).mem) m.slots) (drop (suc (shape_of k).mem) (seen_by k m)) (P.later_alike k ready earlier m row inv is (shape_of k).mem (omega (arith, a))))
        ∙ ap count (drop_more (seen_by k m) older s (shape_of k).mem d))

    held_case : (t : Token) (older : Slots) → drop (shape_of k).mem (seen_by k m) ≡ Some t ∷ older → (b : Bool) → is_some t.cell.hold ≡ b
        → (if b then m.accesses else if makes_access t then suc m.accesses else m.accesses) ≡ Lawful.accesses_before (judged k).course (retirements earlier + one_more (if b then None else Some t) (count older))
    held_case t older d true h = before older (Some t) d
    held_case t older d false h =
        let z : suc (retirements earlier + count older) ≡ retirements earlier + suc (count older) = omega arith in
        let makes = makes_of k (retirements earlier + count older) (expected k (retirements earlier) (suc (shape_of k).mem) older) (shape_of k).mem older t ready.ex_mem (at_mem (Some t) older d).placed.0 in
        ap (λ (b : Bool). if b then suc m.accesses else m.accesses) makes
        ∙ ap (λ n. if (judged k).course.accesses (retirements earlier + count older) then suc n else n) (before older (Some t) d)
        ∙ sym (accesses_suc (judged k).course (retirements earlier + count older))
        ∙ ap (λ n. Lawful.accesses_before (judged k).course n) z

    by_slot : (s : Option Token) (older : Slots) → drop (shape_of k).mem (seen_by k m) ≡ s ∷ older → accesses_after m.accesses (memory_by k m) ≡ Lawful.accesses_before (judged k).course (retirements (row ∷ earlier) + count (drop (suc (shape_of k).mem) (advanced None (seen_by k m))))
    by_slot None older d =
        ap (λ s. accesses_after m.accesses s) (memory_is None older d) ∙ before older None d ∙ ap (λ n. Lawful.accesses_before (judged k).course n) (sym (places None older d))
    by_slot (Some t) older d =
        ap (λ s. accesses_after m.accesses s) (memory_is (Some t) older d) ∙ held_case t older d (is_some t.cell.hold) refl ∙ ap (λ n. Lawful.accesses_before (judged k).course n) (sym (places (Some t) older d))

  -- ---- for how many rows the token of MEM has stood there

  in_row : (s : Option Token) (older : Slots) (serial : ℕ) → struck (turn_by k m) ≤ (shape_of k).mem → drop (shape_of k).mem (seen_by k m) ≡ s ∷ older
      → Lawful.stood (judged k) (row ∷ earlier) serial ≡ (if has_cell (Some (cell_of s)) serial then suc (Lawful.stood (judged k) earlier serial) else 0)
  in_row s older serial le e =
      stood_suc (judged k) row earlier serial
      ∙ ap (λ c. if has_cell c serial then suc (Lawful.stood (judged k) earlier serial) else 0)
      (F.stands_at k ready earlier m row inv is (shape_of k).mem le ∙ first_cell (shape_of k).mem (seen_by k m) older s e) where
        first_cell : (n : ℕ) (l older : Slots) (s : Option Token) → drop n l ≡ s ∷ older → slice_get (cells_of l) n ≡ Some (cell_of s)
        first_cell zero [] older s e = cc
        first_cell zero (x ∷ l) older s e = ap (λ (o : Slots). slice_get (cells_of o) 0) e
        first_cell (suc n) [] older s e = cc
        first_cell (suc n) (x ∷ l) older s e = first_cell n l older s e

  left_at : (n : ℕ) (t : Token) (older : Slots) → drop n (seen_by k m) ≡ Some t ∷ older → struck (turn_by k m) ≤ n
  left_at n t older e = (F.left_from k ready earlier m row inv is n t (here_of (seen_by k m) older t n e)).0

  cell_in : Cell → Option Token → Cell
  cell_in c None = c
  cell_in c (Some w) = w.cell

  came : (u : Token) (s : Option Token) → going s ≡ Some u → (v : Token) × (s ≡ Some v) × (v.cell ≡ u.cell)
  unfolding cell_in
  came u None g = cc
  came u (Some v) g = by_hold (is_some v.cell.hold) g where
    by_hold : (b : Bool) → (if b then None else Some v) ≡ Some u → (w : Token) × (◌≡◌ {A = Option Token} (Some v) (Some w)) × (w.cell ≡ u.cell)
    by_hold true q = cc
    by_hold false q = (v, refl, ap (λ o. cell_in v.cell o) q)

  pub stood_next : (u : Token) (rest : Slots) → drop (shape_of k).mem (advanced None (seen_by k m)) ≡ Some u ∷ rest → stood_after m.stood (memory_by k m) ≡ Lawful.stood (judged k) (row ∷ earlier) u.cell.serial
  stood_next u rest d =
      let a = ready.ex_mem in
      let b = ready.mem_last in
      let last : suc ((shape_of k).mem - 1) ≡ (shape_of k).mem = omega (arith, a) in
      let before = slot_of ((shape_of k).mem - 1) (seen_by k m) (omega (arith, a, b, seen_length)) in
      let behind : before.1 ≡ memory.0 ∷ memory.1 = sym (drop_more (seen_by k m) before.1 before.0 ((shape_of k).mem - 1) before.2) ∙ ap (λ i. drop i (seen_by k m)) last ∙ memory.2 in
      let moved : drop (shape_of k).mem (advanced None (seen_by k m)) ≡ advanced (going before.0) (memory.0 ∷ memory.1) =
      ap (λ i. drop i (advanced None (seen_by k m))) (sym last)
      ∙ drop_advanced ((shape_of k).mem - 1) None (seen_by k m) before.1 before.0 before.2
      ∙ ap (λ l. advanced (going before.0) l) behind in
      let first : kept (going before.0) memory.0 ≡ Some u = ap first_slot (sym moved ∙ d) in
      by_slot memory.0 memory.1 memory.2 before.0 before.1 before.2 first where
        other_serial : (x y : ℕ) → x < y → (x == y) ≡ false
        other_serial x y lt = grind (arith, nat_tests)

        same_serial : (x y : ℕ) → x ≡ y → (x == y) ≡ true
        same_serial x y e = grind (arith, nat_tests)

        token_is : (v w : Token) → ◌≡◌ {A = Option Token} (Some v) (Some w) → v ≡ w
        token_is v w x = cc

        by_slot : (s : Option Token) (older : Slots) → drop (shape_of k).mem (seen_by k m) ≡ s ∷ older → (p : Option Token) (after : Slots) → drop ((shape_of k).mem - 1) (seen_by k m) ≡ p ∷ after → kept (going p) s ≡ Some u → stood_after m.stood (memory_by k m) ≡ Lawful.stood (judged k) (row ∷ earlier) u.cell.serial
        by_slot None older e p after q first =
            let c = came u p first in
            let le = left_at ((shape_of k).mem - 1) c.0 after (q ∙ ap (λ s. s ∷ after) c.1) in
            ap (λ s. stood_after m.stood s) (memory_is None older e) ∙ sym (in_row None older u.cell.serial (omega (arith, le)) e)
        by_slot (Some t) older e p after q first = by_hold (is_some t.cell.hold) refl first where
          by_hold : (b : Bool) → is_some t.cell.hold ≡ b → (if b then Some (waited t) else going p) ≡ Some u → stood_after m.stood (memory_by k m) ≡ Lawful.stood (judged k) (row ∷ earlier) u.cell.serial
          by_hold true h x =
              let same : t.cell.serial ≡ u.cell.serial = ap (λ (v : Token). v.cell.serial) (token_is (waited t) u x) in
              let serial = same_serial t.cell.serial u.cell.serial same in
              let counted = T.stood_of k ready earlier m row inv is t older e ∙ ap (λ n. Lawful.stood (judged k) earlier n) same in
              let stays : stood_after m.stood (Some t) ≡ suc m.stood = ap (λ (b : Bool). if b then suc m.stood else 0) h in
              let there : (if has_cell (Some (cell_of (Some t))) u.cell.serial then suc (Lawful.stood (judged k) earlier u.cell.serial) else 0) ≡ suc (Lawful.stood (judged k) earlier u.cell.serial) = rw serial refl in
              ap (λ s. stood_after m.stood s) (memory_is (Some t) older e) ∙ stays ∙ ap suc counted ∙ sym (in_row (Some t) older u.cell.serial (left_at (shape_of k).mem t older e) e ∙ there)
          by_hold false h x =
              let c = came u p x in
              let a = ready.ex_mem in
              let here_t = here_of (seen_by k m) older t (shape_of k).mem e in
              let here_v = here_of (seen_by k m) after c.0 ((shape_of k).mem - 1) (q ∙ ap (λ s. s ∷ after) c.1) in
              let lt = token_order (row ∷ earlier) (retirements earlier) ((shape_of k).mem - 1) (shape_of k).mem (seen_by k m) c.0 t (F.seen_serials k ready earlier m row inv is) (omega (arith, a)) here_v here_t in
              let same = ap (λ (v : Cell). v.serial) c.2 in
              let serial = other_serial t.cell.serial u.cell.serial (omega (arith, lt, same)) in
              let goes : stood_after m.stood (Some t) ≡ 0 = ap (λ (b : Bool). if b then suc m.stood else 0) h in
              let elsewhere : (if has_cell (Some (cell_of (Some t))) u.cell.serial then suc (Lawful.stood (judged k) earlier u.cell.serial) else 0) ≡ 0 = rw serial refl in
              ap (λ s. stood_after m.stood s) (memory_is (Some t) older e) ∙ goes ∙ sym (in_row (Some t) older u.cell.serial (left_at (shape_of k).mem t older e) e ∙ elsewhere)
