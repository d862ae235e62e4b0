-- Where the tokens stand after a row, and the address that is fetched next.
use Rattle.rv_machine.proofs.Entered.{entry_empties, empty_placed}
use Rattle.rv_machine.proofs.Turns.{plain_turn}
use Rattle.std.proofs.Common.{◌≡◌, ℕ, zero, suc, ◌+◌, ◌-◌, ◌%◌, ◌^◌, ◌<◌, ◌≤◌, List, [], ◌∷◌, drop, take, length, Option, Some, None, Bool, true, false, refl, sym, ap, ◌∙◌, subst, arith}
use Rattle.std.specs.Prelude.{if◌then◌else◌, ◌==◌, is_some, nat_lt}
use Rattle.std.proofs.lemmas.Bool.Decides.{nat_tests}
use Rattle.rv_trace.specs.declared.row.Row.{Row}
use Rattle.rv_trace.specs.Trace.{retirements}
use Rattle.rv_holds.specs.declared.token.Token.{Token}
use Rattle.rv_holds.specs.declared.flushing.Turn.{Turn}
use Rattle.rv_holds.specs.Tokens.{Slots}
use Rattle.rv_holds.specs.Flushing.{next_of, settled, nearest, mismatch, struck, redirect_of, cleared, fetch_after}
use Rattle.rv_engine.specs.Settings.{Setting, Machine, shape_of}
use Rattle.rv_engine.specs.Rows.{unless, waited, going, kept, advanced, leaving, first_slot, loaded_by, turn_by, seen_by, left_by, fetch_by, entered_by}
use Rattle.rv_machine.specs.Placed.{run, one_more, count, tail, settling_stage, expected_after, expected, Placed, IsReady, Inv}
use Rattle.rv_machine.specs.Told.{NoStops}
use Rattle.rv_machine.proofs.Deciding.{test_eq}
use Rattle.rv_machine.proofs.Filling.{fetch_front}
use Rattle.rv_machine.proofs.Alike.{alike_expected}
use Rattle.rv_machine.proofs.Going.{AreSeen, seen_tail, going_placed, Free, free_ahead}
use Rattle.rv_machine.proofs.Moves.{Guessed, guessed, expected_advanced, placed_advanced}
use Rattle.rv_machine.proofs.Clearing.{cleared_drop, cleared_leaving, nearest_first, placed_past, expected_past, expected_front}
use Rattle.rv_machine.proofs.Before.{Turning, turning, alike_drop, loaded_alike}
use Rattle.rv_machine.proofs.Before as B
use Rattle.rv_machine.proofs.Settling.{Settles, settles_parts, only_one, settled_is, settled_next, seen_rest, some_stages}

tail_drop : (l : Slots) → tail l ≡ drop 1 l
tail_drop [] = refl
tail_drop (s ∷ l) = refl

equal_test : (a n : ℕ) (t : Turn) → (if a == n then None else Some t) ≡ None → a ≡ n
equal_test a n t h = by_case (a == n) refl h where
  by_case : (b : Bool) → (a == n) ≡ b → (if b then None else Some t) ≡ None → a ≡ n
  by_case true e q = test_eq a n e
  by_case false e q = cc

not_past : (settle n a g : ℕ) → n ≡ settle → (if nat_lt settle n then a else g) ≡ g
not_past settle n a g h = grind (arith, nat_tests)

is_past : (settle n a g : ℕ) → n ≡ settle → (if nat_lt settle (suc n) then a else g) ≡ a
is_past settle n a g h = grind (arith, nat_tests)

module _ (k : Setting) (ready : IsReady k) (earlier : List Row) (m : Machine) (inv : Inv k earlier m) (none : NoStops k 0 (seen_by k m)) where
  abbrev r : ℕ
  r = retirements earlier

  all : AreSeen k r 0 (seen_by k m)
  all = B.seen_all k ready earlier m inv none

  length_is : length (seen_by k m) ≡ (shape_of k).stages
  length_is = B.seen_length k ready earlier m inv

  -- the fetch address is what is expected behind stage 0
  pub loaded_fetch : m.fetch ≡ expected k r 1 (tail (loaded_by k m))
  loaded_fetch =
      inv.fetch
      ∙ ap (λ l. expected k r 1 l) (tail_drop m.slots)
      ∙ sym (alike_expected k r 1 (drop 1 m.slots) (drop 1 (loaded_by k m)) (B.loaded_from k ready earlier m inv 0) (B.guesses_from k ready earlier m inv 0))
      ∙ ap (λ l. expected k r 1 l) (sym (tail_drop (loaded_by k m)))

  -- ---- where nothing is turned

  module _ (plain : entered_by k m ≡ false) (straight : turn_by k m ≡ None) where
    same : seen_by k m ≡ loaded_by k m
    same = ap (λ o. cleared (struck o) (loaded_by k m)) straight

    guess_right : (n : ℕ) (t : Token) (older : Slots) → 0 + n ≡ settling_stage k t → drop n (seen_by k m) ≡ Some t ∷ older → is_some t.cell.hold ≡ false → (run k (suc (r + count older))).pc ≡ t.guess
    guess_right n t older at e free =
        let s : Settles k (0 + n) t older = record { at = at; free = free; runs = (seen_rest k r 0 n (seen_by k m) (Some t ∷ older) all e).stops.0 } in
        let found = settled_is k ready 0 n (seen_by k m) older t (omega (arith, length_is)) all.decided e s in
        let turned : mismatch m.fetch (loaded_by k m) (settled (shape_of k) 0 (seen_by k m)) ≡ None = ap (λ l. mismatch m.fetch (loaded_by k m) (settled (shape_of k) 0 l)) same ∙ sym (plain_turn k m plain) ∙ straight in
        let equal = equal_test (next_of t) (nearest m.fetch (take (0 + n) (loaded_by k m))) (record { stage = 0 + n; address = next_of t }) (sym (ap (λ o. mismatch m.fetch (loaded_by k m) o) found) ∙ turned) in
        let some : 0 < n = positive n t at in
        let z : 0 + n ≡ n = omega arith in
        let rest = subst (λ b. AreSeen k r b (Some t ∷ older)) z (seen_rest k r 0 n (seen_by k m) (Some t ∷ older) all e) in
        let at' : n ≡ settling_stage k t = sym z ∙ at in
        let e' : drop n (loaded_by k m) ≡ Some t ∷ older = ap (λ l. drop n l) (sym same) ∙ e in
        sym (settled_next k ready r n t older inv.past rest (subst (λ b. Settles k b t older) z s))
        ∙ equal
        ∙ ap (λ b. nearest m.fetch (take b (loaded_by k m))) z
        ∙ nearest_first k r n m.fetch (loaded_by k m) (B.loaded_placed k ready earlier m inv) loaded_fetch some (long n t older e')
        ∙ ap (λ l. expected k r n l) e'
        ∙ not_past (settling_stage k t) n (run k (suc (r + count older))).pc t.guess at' where
          positive : (n : ℕ) (t : Token) → 0 + n ≡ settling_stage k t → 0 < n
          positive n t e = by_case t.asks.late e where
            by_case : (b : Bool) → 0 + n ≡ (if b then (shape_of k).stages - 1 else (shape_of k).ex) → 0 < n
            by_case true q = let a = ready.ex_last in omega (arith, q, a)
            by_case false q = let a = ready.rd_pos in let b = ready.rd_ex in omega (arith, q, a, b)

          long : (n : ℕ) (t : Token) (older : Slots) → drop n (loaded_by k m) ≡ Some t ∷ older → n ≤ length (loaded_by k m)
          long n t older q = within n (loaded_by k m) q where
            within : (n : ℕ) (l : Slots) → drop n l ≡ Some t ∷ older → n ≤ length l
            within zero l q = omega arith
            within (suc n) [] q = cc
            within (suc n) (s ∷ l) q = let x = within n l q in omega (arith, x)

    right : Guessed k r 0 (seen_by k m)
    right = guessed k r 0 (seen_by k m) guess_right

    straight_placed : Placed k (r + one_more (left_by k m) 0) 0 (advanced None (seen_by k m))
    straight_placed = placed_advanced k ready r 0 None (seen_by k m) (omega (arith, length_is)) all (λ h. refl) tt right

    front_expected : (l : Slots) → l ≡ seen_by k m → AreSeen k r 0 l → 0 + length l ≡ (shape_of k).stages → m.fetch ≡ expected k r 1 (tail l) → Guessed k r 0 l → fetch_after m.fetch l ≡ expected k (r + one_more (leaving None l) 0) 1 (tail (advanced None l))
    front_expected [] q h len f g = let a = some_stages k ready in absurd (omega (arith, a, len))
    front_expected (s ∷ older) q h len f g =
        fetch_front k ready (r + count older) m.fetch s older
        ∙ ap (λ a. expected_after k (r + count older) 1 (going s) a) f
        ∙ sym (expected_advanced k ready r 1 (going s) older (omega (arith, len)) (seen_tail k r 0 s older h).decided (seen_tail k r 0 s older h).stops (free_ahead k r 0 s older h.decided h.stops) g.1)

    straight_fetch : fetch_by k m ≡ expected k (r + one_more (left_by k m) 0) 1 (tail (advanced None (seen_by k m)))
    straight_fetch =
        ap (λ o. unless (redirect_of o) (fetch_after m.fetch (seen_by k m))) straight
        ∙ front_expected (seen_by k m) refl all (omega (arith, length_is)) (loaded_fetch ∙ ap (λ l. expected k r 1 (tail l)) (sym same)) right

  -- ---- where the fetch is turned

  module _ (plain : entered_by k m ≡ false) (turn : Turn) (turned : turn_by k m ≡ Some turn) where
    abbrev from : Turning k m.fetch (loaded_by k m) turn
    from = turning k m.fetch (loaded_by k m) turn (sym (plain_turn k m plain) ∙ turned)

    abbrev n : ℕ
    n = from.by.index

    flushed : struck (turn_by k m) ≡ n
    flushed = let z : 0 + n ≡ n = omega arith in ap (λ o. struck o) turned ∙ from.by.stage ∙ z

    inside : n ≤ length (loaded_by k m)
    inside = let a = B.struck_inside k ready earlier m inv in let e = flushed in omega (arith, a, e)

    rest_is : drop n (loaded_by k m) ≡ Some from.by.token ∷ from.by.older
    rest_is = from.by.rest

    seen_is : seen_by k m ≡ cleared n (loaded_by k m)
    seen_is = ap (λ i. cleared i (loaded_by k m)) flushed

    there : drop n (seen_by k m) ≡ Some from.by.token ∷ from.by.older
    there = ap (λ l. drop n l) seen_is ∙ cleared_drop n n (loaded_by k m) (omega arith) inside ∙ rest_is

    left : AreSeen k r (0 + n) (Some from.by.token ∷ from.by.older)
    left = seen_rest k r 0 n (seen_by k m) (Some from.by.token ∷ from.by.older) all there

    now : Settles k (0 + n) from.by.token from.by.older
    now = settles_parts k ready (0 + from.by.index) from.by.token from.by.older from.by.settles_it

    long : (0 + n) + length (Some from.by.token ∷ from.by.older) ≡ (shape_of k).stages
    long =
        let a = B.loaded_length k ready earlier m inv in
        let b = dropped n (loaded_by k m) inside in
        let c = ap length rest_is in
        omega (arith, a, b, c) where
          dropped : (n : ℕ) (l : Slots) → n ≤ length l → n + length (drop n l) ≡ length l
          dropped zero l le = omega arith
          dropped (suc n) [] le = absurd (omega arith)
          dropped (suc n) (s ∷ l) le = let x = dropped n l (omega (arith, le)) in omega (arith, x)

    going_is : going (Some from.by.token) ≡ Some from.by.token
    going_is = ap (λ (b : Bool). if b then None else Some from.by.token) now.free

    kept_is : kept None (Some from.by.token) ≡ None
    kept_is = ap (λ (b : Bool). if b then Some (waited from.by.token) else None) now.free

    right_past : Guessed k r (suc (0 + n)) from.by.older
    right_past =
        guessed k r (suc (0 + n)) from.by.older
        (λ j u o at e free. absurd (only_one k ready (0 + n) j from.by.token u from.by.older o left.decided now e (short j u o e) at)) where
          within : (j : ℕ) (u : Token) (o l : Slots) → drop j l ≡ Some u ∷ o → j < length l
          within zero u o [] e = cc
          within zero u o (s ∷ l) e = omega arith
          within (suc j) u o [] e = cc
          within (suc j) u o (s ∷ l) e = let x = within j u o l e in omega (arith, x)

          short : (j : ℕ) (u : Token) (o : Slots) → drop j from.by.older ≡ Some u ∷ o → suc (0 + n) + j < (shape_of k).stages
          short j u o e = let x = within j u o from.by.older e in let y = long in omega (arith, x, y)

    behind_free : Free (going (Some from.by.token)) (first_slot from.by.older)
    behind_free = free_ahead k r (0 + n) (Some from.by.token) from.by.older left.decided left.stops

    short_rest : suc (0 + n) + length from.by.older ≡ (shape_of k).stages
    short_rest = let a = long in omega (arith, a)

    behind_placed : Placed k (r + one_more (leaving (going (Some from.by.token)) from.by.older) 0) (suc (0 + n)) (advanced (going (Some from.by.token)) from.by.older)
    behind_placed =
        placed_advanced k ready r (suc (0 + n)) (going (Some from.by.token)) from.by.older short_rest (seen_tail k r (0 + n) (Some from.by.token) from.by.older left) behind_free
        (going_placed k ready r (0 + n) (Some from.by.token) from.by.older left) right_past

    out_is : leaving None (seen_by k m) ≡ leaving (going (Some from.by.token)) from.by.older
    out_is = ap (λ l. leaving None l) seen_is ∙ cleared_leaving n (loaded_by k m) inside ∙ ap (λ l. leaving None l) rest_is

    turned_placed : Placed k (r + one_more (left_by k m) 0) 0 (advanced None (seen_by k m))
    turned_placed =
        subst (λ o. Placed k (r + one_more o 0) 0 (advanced None (seen_by k m))) (sym out_is)
        (subst (λ l. Placed k (r + one_more (leaving (going (Some from.by.token)) from.by.older) 0) 0 (advanced None l)) (sym seen_is)
        (placed_past k (r + one_more (leaving (going (Some from.by.token)) from.by.older) 0) 0 n (loaded_by k m) inside
        (subst (λ l. Placed k (r + one_more (leaving (going (Some from.by.token)) from.by.older) 0) (0 + n) (advanced None l)) (sym rest_is)
        (with_first (kept None (Some from.by.token)) kept_is)))) where
          with_first : (s : Option Token) → s ≡ None → Placed k (r + one_more (leaving (going (Some from.by.token)) from.by.older) 0) (0 + n) (s ∷ advanced (going (Some from.by.token)) from.by.older)
          with_first None e = (tt, behind_placed)
          with_first (Some u) e = cc

    some_flushed : 0 < n
    some_flushed = by_case from.by.token.asks.late now.at where
      by_case : (b : Bool) → 0 + n ≡ (if b then (shape_of k).stages - 1 else (shape_of k).ex) → 0 < n
      by_case true q = let a = ready.ex_last in omega (arith, q, a)
      by_case false q = let a = ready.rd_pos in let b = ready.rd_ex in omega (arith, q, a, b)

    turned_fetch : fetch_by k m ≡ expected k (r + one_more (left_by k m) 0) 1 (tail (advanced None (seen_by k m)))
    turned_fetch =
        let out = leaving (going (Some from.by.token)) from.by.older in
        let r' = r + one_more out 0 in
        ap (λ o. unless (redirect_of o) (fetch_after m.fetch (seen_by k m))) turned
        ∙ from.by.address
        ∙ settled_next k ready r (0 + n) from.by.token from.by.older inv.past left now
        ∙ sym (is_past (settling_stage k from.by.token) (0 + n) (run k (suc (r + count from.by.older))).pc from.by.token.guess now.at)
        ∙ ap (λ s. expected_after k (r + count from.by.older) (suc (0 + n)) s (expected k r (suc (0 + n)) from.by.older)) (sym going_is)
        ∙ sym (expected_advanced k ready r (suc (0 + n)) (going (Some from.by.token)) from.by.older short_rest left.decided.1 left.stops.1 behind_free right_past)
        ∙ ap (λ s. expected_after k (r' + count (advanced (going (Some from.by.token)) from.by.older)) (0 + n) s (expected k r' (suc (0 + n)) (advanced (going (Some from.by.token)) from.by.older))) (sym kept_is)
        ∙ ap (λ l. expected k r' (0 + n) (advanced None l)) (sym rest_is)
        ∙ sym (expected_past k r' 0 n (loaded_by k m) inside)
        ∙ sym (expected_front k r' n (loaded_by k m) some_flushed inside)
        ∙ ap (λ l. expected k r' 1 (tail (advanced None l))) (sym seen_is)
        ∙ ap (λ o. expected k (r + one_more o 0) 1 (tail (advanced None (seen_by k m)))) (sym out_is)

  -- ---- where the handler is entered

  entry_seen : entered_by k m ≡ true → count (advanced None (seen_by k m)) ≡ 0
  entry_seen e = entry_empties k ready m (B.loaded_length k ready earlier m inv) e

  -- the tokens stand in their places after the row
  pub next_placed : Placed k (r + one_more (left_by k m) 0) 0 (advanced None (seen_by k m))
  next_placed = by_entry (entered_by k m) refl where
    by_turn : entered_by k m ≡ false → (o : Option Turn) → turn_by k m ≡ o → Placed k (r + one_more (left_by k m) 0) 0 (advanced None (seen_by k m))
    by_turn plain None e = straight_placed plain e
    by_turn plain (Some turn) e = turned_placed plain turn e

    by_entry : (b : Bool) → entered_by k m ≡ b → Placed k (r + one_more (left_by k m) 0) 0 (advanced None (seen_by k m))
    by_entry false e = by_turn e (turn_by k m) refl
    by_entry true e = empty_placed k (r + one_more (left_by k m) 0) 0 (advanced None (seen_by k m)) (entry_seen e)

  -- and the address that is fetched next is what is expected behind stage 0
  pub next_fetch : entered_by k m ≡ false → fetch_by k m ≡ expected k (r + one_more (left_by k m) 0) 1 (tail (advanced None (seen_by k m)))
  next_fetch plain = by_turn (turn_by k m) refl where
    by_turn : (o : Option Turn) → turn_by k m ≡ o → fetch_by k m ≡ expected k (r + one_more (left_by k m) 0) 1 (tail (advanced None (seen_by k m)))
    by_turn None e = straight_fetch plain e
    by_turn (Some turn) e = turned_fetch plain turn e
