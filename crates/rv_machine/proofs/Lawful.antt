-- Each row that the machine makes is lawful.
use Rattle.rv_seq.specs.declared.arch.Arch.{Arch}
use Rattle.std.proofs.lemmas.List.{length-drop}
use Rattle.rv_lawful.specs.Entering.{is_interrupted, IsClearAfter, IsEntry, TakesRightly}
use Rattle.rv_machine.specs.Left.{Left}
use Rattle.rv_machine.proofs.Before.{alike_back}
use Rattle.rv_machine.proofs.Flushing.{alike_get}
use Rattle.rv_machine.proofs.Repaid.{repaid_pc}
use Rattle.rv_machine.proofs.Entered.{first_holds, interrupted_is, entry_seen, entry_struck, get_drop}
use Rattle.std.proofs.Common.{◌≡◌, ℕ, zero, suc, ◌+◌, ◌-◌, ◌<◌, ◌≤◌, List, [], ◌∷◌, drop, length, Option, Some, None, Bool, true, false, refl, sym, ap, ◌∙◌, subst, arith, ◌⊎◌, inl, inr}
use Rattle.std.specs.Prelude.{◌||◌, if◌then◌else◌, is_some, nat_lt, slice_get, replicate, is_none, not, ◌&&◌}
use Rattle.std.proofs.lemmas.Bool.{cases_lt}
use Rattle.std.proofs.lemmas.Bool.Decides.{nat_tests}
use Rattle.rv_seq.specs.declared.commit.Commit.{Commit}
use Rattle.rv_seq.specs.declared.commit.Stop.{Stop}
use Rattle.rv_seq.specs.declared.commit.Stop.TheVariants.{Fetch}
use Rattle.rv_seq.specs.declared.answer.StepAnswer.TheVariants.{Stopped}
use Rattle.rv_seq.specs.Steps.{word_at}
use Rattle.rv_trace.specs.declared.row.Cell.{Cell}
use Rattle.rv_trace.specs.declared.row.Row.{Row}
use Rattle.rv_trace.specs.declared.row.Hold.TheVariants.{Late, Trap}
use Rattle.rv_trace.specs.Trace.{has_serial, place, retirements, newest}
use Rattle.rv_trace.specs.RowParts.{name_of, names_of, stays, leaves, comes, fetched, front, MovesInto}
use Rattle.rv_holds.specs.declared.token.Token.{Token}
use Rattle.rv_asks.specs.declared.asks.Asks.{Asks}
use Rattle.rv_holds.specs.declared.flushing.Turn.{Turn}
use Rattle.rv_holds.specs.Tokens.{Slots, or_else, stop_of, cell_of, cells_of}
use Rattle.rv_holds.specs.Holds.{is_late, stops_now}
use Rattle.rv_holds.specs.Flushing.{struck, slot_stop, remains, redirect_of}
use Rattle.rv_engine.specs.Settings.{Setting, Machine, shape_of, interrupted_by}
use Rattle.rv_engine.specs.Rows.{fill_first, going, retired_of, new_by, loaded_by, turn_by, seen_by, fetch_by, left_by, is_owing, outstanding_by, entered_by, written_by, machine_after}
use Rattle.rv_lawful.specs.Settings as Lawful
use Rattle.rv_lawful.specs.LawfulTrace.{fetch_address, next_serial, new_cell, Moves, Retires, WaitsForJump, StopsRun, IsEmptyAfter, StopsRightly, IsInForm, LawfulRow}
use Rattle.rv_lawful.specs.Outstanding.{outstanding}
use Rattle.rv_machine.proofs.UnitsNext.{writes_unit}
use Rattle.rv_machine.proofs.Settled.{fetch_case, none_left, owed_settled, settled_owed}
use Rattle.rv_machine.specs.Owing.{judged}
use Rattle.rv_machine.specs.Placed.{IsReady}
use Rattle.rv_machine.proofs.Places.{stood, token_order}
use Rattle.rv_machine.proofs.Deciding.{test_eq, is_none_of}
use Rattle.rv_machine.specs.Made.{Made}
use Rattle.rv_machine.proofs.Standing.{asks_at, here_of, cell_here, At}
use Rattle.rv_machine.proofs.OwnHolds.{then_stops, stops_then}
use Rattle.rv_machine.proofs.Holds.{shows}
use Rattle.rv_machine.proofs.Stopping.{Stopper, stopper, slot_stop_at, remains_none, none_remains}
use Rattle.rv_machine.proofs.Moving.{token_name, fill_moves, new_name, last_slot}
use Rattle.rv_machine.proofs.Clearing.{cleared_length, unheld_names, shown_as, cleared_get}
use Rattle.rv_machine.proofs.Turns.{Turner, turner, settles_parts, settles_where, plain_turn, entry_turn}
use Rattle.rv_machine.proofs.Before as B
use Rattle.rv_machine.proofs.Past as P
use Rattle.rv_machine.proofs.Succeeding as S
use Rattle.rv_lawful.specs.Sight.{asked}
use Rattle.rv_tried.specs.Parts.{shown}

-- a cell of these is a token's
token_here : (l : Slots) (n : ℕ) (c : Cell) → slice_get (cells_of l) n ≡ Some (Some c) → (t : Token) × (slice_get l n ≡ Some (Some t)) × (t.cell ≡ c)
token_here [] n c e = cc
token_here (None ∷ l) zero c e = cc
token_here (Some t ∷ l) zero c e = (t, refl, cc)
token_here (s ∷ l) (suc n) c e = token_here l n c e

head_same : (t u : Token) (a b : Slots) → ◌≡◌ {A = Slots} (Some t ∷ a) (Some u ∷ b) → t ≡ u
head_same t u a b e = cc

tail_same : (t u : Token) (a b : Slots) → ◌≡◌ {A = Slots} (Some t ∷ a) (Some u ∷ b) → a ≡ b
tail_same t u a b e = cc

one_stop : (a b : Stop) → ◌≡◌ {A = Option Stop} (Some a) (Some b) → a ≡ b
one_stop a b e = cc

stopped_once : (a b : Stop) → Stopped a ≡ Stopped b → a ≡ b
stopped_once a b e = cc

not_lt : (a b : ℕ) → b ≤ a → nat_lt a b ≡ false
not_lt a b h = grind (arith, nat_tests)

empty_drop : (n m : ℕ) → ◌≡◌ {A = List (Option Cell)} (drop n (replicate m None)) (replicate (m - n) None)
empty_drop zero m = let z : m ≡ m - 0 = omega arith in ap (λ j. replicate j None) z
empty_drop (suc n) zero = let e : 0 ≡ 0 - suc n = omega arith in ap (λ j. replicate j None) e
empty_drop (suc n) (suc m) = let e : m - n ≡ suc m - suc n = omega arith in empty_drop n m ∙ ap (λ j. replicate j None) e

module _ (k : Setting) (ready : IsReady k) (earlier : List Row) (m : Machine) (row : Row) (made : Made k earlier m row) where
  abbrev flushed : ℕ
  flushed = struck (turn_by k m)

  pub seen_length : length (seen_by k m) ≡ (shape_of k).stages
  seen_length = cleared_length flushed (loaded_by k m) (B.struck_inside k ready earlier m made.inv) ∙ made.long

  stands_at : (stage : ℕ) → flushed ≤ stage → slice_get (Lawful.stages_of (judged k) row) stage ≡ slice_get (cells_of (seen_by k m)) stage
  stands_at = S.stands_at k ready earlier m row made

  stands_seen : (stage : ℕ) (c : Cell) → flushed ≤ stage → Lawful.Stands (judged k) row stage c → slice_get (cells_of (seen_by k m)) stage ≡ Some (Some c)
  stands_seen stage c le s = sym (stands_at stage le) ∙ s

  cell_at : (stage : ℕ) (c : Cell) → flushed ≤ stage → Lawful.Stands (judged k) row stage c → At k (retirements earlier) stage c (seen_by k m)
  cell_at = S.cell_at k ready earlier m row made

  left_from : (stage : ℕ) (t : Token) → slice_get (seen_by k m) stage ≡ Some (Some t) → flushed ≤ stage
  left_from = S.left_from k ready earlier m row made

  -- Moves

  new_is : token_name (new_by k m) ≡ new_cell (judged k) earlier
  new_is =
      new_name k.design m.future m.arch.trap m.next m.fetch (word_at k.image m.fetch)
      ∙ ap (λ s. fetched s m.fetch (word_at k.image m.fetch)) made.inv.next_is
      ∙ ap (λ a. fetched (next_serial (judged k) earlier) a (word_at k.image a)) made.inv.fetch_is

  row_moves : Moves (judged k) earlier row
  row_moves =
      let before = Lawful.stages_of (judged k) (newest earlier) in
      let names : names_of (Lawful.stages_of (judged k) row) ≡ names_of (cells_of (fill_first (new_by k m) m.slots)) = ap names_of made.is.cells ∙ unheld_names flushed (loaded_by k m) ∙ made.names in
      subst (λ l. MovesInto (newest earlier) (comes (stays (newest earlier) (front before)) (new_cell (judged k) earlier)) before l) (sym names)
      (subst (λ n. MovesInto (newest earlier) (comes (stays (newest earlier) (front before)) n) before (names_of (cells_of (fill_first (new_by k m) m.slots)))) new_is
      (fill_moves (new_by k m) (newest earlier) before m.slots made.inv.moved))

  -- Retirements

  unheld_leaves : (i : ℕ) (t : Token) → slice_get (seen_by k m) i ≡ Some (Some t) → t.cell.hold ≡ None → leaves row (Some t.cell) ≡ name_of (Some t.cell)
  unheld_leaves i t e h = let f = made.kept i t e in rw (h, f) refl

  -- past all flushed stages
  last_left : (stage : ℕ) → suc stage ≡ (shape_of k).stages → flushed ≤ length (seen_by k m)
  last_left stage e = let a = B.struck_inside k ready earlier m made.inv in omega (arith, a, seen_length, made.long)

  row_retires : (stage : ℕ) → suc stage ≡ (shape_of k).stages → Retires (judged k) row stage
  row_retires stage e =
      let l = last_slot stage (seen_by k m) (e ∙ sym seen_length) in
      by_slot l.slot (l.leaving_is None) l.here l.rest where
        -- a cell that leaves stands past the flushed stages
        leaver_seen : (c : Cell) → Lawful.Stands (judged k) row stage c → leaves row (Some c) ≡ name_of (Some c) → slice_get (cells_of (seen_by k m)) stage ≡ Some (Some c)
        leaver_seen c s p = elim (cases_lt stage flushed) [
          | inl lt ↦ cc ((S.gone_at k ready earlier m row made stage c lt s).1, (S.leaves_parts k ready earlier m row made c p).1)
          | inr le ↦ stands_seen stage c le s
        ]

        by_slot : (s : Option Token) → left_by k m ≡ going s → slice_get (cells_of (seen_by k m)) stage ≡ Some (cell_of s) → drop stage (seen_by k m) ≡ s ∷ [] → Retires (judged k) row stage
        by_slot None g here rest =
            record {
              leaver = λ s commit q. cc (made.is.retired ∙ ap retired_of g, q);
              retired = λ c stands q. cc (sym here ∙ leaver_seen c stands q);
            }
        by_slot (Some t) g here rest = by_hold (is_some t.cell.hold) refl g where
          at : slice_get (seen_by k m) stage ≡ Some (Some t)
          at = here_of (seen_by k m) [] t stage rest

          stands_t : Lawful.Stands (judged k) row stage t.cell
          stands_t = stands_at stage (left_from stage t at) ∙ here

          same_cell : (c : Cell) → Lawful.Stands (judged k) row stage c → leaves row (Some c) ≡ name_of (Some c) → t.cell ≡ c
          same_cell c s p = some_cell t.cell c (sym here ∙ leaver_seen c s p) where
            some_cell : (c d : Cell) → ◌≡◌ {A = Option (Option Cell)} (Some (Some c)) (Some (Some d)) → c ≡ d
            some_cell c d q = cc

          by_hold : (b : Bool) → is_some t.cell.hold ≡ b → left_by k m ≡ (if b then None else Some t) → Retires (judged k) row stage
          by_hold true q g =
              record {
                leaver = λ s commit p. cc (made.is.retired ∙ ap retired_of g, p);
                retired = λ c stands p. cc (ap (λ (d : Cell). is_some d.hold) (same_cell c stands p) ∙ (S.leaves_parts k ready earlier m row made c p).0, q);
              }
          by_hold false q g =
              let x = made.retires t g in
              let c = shown (asked k.design t.cell.word) x.0 in
              let is_retired : row.retired ≡ Some (t.cell.serial, c) = made.is.retired ∙ ap retired_of g ∙ x.3 in
              record {
                leaver = λ s commit p. (t.cell, stands_t, unheld_leaves stage t at (is_none_of t.cell.hold q), ap serial_in (same_pair (t.cell.serial, c) (s, commit) (sym is_retired ∙ p)));
                retired = λ d stands p. (c, is_retired ∙ ap (λ (z : Cell). Some (z.serial, c)) (same_cell d stands p));
              } where
                same_pair : (a b : ℕ × Commit) → ◌≡◌ {A = Option (ℕ × Commit)} (Some a) (Some b) → a ≡ b
                same_pair a b q = cc

                serial_in : ℕ × Commit → ℕ
                serial_in p = p.0

  -- Stops

  pub stopper_stops : (stop : Stop) (x : Stopper k 0 (seen_by k m) stop) → Lawful.Stands (judged k) row x.index x.token.cell × StopsRun (judged k) earlier row x.index x.token.cell stop
  stopper_stops stop x =
      let z : 0 + x.index ≡ x.index = omega arith in
      let left = left_from x.index x.token (here_of (seen_by k m) x.older x.token x.index x.rest) in
      let stands : Lawful.Stands (judged k) row x.index x.token.cell = stands_at x.index left ∙ x.here in
      let at = cell_at x.index x.token.cell left stands in
      let pair : ◌≡◌ {A = Slots} (Some x.token ∷ x.older) (Some at.token ∷ at.older) = sym x.rest ∙ at.rest in
      let token = head_same x.token at.token x.older at.older pair in
      let older = tail_same x.token at.token x.older at.older pair in
      let stops : stops_now (shape_of k) x.index at.token at.older ≡ true = ap (λ (t : Token). stops_now (shape_of k) x.index t at.older) (sym token) ∙ ap (λ l. stops_now (shape_of k) x.index x.token l) (sym older) ∙ ap (λ n. stops_now (shape_of k) n x.token x.older) (sym z) ∙ x.stops in
      let y = then_stops k ready earlier row (seen_by k m) made.told x.index at.token at.older at.rest at.placed stops in
      let word : stop_of at.token ≡ Some stop = ap (λ (t : Token). stop_of t) (sym token) ∙ x.word in
      let same = one_stop y.0 stop (sym y.1 ∙ word) in
      (stands, subst (λ d. StopsRun (judged k) earlier row x.index d stop) at.is (subst (λ q. StopsRun (judged k) earlier row x.index at.token.cell q) same y.2))

  ex_left : (stage : ℕ) (c : Cell) (stop : Stop) → Lawful.Stands (judged k) row stage c → StopsRun (judged k) earlier row stage c stop → flushed ≤ stage → slot_stop (shape_of k) 0 (seen_by k m) ≡ Some stop
  ex_left stage c stop stands s le =
      let at = cell_at stage c le stands in
      let s' = subst (λ d. StopsRun (judged k) earlier row stage d stop) (sym at.is) s in
      let n = stops_then k ready earlier row (seen_by k m) made.told stage at.token at.older at.rest at.placed stop s' in
      let y = then_stops k ready earlier row (seen_by k m) made.told stage at.token at.older at.rest at.placed n in
      let same = stopped_once y.0 stop (sym y.2.due ∙ s'.due) in
      let e = s.executing in
      slot_stop_at k 0 stage (seen_by k m) at.older at.token stop (omega (arith, e)) at.rest (ap (λ j. stops_now (shape_of k) j at.token at.older) (sym e) ∙ n) (y.1 ∙ ap (λ q. Some q) same)

  empty_after : remains (seen_by k m) ≡ false → IsEmptyAfter (judged k) row
  empty_after e stage c stands = elim (cases_lt stage flushed) [
    | inl lt ↦ inl (S.gone_at k ready earlier m row made stage c lt stands).1
    | inr le ↦
        let x = remains_none (seen_by k m) e stage c (stands_seen stage c le stands) in
        inr (x.0 ∙ seen_length, x.1)
  ]

  after_empty : IsEmptyAfter (judged k) row → remains (seen_by k m) ≡ false
  after_empty f = none_remains (seen_by k m) (λ n c q.
      let t = token_here (seen_by k m) n c q in
      let stands : Lawful.Stands (judged k) row n c = stands_at n (left_from n t.0 t.1) ∙ q in
      let alive = ap (λ (d : Cell). has_serial row.flushed d.serial) (sym t.2) ∙ made.kept n t.0 t.1 in
      elim (f n c stands) [ inl x ↦ cc (alive, x) | inr x ↦ (x.0 ∙ sym seen_length, x.1) ])

  -- a cell of EX waits for the late token that turns the fetch
  jump_ahead : (turn : Turn) (x : Turner (shape_of k) m.fetch (loaded_by k m) turn) → turn_by k m ≡ Some turn → (c : Cell) → (shape_of k).ex < turn.stage → Lawful.Stands (judged k) row (shape_of k).ex c → WaitsForJump (judged k) earlier row (shape_of k).ex c x.token.cell.serial
  jump_ahead turn x e c lt stands =
      let le : flushed ≤ turn.stage = subst (λ o. struck o ≤ turn.stage) (sym e) (omega arith) in
      let rest : drop turn.stage (seen_by k m) ≡ Some x.token ∷ x.older = S.seen_drop k ready earlier m row made turn.stage le ∙ x.rest in
      let here = here_of (seen_by k m) x.older x.token turn.stage rest in
      let y = stood (row ∷ earlier) (retirements earlier) turn.stage (seen_by k m) x.token made.told.serials here in
      let u = shown_as flushed (shape_of k).ex (loaded_by k m) c (ap (λ l. slice_get l (shape_of k).ex) (sym made.is.cells) ∙ stands) in
      let before = token_order earlier (retirements earlier) (shape_of k).ex turn.stage (loaded_by k m) u.token x.token made.serials lt u.here_is (here_of (loaded_by k m) x.older x.token turn.stage x.rest) in
      let serial = u.serial in
      let standing : Lawful.Stands (judged k) row turn.stage x.token.cell = stands_at turn.stage le ∙ cell_here (seen_by k m) turn.stage x.token here in
      record {
        executing = refl;
        older = record { lower = omega (arith, before, serial); unflushed = y.alive };
        unretired = made.told.before x.token.cell.serial y.alive ∙ not_lt (place (row ∷ earlier) x.token.cell.serial) (retirements earlier) y.low;
        jumps = (
          x.token.cell.word,
          inl (turn.stage, x.token.cell, standing, refl, refl),
          sym (ap (λ (a : Asks). a.late) (asks_at k (retirements earlier) 0 turn.stage (seen_by k m) x.token made.told.placed here)) ∙ is_jump (is_late x.token) refl,
        );
      } where
        is_jump : (b : Bool) → is_late x.token ≡ b → b ≡ true
        is_jump true q = refl
        is_jump false q =
            let w = test_eq turn.stage (shape_of k).ex (settles_where (shape_of k) turn.stage x.token (settles_parts (shape_of k) turn.stage x.token x.older x.settles_now).0 false q) in
            absurd (omega (arith, w, lt))

  -- so a cell that stops the run is not flushed
  unflushed : (stage : ℕ) (c : Cell) (stop : Stop) → Lawful.Stands (judged k) row stage c → StopsRun (judged k) earlier row stage c stop → flushed ≤ stage
  unflushed stage c stop stands s = elim (cases_lt stage flushed) [ inl lt ↦ by_entry (entered_by k m) refl lt | inr le ↦ le ] where
    by_turn : entered_by k m ≡ false → (o : Option Turn) → turn_by k m ≡ o → stage < struck o → flushed ≤ stage
    by_turn plain None e lt = absurd (omega arith)
    by_turn plain (Some turn) e lt =
        let x = turner (shape_of k) m.fetch (loaded_by k m) turn (sym (plain_turn k m plain) ∙ e) in
        let at = s.executing in
        let w = jump_ahead turn x e c (omega (arith, lt, at)) (subst (λ n. Lawful.Stands (judged k) row n c) at stands) in
        absurd (s.free (Late x.token.cell.serial) (subst (λ n. WaitsForJump (judged k) earlier row n c x.token.cell.serial) (sym at) w))

    by_entry : (b : Bool) → entered_by k m ≡ b → stage < flushed → flushed ≤ stage
    by_entry false e lt = by_turn e (turn_by k m) refl lt
    by_entry true e lt = absurd (s.free Trap (record { executing = s.executing; interrupted = sym (interrupted_is k earlier m made.inv) ∙ first_holds (interrupted_by k m) _ e }))

  row_stops : StopsRightly (judged k) earlier row
  row_stops =
      record {
        cause = λ stop e. why stop (slot_stop (shape_of k) 0 (seen_by k m)) refl (sym made.stop_is ∙ e);
        of_cell = λ stage c stop stands s. made.stop_is ∙ ap (λ o. or_else o (if remains (seen_by k m) || (is_owing (outstanding_by k m).owed || is_some (word_at k.image (fetch_by k m))) then None else Some Fetch)) (ex_left stage c stop stands s (unflushed stage c stop stands s));
        of_fetch = λ f o w. made.stop_is ∙ nothing_left f o w (slot_stop (shape_of k) 0 (seen_by k m)) refl;
      } where
        why : (stop : Stop) (o : Option Stop) → slot_stop (shape_of k) 0 (seen_by k m) ≡ o → or_else o (if remains (seen_by k m) || (is_owing (outstanding_by k m).owed || is_some (word_at k.image (fetch_by k m))) then None else Some Fetch) ≡ Some stop
            → ((stage : ℕ) × (c : Cell) × Lawful.Stands (judged k) row stage c × StopsRun (judged k) earlier row stage c stop) ⊎ ((stop ≡ Fetch) × IsEmptyAfter (judged k) row × (outstanding (judged k) (row ∷ earlier) ≡ []) × (word_at k.image (fetch_address (judged k) (row ∷ earlier)) ≡ None))
        why stop (Some s) q e =
            let x = stopper k 0 (seen_by k m) stop (q ∙ e) in
            let y = stopper_stops stop x in
            inl (x.index, x.token.cell, y.0, y.1)
        why stop None q e =
            let f = fetch_case (remains (seen_by k m)) (outstanding_by k m).owed (word_at k.image (fetch_by k m)) stop e in
            inr (f.3, empty_after f.0, owed_settled k ready earlier m row made.inv made.is f.1, ap (λ n. word_at k.image n) (sym (S.fetch_now k ready earlier m row made)) ∙ f.2)

        nothing_left : IsEmptyAfter (judged k) row → outstanding (judged k) (row ∷ earlier) ≡ [] → word_at k.image (fetch_address (judged k) (row ∷ earlier)) ≡ None → (o : Option Stop) → slot_stop (shape_of k) 0 (seen_by k m) ≡ o → or_else o (if remains (seen_by k m) || (is_owing (outstanding_by k m).owed || is_some (word_at k.image (fetch_by k m))) then None else Some Fetch) ≡ Some Fetch
        nothing_left f z w None q =
            let e = after_empty f in
            let a = ap (λ n. word_at k.image n) (S.fetch_now k ready earlier m row made) ∙ w in
            none_left (remains (seen_by k m)) (outstanding_by k m).owed (word_at k.image (fetch_by k m)) e (settled_owed k ready earlier m row made.inv made.is z) a
        nothing_left f z w (Some s) q =
            let x = stopper k 0 (seen_by k m) s q in
            let y = stopper_stops s x in
            let ex = y.1.executing in
            let last = ready.ex_last in
            elim (f x.index x.token.cell y.0) [ inl y ↦ cc (made.kept x.index x.token (here_of (seen_by k m) x.older x.token x.index x.rest), y) | inr y ↦ absurd (omega (arith, ex, last, y.0)) ]

  row_form : IsInForm (judged k) row
  row_form = record { behind = made.is.behind ∙ empty_drop (shape_of k).stages 5; listed = made.listed; ascending = made.ascends }

  -- Entries

  -- where none stands above EX after the row, none remains there
  cleared_remains : IsClearAfter (judged k) row → remains (drop (suc (shape_of k).ex) (loaded_by k m)) ≡ false
  cleared_remains clear = none_remains (drop (suc (shape_of k).ex) (loaded_by k m)) (λ n c q.
      let t = token_here (drop (suc (shape_of k).ex) (loaded_by k m)) n c q in
      let u = alike_get (drop (suc (shape_of k).ex) (seen_by k m)) (drop (suc (shape_of k).ex) (loaded_by k m)) n t.0 (alike_back (drop (suc (shape_of k).ex) (loaded_by k m)) (drop (suc (shape_of k).ex) (seen_by k m)) (P.kept_past k ready earlier m row made.inv made.is)) t.1 in
      let there : slice_get (seen_by k m) (suc (shape_of k).ex + n) ≡ Some (Some u.0) = sym (get_drop (suc (shape_of k).ex) n (seen_by k m)) ∙ u.1 in
      let le = left_from (suc (shape_of k).ex + n) u.0 there in
      let same : slice_get (seen_by k m) (suc (shape_of k).ex + n) ≡ slice_get (loaded_by k m) (suc (shape_of k).ex + n) = cleared_get flushed (suc (shape_of k).ex + n) (loaded_by k m) le (B.struck_inside k ready earlier m made.inv) in
      let here : slice_get (seen_by k m) (suc (shape_of k).ex + n) ≡ Some (Some t.0) = same ∙ sym (get_drop (suc (shape_of k).ex) n (loaded_by k m)) ∙ t.1 in
      let stands : Lawful.Stands (judged k) row (suc (shape_of k).ex + n) c = stands_at (suc (shape_of k).ex + n) le ∙ cell_here (seen_by k m) (suc (shape_of k).ex + n) t.0 here ∙ ap (λ (d : Cell). Some (Some d)) t.2 in
      let alive = ap (λ (d : Cell). has_serial row.flushed d.serial) (sym t.2) ∙ made.kept (suc (shape_of k).ex + n) t.0 here in
      let long = length-drop (suc (shape_of k).ex) (loaded_by k m) in
      let all = made.long in
      let a = ready.ex_last in
      elim (clear (suc (shape_of k).ex + n) c (omega arith) stands) [ inl x ↦ cc (alive, x) | inr x ↦ (let last = x.0 in omega (arith, last, long, all, a), x.1) ])

  row_takes : (left : Left k earlier m row) → TakesRightly (judged k) earlier row
  row_takes left =
      record {
        taken = λ at h. by_entry at (entered_by k m) refl (sym made.is.taken ∙ h);
        due = λ now clear. by_due now clear (entered_by k m) refl;
      } where
        same_number : (a b : ℕ) → ◌≡◌ {A = Option ℕ} (Some a) (Some b) → a ≡ b
        same_number a b e = cc

        by_entry : (at : ℕ) (b : Bool) → entered_by k m ≡ b → (if b then Some (written_by k m).pc else None) ≡ Some at → IsEntry (judged k) earlier row at
        by_entry at false e h = cc
        by_entry at true e h =
            record {
              interrupted = sym (interrupted_is k earlier m made.inv) ∙ first_holds (interrupted_by k m) _ e;
              clear = λ stage c lt stands. empty_after (entry_seen k ready m made.long e) stage c stands;
              value = sym (same_number (written_by k m).pc at h) ∙ sym (repaid_pc (machine_after k m).owed (written_by k m)) ∙ ap (λ (s : Arch). s.pc) left.applied;
              flushed = λ stage c le stands. let n = entry_struck k ready m made.long e in (S.gone_at k ready earlier m row made stage c (omega (arith, le, n)) stands).1;
              redirected = made.is.redirect ∙ ap (λ o. redirect_of o) (entry_turn k m e);
            }

        by_due : is_interrupted (judged k) earlier ≡ true → IsClearAfter (judged k) row → (b : Bool) → entered_by k m ≡ b → is_some row.taken ≡ true
        by_due now clear true e = ap (λ o. is_some o) (S.taken_at k ready earlier m row made e)
        by_due now clear false e = cc (sym e ∙ ap (λ b. b && not (remains (drop (suc (shape_of k).ex) (loaded_by k m)))) (interrupted_is k earlier m made.inv ∙ now), ap (λ b. not b) (cleared_remains clear))

  -- the row is lawful
  pub lawful : (left : Left k earlier m row) → LawfulRow (judged k) earlier row
  lawful left = record {
    form = row_form;
    moves = row_moves;
    retires = row_retires;
    holds = λ stage c stands. shows k ready earlier row (seen_by k m) made.told stage c stands;
    successors = S.row_successors k ready earlier m row made;
    units = writes_unit k ready earlier m row made.inv made.is;
    takes = row_takes left;
    stops = row_stops;
  }
