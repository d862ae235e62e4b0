-- After a row without a stop the machine is tied to the rows again.
use Rattle.std.proofs.lemmas.Bool.{cases_lt}
use Rattle.rv_holds.specs.Flushing.{struck}
use Rattle.rv_trace.specs.RowParts.{name_of}
use Rattle.rv_trace.specs.declared.row.Cell.{Cell}
use Rattle.rv_waits.specs.Lines.{is_raised}
use Rattle.rv_lawful.specs.Future.{leaves_execute, going_on, cell_in}
use Rattle.rv_lawful.specs.Outstanding.{after_entry}
use Rattle.rv_lawful.specs.Entering.{places, pending, is_line_pending}
use Rattle.rv_machine.proofs.Flushing.{slot_behind}
use Rattle.rv_machine.proofs.Places.{serials_drop}
use Rattle.rv_machine.proofs.Alike.{alike_count}
use Rattle.rv_machine.proofs.Standing.{drop_more}
use Rattle.rv_machine.proofs.Deciding.{decided_tail, no_stops_tail}
use Rattle.rv_machine.proofs.Going.{AreSeen, free_ahead}
use Rattle.rv_machine.proofs.Settling.{seen_rest}
use Rattle.rv_machine.proofs.Past.{slot_of, drop_advanced, leaving_drop}
use Rattle.std.proofs.Common.{◌≡◌, ℕ, ◌+◌, ◌≤◌, List, ◌∷◌, drop, length, Some, None, sym, ap, ◌∙◌, arith, Option, Bool, true, false, zero, suc, [], ◌<◌, subst, refl, inl, inr}
use Rattle.std.specs.Prelude.{nat_lt, is_some, is_none, not, ◌&&◌, ◌||◌, if◌then◌else◌, slice_get}
use Rattle.rv_seq.specs.WordEffects.{AreWide}
use Rattle.rv_trace.specs.declared.row.Row.{Row}
use Rattle.rv_trace.specs.Trace.{place, rows_without, retirements, has_serial}
use Rattle.rv_waits.specs.Waits.{greatest}
use Rattle.rv_holds.specs.declared.token.Token.{Token}
use Rattle.rv_holds.specs.Tokens.{Slots, cells_of}
use Rattle.rv_engine.specs.Settings.{Setting, Machine, tree_of, shape_of, pending_by, raised_in}
use Rattle.rv_engine.specs.Rows.{advanced, new_by, memory_by, seen_by, IsRowOf, machine_after, entered_by, written_by, going, turn_by}
use Rattle.rv_lawful.specs.Settings as Lawful
use Rattle.rv_machine.specs.Owing.{judged, repaid}
use Rattle.rv_machine.specs.Placed.{whole_rank, greatest_rank, IsReady, Inv, one_more, count, Serials, AreExecuted}
use Rattle.rv_machine.proofs.Filling.{next_within}
use Rattle.rv_machine.proofs.Moves.{advanced_length, count_advanced}
use Rattle.rv_machine.proofs.Before as B
use Rattle.rv_machine.proofs.Flushing as F
use Rattle.rv_machine.proofs.Retiring as R
use Rattle.rv_machine.proofs.NextRow as N
use Rattle.rv_machine.proofs.Worded as W
use Rattle.rv_machine.proofs.Past as Q
use Rattle.rv_machine.proofs.Counting as C
use Rattle.rv_machine.proofs.FewEntries.{few_next}
use Rattle.rv_machine.proofs.FileTold as T
use Rattle.rv_machine.proofs.OwingNext as O
use Rattle.rv_machine.proofs.RepaidNext as P
use Rattle.rv_machine.proofs.ApartNext as A
use Rattle.rv_machine.proofs.Ranged.{ranged_next}
use Rattle.rv_machine.proofs.UnitsNext as U

-- for how many rows each module still goes on after the row
abbrev pub TailsAfter : Setting → List Row → Slots → Type 0
TailsAfter k rows slots = (n : ℕ) (t : Token) (older : Slots) → drop n slots ≡ Some t ∷ older → t.tail + Lawful.tailed (judged k) rows t.cell.serial ≡ t.asks.tail

-- the bound after the row
abbrev pub ProgressAfter : Setting → List Row → Machine → Type 0
ProgressAfter k rows m = rows_without rows + whole_rank k (greatest k.waits) m ≤ greatest_rank k

-- a bound on what left EX may grow
pub more_executed : (k : Setting) (rows : List Row) (bound more : ℕ) → bound ≤ more → AreExecuted k rows bound → AreExecuted k rows more
more_executed k [] bound more le h = tt
more_executed k (row ∷ earlier) bound more le h = (λ c e. let lt = h.0 c e in omega (arith, lt, le), more_executed k earlier bound more le h.1)

pending_more : (l : List ℕ) (row : Row) (earlier : List Row) → (is_raised l (suc (length earlier)) || (is_none row.taken && pending l earlier)) ≡ pending l (row ∷ earlier)
unfolding pending
pending_more l row earlier = refl

-- a cell that goes on shows no hold and is not flushed
goes_parts : (row : Row) (d c : Cell) → going_on row (Some d) ≡ Some c → (is_some d.hold ≡ false) × (has_serial row.flushed d.serial ≡ false) × (d ≡ c)
goes_parts row d c q = by_case (is_some d.hold) (has_serial row.flushed d.serial) q where
  by_case : (a b : Bool) → (if is_some (if a || b then None else name_of (Some d)) then Some d else None) ≡ Some c → (a ≡ false) × (b ≡ false) × (d ≡ c)
  by_case false false q = (refl, refl, cc)
  by_case false true q = cc
  by_case true b q = cc

pub token_of_cell : (l : Slots) (n : ℕ) (c : Cell) → slice_get (cells_of l) n ≡ Some (Some c) → (t : Token) × (slice_get l n ≡ Some (Some t)) × (t.cell ≡ c)
token_of_cell [] n c e = cc
token_of_cell (None ∷ l) zero c e = cc
token_of_cell (Some t ∷ l) zero c e = (t, refl, cc)
token_of_cell (s ∷ l) (suc n) c e = token_of_cell l n c e

module _ (k : Setting) (ready : IsReady k) (earlier : List Row) (m : Machine) (row : Row) (inv : Inv k earlier m) (is : IsRowOf k m row) where
  abbrev now : ℕ
  now = retirements (row ∷ earlier)

  pub same_places : entered_by k m ≡ false → places (row ∷ earlier) ≡ places earlier
  unfolding places
  same_places plain = ap (λ (b : Bool). if b then now ∷ places earlier else places earlier) (ap (λ o. is_some o) (is.taken ∙ ap (λ (b : Bool). if b then Some (written_by k m).pc else None) plain))

  pub plain_arch : entered_by k m ≡ false → (machine_after k m).arch ≡ written_by k m
  plain_arch plain = ap (λ (b : Bool). after_entry (shape_of k).trap (if b then Some (written_by k m).pc else None) (written_by k m)) plain

  -- the line is pending after the row where the rows say so
  pub line_next : pending_by k (machine_after k m) ≡ is_line_pending k.lines (row ∷ earlier)
  line_next =
      ap (λ b. raised_in k.lines (suc m.rows) || (b && not (entered_by k m))) inv.line
      ∙ ap (λ n. raised_in k.lines (suc n) || (is_line_pending k.lines earlier && not (entered_by k m))) inv.rows
      ∙ by_lines k.lines where
        taken_or_not : is_none row.taken ≡ not (entered_by k m)
        taken_or_not = ap (λ o. is_none o) is.taken ∙ by_entry (entered_by k m) where
          by_entry : (b : Bool) → is_none (if b then Some (written_by k m).pc else None) ≡ not b
          by_entry true = refl
          by_entry false = refl

        and_swap : (a b : Bool) → (a && b) ≡ (b && a)
        and_swap true true = refl
        and_swap true false = refl
        and_swap false true = refl
        and_swap false false = refl

        pending_next : (l : List ℕ) → (is_raised l (suc (length earlier)) || (pending l earlier && not (entered_by k m))) ≡ pending l (row ∷ earlier)
        pending_next l =
            ap (λ b. is_raised l (suc (length earlier)) || b) (and_swap (pending l earlier) (not (entered_by k m)) ∙ ap (λ b. b && pending l earlier) (sym taken_or_not))
            ∙ pending_more l row earlier

        by_lines : (lines : Option (List ℕ)) → (raised_in lines (suc (length earlier)) || (is_line_pending lines earlier && not (entered_by k m))) ≡ is_line_pending lines (row ∷ earlier)
        by_lines None = refl
        by_lines (Some l) = pending_next l

  -- each cell that left EX stays below what is retired or stands above it
  pub executed_bound : row.stop ≡ None → (s : Option Token) (older : Slots) → drop (shape_of k).ex (seen_by k m) ≡ s ∷ older → retirements (row ∷ earlier) + count (drop (suc (shape_of k).ex) (advanced None (seen_by k m))) ≡ retirements earlier + one_more (going s) (count older)
  executed_bound e s older d =
      let r = retirements earlier in
      let z : 0 + (shape_of k).ex ≡ (shape_of k).ex = omega arith in
      let h = subst (λ b. AreSeen k r b (s ∷ older)) z (seen_rest k r 0 (shape_of k).ex (seen_by k m) (s ∷ older) (B.seen_all k ready earlier m inv (N.no_stop k ready earlier m row inv is e)) d) in
      let c = count_advanced k (suc (shape_of k).ex) (going s) older (decided_tail k (shape_of k).ex s older h.decided) (no_stops_tail k (shape_of k).ex s older h.stops) (free_ahead k 0 (shape_of k).ex s older h.decided h.stops) in
      let out = ap (λ o. one_more o 0) (leaving_drop (shape_of k).ex None (seen_by k m) older s d) in
      let counts = ap count (drop_advanced (shape_of k).ex None (seen_by k m) older s d) in
      let n = N.retired_is k ready earlier m row inv is in
      omega (arith, n, c, out, counts)

  -- the cell that leaves EX in the row
  executed_cell : (c : Cell) → leaves_execute (judged k) row ≡ Some c → (t : Token) × (older : Slots) × (drop (shape_of k).ex (seen_by k m) ≡ Some t ∷ older) × (is_some t.cell.hold ≡ false) × (t.cell.serial ≡ c.serial)
  executed_cell c h =
      let a = ready.ex_last in
      let long = B.seen_length k ready earlier m inv in
      let at = slot_of (shape_of k).ex (seen_by k m) (omega (arith, long, a)) in
      by_cell (slice_get (Lawful.stages_of (judged k) row) (shape_of k).ex) refl h where
        by_cell : (o : Option (Option Cell)) → slice_get (Lawful.stages_of (judged k) row) (shape_of k).ex ≡ o → going_on row (cell_in o) ≡ Some c → (t : Token) × (older : Slots) × (drop (shape_of k).ex (seen_by k m) ≡ Some t ∷ older) × (is_some t.cell.hold ≡ false) × (t.cell.serial ≡ c.serial)
        by_cell None e q = cc
        by_cell (Some None) e q = cc
        by_cell (Some (Some d)) e q =
            let g = goes_parts row d c q in
            elim (cases_lt (shape_of k).ex (struck (turn_by k m))) [
              | inl lt ↦ cc ((F.stands_flushed k ready earlier m row inv is (shape_of k).ex d lt e).1, g.1)
              | inr le ↦
                  let x = F.shown_at k ready earlier m row inv is (shape_of k).ex d e in
                  let same : slice_get (cells_of (seen_by k m)) (shape_of k).ex ≡ Some (Some d) = sym (F.stands_at k ready earlier m row inv is (shape_of k).ex le) ∙ e in
                  let t = token_of_cell (seen_by k m) (shape_of k).ex d same in
                  (t.0, drop (suc (shape_of k).ex) (seen_by k m), slot_behind (shape_of k).ex (seen_by k m) t.0 t.1, ap (λ (v : Cell). is_some v.hold) t.2 ∙ g.0, ap (λ (v : Cell). v.serial) t.2 ∙ ap (λ (v : Cell). v.serial) g.2)
            ]

  pub executed_next : row.stop ≡ None → AreExecuted k (row ∷ earlier) (retirements (row ∷ earlier) + count (drop (suc (shape_of k).ex) (advanced None (seen_by k m))))
  executed_next e =
      let a = ready.ex_last in
      let long = B.seen_length k ready earlier m inv in
      let at = slot_of (shape_of k).ex (seen_by k m) (omega (arith, long, a)) in
      let bound = executed_bound e at.0 at.1 at.2 in
      let same = alike_count (drop (suc (shape_of k).ex) m.slots) (drop (suc (shape_of k).ex) (seen_by k m)) (Q.past_alike k ready earlier m row inv is) in
      let older = ap count (drop_more (seen_by k m) at.1 at.0 (shape_of k).ex at.2) in
      let grows = one_more_le (going at.0) (count at.1) in (
        λ c h. below c h,
        more_executed k earlier _ _ (omega (arith, bound, same, older, grows)) inv.executed,
      ) where
        one_more_le : (o : Option Token) (n : ℕ) → n ≤ one_more o n
        one_more_le None n = omega arith
        one_more_le (Some t) n = omega arith

        below : (c : Cell) → leaves_execute (judged k) row ≡ Some c → place (row ∷ earlier) c.serial < retirements (row ∷ earlier) + count (drop (suc (shape_of k).ex) (advanced None (seen_by k m)))
        below c h =
            let x = executed_cell c h in
            let bound = executed_bound e (Some x.0) x.1 x.2 in
            let serials = subst (λ l. Serials (row ∷ earlier) (retirements earlier) l) x.2 (serials_drop (row ∷ earlier) (retirements earlier) (shape_of k).ex (seen_by k m) (F.seen_serials k ready earlier m row inv is)) in
            let p = ap (λ n. place (row ∷ earlier) n) (sym x.4) ∙ serials.0.0 in
            let goes : one_more (going (Some x.0)) (count x.1) ≡ suc (count x.1) = ap (λ (b : Bool). one_more (if b then None else Some x.0) (count x.1)) x.3 in
            omega (arith, bound, p, goes)

  -- what the code promises of widths, the modules and the bound are premises here
  pub goes_next : entered_by k m ≡ false → row.stop ≡ None → AreWide (tree_of k) (machine_after k m).future → TailsAfter k (row ∷ earlier) (advanced None (seen_by k m)) → ProgressAfter k (row ∷ earlier) (machine_after k m) → Inv k (row ∷ earlier) (machine_after k m)
  goes_next plain e wide tails progress =
      let c = N.counted k ready earlier m row inv is e in
      let now = R.retired_now k ready earlier m row inv is in
      record {
        stages = advanced_length None (seen_by k m) ∙ B.seen_length k ready earlier m inv;
        entries = inv.entries ∙ sym (same_places plain);
        past = λ p lt. inv.past p (let b = now in omega (arith, lt, b));
        rows = ap (λ n. suc n) inv.rows;
        line = line_next;
        executed = executed_next e;
        arch = ap (λ s. repaid (machine_after k m).owed s) (plain_arch plain) ∙ P.repaid_next k ready earlier m row inv is;
        ranged = ranged_next k ready earlier m row inv is;
        next_place = F.seen_count k ready earlier m row inv is ∙ omega (arith, c, now);
        next_first = N.next_first k ready earlier m row inv is;
        fetch = N.fetch_next k ready earlier m row inv is plain e;
        few = next_within m.next (length earlier) m.slots (new_by k m) inv.few;
        few_accesses = let a = N.few_more m.accesses (memory_by k m) in let b = inv.few_accesses in omega (arith, a, b);
        few_stood = let a = N.stood_more m.stood (memory_by k m) in let b = inv.few_stood in omega (arith, a, b);
        accesses = C.accesses_next k ready earlier m row inv is (N.no_stop k ready earlier m row inv is e);
        stood_is = C.stood_next k ready earlier m row inv is;
        tail_is = tails;
        future = N.future_next k ready earlier m row inv is e;
        future_wide = wide;
        file = T.file_told k ready earlier m row inv is inv.file e;
        placed = N.placed_next k ready earlier m row inv is e;
        serials = N.serials_next k ready earlier m row inv is e;
        fetch_is = C.fetch_now k ready earlier m row inv is;
        next_is = C.serial_now k ready earlier m row inv is;
        moved = N.moves_now k ready earlier m row inv is e;
        words = N.words_next k ready earlier m row inv is;
        fresh = F.fresh_now k ready earlier m row inv is;
        retired = λ s alive. R.told_retired k ready earlier m row inv is s alive ∙ ap (λ n. nat_lt (place (row ∷ earlier) s) n) (sym now);
        unflushed = F.unflushed_next k ready earlier m row inv is;
        owing = O.owing_next k ready earlier m row inv is;
        paid = O.paid_next k ready earlier m row inv is;
        worded = W.worded_next k ready earlier m row inv is;
        units = U.units_next k ready earlier m row inv is;
        timed = U.timed_next k ready earlier m row inv is;
        distinct = A.distinct_next k ready earlier m row inv is;
        apart = A.apart_next k ready earlier m row inv is (N.no_stop k ready earlier m row inv is e);
        few_entries = few_next k ready earlier m row inv is;
        state = R.architecture_now k ready earlier m row inv is;
        progress = progress;
      }
