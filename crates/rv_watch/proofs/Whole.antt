-- What is printed of lawful rows that show the run is the text of a trace.
use Rattle.std.proofs.Common.{◌≡◌, ℕ, suc, ◌<◌, ◌^◌, List, [], ◌∷◌, ◌++◌, length, map, reverse, get_or, refl, sym, ap, subst, arith, Option, Some, None, Bool, true, false}
use Rattle.ix_tree.specs.TypedTrees.{TypedTextTree}
use Rattle.ix_extension.specs.Extensions.{ExtensionTree, view_extension}
use Rattle.ix_extension.specs.WellFormed.{IsOf}
use Rattle.ix_plan.specs.declared.design.Design.{Design}
use Rattle.rv_asks.specs.declared.asks.Asks.{Asks}
use Rattle.rv_seq.specs.declared.arch.Arch.{Arch}
use Rattle.rv_seq.specs.declared.commit.Commit.{Commit}
use Rattle.rv_seq.specs.declared.commit.Slot.TheVariants.{Absent}
use Rattle.rv_seq.specs.declared.answer.StepAnswer.TheVariants.{Done}
use Rattle.rv_seq.specs.Runs.{run_with}
use Rattle.rv_tried.specs.Parts.{shown, spawned}
use Rattle.rv_tried.specs.declared.parts.Spawned.{Spawned}
use Rattle.rv_trace.specs.declared.row.Row.{Row}
use Rattle.rv_trace.specs.Trace.{place, retirements}
use Rattle.rv_trace.specs.TraceText.{retired_serial, written_serial, trace_text}
use Rattle.rv_lawful.specs.Settings.{Setting}
use Rattle.rv_lawful.specs.Outstanding.{Written, writes_of, after_retired, after_written, after_entry, architecture, outstanding_targets}
use Rattle.rv_lawful.specs.LawfulTrace.{Lawful}
use Rattle.rv_lawful.specs.Headline.{IsRecord, IsSpawnWrite}
use Rattle.rv_rows.specs.Recorded.{IsRecorded, AreRecorded}
use Rattle.rv_shown.specs.Shown.{shown_of, TextLaw}
use Rattle.rv_reader.specs.Forms.{IsWord, IsRowLine}
use Rattle.rv_reader.specs.Traces.{IsTrace}
use Rattle.rv_watch.specs.Printed.{widths_of, plain, state_behind, AreGiven}
use Rattle.rv_watch.proofs.CountingText.{AreOwn}
use Rattle.rv_watch.proofs.Committed.{IsRanged, step_ranged, run_calm}
use Rattle.rv_watch.proofs.Retirements.{IsXNamed, IsPrinted, IsPrintedRetired, IsPrintedWritten, retired_line, written_line}
use Rattle.rv_watch.proofs.States.{AreOwed, state_good}
use Rattle.rv_watch.proofs.Recorded as R
use Rattle.rv_watch.proofs.Recorded.{IsCustomSome, customs_good, widths_count}
use Rattle.rv_watch.proofs.Named as N
use Rattle.rv_watch.proofs.Named.{HasRanges}
use Rattle.rv_watch.proofs.Lines.{word_of, address_of, line_good}
use Rattle.rv_watch.proofs.Behind.{IsKept, first_kept, retired_kept, paid_kept, kept_printed, AreCounted, outstanding_good}
use Rattle.rv_watch.proofs.Texts.{IsShown, AreShown, shown_reverse, rows_good, texts_same}

module _ (d : Design) (image waits : List ℕ) (given : AreGiven image waits) (ranges : HasRanges (plain d image waits) (length (view_extension d.extension).registers)) (blocks : (p : ℕ) → AreOwn (view_extension d.extension) ((plain d image waits).course.blocks p)) where
  abbrev k : Setting
  k = plain d image waits

  abbrev x : ExtensionTree
  x = view_extension d.extension

  -- the record of a step of the run
  step_at : (p : ℕ) (c : Commit) → k.course.answer p ≡ Done c → IsRanged x image (run_with x image None p) c
  step_at p c e = step_ranged x image (run_with x image None p) c (run_calm x image p).trap e

  -- ---- what retires
  shown_printed : (a : Asks) (s : Arch) (c : Commit) → s.pc < 2 ^ 32 → a ≡ k.asks c.word → IsRanged x image s c → IsPrinted (widths_of x) (shown a c)
  unfolding shown
  shown_printed a s c pc e r =
      let targets : (q : ℕ) → get_or a.spawned_customs q false ≡ true → q < length x.registers = (λ q h. ranges.spawned c.word q (subst (λ (z : Asks). get_or z.spawned_customs q false ≡ true) e h)) in
      let named : (q : ℕ) → a.spawned ≡ Some q → q < 32 = (λ q h. (ranges.few c.word).spawned q (subst (λ (z : Asks). z.spawned ≡ Some q) e h)) in
      record {
        at = address_of c.at (subst (λ n. n < 2 ^ 32) (sym r.at) pc);
        word = address_of c.word (given.words s.pc c.word r.word);
        rd = R.shown_x_named x a targets named c.rd_index c.rd r.rd;
        custom = customs_good x true _ ranges.registers (R.shown_customs_some x a targets named c.custom r.customs);
        store = r.store;
        next = address_of c.next r.next;
      }

  shown_some : (a : Asks) (s : Arch) (c : Commit) → a ≡ k.asks c.word → IsRanged x image s c → (r : ℕ) → IsCustomSome x true r (get_or (shown a c).custom r Absent)
  unfolding shown
  shown_some a s c e r =
      let targets : (q : ℕ) → get_or a.spawned_customs q false ≡ true → q < length x.registers = (λ q h. ranges.spawned c.word q (subst (λ (z : Asks). get_or z.spawned_customs q false ≡ true) e h)) in
      let named : (q : ℕ) → a.spawned ≡ Some q → q < 32 = (λ q h. (ranges.few c.word).spawned q (subst (λ (z : Asks). z.spawned ≡ Some q) e h)) in
      R.shown_customs_some x a targets named c.custom r.customs

  record_printed : (p : ℕ) (c : Commit) → IsRecord k p c → IsPrinted (widths_of x) c
  record_printed p c h = subst (IsPrinted (widths_of x)) (sym h.2) (shown_printed (k.asks h.0.word) (run_with x image None p) h.0 (run_calm x image p).pc refl (step_at p h.0 h.1))

  record_some : (p : ℕ) (c : Commit) → IsRecord k p c → (r : ℕ) → IsCustomSome x true r (get_or c.custom r Absent)
  record_some p c h = subst (λ (z : Commit). (r : ℕ) → IsCustomSome x true r (get_or z.custom r Absent)) (sym h.2) (shown_some (k.asks h.0.word) (run_with x image None p) h.0 refl (step_at p h.0 h.1))

  -- ---- what units write
  abbrev IsGoodWrite : Spawned → Type 0
  IsGoodWrite s = IsXNamed false s.rd_index s.rd × ((r : ℕ) → IsCustomSome x false r (get_or s.custom r Absent))

  spawned_good : (a : Asks) (own : List Bool) (s : Arch) (c : Commit) → a ≡ k.asks c.word → IsRanged x image s c → IsGoodWrite (spawned a own c)
  unfolding spawned
  spawned_good a own s c e r =
      let targets : (q : ℕ) → get_or a.spawned_customs q false ≡ true → q < length x.registers = (λ q h. ranges.spawned c.word q (subst (λ (z : Asks). get_or z.spawned_customs q false ≡ true) e h)) in
      let named : (q : ℕ) → a.spawned ≡ Some q → q < 32 = (λ q h. (ranges.few c.word).spawned q (subst (λ (z : Asks). z.spawned ≡ Some q) e h)) in
      (R.spawned_x_named x a targets named c.rd_index c.rd r.rd, R.spawned_customs_some x a targets named own c.custom r.customs)

  write_good : (earlier : List Row) (w : Written) → IsSpawnWrite k earlier w → IsGoodWrite (writes_of w)
  write_good earlier w h =
      let p = place earlier w.0 in
      subst IsGoodWrite (sym h.values) (spawned_good (k.asks h.commit.word) (k.course.own p) (run_with x image None p) h.commit refl (step_at p h.commit h.step))

  -- ---- rows
  module _ (earlier : List Row) (row : Row) (law : Lawful (λ places. k) (row ∷ earlier)) (recorded : IsRecorded k earlier row) (fits : suc (length earlier) < 2 ^ 31) where
    retired_good : (o : Option (ℕ × Commit)) → row.retired ≡ o → IsPrintedRetired (widths_of x) o
    retired_good None e = tt
    retired_good (Some (s, c)) e = (
      (let l = N.retired_serial_named k (length x.registers) ranges earlier row law s c e in word_of (suc (length earlier)) s fits (omega (arith, l))),
      record_printed (retirements earlier) c (recorded.retired s c e),
    )

    written_good : (o : Option Written) → row.written ≡ o → IsPrintedWritten (widths_of x) o
    written_good None e = tt
    written_good (Some w) e =
        let h = recorded.written w e in
        let l = N.retired_named k (length x.registers) ranges earlier law.2 w.0 h.retired in
        let g = write_good earlier w h in (
          word_of (suc (length earlier)) w.0 fits (omega (arith, l)),
          g.0,
          customs_good x false w.3 ranges.registers g.1,
        )

    retired_mark : (o : Option (ℕ × Commit)) → IsPrintedRetired (widths_of x) o → (n : ℕ) → retired_serial o ≡ Some n → IsWord n
    retired_mark None h n e = cc
    retired_mark (Some p) h n e = (let same : p.0 ≡ n = cc in subst IsWord same h.0)

    written_mark : (o : Option Written) → IsPrintedWritten (widths_of x) o → (n : ℕ) → written_serial o ≡ Some n → IsWord n
    written_mark None h n e = cc
    written_mark (Some p) h n e = (let same : p.0 ≡ n = cc in subst IsWord same h.0)

    row_good : IsShown (widths_of x) d.sheet.shape.stages row
    row_good =
        let retired = retired_good row.retired refl in
        let written = written_good row.written refl in
        let line = line_good k (length x.registers) ranges earlier row law fits (retired_mark row.retired retired) (written_mark row.written written) in
        record {
          untaken = N.untaken k (length x.registers) ranges earlier row law.0;
          good = record {
            line = subst (λ n. IsRowLine n d.sheet.shape.stages (shown_of d.sheet.shape.stages row)) (sym (widths_count x.registers)) line;
            retired = retired_line (widths_of x) row.retired retired;
            written = written_line (widths_of x) row.written written;
          };
        }

  all_good : (rows : List Row) → Lawful (λ places. k) rows → AreRecorded k rows → length rows < 2 ^ 31 → AreShown (widths_of x) d.sheet.shape.stages rows
  all_good [] law h f = tt
  all_good (row ∷ earlier) law h f = (row_good earlier row law h.0 f, all_good earlier law.2 h.1 (omega (arith, f)))

  counted : (rows : List Row) → Lawful (λ places. k) rows → AreCounted k rows
  counted [] law = tt
  counted (row ∷ earlier) law = (λ s c e. N.retired_serial_named k (length x.registers) ranges earlier row law s c e, counted earlier law.2)

  -- ---- the state
  retired_state : (p : ℕ) (o : Option (ℕ × Commit)) (s : Arch) → ((t : ℕ) (c : Commit) → o ≡ Some (t, c) → IsRecord k p c) → IsKept x s → IsKept x (after_retired x k p o s)
  retired_state p None s h g = g
  retired_state p (Some (t, c)) s h g = retired_kept x (k.asks c.word) (k.course.blocks p) c s (blocks p) (record_some p c (h t c refl)) g

  written_state : (earlier : List Row) (o : Option Written) (s : Arch) → ((w : Written) → o ≡ Some w → IsSpawnWrite k earlier w) → IsKept x s → IsKept x (after_written o s)
  written_state earlier None s h g = g
  written_state earlier (Some w) s h g = paid_kept x (writes_of w) s (write_good earlier w (h w refl)).1 g

  entered_state : (handler : ℕ) (o : Option ℕ) (s : Arch) → o ≡ None → IsKept x s → IsKept x (after_entry handler o s)
  entered_state handler None s e g = g
  entered_state handler (Some at) s e g = cc

  state_kept : (t : TypedTextTree) → IsOf t x → (rows : List Row) → Lawful (λ places. k) rows → AreRecorded k rows → IsKept x (architecture x k rows)
  unfolding architecture
  state_kept t of [] law h = first_kept t x of
  state_kept t of (row ∷ earlier) law h =
      entered_state k.shape.trap row.taken _ (N.untaken k (length x.registers) ranges earlier row law.0)
      (written_state earlier row.written _ h.0.written (retired_state (retirements earlier) row.retired (architecture x k earlier) h.0.retired (state_kept t of earlier law.2 h.1)))

  pub whole : TextLaw → (t : TypedTextTree) → IsOf t x → (rows : List Row) → Lawful (λ places. k) rows → AreRecorded k rows → length rows < 2 ^ 31
      → IsTrace (widths_of x) d.sheet.shape.stages (trace_text d.sheet.shape.stages 0 (reverse rows) ++ state_behind d image waits rows) (map (shown_of d.sheet.shape.stages) (reverse rows)) (state_behind d image waits rows)
  whole text t of rows law h f =
      let good = shown_reverse (widths_of x) d.sheet.shape.stages rows (all_good rows law h f) in
      let owed = outstanding_good k (length x.registers) ranges.registers ranges.few ranges.spawned rows f (counted rows law) in
      record {
        rows_are = rows_good (widths_of x) d.sheet.shape.stages (reverse rows) good;
        state_is =
            state_good (widths_of x) x (outstanding_targets k rows) (architecture x k rows) (subst (λ n. AreOwed n (outstanding_targets k rows)) (sym (widths_count x.registers)) owed)
            (kept_printed x (architecture x k rows) ranges.registers (state_kept t of rows law h));
        is = ap (λ z. z ++ state_behind d image waits rows) (texts_same text (widths_of x) d.sheet.shape.stages 0 (reverse rows) good);
      }
