-- The states behind one row more, by the steps of what retires and of what leaves EX.
use Rattle.std.proofs.Common.{◌≡◌, ◌∙◌, refl, sym, ap, subst, ℕ, List, [], ◌∷◌, Option, Some, None}
use Rattle.ix_bits.specs.declared.number.Bits.{Bits}
use Rattle.ix_extension.specs.Extensions.{ExtensionTree}
use Rattle.rv_seq.specs.WordEffects.{AreWide}
use Rattle.rv_seq.specs.declared.arch.Arch.{Arch}
use Rattle.rv_seq.specs.declared.commit.Commit.{Commit}
use Rattle.rv_seq.specs.Commits.{applied}
use Rattle.rv_seq.specs.Interrupts.{is_return, resumed}
use Rattle.rv_seq.specs.Runs.{start}
use Rattle.rv_seq.specs.States.{first}
use Rattle.rv_past.specs.declared.step.Step.{Step}
use Rattle.rv_tried.specs.Parts.{native}
use Rattle.rv_trace.specs.declared.row.Cell.{Cell}
use Rattle.rv_trace.specs.declared.row.Row.{Row}
use Rattle.rv_trace.specs.Trace.{place, retirements}
use Rattle.rv_lawful.specs.Settings.{Setting}
use Rattle.rv_lawful.specs.Outstanding.{after_retired, after_written, after_entry, architecture}
use Rattle.rv_lawful.specs.Future.{early_after, late_after, leaves_execute, after_executed, after_late, after_unit, future_file}
use Rattle.rv_past.specs.declared.due.Due.{Due}
use Rattle.rv_past.specs.Making.{IsWrittenWide}
use Rattle.rv_past.specs.declared.past.Past.{Past}
use Rattle.rv_past.specs.Past.{IsPast, IsSoundStep, IsRetiredStep, IsExecutedStep, retired_by, late_by, early_by}
use Rattle.rv_past.proofs.Widths.{early_wide, late_wide, unit_wide}

module _ (x : ExtensionTree) (k : Setting) (earlier : List Row) (due : Due) where
  -- what a row retires

  module _ (p : ℕ) where
    abbrev IsOf : Option (ℕ × Commit) → Type 0
    IsOf o = (s : ℕ) (c : Commit) → o ≡ Some (s, c) → IsSoundStep x k p c.word due

    retired_told : (o : Option (ℕ × Commit)) (s : Arch) → IsOf o → retired_by x due o s ≡ after_retired x k p o s
    retired_told None s f = refl
    retired_told (Some (t, c)) s f =
        let h = f t c refl in
        ap (λ a. resumed (is_return x c.word) (applied (native a due.step.blocks c) s)) h.asks
        ∙ ap (λ (d : Step). resumed (is_return x c.word) (applied (native (k.asks c.word) d.blocks c) s)) h.step.step

    late_told : (o : Option (ℕ × Commit)) (file : List Bits) → IsOf o → late_by due o file ≡ after_late k p o file
    late_told None file f = refl
    late_told (Some (t, c)) file f =
        let h = f t c refl in
        ap (λ a. late_after a due.step.own due.step.answer file) h.asks
        ∙ ap (λ (d : Step). late_after (k.asks c.word) d.own d.answer file) h.step.step

    late_by_wide : (o : Option (ℕ × Commit)) (file : List Bits) → IsOf o → AreWide x file → AreWide x (late_by due o file)
    late_by_wide None file f h = h
    late_by_wide (Some (t, c)) file f h = let g = f t c refl in late_wide x due.asks due.step.own due.step.answer file g.sound h

  -- what leaves EX

  module _ (rows : List Row) where
    abbrev IsFor : Option Cell → Type 0
    IsFor o = (c : Cell) → o ≡ Some c → IsSoundStep x k (place rows c.serial) c.word due

    early_told : (o : Option Cell) (file : List Bits) → IsFor o → early_by due o file ≡ after_executed k rows o file
    early_told None file f = refl
    early_told (Some c) file f =
        let h = f c refl in
        ap (λ a. early_after a due.step.blocks due.step.answer file) h.asks
        ∙ ap (λ (d : Step). early_after (k.asks c.word) d.blocks d.answer file) h.step.step

    early_by_wide : (o : Option Cell) (file : List Bits) → IsFor o → AreWide x file → AreWide x (early_by due o file)
    early_by_wide None file f h = h
    early_by_wide (Some c) file f h = let g = f c refl in early_wide x due.asks due.step.blocks due.step.answer file g.sound g.wide h

-- one row more
pub past_more : (x : ExtensionTree) (k : Setting) (earlier : List Row) (row : Row) (retired executed : Due) (cell : Option Cell) (old new : Past) → row.taken ≡ None → cell ≡ leaves_execute k row
    → IsRetiredStep x k earlier row retired → IsExecutedStep x k earlier row executed → IsWrittenWide x row.written → IsPast x k earlier old
    → new.arch ≡ after_written row.written (retired_by x retired row.retired old.arch)
    → new.file ≡ early_by executed cell (late_by retired row.retired (after_unit row.written old.file))
    → IsPast x k (row ∷ earlier) new
unfolding architecture future_file
past_more x k earlier row retired executed cell old new untaken is_cell of_retired of_executed written is arch file = record {
  arch =
      arch
      ∙ ap (λ s. after_written row.written (retired_by x retired row.retired s)) is.arch
      ∙ ap (λ s. after_written row.written s) (retired_told x k earlier retired (retirements earlier) row.retired (architecture x k earlier) of_retired)
      ∙ ap (λ o. after_entry k.shape.trap o (after_written row.written (after_retired x k (retirements earlier) row.retired (architecture x k earlier)))) (sym untaken);
  file =
      file
      ∙ ap (λ o. early_by executed o (late_by retired row.retired (after_unit row.written old.file))) is_cell
      ∙ ap (λ f. early_by executed (leaves_execute k row) (late_by retired row.retired (after_unit row.written f))) is.file
      ∙ ap (λ f. early_by executed (leaves_execute k row) f) (late_told x k earlier retired (retirements earlier) row.retired (after_unit row.written (future_file k earlier)) of_retired)
      ∙ early_told x k earlier executed (row ∷ earlier) (leaves_execute k row) (after_late k (retirements earlier) row.retired (after_unit row.written (future_file k earlier))) of_executed;
  wide =
      subst (λ f. AreWide x f) (sym (file ∙ ap (λ o. early_by executed o (late_by retired row.retired (after_unit row.written old.file))) is_cell))
      (early_by_wide x k earlier executed (row ∷ earlier) (leaves_execute k row) (late_by retired row.retired (after_unit row.written old.file)) of_executed
      (late_by_wide x k earlier retired (retirements earlier) row.retired (after_unit row.written old.file) of_retired (unit_wide x row.written old.file written is.wide)));
}

-- before the first row
pub past_first : (x : ExtensionTree) (k : Setting) (past : Past) → past.arch ≡ first x → past.file ≡ past.arch.custom → AreWide x past.arch.custom → k.entries ≡ None → k.initial ≡ (first x).custom → IsPast x k [] past
unfolding architecture future_file
past_first x k past arch file wide no_line initial = record {
  arch = arch ∙ sym (ap (λ e. start x e) no_line);
  file = file ∙ ap (λ (s : Arch). s.custom) arch ∙ sym initial;
  wide = subst (λ f. AreWide x f) (sym file) wide;
}
