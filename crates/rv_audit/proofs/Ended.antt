-- The state of a text beside that behind its rows, of which this is kept.
use Rattle.std.proofs.Common.{◌≡◌, ◌∙◌, sym, ap, subst, ℕ, suc, ◌≤◌, List, [], length, drop, reverse}
use Rattle.std.specs.List.{flat_map}
use Rattle.ix_extension.specs.Extensions.{view_extension}
use Rattle.rv_trace.specs.declared.row.Row.{Row}
use Rattle.rv_text.specs.RunText.{state_text}
use Rattle.rv_lawful.specs.Settings.{Setting}
use Rattle.rv_lawful.specs.Outstanding.{outstanding, outstanding_targets}
use Rattle.rv_shown.specs.Shown.{Shown, shown_texts}
use Rattle.rv_reader.specs.declared.read.TraceRead.{TraceRead}
use Rattle.rv_reader.specs.Traces.{feeds}
use Rattle.rv_rows.specs.declared.known.Owed.{Owed}
use Rattle.rv_ending.specs.Differing.{IsDifferingLine}
use Rattle.rv_ending.specs.Owed.{owed_pairs, AreSixteen}
use Rattle.rv_watch.specs.Printed.{widths_of, state_behind}
use Rattle.rv_watch.specs.Faults.{rows_behind, AreAllRight, IsStateFault}
use Rattle.rv_watch.specs.AuditLaws.{IsRight}
use Rattle.rv_watch.specs.declared.against.Against.{Against}
use Rattle.rv_watch.specs.declared.watch.Watch.{Watch}
use Rattle.rv_watch.specs.Watched.{setting_of, tree_of, IsWatched}
use Rattle.rv_audit.specs.Refused.{rows_shown, IsReadOf, AreRightTo}
use Rattle.rv_audit.proofs.Numbers.{take_whole, state_line}
use Rattle.rv_audit.proofs.Ending.{pairs_are, sixteen}

-- the text of the state is printed from what is kept
state_kept : (a : Against) (rows : List Row) (w : Watch) → IsWatched a rows w
    → state_text (tree_of a) (flat_map owed_pairs w.owing.owed.items) w.past.arch ≡ state_behind a.design.now a.image.now a.waits.now rows
state_kept a rows w watched =
    let k = setting_of a in
    ap (λ l. state_text (tree_of a) (flat_map owed_pairs l) w.past.arch) watched.owing.owed
    ∙ ap (λ l. state_text (tree_of a) l w.past.arch) (pairs_are k (reverse (outstanding k rows)))
    ∙ ap (λ s. state_text (tree_of a) (outstanding_targets k rows) s) watched.past.arch

pub owed_sixteen : (a : Against) (rows : List Row) (w : Watch) (owed : List Owed) → IsWatched a rows w → owed ≡ w.owing.owed.items → AreSixteen owed
owed_sixteen a rows w owed watched e =
    subst (λ l. AreSixteen l) (sym (e ∙ watched.owing.owed)) (sixteen a.design.now a.image.now a.waits.now (reverse (outstanding (setting_of a) rows)))

module _ (a : Against) (text : List ℕ) (read : TraceRead) (is : IsReadOf a.design.now text read) (w : Watch) (so_far : AreRightTo a text read.rows (length read.rows) w) where
  abbrev k : Setting
  k = setting_of a

  abbrev shown : List Shown
  shown = rows_shown a.design.now text read.rows

  right : AreAllRight k [] shown
  right = subst (λ l. AreAllRight k [] (rows_shown a.design.now text l)) (take_whole read.rows) so_far.right

  pub watched : IsWatched a (rows_behind k [] shown) w
  watched = subst (λ l. IsWatched a (rows_behind k [] (rows_shown a.design.now text l)) w) (take_whole read.rows) so_far.watched

  -- the other text is that of the state behind the rows
  other_is : (owed : List Owed) → owed ≡ w.owing.owed.items → state_text (tree_of a) (flat_map owed_pairs owed) w.past.arch ≡ state_behind a.design.now a.image.now a.waits.now (rows_behind k [] shown)
  other_is owed e = ap (λ l. state_text (tree_of a) (flat_map owed_pairs l) w.past.arch) e ∙ state_kept a (rows_behind k [] shown) w watched

  pub ended_right : (state : List ℕ) (owed : List Owed) → state ≡ drop read.state text → owed ≡ w.owing.owed.items → state ≡ state_text (tree_of a) (flat_map owed_pairs owed) w.past.arch
      → IsRight a.design.now a.image.now a.waits.now text
  ended_right state owed here owes same = record {
    rows = shown;
    state = drop read.state text;
    read = is.trace;
    right = right;
    state_is = sym here ∙ same ∙ other_is owed owes;
  }

  pub ended_wrong : (state : List ℕ) (owed : List Owed) (line : ℕ) → length text ≤ 1073741824 → state ≡ drop read.state text → owed ≡ w.owing.owed.items
      → IsDifferingLine read.state_line state (state_text (tree_of a) (flat_map owed_pairs owed) w.past.arch) line → IsStateFault a.design.now a.image.now a.waits.now text line
  ended_wrong state owed line short here owes differs =
      let first : read.state_line ≡ suc (feeds (shown_texts 0 shown)) = is.state_line ∙ state_line (widths_of (view_extension a.design.now.extension)) a.design.now.sheet.shape.stages text read.rows (drop read.state text) is.trace short in
      let one = subst (λ n. IsDifferingLine n state (state_text (tree_of a) (flat_map owed_pairs owed) w.past.arch) line) first differs in
      let two = subst (λ l. IsDifferingLine (suc (feeds (shown_texts 0 shown))) l (state_text (tree_of a) (flat_map owed_pairs owed) w.past.arch) line) here one in
      record {
        rows = shown;
        state = drop read.state text;
        read = is.trace;
        right = right;
        differs = subst (λ o. IsDifferingLine (suc (feeds (shown_texts 0 shown))) (drop read.state text) o line) (other_is owed owes) two;
      }
