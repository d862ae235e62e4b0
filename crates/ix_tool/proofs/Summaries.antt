-- The summary of the rows of a machine over a drawn image.
use Rattle.std.proofs.Common.{◌≡◌, ℕ, ◌+◌, ◌≤◌, List, [], length, reverse, None, ap, ◌∙◌, subst}
use Rattle.std.proofs.lemmas.List.{reverse-reverse}
use Rattle.ix_extension.specs.Extensions.{view_extension}
use Rattle.ix_plan.specs.declared.design.Design.{Design}
use Rattle.rv_bench.specs.DrawnImage.{drawn_image}
use Rattle.rv_bench.specs.Summary.{summary_text}
use Rattle.rv_trace.specs.declared.row.Row.{Row}
use Rattle.rv_trace.specs.Trace.{newest}
use Rattle.rv_engine.specs.Settings.{setting}
use Rattle.rv_machine.specs.Running.{AreRows}
use Rattle.ix_tool.specs.CommandOutput.{most_rows, IsDesignSummary}

pub design_summary : (design : Design) (number count : ℕ) (image waits : List ℕ) (rows told : List Row) → image ≡ drawn_image (view_extension design.extension) number count → waits ≡ [] → AreRows (setting design image waits None) rows
    → length rows ≤ most_rows → ((newest rows).stop ≡ None → length rows ≡ most_rows) → told ≡ reverse rows → IsDesignSummary design number count (summary_text (count + 2) (reverse told))
design_summary design number count image waits rows told i w are few whole t =
    let drawn = drawn_image (view_extension design.extension) number count in
    record {
      rows = rows;
      are_rows = subst (λ (z : List ℕ). AreRows (setting design drawn z None) rows) w (subst (λ (z : List ℕ). AreRows (setting design z waits None) rows) i are);
      few = few;
      whole = whole;
      text_is = ap (λ some. summary_text (count + 2) (reverse some)) t ∙ ap (summary_text (count + 2)) (reverse-reverse rows);
    }
