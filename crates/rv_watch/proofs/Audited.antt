-- The laws of audited texts.
use Rattle.std.proofs.Common.{◌≡◌, ◌∙◌, refl, sym, ap, subst, ℕ, suc, ◌<◌, ◌≤◌, ◌^◌, List, [], ◌∷◌, ◌++◌, map, reverse, length, arith}
use Rattle.std.proofs.lemmas.List.{length-append, length-reverse}
use Rattle.ix_plan.specs.declared.design.Design.{Design}
use Rattle.ix_extension.specs.Extensions.{view_extension}
use Rattle.ix_standing.specs.Standing.{Stands}
use Rattle.rv_trace.specs.declared.row.Row.{Row}
use Rattle.rv_trace.specs.TraceText.{row_text, trace_text, retired_text, written_text}
use Rattle.rv_shown.specs.Shown.{TextLaw, shown_of, shown_texts}
use Rattle.rv_rows.specs.Laws.{KindsLaw}
use Rattle.rv_watch.specs.Fit.{plain_setting, FitLaw}
use Rattle.rv_watch.specs.Printed.{widths_of, state_behind, AreGiven, PrintedLaw}
use Rattle.rv_watch.specs.Audited.{IsAudited}
use Rattle.rv_watch.specs.Faults.{rows_behind, IsReadAs}
use Rattle.rv_watch.specs.AuditLaws.{IsRight}
use Rattle.rv_watch.proofs.Folding.{IsRun, run_of, shown_run, texts_same}

pub sound : FitLaw → KindsLaw → TextLaw → (d : Design) (image waits text : List ℕ) → Stands d → IsRight d image waits text → IsAudited d image waits text
sound fit kinds texts d image waits text stands is =
    let k = plain_setting d image waits in
    let f = fit d image waits stands in
    let widths = widths_of (view_extension d.extension) in
    let none : IsRun k [] [] = record { lawful = tt; recorded = tt; untaken = tt; shows_it = refl } in
    let run = run_of k widths f.plain f.units.empty kinds [] [] is.rows none is.read.rows_are is.right in
    record {
      rows = rows_behind k [] is.rows;
      lawful = run.lawful;
      recorded = run.recorded;
      text_is =
          is.read.is
          ∙ ap (λ t. shown_texts 0 is.rows ++ t) is.state_is
          ∙ ap (λ l. shown_texts 0 l ++ state_behind d image waits (rows_behind k [] is.rows)) (sym run.shows_it)
          ∙ ap (λ t. t ++ state_behind d image waits (rows_behind k [] is.rows)) (sym (texts_same texts k.shape.stages 0 (reverse (rows_behind k [] is.rows)) run.untaken));
    }

-- Each row has a byte

longer : (x r w : List ℕ) → 1 ≤ length (((x ++ 10 ∷ []) ++ r) ++ w)
longer x r w =
    let a = length-append ((x ++ 10 ∷ []) ++ r) w in
    let b = length-append (x ++ 10 ∷ []) r in
    let c = length-append x (10 ∷ []) in
    omega (arith, a, b, c)

row_long : (stages number : ℕ) (row : Row) → 1 ≤ length (row_text stages number row)
unfolding row_text
row_long stages number row = longer _ (retired_text row.retired) (written_text row.written)

few_rows : (stages number : ℕ) (rows : List Row) → length rows ≤ length (trace_text stages number rows)
unfolding trace_text
few_rows stages number [] = omega arith
few_rows stages number (row ∷ rows) =
    let a = length-append (row_text stages number row) (trace_text stages (suc number) rows) in
    let b = row_long stages number row in
    let c = few_rows stages (suc number) rows in
    omega (arith, a, b, c)

pub complete : FitLaw → KindsLaw → PrintedLaw → (d : Design) (image waits text : List ℕ) → Stands d → AreGiven image waits → length text ≤ 2 ^ 30 → IsAudited d image waits text → IsRight d image waits text
complete fit kinds printed d image waits text stands given short is =
    let k = plain_setting d image waits in
    let f = fit d image waits stands in
    let widths = widths_of (view_extension d.extension) in
    let run = shown_run k widths f.plain f.units.empty kinds is.rows is.lawful is.recorded in
    let body = trace_text k.shape.stages 0 (reverse is.rows) in
    let a = length-append body (state_behind d image waits is.rows) in
    let b : length text ≡ length (body ++ state_behind d image waits is.rows) = ap (λ t. length t) is.text_is in
    let c = few_rows k.shape.stages 0 (reverse is.rows) in
    let e = length-reverse is.rows in
    let few : length is.rows < 2 ^ 31 = omega (arith, a, b, c, e, short) in
    record {
      rows = map (shown_of k.shape.stages) (reverse is.rows);
      state = state_behind d image waits is.rows;
      read = subst (λ t. IsReadAs d t (map (shown_of k.shape.stages) (reverse is.rows)) (state_behind d image waits is.rows)) (sym is.text_is) (printed d image waits is.rows stands given is.lawful is.recorded few);
      right = run.1;
      state_is = ap (λ l. state_behind d image waits l) (sym run.0);
    }
