use Rattle.std.proofs.Common.{◌≡◌, ◌<◌, [], get_or, length, arith}
use Rattle.std.proofs.lemmas.List.{length-set}
use Rattle.toml.specs.View.{table_view}
use Rattle.ix_graph.specs.Kinds.{kind_words}
use Rattle.ix_sheet.specs.Datasheets.{window_in}
use Rattle.ix_sheet.specs.Sheets.{native_windows_of, window_at, IsInside}
use Rattle.ix_sheet.proofs.Places.{set_more}
use Rattle.ix_sheet.proofs.read.read_windows.Goals as goal

pub loop-number-preserved : goal.loop-number-preserved
loop-number-preserved c =
    let natives = native_windows_of c.args.shape in
    let windows = c.loop-number.windows in
    let n = c.loop-number.number in
    let (whole, values, inside) = c.loop-number.invariant in
    let within : n < length windows = omega arith in (
      rw length-set whole,
      set_more (λ k w. w ≡ window_in (table_view c.args.doc.now) (window_at natives k) (get_or kind_words k []))
          windows n c.read_window.result (0, 0) within values c.read_window.ensures.value,
      set_more (λ k w. IsInside (window_at natives k) w)
          windows n c.read_window.result (0, 0) within inside c.read_window.ensures.inside,
    )
