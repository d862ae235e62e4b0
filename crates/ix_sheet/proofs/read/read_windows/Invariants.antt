use Rattle.std.proofs.Common.{◌≡◌, ℕ, ◌<◌, [], get_or, length}
use Rattle.toml.specs.View.{table_view}
use Rattle.ix_graph.specs.Kinds.{kind_words}
use Rattle.ix_sheet.specs.Datasheets.{window_in}
use Rattle.ix_sheet.specs.Sheets.{native_windows_of, window_at, IsInside}
use Rattle.ix_sheet.proofs.read.read_windows.Given as goal

abbrev pub invariant-loop-number : goal.invariant-loop-number
invariant-loop-number l =
    (length l.windows ≡ 10)
    × ((k : ℕ) → k < l.number → window_at l.windows k ≡ window_in (table_view l.doc) (window_at (native_windows_of l.shape) k) (get_or kind_words k []))
    × ((k : ℕ) → k < l.number → IsInside (window_at (native_windows_of l.shape) k) (window_at l.windows k))
