use Rattle.std.proofs.Common.{◌≡◌, ℕ, ◌<◌, ◌≤◌, [], get_or, length}
use Rattle.toml.specs.View.{table_view}
use Rattle.ix_graph.specs.Kinds.{kind_words}
use Rattle.ix_sheet.specs.Datasheets.{delay_in}
use Rattle.ix_sheet.proofs.read.read_delays.Given as goal

abbrev pub invariant-loop-number : goal.invariant-loop-number
invariant-loop-number l =
    (length l.delays ≡ 34)
    × ((k : ℕ) → k < l.number → get_or l.delays k 0 ≡ delay_in (table_view l.doc) (get_or kind_words k []))
    × ((k : ℕ) → k < l.number → get_or l.delays k 0 ≤ 1000000)
