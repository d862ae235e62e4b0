-- How many entries of tables the look-ups of a graph have (this project's choice: cells are reckoned by them).
use Rattle.std.specs.Prelude.{ℕ, List, length, sum_by, slice_get, option_map, unwrap_or}
use Rattle.ix_bits.specs.declared.number.Bits.{Bits}
use Rattle.ix_graph.specs.declared.kind.Kind.{Kind}
use Rattle.ix_graph.specs.declared.kind.Kind.TheVariants.{Rom}
use Rattle.ix_graph.specs.declared.graph.Op.{Op}
use Rattle.ix_graph.specs.declared.graph.Graph.{Graph}

-- the entries of the table that an operation of this kind looks up, none of any other one
abbrev pub entries_at : List (List Bits) → Kind → ℕ
entries_at tables (Rom number) = unwrap_or (option_map length (slice_get tables number)) 0
entries_at tables kind = 0

-- the entries of all look-ups of a graph
abbrev pub entries_in : Graph → ℕ
entries_in g = sum_by (λ (op : Op). entries_at g.tables op.kind) g.ops
