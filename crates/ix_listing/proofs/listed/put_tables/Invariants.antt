use Rattle.std.proofs.Common.{◌≡◌, ◌++◌, take}
use Rattle.std.specs.Prelude.{string_bytes}
use Rattle.std.specs.List.{flat_map}
use Rattle.ix_listing.specs.Listing.{table_line}
use Rattle.ix_listing.proofs.listed.put_tables.Given as goal

abbrev pub invariant-loop-table : goal.invariant-loop-table
invariant-loop-table l = record { so_far : string_bytes l.out ≡ string_bytes l.initial.out ++ flat_map table_line (take l.table-index l.tables) }
