use Rattle.std.proofs.Common.{◌≡◌, ◌-◌, ◌/◌, ◌^◌, ◌++◌}
use Rattle.std.specs.Prelude.{string_bytes}
use Rattle.ix_io.specs.Out.{hex_digits}
use Rattle.ix_listing.proofs.put.put_word.Given as goal

abbrev pub invariant-loop-place : goal.invariant-loop-place
invariant-loop-place l = record { bytes : string_bytes l.out ≡ string_bytes l.fn.out ++ hex_digits (8 - l.place) (l.word / 16 ^ l.place) }
