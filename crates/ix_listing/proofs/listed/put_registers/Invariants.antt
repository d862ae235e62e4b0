use Rattle.std.proofs.Common.{◌≡◌, ◌++◌, drop}
use Rattle.std.specs.Prelude.{string_bytes}
use Rattle.ix_listing.specs.Listing.{registers_text}
use Rattle.ix_listing.proofs.listed.put_registers.Given as goal

abbrev pub invariant-loop-number : goal.invariant-loop-number
invariant-loop-number l = record { rest : string_bytes l.out ++ registers_text l.number (drop l.number l.registers) ≡ string_bytes l.initial.out ++ registers_text 0 l.registers }
