use Rattle.std.proofs.Common.{◌≡◌, take, map}
use Rattle.std.specs.String.{string_bytes}
use Rattle.ix_sheet.specs.Datasheets.{shown_byte}
use Rattle.ix_sheet.proofs.rules.shown_name.Given as goal

abbrev pub invariant-loop-byte : goal.invariant-loop-byte
invariant-loop-byte l = string_bytes l.text ≡ map shown_byte (take l.byte-index l.front)
