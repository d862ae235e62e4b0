use Rattle.std.proofs.Common.{◌≡◌, take, true}
use Rattle.std.specs.List.{list_all}
use Rattle.ix_verilog.specs.Lines.{is_hex_digit}
use Rattle.ix_vform.proofs.word.are_hex_digits.Given as goal

abbrev pub invariant-loop-byte : goal.invariant-loop-byte
invariant-loop-byte l = list_all is_hex_digit (take l.byte-index l.word) ≡ true
