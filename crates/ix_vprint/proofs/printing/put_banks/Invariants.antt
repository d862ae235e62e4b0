use Rattle.std.proofs.Common.{◌≡◌, ◌++◌, take}
use Rattle.std.specs.Prelude.{All}
use Rattle.std.specs.List.{flat_map}
use Rattle.ix_vprint.specs.Short.{IsShort}
use Rattle.ix_vprint.specs.Printed.{bank_text}
use Rattle.ix_vprint.proofs.printing.put_banks.Given as goal

abbrev pub invariant-loop-bank : goal.invariant-loop-bank
invariant-loop-bank l = record {
  so_far : l.out.items ≡ l.initial.out.items ++ flat_map bank_text (take l.bank-index l.banks);
  short : All (λ b. IsShort b.target) (take l.bank-index l.banks);
}
