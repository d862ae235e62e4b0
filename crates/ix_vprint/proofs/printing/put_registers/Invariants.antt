use Rattle.std.proofs.Common.{◌≡◌, ◌++◌, take}
use Rattle.std.specs.Prelude.{All}
use Rattle.ix_net.specs.Valid.{IsWidth}
use Rattle.ix_vprint.specs.Printed.{registers_text}
use Rattle.ix_vprint.proofs.printing.put_registers.Given as goal

abbrev pub invariant-loop-bank : goal.invariant-loop-bank
invariant-loop-bank l = record {
  so_far : l.out.items ≡ l.initial.out.items ++ registers_text (take l.bank-index l.banks);
  widths : All (λ b. IsWidth b.width) l.banks;
}
