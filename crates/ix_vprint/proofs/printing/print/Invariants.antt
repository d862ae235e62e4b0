use Rattle.std.proofs.Common.{◌≡◌, take}
use Rattle.std.specs.Prelude.{All}
use Rattle.std.specs.List.{flat_map}
use Rattle.ix_net.specs.Valid.{IsValid}
use Rattle.ix_vprint.specs.Short.{HasShortNames}
use Rattle.ix_vprint.specs.Printed.{module_text}
use Rattle.ix_vprint.proofs.printing.print.Given as goal

abbrev pub invariant-loop-net : goal.invariant-loop-net
invariant-loop-net l = record {
  so_far : l.out.items ≡ flat_map module_text (take l.net-index l.nets);
  valid : All IsValid l.nets;
  short : All HasShortNames (take l.net-index l.nets);
}
