use Rattle.std.proofs.Common.{◌≡◌, drop}
use Rattle.rv_reader.specs.Writes.{customs_in}
use Rattle.rv_reader.proofs.write.behind_customs.Given as goal

abbrev pub invariant-loop-k : goal.invariant-loop-k
invariant-loop-k l = record {
  rest : customs_in l.late 0 l.widths l.text ≡ customs_in l.late l.k (drop l.k l.widths) l.left;
}
