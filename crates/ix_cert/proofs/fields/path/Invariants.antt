use Rattle.std.proofs.Common.{◌≡◌, take, map, decimal, All}
use Rattle.ix_cert.specs.Items.{IsWide}
use Rattle.ix_lines.specs.Readings.{texts}
use Rattle.ix_cert.proofs.fields.path.Given as goal

abbrev pub invariant-loop-word : goal.invariant-loop-word
invariant-loop-word l = record {
  so_far : map decimal l.path ≡ take l.word-index (texts l.words);
  wide : All IsWide l.path;
}
