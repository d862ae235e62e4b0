use Rattle.ix_verilog.proofs.OneNet.{one_denotation, denoted_stays}
use Rattle.std.proofs.Common.{refl}
use Rattle.ix_verilog.proofs.OneSpelling.{one_spelling}
use Rattle.ix_verilog.proofs.OneReading.{leaves_once}
use Rattle.ix_verilog.proofs.laws.subset_laws.Goals as goal

pub returns-clause-spelling : goal.returns-clause-spelling
returns-clause-spelling c = λ text tokens others a b. one_spelling a text refl b

pub returns-clause-denotation : goal.returns-clause-denotation
returns-clause-denotation c = one_denotation

pub returns-clause-leaving : goal.returns-clause-leaving
returns-clause-leaving c = leaves_once

pub returns-clause-staying : goal.returns-clause-staying
returns-clause-staying c = denoted_stays
