use Rattle.rv_bench.proofs.Below.{words_law}
use Rattle.rv_bench.proofs.laws.drawn_laws.Goals as goal

pub returns : goal.returns
returns c = record { words = words_law }
