use Rattle.rv_bench.proofs.InRange.{first_in_range}
use Rattle.rv_bench.proofs.image.first_word.Goals as goal

pub encode-requires : goal.encode-requires
encode-requires c = first_in_range
