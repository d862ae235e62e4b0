use Rattle.rv_asm.proofs.Wholes.{size_law, base_reach, word_reach, field_reach}
use Rattle.rv_asm.proofs.laws.numbers_are_whole.Goals as goal

pub returns-clause-size : goal.returns-clause-size
returns-clause-size c = size_law

pub returns-clause-reach : goal.returns-clause-reach
returns-clause-reach c = record { base = base_reach; word = word_reach; field = field_reach }
