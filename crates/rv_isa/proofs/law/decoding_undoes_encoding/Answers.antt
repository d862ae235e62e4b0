use Rattle.rv_isa.proofs.RoundLemmas.{decoded-encoded, encoded-decoded, IsInRange-decoded}
use Rattle.rv_isa.proofs.law.decoding_undoes_encoding.Goals as goal

pub returns-clause-instruction : goal.returns-clause-instruction
returns-clause-instruction c = decoded-encoded

pub returns-clause-word : goal.returns-clause-word
returns-clause-word c = encoded-decoded

pub returns-clause-in_range : goal.returns-clause-in_range
returns-clause-in_range c = IsInRange-decoded
