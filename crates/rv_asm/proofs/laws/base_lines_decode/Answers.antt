use Rattle.rv_asm.proofs.Decoding.{fields_law, line_law}
use Rattle.rv_asm.proofs.laws.base_lines_decode.Goals as goal

pub returns-clause-fields : goal.returns-clause-fields
returns-clause-fields c = fields_law

pub returns-clause-lines : goal.returns-clause-lines
returns-clause-lines c = line_law
