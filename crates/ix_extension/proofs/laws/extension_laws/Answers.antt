use Rattle.ix_extension.proofs.InWord.{text_in_word}
use Rattle.ix_extension.proofs.Apart.{one_instruction}
use Rattle.ix_extension.proofs.laws.extension_laws.Goals as goal

-- src/laws.rt:4:1
pub returns : goal.returns
returns c = record { words = text_in_word; one_instruction = one_instruction }
