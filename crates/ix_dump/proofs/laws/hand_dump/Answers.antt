use Rattle.ix_dump.proofs.Growing.{by_hand, not_other_byte, not_shown_again}
use Rattle.ix_dump.proofs.laws.hand_dump.Goals as goal

pub returns-clause-text : goal.returns-clause-text
returns-clause-text c = by_hand

pub returns-clause-other_byte : goal.returns-clause-other_byte
returns-clause-other_byte c = not_other_byte

pub returns-clause-shown_again : goal.returns-clause-shown_again
returns-clause-shown_again c = not_shown_again
