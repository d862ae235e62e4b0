use Rattle.std.proofs.Common.{append_assoc}
use Rattle.rv_barrel_text.proofs.row_text.put_line.Goals as goal

pub returns-clause-text : goal.returns-clause-text
returns-clause-text c = rw (c.text.ensures, c.put_both_marks.ensures.text, c.put_cells.ensures.text, c.put_number.ensures.text, c.from.ensures) (simp append_assoc)
