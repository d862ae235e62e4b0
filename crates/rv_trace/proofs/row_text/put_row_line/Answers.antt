use Rattle.std.proofs.Common.{append_assoc}
use Rattle.rv_trace.proofs.row_text.put_row_line.Goals as goal

pub returns-clause-text : goal.returns-clause-text
returns-clause-text c =
    rw (c.text.ensures, c.put_row_stop.ensures.text, c.put_taken.ensures.text, c.put_redirect.ensures.text, c.put_flushed.ensures.text, c.put_mark-2.ensures.text, c.put_mark.ensures.text, c.put_stages.ensures.text, c.put_number.ensures.text, c.written_serial.ensures, c.retired_serial.ensures, c.from.ensures)
    (simp append_assoc)
