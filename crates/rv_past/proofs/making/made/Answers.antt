use Rattle.std.proofs.Common.{◌≡◌, ◌-◌, ◌++◌, ℕ, None, map, take, sym, subst}
use Rattle.std.specs.Prelude.{replicate}
use Rattle.rv_trace.specs.RowParts.{given}
use Rattle.rv_past.specs.Making.{cell_from, IsStored, IsWrittenWide}
use Rattle.rv_past.proofs.Cells.{listed_again}
use Rattle.rv_past.proofs.Rows.{made_same}
use Rattle.rv_past.proofs.SoundPage as S
use Rattle.rv_past.proofs.making.made.Goals as goal

pub returns-clause-row : goal.returns-clause-row
returns-clause-row c = λ k earlier text same here due writes_due.
    made_same k earlier text c.args.shape c.args.image.now c.args.next.now c.args.writing.now c.args.row.now c.cells_made.result c.retired_made.result c.written_made.result c.in_front.result
    (subst (λ (n : ℕ). c.cells_made.result ≡ map (cell_from c.args.image.now) (take n c.args.row.now.cells) ++ replicate (5 - n) None) c.from.ensures c.cells_made.ensures)
    c.retired_made.ensures c.written_made.ensures c.in_front.ensures same here due writes_due

pub returns-clause-listed : goal.returns-clause-listed
returns-clause-listed c = listed_again c.in_front.result (given c.args.row.now.flushed) c.in_front.ensures

pub returns-clause-stored : goal.returns-clause-stored
returns-clause-stored c = λ x sound. subst (λ o. IsStored o) (sym c.retired_made.ensures) (S.stored x c.args.next.now c.args.row.now.retired sound)

pub returns-clause-wide : goal.returns-clause-wide
returns-clause-wide c = λ x sound. subst (λ o. IsWrittenWide x o) (sym c.written_made.ensures) (S.wide x c.args.writing.now c.args.row.now.written sound)
