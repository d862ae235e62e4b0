use Rattle.ix_cells.proofs.Forms.{if_ok}
use Rattle.ix_cells.proofs.Shifted.{none_up}
use Rattle.ix_cells.proofs.shifting.moved_out.Goals as goal

pub returns-in-Up : goal.returns-in-Up
returns-in-Up c = rw c.in-Up.is (if_ok c.zero.result _ _ (λ r q. none_up c.args.a q) c.zero.ensures)

pub returns-in-Down : goal.returns-in-Down
returns-in-Down c = rw c.in-Down.is c.moved_down_out.ensures
