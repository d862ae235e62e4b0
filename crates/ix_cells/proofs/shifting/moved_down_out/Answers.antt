use Rattle.ix_cells.proofs.Forms.{if_ok}
use Rattle.ix_cells.proofs.Shifted.{none_down, sign_down}
use Rattle.ix_cells.proofs.shifting.moved_down_out.Goals as goal

pub returns-then-signed : goal.returns-then-signed
returns-then-signed c = rw c.if-signed.true (if_ok c.moved_down.result _ _ (λ r q. sign_down c.args.a c.requires.some q) c.moved_down.ensures)

pub returns-else-signed : goal.returns-else-signed
returns-else-signed c = rw c.if-signed.false (if_ok c.zero.result _ _ (λ r q. none_down c.args.a q) c.zero.ensures)
