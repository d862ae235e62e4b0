use Rattle.ix_cells.proofs.shifting.moved_by.Goals as goal

pub returns-in-Up : goal.returns-in-Up
returns-in-Up c = rw c.in-Up.is c.moved_up.ensures

pub returns-in-Down : goal.returns-in-Down
returns-in-Down c = rw c.in-Down.is c.moved_down.ensures
