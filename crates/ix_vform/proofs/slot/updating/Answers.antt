use Rattle.ix_vform.proofs.slot.updating.Goals as goal

pub returns : goal.returns
returns c = c.tried.ensures
