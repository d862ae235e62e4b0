use Rattle.rv_memory.proofs.memory.RandomAccess.new.Goals as goal

-- the vector is one of zeros
pub returns-in-Ok : goal.returns-in-Ok
returns-in-Ok c = c.in-Ok.ensures.items_if_clones_equal (λ y e. e)
