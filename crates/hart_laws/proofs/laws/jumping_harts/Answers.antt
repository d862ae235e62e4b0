use Rattle.hart_laws.proofs.JumpingRows.{jumping_are, late_are}
use Rattle.hart_laws.proofs.laws.jumping_harts.Goals as goal

pub returns-clause-jumping : goal.returns-clause-jumping
returns-clause-jumping c = jumping_are

pub returns-clause-late : goal.returns-clause-late
returns-clause-late c = late_are
