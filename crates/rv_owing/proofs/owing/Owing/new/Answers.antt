use Rattle.std.proofs.Common.{ap}
use Rattle.rv_core.specs.declared.Shape.{Shape}
use Rattle.rv_owing.proofs.Going.{owed_first}
use Rattle.rv_owing.proofs.owing.Owing.new.Goals as goal

pub returns : goal.returns
returns c k shape units =
    let d = c.args.design.now in
    owed_first k _ d.sheet.shape.stages d.plans c.in_ok-units.ensures.stages c.in_ok-units.ensures.lasts c.in_ok-units.ensures.entries (ap (λ (s : Shape). s.stages) shape) units c.new-2.ensures.items c.new-3.ensures.items
