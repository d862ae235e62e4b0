use Rattle.std.proofs.Common.{sym, subst, ◌<◌, ◌≤◌, length}
use Rattle.rv_waits.specs.Lines.{most_lines, next_row}
use Rattle.rv_waits.proofs.Ascents.{pushed}
use Rattle.rv_waits.proofs.lines.Lines.push.Goals as goal

pub invariant_of-self : goal.invariant_of-self
invariant_of-self c =
    pushed c.push.result c.self.inside.list c.push.new.self c.args.row c.push.ensures.ok c.push.ensures.err (subst (λ l. length l < most_lines) (sym c.self.view_is) c.requires.room)
    (subst (λ l. next_row l ≤ c.args.row) (sym c.self.view_is) c.requires.above) c.requires.below c.self.invariant
