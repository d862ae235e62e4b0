use Rattle.std.proofs.Common.{◌≡◌, ◌∙◌, ◌++◌, ◌+◌, sym, subst, ℕ, suc, reverse, arith}
use Rattle.rv_harts.specs.Events.{standing as standing_of}
use Rattle.rv_barrel.specs.Cells.{fetched_of}
use Rattle.rv_harts.specs.Events.{undone}
use Rattle.rv_harts.specs.Turns.{executing_turn}
use Rattle.rv_barrel.specs.Older.{kept_of}
use Rattle.rv_barrel.proofs.Turnings.{if_at}
use Rattle.rv_barrel.proofs.turning.executing_in.Goals as goal

pub returns-then-stage-shape : goal.returns-then-stage-shape
returns-then-stage-shape c k q all d core asks tried asked owed =
    let here = tried (omega (arith, core.ex, c.if-stage-shape.true)) in
    let up : c.args.stage + 1 ≡ suc c.args.stage = omega arith in
    subst (λ (n : ℕ). c.executing.result ≡ executing_turn k d (reverse (standing_of (fetched_of q c.args.older.now))) (all ++ reverse (standing_of (fetched_of q c.args.older.now))) (kept_of c.args.out all ++ reverse (undone k n (fetched_of q c.args.older.now)))) up (c.executing.ensures k q all d core.stages asks here asked owed)
    ∙ sym (if_at c.args.stage c.args.shape.ex k.shape.ex (executing_turn k d (reverse (standing_of (fetched_of q c.args.older.now))) (all ++ reverse (standing_of (fetched_of q c.args.older.now))) (kept_of c.args.out all ++ reverse (undone k (suc c.args.stage) (fetched_of q c.args.older.now)))) c.if-stage-shape.true core.ex)
