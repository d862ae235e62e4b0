use Rattle.std.proofs.Common.{◌∙◌, ◌++◌, sym, reverse}
use Rattle.rv_harts.specs.Events.{standing as standing_of}
use Rattle.rv_barrel.specs.Cells.{fetched_of}
use Rattle.rv_holds.proofs.Least.{least_here, least_later, least_none}
use Rattle.rv_barrel.specs.Turning.{waited}
use Rattle.rv_barrel.proofs.turning.least_wait.Goals as goal

pub returns-in-Some : goal.returns-in-Some
returns-in-Some c k q all d asks asked owed =
    let f = waited c.args.wait k d (reverse (standing_of (fetched_of q c.args.older.now))) (all ++ reverse (standing_of (fetched_of q c.args.older.now))) in
    sym (least_here f c.loop-number.number c.args.count c.in-Some.serial c.waits_at-found.result c.loop-number-test.true (c.waits_at-found.ensures k q all d asks asked owed) c.in-Some.is)
    ∙ c.loop-number.invariant k q all d asks asked owed

pub loop-number-preserved : goal.loop-number-preserved
loop-number-preserved c k q all d asks asked owed =
    let f = waited c.args.wait k d (reverse (standing_of (fetched_of q c.args.older.now))) (all ++ reverse (standing_of (fetched_of q c.args.older.now))) in
    sym (least_later f c.loop-number.number c.args.count c.waits_at-found.result c.loop-number-test.true (c.waits_at-found.ensures k q all d asks asked owed) c.in_default.is)
    ∙ c.loop-number.invariant k q all d asks asked owed

pub returns : goal.returns
returns c k q all d asks asked owed =
    let f = waited c.args.wait k d (reverse (standing_of (fetched_of q c.args.older.now))) (all ++ reverse (standing_of (fetched_of q c.args.older.now))) in
    sym (least_none f c.loop-number.number c.args.count c.loop-number-test.false) ∙ c.loop-number.invariant k q all d asks asked owed
