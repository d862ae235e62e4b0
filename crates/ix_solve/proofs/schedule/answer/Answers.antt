use Rattle.std.proofs.Common.{◌≡◌, take, length, slice_index}
use Rattle.ix_sheet.specs.Schedules.{cost}
use Rattle.ix_solve.proofs.Links.{dual_flow}
use Rattle.ix_solve.proofs.Chosen.{settled}
use Rattle.ix_solve.proofs.schedule.answer.Goals as goal

pub cost_of-cost-requires-clause-schedule : goal.cost_of-cost-requires-clause-schedule
cost_of-cost-requires-clause-schedule c =
    let p = c.args.p.now in
    let all = settled p c.args.bounds.now c.args.times.items c.args.amounts.now c.requires.valid c.requires.constraints c.requires.optimal in
    rw (c.as_slice.ensures.value, c.truncate.ensures.items, c.len.ensures) all.0

pub returns-clause-solved : goal.returns-clause-solved
returns-clause-solved c =
    let p = c.args.p.now in
    let ts = c.args.times.items in
    let all = settled p c.args.bounds.now ts c.args.amounts.now c.requires.valid c.requires.constraints c.requires.optimal in
    let flow = dual_flow p c.args.bounds.now ts c.args.amounts.now c.requires.constraints.of c.requires.optimal in
    let times : c.from_vec.result ≡ take (length p.ops) ts = rw (c.truncate.ensures.items, c.len.ensures) at c.from_vec.ensures in
    let value : c.cost_of-cost.result ≡ cost p (slice_index (take (length p.ops) ts)) = rw (c.as_slice.ensures.value, c.truncate.ensures.items, c.len.ensures) at c.cost_of-cost.ensures in
    record {
      schedule = rw times all.0;
      chosen = rw times all.1.chosen;
      cost = rw times value;
      flow = rw c.in_ok-flow.ensures.flow flow;
      value = rw (c.in_ok-flow.ensures.flow, value) all.1.value;
    }
