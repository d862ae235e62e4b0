use Rattle.std.proofs.Common.{◌∙◌, sym, subst, rules}
use Rattle.rv_engine.specs.Showing.{shown_of}
use Rattle.rv_machine.specs.Running.{machine_at}
use Rattle.rv_nets.specs.Modules.{AllStep}
use Rattle.rv_wave.specs.Sent.{IsSent}
use Rattle.rv_wave.proofs.writing.write_rows.Goals as goal

pub rows-preserved : goal.rows-preserved
rows-preserved g c =
    let after = c.cycle-row.new.self in
    let same = sym c.cycle-row.ensures.setting in
    record {
      goes_on = search rules;
      count = search rules;
      spare = search rules;
      setting = c.cycle-row.ensures.setting ∙ c.rows.invariant.setting;
      are_rows = c.cycle-row.ensures.are_rows;
      before = c.show_row-going.ensures.before ∙ c.rows.invariant.before;
      now = c.show_row-going.ensures.now ∙ c.rows.invariant.now;
      sent = λ first faults begun. c.show_row-going.ensures.sent c.cycle-row.result c.rows.machine.rows c.rows.machine.modules first faults c.cycle-row.ensures.rows
          (subst (λ k. AllStep (shown_of k (machine_at k c.rows.machine.rows)) c.rows.machine.modules after.modules) same c.cycle-row.ensures.modules)
          (subst (λ k. IsSent c.rows.going k c.rows.machine.rows c.rows.machine.modules c.rows.before first (g.S.Sink.written c.rows.sink) c.rows.out faults (g.S.Sink.faults c.rows.sink)) same (c.rows.invariant.sent first faults begun));
    }

pub returns-then-is_some-clause-sent : goal.returns-then-is_some-clause-sent
returns-then-is_some-clause-sent g c =
    let after = c.cycle-row.new.self in
    let same = sym c.cycle-row.ensures.setting in
    λ first faults begun. c.show_row-going.ensures.sent c.cycle-row.result c.rows.machine.rows c.rows.machine.modules first faults c.cycle-row.ensures.rows
    (subst (λ k. AllStep (shown_of k (machine_at k c.rows.machine.rows)) c.rows.machine.modules after.modules) same c.cycle-row.ensures.modules)
    (subst (λ k. IsSent c.rows.going k c.rows.machine.rows c.rows.machine.modules c.rows.before first (g.S.Sink.written c.rows.sink) c.rows.out faults (g.S.Sink.faults c.rows.sink)) same (c.rows.invariant.sent first faults begun))
