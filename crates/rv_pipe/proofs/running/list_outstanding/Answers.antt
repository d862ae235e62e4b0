use Rattle.std.proofs.Common.{sym, ap, rules}
use Rattle.std.specs.Result.{is_ok}
use Rattle.rv_machine.specs.Owing.{targets_owed}
use Rattle.rv_pipe.proofs.Nths.{taken_next, taken_all}
use Rattle.rv_pipe.proofs.running.list_outstanding.Goals as goal

pub returns-in-None-clause-list : goal.returns-in-None-clause-list
returns-in-None-clause-list c =
    taken_all (targets_owed c.args.pipeline.now.machine.owed) c.targets.list.items c.targets.k c.targets.invariant.list (sym c.in-None.ensures) c.targets-test.true

pub targets-preserved : goal.targets-preserved
targets-preserved c =
    record {
      list = taken_next (targets_owed c.args.pipeline.now.machine.owed) c.targets.list.items c.push.new.self.items c.targets.k c.in-Some.one (is_ok c.push.result) (ap (λ r. is_ok r) c.unwrap.ensures) c.push.ensures.items c.targets.invariant.list (sym c.in-Some.ensures);
      few = search rules;
      room = search rules;
    }
