use Rattle.std.proofs.Common.{◌∙◌, ◌<◌, sym, ap, length, rules, arith}
use Rattle.std.specs.Result.{is_ok}
use Rattle.std.proofs.lemmas.List.{take_all}
use Rattle.rv_harts.specs.BarrelLaws.{image_of}
use Rattle.rv_harts.specs.BarrelRows.{hart_setting}
use Rattle.rv_harts.specs.HartStates.{outstanding_targets}
use Rattle.rv_pipe.proofs.Nths.{taken_next, taken_all}
use Rattle.ix_tool.proofs.turning.list_outstanding.Goals as goal

pub targets-preserved : goal.targets-preserved
targets-preserved c =
    let all = outstanding_targets (hart_setting c.args.barrel.now.design (image_of c.args.barrel.now.first c.args.barrel.now.second c.args.hart)) c.args.hart c.args.barrel.now.made in
    record {
      list = taken_next all c.targets.list.items c.push.new.self.items c.targets.k c.in-Some.one (is_ok c.push.result) (ap (λ r. is_ok r) c.unwrap.ensures) c.push.ensures.items c.targets.invariant.list (sym c.in-Some.ensures.target);
      few = search rules;
      room = search rules;
      most = λ _. c.in-Some.ensures.few;
    }

pub returns-in-None-clause-list : goal.returns-in-None-clause-list
returns-in-None-clause-list c =
    let all = outstanding_targets (hart_setting c.args.barrel.now.design (image_of c.args.barrel.now.first c.args.barrel.now.second c.args.hart)) c.args.hart c.args.barrel.now.made in
    let few : length all < 49 = omega (arith, c.in-None.ensures.few) in
    taken_all all c.targets.list.items c.targets.k c.targets.invariant.list (sym c.in-None.ensures.target) c.targets-test.true ∙ take_all 48 all c.in-None.ensures.few
