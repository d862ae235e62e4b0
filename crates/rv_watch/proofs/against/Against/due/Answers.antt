use Rattle.std.proofs.Common.{◌∙◌, ap}
use Rattle.rv_watch.specs.Watched.{setting_of, tree_of, asks_by}
use Rattle.rv_watch.proofs.Steps.{step_is}
use Rattle.rv_watch.proofs.against.Against.due.Goals as goal

pub returns-clause-due : goal.returns-clause-due
returns-clause-due c = λ asking are lt. record {
  step = step_is (tree_of c.args.self.now) c.args.self.now.image.now c.args.steps.now are c.args.place c.step_at-step.result lt (c.step_at-step.ensures.step lt);
  asks = λ d e. c.asks_in-asks.ensures asking ∙ ap (λ y. asks_by (setting_of c.args.self.now) y) e;
}
