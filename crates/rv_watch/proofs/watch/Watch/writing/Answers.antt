use Rattle.rv_watch.specs.Watched.{setting_of, tree_of}
use Rattle.rv_watch.proofs.Steps.{step_is}
use Rattle.rv_watch.proofs.Gone.{gone_place}
use Rattle.rv_watch.proofs.Writing.{writing_is}
use Rattle.rv_watch.proofs.watch.Watch.writing.Goals as goal

pub returns : goal.returns
returns c = λ a rows fits watched.
    let k = setting_of a in
    let fit = c.settings_fit.ensures a.design.now a.image.now a.waits.now fits.stands in
    let owing = c.owing_facts.ensures.owing k rows fit.plain fit.units fit.words watched.lawful watched.recorded in
    let granted = c.owing_facts.ensures.granted k rows fit.plain fit.units fit.words watched.lawful watched.recorded in
    writing_is k rows c.args.self.now.steps.steps c.due-due.result c.due_step.result
    (λ p one lt e. step_is (tree_of a) a.image.now c.args.self.now.steps watched.steps p one lt e) watched.many
    (gone_place c.gone_facts.ensures k fit.plain fit.words rows watched.lawful) owing
    (c.owing_facts.ensures.placed k rows fit.plain fit.units fit.words watched.lawful watched.recorded)
    (c.due-due.ensures k rows watched.owing owing granted) c.due_step.ensures
