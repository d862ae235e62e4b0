use Rattle.rv_unit.proofs.survey.survey_of.Goals as goal

pub loop-entry-init : goal.loop-entry-init
loop-entry-init c = c.nothing-found.ensures c.args.lasts.now
