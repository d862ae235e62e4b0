use Rattle.std.proofs.Common.{take}
use Rattle.rv_unit.specs.Surveys.{IsSurvey}
use Rattle.rv_unit.proofs.survey.survey_of.Given as goal

abbrev pub invariant-loop-entry : goal.invariant-loop-entry
invariant-loop-entry l = IsSurvey l.lasts (take l.entry-index l.entries) l.found
