use Rattle.std.proofs.Common.{false}
use Rattle.ix_graph.specs.declared.graph.Mode.TheVariants.{InPipeline, Tight}
use Rattle.ix_sheet.specs.Behaviours.{problem_of}
use Rattle.ix_sheet.specs.Schedules.{HasSchedule}
use Rattle.ix_modes.specs.Modes.{FitsWidest, HasNoneIn, IsRefusal}
use Rattle.ix_modes.proofs.Choosing.{fits_tight, none_tight}
use Rattle.std.proofs.lemmas.Result.{IfOk-weaker, IfErr-weaker}
use Rattle.ix_modes.proofs.Widening.{schedule_widens}
use Rattle.ix_modes.proofs.scheduled.in_order.Goals as goal

pub returns-in-Err-NoSchedule-clause-widest : goal.returns-in-Err-NoSchedule-clause-widest
returns-in-Err-NoSchedule-clause-widest c =
    let g = c.args.graph.now in
    let sheet = c.args.sheet.now in
    IfOk-weaker c.in_mode-in-Err-NoSchedule.result (λ _. HasSchedule (problem_of g sheet Tight)) (λ _. FitsWidest g sheet false) (λ _ h. fits_tight g sheet c.requires.native h)
    c.in_mode-in-Err-NoSchedule.ensures.exists

pub returns-in-Err-NoSchedule-clause-refused : goal.returns-in-Err-NoSchedule-clause-refused
returns-in-Err-NoSchedule-clause-refused c =
    let g = c.args.graph.now in
    let sheet = c.args.sheet.now in
    IfErr-weaker c.in_mode-in-Err-NoSchedule.result (HasNoneIn g sheet Tight) (IsRefusal g sheet false) (none_tight g sheet c.requires.native)
    c.in_mode-in-Err-NoSchedule.ensures.refused

pub returns-in_default-2-clause-widest : goal.returns-in_default-2-clause-widest
returns-in_default-2-clause-widest c =
    let g = c.args.graph.now in
    let sheet = c.args.sheet.now in
    IfOk-weaker c.in_mode.result (λ _. HasSchedule (problem_of g sheet InPipeline)) (λ _. FitsWidest g sheet false)
    (λ _ h. fits_tight g sheet c.requires.native (schedule_widens g sheet c.requires.sheet h)) c.in_mode.ensures.exists
