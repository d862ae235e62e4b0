use Rattle.std.proofs.Common.{◌∙◌, ap, ◌++◌, ◌∷◌, []}
use Rattle.ix_extension.specs.Extensions.{view_extension}
use Rattle.ix_schedules.specs.Scheduling.{behaviours_of}
use Rattle.ix_schedules.specs.ScheduleText.{too_many_line}
use Rattle.ix_schedules.proofs.Telling.{large_told, without_told, first_sound}
use Rattle.ix_schedules.proofs.text.refusal_text.Goals as goal

pub refuse_block-requires-clause-sound : goal.refuse_block-requires-clause-sound
refuse_block-requires-clause-sound c =
    let x = view_extension c.args.ext.now in
    first_sound x c.args.sheet.now c.in-NoSchedule.block (behaviours_of x) (rw c.in-NoSchedule.is at c.requires.refused)

pub returns-in-Ok : goal.returns-in-Ok
returns-in-Ok c =
    large_told (view_extension c.args.ext.now) c.args.sheet.now c.in-TooManyOps.name c.in-Ok.line (rw c.in-TooManyOps.is at c.requires.refused) (c.in-Ok.ensures ∙ ap (λ n. too_many_line n ++ 10 ∷ []) c.as_str.ensures.text)

pub returns-in-Ok-refuse_block : goal.returns-in-Ok-refuse_block
returns-in-Ok-refuse_block c =
    without_told (view_extension c.args.ext.now) c.args.sheet.now c.in-NoSchedule.block c.in-Ok-refuse_block.text (rw c.in-NoSchedule.is at c.requires.refused) c.in-Ok-refuse_block.ensures.text c.in-Ok-refuse_block.ensures.faultless
