-- The answer that is due where a behaviour is refused first (this project's choice).
use Rattle.std.specs.Prelude.{◌≡◌, Result, Ok, Err}
use Rattle.ix_plan.specs.declared.design.Design.{Design}
use Rattle.ix_schedules.specs.declared.scheduling.ScheduleErr.{ScheduleErr}
use Rattle.ix_schedules.specs.declared.scheduling.ScheduleErr.TheVariants.{TooManyOps, NoSchedule, Memory}

-- they refuse one behaviour for one cause; of one without a schedule the operations and the problem are the same, and the cycles may differ
abbrev pub IsSameRefusal : ScheduleErr → ScheduleErr → Type 0
IsSameRefusal (TooManyOps m) (TooManyOps n) = m ≡ n
IsSameRefusal (NoSchedule b) (NoSchedule c) = (b.name ≡ c.name) × (b.kinds ≡ c.kinds) × (b.problem ≡ c.problem)
IsSameRefusal e Memory = Unit {0}
IsSameRefusal e f = ⊥

-- this refusal is answered, or that memory was not found; want of memory is never due
abbrev pub IsAnswerTo : ScheduleErr → Result Design ScheduleErr → Type 0
IsAnswerTo Memory r = Unit {0}
IsAnswerTo e (Ok d) = ⊥
IsAnswerTo e (Err f) = IsSameRefusal e f
