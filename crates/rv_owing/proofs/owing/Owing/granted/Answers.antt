use Rattle.std.proofs.Common.{◌≡◌, ◌∙◌, sym, ap, List, Some}
use Rattle.ix_plan.specs.Units.{Slots, unit_written}
use Rattle.rv_unit.specs.Entries.{writer}
use Rattle.rv_lawful.specs.LawfulTrace.{serial_in}
use Rattle.rv_owing.specs.Kept.{oldest_in}
use Rattle.rv_owing.proofs.Finishing.{writer_oldest, granted_some}
use Rattle.rv_owing.proofs.owing.Owing.granted.Goals as goal

pub returns-in-Some-clause-serial : goal.returns-in-Some-clause-serial
returns-in-Some-clause-serial c k rows is =
    let v = c.args.self.now.units in
    let writes : writer v.lasts v.entries ≡ Some c.in-Some.unit = sym c.granted.ensures.unit ∙ c.in-Some.is in
    c.oldest_in.ensures ∙ ap (λ l. oldest_in c.in-Some.unit l) c.entries-entries.ensures.entries
    ∙ writer_oldest v.stages v.lasts c.in-Some.unit v.entries c.entries-entries.ensures.timed writes
    ∙ sym (granted_some v.stages v.lasts v.entries c.in-Some.unit c.entries-entries.ensures.units c.entries-entries.ensures.timed writes)
    ∙ ap (λ (l : List Slots). serial_in (unit_written l)) is.units
