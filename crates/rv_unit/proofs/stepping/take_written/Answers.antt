use Rattle.std.proofs.Common.{◌≡◌, ◌∙◌, sym, ap, subst, None}
use Rattle.rv_unit.specs.Entries.{written_entry, unit_and_serial}
use Rattle.rv_unit.specs.Surveys.{IsWrittenAt}
use Rattle.rv_unit.proofs.Finishing.{nothing_written}
use Rattle.rv_unit.proofs.Cycling.{none_stays, stays_without}
use Rattle.rv_unit.proofs.stepping.take_written.Goals as goal

pub returns-in-None-clause-written : goal.returns-in-None-clause-written
returns-in-None-clause-written c =
    let lasts = c.args.lasts.now in
    let all = c.args.entries.now.items in
    sym (ap unit_and_serial (nothing_written lasts all all (sym c.requires.granted ∙ c.in-None.is)))

pub returns-in-None-clause-entries : goal.returns-in-None-clause-entries
returns-in-None-clause-entries c = λ stages t.
    let lasts = c.args.lasts.now in
    let all = c.args.entries.now.items in
    sym (none_stays lasts all all (nothing_written lasts all all (sym c.requires.granted ∙ c.in-None.is)))

pub returns-in-None-written_place-clause-entries : goal.returns-in-None-written_place-clause-entries
returns-in-None-written_place-clause-entries c = λ stages t.
    let lasts = c.args.lasts.now in
    let all = c.args.entries.now.items in
    let none : written_entry lasts all ≡ None = subst (λ l. written_entry lasts l ≡ None) c.as_slice.ensures.value c.in-None-written_place.ensures in
    sym (none_stays lasts all all none)

pub returns-in-Some-written_place-clause-entries : goal.returns-in-Some-written_place-clause-entries
returns-in-Some-written_place-clause-entries c = λ stages t.
    let lasts = c.args.lasts.now in
    let all = c.args.entries.now.items in
    let at : IsWrittenAt lasts all c.in-Some-written_place.at = subst (λ l. IsWrittenAt lasts l c.in-Some-written_place.at) c.as_slice.ensures.value c.in-Some-written_place.ensures in
    c.remove-entry.ensures.by_index.2 ∙ sym (stays_without stages lasts all c.in-Some-written_place.at c.remove-entry.result t at)
