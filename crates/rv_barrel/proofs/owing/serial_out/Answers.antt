use Rattle.std.proofs.Common.{◌∙◌, sym, ap}
use Rattle.std.specs.Prelude.{List}
use Rattle.rv_lawful.specs.LawfulTrace.{serial_in}
use Rattle.rv_unit.specs.declared.entry.Entry.{Entry}
use Rattle.rv_barrel.specs.Owing.{oldest_of}
use Rattle.rv_barrel.proofs.Oldest.{oldest_written}
use Rattle.rv_barrel.proofs.owing.serial_out.Goals as goal

pub returns-in-Some-clause-serial : goal.returns-in-Some-clause-serial
returns-in-Some-clause-serial c =
    let units = c.args.units.now in
    c.oldest_in.ensures
    ∙ ap (λ (l : List Entry). oldest_of c.in-Some.unit l) c.entries-entries.ensures.entries
    ∙ oldest_written units.stages units.lasts c.in-Some.unit units.entries (sym c.granted.ensures.unit ∙ c.in-Some.is) c.entries-entries.ensures.timed
    ∙ sym (ap serial_in (c.unit_laws.ensures.written units.stages units.lasts units.entries c.entries-entries.ensures.units c.entries-entries.ensures.timed))
