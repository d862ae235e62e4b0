use Rattle.ix_behaviour.proofs.Extensions.{accesses_law, stored_type_law, tables_law, widths_law}
use Rattle.ix_behaviour.proofs.laws.access_laws.Goals as goal

pub returns-clause-accesses : goal.returns-clause-accesses
returns-clause-accesses c = accesses_law c.form_laws.ensures.texts

pub returns-clause-stored : goal.returns-clause-stored
returns-clause-stored c = stored_type_law c.form_laws.ensures.texts

pub returns-clause-tables : goal.returns-clause-tables
returns-clause-tables c = tables_law c.form_laws.ensures.texts

pub returns-clause-widths : goal.returns-clause-widths
returns-clause-widths c = widths_law
