use Rattle.rv_watch.proofs.Audited.{sound, complete}
use Rattle.rv_watch.proofs.laws.audit_laws.Goals as goal

pub returns : goal.returns
returns c = record {
  sound = sound c.settings_fit.ensures c.kinds_are_lawful.ensures c.texts_shown.ensures;
  complete = complete c.settings_fit.ensures c.kinds_are_lawful.ensures c.printed_rows.ensures;
}
