use Rattle.rv_watch.specs.Watched.{setting_of}
use Rattle.rv_watch.proofs.knowing.ready.Goals as goal

pub returns : goal.returns
returns c = λ a rows watched. record { granted = c.granted.ensures.serial (setting_of a) rows watched.owing; fetch = watched.kept.fetch; next = watched.kept.next }
