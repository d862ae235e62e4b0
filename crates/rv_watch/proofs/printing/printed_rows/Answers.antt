use Rattle.rv_watch.proofs.Fitting.{ranges_of, course_own}
use Rattle.rv_watch.proofs.Whole.{whole}
use Rattle.rv_watch.proofs.printing.printed_rows.Goals as goal

pub returns : goal.returns
returns c d image waits rows stands given law recorded fits =
    let ranges = ranges_of c.behaviour_laws.ensures.few c.graph_laws.ensures.valid d image waits stands given (c.sight_laws.ensures.units d stands) (c.sight_laws.ensures.tails d stands) in
    whole d image waits given ranges (course_own d image waits) c.texts_shown.ensures stands.well_formed.0 stands.well_formed.1 rows law recorded fits
