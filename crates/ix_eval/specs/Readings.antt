-- Reads of memory by the code, and the first of some.
use Rattle.std.specs.Prelude.{List, [], ◌∷◌, Option, Some, None}
use Rattle.ix_mean.specs.Meaning.{Access}
use Rattle.ix_mean.specs.View.{seen}
use Rattle.ix_eval.specs.declared.reading.Reading.{Reading}

abbrev pub reading_seen : Reading → Access
reading_seen r = record { ty = r.ty; at = seen r.at }

abbrev pub first_of : List Access → Option Access
first_of [] = None
first_of (a ∷ as') = Some a

abbrev pub either : Option Access → Option Access → Option Access
either (Some a) o = Some a
either None o = o
