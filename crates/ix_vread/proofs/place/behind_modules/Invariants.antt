use Rattle.std.proofs.Common.{◌≡◌, length, take, drop}
use Rattle.ix_vnets.specs.Drives.{drives}
use Rattle.ix_vread.proofs.place.behind_modules.Given as goal

abbrev pub invariant-loop-source : goal.invariant-loop-source
invariant-loop-source l = l.rest ≡ drop (length (drives (take l.source-index l.modules))) l.places
