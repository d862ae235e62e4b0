use Rattle.std.proofs.Common.{◌≡◌, drop}
use Rattle.std.specs.Option.{option_or}
use Rattle.rv_owing.specs.Kept.{oldest_in}
use Rattle.rv_owing.proofs.listed.oldest_in.Given as goal

abbrev pub invariant-loop-entry : goal.invariant-loop-entry
invariant-loop-entry l = oldest_in l.unit l.entries ≡ option_or (oldest_in l.unit (drop l.entry-index l.entries)) l.found
