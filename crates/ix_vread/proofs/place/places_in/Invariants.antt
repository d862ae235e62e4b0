use Rattle.std.proofs.Common.{◌≡◌, take, map, filter}
use Rattle.ix_verilog.specs.declared.token.Token.{Token}
use Rattle.ix_vread.specs.Told.{begins_drive}
use Rattle.ix_vread.proofs.place.places_in.Given as goal

abbrev pub invariant-loop-token : goal.invariant-loop-token
invariant-loop-token l = l.places.items ≡ map (λ (t : Token). t.place) (filter begins_drive (take l.token-index l.tokens))
