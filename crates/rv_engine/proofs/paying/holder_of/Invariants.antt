use Rattle.std.proofs.Common.{◌≡◌, drop}
use Rattle.rv_holds.specs.Tokens.{or_else}
use Rattle.rv_engine.specs.Owing.{holder}
use Rattle.rv_engine.proofs.paying.holder_of.Given as goal

abbrev pub invariant-loop-one : goal.invariant-loop-one
invariant-loop-one l = holder l.number l.owed ≡ or_else (holder l.number (drop l.one-index l.owed)) l.found
