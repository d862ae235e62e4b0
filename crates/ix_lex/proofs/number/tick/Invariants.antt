use Rattle.std.proofs.Common.{◌≡◌, take, true}
use Rattle.std.specs.List.{list_all}
use Rattle.ix_lex.specs.Numbers.{not_tick}
use Rattle.ix_lex.proofs.number.tick.Given as goal

abbrev pub invariant-loop-i : goal.invariant-loop-i
invariant-loop-i l = list_all not_tick (take l.i l.text) ≡ true
