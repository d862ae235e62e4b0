use Rattle.std.proofs.Common.{◌≡◌, ◌<◌, ℕ, length, get_or, false}
use Rattle.rv_unit.specs.Entries.{is_frozen}
use Rattle.rv_engine.proofs.showing.frozen_in.Given as goal

abbrev pub invariant-loop-unit : goal.invariant-loop-unit
invariant-loop-unit l = record {
  long : length l.all ≡ 64;
  done : (u : ℕ) → u < l.unit → get_or l.all u false ≡ is_frozen l.owing.lasts l.owing.entries u;
}
