use Rattle.std.proofs.Common.{◌≡◌, ◌<◌, ℕ, length, None, slice_index_or}
use Rattle.rv_unit.specs.Numbering.{unit_of}
use Rattle.rv_asks.proofs.asking.units_of.Given as goal

-- the units so far
abbrev pub invariant-loop-number : goal.invariant-loop-number
invariant-loop-number l = (length l.units ≡ l.number) × ((n : ℕ) → n < l.number → slice_index_or l.units n None ≡ unit_of l.plans n)
