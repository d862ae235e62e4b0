-- Runs of a net, cycle by cycle (IEEE 1364-2005, 9.2.2: registers take the values from before the edge; that they start at 0
-- is this project's choice).
use Rattle.std.specs.Prelude.{ℕ, List, [], ◌∷◌, map, length, replicate, slice_index_or, ◌≡◌, ◌==◌, if◌then◌else◌}
use Rattle.ix_net.specs.declared.netlist.Net.{Net}
use Rattle.ix_net.specs.declared.netlist.Bank.{Bank}
use Rattle.ix_net.specs.Valuation.{IsValuation, value_of, banks_of}

-- a bank after a cycle: its source where its enable is 1, else what it was
abbrev pub next_bank : Net → List ℕ → Bank → ℕ
next_bank net values b = if value_of net values b.enable == 1 then value_of net values b.source else value_of net values b.target

-- the banks after a cycle with these values
abbrev pub next_banks : Net → List ℕ → List ℕ
next_banks net values = map (next_bank net values) net.banks

-- each cycle is a valuation, the first with these banks, each later one with those that the cycle before leaves
abbrev pub IsRunFrom : Net → List ℕ → List (List ℕ) → Type 0
IsRunFrom net banks [] = Unit {0}
IsRunFrom net banks (values ∷ rest) = IsValuation net values × (banks_of net values ≡ banks) × IsRunFrom net (next_banks net values) rest

-- banks are 0 at first
abbrev pub first_banks : Net → List ℕ
first_banks net = replicate (length net.banks) 0

-- a run of a net
abbrev pub IsRun : Net → List (List ℕ) → Type 0
IsRun net cycles = IsRunFrom net (first_banks net) cycles

-- the values of a cycle, none past the last
abbrev pub cycle_at : List (List ℕ) → ℕ → List ℕ
cycle_at cycles k = slice_index_or cycles k []
