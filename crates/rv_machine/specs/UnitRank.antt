-- For how many rows what stands in units may still hold the stages back (this project's choice).
use Rattle.std.specs.Prelude.{ℕ, ◌+◌, ◌-◌, List, [], ◌∷◌, length, max}
use Rattle.rv_unit.specs.declared.entry.Entry.{Entry}
use Rattle.rv_unit.specs.Entries.{last_time}

-- the rows that an entry needs to come to the last time of its unit
abbrev pub left_in : List ℕ → Entry → ℕ
left_in lasts e = last_time lasts e.unit - e.time

-- the greatest of these, 0 where there is no entry
abbrev pub greatest_left : List ℕ → List Entry → ℕ
greatest_left lasts [] = 0
greatest_left lasts (e ∷ entries) = max (left_in lasts e) (greatest_left lasts entries)

-- with the rows in which they leave, one by one
abbrev pub unit_rank : List ℕ → List Entry → ℕ
unit_rank lasts entries = greatest_left lasts entries + length entries
