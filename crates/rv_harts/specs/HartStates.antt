-- The state of a hart, and what is outstanding (this project's choice).
use Rattle.std.specs.Prelude.{ℕ, zero, suc, List, [], ◌∷◌, flat_map, is_some, if◌then◌else◌}
use Rattle.ix_extension.specs.Extensions.{ExtensionTree}
use Rattle.ix_plan.specs.declared.design.Target.{Target}
use Rattle.rv_lawful.specs.Outstanding.{owed_targets, after_retired, after_written, after_spawned}
use Rattle.rv_lawful.specs.Settings.{Setting}
use Rattle.rv_seq.specs.declared.arch.Arch.{Arch}
use Rattle.rv_seq.specs.Runs.{start}
use Rattle.rv_harts.specs.declared.row.HartPart.{HartPart}
use Rattle.rv_harts.specs.Harts.{Fetched}
use Rattle.rv_harts.specs.HartRows.{hart_at, hart_row}

-- what happens to hart h in row n
abbrev pub part_at : Setting → ℕ → ℕ → HartPart
part_at k h n = (hart_row k h n).part

-- how many instructions of hart h retire in the rows before row n
unfoldable pub retirements : Setting → ℕ → ℕ → ℕ
retirements k h zero = 0
retirements k h (suc n) = if is_some (part_at k h n).retired then suc (retirements k h n) else retirements k h n

-- the architectural state of hart h before row n: that of the writes which its rows show, and of what the blocks write to the spawn targets of what is retired
unfoldable pub architecture : ExtensionTree → Setting → ℕ → ℕ → Arch
architecture x k h zero = start x k.entries
architecture x k h (suc n) = after_written (part_at k h n).written (after_retired x k (retirements k h n) (part_at k h n).retired (architecture x k h n))

-- the state behind the outstanding writes of these, the oldest first
abbrev pub after_owed : Setting → List Fetched → Arch → Arch
after_owed k [] s = s
after_owed k (c ∷ owed) s = after_owed k owed (after_spawned k c.place (k.course.answer c.place) s)

-- that state with its outstanding writes applied in the order of retirement
abbrev pub applied_state : ExtensionTree → Setting → ℕ → ℕ → Arch
applied_state x k h n = after_owed k (hart_at k h n).owed (architecture x k h n)

-- the outstanding targets before row n, each with its serial, in the order of retirement
abbrev pub outstanding_targets : Setting → ℕ → ℕ → List (ℕ × Target)
outstanding_targets k h n = flat_map (λ (c : Fetched). owed_targets k (c.serial, c.word)) (hart_at k h n).owed
