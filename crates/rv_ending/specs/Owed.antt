-- The lines of what is outstanding (this project's choice).
use Rattle.std.specs.Prelude.{ℕ, zero, suc, ◌≤◌, length, List, [], ◌∷◌, ◌++◌, map, get_or, Option, Some, None, false, if◌then◌else◌}
use Rattle.ix_plan.specs.declared.design.Target.{Target}
use Rattle.ix_plan.specs.declared.design.Target.TheVariants.{X, Custom}
use Rattle.rv_text.specs.RunText.{outstanding_line}
use Rattle.rv_lawful.specs.Outstanding.{targets_of}
use Rattle.rv_rows.specs.declared.known.Owed.{Owed}

-- the outstanding targets of an instruction, with its serial
abbrev pub owed_pairs : Owed → List (ℕ × Target)
owed_pairs o = map (λ t. (o.serial, t)) (targets_of o.asks)

abbrev pub x_part : ℕ → Option ℕ → List ℕ
x_part serial None = []
x_part serial (Some r) = outstanding_line (serial, X r)

abbrev pub custom_part : Owed → ℕ → List ℕ
custom_part o c = if get_or o.asks.spawned_customs c false then outstanding_line (o.serial, Custom c) else []

-- those of so many custom registers from this one on
abbrev pub customs_from : Owed → ℕ → ℕ → List ℕ
customs_from o c zero = []
customs_from o c (suc n) = custom_part o c ++ customs_from o (suc c) n

-- the lines of its outstanding targets
abbrev pub owed_lines : Owed → List ℕ
owed_lines o = x_part o.serial o.asks.spawned ++ customs_from o 0 16

-- there are at most sixteen custom registers
abbrev pub HasSixteen : Owed → Type 0
HasSixteen o = length o.asks.spawned_customs ≤ 16

abbrev pub AreSixteen : List Owed → Type 0
AreSixteen [] = Unit {0}
AreSixteen (o ∷ owed) = HasSixteen o × AreSixteen owed
