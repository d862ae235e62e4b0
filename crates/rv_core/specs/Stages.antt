-- The stages of an in-order core (this project's choice).
use Rattle.std.specs.Prelude.{◌≡◌, ℕ, ◌+◌, ◌%◌, ◌<◌, ◌≤◌}
use Rattle.std.proofs.Common.{lit<, lit≤, refl}

-- what the numbers of a core obey: operands are read behind stage 0, execute is there or one stage later,
-- memory comes after execute, and the handler of interrupts begins at a word
pub record IsLawful (stages rd ex mem trap : ℕ) : Type 0 where
  pub reads_late : 0 < rd
  pub reads_first : rd ≤ ex
  pub reads_near : ex ≤ rd + 1
  pub memory_late : ex < mem
  pub memory_inside : mem + 1 ≤ stages
  pub least : 3 ≤ stages
  pub most : stages ≤ 5
  pub trap_word : trap % 4 ≡ 0

-- the numbers of the cores that a datasheet can name are lawful
pub three_lawful : IsLawful 3 1 1 2 16
three_lawful = record { reads_late = lit< tt; reads_first = lit≤ tt; reads_near = lit≤ tt; memory_late = lit< tt; memory_inside = lit≤ tt; least = lit≤ tt; most = lit≤ tt; trap_word = refl }

pub four_lawful : IsLawful 4 1 2 3 16
four_lawful = record { reads_late = lit< tt; reads_first = lit≤ tt; reads_near = lit≤ tt; memory_late = lit< tt; memory_inside = lit≤ tt; least = lit≤ tt; most = lit≤ tt; trap_word = refl }

pub five_lawful : IsLawful 5 1 2 3 16
five_lawful = record { reads_late = lit< tt; reads_first = lit≤ tt; reads_near = lit≤ tt; memory_late = lit< tt; memory_inside = lit≤ tt; least = lit≤ tt; most = lit≤ tt; trap_word = refl }

-- so are those of a core that reads operands one stage later
pub late_lawful : IsLawful 5 2 3 4 64
late_lawful = record { reads_late = lit< tt; reads_first = lit≤ tt; reads_near = lit≤ tt; memory_late = lit< tt; memory_inside = lit≤ tt; least = lit≤ tt; most = lit≤ tt; trap_word = refl }
