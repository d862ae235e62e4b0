-- The numbers of a core of a user (this project's choice).
use Rattle.std.proofs.Common.{lit<, lit≤, refl}
use Rattle.rv_core.specs.Stages.{IsLawful}

pub early_lawful : IsLawful 4 1 1 2 16
early_lawful = record { reads_late = lit< tt; reads_first = lit≤ tt; reads_near = lit≤ tt; memory_late = lit< tt; memory_inside = lit≤ tt; least = lit≤ tt; most = lit≤ tt; trap_word = refl }
