-- Bytes of memory from an address on: a byte, a half or a word (RISC-V Unprivileged ISA, Load and Store Instructions).
use Rattle.std.specs.Prelude.{ℕ, if◌then◌else◌, nat_eq}
use Rattle.std.proofs.Common.{lit≤, lit<, refl}
use Rattle.ix_eval.specs.declared.access.Access.{Access}

abbrev pub byte_at : ℕ → Access
byte_at at = record { at = at; bytes = 1; some = lit< tt; few = lit≤ tt; divides_four = refl }

abbrev pub half_at : ℕ → Access
half_at at = record { at = at; bytes = 2; some = lit< tt; few = lit≤ tt; divides_four = refl }

abbrev pub word_at : ℕ → Access
word_at at = record { at = at; bytes = 4; some = lit< tt; few = lit≤ tt; divides_four = refl }

-- so many bytes: 1, 2, or else 4; an access of a behaviour has 1, 2 or 4
abbrev pub sized : ℕ → ℕ → Access
sized bytes at = if nat_eq bytes 1 then byte_at at else if nat_eq bytes 2 then half_at at else word_at at
