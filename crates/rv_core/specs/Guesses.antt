-- What a core guesses as the address of the next fetch (this project's choice).
use Rattle.std.specs.Prelude.{ℕ, ◌+◌, ◌%◌, ◌^◌, Bool, true, false, Option, Some, None}

-- the next word's address
abbrev pub next_word : ℕ → ℕ
next_word at = (at + 4) % 2 ^ 32

-- the PC write of a block, where blocks are asked and one jumps, else the next word's address
abbrev pub guess_of : Bool → Option ℕ → ℕ → ℕ
guess_of true (Some target) at = target
guess_of true None at = next_word at
guess_of false block at = next_word at
