-- Limits of files and outputs (this project's choice).
use Rattle.std.specs.Prelude.{ℕ}

-- the greatest length of a file, in bytes, and the room of an output in memory
abbrev pub most_bytes : ℕ
most_bytes = 1048576
