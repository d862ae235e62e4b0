-- What lies at an address, of so many bytes.
use Rattle.std.specs.Prelude.{ℕ, List, ◌&&◌, if◌then◌else◌, nat_le}
use Rattle.rv_memory.specs.Room.{is_inside, read}

-- 0 where the bytes do not lie in the memory: an instruction that reads there stops, so that nothing is made of it
abbrev pub peeked : List ℕ → ℕ → ℕ → ℕ
peeked memory at count = if nat_le count 4 && is_inside at count then read memory at count else 0
