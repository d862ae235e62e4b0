-- Where the memory lies, and what is read of it and stored in it (this project's choice of place and size).
use Rattle.std.specs.Prelude.{ℕ, ◌+◌, ◌-◌, ◌*◌, ◌^◌, ◌≤◌, List, ◌++◌, take, drop, Bool, ◌&&◌, nat_le}
use Rattle.rv_memory.specs.Bytes.{number, low_bytes}

-- the address of its first byte: 80000000 in hexadecimal digits
abbrev pub base : ℕ
base = 2 ^ 31

-- how many bytes it has
abbrev pub size : ℕ
size = 2 ^ 20

-- so many bytes from the address on lie in the memory
abbrev pub is_inside : ℕ → ℕ → Bool
is_inside at count = nat_le base at && nat_le (at + count) (base + size)

-- the number of so many bytes from the address on, the lowest first
abbrev pub read : List ℕ → ℕ → ℕ → ℕ
read bytes at count = number (take count (drop (at - base) bytes))

-- the memory with the low bytes of a number from the address on
abbrev pub written : List ℕ → ℕ → ℕ → ℕ → List ℕ
written bytes at count n = take (at - base) bytes ++ low_bytes count n ++ drop (at - base + count) bytes
