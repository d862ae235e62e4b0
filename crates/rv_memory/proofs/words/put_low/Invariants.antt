use Rattle.std.proofs.Common.{◌≡◌, ◌-◌, ◌++◌, take, length}
use Rattle.rv_memory.specs.Bytes.{low_bytes}
use Rattle.rv_memory.proofs.words.put_low.Given as goal

abbrev pub invariant-loop-place : goal.invariant-loop-place
invariant-loop-place l = record {
  done : take l.place l.bytes ++ low_bytes (length l.fn.bytes - l.place) l.rest ≡ low_bytes (length l.fn.bytes) l.fn.n;
  long : length l.bytes ≡ length l.fn.bytes;
}
