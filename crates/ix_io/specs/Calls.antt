-- The calls of a shelf or a sink over memory, some of which are to fail (this project's choice).
use Rattle.std.specs.Prelude.{ℕ, ◌+◌, ◌-◌, ◌^◌, List, min}
use Rattle.ix_io.specs.declared.calls.Calls.{Calls}

-- the next number, where 2^64 - 1 is the last
abbrev pub next_number : ℕ → ℕ
next_number number = min (number + 1) (2 ^ 64 - 1)

-- before the first call
abbrev pub first_call : List ℕ → ℕ → Calls
first_call fail most = record { fail = fail; most = most; next = 0; faults = 0 }

-- after a call that did not fail
abbrev pub after_call : Calls → Calls
after_call calls = record calls { next = next_number calls.next }

-- after a call that failed
abbrev pub after_fault : Calls → Calls
after_fault calls = record calls { next = next_number calls.next; faults = next_number calls.faults }
