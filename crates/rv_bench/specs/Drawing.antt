-- The numbers that a program is drawn from (this project's choice: a linear congruential generator, whose low bits are left out).
use Rattle.std.specs.Prelude.{ℕ, zero, suc, ◌+◌, ◌*◌, ◌/◌, ◌%◌, ◌^◌}
use Rattle.rv_bench.specs.declared.draws.Draws.{Draws}

-- the state behind this one
abbrev pub next : ℕ → ℕ
next s = (1664525 * s + 1013904223) % 2 ^ 32

-- the state after so many draws from this one
unfoldable pub state_after : ℕ → ℕ → ℕ
state_after s zero = s
state_after s (suc count) = next (state_after s count)

-- what a draw gives is the state behind it without its low 8 bits
abbrev pub given : ℕ → ℕ
given s = s / 256

-- what the first five draws from this state give
abbrev pub draws_from : ℕ → Draws
draws_from s =
    record {
      choice = given (next s);
      destination = given (next (next s));
      first = given (next (next (next s)));
      second = given (next (next (next (next s))));
      value = given (next (next (next (next (next s)))));
    }

-- the five draws of the word of this place, from 0, where the first draw of all is from the state `number`
abbrev pub draws_of : ℕ → ℕ → Draws
draws_of number place = draws_from (state_after number (5 * place))
