-- A text that goes to a sink through a buffer (this project's choice).
use Rattle.std.specs.Prelude.{◌≡◌, ℕ, List, ◌++◌, Option}
use Rattle.ix_io.specs.Sink.{Appends}

-- the text went behind what waited in the buffer: some of the bytes were sent, and the others wait now
pub record Passes (before now : Option (List ℕ)) (waited waits text : List ℕ) : Type 0 where
  pub sent : List ℕ
  pub appends : Appends before now sent
  pub parts : sent ++ waits ≡ waited ++ text
