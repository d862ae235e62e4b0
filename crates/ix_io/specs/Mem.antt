-- What a shelf and a sink over memory tell (this project's choice).
use Rattle.std.specs.Prelude.{ℕ, List}
use Rattle.ix_io.specs.Shelf.{NamedFiles}
use Rattle.ix_io.specs.declared.calls.Calls.{Calls}

-- the files of a shelf, and its calls
pub record Shelved : Type 0 where
  pub files : NamedFiles
  pub calls : Calls

-- the bytes that a sink took, and its calls
pub record Taken : Type 0 where
  pub written : List ℕ
  pub calls : Calls
