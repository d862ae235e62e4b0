-- What a shelf tells of its files, and what a read of a part places (this project's choice).
use Rattle.std.specs.Prelude.{◌≡◌, ℕ, ◌≤◌, List, [], length, take, drop, Option, None, Some, IfSome, unwrap_or}
use Rattle.std.specs.Map.{lookup}
use Rattle.std.specs.Str.{bytes_eq}

-- the files that a shelf tells: names and bytes
abbrev pub NamedFiles : Type 0
NamedFiles = List (List ℕ × List ℕ)

-- the file of that name, the first of several
abbrev pub file_named : NamedFiles → List ℕ → Option (List ℕ)
file_named files name = lookup (bytes_eq name) files

-- what is told of the bytes under a name: nothing where no files are told, and no bytes for a name that the files lack
abbrev pub told_file : Option NamedFiles → List ℕ → Option (List ℕ)
told_file None name = None
told_file (Some files) name = Some (unwrap_or (file_named files name) [])

-- n bytes stand at the front of the slice: those of the told file from that place on, and none only at its end
pub record Places (told : Option (List ℕ)) (from n : ℕ) (slice : List ℕ) : Type 0 where
  pub within : n ≤ length slice
  pub bytes : IfSome told (λ file. take n slice ≡ take n (drop from file))
  pub end : IfSome told (λ file. n ≡ 0 → length file ≤ from)
