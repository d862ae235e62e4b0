-- What a refusal says of a text.
use Rattle.std.specs.Prelude.{◌≡◌, ℕ, ◌+◌, List, [], length, take, filter, Bool, nat_eq, slice_get, Some}
use Rattle.std.specs.List.{AllZip}
use Rattle.ix_net.specs.declared.netlist.Net.{Net}
use Rattle.ix_verilog.specs.declared.source.Source.{Source}
use Rattle.ix_verilog.specs.declared.token.Token.{Token}
use Rattle.ix_verilog.specs.Subset.{IsWritten, LeavesAt}
use Rattle.ix_vnets.specs.Names.{AllOnce, FirstTwice, said}
use Rattle.ix_vnets.specs.Nets.{IsMadeOf}
use Rattle.ix_vnets.specs.Drives.{is_drive, DriveFits, drives, IsFirstNot}
use Rattle.ix_vread.specs.Loops.{FirstLoop}
use Rattle.ix_vread.specs.declared.error.VErr.{VErr}
use Rattle.ix_vread.specs.declared.error.VErr.TheVariants.{At, Width, Loop, Twice, Memory}

-- the line of a place, from 1
abbrev pub line_at : List ℕ → ℕ → ℕ
line_at text place = 1 + length (filter (λ b. nat_eq b 10) (take place text))

-- the token is a word with which a line of widths begins: there are as many of them as such lines
abbrev pub begins_drive : Token → Bool
begins_drive t = is_drive t.word

-- the text is of modules in which no name stands twice, and the first of its lines of widths that does not fit begins on this line
pub record HasMisfit (text : List ℕ) (line : ℕ) : Type 0 where
  pub modules : List Source
  pub written : IsWritten text modules
  pub once : AllOnce (said [] modules)
  pub number : ℕ
  pub misfit : IsFirstNot DriveFits (drives modules) number
  -- the word with which that line begins
  pub word : Token
  pub begins : slice_get (filter begins_drive written.tokens) number ≡ Some word
  pub is : line ≡ line_at text word.place

-- the text is of modules in which no name stands twice and all widths agree, and the name is the first that depends on itself
pub record HasLoop (text : List ℕ) (name : List ℕ) : Type 0 where
  pub modules : List Source
  pub written : IsWritten text modules
  pub once : AllOnce (said [] modules)
  pub nets : List Net
  pub made : AllZip IsMadeOf modules nets
  pub loop : FirstLoop nets name

-- what an error tells of the text is so
abbrev pub IsTold : List ℕ → VErr → Type 0
IsTold text (At byte) = LeavesAt text byte
IsTold text (Twice name) = (modules : List Source) × IsWritten text modules × FirstTwice (said [] modules) name
IsTold text (Width line) = HasMisfit text line
IsTold text (Loop name) = HasLoop text name
IsTold text Memory = Unit {0}

-- the modules have a name twice
abbrev pub IsDoubled : List Source → VErr → Type 0
IsDoubled modules (At byte) = ⊥
IsDoubled modules (Twice name) = FirstTwice (said [] modules) name
IsDoubled modules (Width line) = ⊥
IsDoubled modules (Loop name) = ⊥
IsDoubled modules Memory = Unit {0}
