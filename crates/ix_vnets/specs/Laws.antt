-- What follows from the definitions: a module and its net, line by line and as a whole.
use Rattle.std.specs.Prelude.{◌≡◌, ℕ, ◌+◌, List, All, length, take, filter}
use Rattle.std.specs.List.{AllZip}
use Rattle.ix_net.specs.declared.netlist.Net.{Net}
use Rattle.ix_net.specs.Valid.{DependsOn}
use Rattle.ix_verilog.specs.declared.source.Source.{Source}
use Rattle.ix_verilog.specs.Words.{Word}
use Rattle.ix_verilog.specs.Subset.{AreModules, IsNetOf}
use Rattle.ix_vnets.specs.Names.{AllOnce, said_in}
use Rattle.ix_vnets.specs.Finished.{IsFinished}
use Rattle.ix_vnets.specs.Nets.{IsMadeOf}
use Rattle.ix_vnets.specs.Drives.{is_drive, drives, DriveFits, IsFirstNot, IsMisfit}

-- the modules of a text are finished
abbrev pub ModulesAreFinished : Type 0
ModulesAreFinished = (words : List Word) (modules : List Source) → AreModules words modules → All IsFinished modules

-- where nothing depends on itself, the net that was made line by line is that of the module
abbrev pub MadeIsNet : Type 0
MadeIsNet = (s : Source) (net : Net) → IsFinished s → AllOnce (said_in s) → IsMadeOf s net → ((name : Word) → DependsOn net name name → ⊥) → IsNetOf s net

-- and the net of a module is made of its lines
abbrev pub NetIsMade : Type 0
NetIsMade = (s : Source) (net : Net) → IsNetOf s net → IsMadeOf s net

-- it is the only one
abbrev pub OneIsMade : Type 0
OneIsMade = (s : Source) (net other : Net) → IsFinished s → AllOnce (said_in s) → IsMadeOf s net → IsMadeOf s other → net ≡ other

-- the line of a refusal is the first of all that does not fit
abbrev pub MisfitIsFirst : Type 0
MisfitIsFirst = (modules : List Source) (m d : ℕ) → IsMisfit modules m d → IsFirstNot DriveFits (drives modules) (length (drives (take m modules)) + d)

-- where there are nets, each line fits
abbrev pub MadeFits : Type 0
MadeFits = (modules : List Source) (nets : List Net) (number : ℕ) → AllZip IsMadeOf modules nets → IsFirstNot DriveFits (drives modules) number → ⊥

-- the text of modules has as many words `assign` and `if` as lines of widths
abbrev pub DrivesAreNumbered : Type 0
DrivesAreNumbered = (words : List Word) (modules : List Source) → AreModules words modules → length (filter is_drive words) ≡ length (drives modules)
