-- What two harts in turn write, what that shows, and what is refused for them (this project's choice).
use Rattle.std.specs.Prelude.{◌≡◌, ℕ, ◌<◌, List, [], ◌∷◌, ◌++◌, Option, Some, None, Bool, true, false, if◌then◌else◌, codes}
use Rattle.ix_behaviour.specs.declared.which.Which.{Which}
use Rattle.ix_extension.specs.Extensions.{ExtensionTree, view_extension}
use Rattle.ix_graph.specs.declared.graph.Mode.{Mode}
use Rattle.ix_graph.specs.declared.graph.Mode.TheVariants.{InPipeline, Tight, Decoupled, Always}
use Rattle.ix_plan.specs.declared.design.Design.{Design}
use Rattle.ix_plan.specs.declared.design.Plan.{Plan}
use Rattle.ix_sheet.specs.declared.sheet.Sheet.{Sheet as Datasheet}
use Rattle.ix_standing.specs.Standing.{behaviours_of, name_at, Stands}
use Rattle.rv_harts.specs.BarrelRows.{hart_setting, barrel_row}
use Rattle.rv_harts.specs.BarrelLaws.{ShowsHart, IsSameFor, PrefixLaw, StateLaw, image_of}
use Rattle.rv_barrel_text.specs.BarrelText.{barrel_text}
use Rattle.rv_asm.specs.ImageText.{IsImageText}
use Rattle.ix_tree.specs.TypedTrees.{TypedTextTree}
use Rattle.ix_elab.specs.Elaborating.{Elaborates}
use Rattle.ix_extension.specs.WellFormed.{IsOf}
use Rattle.ix_io.specs.Shelf.{NamedFiles}
use Rattle.ix_io.specs.Sink.{Appends}
use Rattle.ix_words.specs.declared.command.Command.{Command}
use Rattle.ix_words.specs.declared.command.Command.TheVariants.{Barrel}
use Rattle.ix_words.specs.declared.status.Status.{Status}
use Rattle.ix_words.specs.declared.status.Status.TheVariants.{Barrel as barrel_status}
use Rattle.ix_words.specs.Readings.{Reading, extension_read, sheet_read, image_read, number_read}
use Rattle.ix_words.specs.CommandLine.{BarrelCommand, command_of, slots_of, behind}
use Rattle.ix_words.specs.WordsRead.{IsSheetRead, IsFile, AreRead}

-- a slot of two harts cannot wait, as an instruction of this mode does in the last stage
abbrev pub is_tight : Mode → Bool
is_tight InPipeline = false
is_tight Tight = true
is_tight Decoupled = false
is_tight Always = false

-- the first of these behaviours whose plan is Tight
abbrev pub first_tight : List Which → List Plan → Option Which
first_tight [] plans = None
first_tight (w ∷ rest) [] = None
first_tight (w ∷ rest) (p ∷ plans) = if is_tight p.mode then Some w else first_tight rest plans

-- the first of a design, in the order of the source
abbrev pub tight_behaviour : Design → Option Which
tight_behaviour d = first_tight (behaviours_of (view_extension d.extension)) d.plans

-- the text of the run of two images on the core of a datasheet with an extension: a design without a Tight behaviour stands for both, and the rows are those of its harts
pub record IsBarrelRun (x : ExtensionTree) (sheet : Datasheet) (first second : List ℕ) (cycles : ℕ) (text : List ℕ) : Type 0 where
  pub design : Design
  pub stands : Stands design
  pub extension_is : view_extension design.extension ≡ x
  pub sheet_is : design.sheet ≡ sheet
  pub no_tight : tight_behaviour design ≡ None
  pub text_is : text ≡ barrel_text design first second cycles

-- what that text shows: each hart's cells and part of each row are those that its own image gives, whatever the other one is; what it retires is the next record of the run of its
-- image one instruction at a time; and its state, with the outstanding writes applied, is that run's
pub record IsLawfulBarrelRun (x : ExtensionTree) (sheet : Datasheet) (first second : List ℕ) (cycles : ℕ) (text : List ℕ) : Type 0 where
  pub design : Design
  pub stands : Stands design
  pub extension_is : view_extension design.extension ≡ x
  pub sheet_is : design.sheet ≡ sheet
  pub text_is : text ≡ barrel_text design first second cycles
  pub shown : (h n : ℕ) → h < 2 → ShowsHart (hart_setting design (image_of first second h)) h n (barrel_row design first second n)
  pub first_alone : (other : List ℕ) (n : ℕ) → IsSameFor 0 (barrel_row design first second n) (barrel_row design first other n)
  pub second_alone : (other : List ℕ) (n : ℕ) → IsSameFor 1 (barrel_row design first second n) (barrel_row design other second n)
  pub first_prefix : PrefixLaw design first
  pub second_prefix : PrefixLaw design second
  pub first_state : StateLaw design first
  pub second_state : StateLaw design second

-- the behaviour of this name is the first Tight one of a design that stands for both
pub record IsTightFor (x : ExtensionTree) (sheet : Datasheet) (name : List ℕ) : Type 0 where
  pub design : Design
  pub stands : Stands design
  pub extension_is : view_extension design.extension ≡ x
  pub sheet_is : design.sheet ≡ sheet
  pub behaviour : Which
  pub tight : tight_behaviour design ≡ Some behaviour
  pub name_is : name ≡ name_at x behaviour

-- its refusal
abbrev pub tight_line : List ℕ → List ℕ
tight_line name = codes "refused Barrel " ++ name ++ codes "\n"

-- the values are an extension, a datasheet, the images of two harts and a count of cycles, and the text is that of their run in turn
pub record IsBarrelOutput (values : List Reading) (text : List ℕ) : Type 0 where
  pub extension : ExtensionTree
  pub sheet : Datasheet
  pub first : List ℕ
  pub second : List ℕ
  pub cycles : ℕ
  pub values_are : values ≡ extension_read extension ∷ sheet_read sheet ∷ image_read first ∷ image_read second ∷ number_read cycles ∷ []
  pub runs : IsBarrelRun extension sheet first second cycles text

-- a refusal of the first Tight behaviour of an extension, where each is scheduled on the core of the datasheet
pub record IsBarrelRefusal (command : Command) (values : List Reading) (status : Status) (line : List ℕ) : Type 0 where
  pub command_is : command ≡ Barrel
  pub extension : ExtensionTree
  pub sheet : Datasheet
  pub others : List Reading
  pub values_are : values ≡ extension_read extension ∷ sheet_read sheet ∷ others
  pub name : List ℕ
  pub tight : IsTightFor extension sheet name
  pub status_is : status ≡ barrel_status
  pub line_is : line ≡ tight_line name

-- The files are the texts of this extension, which is well formed, of this datasheet, and of the images of two harts. A design stands for the extension and the datasheet, and
-- the text of rows of both harts was written whole: each hart has in them what its own image gives, retires what the run of its image does one instruction at a time, and ends
-- with that run's state.
pub record BarrelAnswer (files : Option NamedFiles) (command : BarrelCommand) (before now : Option (List ℕ)) : Type 0 where
  pub bytes : List ℕ
  pub extension : ExtensionTree
  pub sheet_bytes : List ℕ
  pub sheet : Datasheet
  pub program : List ℕ
  pub first : List ℕ
  pub other_program : List ℕ
  pub second : List ℕ
  pub text : List ℕ
  pub file : IsFile files command.extension bytes
  pub elaborates : Elaborates bytes extension
  pub well_formed : (typed : TypedTextTree) × IsOf typed extension
  pub sheet_file : IsFile files command.sheet sheet_bytes
  pub sheet_read : IsSheetRead sheet_bytes sheet
  pub first_file : IsFile files command.first program
  pub first_read : IsImageText program first
  pub second_file : IsFile files command.second other_program
  pub second_read : IsImageText other_program second
  pub runs : IsLawfulBarrelRun extension sheet first second command.cycles text
  pub written : Appends before now text

-- the first Tight behaviour, behind files that are all read and behaviours that are all scheduled, was refused and its line written
pub record TightAnswer (files : Option NamedFiles) (words : List (List ℕ)) (before now : Option (List ℕ)) : Type 0 where
  pub values : List Reading
  pub extension : ExtensionTree
  pub sheet : Datasheet
  pub others : List Reading
  pub name : List ℕ
  pub command_is : command_of words ≡ Some Barrel
  pub read : AreRead files (slots_of Barrel) (behind words) values
  pub values_are : values ≡ extension_read extension ∷ sheet_read sheet ∷ others
  pub tight : IsTightFor extension sheet name
  pub written : Appends before now (tight_line name)
