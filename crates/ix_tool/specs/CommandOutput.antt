-- What a command answers and writes, from its words and the bytes of its files (this project's choice).
use Rattle.std.specs.Prelude.{◌≡◌, ◌≢◌, IfSome, ℕ, ◌+◌, ◌<◌, ◌≤◌, List, [], ◌∷◌, ◌++◌, length, Option, Some, None, codes, decimal, ◌⊎◌}
use Rattle.ix_words.specs.declared.status.Status.{Status}
use Rattle.ix_words.specs.declared.status.Status.TheVariants.{Ok as ok_status, Usage, ReadFault, WriteFault, Extension as extension_status, NoSchedule, Memory, Source, Trace}
use Rattle.ix_words.specs.declared.command.Command.{Command}
use Rattle.ix_words.specs.declared.command.Command.TheVariants.{RunImage, Check, Certify, Schedule, Build, Sweep, Seq, Assemble, RunExtension, Bench, Wave, RunInterrupted, Audit, Barrel}
use Rattle.ix_words.specs.declared.command.RunForm.{RunForm}
use Rattle.ix_words.specs.declared.command.RunForm.TheVariants.{Rows, Interrupted, Ports}
use Rattle.ix_words.specs.declared.command.FileKind.{FileKind}
use Rattle.ix_words.specs.declared.command.Slot.{Slot}
use Rattle.ix_words.specs.declared.command.Slot.TheVariants.{Number, File}
use Rattle.ix_tool.specs.PlainDesign.{IsPlain}
use Rattle.rv_trace.specs.declared.row.Row.{Row}
use Rattle.rv_trace.specs.Trace.{newest}
use Rattle.rv_engine.specs.Settings.{setting}
use Rattle.rv_lawful.specs.Headline.{Headline}
use Rattle.rv_machine.specs.Running.{AreRows}
use Rattle.rv_machine.specs.DesignText.{IsDesignText}
use Rattle.rv_machine.specs.LawfulText.{IsLawfulText}
use Rattle.rv_wave.specs.Waves.{IsDesignWave, IsLawfulWave}
use Rattle.rv_bench.specs.DrawnImage.{drawn_image}
use Rattle.rv_bench.specs.Summary.{summary_text}
use Rattle.rv_text.specs.RunText.{run_text}
use Rattle.rv_watch.specs.Printed.{AreGiven}
use Rattle.rv_watch.specs.Audited.{IsAudited}
use Rattle.rv_audit.specs.Refused.{IsFault}
use Rattle.rv_audit.specs.declared.auditing.AuditErr.{AuditErr}
use Rattle.rv_audit.specs.declared.auditing.AuditErr.TheVariants as U
use Rattle.rv_asm.specs.ImageText.{IsImageText, image_text}
use Rattle.rv_asm.specs.Sources.{Assembles, IsRefusedAs}
use Rattle.rv_asm.specs.WaitsText.{IsWaitsText}
use Rattle.rv_asm.specs.LinesText.{IsLinesText}
use Rattle.rv_asm.specs.declared.source.AsmErr.{AsmErr}
use Rattle.rv_asm.specs.declared.source.AsmErr.TheVariants as A
use Rattle.ix_extension.specs.Extensions.{ExtensionTree, view_extension}
use Rattle.ix_plan.specs.declared.design.Design.{Design}
use Rattle.ix_standing.specs.Standing.{Stands}
use Rattle.ix_extension.specs.WellFormed.{IsOf}
use Rattle.ix_tree.specs.TypedTrees.{TypedTextTree}
use Rattle.ix_elab.specs.Elaborating.{Elaborates}
use Rattle.ix_listing.specs.Listing.{listing_text}
use Rattle.ix_words.specs.Readings.{Reading, number_read, image_read, report_read, extension_read, sheet_read, source_read, waits_read, lines_read, trace_read}
use Rattle.ix_words.specs.CommandLine.{RunCommand, SeqCommand, AsmCommand, ScheduleCommand, BuildCommand, SweepCommand, PipelineCommand, InterruptedCommand, AuditCommand, BenchCommand, most_drawn, run_of, report_of, command_of, slots_of, behind}
use Rattle.ix_sheet.specs.declared.sheet.Sheet.{Sheet as Datasheet}
use Rattle.ix_sheet.specs.Sheets.{IsValidSheet}
use Rattle.ix_schedules.specs.declared.text.TextErr.{TextErr}
use Rattle.ix_schedules.specs.declared.text.TextErr.TheVariants as T
use Rattle.ix_schedules.specs.Scheduling.{behaviours_of, AreNamed}
use Rattle.ix_schedules.specs.ScheduleText.{IsScheduleText, IsRefusedText as IsRefusedSchedule}
use Rattle.ix_modules.specs.Modules.{IsModulesText}
use Rattle.ix_sweeps.specs.declared.sweeping.SweepErr.TheVariants as W
use Rattle.ix_sweeps.specs.Sweeping.{IsFirstLarge}
use Rattle.ix_sweeps.specs.SweepText.{IsSweepText}
use Rattle.ix_cert.specs.Certificates.{IsCertifiedText, IsFaultless}
use Rattle.ix_io.specs.Faults.{Rose}
use Rattle.ix_io.specs.Limits.{most_bytes}
use Rattle.ix_io.specs.Shelf.{NamedFiles, told_file}
use Rattle.ix_io.specs.Sink.{Appends, AppendsFront}
use Rattle.ix_tool.specs.BarrelOutput.{IsBarrelOutput, IsBarrelRefusal}
use Rattle.ix_words.specs.WordsRead.{file_line, IsSheetRead, IsRefusedText, refusal_status, IsFile, AreRead, IsFirstRefused, RoseIn, IsFileOf}

-- ---- the texts of outputs and of refusals
-- the text of a run on the core of three stages: that of an extension without sections, over a memory that never waits, without an interrupt line
pub record IsRunOutput (image : List ℕ) (cycles : ℕ) (text : List ℕ) : Type 0 where
  pub design : Design
  pub plain : IsPlain design
  pub runs : IsDesignText (setting design image [] None) cycles text

-- what that text shows: these rows are lawful, what they retire is a prefix of the run one instruction at a time, with its states and its stop, and they go on
pub record IsLawfulPlainRun (image : List ℕ) (cycles : ℕ) (text : List ℕ) : Type 0 where
  pub design : Design
  pub plain : IsPlain design
  pub runs : IsLawfulText design image [] None cycles text

-- the command that writes a run in this form
abbrev pub command_in : RunForm → Command
command_in Rows = RunExtension
command_in Interrupted = RunInterrupted
command_in Ports = Wave

-- a run in this form has an interrupt line exactly where these are the rows in which it is raised
abbrev pub HasLines : RunForm → Option (List ℕ) → Type 0
HasLines Rows None = Unit {0}
HasLines Rows (Some lines) = ⊥
HasLines Interrupted None = ⊥
HasLines Interrupted (Some lines) = Unit {0}
HasLines Ports None = Unit {0}
HasLines Ports (Some lines) = ⊥

-- the text of a run of the machine of a design in this form, with an interrupt line that is raised in these rows, where there is one; ports are shown of runs without one
abbrev pub IsDesignOutput : RunForm → Design → List ℕ → List ℕ → Option (List ℕ) → ℕ → List ℕ → Type 0
IsDesignOutput Rows design image waits lines cycles text = IsDesignText (setting design image waits lines) cycles text
IsDesignOutput Interrupted design image waits lines cycles text = IsDesignText (setting design image waits lines) cycles text
IsDesignOutput Ports design image waits lines cycles text = IsDesignWave design image waits cycles text

-- the text of a run in this form on the core of a datasheet with an extension: a design stands for both, and the rows are those of its machine over this image, whose
-- memory has these waits, and whose interrupt line is raised in these rows, where there is one
pub record IsExtensionRun (form : RunForm) (x : ExtensionTree) (sheet : Datasheet) (image waits : List ℕ) (lines : Option (List ℕ)) (cycles : ℕ) (text : List ℕ) : Type 0 where
  pub design : Design
  pub stands : Stands design
  pub extension_is : view_extension design.extension ≡ x
  pub sheet_is : design.sheet ≡ sheet
  pub runs : IsDesignOutput form design image waits lines cycles text

-- what the text of rows shows: these are lawful, what they retire is a prefix of the run one instruction at a time, which goes to the handler where they say so, with its states
-- and its stop, and they go on; where there is an interrupt line, an interrupt that is to be taken is taken
pub record IsLawfulRun (x : ExtensionTree) (sheet : Datasheet) (image waits : List ℕ) (lines : Option (List ℕ)) (cycles : ℕ) (text : List ℕ) : Type 0 where
  pub design : Design
  pub stands : Stands design
  pub extension_is : view_extension design.extension ≡ x
  pub sheet_is : design.sheet ≡ sheet
  pub runs : IsLawfulText design image waits lines cycles text

-- what a dump shows: its rows are such, and in each the ports of a module show the values of one run of its net, which the rows drive
pub record IsLawfulWaveRun (x : ExtensionTree) (sheet : Datasheet) (image waits : List ℕ) (cycles : ℕ) (text : List ℕ) : Type 0 where
  pub design : Design
  pub stands : Stands design
  pub extension_is : view_extension design.extension ≡ x
  pub sheet_is : design.sheet ≡ sheet
  pub runs : IsLawfulWave design image waits cycles text

-- so many rows a drawn image runs for, or fewer where one has a stop
abbrev pub most_rows : ℕ
most_rows = 200000

-- the summary of the run of a drawn image on the core and with the extension of a design: its rows are those of the design's machine over this image, whose memory never waits
pub record IsDesignSummary (design : Design) (number count : ℕ) (text : List ℕ) : Type 0 where
  pub rows : List Row
  pub are_rows : AreRows (setting design (drawn_image (view_extension design.extension) number count) [] None) rows
  pub few : length rows ≤ most_rows
  pub whole : (newest rows).stop ≡ None → length rows ≡ most_rows
  pub text_is : text ≡ summary_text (count + 2) rows

-- what that summary shows: it counts rows which are lawful; what they retire is a prefix of the run one instruction at a time, with its states and its stop, and they go on
pub record IsLawfulSummary (design : Design) (number count : ℕ) (text : List ℕ) : Type 0 where
  pub rows : List Row
  pub headline : Headline design (drawn_image (view_extension design.extension) number count) [] None rows
  pub few : length rows ≤ most_rows
  pub whole : (newest rows).stop ≡ None → length rows ≡ most_rows
  pub text_is : text ≡ summary_text (count + 2) rows

-- the summary of a drawn run on the core of a datasheet with an extension: a design stands for both
pub record IsDrawnRun (x : ExtensionTree) (sheet : Datasheet) (number count : ℕ) (text : List ℕ) : Type 0 where
  pub design : Design
  pub stands : Stands design
  pub extension_is : view_extension design.extension ≡ x
  pub sheet_is : design.sheet ≡ sheet
  pub runs : IsDesignSummary design number count text

-- what that summary shows
pub record IsLawfulDrawnRun (x : ExtensionTree) (sheet : Datasheet) (number count : ℕ) (text : List ℕ) : Type 0 where
  pub design : Design
  pub stands : Stands design
  pub extension_is : view_extension design.extension ≡ x
  pub sheet_is : design.sheet ≡ sheet
  pub runs : IsLawfulSummary design number count text

-- a refusal of a source, which names what fails and its line
abbrev pub source_text : List ℕ → ℕ → List ℕ
source_text kind at = codes "refused Source " ++ kind ++ codes " " ++ decimal at ++ codes "\n"

abbrev pub source_line : AsmErr → List ℕ
source_line (A.Line at) = source_text (codes "Line") at
source_line (A.Label at) = source_text (codes "Label") at
source_line (A.Reach at) = source_text (codes "Reach") at
source_line (A.Size at) = source_text (codes "Size") at
source_line A.Memory = []

-- a refusal of a trace, which names its line and in what respect that is not right
abbrev pub fault_text : List ℕ → ℕ → List ℕ
fault_text kind line = codes "refused Trace " ++ decimal line ++ codes " " ++ kind ++ codes "\n"

-- in what respect a line is not right, by its name
abbrev pub fault_kind : AuditErr → List ℕ
fault_kind (U.Line line) = codes "Line"
fault_kind (U.Moves line) = codes "Moves"
fault_kind (U.Hold line) = codes "Hold"
fault_kind (U.Fetch line) = codes "Fetch"
fault_kind (U.Successor line) = codes "Successor"
fault_kind (U.Unit line) = codes "Unit"
fault_kind (U.Stop line) = codes "Stop"
fault_kind (U.Commit line) = codes "Commit"
fault_kind (U.Write line) = codes "Write"
fault_kind (U.State line) = codes "State"
fault_kind U.Memory = codes "Memory"

-- the number of that line, from 1
abbrev pub fault_at : AuditErr → ℕ
fault_at (U.Line line) = line
fault_at (U.Moves line) = line
fault_at (U.Hold line) = line
fault_at (U.Fetch line) = line
fault_at (U.Successor line) = line
fault_at (U.Unit line) = line
fault_at (U.Stop line) = line
fault_at (U.Commit line) = line
fault_at (U.Write line) = line
fault_at (U.State line) = line
fault_at U.Memory = 0

abbrev pub fault_line : AuditErr → List ℕ
fault_line e = fault_text (fault_kind e) (fault_at e)

-- the text is that of a lawful run of an image on the core of a datasheet with an extension, whose memory has these waits: a design stands for both
pub record IsAuditedRun (x : ExtensionTree) (sheet : Datasheet) (image waits text : List ℕ) : Type 0 where
  pub design : Design
  pub stands : Stands design
  pub extension_is : view_extension design.extension ≡ x
  pub sheet_is : design.sheet ≡ sheet
  pub audited : IsAudited design image waits text

-- the text is refused for this: its first line that is not right, and in what respect
pub record IsFaultyRun (x : ExtensionTree) (sheet : Datasheet) (image waits text : List ℕ) (error : AuditErr) : Type 0 where
  pub design : Design
  pub stands : Stands design
  pub extension_is : view_extension design.extension ≡ x
  pub sheet_is : design.sheet ≡ sheet
  pub fault : IsFault design image waits text error

-- the values are an extension, a datasheet, an image, the waits of a memory and a count of cycles, and the text is that of their run in this form
pub record IsPipelineOutput (form : RunForm) (values : List Reading) (text : List ℕ) : Type 0 where
  pub extension : ExtensionTree
  pub sheet : Datasheet
  pub image : List ℕ
  pub waits : List ℕ
  pub cycles : ℕ
  pub values_are : values ≡ extension_read extension ∷ sheet_read sheet ∷ image_read image ∷ waits_read waits ∷ number_read cycles ∷ []
  pub runs : IsExtensionRun form extension sheet image waits None cycles text

-- the values are an extension, a datasheet, an image, the waits of a memory, the rows in which an interrupt line is raised and a count of cycles, and the text is that of their run
pub record IsInterruptedOutput (values : List Reading) (text : List ℕ) : Type 0 where
  pub extension : ExtensionTree
  pub sheet : Datasheet
  pub image : List ℕ
  pub waits : List ℕ
  pub lines : List ℕ
  pub cycles : ℕ
  pub values_are : values ≡ extension_read extension ∷ sheet_read sheet ∷ image_read image ∷ waits_read waits ∷ lines_read lines ∷ number_read cycles ∷ []
  pub runs : IsExtensionRun Interrupted extension sheet image waits (Some lines) cycles text

-- the values are an extension, a datasheet and two numbers, and the text is the summary of their drawn run
pub record IsBenchOutput (values : List Reading) (text : List ℕ) : Type 0 where
  pub extension : ExtensionTree
  pub sheet : Datasheet
  pub number : ℕ
  pub count : ℕ
  pub values_are : values ≡ extension_read extension ∷ sheet_read sheet ∷ number_read number ∷ number_read count ∷ []
  pub runs : IsDrawnRun extension sheet number count text

-- the values are an extension, a datasheet, an image, the waits of a memory and the text of a lawful run of these, and the text due is a yes
pub record IsAuditOutput (values : List Reading) (text : List ℕ) : Type 0 where
  pub extension : ExtensionTree
  pub sheet : Datasheet
  pub image : List ℕ
  pub waits : List ℕ
  pub trace : List ℕ
  pub values_are : values ≡ extension_read extension ∷ sheet_read sheet ∷ image_read image ∷ waits_read waits ∷ trace_read trace ∷ []
  pub audited : IsAuditedRun extension sheet image waits trace
  pub text_is : text ≡ codes "yes\n"

-- ---- what a command answers where all its words are read
-- the bytes due
abbrev pub IsOutput : Command → List Reading → List ℕ → Type 0
IsOutput RunImage (image_read image ∷ number_read cycles ∷ []) text = IsRunOutput image cycles text
IsOutput Check (extension_read x ∷ []) text = text ≡ listing_text x
IsOutput Certify (report_read ∷ []) text = text ≡ codes "yes\n"
IsOutput Assemble (extension_read x ∷ source_read bytes ∷ []) text = (words : List ℕ) × Assembles x bytes words × (text ≡ image_text words)
IsOutput Seq (extension_read x ∷ image_read image ∷ number_read steps ∷ []) text = text ≡ run_text x image steps
IsOutput Schedule (extension_read x ∷ sheet_read sheet ∷ []) text = IsScheduleText x sheet text
IsOutput Build (extension_read x ∷ sheet_read sheet ∷ []) text = IsModulesText x sheet text
IsOutput Sweep (extension_read x ∷ sheet_read sheet ∷ []) text = IsSweepText x sheet text
IsOutput RunExtension values text = IsPipelineOutput Rows values text
IsOutput Bench values text = IsBenchOutput values text
IsOutput Wave values text = IsPipelineOutput Ports values text
IsOutput RunInterrupted values text = IsInterruptedOutput values text
IsOutput Audit values text = IsAuditOutput values text
IsOutput Barrel values text = IsBarrelOutput values text
IsOutput command values text = ⊥

-- a refusal of a source with the extension before it
pub record IsSourceRefusal (command : Command) (values : List Reading) (status : Status) (line : List ℕ) : Type 0 where
  pub command_is : command ≡ Assemble
  pub extension : ExtensionTree
  pub source : List ℕ
  pub values_are : values ≡ extension_read extension ∷ source_read source ∷ []
  pub error : AsmErr
  pub no_memory : error ≢ A.Memory
  pub refused : IsRefusedAs extension source error
  pub status_is : status ≡ Source
  pub line_is : line ≡ source_line error

-- the status and the text of a behaviour that is not scheduled
abbrev pub IsToldAs : TextErr → Status → List ℕ → Type 0
IsToldAs (T.TooManyOps text) status line = (status ≡ extension_status) × (line ≡ text)
IsToldAs (T.NoSchedule text) status line = (status ≡ NoSchedule) × (line ≡ text)
IsToldAs T.Memory status line = ⊥

-- the command schedules the behaviours of an extension
abbrev pub Schedules : Command → Type 0
Schedules Schedule = Unit {0}
Schedules Build = Unit {0}
Schedules RunExtension = Unit {0}
Schedules Bench = Unit {0}
Schedules Wave = Unit {0}
Schedules RunInterrupted = Unit {0}
Schedules Audit = Unit {0}
Schedules Barrel = Unit {0}
Schedules command = ⊥

-- a refusal of the first behaviour of an extension that is not scheduled on the core of the datasheet
pub record IsScheduleRefusal (command : Command) (values : List Reading) (status : Status) (line : List ℕ) : Type 0 where
  pub schedules : Schedules command
  pub extension : ExtensionTree
  pub sheet : Datasheet
  pub others : List Reading
  pub values_are : values ≡ extension_read extension ∷ sheet_read sheet ∷ others
  pub error : TextErr
  pub refused : IsRefusedSchedule extension sheet error
  pub told : IsToldAs error status line

-- a refusal of the first behaviour of an extension that has too many operations to be swept
pub record IsSweepRefusal (command : Command) (values : List Reading) (status : Status) (line : List ℕ) : Type 0 where
  pub command_is : command ≡ Sweep
  pub extension : ExtensionTree
  pub sheet : Datasheet
  pub values_are : values ≡ extension_read extension ∷ sheet_read sheet ∷ []
  pub refused : IsFirstLarge extension (behaviours_of extension) (W.TooManyOps line)
  pub status_is : status ≡ extension_status

-- a refusal of a trace, where each behaviour of the extension is scheduled on the core of the datasheet
pub record IsTraceRefusal (command : Command) (values : List Reading) (status : Status) (line : List ℕ) : Type 0 where
  pub command_is : command ≡ Audit
  pub extension : ExtensionTree
  pub sheet : Datasheet
  pub image : List ℕ
  pub waits : List ℕ
  pub trace : List ℕ
  pub values_are : values ≡ extension_read extension ∷ sheet_read sheet ∷ image_read image ∷ waits_read waits ∷ trace_read trace ∷ []
  pub error : AuditErr
  pub faulty : IsFaultyRun extension sheet image waits trace error
  pub status_is : status ≡ Trace
  pub line_is : line ≡ fault_line error

-- a refusal of the command's own, behind those of its files
abbrev pub IsOwnRefusal : Command → List Reading → Status → List ℕ → Type 0
IsOwnRefusal command values status line =
    IsSourceRefusal command values status line
    ⊎ (IsScheduleRefusal command values status line ⊎ (IsSweepRefusal command values status line ⊎ (IsTraceRefusal command values status line ⊎ IsBarrelRefusal command values status line)))

-- what the command answers: its own refusal, or its output
abbrev pub IsAnswer : Command → List Reading → Status → List ℕ → Type 0
IsAnswer command values status bytes = IsOwnRefusal command values status bytes ⊎ ((status ≡ ok_status) × IsOutput command values bytes)

-- ---- the one relation: the status and the bytes that are due, by the words, then the files, then the command itself
pub data IsDue (files : Option NamedFiles) (Rises : List ℕ → Type 0) (words : List (List ℕ)) : Status → List ℕ → Type 0 where
  due_usage : command_of words ≡ None → IsDue files Rises words Usage (codes "refused Usage\n")
  due_file : (command : Command) (status : Status) (line : List ℕ) → command_of words ≡ Some command → IsFirstRefused files Rises (slots_of command) (behind words) status line → IsDue files Rises words status line
  due_answer : (command : Command) (values : List Reading) (status : Status) (bytes : List ℕ) → command_of words ≡ Some command → AreRead files (slots_of command) (behind words) values → IsAnswer command values status bytes → IsDue files Rises words status bytes

-- ---- what was written
-- the bytes were written whole with this status, or the sink's count rose and a front of them was written
abbrev pub Writes : Status → List ℕ → Option (List ℕ) → Option (List ℕ) → ℕ → ℕ → Status → Type 0
Writes status bytes before now faults faults_now result =
    ((result ≡ status) × Appends before now bytes)
    ⊎ ((result ≡ WriteFault) × Rose faults faults_now × AppendsFront before now bytes)

-- what the tool did: memory was not found and nothing was written, where the words are a command; or what is due was written, or a front of it
abbrev pub Outcome : Option NamedFiles → (List ℕ → Type 0) → List (List ℕ) → Option (List ℕ) → Option (List ℕ) → ℕ → ℕ → Status → Type 0
Outcome files Rises words before now faults faults_now result =
    ((command_of words ≢ None) × (result ≡ Memory) × (now ≡ before))
    ⊎ ((status : Status) × (bytes : List ℕ) × IsDue files Rises words status bytes × Writes status bytes before now faults faults_now result)

-- no count of faults does
abbrev pub NoneRises : List ℕ → Type 0
NoneRises name = ⊥

-- the values are a well-formed extension, whose behaviours have names of the language, and a datasheet
abbrev pub TakesSheet : List Reading → Type 0
TakesSheet (extension_read x ∷ sheet_read sheet ∷ []) = ((text : TypedTextTree) × IsOf text x) × AreNamed x × IsValidSheet sheet
TakesSheet values = ⊥

-- and an image, the waits of a memory, and a count of cycles behind these
abbrev pub TakesPipeline : List Reading → Type 0
TakesPipeline (extension_read x ∷ sheet_read sheet ∷ image_read image ∷ waits_read waits ∷ number_read cycles ∷ []) = TakesSheet (extension_read x ∷ sheet_read sheet ∷ [])
TakesPipeline values = ⊥

-- or these with the rows in which an interrupt line is raised before the count
abbrev pub TakesInterrupted : List Reading → Type 0
TakesInterrupted (extension_read x ∷ sheet_read sheet ∷ image_read image ∷ waits_read waits ∷ lines_read lines ∷ number_read cycles ∷ []) = TakesSheet (extension_read x ∷ sheet_read sheet ∷ [])
TakesInterrupted values = ⊥

-- or an image, whose words have 32 bits, waits of at most 255 rows, and the bytes of a trace behind these
abbrev pub TakesAudit : List Reading → Type 0
TakesAudit (extension_read x ∷ sheet_read sheet ∷ image_read image ∷ waits_read waits ∷ trace_read bytes ∷ []) = TakesSheet (extension_read x ∷ sheet_read sheet ∷ []) × AreGiven image waits × (length bytes ≤ most_bytes)
TakesAudit values = ⊥

-- or the images of two harts and a count of cycles, on a core whose last stage is at most one behind MEM
abbrev pub TakesBarrel : List Reading → Type 0
TakesBarrel (extension_read x ∷ sheet_read sheet ∷ image_read first ∷ image_read second ∷ number_read cycles ∷ []) =
    TakesSheet (extension_read x ∷ sheet_read sheet ∷ []) × (sheet.shape.stages ≤ sheet.shape.mem + 2)
TakesBarrel values = ⊥

-- the values are those that a run in this form takes
abbrev pub TakesRun : RunForm → List Reading → Type 0
TakesRun Rows values = TakesPipeline values
TakesRun Interrupted values = TakesInterrupted values
TakesRun Ports values = TakesPipeline values

-- the values of a run: an extension, a datasheet, an image, the waits of a memory, the rows in which the interrupt line is raised, where there is one, and a count of cycles
abbrev pub run_values : ExtensionTree → Datasheet → List ℕ → List ℕ → Option (List ℕ) → ℕ → List Reading
run_values x sheet image waits None cycles = extension_read x ∷ sheet_read sheet ∷ image_read image ∷ waits_read waits ∷ number_read cycles ∷ []
run_values x sheet image waits (Some lines) cycles = extension_read x ∷ sheet_read sheet ∷ image_read image ∷ waits_read waits ∷ lines_read lines ∷ number_read cycles ∷ []

-- or a number and a count of drawn words
abbrev pub TakesBench : List Reading → Type 0
TakesBench (extension_read x ∷ sheet_read sheet ∷ number_read number ∷ number_read count ∷ []) = TakesSheet (extension_read x ∷ sheet_read sheet ∷ []) × (count ≤ most_drawn)
TakesBench values = ⊥

-- the values are those that the command takes
abbrev pub Takes : Command → List Reading → Type 0
Takes RunImage (image_read image ∷ number_read cycles ∷ []) = Unit {0}
Takes Check (extension_read x ∷ []) = Unit {0}
Takes Certify (report_read ∷ []) = Unit {0}
Takes Assemble (extension_read x ∷ source_read bytes ∷ []) = length bytes ≤ most_bytes
Takes Seq (extension_read x ∷ image_read image ∷ number_read steps ∷ []) = (text : TypedTextTree) × IsOf text x
Takes Schedule values = TakesSheet values
Takes Build values = TakesSheet values
Takes Sweep values = TakesSheet values
Takes RunExtension values = TakesPipeline values
Takes Bench values = TakesBench values
Takes Wave values = TakesPipeline values
Takes RunInterrupted values = TakesInterrupted values
Takes Audit values = TakesAudit values
Takes Barrel values = TakesBarrel values
Takes command values = ⊥

-- what a command with these values did
abbrev pub Answered : Command → List Reading → Option (List ℕ) → Option (List ℕ) → ℕ → ℕ → Status → Type 0
Answered command values before now faults faults_now result =
    ((result ≡ Memory) × (now ≡ before))
    ⊎ ((status : Status) × (bytes : List ℕ) × IsAnswer command values status bytes × Writes status bytes before now faults faults_now result)

-- ---- clauses on an answer

-- the command is a run of this file with these bytes, which are within length
pub record IsRunOf (words : List (List ℕ)) (told : Option (List ℕ)) (command : RunCommand) (file : List ℕ) : Type 0 where
  pub command_is : run_of words ≡ Some command
  pub file_is : told ≡ Some file
  pub within : length file ≤ most_bytes

-- the image of a run, where the shelf tells its files
abbrev pub image_of_run : Option NamedFiles → Option RunCommand → Option (List ℕ)
image_of_run files None = None
image_of_run files (Some command) = told_file files command.image

abbrev pub told_of : Option NamedFiles → List (List ℕ) → Option (List ℕ)
told_of files words = image_of_run files (run_of words)

-- the report that is to be checked, where the shelf tells its files
abbrev pub report_named : Option NamedFiles → Option (List ℕ) → Option (List ℕ)
report_named files None = None
report_named files (Some report) = told_file files report

abbrev pub told_report : Option NamedFiles → List (List ℕ) → Option (List ℕ)
told_report files words = report_named files (report_of words)

-- the words are no command, and the refusal was written
abbrev pub UsageAnswer : List (List ℕ) → Option (List ℕ) → Option (List ℕ) → Type 0
UsageAnswer words before now = (command_of words ≡ None) × Appends before now (codes "refused Usage\n")

-- the count of one of the command's files rose in this call, and the refusal that names it was written
pub record ReadFaultAnswer (files : Option NamedFiles) (words : List (List ℕ)) (counts counts_now : List ℕ → ℕ) (before now : Option (List ℕ)) : Type 0 where
  pub command : Command
  pub kind : FileKind
  pub name : List ℕ
  pub command_is : command_of words ≡ Some command
  pub file : IsFileOf files kind name (slots_of command) (behind words)
  pub rose : RoseIn counts counts_now name
  pub line : Appends before now (file_line (codes "ReadFault") name)

-- the sink's count rose in this call, and a front of the bytes due was written
pub record WriteFaultAnswer (files : Option NamedFiles) (words : List (List ℕ)) (counts counts_now : List ℕ → ℕ) (before now : Option (List ℕ)) (faults faults_now : ℕ) : Type 0 where
  pub rose : Rose faults faults_now
  pub status : Status
  pub bytes : List ℕ
  pub due : IsDue files (RoseIn counts counts_now) words status bytes
  pub front : AppendsFront before now bytes

-- one of the command's files has more than 1,048,576 bytes, and the refusal that names it was written
pub record TooLongAnswer (files : Option NamedFiles) (words : List (List ℕ)) (before now : Option (List ℕ)) : Type 0 where
  pub command : Command
  pub kind : FileKind
  pub name : List ℕ
  pub command_is : command_of words ≡ Some command
  pub file : IsFileOf files kind name (slots_of command) (behind words)
  pub long : IfSome (told_file files name) (λ bytes. most_bytes < length bytes)
  pub line : Appends before now (file_line (codes "TooLong") name)

-- the text of one of the command's files, of a kind that is refused with this status, is refused with a line, which was written
pub record TextAnswer (files : Option NamedFiles) (words : List (List ℕ)) (status : Status) (before now : Option (List ℕ)) : Type 0 where
  pub command : Command
  pub kind : FileKind
  pub kind_is : refusal_status kind ≡ status
  pub name : List ℕ
  pub bytes : List ℕ
  pub line : List ℕ
  pub command_is : command_of words ≡ Some command
  pub file : IsFileOf files kind name (slots_of command) (behind words)
  pub content : IsFile files name bytes
  pub refused : IsRefusedText kind bytes line
  pub written : Appends before now line

-- the output of the command was written whole
pub record OutputAnswer (files : Option NamedFiles) (words : List (List ℕ)) (before now : Option (List ℕ)) : Type 0 where
  pub command : Command
  pub values : List Reading
  pub text : List ℕ
  pub command_is : command_of words ≡ Some command
  pub read : AreRead files (slots_of command) (behind words) values
  pub output : IsOutput command values text
  pub written : Appends before now text

-- the run was written whole: its text is that of one list of rows of which the headline holds
pub record RunAnswer (words : List (List ℕ)) (told before now : Option (List ℕ)) : Type 0 where
  pub command : RunCommand
  pub file : List ℕ
  pub image : List ℕ
  pub text : List ℕ
  pub run : IsRunOf words told command file
  pub read : IsImageText file image
  pub output : IsLawfulPlainRun image command.cycles text
  pub written : Appends before now text

-- the report is certified: it is read, no step of the check finds a fault, and of each behaviour its times are cheapest or there are none; and the yes was written
pub record CertifiedAnswer (files : Option NamedFiles) (report : List ℕ) (before now : Option (List ℕ)) : Type 0 where
  pub bytes : List ℕ
  pub file : IsFile files report bytes
  pub faultless : IsFaultless bytes
  pub certified : IsCertifiedText bytes
  pub written : Appends before now (codes "yes\n")

-- the file is the text of this extension, by its tokens, their tree, the tree without loops, its types and the encodings; it is well formed, and its listing was written
pub record ListedAnswer (files : Option NamedFiles) (name : List ℕ) (before now : Option (List ℕ)) : Type 0 where
  pub bytes : List ℕ
  pub extension : ExtensionTree
  pub file : IsFile files name bytes
  pub elaborates : Elaborates bytes extension
  pub well_formed : (text : TypedTextTree) × IsOf text extension
  pub written : Appends before now (listing_text extension)

-- the files are the text of this extension and a source; each line of the source has a word or none, and the image of these words was written
pub record AssembledAnswer (files : Option NamedFiles) (command : AsmCommand) (before now : Option (List ℕ)) : Type 0 where
  pub text : List ℕ
  pub extension : ExtensionTree
  pub source : List ℕ
  pub words : List ℕ
  pub extension_file : IsFile files command.extension text
  pub elaborates : Elaborates text extension
  pub source_file : IsFile files command.source source
  pub assembles : Assembles extension source words
  pub written : Appends before now (image_text words)

-- the first line of the source that fails, with the extension before it, was refused and its line written
pub record SourceAnswer (files : Option NamedFiles) (words : List (List ℕ)) (before now : Option (List ℕ)) : Type 0 where
  pub values : List Reading
  pub extension : ExtensionTree
  pub source : List ℕ
  pub error : AsmErr
  pub command_is : command_of words ≡ Some Assemble
  pub read : AreRead files (slots_of Assemble) (behind words) values
  pub values_are : values ≡ extension_read extension ∷ source_read source ∷ []
  pub no_memory : error ≢ A.Memory
  pub refused : IsRefusedAs extension source error
  pub written : Appends before now (source_line error)

-- the files are the texts of this extension, which is well formed, and of this datasheet; of each behaviour, the instructions first and then the
-- always-blocks, the report has the mode by the rule, the behaviour's own graph and its problem on the core in that mode, and the chosen schedule with its cost
-- and a flow that shows it; the check of a report finds no fault in its text, which was written whole
pub record ScheduledAnswer (files : Option NamedFiles) (command : ScheduleCommand) (before now : Option (List ℕ)) : Type 0 where
  pub bytes : List ℕ
  pub extension : ExtensionTree
  pub sheet_bytes : List ℕ
  pub sheet : Datasheet
  pub text : List ℕ
  pub file : IsFile files command.extension bytes
  pub elaborates : Elaborates bytes extension
  pub well_formed : (typed : TypedTextTree) × IsOf typed extension
  pub sheet_file : IsFile files command.sheet sheet_bytes
  pub sheet_read : IsSheetRead sheet_bytes sheet
  pub scheduled : IsScheduleText extension sheet text
  pub written : Appends before now text

-- The files are the texts of this extension, which is well formed, and of this datasheet. The text that was written whole denotes one net for each behaviour, the
-- instructions first and then the always-blocks; each serves its behaviour by the chosen schedule in the mode of the rule, for all inputs and all lists of enables.
pub record ModulesAnswer (files : Option NamedFiles) (command : BuildCommand) (before now : Option (List ℕ)) : Type 0 where
  pub bytes : List ℕ
  pub extension : ExtensionTree
  pub sheet_bytes : List ℕ
  pub sheet : Datasheet
  pub text : List ℕ
  pub file : IsFile files command.extension bytes
  pub elaborates : Elaborates bytes extension
  pub well_formed : (typed : TypedTextTree) × IsOf typed extension
  pub sheet_file : IsFile files command.sheet sheet_bytes
  pub sheet_read : IsSheetRead sheet_bytes sheet
  pub modules : IsModulesText extension sheet text
  pub written : Appends before now text

-- The files are the texts of this extension, which is well formed, and of this datasheet. Of each behaviour, the instructions first and then the always-blocks, the
-- text that was written whole has the least period with which its own graph has a legal schedule in its widest windows, or that it has none with any; the reports with
-- this period, with twice and with four times as much, each with the mode by the rule and the chosen schedule in it; and the report of one less, whose cycle shows that
-- there is none. The check of a report finds no fault in any of them.
pub record SweptAnswer (files : Option NamedFiles) (command : SweepCommand) (before now : Option (List ℕ)) : Type 0 where
  pub bytes : List ℕ
  pub extension : ExtensionTree
  pub sheet_bytes : List ℕ
  pub sheet : Datasheet
  pub text : List ℕ
  pub file : IsFile files command.extension bytes
  pub elaborates : Elaborates bytes extension
  pub well_formed : (typed : TypedTextTree) × IsOf typed extension
  pub sheet_file : IsFile files command.sheet sheet_bytes
  pub sheet_read : IsSheetRead sheet_bytes sheet
  pub swept : IsSweepText extension sheet text
  pub written : Appends before now text

-- the first behaviour that is not scheduled was refused and its text written
pub record UnscheduledAnswer (files : Option NamedFiles) (words : List (List ℕ)) (error : List ℕ → TextErr) (before now : Option (List ℕ)) : Type 0 where
  pub command : Command
  pub schedules : Schedules command
  pub values : List Reading
  pub extension : ExtensionTree
  pub sheet : Datasheet
  pub others : List Reading
  pub text : List ℕ
  pub command_is : command_of words ≡ Some command
  pub read : AreRead files (slots_of command) (behind words) values
  pub values_are : values ≡ extension_read extension ∷ sheet_read sheet ∷ others
  pub refused : IsRefusedSchedule extension sheet (error text)
  pub written : Appends before now text

-- a behaviour has no legal schedule in the widest windows that it may have, and those before it have one: the line that names it was written, and the report of
-- its problem there, with a cycle that shows it
abbrev pub NoScheduleAnswer : Option NamedFiles → List (List ℕ) → Option (List ℕ) → Option (List ℕ) → Type 0
NoScheduleAnswer files words before now = UnscheduledAnswer files words (λ text. T.NoSchedule text) before now

-- the first behaviour that has too many operations to be swept was refused and its line written
pub record UnsweptAnswer (files : Option NamedFiles) (words : List (List ℕ)) (before now : Option (List ℕ)) : Type 0 where
  pub values : List Reading
  pub extension : ExtensionTree
  pub sheet : Datasheet
  pub line : List ℕ
  pub command_is : command_of words ≡ Some Sweep
  pub read : AreRead files (slots_of Sweep) (behind words) values
  pub values_are : values ≡ extension_read extension ∷ sheet_read sheet ∷ []
  pub refused : IsFirstLarge extension (behaviours_of extension) (W.TooManyOps line)
  pub written : Appends before now line

-- the text of an extension is refused; or a behaviour has more than 256 operations, and those before it have a schedule, or, for a sweep, no more either
abbrev pub ExtensionAnswer : Option NamedFiles → List (List ℕ) → Option (List ℕ) → Option (List ℕ) → Type 0
ExtensionAnswer files words before now =
    TextAnswer files words extension_status before now ⊎ (UnscheduledAnswer files words (λ text. T.TooManyOps text) before now ⊎ UnsweptAnswer files words before now)

-- the files are the texts of this extension, which is well formed, and of this image, whatever its words; and the text of the image's run on a core with
-- the extension, one instruction at a time, was written whole
pub record SteppedAnswer (files : Option NamedFiles) (command : SeqCommand) (before now : Option (List ℕ)) : Type 0 where
  pub bytes : List ℕ
  pub extension : ExtensionTree
  pub file : IsFile files command.extension bytes
  pub elaborates : Elaborates bytes extension
  pub well_formed : (text : TypedTextTree) × IsOf text extension
  pub program : List ℕ
  pub image : List ℕ
  pub program_file : IsFile files command.image program
  pub read : IsImageText program image
  pub written : Appends before now (run_text extension image command.steps)

-- The files are the texts of this extension, which is well formed, of this datasheet, of this image, and of these waits. A design
-- stands for the extension and the datasheet, and the text of rows of which the headline holds was written whole. An audit of it says yes.
pub record PipelineAnswer (files : Option NamedFiles) (command : PipelineCommand) (before now : Option (List ℕ)) : Type 0 where
  pub bytes : List ℕ
  pub extension : ExtensionTree
  pub sheet_bytes : List ℕ
  pub sheet : Datasheet
  pub program : List ℕ
  pub image : List ℕ
  pub waits_bytes : List ℕ
  pub waits : List ℕ
  pub text : List ℕ
  pub file : IsFile files command.extension bytes
  pub elaborates : Elaborates bytes extension
  pub well_formed : (typed : TypedTextTree) × IsOf typed extension
  pub sheet_file : IsFile files command.sheet sheet_bytes
  pub sheet_read : IsSheetRead sheet_bytes sheet
  pub image_file : IsFile files command.image program
  pub image_read : IsImageText program image
  pub waits_file : IsFile files command.waits waits_bytes
  pub waits_read : IsWaitsText waits_bytes waits
  pub runs : IsLawfulRun extension sheet image waits None command.cycles text
  pub audited : IsAuditedRun extension sheet image waits text
  pub written : Appends before now text

-- The files are the texts of this extension, which is well formed, of this datasheet, of this image, of these waits, and of the rows in which
-- the interrupt line is raised. A design stands for the extension and the datasheet, and the text of rows of which the headline holds was
-- written whole.
pub record InterruptedAnswer (files : Option NamedFiles) (command : InterruptedCommand) (before now : Option (List ℕ)) : Type 0 where
  pub bytes : List ℕ
  pub extension : ExtensionTree
  pub sheet_bytes : List ℕ
  pub sheet : Datasheet
  pub program : List ℕ
  pub image : List ℕ
  pub waits_bytes : List ℕ
  pub waits : List ℕ
  pub lines_bytes : List ℕ
  pub lines : List ℕ
  pub text : List ℕ
  pub file : IsFile files command.extension bytes
  pub elaborates : Elaborates bytes extension
  pub well_formed : (typed : TypedTextTree) × IsOf typed extension
  pub sheet_file : IsFile files command.sheet sheet_bytes
  pub sheet_read : IsSheetRead sheet_bytes sheet
  pub image_file : IsFile files command.image program
  pub image_read : IsImageText program image
  pub waits_file : IsFile files command.waits waits_bytes
  pub waits_read : IsWaitsText waits_bytes waits
  pub lines_file : IsFile files command.lines lines_bytes
  pub lines_read : IsLinesText lines_bytes lines
  pub runs : IsLawfulRun extension sheet image waits (Some lines) command.cycles text
  pub written : Appends before now text

-- The files are the texts of this extension, which is well formed, of this datasheet, of this image, and of these waits. A design
-- stands for the extension and the datasheet, and the dump of what the ports of its modules show was written whole, in rows of which
-- the headline holds.
pub record WaveAnswer (files : Option NamedFiles) (command : PipelineCommand) (before now : Option (List ℕ)) : Type 0 where
  pub bytes : List ℕ
  pub extension : ExtensionTree
  pub sheet_bytes : List ℕ
  pub sheet : Datasheet
  pub program : List ℕ
  pub image : List ℕ
  pub waits_bytes : List ℕ
  pub waits : List ℕ
  pub text : List ℕ
  pub file : IsFile files command.extension bytes
  pub elaborates : Elaborates bytes extension
  pub well_formed : (typed : TypedTextTree) × IsOf typed extension
  pub sheet_file : IsFile files command.sheet sheet_bytes
  pub sheet_read : IsSheetRead sheet_bytes sheet
  pub image_file : IsFile files command.image program
  pub image_read : IsImageText program image
  pub waits_file : IsFile files command.waits waits_bytes
  pub waits_read : IsWaitsText waits_bytes waits
  pub runs : IsLawfulWaveRun extension sheet image waits command.cycles text
  pub written : Appends before now text

-- The files are the texts of this extension, which is well formed, of this datasheet, of this image, and of these waits, and the last one is the text of a lawful run. A design
-- stands for the extension and the datasheet: rows that are lawful on it, and retire and write what the run of the image retires and writes one instruction at a time, have this
-- text, and the state behind them ends it. A yes was written.
pub record AuditAnswer (files : Option NamedFiles) (command : AuditCommand) (before now : Option (List ℕ)) : Type 0 where
  pub bytes : List ℕ
  pub extension : ExtensionTree
  pub sheet_bytes : List ℕ
  pub sheet : Datasheet
  pub program : List ℕ
  pub image : List ℕ
  pub waits_bytes : List ℕ
  pub waits : List ℕ
  pub trace : List ℕ
  pub file : IsFile files command.extension bytes
  pub elaborates : Elaborates bytes extension
  pub well_formed : (typed : TypedTextTree) × IsOf typed extension
  pub sheet_file : IsFile files command.sheet sheet_bytes
  pub sheet_read : IsSheetRead sheet_bytes sheet
  pub image_file : IsFile files command.image program
  pub image_read : IsImageText program image
  pub waits_file : IsFile files command.waits waits_bytes
  pub waits_read : IsWaitsText waits_bytes waits
  pub trace_file : IsFile files command.trace trace
  pub audited : IsAuditedRun extension sheet image waits trace
  pub written : Appends before now (codes "yes\n")

-- the first line of a trace that is not right, behind files that are all read and behaviours that are all scheduled, was refused and its line written
pub record TraceAnswer (files : Option NamedFiles) (words : List (List ℕ)) (before now : Option (List ℕ)) : Type 0 where
  pub values : List Reading
  pub extension : ExtensionTree
  pub sheet : Datasheet
  pub image : List ℕ
  pub waits : List ℕ
  pub trace : List ℕ
  pub error : AuditErr
  pub command_is : command_of words ≡ Some Audit
  pub read : AreRead files (slots_of Audit) (behind words) values
  pub values_are : values ≡ extension_read extension ∷ sheet_read sheet ∷ image_read image ∷ waits_read waits ∷ trace_read trace ∷ []
  pub faulty : IsFaultyRun extension sheet image waits trace error
  pub written : Appends before now (fault_line error)

-- The files are the texts of this extension, which is well formed, and of this datasheet. A design stands for both, and the summary of lawful rows of the image that is drawn
-- from the number was written whole.
pub record BenchAnswer (files : Option NamedFiles) (command : BenchCommand) (before now : Option (List ℕ)) : Type 0 where
  pub bytes : List ℕ
  pub extension : ExtensionTree
  pub sheet_bytes : List ℕ
  pub sheet : Datasheet
  pub text : List ℕ
  pub file : IsFile files command.extension bytes
  pub elaborates : Elaborates bytes extension
  pub well_formed : (typed : TypedTextTree) × IsOf typed extension
  pub sheet_file : IsFile files command.sheet sheet_bytes
  pub sheet_read : IsSheetRead sheet_bytes sheet
  pub runs : IsLawfulDrawnRun extension sheet command.number command.count text
  pub written : Appends before now text

-- the status that is due, or an answer that every other yields to
abbrev pub IsStatusOr : Status → Status → Type 0
IsStatusOr status result = (result ≡ status) ⊎ ((result ≡ ReadFault) ⊎ ((result ≡ WriteFault) ⊎ (result ≡ Memory)))

-- no count of the files that the words name rises
abbrev pub NoFileRises : (List ℕ → Type 0) → List Slot → List (List ℕ) → Type 0
NoFileRises Rises (Number most ∷ slots) (word ∷ words) = NoFileRises Rises slots words
NoFileRises Rises (File kind ∷ slots) (word ∷ words) = (Rises word → ⊥) × NoFileRises Rises slots words
NoFileRises Rises slots words = Unit {0}

-- what a complete answer asks: the words of a command, told files that are all read, no refusal of the command's own, and no count that rises
pub record Premises (files : Option NamedFiles) (words : List (List ℕ)) (counts counts_now : List ℕ → ℕ) (faults faults_now : ℕ) (command : Command) (values : List Reading) : Type 0 where
  pub command_is : command_of words ≡ Some command
  pub told : files ≢ None
  pub read : AreRead files (slots_of command) (behind words) values
  pub no_refusal : (status : Status) (line : List ℕ) → IsOwnRefusal command values status line → ⊥
  pub no_read_fault : NoFileRises (RoseIn counts counts_now) (slots_of command) (behind words)
  pub no_write_fault : Rose faults faults_now → ⊥

-- the output is written whole, or memory was not found and nothing was written
abbrev pub Completes : Command → List Reading → Option (List ℕ) → Option (List ℕ) → Status → Type 0
Completes command values before now result =
    ((result ≡ ok_status) × ((text : List ℕ) × IsOutput command values text × Appends before now text)) ⊎ ((result ≡ Memory) × (now ≡ before))
