-- The words of a command, and the table of commands (this project's choice).
use Rattle.std.specs.Prelude.{ℕ, ◌+◌, ◌-◌, ◌*◌, List, [], ◌∷◌, length, drop, map, is_some, Option, Some, None, Bool, true, false, ◌&&◌, if◌then◌else◌, nat_le, codes, String, string_bytes}
use Rattle.std.specs.Option.{option_and_then}
use Rattle.std.specs.Str.{bytes_eq}
use Rattle.std.specs.declared.alloc.Global.{Global}
use Rattle.ix_words.specs.declared.command.Command.{Command}
use Rattle.ix_words.specs.declared.command.Command.TheVariants.{RunImage, Check, Certify, Schedule, Build, Sweep, Seq, Assemble, RunExtension, Bench, Wave, RunInterrupted, Audit, Barrel}
use Rattle.ix_words.specs.declared.command.FileKind.TheVariants.{Image, Report, Extension, Sheet, Source, Waits, Lines, Trace}
use Rattle.ix_words.specs.declared.command.Slot.{Slot}
use Rattle.ix_words.specs.declared.command.Slot.TheVariants.{Number, File}

-- the value of a decimal digit
abbrev pub digit_value : ℕ → Option ℕ
digit_value b = if nat_le 48 b && nat_le b 57 then Some (b - 48) else None

-- the number that these decimal digits write behind those of `front`
abbrev pub digits_number : ℕ → List ℕ → Option ℕ
digits_number front [] = Some front
digits_number front (b ∷ rest) = option_and_then (λ digit. digits_number (10 * front + digit) rest) (digit_value b)

-- a number has one to ten decimal digits; leading zeros are read
abbrev pub number_of : List ℕ → Option ℕ
number_of word = if nat_le 1 (length word) && nat_le (length word) 10 then digits_number 0 word else None

-- the number, where it is at most this one
abbrev pub at_most : ℕ → ℕ → Option ℕ
at_most most n = if nat_le n most then Some n else None

-- the number that the word writes, where it is in the range
abbrev pub number_within : ℕ → List ℕ → Option ℕ
number_within most word = option_and_then (at_most most) (number_of word)

-- ---- the table of commands: the first word, and what stands behind it
abbrev pub word_of : Command → List ℕ
word_of RunImage = codes "run"
word_of Check = codes "check"
word_of Certify = codes "certify"
word_of Assemble = codes "asm"
word_of Seq = codes "seq"
word_of Schedule = codes "schedule"
word_of Build = codes "build"
word_of Sweep = codes "sweep"
word_of RunExtension = codes "run"
word_of Bench = codes "bench"
word_of Wave = codes "wave"
word_of RunInterrupted = codes "run"
word_of Audit = codes "audit"
word_of Barrel = codes "barrel"

-- the greatest number that an image is drawn from, and the greatest count of drawn words
abbrev pub most_number : ℕ
most_number = 4294967295

abbrev pub most_drawn : ℕ
most_drawn = 10000

-- numbers and files, in the order of the words
abbrev pub slots_of : Command → List Slot
slots_of RunImage = File Image ∷ Number 200000 ∷ []
slots_of Check = File Extension ∷ []
slots_of Certify = File Report ∷ []
slots_of Seq = File Extension ∷ File Image ∷ Number 200000 ∷ []
slots_of Assemble = File Extension ∷ File Source ∷ []
slots_of Schedule = File Extension ∷ File Sheet ∷ []
slots_of Build = File Extension ∷ File Sheet ∷ []
slots_of Sweep = File Extension ∷ File Sheet ∷ []
slots_of RunExtension = File Extension ∷ File Sheet ∷ File Image ∷ File Waits ∷ Number 200000 ∷ []
slots_of Bench = File Extension ∷ File Sheet ∷ Number most_number ∷ Number most_drawn ∷ []
slots_of Wave = File Extension ∷ File Sheet ∷ File Image ∷ File Waits ∷ Number 200000 ∷ []
slots_of RunInterrupted = File Extension ∷ File Sheet ∷ File Image ∷ File Waits ∷ File Lines ∷ Number 200000 ∷ []
slots_of Audit = File Extension ∷ File Sheet ∷ File Image ∷ File Waits ∷ File Trace ∷ []
slots_of Barrel = File Extension ∷ File Sheet ∷ File Image ∷ File Image ∷ Number 200000 ∷ []

-- the commands, in the order in which words are tried
abbrev pub commands : List Command
commands = RunImage ∷ Check ∷ Certify ∷ Seq ∷ Assemble ∷ Schedule ∷ Build ∷ Sweep ∷ RunExtension ∷ Bench ∷ Wave ∷ RunInterrupted ∷ Audit ∷ Barrel ∷ []

-- ---- which command words are
-- any word names a file; a number is at most the given one
abbrev pub fits_slot : Slot → List ℕ → Bool
fits_slot (File kind) word = true
fits_slot (Number most) word = is_some (number_within most word)

-- a word for each place, and no more
abbrev pub fits_slots : List Slot → List (List ℕ) → Bool
fits_slots [] [] = true
fits_slots [] (word ∷ words) = false
fits_slots (slot ∷ slots) [] = false
fits_slots (slot ∷ slots) (word ∷ words) = fits_slot slot word && fits_slots slots words

-- the words are those of this line of the table
abbrev pub is_command : Command → List (List ℕ) → Bool
is_command command [] = false
is_command command (word ∷ rest) = bytes_eq word (word_of command) && fits_slots (slots_of command) rest

-- the first of these commands whose words they are
abbrev pub first_command : List Command → List (List ℕ) → Option Command
first_command [] words = None
first_command (command ∷ rest) words = if is_command command words then Some command else first_command rest words

-- the command of these words, if they are one
abbrev pub command_of : List (List ℕ) → Option Command
command_of words = first_command commands words

-- the words behind the first
abbrev pub behind : List (List ℕ) → List (List ℕ)
behind words = drop 1 words

-- ---- run IMAGE CYCLES, with 0 to 200,000 cycles
pub record RunCommand : Type 0 where
  pub image : List ℕ
  pub cycles : ℕ

-- the run of this image, where the first word and the number are those of one
abbrev pub run_command : Bool → List ℕ → Option ℕ → Option RunCommand
run_command is_run image None = None
run_command is_run image (Some n) = if is_run then Some (record { image = image; cycles = n }) else None

-- the run that these words ask for, if they do
abbrev pub run_of : List (List ℕ) → Option RunCommand
run_of [] = None
run_of (command ∷ []) = None
run_of (command ∷ image ∷ []) = None
run_of (command ∷ image ∷ cycles ∷ []) = run_command (bytes_eq command (codes "run")) image (number_within 200000 cycles)
run_of (command ∷ image ∷ cycles ∷ more ∷ rest) = None

-- ---- check EXT
-- the extension that these words ask to be listed, if they do
abbrev pub extension_of : List (List ℕ) → Option (List ℕ)
extension_of [] = None
extension_of (command ∷ []) = None
extension_of (command ∷ extension ∷ []) = if bytes_eq command (codes "check") then Some extension else None
extension_of (command ∷ extension ∷ more ∷ rest) = None

-- ---- certify REPORT
-- the report that these words ask to be checked, if they do
abbrev pub report_of : List (List ℕ) → Option (List ℕ)
report_of [] = None
report_of (command ∷ []) = None
report_of (command ∷ report ∷ []) = if bytes_eq command (codes "certify") then Some report else None
report_of (command ∷ report ∷ more ∷ rest) = None

-- ---- asm EXT SOURCE
-- the extension and the source that these words ask to be assembled, if they do
pub record AsmCommand : Type 0 where
  pub extension : List ℕ
  pub source : List ℕ

abbrev pub source_of : List (List ℕ) → Option AsmCommand
source_of [] = None
source_of (command ∷ []) = None
source_of (command ∷ extension ∷ []) = None
source_of (command ∷ extension ∷ source ∷ []) = if bytes_eq command (codes "asm") then Some (record { extension = extension; source = source }) else None
source_of (command ∷ extension ∷ source ∷ more ∷ rest) = None

-- ---- schedule EXT SHEET
-- the extension and the datasheet for which these words ask for a report, if they do
pub record ScheduleCommand : Type 0 where
  pub extension : List ℕ
  pub sheet : List ℕ

abbrev pub schedule_of : List (List ℕ) → Option ScheduleCommand
schedule_of [] = None
schedule_of (command ∷ []) = None
schedule_of (command ∷ extension ∷ []) = None
schedule_of (command ∷ extension ∷ sheet ∷ []) = if bytes_eq command (codes "schedule") then Some (record { extension = extension; sheet = sheet }) else None
schedule_of (command ∷ extension ∷ sheet ∷ more ∷ rest) = None

-- ---- build EXT SHEET
-- the extension and the datasheet for which these words ask for modules, if they do
pub record BuildCommand : Type 0 where
  pub extension : List ℕ
  pub sheet : List ℕ

abbrev pub build_of : List (List ℕ) → Option BuildCommand
build_of [] = None
build_of (command ∷ []) = None
build_of (command ∷ extension ∷ []) = None
build_of (command ∷ extension ∷ sheet ∷ []) = if bytes_eq command (codes "build") then Some (record { extension = extension; sheet = sheet }) else None
build_of (command ∷ extension ∷ sheet ∷ more ∷ rest) = None

-- ---- sweep EXT SHEET
-- the extension and the datasheet for which these words ask for a sweep, if they do
pub record SweepCommand : Type 0 where
  pub extension : List ℕ
  pub sheet : List ℕ

abbrev pub sweep_of : List (List ℕ) → Option SweepCommand
sweep_of [] = None
sweep_of (command ∷ []) = None
sweep_of (command ∷ extension ∷ []) = None
sweep_of (command ∷ extension ∷ sheet ∷ []) = if bytes_eq command (codes "sweep") then Some (record { extension = extension; sheet = sheet }) else None
sweep_of (command ∷ extension ∷ sheet ∷ more ∷ rest) = None

-- ---- seq EXT IMAGE STEPS, with 0 to 200,000 steps
pub record SeqCommand : Type 0 where
  pub extension : List ℕ
  pub image : List ℕ
  pub steps : ℕ

abbrev pub seq_command : Bool → List ℕ → List ℕ → Option ℕ → Option SeqCommand
seq_command is_seq extension image None = None
seq_command is_seq extension image (Some n) = if is_seq then Some (record { extension = extension; image = image; steps = n }) else None

-- the sequential run that these words ask for, if they do
abbrev pub seq_of : List (List ℕ) → Option SeqCommand
seq_of [] = None
seq_of (command ∷ []) = None
seq_of (command ∷ extension ∷ []) = None
seq_of (command ∷ extension ∷ image ∷ []) = None
seq_of (command ∷ extension ∷ image ∷ steps ∷ []) = seq_command (bytes_eq command (codes "seq")) extension image (number_within 200000 steps)
seq_of (command ∷ extension ∷ image ∷ steps ∷ more ∷ rest) = None

-- ---- run EXT SHEET IMAGE WAITS CYCLES, with 0 to 200,000 cycles
pub record PipelineCommand : Type 0 where
  pub extension : List ℕ
  pub sheet : List ℕ
  pub image : List ℕ
  pub waits : List ℕ
  pub cycles : ℕ

-- the run with an extension that these files and this number are of, where the first word is that of one, as `run` or `wave`
abbrev pub pipeline_command : Bool → List ℕ → List ℕ → List ℕ → List ℕ → Option ℕ → Option PipelineCommand
pipeline_command is_run extension sheet image waits None = None
pipeline_command is_run extension sheet image waits (Some n) = if is_run then Some (record { extension = extension; sheet = sheet; image = image; waits = waits; cycles = n }) else None

-- the run that these words ask for, where the first is this one
abbrev pub run_by : List ℕ → List (List ℕ) → Option PipelineCommand
run_by word [] = None
run_by word (command ∷ []) = None
run_by word (command ∷ extension ∷ []) = None
run_by word (command ∷ extension ∷ sheet ∷ []) = None
run_by word (command ∷ extension ∷ sheet ∷ image ∷ []) = None
run_by word (command ∷ extension ∷ sheet ∷ image ∷ waits ∷ []) = None
run_by word (command ∷ extension ∷ sheet ∷ image ∷ waits ∷ cycles ∷ []) = pipeline_command (bytes_eq command word) extension sheet image waits (number_within 200000 cycles)
run_by word (command ∷ extension ∷ sheet ∷ image ∷ waits ∷ cycles ∷ more ∷ rest) = None

-- the run with an extension that these words ask for, if they do
abbrev pub pipeline_of : List (List ℕ) → Option PipelineCommand
pipeline_of words = run_by (codes "run") words

-- ---- wave EXT SHEET IMAGE WAITS CYCLES, with 0 to 200,000 cycles
-- the dump of such a run that these words ask for, if they do
abbrev pub wave_of : List (List ℕ) → Option PipelineCommand
wave_of words = run_by (codes "wave") words

-- ---- run EXT SHEET IMAGE WAITS LINES CYCLES, with 0 to 200,000 cycles
pub record InterruptedCommand : Type 0 where
  pub extension : List ℕ
  pub sheet : List ℕ
  pub image : List ℕ
  pub waits : List ℕ
  pub lines : List ℕ
  pub cycles : ℕ

-- the run with an extension and an interrupt line that these files and this number are of, where the first word is that of one
abbrev pub interrupted_command : Bool → List ℕ → List ℕ → List ℕ → List ℕ → List ℕ → Option ℕ → Option InterruptedCommand
interrupted_command is_run extension sheet image waits lines None = None
interrupted_command is_run extension sheet image waits lines (Some n) = if is_run then Some (record { extension = extension; sheet = sheet; image = image; waits = waits; lines = lines; cycles = n }) else None

-- the run with an interrupt line that these words ask for, if they do
abbrev pub interrupted_of : List (List ℕ) → Option InterruptedCommand
interrupted_of [] = None
interrupted_of (command ∷ []) = None
interrupted_of (command ∷ extension ∷ []) = None
interrupted_of (command ∷ extension ∷ sheet ∷ []) = None
interrupted_of (command ∷ extension ∷ sheet ∷ image ∷ []) = None
interrupted_of (command ∷ extension ∷ sheet ∷ image ∷ waits ∷ []) = None
interrupted_of (command ∷ extension ∷ sheet ∷ image ∷ waits ∷ lines ∷ []) = None
interrupted_of (command ∷ extension ∷ sheet ∷ image ∷ waits ∷ lines ∷ cycles ∷ []) = interrupted_command (bytes_eq command (codes "run")) extension sheet image waits lines (number_within 200000 cycles)
interrupted_of (command ∷ extension ∷ sheet ∷ image ∷ waits ∷ lines ∷ cycles ∷ more ∷ rest) = None

-- ---- audit EXT SHEET IMAGE WAITS TRACE
pub record AuditCommand : Type 0 where
  pub extension : List ℕ
  pub sheet : List ℕ
  pub image : List ℕ
  pub waits : List ℕ
  pub trace : List ℕ

-- the trace that these words ask to be judged, with the files that it is judged by, if they do
abbrev pub audit_of : List (List ℕ) → Option AuditCommand
audit_of [] = None
audit_of (command ∷ []) = None
audit_of (command ∷ extension ∷ []) = None
audit_of (command ∷ extension ∷ sheet ∷ []) = None
audit_of (command ∷ extension ∷ sheet ∷ image ∷ []) = None
audit_of (command ∷ extension ∷ sheet ∷ image ∷ waits ∷ []) = None
audit_of (command ∷ extension ∷ sheet ∷ image ∷ waits ∷ trace ∷ []) = if bytes_eq command (codes "audit") then Some (record { extension = extension; sheet = sheet; image = image; waits = waits; trace = trace }) else None
audit_of (command ∷ extension ∷ sheet ∷ image ∷ waits ∷ trace ∷ more ∷ rest) = None

-- ---- barrel EXT SHEET IMAGEA IMAGEB CYCLES, with 0 to 200,000 cycles
pub record BarrelCommand : Type 0 where
  pub extension : List ℕ
  pub sheet : List ℕ
  pub first : List ℕ
  pub second : List ℕ
  pub cycles : ℕ

-- the run of two harts in turn that these files and this number are of, where the first word is that of one
abbrev pub barrel_command : Bool → List ℕ → List ℕ → List ℕ → List ℕ → Option ℕ → Option BarrelCommand
barrel_command is_barrel extension sheet first second None = None
barrel_command is_barrel extension sheet first second (Some n) = if is_barrel then Some (record { extension = extension; sheet = sheet; first = first; second = second; cycles = n }) else None

-- the run of two harts in turn that these words ask for, if they do
abbrev pub barrel_of : List (List ℕ) → Option BarrelCommand
barrel_of [] = None
barrel_of (command ∷ []) = None
barrel_of (command ∷ extension ∷ []) = None
barrel_of (command ∷ extension ∷ sheet ∷ []) = None
barrel_of (command ∷ extension ∷ sheet ∷ first ∷ []) = None
barrel_of (command ∷ extension ∷ sheet ∷ first ∷ second ∷ []) = None
barrel_of (command ∷ extension ∷ sheet ∷ first ∷ second ∷ cycles ∷ []) = barrel_command (bytes_eq command (codes "barrel")) extension sheet first second (number_within 200000 cycles)
barrel_of (command ∷ extension ∷ sheet ∷ first ∷ second ∷ cycles ∷ more ∷ rest) = None

-- ---- bench EXT SHEET NUMBER COUNT, with a number of 32 bits and 0 to 10,000 drawn words
pub record BenchCommand : Type 0 where
  pub extension : List ℕ
  pub sheet : List ℕ
  pub number : ℕ
  pub count : ℕ

-- the summary of a drawn run that these files and numbers are of, where the first word is that of one
abbrev pub bench_command : Bool → List ℕ → List ℕ → Option ℕ → Option ℕ → Option BenchCommand
bench_command is_bench extension sheet None count = None
bench_command is_bench extension sheet (Some n) None = None
bench_command is_bench extension sheet (Some n) (Some c) = if is_bench then Some (record { extension = extension; sheet = sheet; number = n; count = c }) else None

-- the summary of a drawn run that these words ask for, if they do
abbrev pub bench_of : List (List ℕ) → Option BenchCommand
bench_of [] = None
bench_of (command ∷ []) = None
bench_of (command ∷ extension ∷ []) = None
bench_of (command ∷ extension ∷ sheet ∷ []) = None
bench_of (command ∷ extension ∷ sheet ∷ number ∷ []) = None
bench_of (command ∷ extension ∷ sheet ∷ number ∷ count ∷ []) = bench_command (bytes_eq command (codes "bench")) extension sheet (number_within most_number number) (number_within most_drawn count)
bench_of (command ∷ extension ∷ sheet ∷ number ∷ count ∷ more ∷ rest) = None

-- the bytes of the words
abbrev pub bytes_of : List (String Global) → List (List ℕ)
bytes_of words = map (λ word. string_bytes word) words
