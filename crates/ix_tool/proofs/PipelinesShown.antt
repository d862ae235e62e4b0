-- What an output of a run with an extension shows: its rows, or what the ports of the modules show in each.
use Rattle.std.proofs.Common.{◌≡◌, ℕ, List, [], ◌∷◌, Option, Some, None, Bool, true, false, refl, ap, sym, ◌∙◌, subst}
use Rattle.std.specs.Prelude.{codes}
use Rattle.std.specs.Str.{bytes_eq}
use Rattle.std.proofs.lemmas.Bool.{and_parts, true≢false}
use Rattle.ix_io.specs.Shelf.{NamedFiles}
use Rattle.ix_extension.specs.Extensions.{ExtensionTree}
use Rattle.ix_sheet.specs.declared.sheet.Sheet.{Sheet}
use Rattle.ix_listing.proofs.OneExtension.{is_well_formed}
use Rattle.ix_words.specs.declared.command.Command.{Command}
use Rattle.ix_words.specs.declared.command.Command.TheVariants.{RunImage, Check, Certify, Schedule, Build, Sweep, Seq, Assemble, RunExtension, Bench, Wave, RunInterrupted, Audit, Barrel}
use Rattle.ix_words.specs.declared.command.RunForm.{RunForm}
use Rattle.ix_words.specs.declared.command.RunForm.TheVariants.{Rows, Interrupted, Ports}
use Rattle.ix_words.specs.Readings.{Reading, extension_read, sheet_read, image_read, waits_read, number_read}
use Rattle.ix_words.specs.CommandLine.{word_of, is_command, slots_of, behind, number_within, PipelineCommand, pipeline_command, run_by, pipeline_of, wave_of}
use Rattle.ix_elab.specs.Elaborating.{Elaborates}
use Rattle.ix_extension.specs.WellFormed.{IsOf}
use Rattle.ix_tree.specs.TypedTrees.{TypedTextTree}
use Rattle.rv_asm.specs.ImageText.{IsImageText}
use Rattle.rv_asm.specs.WaitsText.{IsWaitsText}
use Rattle.rv_machine.specs.Promises.{IsRunnable, TextLaw}
use Rattle.rv_wave.specs.Waves.{WaveLaw}
use Rattle.ix_words.specs.WordsRead.{AreRead, IsFile, IsSheetRead}
use Rattle.ix_tool.specs.CommandOutput.{command_in, HasLines, IsExtensionRun, IsPipelineOutput, IsOutput, OutputAnswer, PipelineAnswer, WaveAnswer}
use Rattle.ix_tool.proofs.ImageWords.{words_of_text}
use Rattle.ix_tool.proofs.Lawfully.{audited}
use Rattle.ix_tool.proofs.Handlers.{handler_of}
use Rattle.ix_tool.proofs.Due.{both, one}
use Rattle.ix_tool.proofs.Headlines.{is_of, not_its_word}
use Rattle.ix_tool.proofs.Taking.{run_read, extension_is_read, report_is_read, source_is_read, schedule_is_read, seq_read, pipeline_read, interrupted_read, audit_read, barrel_read, bench_read}

-- ---- the words
abbrev asked_by : List ℕ → List ℕ → List ℕ → List ℕ → ℕ → PipelineCommand
asked_by a b c d n = record { extension = a; sheet = b; image = c; waits = d; cycles = n }

run_words_are : (by : Command) (words : List (List ℕ)) (a b c d e : List ℕ) (n : ℕ) (command : PipelineCommand) → is_command by words ≡ true → behind words ≡ a ∷ b ∷ c ∷ d ∷ e ∷ [] → number_within 200000 e ≡ Some n → run_by (word_of by) words ≡ Some command → asked_by a b c d n ≡ command
run_words_are by [] a b c d e n command is h w k = absurd (true≢false (sym is))
run_words_are by (word ∷ rest) a b c d e n command is h w k =
    let first = (and_parts _ _ is).0 in
    let named : run_by (word_of by) (word ∷ rest) ≡ Some (asked_by a b c d n) =
    ap (λ r. run_by (word_of by) (word ∷ r)) h ∙ ap (λ m. pipeline_command (bytes_eq word (word_of by)) a b c d m) w ∙ ap (λ p. pipeline_command p a b c d (Some n)) first in
    one (run_by (word_of by) (word ∷ rest)) (asked_by a b c d n) command named k

-- fewer words are no such run, nor are more
two_no_run : (by : List ℕ) (words : List (List ℕ)) (a : List ℕ) (command : Command) → is_command command words ≡ true → behind words ≡ a ∷ [] → run_by by words ≡ None
two_no_run by [] a command is e = absurd (true≢false (sym is))
two_no_run by (word ∷ rest) a command is e = ap (λ r. run_by by (word ∷ r)) e

three_no_run : (by : List ℕ) (words : List (List ℕ)) (a b : List ℕ) (command : Command) → is_command command words ≡ true → behind words ≡ a ∷ b ∷ [] → run_by by words ≡ None
three_no_run by [] a b command is e = absurd (true≢false (sym is))
three_no_run by (word ∷ rest) a b command is e = ap (λ r. run_by by (word ∷ r)) e

four_no_run : (by : List ℕ) (words : List (List ℕ)) (a b c : List ℕ) (command : Command) → is_command command words ≡ true → behind words ≡ a ∷ b ∷ c ∷ [] → run_by by words ≡ None
four_no_run by [] a b c command is e = absurd (true≢false (sym is))
four_no_run by (word ∷ rest) a b c command is e = ap (λ r. run_by by (word ∷ r)) e

five_no_run : (by : List ℕ) (words : List (List ℕ)) (a b c d : List ℕ) (command : Command) → is_command command words ≡ true → behind words ≡ a ∷ b ∷ c ∷ d ∷ [] → run_by by words ≡ None
five_no_run by [] a b c d command is e = absurd (true≢false (sym is))
five_no_run by (word ∷ rest) a b c d command is e = ap (λ r. run_by by (word ∷ r)) e

seven_no_run : (by : List ℕ) (words : List (List ℕ)) (a b c d e f : List ℕ) (command : Command) → is_command command words ≡ true → behind words ≡ a ∷ b ∷ c ∷ d ∷ e ∷ f ∷ [] → run_by by words ≡ None
seven_no_run by [] a b c d e f command is h = absurd (true≢false (sym is))
seven_no_run by (word ∷ rest) a b c d e f command is h = ap (λ r. run_by by (word ∷ r)) h

-- nor are as many behind another word
none_run : (t : Bool) (a b c d : List ℕ) (o : Option ℕ) → t ≡ false → pipeline_command t a b c d o ≡ None
none_run t a b c d None e = refl
none_run true a b c d (Some n) e = absurd (true≢false e)
none_run false a b c d (Some n) e = refl

six_no_run : (by : List ℕ) (command : Command) → bytes_eq (word_of command) by ≡ false → (words : List (List ℕ)) (a b c d n : List ℕ) → is_command command words ≡ true → behind words ≡ a ∷ b ∷ c ∷ d ∷ n ∷ [] → run_by by words ≡ None
six_no_run by command unlike [] a b c d n is e = absurd (true≢false (sym is))
six_no_run by command unlike (word ∷ rest) a b c d n is e =
    ap (λ r. run_by by (word ∷ r)) e
    ∙ none_run (bytes_eq word by) a b c d (number_within 200000 n) (not_its_word word (word_of command) by unlike (and_parts _ _ is).0)

audit_unlike : (form : RunForm) → bytes_eq (word_of Audit) (word_of (command_in form)) ≡ false
audit_unlike Rows = refl
audit_unlike Interrupted = refl
audit_unlike Ports = refl

barrel_unlike : (form : RunForm) → bytes_eq (word_of Barrel) (word_of (command_in form)) ≡ false
barrel_unlike Rows = refl
barrel_unlike Interrupted = refl
barrel_unlike Ports = refl

-- ---- the run
-- the files that the words name are read, and the text is that of their run in this form
record IsRunRead (form : RunForm) (files : Option NamedFiles) (command : PipelineCommand) (text : List ℕ) : Type 0 where
  bytes : List ℕ
  extension : ExtensionTree
  sheet_bytes : List ℕ
  sheet : Sheet
  program : List ℕ
  image : List ℕ
  waits_bytes : List ℕ
  waits : List ℕ
  file : IsFile files command.extension bytes
  elaborates : Elaborates bytes extension
  well_formed : (typed : TypedTextTree) × IsOf typed extension
  sheet_file : IsFile files command.sheet sheet_bytes
  sheet_is : IsSheetRead sheet_bytes sheet
  image_file : IsFile files command.image program
  image_is : IsImageText program image
  waits_file : IsFile files command.waits waits_bytes
  waits_are : IsWaitsText waits_bytes waits
  runs : IsExtensionRun form extension sheet image waits None command.cycles text

-- the run of these values is that of others with the same parts
run_of_parts : (form : RunForm) (x y : ExtensionTree) (s t : Sheet) (i j w v : List ℕ) (n m : ℕ) (text : List ℕ)
    → extension_read x ∷ sheet_read s ∷ image_read i ∷ waits_read w ∷ number_read n ∷ [] ≡ extension_read y ∷ sheet_read t ∷ image_read j ∷ waits_read v ∷ number_read m ∷ []
    → IsExtensionRun form y t j v None m text → IsExtensionRun form x s i w None n text
run_of_parts form x y s t i j w v n m text e h =
    let a : x ≡ y = cc in
    let b : s ≡ t = cc in
    let c : i ≡ j = cc in
    let d : w ≡ v = cc in
    let f : n ≡ m = cc in
    subst (λ z. IsExtensionRun form z s i w None n text) (sym a)
    (subst (λ z. IsExtensionRun form y z i w None n text) (sym b) (subst (λ z. IsExtensionRun form y t z w None n text) (sym c) (subst (λ z. IsExtensionRun form y t j z None n text) (sym d) (subst (λ z. IsExtensionRun form y t j v None z text) (sym f) h))))

run_read_of : (form : RunForm) (files : Option NamedFiles) (words : List (List ℕ)) (vs : List Reading) (text : List ℕ) (asked : PipelineCommand) → is_command (command_in form) words ≡ true → AreRead files (slots_of RunExtension) (behind words) vs → IsPipelineOutput form vs text
    → run_by (word_of (command_in form)) words ≡ Some asked → IsRunRead form files asked text
run_read_of form files words vs text asked is read there e =
    let r = pipeline_read files (behind words) vs read in
    subst (λ k. IsRunRead form files k text) (run_words_are (command_in form) words r.name r.other r.third r.fourth r.number r.cycles asked is r.words r.within e)
    (record {
      bytes = r.bytes;
      extension = r.extension;
      sheet_bytes = r.sheet_bytes;
      sheet = r.sheet;
      program = r.program;
      image = r.image;
      waits_bytes = r.waits_bytes;
      waits = r.waits;
      file = r.file;
      elaborates = r.elaborates;
      well_formed = is_well_formed r.bytes r.extension r.elaborates;
      sheet_file = r.sheet_file;
      sheet_is = r.sheet_is;
      image_file = r.program_file;
      image_is = r.text;
      waits_file = r.waits_file;
      waits_are = r.waits_are;
      runs = run_of_parts form r.extension there.extension r.sheet there.sheet r.image there.image r.waits there.waits r.cycles there.cycles text (sym r.values ∙ there.values_are) there.runs;
    })

found_of : (form : RunForm) → HasLines form None → (files : Option NamedFiles) (words : List (List ℕ)) (command : Command) (vs : List Reading) (text : List ℕ) (asked : PipelineCommand) → is_command command words ≡ true → AreRead files (slots_of command) (behind words) vs → IsOutput command vs text
    → run_by (word_of (command_in form)) words ≡ Some asked → IsRunRead form files asked text
found_of form without files words RunImage vs text asked is read out e =
    let r = run_read files (behind words) vs read in
    absurd (both (run_by (word_of (command_in form)) words) asked e (three_no_run (word_of (command_in form)) words r.name r.number RunImage is r.words))
found_of form without files words Check vs text asked is read out e =
    let r = extension_is_read files (behind words) vs read in
    absurd (both (run_by (word_of (command_in form)) words) asked e (two_no_run (word_of (command_in form)) words r.name Check is r.words))
found_of form without files words Certify vs text asked is read out e =
    let r = report_is_read files (behind words) vs read in
    absurd (both (run_by (word_of (command_in form)) words) asked e (two_no_run (word_of (command_in form)) words r.name Certify is r.words))
found_of form without files words Seq vs text asked is read out e =
    let r = seq_read files (behind words) vs read in
    absurd (both (run_by (word_of (command_in form)) words) asked e (four_no_run (word_of (command_in form)) words r.name r.other r.number Seq is r.words))
found_of form without files words Assemble vs text asked is read out e =
    let r = source_is_read files (behind words) vs read in
    absurd (both (run_by (word_of (command_in form)) words) asked e (three_no_run (word_of (command_in form)) words r.name r.other Assemble is r.words))
found_of form without files words Schedule vs text asked is read out e =
    let r = schedule_is_read files (behind words) vs read in
    absurd (both (run_by (word_of (command_in form)) words) asked e (three_no_run (word_of (command_in form)) words r.name r.other Schedule is r.words))
found_of form without files words Build vs text asked is read out e =
    let r = schedule_is_read files (behind words) vs read in
    absurd (both (run_by (word_of (command_in form)) words) asked e (three_no_run (word_of (command_in form)) words r.name r.other Build is r.words))
found_of form without files words Sweep vs text asked is read out e =
    let r = schedule_is_read files (behind words) vs read in
    absurd (both (run_by (word_of (command_in form)) words) asked e (three_no_run (word_of (command_in form)) words r.name r.other Sweep is r.words))
found_of form without files words Bench vs text asked is read out e =
    let r = bench_read files (behind words) vs read in
    absurd (both (run_by (word_of (command_in form)) words) asked e (five_no_run (word_of (command_in form)) words r.name r.other r.third r.fourth Bench is r.words))
found_of Rows without files words RunExtension vs text asked is read out e = run_read_of Rows files words vs text asked is read out e
found_of Ports without files words RunExtension vs text asked is read out e =
    let r = pipeline_read files (behind words) vs read in
    absurd (both (run_by (codes "wave") words) asked e (six_no_run (codes "wave") RunExtension refl words r.name r.other r.third r.fourth r.number is r.words))
found_of Interrupted without files words RunExtension vs text asked is read out e = absurd without
found_of Interrupted without files words Wave vs text asked is read out e = absurd without
found_of Rows without files words Wave vs text asked is read out e =
    let r = pipeline_read files (behind words) vs read in
    absurd (both (run_by (codes "run") words) asked e (six_no_run (codes "run") Wave refl words r.name r.other r.third r.fourth r.number is r.words))
found_of Ports without files words Wave vs text asked is read out e = run_read_of Ports files words vs text asked is read out e
found_of form without files words RunInterrupted vs text asked is read out e =
    let r = interrupted_read files (behind words) vs read in
    absurd (both (run_by (word_of (command_in form)) words) asked e (seven_no_run (word_of (command_in form)) words r.name r.other r.third r.fourth r.fifth r.number RunInterrupted is r.words))
found_of form without files words Audit vs text asked is read out e =
    let r = audit_read files (behind words) vs read in
    absurd (both (run_by (word_of (command_in form)) words) asked e (six_no_run (word_of (command_in form)) Audit (audit_unlike form) words r.name r.other r.third r.fourth r.fifth is r.words))
found_of form without files words Barrel vs text asked is read out e =
    let r = barrel_read files (behind words) vs read in
    absurd (both (run_by (word_of (command_in form)) words) asked e (six_no_run (word_of (command_in form)) Barrel (barrel_unlike form) words r.name r.other r.third r.fourth r.number is r.words))

found : (form : RunForm) → HasLines form None → (files : Option NamedFiles) (words : List (List ℕ)) (before now : Option (List ℕ)) → (o : OutputAnswer files words before now) → (asked : PipelineCommand) → run_by (word_of (command_in form)) words ≡ Some asked → IsRunRead form files asked o.text
found form without files words before now o asked e = found_of form without files words o.command o.values o.text asked (is_of words o.command o.command_is) o.read o.output e

-- it can be run
runnable : {form : RunForm} {files : Option NamedFiles} {command : PipelineCommand} {text : List ℕ} → (r : IsRunRead form files command text) → IsRunnable r.runs.design r.image
runnable r = record { stands = r.runs.stands; handler = handler_of r.runs.design r.sheet_bytes r.sheet r.runs.sheet_is r.sheet_is.sheet_is; words = words_of_text r.program r.image r.image_is }

-- ---- its rows are lawful
pub pipelined : TextLaw → (files : Option NamedFiles) (words : List (List ℕ)) (before now : Option (List ℕ)) → OutputAnswer files words before now → (asked : PipelineCommand) → pipeline_of words ≡ Some asked → PipelineAnswer files asked before now
pipelined law files words before now o asked e =
    let r = found Rows tt files words before now o asked e in
    let lawful = law r.runs.design r.image r.waits None asked.cycles o.text (runnable r) r.runs.runs in
    record {
      bytes = r.bytes;
      extension = r.extension;
      sheet_bytes = r.sheet_bytes;
      sheet = r.sheet;
      program = r.program;
      image = r.image;
      waits_bytes = r.waits_bytes;
      waits = r.waits;
      text = o.text;
      file = r.file;
      elaborates = r.elaborates;
      well_formed = r.well_formed;
      sheet_file = r.sheet_file;
      sheet_read = r.sheet_is;
      image_file = r.image_file;
      image_read = r.image_is;
      waits_file = r.waits_file;
      waits_read = r.waits_are;
      runs = record {
        design = r.runs.design;
        stands = r.runs.stands;
        extension_is = r.runs.extension_is;
        sheet_is = r.runs.sheet_is;
        runs = lawful;
      };
      audited = record {
        design = r.runs.design;
        stands = r.runs.stands;
        extension_is = r.runs.extension_is;
        sheet_is = r.runs.sheet_is;
        audited = audited r.runs.design r.image r.waits asked.cycles o.text lawful;
      };
      written = o.written;
    }

pub waved : WaveLaw → (files : Option NamedFiles) (words : List (List ℕ)) (before now : Option (List ℕ)) → OutputAnswer files words before now → (asked : PipelineCommand) → wave_of words ≡ Some asked → WaveAnswer files asked before now
waved law files words before now o asked e =
    let r = found Ports tt files words before now o asked e in
    record {
      bytes = r.bytes;
      extension = r.extension;
      sheet_bytes = r.sheet_bytes;
      sheet = r.sheet;
      program = r.program;
      image = r.image;
      waits_bytes = r.waits_bytes;
      waits = r.waits;
      text = o.text;
      file = r.file;
      elaborates = r.elaborates;
      well_formed = r.well_formed;
      sheet_file = r.sheet_file;
      sheet_read = r.sheet_is;
      image_file = r.image_file;
      image_read = r.image_is;
      waits_file = r.waits_file;
      waits_read = r.waits_are;
      runs = record {
        design = r.runs.design;
        stands = r.runs.stands;
        extension_is = r.runs.extension_is;
        sheet_is = r.runs.sheet_is;
        runs = law r.runs.design r.image r.waits asked.cycles o.text (runnable r) r.runs.runs;
      };
      written = o.written;
    }
