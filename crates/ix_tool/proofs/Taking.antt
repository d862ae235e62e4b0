-- What the words behind the first of each command are read as, and that a command takes it.
use Rattle.std.proofs.Common.{◌≡◌, ℕ, ◌≤◌, List, [], ◌∷◌, Option, Some, None, Bool, true, false, refl, ap, sym, ◌∙◌, subst}
use Rattle.std.specs.Prelude.{nat_le, if◌then◌else◌}
use Rattle.std.specs.Option.{option_and_then}
use Rattle.std.proofs.lemmas.Bool.{leb-true}
use Rattle.ix_io.specs.Shelf.{NamedFiles}
use Rattle.ix_cert.specs.Certificates.{IsFaultless}
use Rattle.ix_words.specs.declared.command.Command.{Command}
use Rattle.ix_words.specs.declared.command.Command.TheVariants.{RunImage, Check, Certify, Schedule, Build, Sweep, Seq, Assemble, RunExtension, Bench, Wave, RunInterrupted, Audit, Barrel}
use Rattle.ix_words.specs.declared.command.FileKind.TheVariants.{Image, Report, Extension, Sheet, Source as source_kind, Waits, Lines, Trace as trace_kind}
use Rattle.ix_words.specs.Readings.{Reading, number_read, image_read, report_read, extension_read, sheet_read, source_read, waits_read, lines_read, trace_read}
use Rattle.rv_asm.specs.ImageText.{IsImageText}
use Rattle.rv_asm.specs.WaitsText.{IsWaitsText}
use Rattle.rv_asm.specs.LinesText.{IsLinesText}
use Rattle.ix_extension.specs.Extensions.{ExtensionTree}
use Rattle.ix_elab.specs.Elaborating.{Elaborates}
use Rattle.ix_listing.proofs.OneExtension.{is_well_formed}
use Rattle.ix_words.specs.CommandLine.{slots_of, number_of, at_most, number_within, most_number, most_drawn}
use Rattle.ix_words.specs.WordsRead.{IsReadAs, IsFile, AreRead, IsSheetRead}
use Rattle.ix_tool.specs.CommandOutput.{TakesSheet, TakesPipeline, TakesInterrupted, TakesAudit, TakesBarrel, TakesBench, Takes}
use Rattle.ix_sheet.specs.declared.sheet.Sheet.{Sheet as Datasheet}
use Rattle.ix_schedules.proofs.Named.{names_are}
use Rattle.ix_tool.proofs.Given.{given_by}
use Rattle.ix_tool.proofs.NearStages.{near_of}

-- ---- what a file's text is read as
image_of : (bytes : List ℕ) (v : Reading) → IsReadAs Image bytes v → (image : List ℕ) × (v ≡ image_read image) × IsImageText bytes image
image_of bytes (image_read image) r = (image, refl, r)
image_of bytes (number_read n) r = absurd r
image_of bytes report_read r = absurd r
image_of bytes (extension_read x) r = absurd r
image_of bytes (source_read x) r = absurd r
image_of bytes (sheet_read x) r = absurd r
image_of bytes (waits_read x) r = absurd r
image_of bytes (lines_read x) r = absurd r
image_of bytes (trace_read x) r = absurd r

report_in : (bytes : List ℕ) (v : Reading) → IsReadAs Report bytes v → (v ≡ report_read) × IsFaultless bytes
report_in bytes report_read r = (refl, r)
report_in bytes (image_read image) r = absurd r
report_in bytes (number_read n) r = absurd r
report_in bytes (extension_read x) r = absurd r
report_in bytes (source_read x) r = absurd r
report_in bytes (sheet_read x) r = absurd r
report_in bytes (waits_read x) r = absurd r
report_in bytes (lines_read x) r = absurd r
report_in bytes (trace_read x) r = absurd r

extension_in : (bytes : List ℕ) (v : Reading) → IsReadAs Extension bytes v → (x : ExtensionTree) × (v ≡ extension_read x) × Elaborates bytes x
extension_in bytes (extension_read x) r = (x, refl, r)
extension_in bytes (image_read image) r = absurd r
extension_in bytes (number_read n) r = absurd r
extension_in bytes report_read r = absurd r
extension_in bytes (source_read x) r = absurd r
extension_in bytes (sheet_read x) r = absurd r
extension_in bytes (waits_read x) r = absurd r
extension_in bytes (lines_read x) r = absurd r
extension_in bytes (trace_read x) r = absurd r

source_in : (bytes : List ℕ) (v : Reading) → IsReadAs source_kind bytes v → v ≡ source_read bytes
source_in bytes (source_read text) r = ap (λ t. source_read t) r
source_in bytes (image_read image) r = absurd r
source_in bytes (number_read n) r = absurd r
source_in bytes report_read r = absurd r
source_in bytes (extension_read x) r = absurd r
source_in bytes (sheet_read x) r = absurd r
source_in bytes (waits_read x) r = absurd r
source_in bytes (lines_read x) r = absurd r
source_in bytes (trace_read x) r = absurd r

sheet_in : (bytes : List ℕ) (v : Reading) → IsReadAs Sheet bytes v → (sheet : Datasheet) × (v ≡ sheet_read sheet) × IsSheetRead bytes sheet
sheet_in bytes (sheet_read sheet) r = (sheet, refl, r)
sheet_in bytes (image_read image) r = absurd r
sheet_in bytes (number_read n) r = absurd r
sheet_in bytes report_read r = absurd r
sheet_in bytes (extension_read x) r = absurd r
sheet_in bytes (source_read x) r = absurd r
sheet_in bytes (waits_read x) r = absurd r
sheet_in bytes (lines_read x) r = absurd r
sheet_in bytes (trace_read x) r = absurd r

waits_in : (bytes : List ℕ) (v : Reading) → IsReadAs Waits bytes v → (waits : List ℕ) × (v ≡ waits_read waits) × IsWaitsText bytes waits
waits_in bytes (waits_read waits) r = (waits, refl, r)
waits_in bytes (image_read x) r = absurd r
waits_in bytes (number_read x) r = absurd r
waits_in bytes report_read r = absurd r
waits_in bytes (extension_read x) r = absurd r
waits_in bytes (sheet_read x) r = absurd r
waits_in bytes (source_read x) r = absurd r
waits_in bytes (lines_read x) r = absurd r
waits_in bytes (trace_read x) r = absurd r

lines_in : (bytes : List ℕ) (v : Reading) → IsReadAs Lines bytes v → (lines : List ℕ) × (v ≡ lines_read lines) × IsLinesText bytes lines
lines_in bytes (lines_read lines) r = (lines, refl, r)
lines_in bytes (image_read x) r = absurd r
lines_in bytes (number_read x) r = absurd r
lines_in bytes report_read r = absurd r
lines_in bytes (extension_read x) r = absurd r
lines_in bytes (sheet_read x) r = absurd r
lines_in bytes (source_read x) r = absurd r
lines_in bytes (waits_read x) r = absurd r
lines_in bytes (trace_read x) r = absurd r

trace_in : (bytes : List ℕ) (v : Reading) → IsReadAs trace_kind bytes v → v ≡ trace_read bytes
trace_in bytes (trace_read text) r = ap (λ t. trace_read t) r
trace_in bytes (image_read image) r = absurd r
trace_in bytes (number_read n) r = absurd r
trace_in bytes report_read r = absurd r
trace_in bytes (extension_read x) r = absurd r
trace_in bytes (source_read x) r = absurd r
trace_in bytes (sheet_read x) r = absurd r
trace_in bytes (waits_read x) r = absurd r
trace_in bytes (lines_read x) r = absurd r

pub record IsRunRead (files : Option NamedFiles) (rest : List (List ℕ)) (vs : List Reading) : Type 0 where
  pub name : List ℕ
  pub number : List ℕ
  pub bytes : List ℕ
  pub image : List ℕ
  pub cycles : ℕ
  pub words : rest ≡ name ∷ number ∷ []
  pub values : vs ≡ image_read image ∷ number_read cycles ∷ []
  pub file : IsFile files name bytes
  pub text : IsImageText bytes image
  pub within : number_within 200000 number ≡ Some cycles

pub run_read : (files : Option NamedFiles) (rest : List (List ℕ)) (vs : List Reading) → AreRead files (slots_of RunImage) rest vs → IsRunRead files rest vs
run_read files [] vs h = absurd h
run_read files (a ∷ rest) [] h = absurd h
run_read files (a ∷ []) (v ∷ vs) h = absurd h.1
run_read files (a ∷ b ∷ rest) (v ∷ []) h = absurd h.1
run_read files (a ∷ b ∷ c ∷ rest) (v ∷ u ∷ vs) h = absurd h.1.1
run_read files (a ∷ b ∷ []) (v ∷ u ∷ w ∷ vs) h = absurd h.1.1
run_read files (a ∷ b ∷ []) (v ∷ u ∷ []) h =
    let i = image_of h.0.0 v h.0.2 in
    record {
      name = a;
      number = b;
      bytes = h.0.0;
      image = i.0;
      cycles = h.1.0.0;
      words = refl;
      values = ap (λ x. x ∷ u ∷ []) i.1 ∙ ap (λ y. image_read i.0 ∷ y ∷ []) h.1.0.2;
      file = h.0.1;
      text = i.2;
      within = h.1.0.1;
    }

pub record IsReportRead (files : Option NamedFiles) (rest : List (List ℕ)) (vs : List Reading) : Type 0 where
  pub name : List ℕ
  pub bytes : List ℕ
  pub words : rest ≡ name ∷ []
  pub values : vs ≡ report_read ∷ []
  pub file : IsFile files name bytes
  pub faultless : IsFaultless bytes

pub report_is_read : (files : Option NamedFiles) (rest : List (List ℕ)) (vs : List Reading) → AreRead files (slots_of Certify) rest vs → IsReportRead files rest vs
report_is_read files [] vs h = absurd h
report_is_read files (a ∷ rest) [] h = absurd h
report_is_read files (a ∷ b ∷ rest) (v ∷ vs) h = absurd h.1
report_is_read files (a ∷ []) (v ∷ u ∷ vs) h = absurd h.1
report_is_read files (a ∷ []) (v ∷ []) h =
    let r = report_in h.0.0 v h.0.2 in
    record { name = a; bytes = h.0.0; words = refl; values = ap (λ x. x ∷ []) r.0; file = h.0.1; faultless = r.1 }

pub record IsExtensionRead (files : Option NamedFiles) (rest : List (List ℕ)) (vs : List Reading) : Type 0 where
  pub name : List ℕ
  pub bytes : List ℕ
  pub extension : ExtensionTree
  pub words : rest ≡ name ∷ []
  pub values : vs ≡ extension_read extension ∷ []
  pub file : IsFile files name bytes
  pub elaborates : Elaborates bytes extension

pub extension_is_read : (files : Option NamedFiles) (rest : List (List ℕ)) (vs : List Reading) → AreRead files (slots_of Check) rest vs → IsExtensionRead files rest vs
extension_is_read files [] vs h = absurd h
extension_is_read files (a ∷ rest) [] h = absurd h
extension_is_read files (a ∷ b ∷ rest) (v ∷ vs) h = absurd h.1
extension_is_read files (a ∷ []) (v ∷ u ∷ vs) h = absurd h.1
extension_is_read files (a ∷ []) (v ∷ []) h =
    let r = extension_in h.0.0 v h.0.2 in
    record { name = a; bytes = h.0.0; extension = r.0; words = refl; values = ap (λ x. x ∷ []) r.1; file = h.0.1; elaborates = r.2 }

pub record IsSourceRead (files : Option NamedFiles) (rest : List (List ℕ)) (vs : List Reading) : Type 0 where
  pub name : List ℕ
  pub other : List ℕ
  pub bytes : List ℕ
  pub extension : ExtensionTree
  pub source : List ℕ
  pub words : rest ≡ name ∷ other ∷ []
  pub values : vs ≡ extension_read extension ∷ source_read source ∷ []
  pub file : IsFile files name bytes
  pub elaborates : Elaborates bytes extension
  pub source_file : IsFile files other source

pub source_is_read : (files : Option NamedFiles) (rest : List (List ℕ)) (vs : List Reading) → AreRead files (slots_of Assemble) rest vs → IsSourceRead files rest vs
source_is_read files [] vs h = absurd h
source_is_read files (a ∷ rest) [] h = absurd h
source_is_read files (a ∷ []) (v ∷ vs) h = absurd h.1
source_is_read files (a ∷ b ∷ rest) (v ∷ []) h = absurd h.1
source_is_read files (a ∷ b ∷ c ∷ rest) (v ∷ u ∷ vs) h = absurd h.1.1
source_is_read files (a ∷ b ∷ []) (v ∷ u ∷ w ∷ vs) h = absurd h.1.1
source_is_read files (a ∷ b ∷ []) (v ∷ u ∷ []) h =
    let x = extension_in h.0.0 v h.0.2 in
    record {
      name = a;
      other = b;
      bytes = h.0.0;
      extension = x.0;
      source = h.1.0.0;
      words = refl;
      values = ap (λ y. y ∷ u ∷ []) x.1 ∙ ap (λ y. extension_read x.0 ∷ y ∷ []) (source_in h.1.0.0 u h.1.0.2);
      file = h.0.1;
      elaborates = x.2;
      source_file = h.1.0.1;
    }

pub record IsScheduleRead (files : Option NamedFiles) (rest : List (List ℕ)) (vs : List Reading) : Type 0 where
  pub name : List ℕ
  pub other : List ℕ
  pub bytes : List ℕ
  pub extension : ExtensionTree
  pub sheet_bytes : List ℕ
  pub sheet : Datasheet
  pub words : rest ≡ name ∷ other ∷ []
  pub values : vs ≡ extension_read extension ∷ sheet_read sheet ∷ []
  pub file : IsFile files name bytes
  pub elaborates : Elaborates bytes extension
  pub sheet_file : IsFile files other sheet_bytes
  pub sheet_is : IsSheetRead sheet_bytes sheet

pub schedule_is_read : (files : Option NamedFiles) (rest : List (List ℕ)) (vs : List Reading) → AreRead files (slots_of Schedule) rest vs → IsScheduleRead files rest vs
schedule_is_read files [] vs h = absurd h
schedule_is_read files (a ∷ rest) [] h = absurd h
schedule_is_read files (a ∷ []) (v ∷ vs) h = absurd h.1
schedule_is_read files (a ∷ b ∷ rest) (v ∷ []) h = absurd h.1
schedule_is_read files (a ∷ b ∷ c ∷ rest) (v ∷ u ∷ vs) h = absurd h.1.1
schedule_is_read files (a ∷ b ∷ []) (v ∷ u ∷ w ∷ vs) h = absurd h.1.1
schedule_is_read files (a ∷ b ∷ []) (v ∷ u ∷ []) h =
    let x = extension_in h.0.0 v h.0.2 in
    let d = sheet_in h.1.0.0 u h.1.0.2 in
    record {
      name = a;
      other = b;
      bytes = h.0.0;
      extension = x.0;
      sheet_bytes = h.1.0.0;
      sheet = d.0;
      words = refl;
      values = ap (λ y. y ∷ u ∷ []) x.1 ∙ ap (λ y. extension_read x.0 ∷ y ∷ []) d.1;
      file = h.0.1;
      elaborates = x.2;
      sheet_file = h.1.0.1;
      sheet_is = d.2;
    }

pub record IsSeqRead (files : Option NamedFiles) (rest : List (List ℕ)) (vs : List Reading) : Type 0 where
  pub name : List ℕ
  pub other : List ℕ
  pub number : List ℕ
  pub bytes : List ℕ
  pub extension : ExtensionTree
  pub program : List ℕ
  pub image : List ℕ
  pub steps : ℕ
  pub words : rest ≡ name ∷ other ∷ number ∷ []
  pub values : vs ≡ extension_read extension ∷ image_read image ∷ number_read steps ∷ []
  pub file : IsFile files name bytes
  pub elaborates : Elaborates bytes extension
  pub program_file : IsFile files other program
  pub text : IsImageText program image
  pub within : number_within 200000 number ≡ Some steps

pub seq_read : (files : Option NamedFiles) (rest : List (List ℕ)) (vs : List Reading) → AreRead files (slots_of Seq) rest vs → IsSeqRead files rest vs
seq_read files [] vs h = absurd h
seq_read files (a ∷ rest) [] h = absurd h
seq_read files (a ∷ []) (v ∷ vs) h = absurd h.1
seq_read files (a ∷ b ∷ rest) (v ∷ []) h = absurd h.1
seq_read files (a ∷ b ∷ []) (v ∷ u ∷ vs) h = absurd h.1.1
seq_read files (a ∷ b ∷ c ∷ rest) (v ∷ u ∷ []) h = absurd h.1.1
seq_read files (a ∷ b ∷ c ∷ d ∷ rest) (v ∷ u ∷ w ∷ vs) h = absurd h.1.1.1
seq_read files (a ∷ b ∷ c ∷ []) (v ∷ u ∷ w ∷ z ∷ vs) h = absurd h.1.1.1
seq_read files (a ∷ b ∷ c ∷ []) (v ∷ u ∷ w ∷ []) h =
    let x = extension_in h.0.0 v h.0.2 in
    let i = image_of h.1.0.0 u h.1.0.2 in
    record {
      name = a;
      other = b;
      number = c;
      bytes = h.0.0;
      extension = x.0;
      program = h.1.0.0;
      image = i.0;
      steps = h.1.1.0.0;
      words = refl;
      values = ap (λ y. y ∷ u ∷ w ∷ []) x.1 ∙ ap (λ y. extension_read x.0 ∷ y ∷ w ∷ []) i.1 ∙ ap (λ y. extension_read x.0 ∷ image_read i.0 ∷ y ∷ []) h.1.1.0.2;
      file = h.0.1;
      elaborates = x.2;
      program_file = h.1.0.1;
      text = i.2;
      within = h.1.1.0.1;
    }

pub record IsPipelineRead (files : Option NamedFiles) (rest : List (List ℕ)) (vs : List Reading) : Type 0 where
  pub name : List ℕ
  pub other : List ℕ
  pub third : List ℕ
  pub fourth : List ℕ
  pub number : List ℕ
  pub bytes : List ℕ
  pub extension : ExtensionTree
  pub sheet_bytes : List ℕ
  pub sheet : Datasheet
  pub program : List ℕ
  pub image : List ℕ
  pub waits_bytes : List ℕ
  pub waits : List ℕ
  pub cycles : ℕ
  pub words : rest ≡ name ∷ other ∷ third ∷ fourth ∷ number ∷ []
  pub values : vs ≡ extension_read extension ∷ sheet_read sheet ∷ image_read image ∷ waits_read waits ∷ number_read cycles ∷ []
  pub file : IsFile files name bytes
  pub elaborates : Elaborates bytes extension
  pub sheet_file : IsFile files other sheet_bytes
  pub sheet_is : IsSheetRead sheet_bytes sheet
  pub program_file : IsFile files third program
  pub text : IsImageText program image
  pub waits_file : IsFile files fourth waits_bytes
  pub waits_are : IsWaitsText waits_bytes waits
  pub within : number_within 200000 number ≡ Some cycles

pub pipeline_read : (files : Option NamedFiles) (rest : List (List ℕ)) (vs : List Reading) → AreRead files (slots_of RunExtension) rest vs → IsPipelineRead files rest vs
pipeline_read files [] vs h = absurd h
pipeline_read files (a ∷ rest) [] h = absurd h
pipeline_read files (a ∷ []) (v ∷ vs) h = absurd h.1
pipeline_read files (a ∷ b ∷ rest) (v ∷ []) h = absurd h.1
pipeline_read files (a ∷ b ∷ []) (v ∷ u ∷ vs) h = absurd h.1.1
pipeline_read files (a ∷ b ∷ c ∷ rest) (v ∷ u ∷ []) h = absurd h.1.1
pipeline_read files (a ∷ b ∷ c ∷ []) (v ∷ u ∷ w ∷ vs) h = absurd h.1.1.1
pipeline_read files (a ∷ b ∷ c ∷ d ∷ rest) (v ∷ u ∷ w ∷ []) h = absurd h.1.1.1
pipeline_read files (a ∷ b ∷ c ∷ d ∷ []) (v ∷ u ∷ w ∷ z ∷ vs) h = absurd h.1.1.1.1
pipeline_read files (a ∷ b ∷ c ∷ d ∷ e ∷ rest) (v ∷ u ∷ w ∷ z ∷ []) h = absurd h.1.1.1.1
pipeline_read files (a ∷ b ∷ c ∷ d ∷ e ∷ f ∷ rest) (v ∷ u ∷ w ∷ z ∷ y ∷ vs) h = absurd h.1.1.1.1.1
pipeline_read files (a ∷ b ∷ c ∷ d ∷ e ∷ []) (v ∷ u ∷ w ∷ z ∷ y ∷ t ∷ vs) h = absurd h.1.1.1.1.1
pipeline_read files (a ∷ b ∷ c ∷ d ∷ e ∷ []) (v ∷ u ∷ w ∷ z ∷ y ∷ []) h =
    let x = extension_in h.0.0 v h.0.2 in
    let s = sheet_in h.1.0.0 u h.1.0.2 in
    let i = image_of h.1.1.0.0 w h.1.1.0.2 in
    let m = waits_in h.1.1.1.0.0 z h.1.1.1.0.2 in
    record {
      name = a;
      other = b;
      third = c;
      fourth = d;
      number = e;
      bytes = h.0.0;
      extension = x.0;
      sheet_bytes = h.1.0.0;
      sheet = s.0;
      program = h.1.1.0.0;
      image = i.0;
      waits_bytes = h.1.1.1.0.0;
      waits = m.0;
      cycles = h.1.1.1.1.0.0;
      words = refl;
      values = ap (λ r. r ∷ u ∷ w ∷ z ∷ y ∷ []) x.1 ∙ ap (λ r. extension_read x.0 ∷ r ∷ w ∷ z ∷ y ∷ []) s.1 ∙ ap (λ r. extension_read x.0 ∷ sheet_read s.0 ∷ r ∷ z ∷ y ∷ []) i.1
          ∙ ap (λ r. extension_read x.0 ∷ sheet_read s.0 ∷ image_read i.0 ∷ r ∷ y ∷ []) m.1 ∙ ap (λ r. extension_read x.0 ∷ sheet_read s.0 ∷ image_read i.0 ∷ waits_read m.0 ∷ r ∷ []) h.1.1.1.1.0.2;
      file = h.0.1;
      elaborates = x.2;
      sheet_file = h.1.0.1;
      sheet_is = s.2;
      program_file = h.1.1.0.1;
      text = i.2;
      waits_file = h.1.1.1.0.1;
      waits_are = m.2;
      within = h.1.1.1.1.0.1;
    }

pipeline_takes : (files : Option NamedFiles) (rest : List (List ℕ)) (vs : List Reading) → AreRead files (slots_of RunExtension) rest vs → TakesPipeline vs
pipeline_takes files rest vs h =
    let r = pipeline_read files rest vs h in
    subst TakesPipeline (sym r.values) (is_well_formed r.bytes r.extension r.elaborates, names_are r.bytes r.extension r.elaborates, r.sheet_is.valid)

pub record IsInterruptedRead (files : Option NamedFiles) (rest : List (List ℕ)) (vs : List Reading) : Type 0 where
  pub name : List ℕ
  pub other : List ℕ
  pub third : List ℕ
  pub fourth : List ℕ
  pub fifth : List ℕ
  pub number : List ℕ
  pub bytes : List ℕ
  pub extension : ExtensionTree
  pub sheet_bytes : List ℕ
  pub sheet : Datasheet
  pub program : List ℕ
  pub image : List ℕ
  pub waits_bytes : List ℕ
  pub waits : List ℕ
  pub lines_bytes : List ℕ
  pub lines : List ℕ
  pub cycles : ℕ
  pub words : rest ≡ name ∷ other ∷ third ∷ fourth ∷ fifth ∷ number ∷ []
  pub values : vs ≡ extension_read extension ∷ sheet_read sheet ∷ image_read image ∷ waits_read waits ∷ lines_read lines ∷ number_read cycles ∷ []
  pub file : IsFile files name bytes
  pub elaborates : Elaborates bytes extension
  pub sheet_file : IsFile files other sheet_bytes
  pub sheet_is : IsSheetRead sheet_bytes sheet
  pub program_file : IsFile files third program
  pub text : IsImageText program image
  pub waits_file : IsFile files fourth waits_bytes
  pub waits_are : IsWaitsText waits_bytes waits
  pub lines_file : IsFile files fifth lines_bytes
  pub lines_are : IsLinesText lines_bytes lines
  pub within : number_within 200000 number ≡ Some cycles

pub interrupted_read : (files : Option NamedFiles) (rest : List (List ℕ)) (vs : List Reading) → AreRead files (slots_of RunInterrupted) rest vs → IsInterruptedRead files rest vs
interrupted_read files [] vs h = absurd h
interrupted_read files (a ∷ rest) [] h = absurd h
interrupted_read files (a ∷ []) (v ∷ vs) h = absurd h.1
interrupted_read files (a ∷ b ∷ rest) (v ∷ []) h = absurd h.1
interrupted_read files (a ∷ b ∷ []) (v ∷ u ∷ vs) h = absurd h.1.1
interrupted_read files (a ∷ b ∷ c ∷ rest) (v ∷ u ∷ []) h = absurd h.1.1
interrupted_read files (a ∷ b ∷ c ∷ []) (v ∷ u ∷ w ∷ vs) h = absurd h.1.1.1
interrupted_read files (a ∷ b ∷ c ∷ d ∷ rest) (v ∷ u ∷ w ∷ []) h = absurd h.1.1.1
interrupted_read files (a ∷ b ∷ c ∷ d ∷ []) (v ∷ u ∷ w ∷ z ∷ vs) h = absurd h.1.1.1.1
interrupted_read files (a ∷ b ∷ c ∷ d ∷ e ∷ rest) (v ∷ u ∷ w ∷ z ∷ []) h = absurd h.1.1.1.1
interrupted_read files (a ∷ b ∷ c ∷ d ∷ e ∷ []) (v ∷ u ∷ w ∷ z ∷ y ∷ vs) h = absurd h.1.1.1.1.1
interrupted_read files (a ∷ b ∷ c ∷ d ∷ e ∷ f ∷ rest) (v ∷ u ∷ w ∷ z ∷ y ∷ []) h = absurd h.1.1.1.1.1
interrupted_read files (a ∷ b ∷ c ∷ d ∷ e ∷ f ∷ g ∷ rest) (v ∷ u ∷ w ∷ z ∷ y ∷ t ∷ vs) h = absurd h.1.1.1.1.1.1
interrupted_read files (a ∷ b ∷ c ∷ d ∷ e ∷ f ∷ []) (v ∷ u ∷ w ∷ z ∷ y ∷ t ∷ q ∷ vs) h = absurd h.1.1.1.1.1.1
interrupted_read files (a ∷ b ∷ c ∷ d ∷ e ∷ f ∷ []) (v ∷ u ∷ w ∷ z ∷ y ∷ t ∷ []) h =
    let x = extension_in h.0.0 v h.0.2 in
    let s = sheet_in h.1.0.0 u h.1.0.2 in
    let i = image_of h.1.1.0.0 w h.1.1.0.2 in
    let m = waits_in h.1.1.1.0.0 z h.1.1.1.0.2 in
    let l = lines_in h.1.1.1.1.0.0 y h.1.1.1.1.0.2 in
    record {
      name = a;
      other = b;
      third = c;
      fourth = d;
      fifth = e;
      number = f;
      bytes = h.0.0;
      extension = x.0;
      sheet_bytes = h.1.0.0;
      sheet = s.0;
      program = h.1.1.0.0;
      image = i.0;
      waits_bytes = h.1.1.1.0.0;
      waits = m.0;
      lines_bytes = h.1.1.1.1.0.0;
      lines = l.0;
      cycles = h.1.1.1.1.1.0.0;
      words = refl;
      values = ap (λ r. r ∷ u ∷ w ∷ z ∷ y ∷ t ∷ []) x.1 ∙ ap (λ r. extension_read x.0 ∷ r ∷ w ∷ z ∷ y ∷ t ∷ []) s.1 ∙ ap (λ r. extension_read x.0 ∷ sheet_read s.0 ∷ r ∷ z ∷ y ∷ t ∷ []) i.1
          ∙ ap (λ r. extension_read x.0 ∷ sheet_read s.0 ∷ image_read i.0 ∷ r ∷ y ∷ t ∷ []) m.1 ∙ ap (λ r. extension_read x.0 ∷ sheet_read s.0 ∷ image_read i.0 ∷ waits_read m.0 ∷ r ∷ t ∷ []) l.1
          ∙ ap (λ r. extension_read x.0 ∷ sheet_read s.0 ∷ image_read i.0 ∷ waits_read m.0 ∷ lines_read l.0 ∷ r ∷ []) h.1.1.1.1.1.0.2;
      file = h.0.1;
      elaborates = x.2;
      sheet_file = h.1.0.1;
      sheet_is = s.2;
      program_file = h.1.1.0.1;
      text = i.2;
      waits_file = h.1.1.1.0.1;
      waits_are = m.2;
      lines_file = h.1.1.1.1.0.1;
      lines_are = l.2;
      within = h.1.1.1.1.1.0.1;
    }

interrupted_takes : (files : Option NamedFiles) (rest : List (List ℕ)) (vs : List Reading) → AreRead files (slots_of RunInterrupted) rest vs → TakesInterrupted vs
interrupted_takes files rest vs h =
    let r = interrupted_read files rest vs h in
    subst TakesInterrupted (sym r.values) (is_well_formed r.bytes r.extension r.elaborates, names_are r.bytes r.extension r.elaborates, r.sheet_is.valid)

pub record IsAuditRead (files : Option NamedFiles) (rest : List (List ℕ)) (vs : List Reading) : Type 0 where
  pub name : List ℕ
  pub other : List ℕ
  pub third : List ℕ
  pub fourth : List ℕ
  pub fifth : List ℕ
  pub bytes : List ℕ
  pub extension : ExtensionTree
  pub sheet_bytes : List ℕ
  pub sheet : Datasheet
  pub program : List ℕ
  pub image : List ℕ
  pub waits_bytes : List ℕ
  pub waits : List ℕ
  pub trace : List ℕ
  pub words : rest ≡ name ∷ other ∷ third ∷ fourth ∷ fifth ∷ []
  pub values : vs ≡ extension_read extension ∷ sheet_read sheet ∷ image_read image ∷ waits_read waits ∷ trace_read trace ∷ []
  pub file : IsFile files name bytes
  pub elaborates : Elaborates bytes extension
  pub sheet_file : IsFile files other sheet_bytes
  pub sheet_is : IsSheetRead sheet_bytes sheet
  pub program_file : IsFile files third program
  pub text : IsImageText program image
  pub waits_file : IsFile files fourth waits_bytes
  pub waits_are : IsWaitsText waits_bytes waits
  pub trace_file : IsFile files fifth trace

pub audit_read : (files : Option NamedFiles) (rest : List (List ℕ)) (vs : List Reading) → AreRead files (slots_of Audit) rest vs → IsAuditRead files rest vs
audit_read files [] vs h = absurd h
audit_read files (a ∷ rest) [] h = absurd h
audit_read files (a ∷ []) (v ∷ vs) h = absurd h.1
audit_read files (a ∷ b ∷ rest) (v ∷ []) h = absurd h.1
audit_read files (a ∷ b ∷ []) (v ∷ u ∷ vs) h = absurd h.1.1
audit_read files (a ∷ b ∷ c ∷ rest) (v ∷ u ∷ []) h = absurd h.1.1
audit_read files (a ∷ b ∷ c ∷ []) (v ∷ u ∷ w ∷ vs) h = absurd h.1.1.1
audit_read files (a ∷ b ∷ c ∷ d ∷ rest) (v ∷ u ∷ w ∷ []) h = absurd h.1.1.1
audit_read files (a ∷ b ∷ c ∷ d ∷ []) (v ∷ u ∷ w ∷ z ∷ vs) h = absurd h.1.1.1.1
audit_read files (a ∷ b ∷ c ∷ d ∷ e ∷ rest) (v ∷ u ∷ w ∷ z ∷ []) h = absurd h.1.1.1.1
audit_read files (a ∷ b ∷ c ∷ d ∷ e ∷ f ∷ rest) (v ∷ u ∷ w ∷ z ∷ y ∷ vs) h = absurd h.1.1.1.1.1
audit_read files (a ∷ b ∷ c ∷ d ∷ e ∷ []) (v ∷ u ∷ w ∷ z ∷ y ∷ t ∷ vs) h = absurd h.1.1.1.1.1
audit_read files (a ∷ b ∷ c ∷ d ∷ e ∷ []) (v ∷ u ∷ w ∷ z ∷ y ∷ []) h =
    let x = extension_in h.0.0 v h.0.2 in
    let s = sheet_in h.1.0.0 u h.1.0.2 in
    let i = image_of h.1.1.0.0 w h.1.1.0.2 in
    let m = waits_in h.1.1.1.0.0 z h.1.1.1.0.2 in
    record {
      name = a;
      other = b;
      third = c;
      fourth = d;
      fifth = e;
      bytes = h.0.0;
      extension = x.0;
      sheet_bytes = h.1.0.0;
      sheet = s.0;
      program = h.1.1.0.0;
      image = i.0;
      waits_bytes = h.1.1.1.0.0;
      waits = m.0;
      trace = h.1.1.1.1.0.0;
      words = refl;
      values = ap (λ r. r ∷ u ∷ w ∷ z ∷ y ∷ []) x.1 ∙ ap (λ r. extension_read x.0 ∷ r ∷ w ∷ z ∷ y ∷ []) s.1 ∙ ap (λ r. extension_read x.0 ∷ sheet_read s.0 ∷ r ∷ z ∷ y ∷ []) i.1
          ∙ ap (λ r. extension_read x.0 ∷ sheet_read s.0 ∷ image_read i.0 ∷ r ∷ y ∷ []) m.1 ∙ ap (λ r. extension_read x.0 ∷ sheet_read s.0 ∷ image_read i.0 ∷ waits_read m.0 ∷ r ∷ []) (trace_in h.1.1.1.1.0.0 y h.1.1.1.1.0.2);
      file = h.0.1;
      elaborates = x.2;
      sheet_file = h.1.0.1;
      sheet_is = s.2;
      program_file = h.1.1.0.1;
      text = i.2;
      waits_file = h.1.1.1.0.1;
      waits_are = m.2;
      trace_file = h.1.1.1.1.0.1;
    }

audit_takes : (files : Option NamedFiles) (rest : List (List ℕ)) (vs : List Reading) → AreRead files (slots_of Audit) rest vs → TakesAudit vs
audit_takes files rest vs h =
    let r = audit_read files rest vs h in
    subst TakesAudit (sym r.values) ((is_well_formed r.bytes r.extension r.elaborates, names_are r.bytes r.extension r.elaborates, r.sheet_is.valid), given_by r.program r.image r.waits_bytes r.waits r.text r.waits_are, r.trace_file.within)

pub record IsBarrelRead (files : Option NamedFiles) (rest : List (List ℕ)) (vs : List Reading) : Type 0 where
  pub name : List ℕ
  pub other : List ℕ
  pub third : List ℕ
  pub fourth : List ℕ
  pub number : List ℕ
  pub bytes : List ℕ
  pub extension : ExtensionTree
  pub sheet_bytes : List ℕ
  pub sheet : Datasheet
  pub program : List ℕ
  pub first : List ℕ
  pub other_program : List ℕ
  pub second : List ℕ
  pub cycles : ℕ
  pub words : rest ≡ name ∷ other ∷ third ∷ fourth ∷ number ∷ []
  pub values : vs ≡ extension_read extension ∷ sheet_read sheet ∷ image_read first ∷ image_read second ∷ number_read cycles ∷ []
  pub file : IsFile files name bytes
  pub elaborates : Elaborates bytes extension
  pub sheet_file : IsFile files other sheet_bytes
  pub sheet_is : IsSheetRead sheet_bytes sheet
  pub program_file : IsFile files third program
  pub text : IsImageText program first
  pub other_file : IsFile files fourth other_program
  pub other_text : IsImageText other_program second
  pub within : number_within 200000 number ≡ Some cycles

pub barrel_read : (files : Option NamedFiles) (rest : List (List ℕ)) (vs : List Reading) → AreRead files (slots_of Barrel) rest vs → IsBarrelRead files rest vs
barrel_read files [] vs h = absurd h
barrel_read files (a ∷ rest) [] h = absurd h
barrel_read files (a ∷ []) (v ∷ vs) h = absurd h.1
barrel_read files (a ∷ b ∷ rest) (v ∷ []) h = absurd h.1
barrel_read files (a ∷ b ∷ []) (v ∷ u ∷ vs) h = absurd h.1.1
barrel_read files (a ∷ b ∷ c ∷ rest) (v ∷ u ∷ []) h = absurd h.1.1
barrel_read files (a ∷ b ∷ c ∷ []) (v ∷ u ∷ w ∷ vs) h = absurd h.1.1.1
barrel_read files (a ∷ b ∷ c ∷ d ∷ rest) (v ∷ u ∷ w ∷ []) h = absurd h.1.1.1
barrel_read files (a ∷ b ∷ c ∷ d ∷ []) (v ∷ u ∷ w ∷ z ∷ vs) h = absurd h.1.1.1.1
barrel_read files (a ∷ b ∷ c ∷ d ∷ e ∷ rest) (v ∷ u ∷ w ∷ z ∷ []) h = absurd h.1.1.1.1
barrel_read files (a ∷ b ∷ c ∷ d ∷ e ∷ f ∷ rest) (v ∷ u ∷ w ∷ z ∷ y ∷ vs) h = absurd h.1.1.1.1.1
barrel_read files (a ∷ b ∷ c ∷ d ∷ e ∷ []) (v ∷ u ∷ w ∷ z ∷ y ∷ t ∷ vs) h = absurd h.1.1.1.1.1
barrel_read files (a ∷ b ∷ c ∷ d ∷ e ∷ []) (v ∷ u ∷ w ∷ z ∷ y ∷ []) h =
    let x = extension_in h.0.0 v h.0.2 in
    let s = sheet_in h.1.0.0 u h.1.0.2 in
    let i = image_of h.1.1.0.0 w h.1.1.0.2 in
    let j = image_of h.1.1.1.0.0 z h.1.1.1.0.2 in
    record {
      name = a;
      other = b;
      third = c;
      fourth = d;
      number = e;
      bytes = h.0.0;
      extension = x.0;
      sheet_bytes = h.1.0.0;
      sheet = s.0;
      program = h.1.1.0.0;
      first = i.0;
      other_program = h.1.1.1.0.0;
      second = j.0;
      cycles = h.1.1.1.1.0.0;
      words = refl;
      values = ap (λ r. r ∷ u ∷ w ∷ z ∷ y ∷ []) x.1 ∙ ap (λ r. extension_read x.0 ∷ r ∷ w ∷ z ∷ y ∷ []) s.1 ∙ ap (λ r. extension_read x.0 ∷ sheet_read s.0 ∷ r ∷ z ∷ y ∷ []) i.1
          ∙ ap (λ r. extension_read x.0 ∷ sheet_read s.0 ∷ image_read i.0 ∷ r ∷ y ∷ []) j.1 ∙ ap (λ r. extension_read x.0 ∷ sheet_read s.0 ∷ image_read i.0 ∷ image_read j.0 ∷ r ∷ []) h.1.1.1.1.0.2;
      file = h.0.1;
      elaborates = x.2;
      sheet_file = h.1.0.1;
      sheet_is = s.2;
      program_file = h.1.1.0.1;
      text = i.2;
      other_file = h.1.1.1.0.1;
      other_text = j.2;
      within = h.1.1.1.1.0.1;
    }

barrel_takes : (files : Option NamedFiles) (rest : List (List ℕ)) (vs : List Reading) → AreRead files (slots_of Barrel) rest vs → TakesBarrel vs
barrel_takes files rest vs h =
    let r = barrel_read files rest vs h in
    subst TakesBarrel (sym r.values) ((is_well_formed r.bytes r.extension r.elaborates, names_are r.bytes r.extension r.elaborates, r.sheet_is.valid), near_of r.sheet_bytes r.sheet r.sheet_is.sheet_is)

-- a number in its range is at most the greatest
same_number : (m n : ℕ) → ◌≡◌ {A = Option ℕ} (Some m) (Some n) → m ≡ n
same_number m n e = cc

at_most_of : (most m n : ℕ) (b : Bool) → nat_le m most ≡ b → (if b then Some m else None) ≡ Some n → n ≤ most
at_most_of most m n true p e = subst (λ k. k ≤ most) (same_number m n e) (leb-true m most p)
at_most_of most m n false p e = absurd cc

within_of : (most : ℕ) (o : Option ℕ) (n : ℕ) → option_and_then (at_most most) o ≡ Some n → n ≤ most
within_of most None n e = absurd cc
within_of most (Some m) n e = at_most_of most m n (nat_le m most) refl e

pub record IsBenchRead (files : Option NamedFiles) (rest : List (List ℕ)) (vs : List Reading) : Type 0 where
  pub name : List ℕ
  pub other : List ℕ
  pub third : List ℕ
  pub fourth : List ℕ
  pub bytes : List ℕ
  pub extension : ExtensionTree
  pub sheet_bytes : List ℕ
  pub sheet : Datasheet
  pub number : ℕ
  pub count : ℕ
  pub words : rest ≡ name ∷ other ∷ third ∷ fourth ∷ []
  pub values : vs ≡ extension_read extension ∷ sheet_read sheet ∷ number_read number ∷ number_read count ∷ []
  pub file : IsFile files name bytes
  pub elaborates : Elaborates bytes extension
  pub sheet_file : IsFile files other sheet_bytes
  pub sheet_is : IsSheetRead sheet_bytes sheet
  pub number_is : number_within most_number third ≡ Some number
  pub count_is : number_within most_drawn fourth ≡ Some count

pub bench_read : (files : Option NamedFiles) (rest : List (List ℕ)) (vs : List Reading) → AreRead files (slots_of Bench) rest vs → IsBenchRead files rest vs
bench_read files [] vs h = absurd h
bench_read files (a ∷ rest) [] h = absurd h
bench_read files (a ∷ []) (v ∷ vs) h = absurd h.1
bench_read files (a ∷ b ∷ rest) (v ∷ []) h = absurd h.1
bench_read files (a ∷ b ∷ []) (v ∷ u ∷ vs) h = absurd h.1.1
bench_read files (a ∷ b ∷ c ∷ rest) (v ∷ u ∷ []) h = absurd h.1.1
bench_read files (a ∷ b ∷ c ∷ []) (v ∷ u ∷ w ∷ vs) h = absurd h.1.1.1
bench_read files (a ∷ b ∷ c ∷ d ∷ rest) (v ∷ u ∷ w ∷ []) h = absurd h.1.1.1
bench_read files (a ∷ b ∷ c ∷ d ∷ e ∷ rest) (v ∷ u ∷ w ∷ z ∷ vs) h = absurd h.1.1.1.1
bench_read files (a ∷ b ∷ c ∷ d ∷ []) (v ∷ u ∷ w ∷ z ∷ y ∷ vs) h = absurd h.1.1.1.1
bench_read files (a ∷ b ∷ c ∷ d ∷ []) (v ∷ u ∷ w ∷ z ∷ []) h =
    let x = extension_in h.0.0 v h.0.2 in
    let s = sheet_in h.1.0.0 u h.1.0.2 in
    record {
      name = a;
      other = b;
      third = c;
      fourth = d;
      bytes = h.0.0;
      extension = x.0;
      sheet_bytes = h.1.0.0;
      sheet = s.0;
      number = h.1.1.0.0;
      count = h.1.1.1.0.0;
      words = refl;
      values = ap (λ r. r ∷ u ∷ w ∷ z ∷ []) x.1 ∙ ap (λ r. extension_read x.0 ∷ r ∷ w ∷ z ∷ []) s.1 ∙ ap (λ r. extension_read x.0 ∷ sheet_read s.0 ∷ r ∷ z ∷ []) h.1.1.0.2
          ∙ ap (λ r. extension_read x.0 ∷ sheet_read s.0 ∷ number_read h.1.1.0.0 ∷ r ∷ []) h.1.1.1.0.2;
      file = h.0.1;
      elaborates = x.2;
      sheet_file = h.1.0.1;
      sheet_is = s.2;
      number_is = h.1.1.0.1;
      count_is = h.1.1.1.0.1;
    }

bench_takes : (files : Option NamedFiles) (rest : List (List ℕ)) (vs : List Reading) → AreRead files (slots_of Bench) rest vs → TakesBench vs
bench_takes files rest vs h =
    let r = bench_read files rest vs h in
    subst TakesBench (sym r.values) ((is_well_formed r.bytes r.extension r.elaborates, names_are r.bytes r.extension r.elaborates, r.sheet_is.valid), within_of most_drawn (number_of r.fourth) r.count r.count_is)

sheet_takes : (files : Option NamedFiles) (rest : List (List ℕ)) (vs : List Reading) → AreRead files (slots_of Schedule) rest vs → TakesSheet vs
sheet_takes files rest vs h =
    let r = schedule_is_read files rest vs h in
    subst TakesSheet (sym r.values) (is_well_formed r.bytes r.extension r.elaborates, names_are r.bytes r.extension r.elaborates, r.sheet_is.valid)

-- the values of the words are those that the command takes
pub takes : (files : Option NamedFiles) (command : Command) (rest : List (List ℕ)) (vs : List Reading) → AreRead files (slots_of command) rest vs → Takes command vs
takes files RunImage rest vs h = subst (λ x. Takes RunImage x) (sym (run_read files rest vs h).values) tt
takes files Check rest vs h = subst (λ x. Takes Check x) (sym (extension_is_read files rest vs h).values) tt
takes files Certify rest vs h = subst (λ x. Takes Certify x) (sym (report_is_read files rest vs h).values) tt
takes files Assemble rest vs h = let r = source_is_read files rest vs h in subst (λ x. Takes Assemble x) (sym r.values) r.source_file.within
takes files Seq rest vs h =
    let r = seq_read files rest vs h in
    subst (λ x. Takes Seq x) (sym r.values) (is_well_formed r.bytes r.extension r.elaborates)
takes files Schedule rest vs h = sheet_takes files rest vs h
takes files Build rest vs h = sheet_takes files rest vs h
takes files Sweep rest vs h = sheet_takes files rest vs h
takes files RunExtension rest vs h = pipeline_takes files rest vs h
takes files Bench rest vs h = bench_takes files rest vs h
takes files Wave rest vs h = pipeline_takes files rest vs h
takes files RunInterrupted rest vs h = interrupted_takes files rest vs h
takes files Audit rest vs h = audit_takes files rest vs h
takes files Barrel rest vs h = barrel_takes files rest vs h
