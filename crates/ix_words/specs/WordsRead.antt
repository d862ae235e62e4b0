-- What the words behind the first stand for, and the first of them that is refused (this project's choice).
use Rattle.std.specs.Prelude.{◌≡◌, IfSome, ℕ, ◌<◌, ◌≤◌, List, [], ◌∷◌, ◌++◌, length, Option, Some, codes, decimal, ◌⊎◌, string_bytes, Result, Ok, Err}
use Rattle.ix_words.specs.declared.status.Status.{Status}
use Rattle.ix_words.specs.declared.status.Status.TheVariants.{ReadFault, TooLong, Extension as extension_status, Sheet as sheet_status, Image as image_status, Certificate, Source, Waits as waits_status, Lines as lines_status, Trace as trace_status}
use Rattle.ix_words.specs.declared.command.FileKind.{FileKind}
use Rattle.ix_words.specs.declared.command.FileKind.TheVariants.{Image, Report, Extension, Sheet, Source as source_kind, Waits, Lines, Trace as trace_kind}
use Rattle.ix_words.specs.declared.command.Slot.{Slot}
use Rattle.ix_words.specs.declared.command.Slot.TheVariants.{Number, File}
use Rattle.ix_words.specs.declared.value.Value.{Value}
use Rattle.ix_words.specs.declared.value.Refusal.{Refusal}
use Rattle.ix_words.specs.declared.value.Refusal.TheVariants as refusal
use Rattle.rv_asm.specs.ImageText.{IsImageText, IsBadLine}
use Rattle.rv_asm.specs.WaitsText.{IsWaitsText, IsBadWait}
use Rattle.rv_asm.specs.LinesText.{IsLinesText, IsBadRow}
use Rattle.ix_elab.specs.declared.error.FrontErr.{FrontErr}
use Rattle.ix_elab.specs.Elaborating.{Elaborates}
use Rattle.ix_elab.specs.Refusing.{IsRefused as IsRefusedExtension}
use Rattle.ix_listing.specs.RefusalLine.{refusal_line}
use Rattle.ix_words.specs.Readings.{Reading, number_read, image_read, report_read, extension_read, sheet_read, source_read, waits_read, lines_read, trace_read, reading_of}
use Rattle.ix_words.specs.CommandLine.{number_within}
use Rattle.ix_sheet.specs.declared.sheet.Sheet.{Sheet as Datasheet}
use Rattle.ix_sheet.specs.declared.sheet.SheetErr.{SheetErr}
use Rattle.ix_sheet.specs.declared.sheet.SheetErr.TheVariants as S
use Rattle.ix_sheet.specs.Sheets.{IsValidSheet}
use Rattle.ix_sheet.specs.Datasheets.{IsSheetOf, IsRefusalOf as IsRefusedSheet}
use Rattle.ix_cert.specs.declared.report.CertErr.{CertErr}
use Rattle.ix_cert.specs.Certificates.{IsFaultless, IsRefused as IsRefusedReport}
use Rattle.ix_cert.specs.Words.{line_number, kind_word}
use Rattle.ix_io.specs.Faults.{Rose}
use Rattle.ix_io.specs.Limits.{most_bytes}
use Rattle.ix_io.specs.Shelf.{NamedFiles, told_file}

-- ---- the lines of refusals
-- a refusal that names a file
abbrev pub file_line : List ℕ → List ℕ → List ℕ
file_line kind name = codes "refused " ++ kind ++ codes " " ++ name ++ codes "\n"

-- the line of a refusal for what stands at a number of a file
abbrev pub numbered_line : List ℕ → ℕ → List ℕ
numbered_line kind number = codes "refused " ++ kind ++ codes " " ++ decimal number ++ codes "\n"

-- a refusal that names a line of the image
abbrev pub image_line : ℕ → List ℕ
image_line number = codes "refused Image " ++ decimal number ++ codes "\n"

-- a refusal that names a number of a list of waits, from 0
abbrev pub waits_line : ℕ → List ℕ
waits_line number = codes "refused Waits " ++ decimal number ++ codes "\n"

-- a refusal that names a number of a list of the rows in which an interrupt line is raised, from 0
abbrev pub lines_line : ℕ → List ℕ
lines_line number = codes "refused Lines " ++ decimal number ++ codes "\n"

-- a refusal of a report, which names its line and what fails there
abbrev pub certificate_line : CertErr → List ℕ
certificate_line e = codes "refused Certificate " ++ decimal (line_number e) ++ codes " " ++ kind_word e ++ codes "\n"

-- a refusal of a datasheet, which names the rule and the key; `-` where there is none
abbrev pub sheet_text : List ℕ → List ℕ → List ℕ
sheet_text kind name = codes "refused Sheet " ++ kind ++ codes " " ++ name ++ codes "\n"

abbrev pub sheet_line : SheetErr → List ℕ
sheet_line S.Utf8 = sheet_text (codes "Utf8") (codes "-")
sheet_line S.Toml = sheet_text (codes "Toml") (codes "-")
sheet_line (S.Key name) = sheet_text (codes "Key") name
sheet_line (S.Kind name) = sheet_text (codes "Kind") name
sheet_line S.Core = sheet_text (codes "Core") (codes "core")
sheet_line (S.Window name) = sheet_text (codes "Window") name
sheet_line (S.Number name) = sheet_text (codes "Number") name
sheet_line S.Memory = []

-- ---- what judges a file
-- the datasheet of the text, which is valid, with a delay for each kind and a window for each of the ten first
pub record IsSheetRead (bytes : List ℕ) (sheet : Datasheet) : Type 0 where
  pub sheet_is : IsSheetOf bytes sheet
  pub valid : IsValidSheet sheet
  pub delays : length sheet.delay ≡ 34
  pub windows : length sheet.window ≡ 10

-- the text of a file of this kind is refused with this line
abbrev pub IsRefusedText : FileKind → List ℕ → List ℕ → Type 0
IsRefusedText Image bytes line = (number : ℕ) × IsBadLine bytes number × (line ≡ image_line number)
IsRefusedText Report bytes line = (e : CertErr) × IsRefusedReport bytes e × (line ≡ certificate_line e)
IsRefusedText Extension bytes line = (e : FrontErr) × IsRefusedExtension bytes e × (line ≡ refusal_line e)
IsRefusedText Waits bytes line = (number : ℕ) × IsBadWait bytes number × (line ≡ waits_line number)
IsRefusedText Lines bytes line = (number : ℕ) × IsBadRow bytes number × (line ≡ lines_line number)
IsRefusedText Sheet bytes line = (e : SheetErr) × IsRefusedSheet bytes e × (line ≡ sheet_line e)
IsRefusedText source_kind bytes line = ⊥
IsRefusedText trace_kind bytes line = ⊥

-- the status of that refusal
abbrev pub refusal_status : FileKind → Status
refusal_status Image = image_status
refusal_status Report = Certificate
refusal_status Extension = extension_status
refusal_status Waits = waits_status
refusal_status Lines = lines_status
refusal_status Sheet = sheet_status
refusal_status source_kind = Source
refusal_status trace_kind = trace_status

-- the text of a file of this kind is read as this value
abbrev pub IsReadAs : FileKind → List ℕ → Reading → Type 0
IsReadAs Image bytes (image_read image) = IsImageText bytes image
IsReadAs Image bytes v = ⊥
IsReadAs Report bytes report_read = IsFaultless bytes
IsReadAs Report bytes v = ⊥
IsReadAs Extension bytes (extension_read x) = Elaborates bytes x
IsReadAs Extension bytes v = ⊥
IsReadAs Waits bytes (waits_read waits) = IsWaitsText bytes waits
IsReadAs Waits bytes v = ⊥
IsReadAs Lines bytes (lines_read lines) = IsLinesText bytes lines
IsReadAs Lines bytes v = ⊥
IsReadAs Sheet bytes (sheet_read sheet) = IsSheetRead bytes sheet
IsReadAs Sheet bytes v = ⊥
IsReadAs source_kind bytes (source_read text) = text ≡ bytes
IsReadAs source_kind bytes v = ⊥
IsReadAs trace_kind bytes (trace_read text) = text ≡ bytes
IsReadAs trace_kind bytes v = ⊥

-- ---- the words behind the first, in order: each file is read whole and judged before the next is read
-- the bytes of a file that was read whole: those that are told, or some where nothing is told
pub record IsFile (files : Option NamedFiles) (name bytes : List ℕ) : Type 0 where
  pub told : IfSome (told_file files name) (λ file. bytes ≡ file)
  pub within : length bytes ≤ most_bytes

-- the word in this place stands for this value
abbrev pub IsRead : Option NamedFiles → Slot → List ℕ → Reading → Type 0
IsRead files (Number most) word v = (n : ℕ) × (number_within most word ≡ Some n) × (v ≡ number_read n)
IsRead files (File kind) word v = (bytes : List ℕ) × IsFile files word bytes × IsReadAs kind bytes v

-- each of the words does
abbrev pub AreRead : Option NamedFiles → List Slot → List (List ℕ) → List Reading → Type 0
AreRead files [] [] [] = Unit {0}
AreRead files (slot ∷ slots) (word ∷ words) (v ∷ values) = IsRead files slot word v × AreRead files slots words values
AreRead files slots words values = ⊥

-- the file is refused with this status and line: its count of faults rose, it is too long, or its text is refused
pub data IsRefusedFile (files : Option NamedFiles) (Rises : List ℕ → Type 0) (kind : FileKind) (name : List ℕ) : Status → List ℕ → Type 0 where
  not_read : Rises name → IsRefusedFile files Rises kind name ReadFault (file_line (codes "ReadFault") name)
  too_long : IfSome (told_file files name) (λ file. most_bytes < length file) → IsRefusedFile files Rises kind name TooLong (file_line (codes "TooLong") name)
  bad_text : (bytes line : List ℕ) → IsFile files name bytes → IsRefusedText kind bytes line → IsRefusedFile files Rises kind name (refusal_status kind) line

-- a word behind the first names a file of which this is so, and the words before it are read
abbrev pub AtFile : Option NamedFiles → (FileKind → List ℕ → Type 0) → List Slot → List (List ℕ) → Type 0
AtFile files P (Number most ∷ slots) (word ∷ words) = AtFile files P slots words
AtFile files P (File kind ∷ slots) (word ∷ words) = P kind word ⊎ ((v : Reading) × IsRead files (File kind) word v × AtFile files P slots words)
AtFile files P slots words = ⊥

-- the first file that is refused is refused with this status and line
abbrev pub IsFirstRefused : Option NamedFiles → (List ℕ → Type 0) → List Slot → List (List ℕ) → Status → List ℕ → Type 0
IsFirstRefused files Rises slots words status line = AtFile files (λ kind name. IsRefusedFile files Rises kind name status line) slots words

-- a word behind the first names this file of this kind, and the words before it are read
abbrev pub IsFileOf : Option NamedFiles → FileKind → List ℕ → List Slot → List (List ℕ) → Type 0
IsFileOf files kind name slots words = AtFile files (λ found word. (found ≡ kind) × (word ≡ name)) slots words

-- ---- what the reading of the words answers
-- the count of faults of a name rose in the call
abbrev pub RoseIn : (List ℕ → ℕ) → (List ℕ → ℕ) → List ℕ → Type 0
RoseIn counts counts_now name = Rose (counts name) (counts_now name)

-- a refusal is this line with this status, or want of memory
abbrev pub Refuses : Status → List ℕ → Refusal → Type 0
Refuses status line refusal.Memory = Unit {0}
Refuses status line (refusal.Line told text) = (told ≡ status) × (string_bytes text ≡ line)

-- a file's text is read as the value, or refused
abbrev pub Judged : FileKind → List ℕ → Result Value Refusal → Type 0
Judged kind bytes (Ok v) = IsReadAs kind bytes (reading_of v)
Judged kind bytes (Err refusal.Memory) = Unit {0}
Judged kind bytes (Err (refusal.Line status text)) = (status ≡ refusal_status kind) × IsRefusedText kind bytes (string_bytes text)

-- a word is read as a value, or the file that it names is refused
abbrev pub WordRead : Option NamedFiles → (List ℕ → Type 0) → Slot → List ℕ → Result Value Refusal → Type 0
WordRead files Rises slot word (Ok v) = IsRead files slot word (reading_of v)
WordRead files Rises slot word (Err refusal.Memory) = Unit {0}
WordRead files Rises (Number most) word (Err (refusal.Line status text)) = ⊥
WordRead files Rises (File kind) word (Err (refusal.Line status text)) = IsRefusedFile files Rises kind word status (string_bytes text)

-- the first of the words that is refused, or that all are read
abbrev pub WordsRefused : Option NamedFiles → (List ℕ → Type 0) → List Slot → List (List ℕ) → Refusal → Type 0
WordsRefused files Rises slots words refusal.Memory = Unit {0}
WordsRefused files Rises slots words (refusal.Line status text) = IsFirstRefused files Rises slots words status (string_bytes text)
