-- What the refusal of a file's text says.
use Rattle.std.proofs.Common.{◌≡◌, ◌≢◌, ℕ, ◌<◌, List, [], ◌∷◌, ◌++◌, ◌∙◌, append_assoc, length, Option, refl, sym, subst, Result, Ok, Err}
use Rattle.std.specs.Prelude.{IfSome, codes, string_bytes, String}
use Rattle.std.specs.declared.alloc.Global.{Global}
use Rattle.ix_io.specs.Limits.{most_bytes}
use Rattle.ix_io.specs.Shelf.{NamedFiles, told_file}
use Rattle.ix_words.specs.declared.status.Status.{Status}
use Rattle.ix_words.specs.declared.status.Status.TheVariants.{ReadFault, TooLong, Certificate, Extension as extension_status, Sheet as sheet_status}
use Rattle.ix_words.specs.declared.command.FileKind.{FileKind}
use Rattle.ix_words.specs.declared.command.FileKind.TheVariants.{Report, Extension, Sheet}
use Rattle.ix_cert.specs.declared.report.CertErr.{CertErr}
use Rattle.ix_cert.specs.declared.report.CertErr.TheVariants.{Memory as cert_memory}
use Rattle.ix_cert.specs.Certificates.{IsRefused as IsRefusedReport}
use Rattle.ix_elab.specs.declared.error.FrontErr.{FrontErr}
use Rattle.ix_elab.specs.declared.error.FrontErr.TheVariants.{Memory as front_memory}
use Rattle.ix_elab.specs.Refusing.{IsCause}
use Rattle.ix_listing.specs.RefusalLine.{refusal_line}
use Rattle.ix_sheet.specs.declared.sheet.SheetErr.{SheetErr}
use Rattle.ix_sheet.specs.declared.sheet.SheetErr.TheVariants.{Memory as sheet_memory}
use Rattle.ix_sheet.specs.Datasheets.{IsRefusalOf}
use Rattle.ix_words.specs.declared.command.Slot.TheVariants.{File}
use Rattle.ix_words.specs.declared.value.Value.{Value}
use Rattle.ix_words.specs.declared.value.Refusal.{Refusal}
use Rattle.ix_words.specs.declared.value.Refusal.TheVariants as refusal
use Rattle.ix_words.specs.WordsRead.{file_line, certificate_line, sheet_line, IsRefusedText, refusal_status, Refuses, Judged, IsFile, IsRefusedFile, not_read, too_long, bad_text, WordRead}

-- the parts of a line, joined from the left or from the right
pub line_joined : (number kind : List ℕ) → number ++ 32 ∷ (kind ++ 10 ∷ []) ≡ number ++ 32 ∷ [] ++ kind ++ 10 ∷ []
line_joined number kind = sym (append_assoc (number ++ 32 ∷ []) kind (10 ∷ []) ∙ append_assoc number (32 ∷ []) (kind ++ 10 ∷ []))

-- a text is refused with its line
pub judged_err : (kind : FileKind) (bytes line : List ℕ) (why : Refusal) → IsRefusedText kind bytes line → Refuses (refusal_status kind) line why → Judged kind bytes (Err why)
judged_err kind bytes line refusal.Memory bad told = tt
judged_err kind bytes line (refusal.Line status text) bad told = (told.0, subst (λ l. IsRefusedText kind bytes l) (sym told.1) bad)

line_no_memory : (status : Status) (text : String Global) → refusal.Line status text ≡ refusal.Memory → ⊥
line_no_memory status text h = cc

-- a report is refused with the line of its error, or memory was not found
pub report_judged : (bytes : List ℕ) (e : CertErr) (why : Refusal) → (e ≢ cert_memory → IsRefusedReport bytes e) → (e ≡ cert_memory → why ≡ refusal.Memory) → Refuses Certificate (certificate_line e) why → Judged Report bytes (Err why)
report_judged bytes e refusal.Memory refused memory told = tt
report_judged bytes e (refusal.Line status text) refused memory told =
    judged_err Report bytes (certificate_line e) (refusal.Line status text) (e, refused (λ m. line_no_memory status text (memory m)), refl) told

-- an extension is refused with the line of its error, or memory was not found
pub extension_judged : (bytes : List ℕ) (e : FrontErr) (why : Refusal) → IsCause bytes e → (e ≡ front_memory → why ≡ refusal.Memory) → Refuses extension_status (refusal_line e) why → Judged Extension bytes (Err why)
extension_judged bytes e refusal.Memory cause memory told = tt
extension_judged bytes e (refusal.Line status text) cause memory told =
    judged_err Extension bytes (refusal_line e) (refusal.Line status text) (e, record { some = λ m. line_no_memory status text (memory m); cause = cause }, refl) told

-- a datasheet is refused with the line of its error, or memory was not found
pub sheet_judged : (bytes : List ℕ) (e : SheetErr) (why : Refusal) → (e ≢ sheet_memory → IsRefusalOf bytes e) → (e ≡ sheet_memory → why ≡ refusal.Memory) → Refuses sheet_status (sheet_line e) why → Judged Sheet bytes (Err why)
sheet_judged bytes e refusal.Memory refused memory told = tt
sheet_judged bytes e (refusal.Line status text) refused memory told =
    judged_err Sheet bytes (sheet_line e) (refusal.Line status text) (e, refused (λ m. line_no_memory status text (memory m)), refl) told

told_as : (files : Option NamedFiles) (R : List ℕ → Type 0) (kind : FileKind) (name line : List ℕ) (status : Status) (why : Refusal) → IsRefusedFile files R kind name status line → Refuses status line why → WordRead files R (File kind) name (Err why)
told_as files R kind name line status refusal.Memory bad told = tt
told_as files R kind name line status (refusal.Line shown text) bad told =
    subst (λ s. IsRefusedFile files R kind name s (string_bytes text)) (sym told.0) (subst (λ l. IsRefusedFile files R kind name status l) (sym told.1) bad)

-- a file that was read whole is judged by its text
pub judged_read : (files : Option NamedFiles) (R : List ℕ → Type 0) (kind : FileKind) (name bytes : List ℕ) (judged : Result Value Refusal) → IsFile files name bytes → Judged kind bytes judged → WordRead files R (File kind) name judged
judged_read files R kind name bytes (Ok v) file h = (bytes, file, h)
judged_read files R kind name bytes (Err refusal.Memory) file h = tt
judged_read files R kind name bytes (Err (refusal.Line status text)) file h =
    subst (λ s. IsRefusedFile files R kind name s (string_bytes text)) (sym h.0) (bad_text bytes (string_bytes text) file h.1)

-- a file that was not read, and one that is too long
pub fault_read : (files : Option NamedFiles) (R : List ℕ → Type 0) (kind : FileKind) (name : List ℕ) (why : Refusal) → R name → Refuses ReadFault (file_line (codes "ReadFault") name) why → WordRead files R (File kind) name (Err why)
fault_read files R kind name why rose told = told_as files R kind name (file_line (codes "ReadFault") name) ReadFault why (not_read rose) told

pub long_read : (files : Option NamedFiles) (R : List ℕ → Type 0) (kind : FileKind) (name : List ℕ) (why : Refusal) → IfSome (told_file files name) (λ file. most_bytes < length file) → Refuses TooLong (file_line (codes "TooLong") name) why → WordRead files R (File kind) name (Err why)
long_read files R kind name why long told = told_as files R kind name (file_line (codes "TooLong") name) TooLong why (too_long long) told
