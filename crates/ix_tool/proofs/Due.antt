-- What is due is one thing: at most one status for told files, but for faults of reading.
use Rattle.std.proofs.Common.{◌≡◌, ◌≢◌, ℕ, ◌<◌, List, [], ◌∷◌, length, Option, Some, None, refl, ap, sym, ◌∙◌, subst, arith, ◌⊎◌, inl, inr}
use Rattle.std.specs.Prelude.{IfSome, unwrap_or}
use Rattle.ix_io.specs.Limits.{most_bytes}
use Rattle.ix_io.specs.Shelf.{NamedFiles, told_file, file_named}
use Rattle.ix_cert.proofs.Verdicts.{faultless_not_refused}
use Rattle.ix_words.specs.declared.status.Status.{Status}
use Rattle.ix_words.specs.declared.status.Status.TheVariants.{Usage, ReadFault, Source, Extension as extension_status, NoSchedule, Trace, Barrel as barrel_status}
use Rattle.ix_words.specs.declared.command.Command.TheVariants.{RunImage, Check, Certify, Assemble, Seq, Schedule, Build, Sweep, RunExtension, Bench, Wave, RunInterrupted, Audit, Barrel}
use Rattle.ix_words.specs.declared.command.Command.{Command}
use Rattle.ix_words.specs.declared.command.RunForm.{RunForm}
use Rattle.ix_words.specs.declared.command.RunForm.TheVariants.{Rows, Ports}
use Rattle.ix_words.specs.declared.command.FileKind.{FileKind}
use Rattle.ix_words.specs.declared.command.FileKind.TheVariants.{Image, Report, Extension, Sheet, Source as source_kind, Waits, Lines, Trace as trace_kind}
use Rattle.ix_words.specs.declared.command.Slot.{Slot}
use Rattle.ix_words.specs.declared.command.Slot.TheVariants.{Number, File}
use Rattle.ix_words.specs.Readings.{Reading, number_read, image_read, report_read, extension_read, sheet_read, source_read, waits_read, lines_read, trace_read}
use Rattle.ix_words.specs.CommandLine.{command_of, slots_of, behind, number_within}
use Rattle.ix_words.specs.WordsRead.{IsRefusedText, IsReadAs, IsFile, IsRead, AreRead, IsRefusedFile, not_read, too_long, bad_text, IsFirstRefused}
use Rattle.ix_tool.specs.CommandOutput.{IsSourceRefusal, IsToldAs, Schedules, IsScheduleRefusal, IsSweepRefusal, IsPipelineOutput, IsInterruptedOutput, IsBenchOutput, IsAuditOutput, IsTraceRefusal, IsOwnRefusal, IsOutput, IsAnswer, IsDue, due_usage, due_file, due_answer, NoneRises, NoFileRises, Takes}
use Rattle.ix_listing.proofs.OneExtension.{same_extension, extension_not_refused}
use Rattle.rv_asm.proofs.WaitLemmas.{one_text, text_not_refused as waits_not_refused}
use Rattle.rv_asm.proofs.LineLemmas.{one_text as one_lines_text, text_not_refused as lines_not_refused}
use Rattle.rv_asm.proofs.ImageLemmas.{image_not_refused}
use Rattle.rv_asm.proofs.Placing.{only_memory}
use Rattle.rv_asm.specs.Sources.{assembled}
use Rattle.ix_sheet.specs.declared.sheet.Sheet.{Sheet as Datasheet}
use Rattle.ix_extension.specs.Extensions.{ExtensionTree, view_extension}
use Rattle.ix_schedules.specs.declared.text.TextErr.{TextErr}
use Rattle.ix_schedules.specs.declared.text.TextErr.TheVariants as T
use Rattle.ix_schedules.specs.ScheduleText.{IsRefusedText as IsRefusedSchedule}
use Rattle.ix_schedules.proofs.OneAnswer.{scheduled_not_refused, one_refusal}
use Rattle.ix_sweeps.specs.declared.sweeping.SweepErr.TheVariants as W
use Rattle.ix_sweeps.proofs.OneAnswer.{swept_not_refused}
use Rattle.ix_modules.proofs.OneText.{built_not_refused as modules_not_refused, design_not_refused}
use Rattle.rv_watch.specs.Audited.{IsAudited}
use Rattle.rv_audit.specs.Alike.{AreAlike, OneAnswerLaw}
use Rattle.ix_sheet.specs.Laws.{OneLaw}
use Rattle.ix_tool.specs.BarrelOutput.{tight_behaviour, IsBarrelOutput, IsBarrelRefusal}
use Rattle.ix_tool.proofs.TightPlans.{one_tight}
use Rattle.ix_tool.proofs.OneSheet.{one_sheet, sheet_not_refused}
use Rattle.ix_tool.proofs.Taking.{takes}

-- no value is some and none; one value is some of one thing
pub both : {A : Type 0} (o : Option A) (a : A) → o ≡ Some a → o ≡ None → ⊥
both o a s n = grind (arith, s, n)

pub one : {A : Type 0} (o : Option A) (a b : A) → o ≡ Some a → o ≡ Some b → a ≡ b
one o a b s t = grind (arith, s, t)

-- ---- a text is read as one value, or refused
text_apart : (kind : FileKind) (bytes line : List ℕ) (v : Reading) → IsReadAs kind bytes v → IsRefusedText kind bytes line → ⊥
text_apart Image bytes line (image_read image) r bad = image_not_refused bytes image bad.0 r bad.1
text_apart Image bytes line (number_read n) r bad = r
text_apart Image bytes line report_read r bad = r
text_apart Image bytes line (extension_read x) r bad = r
text_apart Image bytes line (sheet_read x) r bad = r
text_apart Image bytes line (source_read x) r bad = r
text_apart Image bytes line (waits_read x) r bad = r
text_apart Image bytes line (lines_read x) r bad = r
text_apart Image bytes line (trace_read x) r bad = r
text_apart Report bytes line report_read r bad = faultless_not_refused bytes bad.0 r bad.1
text_apart Report bytes line (image_read image) r bad = r
text_apart Report bytes line (number_read n) r bad = r
text_apart Report bytes line (extension_read x) r bad = r
text_apart Report bytes line (sheet_read x) r bad = r
text_apart Report bytes line (source_read x) r bad = r
text_apart Report bytes line (waits_read x) r bad = r
text_apart Report bytes line (lines_read x) r bad = r
text_apart Report bytes line (trace_read x) r bad = r
text_apart Extension bytes line (extension_read x) r bad = extension_not_refused bytes x bad.0 r bad.1
text_apart Extension bytes line (image_read image) r bad = r
text_apart Extension bytes line (number_read n) r bad = r
text_apart Extension bytes line report_read r bad = r
text_apart Extension bytes line (sheet_read x) r bad = r
text_apart Extension bytes line (source_read x) r bad = r
text_apart Extension bytes line (waits_read x) r bad = r
text_apart Extension bytes line (lines_read x) r bad = r
text_apart Extension bytes line (trace_read x) r bad = r
text_apart Sheet bytes line (sheet_read x) r bad = sheet_not_refused bytes x bad.0 r.sheet_is bad.1
text_apart Sheet bytes line (image_read image) r bad = r
text_apart Sheet bytes line (number_read n) r bad = r
text_apart Sheet bytes line report_read r bad = r
text_apart Sheet bytes line (extension_read x) r bad = r
text_apart Sheet bytes line (source_read x) r bad = r
text_apart Sheet bytes line (waits_read x) r bad = r
text_apart Sheet bytes line (lines_read x) r bad = r
text_apart Sheet bytes line (trace_read x) r bad = r
text_apart source_kind bytes line v r bad = bad
text_apart Waits bytes line (waits_read waits) r bad = waits_not_refused bytes waits bad.0 r bad.1
text_apart Waits bytes line (image_read x) r bad = r
text_apart Waits bytes line (number_read x) r bad = r
text_apart Waits bytes line report_read r bad = r
text_apart Waits bytes line (extension_read x) r bad = r
text_apart Waits bytes line (sheet_read x) r bad = r
text_apart Waits bytes line (source_read x) r bad = r
text_apart Waits bytes line (lines_read x) r bad = r
text_apart Waits bytes line (trace_read x) r bad = r
text_apart Lines bytes line (lines_read lines) r bad = lines_not_refused bytes lines bad.0 r bad.1
text_apart Lines bytes line (image_read x) r bad = r
text_apart Lines bytes line (number_read x) r bad = r
text_apart Lines bytes line report_read r bad = r
text_apart Lines bytes line (extension_read x) r bad = r
text_apart Lines bytes line (sheet_read x) r bad = r
text_apart Lines bytes line (source_read x) r bad = r
text_apart Lines bytes line (waits_read x) r bad = r
text_apart Lines bytes line (trace_read x) r bad = r
text_apart trace_kind bytes line v r bad = bad

text_one : (kind : FileKind) (bytes : List ℕ) (v u : Reading) → IsReadAs kind bytes v → IsReadAs kind bytes u → v ≡ u
text_one Image bytes (image_read i) (image_read j) r s = ap (λ x. image_read x) (r.words_are ∙ sym s.words_are)
text_one Image bytes (image_read i) (number_read n) r s = absurd s
text_one Image bytes (image_read i) report_read r s = absurd s
text_one Image bytes (image_read i) (extension_read y) r s = absurd s
text_one Image bytes (image_read i) (source_read y) r s = absurd s
text_one Image bytes (image_read i) (sheet_read y) r s = absurd s
text_one Image bytes (image_read i) (waits_read y) r s = absurd s
text_one Image bytes (image_read i) (lines_read y) r s = absurd s
text_one Image bytes (image_read i) (trace_read y) r s = absurd s
text_one Image bytes (number_read n) u r s = absurd r
text_one Image bytes report_read u r s = absurd r
text_one Image bytes (extension_read x) u r s = absurd r
text_one Image bytes (source_read x) u r s = absurd r
text_one Image bytes (sheet_read x) u r s = absurd r
text_one Image bytes (waits_read x) u r s = absurd r
text_one Image bytes (lines_read x) u r s = absurd r
text_one Image bytes (trace_read x) u r s = absurd r
text_one Report bytes report_read report_read r s = refl
text_one Report bytes report_read (image_read i) r s = absurd s
text_one Report bytes report_read (number_read n) r s = absurd s
text_one Report bytes report_read (extension_read y) r s = absurd s
text_one Report bytes report_read (source_read y) r s = absurd s
text_one Report bytes report_read (sheet_read y) r s = absurd s
text_one Report bytes report_read (waits_read y) r s = absurd s
text_one Report bytes report_read (lines_read y) r s = absurd s
text_one Report bytes report_read (trace_read y) r s = absurd s
text_one Report bytes (number_read n) u r s = absurd r
text_one Report bytes (image_read i) u r s = absurd r
text_one Report bytes (extension_read x) u r s = absurd r
text_one Report bytes (source_read x) u r s = absurd r
text_one Report bytes (sheet_read x) u r s = absurd r
text_one Report bytes (waits_read x) u r s = absurd r
text_one Report bytes (lines_read x) u r s = absurd r
text_one Report bytes (trace_read x) u r s = absurd r
text_one Extension bytes (extension_read x) (extension_read y) r s = ap (λ z. extension_read z) (same_extension bytes x y r s)
text_one Extension bytes (extension_read x) (image_read i) r s = absurd s
text_one Extension bytes (extension_read x) (number_read n) r s = absurd s
text_one Extension bytes (extension_read x) report_read r s = absurd s
text_one Extension bytes (extension_read x) (source_read y) r s = absurd s
text_one Extension bytes (extension_read x) (sheet_read y) r s = absurd s
text_one Extension bytes (extension_read x) (waits_read y) r s = absurd s
text_one Extension bytes (extension_read x) (lines_read y) r s = absurd s
text_one Extension bytes (extension_read x) (trace_read y) r s = absurd s
text_one Extension bytes (image_read i) u r s = absurd r
text_one Extension bytes (number_read n) u r s = absurd r
text_one Extension bytes report_read u r s = absurd r
text_one Extension bytes (source_read x) u r s = absurd r
text_one Extension bytes (sheet_read x) u r s = absurd r
text_one Extension bytes (waits_read x) u r s = absurd r
text_one Extension bytes (lines_read x) u r s = absurd r
text_one Extension bytes (trace_read x) u r s = absurd r
text_one source_kind bytes (source_read x) (source_read y) r s = ap (λ z. source_read z) (r ∙ sym s)
text_one source_kind bytes (source_read x) (image_read i) r s = absurd s
text_one source_kind bytes (source_read x) (number_read n) r s = absurd s
text_one source_kind bytes (source_read x) report_read r s = absurd s
text_one source_kind bytes (source_read x) (extension_read y) r s = absurd s
text_one source_kind bytes (source_read x) (sheet_read y) r s = absurd s
text_one source_kind bytes (source_read x) (waits_read y) r s = absurd s
text_one source_kind bytes (source_read x) (lines_read y) r s = absurd s
text_one source_kind bytes (source_read x) (trace_read y) r s = absurd s
text_one source_kind bytes (image_read i) u r s = absurd r
text_one source_kind bytes (number_read n) u r s = absurd r
text_one source_kind bytes report_read u r s = absurd r
text_one source_kind bytes (extension_read x) u r s = absurd r
text_one source_kind bytes (sheet_read x) u r s = absurd r
text_one source_kind bytes (waits_read x) u r s = absurd r
text_one source_kind bytes (lines_read x) u r s = absurd r
text_one source_kind bytes (trace_read x) u r s = absurd r
text_one Sheet bytes (sheet_read x) (sheet_read y) r s = ap (λ z. sheet_read z) (one_sheet bytes x y r s)
text_one Sheet bytes (sheet_read x) (image_read i) r s = absurd s
text_one Sheet bytes (sheet_read x) (number_read n) r s = absurd s
text_one Sheet bytes (sheet_read x) report_read r s = absurd s
text_one Sheet bytes (sheet_read x) (extension_read y) r s = absurd s
text_one Sheet bytes (sheet_read x) (waits_read y) r s = absurd s
text_one Sheet bytes (sheet_read x) (lines_read y) r s = absurd s
text_one Sheet bytes (sheet_read x) (trace_read y) r s = absurd s
text_one Sheet bytes (sheet_read x) (source_read y) r s = absurd s
text_one Sheet bytes (image_read i) u r s = absurd r
text_one Sheet bytes (number_read n) u r s = absurd r
text_one Sheet bytes report_read u r s = absurd r
text_one Sheet bytes (extension_read x) u r s = absurd r
text_one Sheet bytes (source_read x) u r s = absurd r
text_one Sheet bytes (waits_read x) u r s = absurd r
text_one Sheet bytes (lines_read x) u r s = absurd r
text_one Sheet bytes (trace_read x) u r s = absurd r
text_one Waits bytes (waits_read x) (waits_read y) r s = ap (λ z. waits_read z) (one_text bytes x y r s)
text_one Waits bytes (waits_read x) (image_read y) r s = absurd s
text_one Waits bytes (waits_read x) (number_read y) r s = absurd s
text_one Waits bytes (waits_read x) report_read r s = absurd s
text_one Waits bytes (waits_read x) (extension_read y) r s = absurd s
text_one Waits bytes (waits_read x) (sheet_read y) r s = absurd s
text_one Waits bytes (waits_read x) (source_read y) r s = absurd s
text_one Waits bytes (waits_read x) (lines_read y) r s = absurd s
text_one Waits bytes (waits_read x) (trace_read y) r s = absurd s
text_one Waits bytes (image_read x) u r s = absurd r
text_one Waits bytes (number_read x) u r s = absurd r
text_one Waits bytes report_read u r s = absurd r
text_one Waits bytes (extension_read x) u r s = absurd r
text_one Waits bytes (sheet_read x) u r s = absurd r
text_one Waits bytes (source_read x) u r s = absurd r
text_one Waits bytes (lines_read x) u r s = absurd r
text_one Waits bytes (trace_read x) u r s = absurd r
text_one Lines bytes (lines_read x) (lines_read y) r s = ap (λ z. lines_read z) (one_lines_text bytes x y r s)
text_one Lines bytes (lines_read x) (image_read y) r s = absurd s
text_one Lines bytes (lines_read x) (number_read y) r s = absurd s
text_one Lines bytes (lines_read x) report_read r s = absurd s
text_one Lines bytes (lines_read x) (extension_read y) r s = absurd s
text_one Lines bytes (lines_read x) (sheet_read y) r s = absurd s
text_one Lines bytes (lines_read x) (source_read y) r s = absurd s
text_one Lines bytes (lines_read x) (waits_read y) r s = absurd s
text_one Lines bytes (lines_read x) (trace_read y) r s = absurd s
text_one Lines bytes (image_read x) u r s = absurd r
text_one Lines bytes (number_read x) u r s = absurd r
text_one Lines bytes report_read u r s = absurd r
text_one Lines bytes (extension_read x) u r s = absurd r
text_one Lines bytes (sheet_read x) u r s = absurd r
text_one Lines bytes (source_read x) u r s = absurd r
text_one Lines bytes (waits_read x) u r s = absurd r
text_one Lines bytes (trace_read x) u r s = absurd r
text_one trace_kind bytes (trace_read x) (trace_read y) r s = ap (λ z. trace_read z) (r ∙ sym s)
text_one trace_kind bytes (trace_read x) (image_read i) r s = absurd s
text_one trace_kind bytes (trace_read x) (number_read n) r s = absurd s
text_one trace_kind bytes (trace_read x) report_read r s = absurd s
text_one trace_kind bytes (trace_read x) (extension_read y) r s = absurd s
text_one trace_kind bytes (trace_read x) (source_read y) r s = absurd s
text_one trace_kind bytes (trace_read x) (sheet_read y) r s = absurd s
text_one trace_kind bytes (trace_read x) (waits_read y) r s = absurd s
text_one trace_kind bytes (trace_read x) (lines_read y) r s = absurd s
text_one trace_kind bytes (image_read i) u r s = absurd r
text_one trace_kind bytes (number_read n) u r s = absurd r
text_one trace_kind bytes report_read u r s = absurd r
text_one trace_kind bytes (extension_read x) u r s = absurd r
text_one trace_kind bytes (source_read x) u r s = absurd r
text_one trace_kind bytes (sheet_read x) u r s = absurd r
text_one trace_kind bytes (waits_read x) u r s = absurd r
text_one trace_kind bytes (lines_read x) u r s = absurd r

-- ---- a told file has one text
same_file : (files : Option NamedFiles) (name a b : List ℕ) → files ≢ None → IsFile files name a → IsFile files name b → a ≡ b
same_file None name a b told f g = absurd (told refl)
same_file (Some files) name a b told f g = f.told ∙ sym g.told

not_long : (files : Option NamedFiles) (name a : List ℕ) → files ≢ None → IsFile files name a → IfSome (told_file files name) (λ file. most_bytes < length file) → ⊥
not_long None name a told f long = told refl
not_long (Some files) name a told f long =
    let within = f.within in
    let same : a ≡ unwrap_or (file_named files name) [] = f.told in
    let l : most_bytes < length a = subst (λ x. most_bytes < length x) (sym same) long in
    omega (arith, within, l)

one_number : (most : ℕ) (word : List ℕ) (v u : Reading) → ((n : ℕ) × (number_within most word ≡ Some n) × (v ≡ number_read n)) → ((n : ℕ) × (number_within most word ≡ Some n) × (u ≡ number_read n)) → v ≡ u
one_number most word v u r s = r.2 ∙ ap (λ n. number_read n) (one (number_within most word) r.0 s.0 r.1 s.1) ∙ sym s.2

read_one : (files : Option NamedFiles) (slot : Slot) (word : List ℕ) (v u : Reading) → files ≢ None → IsRead files slot word v → IsRead files slot word u → v ≡ u
read_one files (Number most) word v u told r s = one_number most word v u r s
read_one files (File kind) word v u told r s =
    text_one kind s.0 v u (subst (λ b. IsReadAs kind b v) (same_file files word r.0 s.0 told r.1 s.1) r.2) s.2

pub all_one : (files : Option NamedFiles) (slots : List Slot) (words : List (List ℕ)) (vs us : List Reading) → files ≢ None → AreRead files slots words vs → AreRead files slots words us → vs ≡ us
all_one files [] [] [] [] told r s = refl
all_one files [] [] [] (u ∷ us) told r s = absurd s
all_one files [] [] (v ∷ vs) us told r s = absurd r
all_one files [] (word ∷ words) vs us told r s = absurd r
all_one files (slot ∷ slots) [] vs us told r s = absurd r
all_one files (slot ∷ slots) (word ∷ words) [] us told r s = absurd r
all_one files (slot ∷ slots) (word ∷ words) (v ∷ vs) [] told r s = absurd s
all_one files (slot ∷ slots) (word ∷ words) (v ∷ vs) (u ∷ us) told r s =
    ap (λ x. x ∷ vs) (read_one files slot word v u told r.0 s.0) ∙ ap (λ xs. u ∷ xs) (all_one files slots words vs us told r.1 s.1)

-- ---- a file that is read is refused for a fault alone
only_fault : (files : Option NamedFiles) (R : List ℕ → Type 0) (kind : FileKind) (name : List ℕ) (v : Reading) (status : Status) (line : List ℕ) → files ≢ None → IsRead files (File kind) name v → IsRefusedFile files R kind name status line → R name × (status ≡ ReadFault)
only_fault files R kind name v _ _ told r (not_read rose) = (rose, refl)
only_fault files R kind name v _ _ told r (too_long long) = absurd (not_long files name r.0 told r.1 long)
only_fault files R kind name v _ _ told r (bad_text bytes line file bad) =
    absurd (text_apart kind bytes line v (subst (λ b. IsReadAs kind b v) (same_file files name r.0 bytes told r.1 file) r.2) bad)

-- two refusals of a file have one status, or the first is a fault
two_refusals : (files : Option NamedFiles) (R : List ℕ → Type 0) (kind : FileKind) (name : List ℕ) (s t : Status) (a b : List ℕ) → files ≢ None → IsRefusedFile files R kind name s a → IsRefusedFile files NoneRises kind name t b → (s ≡ t) ⊎ (s ≡ ReadFault)
two_refusals files R kind name _ _ _ _ told (not_read rose) g = inr refl
two_refusals files R kind name _ _ _ _ told (too_long long) (not_read rose) = absurd rose
two_refusals files R kind name _ _ _ _ told (too_long long) (too_long other) = inl refl
two_refusals files R kind name _ _ _ _ told (too_long long) (bad_text bytes line file bad) = absurd (not_long files name bytes told file long)
two_refusals files R kind name _ _ _ _ told (bad_text bytes line file bad) (not_read rose) = absurd rose
two_refusals files R kind name _ _ _ _ told (bad_text bytes line file bad) (too_long long) = absurd (not_long files name bytes told file long)
two_refusals files R kind name _ _ _ _ told (bad_text bytes line file bad) (bad_text texts other again worse) = inl refl

-- ---- the same of all words
first_two : (files : Option NamedFiles) (R : List ℕ → Type 0) (slots : List Slot) (words : List (List ℕ)) (s t : Status) (a b : List ℕ) → files ≢ None → IsFirstRefused files R slots words s a → IsFirstRefused files NoneRises slots words t b → (s ≡ t) ⊎ (s ≡ ReadFault)
first_two files R [] words s t a b told f g = absurd f
first_two files R (Number most ∷ slots) [] s t a b told f g = absurd f
first_two files R (File kind ∷ slots) [] s t a b told f g = absurd f
first_two files R (Number most ∷ slots) (word ∷ words) s t a b told f g = first_two files R slots words s t a b told f g
first_two files R (File kind ∷ slots) (word ∷ words) s t a b told (inl f) (inl g) = two_refusals files R kind word s t a b told f g
first_two files R (File kind ∷ slots) (word ∷ words) s t a b told (inl f) (inr g) = inr (only_fault files R kind word g.0 s a told g.1 f).1
first_two files R (File kind ∷ slots) (word ∷ words) s t a b told (inr f) (inl g) = absurd (only_fault files NoneRises kind word f.0 t b told f.1 g).0
first_two files R (File kind ∷ slots) (word ∷ words) s t a b told (inr f) (inr g) = first_two files R slots words s t a b told f.2 g.2

first_fault : (files : Option NamedFiles) (R : List ℕ → Type 0) (slots : List Slot) (words : List (List ℕ)) (vs : List Reading) (s : Status) (a : List ℕ) → files ≢ None → IsFirstRefused files R slots words s a → AreRead files slots words vs → s ≡ ReadFault
first_fault files R [] words vs s a told f r = absurd f
first_fault files R (Number most ∷ slots) [] vs s a told f r = absurd f
first_fault files R (File kind ∷ slots) [] vs s a told f r = absurd f
first_fault files R (slot ∷ slots) (word ∷ words) [] s a told f r = absurd r
first_fault files R (Number most ∷ slots) (word ∷ words) (v ∷ vs) s a told f r = first_fault files R slots words vs s a told f r.1
first_fault files R (File kind ∷ slots) (word ∷ words) (v ∷ vs) s a told (inl f) r = (only_fault files R kind word v s a told r.0 f).1
first_fault files R (File kind ∷ slots) (word ∷ words) (v ∷ vs) s a told (inr f) r = first_fault files R slots words vs s a told f.2 r.1

-- where no count rises, words that are read are not refused
pub not_refused : (files : Option NamedFiles) (R : List ℕ → Type 0) (slots : List Slot) (words : List (List ℕ)) (vs : List Reading) (s : Status) (a : List ℕ) → files ≢ None → NoFileRises R slots words → IsFirstRefused files R slots words s a → AreRead files slots words vs → ⊥
not_refused files R [] words vs s a told none f r = f
not_refused files R (Number most ∷ slots) [] vs s a told none f r = f
not_refused files R (File kind ∷ slots) [] vs s a told none f r = f
not_refused files R (slot ∷ slots) (word ∷ words) [] s a told none f r = r
not_refused files R (Number most ∷ slots) (word ∷ words) (v ∷ vs) s a told none f r = not_refused files R slots words vs s a told none f r.1
not_refused files R (File kind ∷ slots) (word ∷ words) (v ∷ vs) s a told none (inl f) r = none.0 (only_fault files R kind word v s a told r.0 f).0
not_refused files R (File kind ∷ slots) (word ∷ words) (v ∷ vs) s a told none (inr f) r = not_refused files R slots words vs s a told none.1 f.2 r.1

none_rises : (slots : List Slot) (words : List (List ℕ)) → NoFileRises NoneRises slots words
none_rises [] words = tt
none_rises (Number most ∷ slots) [] = tt
none_rises (File kind ∷ slots) [] = tt
none_rises (Number most ∷ slots) (word ∷ words) = none_rises slots words
none_rises (File kind ∷ slots) (word ∷ words) = (λ rose. rose, none_rises slots words)

-- ---- a command's own refusals, of sources and of behaviours
pub told_status : (P : Status → Type 0) → P extension_status → P NoSchedule → (e : TextErr) (status : Status) (line : List ℕ) → IsToldAs e status line → P status
told_status P x n (T.TooManyOps text) status line told = subst P (sym told.0) x
told_status P x n (T.NoSchedule text) status line told = subst P (sym told.0) n
told_status P x n T.Memory status line told = absurd told

-- their statuses, by what is so of each
pub own_status : (P : Status → Type 0) → P Source → P extension_status → P NoSchedule → P Trace → P barrel_status → (command : Command) (vs : List Reading) (status : Status) (line : List ℕ) → IsOwnRefusal command vs status line → P status
own_status P s x n t b command vs status line (inl own) = subst P (sym own.status_is) s
own_status P s x n t b command vs status line (inr (inl own)) = told_status P x n own.error status line own.told
own_status P s x n t b command vs status line (inr (inr (inl own))) = subst P (sym own.status_is) x
own_status P s x n t b command vs status line (inr (inr (inr (inl own)))) = subst P (sym own.status_is) t
own_status P s x n t b command vs status line (inr (inr (inr (inr own)))) = subst P (sym own.status_is) b

-- a source that is refused has no words
source_apart : (command : Command) (vs : List Reading) (s : Status) (a b : List ℕ) → IsSourceRefusal command vs s a → IsOutput command vs b → ⊥
source_apart command vs s a b own out =
    let there : IsOutput Assemble (extension_read own.extension ∷ source_read own.source ∷ []) b =
    subst (λ us. IsOutput Assemble us b) own.values_are (subst (λ c. IsOutput c vs b) own.command_is out) in
    own.no_memory (only_memory (assembled own.extension own.source) own.error there.0 own.refused there.1)

told_some : (e : TextErr) (status : Status) (line : List ℕ) → IsToldAs e status line → e ≢ T.Memory
told_some (T.TooManyOps text) status line told e = cc
told_some (T.NoSchedule text) status line told e = cc
told_some T.Memory status line told e = told

-- an extension of which a behaviour is refused has no report, no modules, no run or dump of one, and no summary of one
run_apart : (form : RunForm) (x : ExtensionTree) (sheet : Datasheet) (others : List Reading) (b : List ℕ) (e : TextErr) → e ≢ T.Memory → IsPipelineOutput form (extension_read x ∷ sheet_read sheet ∷ others) b → IsRefusedSchedule x sheet e → ⊥
run_apart form x sheet others b e some out refused =
    let same : (x ≡ out.extension) × (sheet ≡ out.sheet) = (let v = out.values_are in cc, let v = out.values_are in cc) in
    let there : IsRefusedSchedule (view_extension out.runs.design.extension) out.runs.design.sheet e =
    subst (λ y. IsRefusedSchedule y out.runs.design.sheet e) (same.0 ∙ sym out.runs.extension_is) (subst (λ d. IsRefusedSchedule x d e) (same.1 ∙ sym out.runs.sheet_is) refused) in
    design_not_refused out.runs.design e some out.runs.stands there

interrupted_apart : (x : ExtensionTree) (sheet : Datasheet) (others : List Reading) (b : List ℕ) (e : TextErr) → e ≢ T.Memory → IsInterruptedOutput (extension_read x ∷ sheet_read sheet ∷ others) b → IsRefusedSchedule x sheet e → ⊥
interrupted_apart x sheet others b e some out refused =
    let same : (x ≡ out.extension) × (sheet ≡ out.sheet) = (let v = out.values_are in cc, let v = out.values_are in cc) in
    let there : IsRefusedSchedule (view_extension out.runs.design.extension) out.runs.design.sheet e =
    subst (λ y. IsRefusedSchedule y out.runs.design.sheet e) (same.0 ∙ sym out.runs.extension_is) (subst (λ d. IsRefusedSchedule x d e) (same.1 ∙ sym out.runs.sheet_is) refused) in
    design_not_refused out.runs.design e some out.runs.stands there

bench_apart : (x : ExtensionTree) (sheet : Datasheet) (others : List Reading) (b : List ℕ) (e : TextErr) → e ≢ T.Memory → IsBenchOutput (extension_read x ∷ sheet_read sheet ∷ others) b → IsRefusedSchedule x sheet e → ⊥
bench_apart x sheet others b e some out refused =
    let same : (x ≡ out.extension) × (sheet ≡ out.sheet) = (let v = out.values_are in cc, let v = out.values_are in cc) in
    let there : IsRefusedSchedule (view_extension out.runs.design.extension) out.runs.design.sheet e =
    subst (λ y. IsRefusedSchedule y out.runs.design.sheet e) (same.0 ∙ sym out.runs.extension_is) (subst (λ d. IsRefusedSchedule x d e) (same.1 ∙ sym out.runs.sheet_is) refused) in
    design_not_refused out.runs.design e some out.runs.stands there

audit_apart : (x : ExtensionTree) (sheet : Datasheet) (others : List Reading) (b : List ℕ) (e : TextErr) → e ≢ T.Memory → IsAuditOutput (extension_read x ∷ sheet_read sheet ∷ others) b → IsRefusedSchedule x sheet e → ⊥
audit_apart x sheet others b e some out refused =
    let same : (x ≡ out.extension) × (sheet ≡ out.sheet) = (let v = out.values_are in cc, let v = out.values_are in cc) in
    let there : IsRefusedSchedule (view_extension out.audited.design.extension) out.audited.design.sheet e =
    subst (λ y. IsRefusedSchedule y out.audited.design.sheet e) (same.0 ∙ sym out.audited.extension_is) (subst (λ d. IsRefusedSchedule x d e) (same.1 ∙ sym out.audited.sheet_is) refused) in
    design_not_refused out.audited.design e some out.audited.stands there

barrel_apart : (x : ExtensionTree) (sheet : Datasheet) (others : List Reading) (b : List ℕ) (e : TextErr) → e ≢ T.Memory → IsBarrelOutput (extension_read x ∷ sheet_read sheet ∷ others) b → IsRefusedSchedule x sheet e → ⊥
barrel_apart x sheet others b e some out refused =
    let same : (x ≡ out.extension) × (sheet ≡ out.sheet) = (let v = out.values_are in cc, let v = out.values_are in cc) in
    let there : IsRefusedSchedule (view_extension out.runs.design.extension) out.runs.design.sheet e =
    subst (λ y. IsRefusedSchedule y out.runs.design.sheet e) (same.0 ∙ sym out.runs.extension_is) (subst (λ d. IsRefusedSchedule x d e) (same.1 ∙ sym out.runs.sheet_is) refused) in
    design_not_refused out.runs.design e some out.runs.stands there

sheet_apart : (command : Command) (x : ExtensionTree) (sheet : Datasheet) (others : List Reading) (b : List ℕ) (e : TextErr) → Schedules command → e ≢ T.Memory → IsOutput command (extension_read x ∷ sheet_read sheet ∷ others) b → IsRefusedSchedule x sheet e → ⊥
sheet_apart Schedule x sheet [] b e h some out refused = scheduled_not_refused x sheet b e some out refused
sheet_apart Schedule x sheet (v ∷ vs) b e h some out refused = out
sheet_apart Build x sheet [] b e h some out refused = modules_not_refused x sheet b e some out refused
sheet_apart Build x sheet (v ∷ vs) b e h some out refused = out
sheet_apart RunExtension x sheet others b e h some out refused = run_apart Rows x sheet others b e some out refused
sheet_apart Wave x sheet others b e h some out refused = run_apart Ports x sheet others b e some out refused
sheet_apart RunInterrupted x sheet others b e h some out refused = interrupted_apart x sheet others b e some out refused
sheet_apart Bench x sheet others b e h some out refused = bench_apart x sheet others b e some out refused
sheet_apart Audit x sheet others b e h some out refused = audit_apart x sheet others b e some out refused
sheet_apart Barrel x sheet others b e h some out refused = barrel_apart x sheet others b e some out refused
sheet_apart RunImage x sheet others b e h some out refused = h
sheet_apart Check x sheet others b e h some out refused = h
sheet_apart Certify x sheet others b e h some out refused = h
sheet_apart Assemble x sheet others b e h some out refused = h
sheet_apart Seq x sheet others b e h some out refused = h
sheet_apart Sweep x sheet others b e h some out refused = h

schedule_apart : (command : Command) (vs : List Reading) (s : Status) (a b : List ℕ) → IsScheduleRefusal command vs s a → IsOutput command vs b → ⊥
schedule_apart command vs s a b own out =
    sheet_apart command own.extension own.sheet own.others b own.error own.schedules (told_some own.error s a own.told) (subst (λ us. IsOutput command us b) own.values_are out) own.refused

-- an extension of which a behaviour has too many operations has no sweep
line_some : (line : List ℕ) → W.TooManyOps line ≡ W.Memory → ⊥
line_some line e = cc

sweep_apart : (command : Command) (vs : List Reading) (s : Status) (a b : List ℕ) → IsSweepRefusal command vs s a → IsOutput command vs b → ⊥
sweep_apart command vs s a b own out =
    let there : IsOutput Sweep (extension_read own.extension ∷ sheet_read own.sheet ∷ []) b =
    subst (λ us. IsOutput Sweep us b) own.values_are (subst (λ c. IsOutput c vs b) own.command_is out) in
    swept_not_refused own.extension own.sheet b (W.TooManyOps a) (line_some a) there own.refused

-- a trace that is refused is not that of a lawful run
trace_values : {x y : ExtensionTree} {s t : Datasheet} {i j w v a b : List ℕ}
    → extension_read x ∷ sheet_read s ∷ image_read i ∷ waits_read w ∷ trace_read a ∷ [] ≡ extension_read y ∷ sheet_read t ∷ image_read j ∷ waits_read v ∷ trace_read b ∷ [] → (x ≡ y) × (s ≡ t) × (i ≡ j) × (w ≡ v) × (a ≡ b)
trace_values e = (cc, cc, cc, cc, cc)

trace_apart : OneAnswerLaw → (command : Command) (vs : List Reading) (s : Status) (a b : List ℕ) → Takes command vs → IsTraceRefusal command vs s a → IsOutput command vs b → ⊥
trace_apart law command vs s a b taken own out =
    let given : Takes Audit (extension_read own.extension ∷ sheet_read own.sheet ∷ image_read own.image ∷ waits_read own.waits ∷ trace_read own.trace ∷ []) =
    subst (λ us. Takes Audit us) own.values_are (subst (λ c. Takes c vs) own.command_is taken) in
    let there : IsAuditOutput vs b = subst (λ c. IsOutput c vs b) own.command_is out in
    let same = trace_values (sym own.values_are ∙ there.values_are) in
    let d = there.audited.design in
    let e = own.faulty.design in
    let alike : AreAlike d e = record { extension = there.audited.extension_is ∙ sym same.0 ∙ sym own.faulty.extension_is; sheet = there.audited.sheet_is ∙ sym same.1 ∙ sym own.faulty.sheet_is } in
    let audited : IsAudited d own.image own.waits own.trace =
    subst (λ i. IsAudited d i own.waits own.trace) (sym same.2) (subst (λ w. IsAudited d there.image w own.trace) (sym same.3) (subst (λ t. IsAudited d there.image there.waits t) (sym same.4) there.audited.audited)) in
    let within = given.2 in
    law d e own.image own.waits own.trace own.error there.audited.stands own.faulty.stands alike given.1 (omega (arith, within)) audited own.faulty.fault

read_parts : (x y : ExtensionTree) (s t : Datasheet) (xs ys : List Reading) → extension_read x ∷ sheet_read s ∷ xs ≡ extension_read y ∷ sheet_read t ∷ ys → (x ≡ y) × (s ≡ t)
read_parts x y s t xs ys e = (cc, cc)

-- an extension with a Tight behaviour has no run of two harts
tight_apart : OneLaw → (command : Command) (vs : List Reading) (s : Status) (a b : List ℕ) → IsBarrelRefusal command vs s a → IsOutput command vs b → ⊥
tight_apart chosen command vs s a b own out =
    let there : IsBarrelOutput vs b = subst (λ c. IsOutput c vs b) own.command_is out in
    let same = read_parts own.extension there.extension own.sheet there.sheet own.others (image_read there.first ∷ image_read there.second ∷ number_read there.cycles ∷ []) (sym own.values_are ∙ there.values_are) in
    let d = own.tight.design in
    let e = there.runs.design in
    let alike : AreAlike d e = record { extension = own.tight.extension_is ∙ same.0 ∙ sym there.runs.extension_is; sheet = own.tight.sheet_is ∙ same.1 ∙ sym there.runs.sheet_is } in
    both (tight_behaviour d) own.tight.behaviour own.tight.tight (one_tight chosen d e own.tight.stands there.runs.stands alike ∙ there.runs.no_tight)

own_apart : OneAnswerLaw → OneLaw → (command : Command) (vs : List Reading) (s : Status) (a b : List ℕ) → Takes command vs → IsOwnRefusal command vs s a → IsOutput command vs b → ⊥
own_apart law chosen command vs s a b taken (inl own) out = source_apart command vs s a b own out
own_apart law chosen command vs s a b taken (inr (inl own)) out = schedule_apart command vs s a b own out
own_apart law chosen command vs s a b taken (inr (inr (inl own))) out = sweep_apart command vs s a b own out
own_apart law chosen command vs s a b taken (inr (inr (inr (inl own)))) out = trace_apart law command vs s a b taken own out
own_apart law chosen command vs s a b taken (inr (inr (inr (inr own)))) out = tight_apart chosen command vs s a b own out

-- a behaviour is refused with one status
refused_one : (x : ExtensionTree) (sheet : Datasheet) (e f : TextErr) (s t : Status) (a b : List ℕ) → IsRefusedSchedule x sheet e → IsRefusedSchedule x sheet f → IsToldAs e s a → IsToldAs f t b → s ≡ t
refused_one x sheet (T.TooManyOps k) (T.TooManyOps l) s t a b p q told other = told.0 ∙ sym other.0
refused_one x sheet (T.NoSchedule k) (T.NoSchedule l) s t a b p q told other = told.0 ∙ sym other.0
refused_one x sheet (T.TooManyOps k) (T.NoSchedule l) s t a b p q told other = absurd (one_refusal x sheet k l p q)
refused_one x sheet (T.NoSchedule k) (T.TooManyOps l) s t a b p q told other = absurd (one_refusal x sheet l k q p)
refused_one x sheet T.Memory f s t a b p q told other = absurd told
refused_one x sheet (T.TooManyOps k) T.Memory s t a b p q told other = absurd other
refused_one x sheet (T.NoSchedule k) T.Memory s t a b p q told other = absurd other

schedules_one : (command : Command) (vs : List Reading) (s t : Status) (a b : List ℕ) → IsScheduleRefusal command vs s a → IsScheduleRefusal command vs t b → s ≡ t
schedules_one command vs s t a b own other =
    let same = read_parts own.extension other.extension own.sheet other.sheet own.others other.others (sym own.values_are ∙ other.values_are) in
    refused_one own.extension own.sheet own.error other.error s t a b own.refused
    (subst (λ x. IsRefusedSchedule x own.sheet other.error) (sym same.0) (subst (λ d. IsRefusedSchedule other.extension d other.error) (sym same.1) other.refused))
    own.told other.told

-- an assembly schedules nothing
no_scheduling : (command : Command) → command ≡ Assemble → Schedules command → ⊥
no_scheduling command e h = subst Schedules e h

-- nor does a sweep refuse what has no schedule
no_sweeping : (command : Command) → command ≡ Sweep → Schedules command → ⊥
no_sweeping command e h = subst Schedules e h

assembly_or_sweep : (command : Command) → command ≡ Assemble → command ≡ Sweep → ⊥
assembly_or_sweep command e f = let same = sym e ∙ f in cc

assembly_or_audit : (command : Command) → command ≡ Assemble → command ≡ Audit → ⊥
assembly_or_audit command e f = let same = sym e ∙ f in cc

sweep_or_audit : (command : Command) → command ≡ Sweep → command ≡ Audit → ⊥
sweep_or_audit command e f = let same = sym e ∙ f in cc

assembly_or_barrel : (command : Command) → command ≡ Assemble → command ≡ Barrel → ⊥
assembly_or_barrel command e f = let same = sym e ∙ f in cc

sweep_or_barrel : (command : Command) → command ≡ Sweep → command ≡ Barrel → ⊥
sweep_or_barrel command e f = let same = sym e ∙ f in cc

audit_or_barrel : (command : Command) → command ≡ Audit → command ≡ Barrel → ⊥
audit_or_barrel command e f = let same = sym e ∙ f in cc

-- a trace is refused where each behaviour is scheduled
trace_scheduled : (command : Command) (vs : List Reading) (s t : Status) (a b : List ℕ) → IsScheduleRefusal command vs s a → IsTraceRefusal command vs t b → ⊥
trace_scheduled command vs s t a b own other =
    let same = read_parts own.extension other.extension own.sheet other.sheet own.others (image_read other.image ∷ waits_read other.waits ∷ trace_read other.trace ∷ []) (sym own.values_are ∙ other.values_are) in
    let d = other.faulty.design in
    let there : IsRefusedSchedule (view_extension d.extension) d.sheet own.error =
    subst (λ x. IsRefusedSchedule x d.sheet own.error) (same.0 ∙ sym other.faulty.extension_is) (subst (λ y. IsRefusedSchedule own.extension y own.error) (same.1 ∙ sym other.faulty.sheet_is) own.refused) in
    design_not_refused d own.error (told_some own.error s a own.told) other.faulty.stands there

-- and so is a Tight behaviour
tight_scheduled : (command : Command) (vs : List Reading) (s t : Status) (a b : List ℕ) → IsScheduleRefusal command vs s a → IsBarrelRefusal command vs t b → ⊥
tight_scheduled command vs s t a b own other =
    let same = read_parts own.extension other.extension own.sheet other.sheet own.others other.others (sym own.values_are ∙ other.values_are) in
    let d = other.tight.design in
    let there : IsRefusedSchedule (view_extension d.extension) d.sheet own.error =
    subst (λ x. IsRefusedSchedule x d.sheet own.error) (same.0 ∙ sym other.tight.extension_is) (subst (λ y. IsRefusedSchedule own.extension y own.error) (same.1 ∙ sym other.tight.sheet_is) own.refused) in
    design_not_refused d own.error (told_some own.error s a own.told) other.tight.stands there

own_one : (command : Command) (vs : List Reading) (s t : Status) (a b : List ℕ) → IsOwnRefusal command vs s a → IsOwnRefusal command vs t b → s ≡ t
own_one command vs s t a b (inl own) (inl other) = own.status_is ∙ sym other.status_is
own_one command vs s t a b (inl own) (inr (inl other)) = absurd (no_scheduling command own.command_is other.schedules)
own_one command vs s t a b (inl own) (inr (inr (inl other))) = absurd (assembly_or_sweep command own.command_is other.command_is)
own_one command vs s t a b (inl own) (inr (inr (inr (inl other)))) = absurd (assembly_or_audit command own.command_is other.command_is)
own_one command vs s t a b (inr (inl own)) (inl other) = absurd (no_scheduling command other.command_is own.schedules)
own_one command vs s t a b (inr (inl own)) (inr (inl other)) = schedules_one command vs s t a b own other
own_one command vs s t a b (inr (inl own)) (inr (inr (inl other))) = absurd (no_sweeping command other.command_is own.schedules)
own_one command vs s t a b (inr (inl own)) (inr (inr (inr (inl other)))) = absurd (trace_scheduled command vs s t a b own other)
own_one command vs s t a b (inr (inr (inl own))) (inl other) = absurd (assembly_or_sweep command other.command_is own.command_is)
own_one command vs s t a b (inr (inr (inl own))) (inr (inl other)) = absurd (no_sweeping command own.command_is other.schedules)
own_one command vs s t a b (inr (inr (inl own))) (inr (inr (inl other))) = own.status_is ∙ sym other.status_is
own_one command vs s t a b (inr (inr (inl own))) (inr (inr (inr (inl other)))) = absurd (sweep_or_audit command own.command_is other.command_is)
own_one command vs s t a b (inr (inr (inr (inl own)))) (inl other) = absurd (assembly_or_audit command other.command_is own.command_is)
own_one command vs s t a b (inr (inr (inr (inl own)))) (inr (inl other)) = absurd (trace_scheduled command vs t s b a other own)
own_one command vs s t a b (inr (inr (inr (inl own)))) (inr (inr (inl other))) = absurd (sweep_or_audit command other.command_is own.command_is)
own_one command vs s t a b (inr (inr (inr (inl own)))) (inr (inr (inr (inl other)))) = own.status_is ∙ sym other.status_is
own_one command vs s t a b (inl own) (inr (inr (inr (inr other)))) = absurd (assembly_or_barrel command own.command_is other.command_is)
own_one command vs s t a b (inr (inl own)) (inr (inr (inr (inr other)))) = absurd (tight_scheduled command vs s t a b own other)
own_one command vs s t a b (inr (inr (inl own))) (inr (inr (inr (inr other)))) = absurd (sweep_or_barrel command own.command_is other.command_is)
own_one command vs s t a b (inr (inr (inr (inl own)))) (inr (inr (inr (inr other)))) = absurd (audit_or_barrel command own.command_is other.command_is)
own_one command vs s t a b (inr (inr (inr (inr own)))) (inl other) = absurd (assembly_or_barrel command other.command_is own.command_is)
own_one command vs s t a b (inr (inr (inr (inr own)))) (inr (inl other)) = absurd (tight_scheduled command vs t s b a other own)
own_one command vs s t a b (inr (inr (inr (inr own)))) (inr (inr (inl other))) = absurd (sweep_or_barrel command other.command_is own.command_is)
own_one command vs s t a b (inr (inr (inr (inr own)))) (inr (inr (inr (inl other)))) = absurd (audit_or_barrel command other.command_is own.command_is)
own_one command vs s t a b (inr (inr (inr (inr own)))) (inr (inr (inr (inr other)))) = own.status_is ∙ sym other.status_is

-- a command answers its values with one status
answer_one : OneAnswerLaw → OneLaw → (command : Command) (vs : List Reading) (s t : Status) (a b : List ℕ) → Takes command vs → IsAnswer command vs s a → IsAnswer command vs t b → s ≡ t
answer_one law chosen command vs s t a b taken (inl own) (inl other) = own_one command vs s t a b own other
answer_one law chosen command vs s t a b taken (inl own) (inr out) = absurd (own_apart law chosen command vs s a b taken own out.1)
answer_one law chosen command vs s t a b taken (inr out) (inl own) = absurd (own_apart law chosen command vs t b a taken own out.1)
answer_one law chosen command vs s t a b taken (inr out) (inr other) = out.0 ∙ sym other.0

-- ---- what is due to a command: a refusal of a file, or its answer
abbrev pub IsCommanded : Option NamedFiles → (List ℕ → Type 0) → List (List ℕ) → Command → Status → List ℕ → Type 0
IsCommanded files R words command status bytes =
    IsFirstRefused files R (slots_of command) (behind words) status bytes
    ⊎ ((vs : List Reading) × AreRead files (slots_of command) (behind words) vs × IsAnswer command vs status bytes)

pub commanded : (files : Option NamedFiles) (R : List ℕ → Type 0) (words : List (List ℕ)) (command : Command) (status : Status) (bytes : List ℕ) → command_of words ≡ Some command → IsDue files R words status bytes → IsCommanded files R words command status bytes
commanded files R words command _ _ e (due_usage none) = absurd (both (command_of words) command e none)
commanded files R words command _ _ e (due_file other status line is first) =
    inl (subst (λ c. IsFirstRefused files R (slots_of c) (behind words) status line) (one (command_of words) other command is e) first)
commanded files R words command _ _ e (due_answer other vs status bytes is read answer) =
    subst (λ c. IsCommanded files R words c status bytes) (one (command_of words) other command is e) (inr (vs, read, answer))

-- ---- one status is due
due_commanded : OneAnswerLaw → OneLaw → (files : Option NamedFiles) (R : List ℕ → Type 0) (words : List (List ℕ)) (command : Command) (s t : Status) (a b : List ℕ) → files ≢ None → IsCommanded files R words command s a → IsCommanded files NoneRises words command t b → (s ≡ t) ⊎ (s ≡ ReadFault)
due_commanded law chosen files R words command s t a b told (inl f) (inl g) = first_two files R (slots_of command) (behind words) s t a b told f g
due_commanded law chosen files R words command s t a b told (inl f) (inr g) = inr (first_fault files R (slots_of command) (behind words) g.0 s a told f g.1)
due_commanded law chosen files R words command s t a b told (inr f) (inl g) =
    absurd (not_refused files NoneRises (slots_of command) (behind words) f.0 t b told (none_rises (slots_of command) (behind words)) g f.1)
due_commanded law chosen files R words command s t a b told (inr f) (inr g) =
    inl (answer_one law chosen command g.0 s t a b (takes files command (behind words) g.0 g.1) (subst (λ vs. IsAnswer command vs s a) (all_one files (slots_of command) (behind words) f.0 g.0 told f.1 g.1) f.2) g.2)

command_or_none : (o : Option Command) → (o ≡ None) ⊎ ((command : Command) × (o ≡ Some command))
command_or_none None = inl refl
command_or_none (Some command) = inr (command, refl)

pub usage_alone : (files : Option NamedFiles) (R : List ℕ → Type 0) (words : List (List ℕ)) (s : Status) (a : List ℕ) → command_of words ≡ None → IsDue files R words s a → s ≡ Usage
usage_alone files R words _ _ none (due_usage e) = refl
usage_alone files R words _ _ none (due_file command status line is first) = absurd (both (command_of words) command is none)
usage_alone files R words _ _ none (due_answer command vs status bytes is read answer) = absurd (both (command_of words) command is none)

pub due_one : OneAnswerLaw → OneLaw → (files : Option NamedFiles) (R : List ℕ → Type 0) (words : List (List ℕ)) (s t : Status) (a b : List ℕ) → files ≢ None → IsDue files R words s a → IsDue files NoneRises words t b → (s ≡ t) ⊎ (s ≡ ReadFault)
due_one law chosen files R words s t a b told d e = elim (command_or_none (command_of words)) [
  | inl none ↦ inl (usage_alone files R words s a none d ∙ sym (usage_alone files NoneRises words t b none e))
  | inr some ↦ due_commanded law chosen files R words some.0 s t a b told (commanded files R words some.0 s a some.1 d) (commanded files NoneRises words some.0 t b some.1 e)
]
