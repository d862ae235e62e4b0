-- The clauses of the tool, from the one relation.
use Rattle.std.proofs.Common.{◌≡◌, ◌≢◌, ℕ, ◌<◌, List, length, Option, None, refl, sym, ◌∙◌, subst, arith, ◌⊎◌, inl, inr, Some}
use Rattle.std.specs.Prelude.{IfSome, codes}
use Rattle.ix_io.specs.Limits.{most_bytes}
use Rattle.ix_io.specs.Shelf.{NamedFiles, told_file}
use Rattle.ix_io.specs.Sink.{Appends}
use Rattle.ix_words.specs.declared.status.Status.{Status}
use Rattle.ix_words.specs.declared.status.Status.TheVariants.{Ok as ok_status, Usage, ReadFault, WriteFault, TooLong, Extension as extension_status, Image as image_status, Sheet as sheet_status, NoSchedule, Certificate, Memory, Source, Waits as waits_status, Lines as lines_status, Trace as trace_status, Barrel as barrel_status}
use Rattle.ix_words.specs.declared.command.Command.{Command}
use Rattle.ix_words.specs.declared.command.FileKind.{FileKind}
use Rattle.ix_words.specs.declared.command.FileKind.TheVariants.{Image, Report, Extension, Sheet, Source as source_kind, Waits, Lines, Trace as trace_kind}
use Rattle.ix_schedules.specs.declared.text.TextErr.{TextErr}
use Rattle.ix_schedules.specs.declared.text.TextErr.TheVariants as T
use Rattle.ix_schedules.specs.ScheduleText.{IsRefusedText as IsRefusedSchedule}
use Rattle.ix_words.specs.Readings.{Reading}
use Rattle.ix_words.specs.CommandLine.{command_of, slots_of, behind}
use Rattle.ix_words.specs.WordsRead.{RoseIn, file_line, refusal_status, IsRefusedFile, not_read, too_long, bad_text, IsFirstRefused, IsFileOf, AreRead}
use Rattle.ix_tool.specs.CommandOutput.{Outcome, NoneRises, IsAnswer, IsDue, due_usage, due_file, due_answer, UsageAnswer, ReadFaultAnswer, WriteFaultAnswer, TooLongAnswer, TextAnswer, OutputAnswer, SourceAnswer, IsToldAs, IsScheduleRefusal, IsSweepRefusal, TraceAnswer, UnscheduledAnswer, UnsweptAnswer, NoScheduleAnswer, ExtensionAnswer, IsStatusOr, Premises, Completes}
use Rattle.rv_audit.specs.Alike.{OneAnswerLaw}
use Rattle.ix_sheet.specs.Laws.{OneLaw}
use Rattle.ix_tool.specs.BarrelOutput.{TightAnswer}
use Rattle.ix_words.proofs.Reading.{at_found}
use Rattle.ix_tool.proofs.Due.{all_one, not_refused, told_status, own_status, commanded, usage_alone, due_one}

-- ---- statuses are apart
-- a status that refuses a text is none of these
no_text : (s : Status) → (sheet_status ≡ s → ⊥) → (image_status ≡ s → ⊥) → (Certificate ≡ s → ⊥) → (extension_status ≡ s → ⊥) → (Source ≡ s → ⊥) → (waits_status ≡ s → ⊥) → (lines_status ≡ s → ⊥) → (trace_status ≡ s → ⊥) → (kind : FileKind) → refusal_status kind ≡ s → ⊥
no_text s d i r x o w l t Image e = i e
no_text s d i r x o w l t Report e = r e
no_text s d i r x o w l t Extension e = x e
no_text s d i r x o w l t Sheet e = d e
no_text s d i r x o w l t source_kind e = o e
no_text s d i r x o w l t Waits e = w e
no_text s d i r x o w l t Lines e = l e
no_text s d i r x o w l t trace_kind e = t e

text_no_usage : (kind : FileKind) → refusal_status kind ≡ Usage → ⊥
text_no_usage = no_text Usage (λ q. cc) (λ q. cc) (λ q. cc) (λ q. cc) (λ q. cc) (λ q. cc) (λ q. cc) (λ q. cc)

text_no_read_fault : (kind : FileKind) → refusal_status kind ≡ ReadFault → ⊥
text_no_read_fault = no_text ReadFault (λ q. cc) (λ q. cc) (λ q. cc) (λ q. cc) (λ q. cc) (λ q. cc) (λ q. cc) (λ q. cc)

text_no_write_fault : (kind : FileKind) → refusal_status kind ≡ WriteFault → ⊥
text_no_write_fault = no_text WriteFault (λ q. cc) (λ q. cc) (λ q. cc) (λ q. cc) (λ q. cc) (λ q. cc) (λ q. cc) (λ q. cc)

text_not_long : (kind : FileKind) → refusal_status kind ≡ TooLong → ⊥
text_not_long = no_text TooLong (λ q. cc) (λ q. cc) (λ q. cc) (λ q. cc) (λ q. cc) (λ q. cc) (λ q. cc) (λ q. cc)

text_not_ok : (kind : FileKind) → refusal_status kind ≡ ok_status → ⊥
text_not_ok = no_text ok_status (λ q. cc) (λ q. cc) (λ q. cc) (λ q. cc) (λ q. cc) (λ q. cc) (λ q. cc) (λ q. cc)

text_no_memory : (kind : FileKind) → refusal_status kind ≡ Memory → ⊥
text_no_memory = no_text Memory (λ q. cc) (λ q. cc) (λ q. cc) (λ q. cc) (λ q. cc) (λ q. cc) (λ q. cc) (λ q. cc)

text_no_schedule : (kind : FileKind) → refusal_status kind ≡ NoSchedule → ⊥
text_no_schedule = no_text NoSchedule (λ q. cc) (λ q. cc) (λ q. cc) (λ q. cc) (λ q. cc) (λ q. cc) (λ q. cc) (λ q. cc)

-- the status of a file's refusal, by what is so of each
of_refusal : (P : Status → Type 0) → P ReadFault → P TooLong → ((kind : FileKind) → P (refusal_status kind)) → (files : Option NamedFiles) (R : List ℕ → Type 0) (kind : FileKind) (name : List ℕ) (status : Status) (line : List ℕ) → IsRefusedFile files R kind name status line → P status
of_refusal P f l t files R kind name _ _ (not_read rose) = f
of_refusal P f l t files R kind name _ _ (too_long long) = l
of_refusal P f l t files R kind name _ _ (bad_text bytes line file bad) = t kind

of_first : (P : Status → Type 0) → P ReadFault → P TooLong → ((kind : FileKind) → P (refusal_status kind)) → (files : Option NamedFiles) (R : List ℕ → Type 0) (command : Command) (words : List (List ℕ)) (status : Status) (line : List ℕ) → IsFirstRefused files R (slots_of command) (behind words) status line → P status
of_first P f l t files R command words status line h =
    let found = at_found files (λ kind name. IsRefusedFile files R kind name status line) (slots_of command) (behind words) h in
    of_refusal P f l t files R found.0 found.1 status line found.2

-- the status of a command's answer, by what is so of each
of_answer : (P : Status → Type 0) → P ok_status → P Source → P extension_status → P NoSchedule → P trace_status → P barrel_status → (command : Command) (vs : List Reading) (status : Status) (bytes : List ℕ) → IsAnswer command vs status bytes → P status
of_answer P o s x n t b command vs status bytes (inl own) = own_status P s x n t b command vs status bytes own
of_answer P o s x n t b command vs status bytes (inr out) = subst P (sym out.0) o

-- a status that is due, by what is so of each
of_due : (P : Status → Type 0) → P ok_status → P Usage → P ReadFault → P TooLong → ((kind : FileKind) → P (refusal_status kind)) → P NoSchedule → P barrel_status → (files : Option NamedFiles) (R : List ℕ → Type 0) (words : List (List ℕ)) (status : Status) (bytes : List ℕ) → IsDue files R words status bytes → P status
of_due P o u f l t n b files R words _ _ (due_usage none) = u
of_due P o u f l t n b files R words _ _ (due_file command status line is first) = of_first P f l t files R command words status line first
of_due P o u f l t n b files R words _ _ (due_answer command vs status bytes is read answer) = of_answer P o (t source_kind) (t Extension) n (t trace_kind) b command vs status bytes answer

due_no_fault : (files : Option NamedFiles) (R : List ℕ → Type 0) (words : List (List ℕ)) (status : Status) (bytes : List ℕ) → IsDue files R words status bytes → status ≡ WriteFault → ⊥
due_no_fault = of_due (λ s. s ≡ WriteFault → ⊥) (λ e. cc) (λ e. cc) (λ e. cc) (λ e. cc) text_no_write_fault (λ e. cc) (λ e. cc)

due_no_memory : (files : Option NamedFiles) (R : List ℕ → Type 0) (words : List (List ℕ)) (status : Status) (bytes : List ℕ) → IsDue files R words status bytes → status ≡ Memory → ⊥
due_no_memory = of_due (λ s. s ≡ Memory → ⊥) (λ e. cc) (λ e. cc) (λ e. cc) (λ e. cc) text_no_memory (λ e. cc) (λ e. cc)

-- ---- what is due, by its status
usage_of : (files : Option NamedFiles) (R : List ℕ → Type 0) (words : List (List ℕ)) (before now : Option (List ℕ)) (status : Status) (bytes : List ℕ) → IsDue files R words status bytes → status ≡ Usage → Appends before now bytes → UsageAnswer words before now
usage_of files R words before now _ _ (due_usage none) e a = (none, a)
usage_of files R words before now _ _ (due_file command status line is first) e a =
    absurd (of_first (λ s. s ≡ Usage → ⊥) (λ q. cc) (λ q. cc) text_no_usage files R command words status line first e)
usage_of files R words before now _ _ (due_answer command vs status bytes is read answer) e a = absurd (of_answer (λ s. s ≡ Usage → ⊥) (λ q. cc) (λ q. cc) (λ q. cc) (λ q. cc) (λ q. cc) (λ q. cc) command vs status bytes answer e)

fault_of : (files : Option NamedFiles) (counts counts_now : List ℕ → ℕ) (before now : Option (List ℕ)) (kind : FileKind) (name : List ℕ) (status : Status) (line : List ℕ) → IsRefusedFile files (RoseIn counts counts_now) kind name status line → status ≡ ReadFault → Appends before now line
    → RoseIn counts counts_now name × Appends before now (file_line (codes "ReadFault") name)
fault_of files counts counts_now before now kind name _ _ (not_read rose) e a = (rose, a)
fault_of files counts counts_now before now kind name _ _ (too_long long) e a = absurd cc
fault_of files counts counts_now before now kind name _ _ (bad_text bytes line file bad) e a = absurd (text_no_read_fault kind e)

read_fault_of : (files : Option NamedFiles) (counts counts_now : List ℕ → ℕ) (words : List (List ℕ)) (before now : Option (List ℕ)) (status : Status) (bytes : List ℕ) → IsDue files (RoseIn counts counts_now) words status bytes → status ≡ ReadFault → Appends before now bytes → ReadFaultAnswer files words counts counts_now before now
read_fault_of files counts counts_now words before now _ _ (due_usage none) e a = absurd cc
read_fault_of files counts counts_now words before now _ _ (due_file command status line is first) e a =
    let found = at_found files (λ kind name. IsRefusedFile files (RoseIn counts counts_now) kind name status line) (slots_of command) (behind words) first in
    let cause = fault_of files counts counts_now before now found.0 found.1 status line found.2 e a in
    record { command = command; kind = found.0; name = found.1; command_is = is; file = found.3; rose = cause.0; line = cause.1 }
read_fault_of files counts counts_now words before now _ _ (due_answer command vs status bytes is read answer) e a = absurd (of_answer (λ s. s ≡ ReadFault → ⊥) (λ q. cc) (λ q. cc) (λ q. cc) (λ q. cc) (λ q. cc) (λ q. cc) command vs status bytes answer e)

long_of : (files : Option NamedFiles) (R : List ℕ → Type 0) (before now : Option (List ℕ)) (kind : FileKind) (name : List ℕ) (status : Status) (line : List ℕ) → IsRefusedFile files R kind name status line → status ≡ TooLong → Appends before now line
    → IfSome (told_file files name) (λ file. most_bytes < length file) × Appends before now (file_line (codes "TooLong") name)
long_of files R before now kind name _ _ (not_read rose) e a = absurd cc
long_of files R before now kind name _ _ (too_long long) e a = (long, a)
long_of files R before now kind name _ _ (bad_text bytes line file bad) e a = absurd (text_not_long kind e)

too_long_of : (files : Option NamedFiles) (R : List ℕ → Type 0) (words : List (List ℕ)) (before now : Option (List ℕ)) (status : Status) (bytes : List ℕ) → IsDue files R words status bytes → status ≡ TooLong → Appends before now bytes → TooLongAnswer files words before now
too_long_of files R words before now _ _ (due_usage none) e a = absurd cc
too_long_of files R words before now _ _ (due_file command status line is first) e a =
    let found = at_found files (λ kind name. IsRefusedFile files R kind name status line) (slots_of command) (behind words) first in
    let cause = long_of files R before now found.0 found.1 status line found.2 e a in
    record { command = command; kind = found.0; name = found.1; command_is = is; file = found.3; long = cause.0; line = cause.1 }
too_long_of files R words before now _ _ (due_answer command vs status bytes is read answer) e a = absurd (of_answer (λ s. s ≡ TooLong → ⊥) (λ q. cc) (λ q. cc) (λ q. cc) (λ q. cc) (λ q. cc) (λ q. cc) command vs status bytes answer e)

bad_of : (files : Option NamedFiles) (R : List ℕ → Type 0) (words : List (List ℕ)) (wanted : Status) (before now : Option (List ℕ)) (command : Command) (found : FileKind) (name : List ℕ) (status : Status) (line : List ℕ) → command_of words ≡ Some command → IsRefusedFile files R found name status line
    → IsFileOf files found name (slots_of command) (behind words) → status ≡ wanted → (ReadFault ≡ wanted → ⊥) → (TooLong ≡ wanted → ⊥) → Appends before now line → TextAnswer files words wanted before now
bad_of files R words wanted before now command found name _ _ is (not_read rose) at e no_fault not_long a = absurd (no_fault e)
bad_of files R words wanted before now command found name _ _ is (too_long long) at e no_fault not_long a = absurd (not_long e)
bad_of files R words wanted before now command found name _ _ is (bad_text bytes line content bad) at e no_fault not_long a =
    record {
      command = command;
      kind = found;
      kind_is = e;
      name = name;
      bytes = bytes;
      line = line;
      command_is = is;
      file = at;
      content = content;
      refused = bad;
      written = a;
    }

text_of_kind : (files : Option NamedFiles) (R : List ℕ → Type 0) (words : List (List ℕ)) (kind : FileKind) → (refusal_status kind ≡ Source → ⊥) → (refusal_status kind ≡ extension_status → ⊥) → (refusal_status kind ≡ trace_status → ⊥) → (refusal_status kind ≡ barrel_status → ⊥) → (before now : Option (List ℕ)) (status : Status) (bytes : List ℕ) → IsDue files R words status bytes → status ≡ refusal_status kind → Appends before now bytes → TextAnswer files words (refusal_status kind) before now
text_of_kind files R words kind apart other no_trace no_barrel before now _ _ (due_usage none) e a = absurd (text_no_usage kind (sym e))
text_of_kind files R words kind apart other no_trace no_barrel before now _ _ (due_file command status line is first) e a =
    let found = at_found files (λ other name. IsRefusedFile files R other name status line) (slots_of command) (behind words) first in
    bad_of files R words (refusal_status kind) before now command found.0 found.1 status line is found.2 found.3 e (λ q. text_no_read_fault kind (sym q)) (λ q. text_not_long kind (sym q)) a
text_of_kind files R words kind apart other no_trace no_barrel before now _ _ (due_answer command vs status bytes is read answer) e a =
    absurd (of_answer (λ s. s ≡ refusal_status kind → ⊥) (λ q. text_not_ok kind (sym q)) (λ q. apart (sym q)) (λ q. other (sym q)) (λ q. text_no_schedule kind (sym q)) (λ q. no_trace (sym q)) (λ q. no_barrel (sym q)) command vs status bytes answer e)

output_of : (files : Option NamedFiles) (R : List ℕ → Type 0) (words : List (List ℕ)) (before now : Option (List ℕ)) (status : Status) (bytes : List ℕ) → IsDue files R words status bytes → status ≡ ok_status → Appends before now bytes → OutputAnswer files words before now
output_of files R words before now _ _ (due_usage none) e a = absurd cc
output_of files R words before now _ _ (due_file command status line is first) e a =
    absurd (of_first (λ s. s ≡ ok_status → ⊥) (λ q. cc) (λ q. cc) text_not_ok files R command words status line first e)
output_of files R words before now _ _ (due_answer command vs status bytes is read (inl own)) e a = absurd (own_status (λ s. s ≡ ok_status → ⊥) (λ q. cc) (λ q. cc) (λ q. cc) (λ q. cc) (λ q. cc) command vs status bytes own e)
output_of files R words before now _ _ (due_answer command vs status bytes is read (inr out)) e a = record { command = command; values = vs; text = bytes; command_is = is; read = read; output = out.1; written = a }

-- a source's file is never refused by its text alone
no_source_file : (files : Option NamedFiles) (R : List ℕ → Type 0) (kind : FileKind) (name : List ℕ) (status : Status) (line : List ℕ) → IsRefusedFile files R kind name status line → status ≡ Source → ⊥
no_source_file files R kind name _ _ (not_read rose) e = cc
no_source_file files R kind name _ _ (too_long long) e = cc
no_source_file files R Image name _ _ (bad_text bytes line file bad) e = cc
no_source_file files R Report name _ _ (bad_text bytes line file bad) e = cc
no_source_file files R Extension name _ _ (bad_text bytes line file bad) e = cc
no_source_file files R Sheet name _ _ (bad_text bytes line file bad) e = cc
no_source_file files R Waits name _ _ (bad_text bytes line file bad) e = cc
no_source_file files R Lines name _ _ (bad_text bytes line file bad) e = cc
no_source_file files R trace_kind name _ _ (bad_text bytes line file bad) e = bad
no_source_file files R source_kind name _ _ (bad_text bytes line file bad) e = bad

source_answer_of : (files : Option NamedFiles) (R : List ℕ → Type 0) (words : List (List ℕ)) (before now : Option (List ℕ)) (status : Status) (bytes : List ℕ) → IsDue files R words status bytes → status ≡ Source → Appends before now bytes → SourceAnswer files words before now
source_answer_of files R words before now _ _ (due_usage none) e a = absurd cc
source_answer_of files R words before now _ _ (due_file command status line is first) e a =
    let found = at_found files (λ kind name. IsRefusedFile files R kind name status line) (slots_of command) (behind words) first in
    absurd (no_source_file files R found.0 found.1 status line found.2 e)
source_answer_of files R words before now _ _ (due_answer command vs status bytes is read (inl (inr (inl own)))) e a = absurd (told_status (λ s. s ≡ Source → ⊥) (λ q. cc) (λ q. cc) own.error status bytes own.told e)
source_answer_of files R words before now _ _ (due_answer command vs status bytes is read (inl (inr (inr (inl own))))) e a = absurd (let x = sym own.status_is ∙ e in cc)
source_answer_of files R words before now _ _ (due_answer command vs status bytes is read (inl (inr (inr (inr (inl own)))))) e a = absurd (let x = sym own.status_is ∙ e in cc)
source_answer_of files R words before now _ _ (due_answer command vs status bytes is read (inl (inr (inr (inr (inr own)))))) e a = absurd (let x = sym own.status_is ∙ e in cc)
source_answer_of files R words before now _ _ (due_answer command vs status bytes is read (inl (inl own))) e a =
    record {
      values = vs;
      extension = own.extension;
      source = own.source;
      error = own.error;
      command_is = subst (λ c. command_of words ≡ Some c) own.command_is is;
      read = subst (λ c. AreRead files (slots_of c) (behind words) vs) own.command_is read;
      values_are = own.values_are;
      no_memory = own.no_memory;
      refused = own.refused;
      written = subst (λ l. Appends before now l) own.line_is a;
    }
source_answer_of files R words before now _ _ (due_answer command vs status bytes is read (inr out)) e a = absurd (let ok = out.0 in grind (arith, ok, e))

-- ---- behaviours that are not scheduled
unscheduled : (files : Option NamedFiles) (words : List (List ℕ)) (before now : Option (List ℕ)) (command : Command) (vs : List Reading) (status : Status) (bytes text : List ℕ) (error : List ℕ → TextErr) → command_of words ≡ Some command → AreRead files (slots_of command) (behind words) vs
    → (own : IsScheduleRefusal command vs status bytes) → own.error ≡ error text → bytes ≡ text → Appends before now bytes → UnscheduledAnswer files words error before now
unscheduled files words before now command vs status bytes text error is read own e same a = record {
  command = command;
  schedules = own.schedules;
  values = vs;
  extension = own.extension;
  sheet = own.sheet;
  others = own.others;
  text = text;
  command_is = is;
  read = read;
  values_are = own.values_are;
  refused = subst (λ f. IsRefusedSchedule own.extension own.sheet f) e own.refused;
  written = subst (λ l. Appends before now l) same a;
}

none_by : (files : Option NamedFiles) (words : List (List ℕ)) (before now : Option (List ℕ)) (command : Command) (vs : List Reading) (status : Status) (bytes : List ℕ) (error : TextErr) → command_of words ≡ Some command → AreRead files (slots_of command) (behind words) vs
    → (own : IsScheduleRefusal command vs status bytes) → own.error ≡ error → IsToldAs error status bytes → status ≡ NoSchedule → Appends before now bytes → NoScheduleAnswer files words before now
none_by files words before now command vs status bytes (T.NoSchedule text) is read own same told e a = unscheduled files words before now command vs status bytes text (λ t. T.NoSchedule t) is read own same told.1 a
none_by files words before now command vs status bytes (T.TooManyOps text) is read own same told e a = absurd (let x = sym told.0 ∙ e in cc)
none_by files words before now command vs status bytes T.Memory is read own same told e a = absurd told

large_by : (files : Option NamedFiles) (words : List (List ℕ)) (before now : Option (List ℕ)) (command : Command) (vs : List Reading) (status : Status) (bytes : List ℕ) (error : TextErr) → command_of words ≡ Some command → AreRead files (slots_of command) (behind words) vs
    → (own : IsScheduleRefusal command vs status bytes) → own.error ≡ error → IsToldAs error status bytes → status ≡ extension_status → Appends before now bytes → UnscheduledAnswer files words (λ text. T.TooManyOps text) before now
large_by files words before now command vs status bytes (T.TooManyOps text) is read own same told e a = unscheduled files words before now command vs status bytes text (λ t. T.TooManyOps t) is read own same told.1 a
large_by files words before now command vs status bytes (T.NoSchedule text) is read own same told e a = absurd (let x = sym told.0 ∙ e in cc)
large_by files words before now command vs status bytes T.Memory is read own same told e a = absurd told

-- a behaviour that is not swept
unswept : (files : Option NamedFiles) (words : List (List ℕ)) (before now : Option (List ℕ)) (command : Command) (vs : List Reading) (status : Status) (bytes : List ℕ) → command_of words ≡ Some command → AreRead files (slots_of command) (behind words) vs
    → IsSweepRefusal command vs status bytes → Appends before now bytes → UnsweptAnswer files words before now
unswept files words before now command vs status bytes is read own a = record {
  values = vs;
  extension = own.extension;
  sheet = own.sheet;
  line = bytes;
  command_is = subst (λ c. command_of words ≡ Some c) own.command_is is;
  read = subst (λ c. AreRead files (slots_of c) (behind words) vs) own.command_is read;
  values_are = own.values_are;
  refused = own.refused;
  written = a;
}

no_schedule_of : (files : Option NamedFiles) (R : List ℕ → Type 0) (words : List (List ℕ)) (before now : Option (List ℕ)) (status : Status) (bytes : List ℕ) → IsDue files R words status bytes → status ≡ NoSchedule → Appends before now bytes → NoScheduleAnswer files words before now
no_schedule_of files R words before now _ _ (due_usage none) e a = absurd cc
no_schedule_of files R words before now _ _ (due_file command status line is first) e a =
    absurd (of_first (λ s. s ≡ NoSchedule → ⊥) (λ q. cc) (λ q. cc) text_no_schedule files R command words status line first e)
no_schedule_of files R words before now _ _ (due_answer command vs status bytes is read (inl (inl own))) e a = absurd (let x = sym own.status_is ∙ e in cc)
no_schedule_of files R words before now _ _ (due_answer command vs status bytes is read (inl (inr (inl own)))) e a = none_by files words before now command vs status bytes own.error is read own refl own.told e a
no_schedule_of files R words before now _ _ (due_answer command vs status bytes is read (inl (inr (inr (inl own))))) e a = absurd (let x = sym own.status_is ∙ e in cc)
no_schedule_of files R words before now _ _ (due_answer command vs status bytes is read (inl (inr (inr (inr (inl own)))))) e a = absurd (let x = sym own.status_is ∙ e in cc)
no_schedule_of files R words before now _ _ (due_answer command vs status bytes is read (inl (inr (inr (inr (inr own)))))) e a = absurd (let x = sym own.status_is ∙ e in cc)
no_schedule_of files R words before now _ _ (due_answer command vs status bytes is read (inr out)) e a = absurd (let ok = out.0 in grind (arith, ok, e))

extension_of_due : (files : Option NamedFiles) (R : List ℕ → Type 0) (words : List (List ℕ)) (before now : Option (List ℕ)) (status : Status) (bytes : List ℕ) → IsDue files R words status bytes → status ≡ extension_status → Appends before now bytes → ExtensionAnswer files words before now
extension_of_due files R words before now _ _ (due_usage none) e a = absurd cc
extension_of_due files R words before now _ _ (due_file command status line is first) e a =
    let found = at_found files (λ other name. IsRefusedFile files R other name status line) (slots_of command) (behind words) first in
    inl (bad_of files R words extension_status before now command found.0 found.1 status line is found.2 found.3 e (λ q. cc) (λ q. cc) a)
extension_of_due files R words before now _ _ (due_answer command vs status bytes is read (inl (inl own))) e a = absurd (let x = sym own.status_is ∙ e in cc)
extension_of_due files R words before now _ _ (due_answer command vs status bytes is read (inl (inr (inl own)))) e a = inr (inl (large_by files words before now command vs status bytes own.error is read own refl own.told e a))
extension_of_due files R words before now _ _ (due_answer command vs status bytes is read (inl (inr (inr (inl own))))) e a = inr (inr (unswept files words before now command vs status bytes is read own a))
extension_of_due files R words before now _ _ (due_answer command vs status bytes is read (inl (inr (inr (inr (inl own)))))) e a = absurd (let x = sym own.status_is ∙ e in cc)
extension_of_due files R words before now _ _ (due_answer command vs status bytes is read (inl (inr (inr (inr (inr own)))))) e a = absurd (let x = sym own.status_is ∙ e in cc)
extension_of_due files R words before now _ _ (due_answer command vs status bytes is read (inr out)) e a = absurd (let ok = out.0 in grind (arith, ok, e))

-- ---- traces
-- a trace's file is never refused by its text alone
no_trace_file : (files : Option NamedFiles) (R : List ℕ → Type 0) (kind : FileKind) (name : List ℕ) (status : Status) (line : List ℕ) → IsRefusedFile files R kind name status line → status ≡ trace_status → ⊥
no_trace_file files R kind name _ _ (not_read rose) e = cc
no_trace_file files R kind name _ _ (too_long long) e = cc
no_trace_file files R Image name _ _ (bad_text bytes line file bad) e = cc
no_trace_file files R Report name _ _ (bad_text bytes line file bad) e = cc
no_trace_file files R Extension name _ _ (bad_text bytes line file bad) e = cc
no_trace_file files R Sheet name _ _ (bad_text bytes line file bad) e = cc
no_trace_file files R Waits name _ _ (bad_text bytes line file bad) e = cc
no_trace_file files R Lines name _ _ (bad_text bytes line file bad) e = cc
no_trace_file files R source_kind name _ _ (bad_text bytes line file bad) e = bad
no_trace_file files R trace_kind name _ _ (bad_text bytes line file bad) e = bad

trace_answer_of : (files : Option NamedFiles) (R : List ℕ → Type 0) (words : List (List ℕ)) (before now : Option (List ℕ)) (status : Status) (bytes : List ℕ) → IsDue files R words status bytes → status ≡ trace_status → Appends before now bytes → TraceAnswer files words before now
trace_answer_of files R words before now _ _ (due_usage none) e a = absurd cc
trace_answer_of files R words before now _ _ (due_file command status line is first) e a =
    let found = at_found files (λ kind name. IsRefusedFile files R kind name status line) (slots_of command) (behind words) first in
    absurd (no_trace_file files R found.0 found.1 status line found.2 e)
trace_answer_of files R words before now _ _ (due_answer command vs status bytes is read (inl (inl own))) e a = absurd (let x = sym own.status_is ∙ e in cc)
trace_answer_of files R words before now _ _ (due_answer command vs status bytes is read (inl (inr (inl own)))) e a = absurd (told_status (λ s. s ≡ trace_status → ⊥) (λ q. cc) (λ q. cc) own.error status bytes own.told e)
trace_answer_of files R words before now _ _ (due_answer command vs status bytes is read (inl (inr (inr (inl own))))) e a = absurd (let x = sym own.status_is ∙ e in cc)
trace_answer_of files R words before now _ _ (due_answer command vs status bytes is read (inl (inr (inr (inr (inl own)))))) e a =
    record {
      values = vs;
      extension = own.extension;
      sheet = own.sheet;
      image = own.image;
      waits = own.waits;
      trace = own.trace;
      error = own.error;
      command_is = subst (λ c. command_of words ≡ Some c) own.command_is is;
      read = subst (λ c. AreRead files (slots_of c) (behind words) vs) own.command_is read;
      values_are = own.values_are;
      faulty = own.faulty;
      written = subst (λ l. Appends before now l) own.line_is a;
    }
trace_answer_of files R words before now _ _ (due_answer command vs status bytes is read (inl (inr (inr (inr (inr own)))))) e a = absurd (let x = sym own.status_is ∙ e in cc)
trace_answer_of files R words before now _ _ (due_answer command vs status bytes is read (inr out)) e a = absurd (let ok = out.0 in grind (arith, ok, e))

-- ---- Tight behaviours
-- no text alone is refused with their status
text_no_barrel : (kind : FileKind) → refusal_status kind ≡ barrel_status → ⊥
text_no_barrel = no_text barrel_status (λ q. cc) (λ q. cc) (λ q. cc) (λ q. cc) (λ q. cc) (λ q. cc) (λ q. cc) (λ q. cc)

tight_answer_of : (files : Option NamedFiles) (R : List ℕ → Type 0) (words : List (List ℕ)) (before now : Option (List ℕ)) (status : Status) (bytes : List ℕ) → IsDue files R words status bytes → status ≡ barrel_status → Appends before now bytes → TightAnswer files words before now
tight_answer_of files R words before now _ _ (due_usage none) e a = absurd cc
tight_answer_of files R words before now _ _ (due_file command status line is first) e a =
    absurd (of_first (λ s. s ≡ barrel_status → ⊥) (λ q. cc) (λ q. cc) text_no_barrel files R command words status line first e)
tight_answer_of files R words before now _ _ (due_answer command vs status bytes is read (inl (inl own))) e a = absurd (let x = sym own.status_is ∙ e in cc)
tight_answer_of files R words before now _ _ (due_answer command vs status bytes is read (inl (inr (inl own)))) e a = absurd (told_status (λ s. s ≡ barrel_status → ⊥) (λ q. cc) (λ q. cc) own.error status bytes own.told e)
tight_answer_of files R words before now _ _ (due_answer command vs status bytes is read (inl (inr (inr (inl own))))) e a = absurd (let x = sym own.status_is ∙ e in cc)
tight_answer_of files R words before now _ _ (due_answer command vs status bytes is read (inl (inr (inr (inr (inl own)))))) e a = absurd (let x = sym own.status_is ∙ e in cc)
tight_answer_of files R words before now _ _ (due_answer command vs status bytes is read (inl (inr (inr (inr (inr own)))))) e a =
    record {
      values = vs;
      extension = own.extension;
      sheet = own.sheet;
      others = own.others;
      name = own.name;
      command_is = subst (λ c. command_of words ≡ Some c) own.command_is is;
      read = subst (λ c. AreRead files (slots_of c) (behind words) vs) own.command_is read;
      values_are = own.values_are;
      tight = own.tight;
      written = subst (λ l. Appends before now l) own.line_is a;
    }
tight_answer_of files R words before now _ _ (due_answer command vs status bytes is read (inr out)) e a = absurd (let ok = out.0 in grind (arith, ok, e))

-- ---- from the outcome
module _ (files : Option NamedFiles) (counts counts_now : List ℕ → ℕ) (words : List (List ℕ)) (before now : Option (List ℕ)) (faults faults_now : ℕ) (result : Status)
    (outcome : Outcome files (RoseIn counts counts_now) words before now faults faults_now result) where
  -- the status was answered and its bytes written, where it is none of the two that others yield to
  written : (result ≡ Memory → ⊥) → (result ≡ WriteFault → ⊥) → (bytes : List ℕ) × IsDue files (RoseIn counts counts_now) words result bytes × Appends before now bytes
  written no_memory no_fault = elim outcome [
    | inl memory ↦ absurd (no_memory memory.1)
    | inr due ↦ elim due.3 [
      | inl whole ↦ (due.1, subst (λ s. IsDue files (RoseIn counts counts_now) words s due.1) (sym whole.0) due.2, whole.1)
      | inr front ↦ absurd (no_fault front.0)
    ]
  ]

  pub usage : result ≡ Usage → UsageAnswer words before now
  usage e = let w = written (λ q. grind (arith, e, q)) (λ q. grind (arith, e, q)) in usage_of files (RoseIn counts counts_now) words before now result w.0 w.1 e w.2

  pub read_fault : result ≡ ReadFault → ReadFaultAnswer files words counts counts_now before now
  read_fault e = let w = written (λ q. grind (arith, e, q)) (λ q. grind (arith, e, q)) in read_fault_of files counts counts_now words before now result w.0 w.1 e w.2

  pub too_long_answer : result ≡ TooLong → TooLongAnswer files words before now
  too_long_answer e = let w = written (λ q. grind (arith, e, q)) (λ q. grind (arith, e, q)) in too_long_of files (RoseIn counts counts_now) words before now result w.0 w.1 e w.2

  pub image : result ≡ image_status → TextAnswer files words image_status before now
  image e = let w = written (λ q. grind (arith, e, q)) (λ q. grind (arith, e, q)) in text_of_kind files (RoseIn counts counts_now) words Image (λ q. cc) (λ q. cc) (λ q. cc) (λ q. cc) before now result w.0 w.1 e w.2

  pub certificate : result ≡ Certificate → TextAnswer files words Certificate before now
  certificate e = let w = written (λ q. grind (arith, e, q)) (λ q. grind (arith, e, q)) in text_of_kind files (RoseIn counts counts_now) words Report (λ q. cc) (λ q. cc) (λ q. cc) (λ q. cc) before now result w.0 w.1 e w.2

  pub extension : result ≡ extension_status → ExtensionAnswer files words before now
  extension e = let w = written (λ q. grind (arith, e, q)) (λ q. grind (arith, e, q)) in extension_of_due files (RoseIn counts counts_now) words before now result w.0 w.1 e w.2

  pub sheet : result ≡ sheet_status → TextAnswer files words sheet_status before now
  sheet e = let w = written (λ q. grind (arith, e, q)) (λ q. grind (arith, e, q)) in text_of_kind files (RoseIn counts counts_now) words Sheet (λ q. cc) (λ q. cc) (λ q. cc) (λ q. cc) before now result w.0 w.1 e w.2

  pub waits : result ≡ waits_status → TextAnswer files words waits_status before now
  waits e = let w = written (λ q. grind (arith, e, q)) (λ q. grind (arith, e, q)) in text_of_kind files (RoseIn counts counts_now) words Waits (λ q. cc) (λ q. cc) (λ q. cc) (λ q. cc) before now result w.0 w.1 e w.2

  pub lines : result ≡ lines_status → TextAnswer files words lines_status before now
  lines e = let w = written (λ q. grind (arith, e, q)) (λ q. grind (arith, e, q)) in text_of_kind files (RoseIn counts counts_now) words Lines (λ q. cc) (λ q. cc) (λ q. cc) (λ q. cc) before now result w.0 w.1 e w.2

  pub no_schedule : result ≡ NoSchedule → NoScheduleAnswer files words before now
  no_schedule e = let w = written (λ q. grind (arith, e, q)) (λ q. grind (arith, e, q)) in no_schedule_of files (RoseIn counts counts_now) words before now result w.0 w.1 e w.2

  pub source : result ≡ Source → SourceAnswer files words before now
  source e = let w = written (λ q. grind (arith, e, q)) (λ q. grind (arith, e, q)) in source_answer_of files (RoseIn counts counts_now) words before now result w.0 w.1 e w.2

  pub trace : result ≡ trace_status → TraceAnswer files words before now
  trace e = let w = written (λ q. grind (arith, e, q)) (λ q. grind (arith, e, q)) in trace_answer_of files (RoseIn counts counts_now) words before now result w.0 w.1 e w.2

  pub tight : result ≡ barrel_status → TightAnswer files words before now
  tight e = let w = written (λ q. grind (arith, e, q)) (λ q. grind (arith, e, q)) in tight_answer_of files (RoseIn counts counts_now) words before now result w.0 w.1 e w.2

  pub output : result ≡ ok_status → OutputAnswer files words before now
  output e = let w = written (λ q. grind (arith, e, q)) (λ q. grind (arith, e, q)) in output_of files (RoseIn counts counts_now) words before now result w.0 w.1 e w.2

  pub write_fault : result ≡ WriteFault → WriteFaultAnswer files words counts counts_now before now faults faults_now
  write_fault e = elim outcome [
    | inl memory ↦ absurd (let m = memory.1 in grind (arith, e, m))
    | inr due ↦ elim due.3 [
      | inl whole ↦ absurd (due_no_fault files (RoseIn counts counts_now) words due.0 due.1 due.2 (sym whole.0 ∙ e))
      | inr front ↦ record { rose = front.1; status = due.0; bytes = due.1; due = due.2; front = front.2 }
    ]
  ]

  pub memory_alone : result ≡ Memory → now ≡ before
  memory_alone e = elim outcome [
    | inl memory ↦ memory.2
    | inr due ↦ elim due.3 [
      | inl whole ↦ absurd (due_no_memory files (RoseIn counts counts_now) words due.0 due.1 due.2 (sym whole.0 ∙ e))
      | inr front ↦ absurd (let m = front.0 in grind (arith, e, m))
    ]
  ]

  pub no_command : command_of words ≡ None → (result ≡ Usage) ⊎ (result ≡ WriteFault)
  no_command none = elim outcome [
    | inl memory ↦ absurd (memory.0 none)
    | inr due ↦ elim due.3 [
      | inl whole ↦ inl (whole.0 ∙ usage_alone files (RoseIn counts counts_now) words due.0 due.1 none due.2)
      | inr front ↦ inr front.0
    ]
  ]

  pub due_status : OneAnswerLaw → OneLaw → (status : Status) (bytes : List ℕ) → files ≢ None → IsDue files NoneRises words status bytes → IsStatusOr status result
  due_status law chosen status bytes told other = elim outcome [
    | inl memory ↦ inr (inr (inr memory.1))
    | inr due ↦ elim due.3 [
      | inl whole ↦ elim (due_one law chosen files (RoseIn counts counts_now) words due.0 status due.1 bytes told due.2 other) [
        | inl same ↦ inl (whole.0 ∙ same)
        | inr fault ↦ inr (inl (whole.0 ∙ fault))
      ]
      | inr front ↦ inr (inr (inl front.0))
    ]
  ]

  pub complete : (command : Command) (vs : List Reading) → Premises files words counts counts_now faults faults_now command vs → Completes command vs before now result
  complete command vs p = elim outcome [
    | inl memory ↦ inr (memory.1, memory.2)
    | inr due ↦ elim due.3 [
      | inl whole ↦ elim (commanded files (RoseIn counts counts_now) words command due.0 due.1 p.command_is due.2) [
        | inl first ↦ absurd (not_refused files (RoseIn counts counts_now) (slots_of command) (behind words) vs due.0 due.1 p.told p.no_read_fault first p.read)
        | inr found ↦ elim (subst (λ us. IsAnswer command us due.0 due.1) (all_one files (slots_of command) (behind words) found.0 vs p.told found.1 p.read) found.2) [
          | inl own ↦ absurd (p.no_refusal due.0 due.1 own)
          | inr out ↦ inl (whole.0 ∙ out.0, (due.1, out.1, whole.1))
        ]
      ]
      | inr front ↦ absurd (p.no_write_fault front.1)
    ]
  ]
