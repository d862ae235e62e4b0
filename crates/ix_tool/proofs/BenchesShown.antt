-- What the summary of a drawn run shows.
use Rattle.std.proofs.Common.{◌≡◌, ℕ, zero, suc, ◌<◌, ◌^◌, ◌%◌, ◌/◌, List, [], ◌∷◌, Bool, true, false, Option, Some, None, slice_get, ap, sym, ◌∙◌, subst}
use Rattle.std.specs.Prelude.{codes, All, nat_eq, if◌then◌else◌}
use Rattle.std.specs.Str.{bytes_eq}
use Rattle.std.proofs.lemmas.Bool.{and_parts, true≢false}
use Rattle.std.proofs.lemmas.List.Elements.{All-head, All-tail}
use Rattle.ix_io.specs.Shelf.{NamedFiles}
use Rattle.ix_io.specs.Sink.{Appends}
use Rattle.ix_extension.specs.Extensions.{ExtensionTree, view_extension}
use Rattle.ix_sheet.specs.declared.sheet.Sheet.{Sheet}
use Rattle.ix_sheet.specs.Datasheets.{IsSheetOf}
use Rattle.ix_listing.proofs.OneExtension.{is_well_formed}
use Rattle.ix_plan.specs.declared.design.Design.{Design}
use Rattle.ix_standing.specs.Standing.{Stands}
use Rattle.rv_seq.specs.Steps.{word_at}
use Rattle.rv_bench.specs.DrawnImage.{drawn_image}
use Rattle.rv_bench.specs.Words.{IsWord, WordsLaw}
use Rattle.rv_machine.specs.Promises.{RowsLaw, IsRunnable}
use Rattle.ix_words.specs.declared.command.Command.{Command}
use Rattle.ix_words.specs.declared.command.Command.TheVariants.{RunImage, Check, Certify, Schedule, Build, Sweep, Seq, Assemble, RunExtension, Bench, Wave, RunInterrupted, Audit, Barrel}
use Rattle.ix_words.specs.Readings.{Reading, extension_read, sheet_read, number_read}
use Rattle.ix_words.specs.CommandLine.{is_command, slots_of, behind, number_within, most_number, most_drawn, BenchCommand, bench_command, bench_of}
use Rattle.ix_words.specs.WordsRead.{AreRead}
use Rattle.ix_tool.specs.CommandOutput.{IsDesignSummary, IsLawfulSummary, IsDrawnRun, IsLawfulDrawnRun, IsBenchOutput, IsOutput, OutputAnswer, BenchAnswer}
use Rattle.ix_tool.proofs.Due.{both, one}
use Rattle.ix_tool.proofs.Headlines.{is_of}
use Rattle.ix_tool.proofs.Handlers.{handler_of}
use Rattle.ix_tool.proofs.Taking.{run_read, extension_is_read, report_is_read, source_is_read, schedule_is_read, seq_read, pipeline_read, interrupted_read, audit_read, barrel_read, bench_read}

-- ---- the words of a drawn image
same_word : (m n : ℕ) → ◌≡◌ {A = Option ℕ} (Some m) (Some n) → m ≡ n
same_word m n e = cc

in_list : (ws : List ℕ) (k word : ℕ) → All IsWord ws → slice_get ws k ≡ Some word → IsWord word
in_list [] k word all e = absurd cc
in_list (w ∷ ws) zero word all e = subst IsWord (same_word w word e) (All-head IsWord w ws all)
in_list (w ∷ ws) (suc k) word all e = in_list ws k word (All-tail IsWord w ws all) e

at_address : (ws : List ℕ) (at word : ℕ) → All IsWord ws → word_at ws at ≡ Some word → IsWord word
at_address ws at word all e = here (nat_eq (at % 4) 0) e
  where
    here : (t : Bool) → (if t then slice_get ws (at / 4) else None) ≡ Some word → IsWord word
    here true e = in_list ws (at / 4) word all e
    here false e = absurd (cc)

-- the rows that a summary counts are lawful
lawful_summary : RowsLaw → WordsLaw → (design : Design) (number count : ℕ) (text : List ℕ) → Stands design → design.sheet.shape.trap < 2 ^ 32 → IsDesignSummary design number count text → IsLawfulSummary design number count text
lawful_summary rows words design number count text stands handler h =
    let image = drawn_image (view_extension design.extension) number count in
    let whole : All IsWord image = words stands.well_formed.0 (view_extension design.extension) number count stands.well_formed.1 in
    let runnable : IsRunnable design image = record { stands = stands; handler = handler; words = λ at word e. at_address image at word whole e } in
    record { rows = h.rows; headline = rows design image [] None h.rows runnable h.are_rows; few = h.few; whole = h.whole; text_is = h.text_is }

lawful_drawn : RowsLaw → WordsLaw → (x : ExtensionTree) (bytes : List ℕ) (sheet : Sheet) (number count : ℕ) (text : List ℕ) → IsSheetOf bytes sheet → IsDrawnRun x sheet number count text → IsLawfulDrawnRun x sheet number count text
lawful_drawn rows words x bytes sheet number count text read h =
    record {
      design = h.design;
      stands = h.stands;
      extension_is = h.extension_is;
      sheet_is = h.sheet_is;
      runs = lawful_summary rows words h.design number count text h.stands (handler_of h.design bytes sheet h.sheet_is read) h.runs;
    }

-- ---- the words of the command
abbrev asked_by : List ℕ → List ℕ → ℕ → ℕ → BenchCommand
asked_by a b n c = record { extension = a; sheet = b; number = n; count = c }

bench_words_are : (words : List (List ℕ)) (a b c d : List ℕ) (n m : ℕ) (command : BenchCommand) → is_command Bench words ≡ true → behind words ≡ a ∷ b ∷ c ∷ d ∷ [] → number_within most_number c ≡ Some n → number_within most_drawn d ≡ Some m → bench_of words ≡ Some command → asked_by a b n m ≡ command
bench_words_are [] a b c d n m command is h w v k = absurd (true≢false (sym is))
bench_words_are (word ∷ rest) a b c d n m command is h w v k =
    let first = (and_parts _ _ is).0 in
    let named : bench_of (word ∷ rest) ≡ Some (asked_by a b n m) =
    ap (λ r. bench_of (word ∷ r)) h ∙ ap (λ o. bench_command (bytes_eq word (codes "bench")) a b o (number_within most_drawn d)) w ∙ ap (λ o. bench_command (bytes_eq word (codes "bench")) a b (Some n) o) v ∙ ap (λ p. bench_command p a b (Some n) (Some m)) first in
    one (bench_of (word ∷ rest)) (asked_by a b n m) command named k

-- as many words of other commands ask for no summary
two_no_bench : (words : List (List ℕ)) (a : List ℕ) (command : Command) → is_command command words ≡ true → behind words ≡ a ∷ [] → bench_of words ≡ None
two_no_bench [] a command is e = absurd (true≢false (sym is))
two_no_bench (word ∷ rest) a command is e = ap (λ r. bench_of (word ∷ r)) e

three_no_bench : (words : List (List ℕ)) (a b : List ℕ) (command : Command) → is_command command words ≡ true → behind words ≡ a ∷ b ∷ [] → bench_of words ≡ None
three_no_bench [] a b command is e = absurd (true≢false (sym is))
three_no_bench (word ∷ rest) a b command is e = ap (λ r. bench_of (word ∷ r)) e

four_no_bench : (words : List (List ℕ)) (a b c : List ℕ) (command : Command) → is_command command words ≡ true → behind words ≡ a ∷ b ∷ c ∷ [] → bench_of words ≡ None
four_no_bench [] a b c command is e = absurd (true≢false (sym is))
four_no_bench (word ∷ rest) a b c command is e = ap (λ r. bench_of (word ∷ r)) e

six_no_bench : (words : List (List ℕ)) (a b c d n : List ℕ) (command : Command) → is_command command words ≡ true → behind words ≡ a ∷ b ∷ c ∷ d ∷ n ∷ [] → bench_of words ≡ None
six_no_bench [] a b c d n command is e = absurd (true≢false (sym is))
six_no_bench (word ∷ rest) a b c d n command is e = ap (λ r. bench_of (word ∷ r)) e

seven_no_bench : (words : List (List ℕ)) (a b c d l n : List ℕ) (command : Command) → is_command command words ≡ true → behind words ≡ a ∷ b ∷ c ∷ d ∷ l ∷ n ∷ [] → bench_of words ≡ None
seven_no_bench [] a b c d l n command is e = absurd (true≢false (sym is))
seven_no_bench (word ∷ rest) a b c d l n command is e = ap (λ r. bench_of (word ∷ r)) e

-- the drawn run of these values is that of others with the same parts
run_of_parts : (x y : ExtensionTree) (s t : Sheet) (n m c k : ℕ) (text : List ℕ)
    → extension_read x ∷ sheet_read s ∷ number_read n ∷ number_read c ∷ [] ≡ extension_read y ∷ sheet_read t ∷ number_read m ∷ number_read k ∷ []
    → IsDrawnRun y t m k text → IsDrawnRun x s n c text
run_of_parts x y s t n m c k text e h =
    let a : x ≡ y = cc in
    let b : s ≡ t = cc in
    let d : n ≡ m = cc in
    let f : c ≡ k = cc in
    subst (λ z. IsDrawnRun z s n c text) (sym a) (subst (λ z. IsDrawnRun y z n c text) (sym b) (subst (λ z. IsDrawnRun y t z c text) (sym d) (subst (λ z. IsDrawnRun y t m z text) (sym f) h)))

benched_of : RowsLaw → WordsLaw → (files : Option NamedFiles) (words : List (List ℕ)) (before now : Option (List ℕ)) (command : Command) (vs : List Reading) (text : List ℕ) (asked : BenchCommand) → is_command command words ≡ true → AreRead files (slots_of command) (behind words) vs → IsOutput command vs text → Appends before now text
    → bench_of words ≡ Some asked → BenchAnswer files asked before now
benched_of rows law files words before now RunImage vs text asked is read out a e =
    let r = run_read files (behind words) vs read in
    absurd (both (bench_of words) asked e (three_no_bench words r.name r.number RunImage is r.words))
benched_of rows law files words before now Check vs text asked is read out a e =
    let r = extension_is_read files (behind words) vs read in
    absurd (both (bench_of words) asked e (two_no_bench words r.name Check is r.words))
benched_of rows law files words before now Certify vs text asked is read out a e =
    let r = report_is_read files (behind words) vs read in
    absurd (both (bench_of words) asked e (two_no_bench words r.name Certify is r.words))
benched_of rows law files words before now Seq vs text asked is read out a e =
    let r = seq_read files (behind words) vs read in
    absurd (both (bench_of words) asked e (four_no_bench words r.name r.other r.number Seq is r.words))
benched_of rows law files words before now Assemble vs text asked is read out a e =
    let r = source_is_read files (behind words) vs read in
    absurd (both (bench_of words) asked e (three_no_bench words r.name r.other Assemble is r.words))
benched_of rows law files words before now Schedule vs text asked is read out a e =
    let r = schedule_is_read files (behind words) vs read in
    absurd (both (bench_of words) asked e (three_no_bench words r.name r.other Schedule is r.words))
benched_of rows law files words before now Build vs text asked is read out a e =
    let r = schedule_is_read files (behind words) vs read in
    absurd (both (bench_of words) asked e (three_no_bench words r.name r.other Build is r.words))
benched_of rows law files words before now Sweep vs text asked is read out a e =
    let r = schedule_is_read files (behind words) vs read in
    absurd (both (bench_of words) asked e (three_no_bench words r.name r.other Sweep is r.words))
benched_of rows law files words before now RunExtension vs text asked is read out a e =
    let r = pipeline_read files (behind words) vs read in
    absurd (both (bench_of words) asked e (six_no_bench words r.name r.other r.third r.fourth r.number RunExtension is r.words))
benched_of rows law files words before now Wave vs text asked is read out a e =
    let r = pipeline_read files (behind words) vs read in
    absurd (both (bench_of words) asked e (six_no_bench words r.name r.other r.third r.fourth r.number Wave is r.words))
benched_of rows law files words before now RunInterrupted vs text asked is read out a e =
    let r = interrupted_read files (behind words) vs read in
    absurd (both (bench_of words) asked e (seven_no_bench words r.name r.other r.third r.fourth r.fifth r.number RunInterrupted is r.words))
benched_of rows law files words before now Audit vs text asked is read out a e =
    let r = audit_read files (behind words) vs read in
    absurd (both (bench_of words) asked e (six_no_bench words r.name r.other r.third r.fourth r.fifth Audit is r.words))
benched_of rows law files words before now Barrel vs text asked is read out a e =
    let r = barrel_read files (behind words) vs read in
    absurd (both (bench_of words) asked e (six_no_bench words r.name r.other r.third r.fourth r.number Barrel is r.words))
benched_of rows law files words before now Bench vs text asked is read out a e =
    let r = bench_read files (behind words) vs read in
    let there : IsBenchOutput vs text = out in
    let runs : IsDrawnRun r.extension r.sheet r.number r.count text =
    run_of_parts r.extension there.extension r.sheet there.sheet r.number there.number r.count there.count text (sym r.values ∙ there.values_are) there.runs in
    subst (λ k. BenchAnswer files k before now) (bench_words_are words r.name r.other r.third r.fourth r.number r.count asked is r.words r.number_is r.count_is e)
    (record {
      bytes = r.bytes;
      extension = r.extension;
      sheet_bytes = r.sheet_bytes;
      sheet = r.sheet;
      text = text;
      file = r.file;
      elaborates = r.elaborates;
      well_formed = is_well_formed r.bytes r.extension r.elaborates;
      sheet_file = r.sheet_file;
      sheet_read = r.sheet_is;
      runs = lawful_drawn rows law r.extension r.sheet_bytes r.sheet r.number r.count text r.sheet_is.sheet_is runs;
      written = a;
    })

pub benched : RowsLaw → WordsLaw → (files : Option NamedFiles) (words : List (List ℕ)) (before now : Option (List ℕ)) → OutputAnswer files words before now → (asked : BenchCommand) → bench_of words ≡ Some asked → BenchAnswer files asked before now
benched rows law files words before now o asked e = benched_of rows law files words before now o.command o.values o.text asked (is_of words o.command o.command_is) o.read o.output o.written e
