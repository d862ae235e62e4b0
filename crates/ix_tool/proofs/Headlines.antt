-- What an output shows: of a run the headline, of a listing the extension, of a yes that the report is certified.
use Rattle.std.proofs.Common.{◌≡◌, ◌≢◌, ℕ, ◌<◌, ◌≤◌, ◌^◌, List, [], ◌∷◌, length, Option, Some, None, Bool, true, false, refl, ap, sym, ◌∙◌, subst, arith}
use Rattle.std.specs.Prelude.{codes, if◌then◌else◌}
use Rattle.std.specs.Str.{bytes_eq}
use Rattle.std.proofs.lemmas.Bool.{and_parts, true≢false}
use Rattle.std.proofs.lemmas.Slice.Eq.{bytes_eq-Decides}
use Rattle.ix_io.specs.Shelf.{NamedFiles, told_file}
use Rattle.ix_io.specs.Sink.{Appends}
use Rattle.ix_cert.proofs.Verdicts.{faultless_certified}
use Rattle.ix_words.specs.declared.command.Command.{Command}
use Rattle.ix_words.specs.declared.command.Command.TheVariants.{RunImage, Check, Certify, Schedule, Build, Sweep, Seq, Assemble, RunExtension, Bench, Wave, RunInterrupted, Audit, Barrel}
use Rattle.ix_words.specs.Readings.{Reading, extension_read, source_read}
use Rattle.ix_listing.specs.Listing.{listing_text}
use Rattle.rv_text.specs.RunText.{run_text}
use Rattle.ix_listing.proofs.OneExtension.{is_well_formed}
use Rattle.ix_words.specs.CommandLine.{word_of, command_of, commands, first_command, is_command, slots_of, fits_slots, behind, number_within, run_of, run_command, SeqCommand, seq_command, seq_of, AsmCommand, ScheduleCommand, extension_of, report_of, source_of, schedule_of, build_of, sweep_of}
use Rattle.rv_asm.specs.ImageText.{IsImageText}
use Rattle.rv_machine.specs.Promises.{TextLaw}
use Rattle.ix_tool.proofs.ImageWords.{words_of_text}
use Rattle.ix_tool.proofs.Handlers.{at_sixteen}
use Rattle.ix_words.specs.WordsRead.{IsFile, AreRead}
use Rattle.ix_tool.specs.CommandOutput.{IsRunOutput, IsLawfulPlainRun, IsOutput, OutputAnswer, RunAnswer, ListedAnswer, CertifiedAnswer, SteppedAnswer, AssembledAnswer, ScheduledAnswer, image_of_run, told_of}
use Rattle.ix_schedules.specs.ScheduleText.{IsScheduleText}
use Rattle.ix_tool.proofs.Due.{both, one}
use Rattle.ix_tool.proofs.Taking.{run_read, report_is_read, extension_is_read, source_is_read, schedule_is_read, seq_read, pipeline_read, interrupted_read, audit_read, barrel_read, bench_read}

-- ---- the words of a command
found_at : (c : Command) (rest : List Command) (words : List (List ℕ)) (command : Command) (b : Bool) → is_command c words ≡ b → (if b then Some c else first_command rest words) ≡ Some command → (first_command rest words ≡ Some command → is_command command words ≡ true) → is_command command words ≡ true
found_at c rest words command true is h later = let same : c ≡ command = cc in subst (λ k. is_command k words ≡ true) same is
found_at c rest words command false is h later = later h

found_in : (list : List Command) (words : List (List ℕ)) (command : Command) → first_command list words ≡ Some command → is_command command words ≡ true
found_in [] words command e = cc
found_in (c ∷ rest) words command e = found_at c rest words command (is_command c words) refl e (found_in rest words command)

pub is_of : (words : List (List ℕ)) (command : Command) → command_of words ≡ Some command → is_command command words ≡ true
is_of words command e = found_in commands words command e

-- there is a first word, and those behind it fit
pub some_word : (words : List (List ℕ)) (command : Command) → command_of words ≡ Some command → 1 ≤ length words
some_word [] command e = cc
some_word (word ∷ rest) command e = omega arith

pub fit_behind : (words : List (List ℕ)) (command : Command) → command_of words ≡ Some command → fits_slots (slots_of command) (behind words) ≡ true
fit_behind [] command e = cc
fit_behind (word ∷ rest) command e = (and_parts _ _ (is_of (word ∷ rest) command e)).1

-- ---- the headline
-- the words of a run
run_words_are : (words : List (List ℕ)) (name number : List ℕ) (cycles : ℕ) → is_command RunImage words ≡ true → behind words ≡ name ∷ number ∷ [] → number_within 200000 number ≡ Some cycles → run_of words ≡ Some (record { image = name; cycles = cycles })
run_words_are [] name number cycles is e w = absurd (true≢false (sym is))
run_words_are (word ∷ rest) name number cycles is e w =
    let first = (and_parts _ _ is).0 in
    ap (λ r. run_of (word ∷ r)) e ∙ ap (λ n. run_command (bytes_eq word (codes "run")) name n) w ∙ ap (λ b. run_command b name (Some cycles)) first

-- two words are no run
two_no_run : (words : List (List ℕ)) (name : List ℕ) (command : Command) → is_command command words ≡ true → behind words ≡ name ∷ [] → run_of words ≡ None
two_no_run [] name command is e = absurd (true≢false (sym is))
two_no_run (word ∷ rest) name command is e = ap (λ r. run_of (word ∷ r)) e

-- and three are none of a file alone
three_no_file : (words : List (List ℕ)) (name number : List ℕ) (command : Command) → is_command command words ≡ true → behind words ≡ name ∷ number ∷ [] → (extension_of words ≡ None) × (report_of words ≡ None)
three_no_file [] name number command is e = absurd (true≢false (sym is))
three_no_file (word ∷ rest) name number command is e = (ap (λ r. extension_of (word ∷ r)) e, ap (λ r. report_of (word ∷ r)) e)

-- and four are none of the others
four_no_other : (words : List (List ℕ)) (a b c : List ℕ) → is_command Seq words ≡ true → behind words ≡ a ∷ b ∷ c ∷ [] → (run_of words ≡ None) × (extension_of words ≡ None) × (report_of words ≡ None)
four_no_other [] a b c is e = absurd (true≢false (sym is))
four_no_other (word ∷ rest) a b c is e = (ap (λ r. run_of (word ∷ r)) e, ap (λ r. extension_of (word ∷ r)) e, ap (λ r. report_of (word ∷ r)) e)

-- and five, six or seven are none of all these
pub record AreNoOther (words : List (List ℕ)) : Type 0 where
  pub run : run_of words ≡ None
  pub extension : extension_of words ≡ None
  pub report : report_of words ≡ None
  pub seq : seq_of words ≡ None
  pub source : source_of words ≡ None
  pub schedule : schedule_of words ≡ None
  pub build : build_of words ≡ None
  pub sweep : sweep_of words ≡ None

pub six_no_other : (words : List (List ℕ)) (a b c d e : List ℕ) (command : Command) → is_command command words ≡ true → behind words ≡ a ∷ b ∷ c ∷ d ∷ e ∷ [] → AreNoOther words
six_no_other [] a b c d e command is h = absurd (true≢false (sym is))
six_no_other (word ∷ rest) a b c d e command is h =
    record {
      run = ap (λ r. run_of (word ∷ r)) h;
      extension = ap (λ r. extension_of (word ∷ r)) h;
      report = ap (λ r. report_of (word ∷ r)) h;
      seq = ap (λ r. seq_of (word ∷ r)) h;
      source = ap (λ r. source_of (word ∷ r)) h;
      schedule = ap (λ r. schedule_of (word ∷ r)) h;
      build = ap (λ r. build_of (word ∷ r)) h;
      sweep = ap (λ r. sweep_of (word ∷ r)) h;
    }

pub five_no_other : (words : List (List ℕ)) (a b c d : List ℕ) → is_command Bench words ≡ true → behind words ≡ a ∷ b ∷ c ∷ d ∷ [] → AreNoOther words
five_no_other [] a b c d is h = absurd (true≢false (sym is))
five_no_other (word ∷ rest) a b c d is h =
    record {
      run = ap (λ r. run_of (word ∷ r)) h;
      extension = ap (λ r. extension_of (word ∷ r)) h;
      report = ap (λ r. report_of (word ∷ r)) h;
      seq = ap (λ r. seq_of (word ∷ r)) h;
      source = ap (λ r. source_of (word ∷ r)) h;
      schedule = ap (λ r. schedule_of (word ∷ r)) h;
      build = ap (λ r. build_of (word ∷ r)) h;
      sweep = ap (λ r. sweep_of (word ∷ r)) h;
    }

pub bench_no_other : (files : Option NamedFiles) (words : List (List ℕ)) (vs : List Reading) → is_command Bench words ≡ true → AreRead files (slots_of Bench) (behind words) vs → AreNoOther words
bench_no_other files words vs is read =
    let r = bench_read files (behind words) vs read in
    five_no_other words r.name r.other r.third r.fourth is r.words

pub pipeline_no_other : (files : Option NamedFiles) (words : List (List ℕ)) (vs : List Reading) (command : Command) → is_command command words ≡ true → AreRead files (slots_of RunExtension) (behind words) vs → AreNoOther words
pipeline_no_other files words vs command is read =
    let r = pipeline_read files (behind words) vs read in
    six_no_other words r.name r.other r.third r.fourth r.number command is r.words

seven_no_other : (words : List (List ℕ)) (a b c d e f : List ℕ) → is_command RunInterrupted words ≡ true → behind words ≡ a ∷ b ∷ c ∷ d ∷ e ∷ f ∷ [] → AreNoOther words
seven_no_other [] a b c d e f is h = absurd (true≢false (sym is))
seven_no_other (word ∷ rest) a b c d e f is h =
    record {
      run = ap (λ r. run_of (word ∷ r)) h;
      extension = ap (λ r. extension_of (word ∷ r)) h;
      report = ap (λ r. report_of (word ∷ r)) h;
      seq = ap (λ r. seq_of (word ∷ r)) h;
      source = ap (λ r. source_of (word ∷ r)) h;
      schedule = ap (λ r. schedule_of (word ∷ r)) h;
      build = ap (λ r. build_of (word ∷ r)) h;
      sweep = ap (λ r. sweep_of (word ∷ r)) h;
    }

pub interrupted_no_other : (files : Option NamedFiles) (words : List (List ℕ)) (vs : List Reading) → is_command RunInterrupted words ≡ true → AreRead files (slots_of RunInterrupted) (behind words) vs → AreNoOther words
interrupted_no_other files words vs is read =
    let r = interrupted_read files (behind words) vs read in
    seven_no_other words r.name r.other r.third r.fourth r.fifth r.number is r.words

pub audit_no_other : (files : Option NamedFiles) (words : List (List ℕ)) (vs : List Reading) → is_command Audit words ≡ true → AreRead files (slots_of Audit) (behind words) vs → AreNoOther words
audit_no_other files words vs is read =
    let r = audit_read files (behind words) vs read in
    six_no_other words r.name r.other r.third r.fourth r.fifth Audit is r.words

pub barrel_no_other : (files : Option NamedFiles) (words : List (List ℕ)) (vs : List Reading) → is_command Barrel words ≡ true → AreRead files (slots_of Barrel) (behind words) vs → AreNoOther words
barrel_no_other files words vs is read =
    let r = barrel_read files (behind words) vs read in
    six_no_other words r.name r.other r.third r.fourth r.number Barrel is r.words

-- fewer words are no sequential run
one_no_seq : (words : List (List ℕ)) (name : List ℕ) (command : Command) → is_command command words ≡ true → behind words ≡ name ∷ [] → seq_of words ≡ None
one_no_seq [] name command is e = absurd (true≢false (sym is))
one_no_seq (word ∷ rest) name command is e = ap (λ r. seq_of (word ∷ r)) e

two_no_seq : (words : List (List ℕ)) (name number : List ℕ) (command : Command) → is_command command words ≡ true → behind words ≡ name ∷ number ∷ [] → seq_of words ≡ None
two_no_seq [] name number command is e = absurd (true≢false (sym is))
two_no_seq (word ∷ rest) name number command is e = ap (λ r. seq_of (word ∷ r)) e

-- the word of one command is none of another
pub not_its_word : (a b c : List ℕ) → bytes_eq b c ≡ false → bytes_eq a b ≡ true → bytes_eq a c ≡ false
not_its_word a b c unlike same = subst (λ w. bytes_eq w c ≡ false) (sym ((bytes_eq-Decides a b).0 same)) unlike

none_where : (b : Bool) (name : List ℕ) → b ≡ false → (if b then Some name else None) ≡ None
none_where true name e = absurd (true≢false e)
none_where false name e = refl

-- the words of another command are no run
no_run : (b : Bool) (name : List ℕ) (o : Option ℕ) → b ≡ false → run_command b name o ≡ None
no_run b name None e = refl
no_run true name (Some n) e = absurd (true≢false e)
no_run false name (Some n) e = refl

pair_no_run : (command : Command) → bytes_eq (word_of command) (codes "run") ≡ false → (words : List (List ℕ)) (name other : List ℕ) → is_command command words ≡ true → behind words ≡ name ∷ other ∷ [] → run_of words ≡ None
pair_no_run command unlike [] name other is e = absurd (true≢false (sym is))
pair_no_run command unlike (word ∷ rest) name other is e =
    ap (λ r. run_of (word ∷ r)) e
    ∙ no_run (bytes_eq word (codes "run")) name (number_within 200000 other) (not_its_word word (word_of command) (codes "run") unlike (and_parts _ _ is).0)

told_is : (files : Option NamedFiles) (name bytes : List ℕ) → told_file files name ≢ None → IsFile files name bytes → told_file files name ≡ Some bytes
told_is None name bytes told f = absurd (told refl)
told_is (Some files) name bytes told f = ap (λ x. Some x) (sym f.told)

-- the rows of a run of an image's text are lawful
plain_lawful : TextLaw → (program image : List ℕ) (cycles : ℕ) (text : List ℕ) → IsImageText program image → IsRunOutput image cycles text → IsLawfulPlainRun image cycles text
plain_lawful law program image cycles text read h =
    record {
      design = h.design;
      plain = h.plain;
      runs = law h.design image [] None cycles text (record { stands = h.plain.stands; handler = at_sixteen h.design.sheet.shape h.plain.shape.trap_is; words = words_of_text program image read }) h.runs;
    }

headline_of : TextLaw → (files : Option NamedFiles) (words : List (List ℕ)) (before now : Option (List ℕ)) (command : Command) (vs : List Reading) (text : List ℕ) → is_command command words ≡ true → AreRead files (slots_of command) (behind words) vs → IsOutput command vs text → Appends before now text
    → told_of files words ≢ None → RunAnswer words (told_of files words) before now
headline_of law files words before now Certify vs text is read out a told =
    let r = report_is_read files (behind words) vs read in
    absurd (told (ap (λ o. image_of_run files o) (two_no_run words r.name Certify is r.words)))
headline_of law files words before now Check vs text is read out a told =
    let r = extension_is_read files (behind words) vs read in
    absurd (told (ap (λ o. image_of_run files o) (two_no_run words r.name Check is r.words)))
headline_of law files words before now Assemble vs text is read out a told =
    let r = source_is_read files (behind words) vs read in
    absurd (told (ap (λ o. image_of_run files o) (pair_no_run Assemble refl words r.name r.other is r.words)))
headline_of law files words before now Schedule vs text is read out a told =
    let r = schedule_is_read files (behind words) vs read in
    absurd (told (ap (λ o. image_of_run files o) (pair_no_run Schedule refl words r.name r.other is r.words)))
headline_of law files words before now Build vs text is read out a told =
    let r = schedule_is_read files (behind words) vs read in
    absurd (told (ap (λ o. image_of_run files o) (pair_no_run Build refl words r.name r.other is r.words)))
headline_of law files words before now Sweep vs text is read out a told =
    let r = schedule_is_read files (behind words) vs read in
    absurd (told (ap (λ o. image_of_run files o) (pair_no_run Sweep refl words r.name r.other is r.words)))
headline_of law files words before now Seq vs text is read out a told =
    let r = seq_read files (behind words) vs read in
    absurd (told (ap (λ o. image_of_run files o) (four_no_other words r.name r.other r.number is r.words).0))
headline_of law files words before now RunExtension vs text is read out a told = absurd (told (ap (λ o. image_of_run files o) (pipeline_no_other files words vs RunExtension is read).run))
headline_of law files words before now Wave vs text is read out a told = absurd (told (ap (λ o. image_of_run files o) (pipeline_no_other files words vs Wave is read).run))
headline_of law files words before now RunInterrupted vs text is read out a told = absurd (told (ap (λ o. image_of_run files o) (interrupted_no_other files words vs is read).run))
headline_of law files words before now Audit vs text is read out a told = absurd (told (ap (λ o. image_of_run files o) (audit_no_other files words vs is read).run))
headline_of law files words before now Barrel vs text is read out a told = absurd (told (ap (λ o. image_of_run files o) (barrel_no_other files words vs is read).run))
headline_of law files words before now Bench vs text is read out a told = absurd (told (ap (λ o. image_of_run files o) (bench_no_other files words vs is read).run))
headline_of law files words before now RunImage vs text is read out a told =
    let r = run_read files (behind words) vs read in
    let run = run_words_are words r.name r.number r.cycles is r.words r.within in
    let file : told_of files words ≡ told_file files r.name = ap (λ o. image_of_run files o) run in
    record {
      command = record { image = r.name; cycles = r.cycles };
      file = r.bytes;
      image = r.image;
      text = text;
      run = record { command_is = run; file_is = file ∙ told_is files r.name r.bytes (λ e. told (file ∙ e)) r.file; within = r.file.within };
      read = r.text;
      output = plain_lawful law r.bytes r.image r.cycles text r.text (subst (λ x. IsOutput RunImage x text) r.values out);
      written = a;
    }

pub headline : TextLaw → (files : Option NamedFiles) (words : List (List ℕ)) (before now : Option (List ℕ)) → OutputAnswer files words before now → told_of files words ≢ None → RunAnswer words (told_of files words) before now
headline law files words before now o told = headline_of law files words before now o.command o.values o.text (is_of words o.command o.command_is) o.read o.output o.written told

-- ---- a report that is certified
report_words_are : (words : List (List ℕ)) (name report : List ℕ) → is_command Certify words ≡ true → behind words ≡ name ∷ [] → report_of words ≡ Some report → name ≡ report
report_words_are [] name report is e h = absurd (true≢false (sym is))
report_words_are (word ∷ rest) name report is e h =
    let first = (and_parts _ _ is).0 in
    let named : report_of (word ∷ rest) ≡ Some name = ap (λ r. report_of (word ∷ r)) e ∙ ap (λ b. if b then Some name else None) first in
    one (report_of (word ∷ rest)) name report named h

-- the words that list an extension check no report
check_no_report : (words : List (List ℕ)) (name : List ℕ) → is_command Check words ≡ true → behind words ≡ name ∷ [] → report_of words ≡ None
check_no_report [] name is e = absurd (true≢false (sym is))
check_no_report (word ∷ rest) name is e =
    ap (λ r. report_of (word ∷ r)) e ∙ none_where (bytes_eq word (codes "certify")) name (not_its_word word (codes "check") (codes "certify") refl (and_parts _ _ is).0)

certified_of : (files : Option NamedFiles) (words : List (List ℕ)) (before now : Option (List ℕ)) (command : Command) (vs : List Reading) (text report : List ℕ) → is_command command words ≡ true → AreRead files (slots_of command) (behind words) vs → IsOutput command vs text → Appends before now text
    → report_of words ≡ Some report → CertifiedAnswer files report before now
certified_of files words before now RunImage vs text report is read out a e =
    let r = run_read files (behind words) vs read in
    absurd (both (report_of words) report e (three_no_file words r.name r.number RunImage is r.words).1)
certified_of files words before now Check vs text report is read out a e =
    let r = extension_is_read files (behind words) vs read in
    absurd (both (report_of words) report e (check_no_report words r.name is r.words))
certified_of files words before now Assemble vs text report is read out a e =
    let r = source_is_read files (behind words) vs read in
    absurd (both (report_of words) report e (three_no_file words r.name r.other Assemble is r.words).1)
certified_of files words before now Schedule vs text report is read out a e =
    let r = schedule_is_read files (behind words) vs read in
    absurd (both (report_of words) report e (three_no_file words r.name r.other Schedule is r.words).1)
certified_of files words before now Build vs text report is read out a e =
    let r = schedule_is_read files (behind words) vs read in
    absurd (both (report_of words) report e (three_no_file words r.name r.other Build is r.words).1)
certified_of files words before now Sweep vs text report is read out a e =
    let r = schedule_is_read files (behind words) vs read in
    absurd (both (report_of words) report e (three_no_file words r.name r.other Sweep is r.words).1)
certified_of files words before now Seq vs text report is read out a e =
    let r = seq_read files (behind words) vs read in
    absurd (both (report_of words) report e (four_no_other words r.name r.other r.number is r.words).2)
certified_of files words before now RunExtension vs text report is read out a e = absurd (both (report_of words) report e (pipeline_no_other files words vs RunExtension is read).report)
certified_of files words before now Wave vs text report is read out a e = absurd (both (report_of words) report e (pipeline_no_other files words vs Wave is read).report)
certified_of files words before now RunInterrupted vs text report is read out a e = absurd (both (report_of words) report e (interrupted_no_other files words vs is read).report)
certified_of files words before now Audit vs text report is read out a e = absurd (both (report_of words) report e (audit_no_other files words vs is read).report)
certified_of files words before now Barrel vs text report is read out a e = absurd (both (report_of words) report e (barrel_no_other files words vs is read).report)
certified_of files words before now Bench vs text report is read out a e = absurd (both (report_of words) report e (bench_no_other files words vs is read).report)
certified_of files words before now Certify vs text report is read out a e =
    let r = report_is_read files (behind words) vs read in
    let within = r.file.within in
    let small : length r.bytes < 2 ^ 32 = omega (arith, within) in
    let yes_text : text ≡ codes "yes\n" = subst (λ x. IsOutput Certify x text) r.values out in
    record {
      bytes = r.bytes;
      file = subst (λ n. IsFile files n r.bytes) (report_words_are words r.name report is r.words e) r.file;
      faultless = r.faultless;
      certified = faultless_certified r.bytes small r.faultless;
      written = subst (λ t. Appends before now t) yes_text a;
    }

pub certified : (files : Option NamedFiles) (words : List (List ℕ)) (before now : Option (List ℕ)) → OutputAnswer files words before now → (report : List ℕ) → report_of words ≡ Some report → CertifiedAnswer files report before now
certified files words before now o report e = certified_of files words before now o.command o.values o.text report (is_of words o.command o.command_is) o.read o.output o.written e

-- ---- an extension that is listed
extension_words_are : (words : List (List ℕ)) (name extension : List ℕ) → is_command Check words ≡ true → behind words ≡ name ∷ [] → extension_of words ≡ Some extension → name ≡ extension
extension_words_are [] name extension is e h = absurd (true≢false (sym is))
extension_words_are (word ∷ rest) name extension is e h =
    let first = (and_parts _ _ is).0 in
    let named : extension_of (word ∷ rest) ≡ Some name = ap (λ r. extension_of (word ∷ r)) e ∙ ap (λ b. if b then Some name else None) first in
    one (extension_of (word ∷ rest)) name extension named h

-- the words that check a report list no extension
certify_no_extension : (words : List (List ℕ)) (name : List ℕ) → is_command Certify words ≡ true → behind words ≡ name ∷ [] → extension_of words ≡ None
certify_no_extension [] name is e = absurd (true≢false (sym is))
certify_no_extension (word ∷ rest) name is e =
    ap (λ r. extension_of (word ∷ r)) e ∙ none_where (bytes_eq word (codes "check")) name (not_its_word word (codes "certify") (codes "check") refl (and_parts _ _ is).0)

listed_of : (files : Option NamedFiles) (words : List (List ℕ)) (before now : Option (List ℕ)) (command : Command) (vs : List Reading) (text name : List ℕ) → is_command command words ≡ true → AreRead files (slots_of command) (behind words) vs → IsOutput command vs text → Appends before now text
    → extension_of words ≡ Some name → ListedAnswer files name before now
listed_of files words before now RunImage vs text name is read out a e =
    let r = run_read files (behind words) vs read in
    absurd (both (extension_of words) name e (three_no_file words r.name r.number RunImage is r.words).0)
listed_of files words before now Certify vs text name is read out a e =
    let r = report_is_read files (behind words) vs read in
    absurd (both (extension_of words) name e (certify_no_extension words r.name is r.words))
listed_of files words before now Assemble vs text name is read out a e =
    let r = source_is_read files (behind words) vs read in
    absurd (both (extension_of words) name e (three_no_file words r.name r.other Assemble is r.words).0)
listed_of files words before now Schedule vs text name is read out a e =
    let r = schedule_is_read files (behind words) vs read in
    absurd (both (extension_of words) name e (three_no_file words r.name r.other Schedule is r.words).0)
listed_of files words before now Build vs text name is read out a e =
    let r = schedule_is_read files (behind words) vs read in
    absurd (both (extension_of words) name e (three_no_file words r.name r.other Build is r.words).0)
listed_of files words before now Sweep vs text name is read out a e =
    let r = schedule_is_read files (behind words) vs read in
    absurd (both (extension_of words) name e (three_no_file words r.name r.other Sweep is r.words).0)
listed_of files words before now Seq vs text name is read out a e =
    let r = seq_read files (behind words) vs read in
    absurd (both (extension_of words) name e (four_no_other words r.name r.other r.number is r.words).1)
listed_of files words before now RunExtension vs text name is read out a e = absurd (both (extension_of words) name e (pipeline_no_other files words vs RunExtension is read).extension)
listed_of files words before now Wave vs text name is read out a e = absurd (both (extension_of words) name e (pipeline_no_other files words vs Wave is read).extension)
listed_of files words before now RunInterrupted vs text name is read out a e = absurd (both (extension_of words) name e (interrupted_no_other files words vs is read).extension)
listed_of files words before now Audit vs text name is read out a e = absurd (both (extension_of words) name e (audit_no_other files words vs is read).extension)
listed_of files words before now Barrel vs text name is read out a e = absurd (both (extension_of words) name e (barrel_no_other files words vs is read).extension)
listed_of files words before now Bench vs text name is read out a e = absurd (both (extension_of words) name e (bench_no_other files words vs is read).extension)
listed_of files words before now Check vs text name is read out a e =
    let r = extension_is_read files (behind words) vs read in
    let listing : text ≡ listing_text r.extension = subst (λ x. IsOutput Check x text) r.values out in
    record {
      bytes = r.bytes;
      extension = r.extension;
      file = subst (λ n. IsFile files n r.bytes) (extension_words_are words r.name name is r.words e) r.file;
      elaborates = r.elaborates;
      well_formed = is_well_formed r.bytes r.extension r.elaborates;
      written = subst (λ t. Appends before now t) listing a;
    }

pub listed : (files : Option NamedFiles) (words : List (List ℕ)) (before now : Option (List ℕ)) → OutputAnswer files words before now → (name : List ℕ) → extension_of words ≡ Some name → ListedAnswer files name before now
listed files words before now o name e = listed_of files words before now o.command o.values o.text name (is_of words o.command o.command_is) o.read o.output o.written e

-- ---- a sequential run
seq_words_are : (words : List (List ℕ)) (a b c : List ℕ) (steps : ℕ) (command : SeqCommand) → is_command Seq words ≡ true → behind words ≡ a ∷ b ∷ c ∷ [] → number_within 200000 c ≡ Some steps → seq_of words ≡ Some command
    → let named : SeqCommand = record { extension = a; image = b; steps = steps } in named ≡ command
seq_words_are [] a b c steps command is e w h = absurd (true≢false (sym is))
seq_words_are (word ∷ rest) a b c steps command is e w h =
    let first = (and_parts _ _ is).0 in
    let named : seq_of (word ∷ rest) ≡ Some (record { extension = a; image = b; steps = steps }) =
    ap (λ r. seq_of (word ∷ r)) e ∙ ap (λ n. seq_command (bytes_eq word (codes "seq")) a b n) w ∙ ap (λ p. seq_command p a b (Some steps)) first in
    one (seq_of (word ∷ rest)) (record { extension = a; image = b; steps = steps }) command named h

stepped_of : (files : Option NamedFiles) (words : List (List ℕ)) (before now : Option (List ℕ)) (command : Command) (vs : List Reading) (text : List ℕ) (asked : SeqCommand) → is_command command words ≡ true → AreRead files (slots_of command) (behind words) vs → IsOutput command vs text → Appends before now text
    → seq_of words ≡ Some asked → SteppedAnswer files asked before now
stepped_of files words before now RunImage vs text asked is read out a e =
    let r = run_read files (behind words) vs read in
    absurd (both (seq_of words) asked e (two_no_seq words r.name r.number RunImage is r.words))
stepped_of files words before now Certify vs text asked is read out a e =
    let r = report_is_read files (behind words) vs read in
    absurd (both (seq_of words) asked e (one_no_seq words r.name Certify is r.words))
stepped_of files words before now Check vs text asked is read out a e =
    let r = extension_is_read files (behind words) vs read in
    absurd (both (seq_of words) asked e (one_no_seq words r.name Check is r.words))
stepped_of files words before now Assemble vs text asked is read out a e =
    let r = source_is_read files (behind words) vs read in
    absurd (both (seq_of words) asked e (two_no_seq words r.name r.other Assemble is r.words))
stepped_of files words before now Schedule vs text asked is read out a e =
    let r = schedule_is_read files (behind words) vs read in
    absurd (both (seq_of words) asked e (two_no_seq words r.name r.other Schedule is r.words))
stepped_of files words before now Build vs text asked is read out a e =
    let r = schedule_is_read files (behind words) vs read in
    absurd (both (seq_of words) asked e (two_no_seq words r.name r.other Build is r.words))
stepped_of files words before now Sweep vs text asked is read out a e =
    let r = schedule_is_read files (behind words) vs read in
    absurd (both (seq_of words) asked e (two_no_seq words r.name r.other Sweep is r.words))
stepped_of files words before now RunExtension vs text asked is read out a e = absurd (both (seq_of words) asked e (pipeline_no_other files words vs RunExtension is read).seq)
stepped_of files words before now Wave vs text asked is read out a e = absurd (both (seq_of words) asked e (pipeline_no_other files words vs Wave is read).seq)
stepped_of files words before now RunInterrupted vs text asked is read out a e = absurd (both (seq_of words) asked e (interrupted_no_other files words vs is read).seq)
stepped_of files words before now Audit vs text asked is read out a e = absurd (both (seq_of words) asked e (audit_no_other files words vs is read).seq)
stepped_of files words before now Barrel vs text asked is read out a e = absurd (both (seq_of words) asked e (barrel_no_other files words vs is read).seq)
stepped_of files words before now Bench vs text asked is read out a e = absurd (both (seq_of words) asked e (bench_no_other files words vs is read).seq)
stepped_of files words before now Seq vs text asked is read out a e =
    let r = seq_read files (behind words) vs read in
    let run : text ≡ run_text r.extension r.image r.steps = subst (λ x. IsOutput Seq x text) r.values out in
    subst (λ k. SteppedAnswer files k before now) (seq_words_are words r.name r.other r.number r.steps asked is r.words r.within e)
    (record {
      bytes = r.bytes;
      extension = r.extension;
      file = r.file;
      elaborates = r.elaborates;
      well_formed = is_well_formed r.bytes r.extension r.elaborates;
      program = r.program;
      image = r.image;
      program_file = r.program_file;
      read = r.text;
      written = subst (λ t. Appends before now t) run a;
    })

pub stepped : (files : Option NamedFiles) (words : List (List ℕ)) (before now : Option (List ℕ)) → OutputAnswer files words before now → (asked : SeqCommand) → seq_of words ≡ Some asked → SteppedAnswer files asked before now
stepped files words before now o asked e = stepped_of files words before now o.command o.values o.text asked (is_of words o.command o.command_is) o.read o.output o.written e

-- ---- a source that is assembled
none_asm : (b : Bool) (o : AsmCommand) → b ≡ false → (if b then Some o else None) ≡ None
none_asm true o e = absurd (true≢false e)
none_asm false o e = refl

asm_words_are : (words : List (List ℕ)) (name other : List ℕ) (command : AsmCommand) → is_command Assemble words ≡ true → behind words ≡ name ∷ other ∷ [] → source_of words ≡ Some command → record { extension = name; source = other } ≡ command
asm_words_are [] name other command is e h = absurd (true≢false (sym is))
asm_words_are (word ∷ rest) name other command is e h =
    let first = (and_parts _ _ is).0 in
    let asked : AsmCommand = record { extension = name; source = other } in
    let named : source_of (word ∷ rest) ≡ Some asked = ap (λ r. source_of (word ∷ r)) e ∙ ap (λ b. if b then Some asked else None) first in
    one (source_of (word ∷ rest)) asked command named h

-- two words are no assembly, and a run is none
two_no_asm : (words : List (List ℕ)) (name : List ℕ) (command : Command) → is_command command words ≡ true → behind words ≡ name ∷ [] → source_of words ≡ None
two_no_asm [] name command is e = absurd (true≢false (sym is))
two_no_asm (word ∷ rest) name command is e = ap (λ r. source_of (word ∷ r)) e

three_no_asm : (words : List (List ℕ)) (a b c : List ℕ) (command : Command) → is_command command words ≡ true → behind words ≡ a ∷ b ∷ c ∷ [] → source_of words ≡ None
three_no_asm [] a b c command is e = absurd (true≢false (sym is))
three_no_asm (word ∷ rest) a b c command is e = ap (λ r. source_of (word ∷ r)) e

pair_no_asm : (command : Command) → bytes_eq (word_of command) (codes "asm") ≡ false → (words : List (List ℕ)) (name other : List ℕ) → is_command command words ≡ true → behind words ≡ name ∷ other ∷ [] → source_of words ≡ None
pair_no_asm command unlike [] name other is e = absurd (true≢false (sym is))
pair_no_asm command unlike (word ∷ rest) name other is e =
    ap (λ r. source_of (word ∷ r)) e
    ∙ none_asm (bytes_eq word (codes "asm")) (record { extension = name; source = other }) (not_its_word word (word_of command) (codes "asm") unlike (and_parts _ _ is).0)

assembled_of : (files : Option NamedFiles) (words : List (List ℕ)) (before now : Option (List ℕ)) (command : Command) (vs : List Reading) (text : List ℕ) (asked : AsmCommand) → is_command command words ≡ true → AreRead files (slots_of command) (behind words) vs → IsOutput command vs text → Appends before now text
    → source_of words ≡ Some asked → AssembledAnswer files asked before now
assembled_of files words before now RunImage vs text asked is read out a e =
    let r = run_read files (behind words) vs read in
    absurd (both (source_of words) asked e (pair_no_asm RunImage refl words r.name r.number is r.words))
assembled_of files words before now Check vs text asked is read out a e =
    let r = extension_is_read files (behind words) vs read in
    absurd (both (source_of words) asked e (two_no_asm words r.name Check is r.words))
assembled_of files words before now Certify vs text asked is read out a e =
    let r = report_is_read files (behind words) vs read in
    absurd (both (source_of words) asked e (two_no_asm words r.name Certify is r.words))
assembled_of files words before now Schedule vs text asked is read out a e =
    let r = schedule_is_read files (behind words) vs read in
    absurd (both (source_of words) asked e (pair_no_asm Schedule refl words r.name r.other is r.words))
assembled_of files words before now Build vs text asked is read out a e =
    let r = schedule_is_read files (behind words) vs read in
    absurd (both (source_of words) asked e (pair_no_asm Build refl words r.name r.other is r.words))
assembled_of files words before now Sweep vs text asked is read out a e =
    let r = schedule_is_read files (behind words) vs read in
    absurd (both (source_of words) asked e (pair_no_asm Sweep refl words r.name r.other is r.words))
assembled_of files words before now Seq vs text asked is read out a e =
    let r = seq_read files (behind words) vs read in
    absurd (both (source_of words) asked e (three_no_asm words r.name r.other r.number Seq is r.words))
assembled_of files words before now RunExtension vs text asked is read out a e = absurd (both (source_of words) asked e (pipeline_no_other files words vs RunExtension is read).source)
assembled_of files words before now Wave vs text asked is read out a e = absurd (both (source_of words) asked e (pipeline_no_other files words vs Wave is read).source)
assembled_of files words before now RunInterrupted vs text asked is read out a e = absurd (both (source_of words) asked e (interrupted_no_other files words vs is read).source)
assembled_of files words before now Audit vs text asked is read out a e = absurd (both (source_of words) asked e (audit_no_other files words vs is read).source)
assembled_of files words before now Barrel vs text asked is read out a e = absurd (both (source_of words) asked e (barrel_no_other files words vs is read).source)
assembled_of files words before now Bench vs text asked is read out a e = absurd (both (source_of words) asked e (bench_no_other files words vs is read).source)
assembled_of files words before now Assemble vs text asked is read out a e =
    let r = source_is_read files (behind words) vs read in
    let there : IsOutput Assemble (extension_read r.extension ∷ source_read r.source ∷ []) text = subst (λ x. IsOutput Assemble x text) r.values out in
    let same = asm_words_are words r.name r.other asked is r.words e in
    record {
      text = r.bytes;
      extension = r.extension;
      source = r.source;
      words = there.0;
      extension_file = subst (λ n. IsFile files n r.bytes) (ap (λ (c : AsmCommand). c.extension) same) r.file;
      elaborates = r.elaborates;
      source_file = subst (λ n. IsFile files n r.source) (ap (λ (c : AsmCommand). c.source) same) r.source_file;
      assembles = there.1;
      written = subst (λ t. Appends before now t) there.2 a;
    }

pub assembled : (files : Option NamedFiles) (words : List (List ℕ)) (before now : Option (List ℕ)) → OutputAnswer files words before now → (asked : AsmCommand) → source_of words ≡ Some asked → AssembledAnswer files asked before now
assembled files words before now o asked e = assembled_of files words before now o.command o.values o.text asked (is_of words o.command o.command_is) o.read o.output o.written e

-- ---- an extension that is scheduled
none_schedule : (b : Bool) (o : ScheduleCommand) → b ≡ false → (if b then Some o else None) ≡ None
none_schedule true o e = absurd (true≢false e)
none_schedule false o e = refl

schedule_words_are : (words : List (List ℕ)) (name other : List ℕ) (command : ScheduleCommand) → is_command Schedule words ≡ true → behind words ≡ name ∷ other ∷ [] → schedule_of words ≡ Some command → record { extension = name; sheet = other } ≡ command
schedule_words_are [] name other command is e h = absurd (true≢false (sym is))
schedule_words_are (word ∷ rest) name other command is e h =
    let first = (and_parts _ _ is).0 in
    let asked : ScheduleCommand = record { extension = name; sheet = other } in
    let named : schedule_of (word ∷ rest) ≡ Some asked = ap (λ r. schedule_of (word ∷ r)) e ∙ ap (λ b. if b then Some asked else None) first in
    one (schedule_of (word ∷ rest)) asked command named h

two_no_schedule : (words : List (List ℕ)) (name : List ℕ) (command : Command) → is_command command words ≡ true → behind words ≡ name ∷ [] → schedule_of words ≡ None
two_no_schedule [] name command is e = absurd (true≢false (sym is))
two_no_schedule (word ∷ rest) name command is e = ap (λ r. schedule_of (word ∷ r)) e

three_no_schedule : (words : List (List ℕ)) (a b c : List ℕ) (command : Command) → is_command command words ≡ true → behind words ≡ a ∷ b ∷ c ∷ [] → schedule_of words ≡ None
three_no_schedule [] a b c command is e = absurd (true≢false (sym is))
three_no_schedule (word ∷ rest) a b c command is e = ap (λ r. schedule_of (word ∷ r)) e

pair_no_schedule : (command : Command) → bytes_eq (word_of command) (codes "schedule") ≡ false → (words : List (List ℕ)) (name other : List ℕ) → is_command command words ≡ true → behind words ≡ name ∷ other ∷ [] → schedule_of words ≡ None
pair_no_schedule command unlike [] name other is e = absurd (true≢false (sym is))
pair_no_schedule command unlike (word ∷ rest) name other is e =
    ap (λ r. schedule_of (word ∷ r)) e
    ∙ none_schedule (bytes_eq word (codes "schedule")) (record { extension = name; sheet = other }) (not_its_word word (word_of command) (codes "schedule") unlike (and_parts _ _ is).0)

scheduled_of : (files : Option NamedFiles) (words : List (List ℕ)) (before now : Option (List ℕ)) (command : Command) (vs : List Reading) (text : List ℕ) (asked : ScheduleCommand) → is_command command words ≡ true → AreRead files (slots_of command) (behind words) vs → IsOutput command vs text → Appends before now text
    → schedule_of words ≡ Some asked → ScheduledAnswer files asked before now
scheduled_of files words before now RunImage vs text asked is read out a e =
    let r = run_read files (behind words) vs read in
    absurd (both (schedule_of words) asked e (pair_no_schedule RunImage refl words r.name r.number is r.words))
scheduled_of files words before now Check vs text asked is read out a e =
    let r = extension_is_read files (behind words) vs read in
    absurd (both (schedule_of words) asked e (two_no_schedule words r.name Check is r.words))
scheduled_of files words before now Certify vs text asked is read out a e =
    let r = report_is_read files (behind words) vs read in
    absurd (both (schedule_of words) asked e (two_no_schedule words r.name Certify is r.words))
scheduled_of files words before now Seq vs text asked is read out a e =
    let r = seq_read files (behind words) vs read in
    absurd (both (schedule_of words) asked e (three_no_schedule words r.name r.other r.number Seq is r.words))
scheduled_of files words before now Assemble vs text asked is read out a e =
    let r = source_is_read files (behind words) vs read in
    absurd (both (schedule_of words) asked e (pair_no_schedule Assemble refl words r.name r.other is r.words))
scheduled_of files words before now Build vs text asked is read out a e =
    let r = schedule_is_read files (behind words) vs read in
    absurd (both (schedule_of words) asked e (pair_no_schedule Build refl words r.name r.other is r.words))
scheduled_of files words before now Sweep vs text asked is read out a e =
    let r = schedule_is_read files (behind words) vs read in
    absurd (both (schedule_of words) asked e (pair_no_schedule Sweep refl words r.name r.other is r.words))
scheduled_of files words before now RunExtension vs text asked is read out a e = absurd (both (schedule_of words) asked e (pipeline_no_other files words vs RunExtension is read).schedule)
scheduled_of files words before now Wave vs text asked is read out a e = absurd (both (schedule_of words) asked e (pipeline_no_other files words vs Wave is read).schedule)
scheduled_of files words before now RunInterrupted vs text asked is read out a e = absurd (both (schedule_of words) asked e (interrupted_no_other files words vs is read).schedule)
scheduled_of files words before now Audit vs text asked is read out a e = absurd (both (schedule_of words) asked e (audit_no_other files words vs is read).schedule)
scheduled_of files words before now Barrel vs text asked is read out a e = absurd (both (schedule_of words) asked e (barrel_no_other files words vs is read).schedule)
scheduled_of files words before now Bench vs text asked is read out a e = absurd (both (schedule_of words) asked e (bench_no_other files words vs is read).schedule)
scheduled_of files words before now Schedule vs text asked is read out a e =
    let r = schedule_is_read files (behind words) vs read in
    let report : IsScheduleText r.extension r.sheet text = subst (λ x. IsOutput Schedule x text) r.values out in
    subst (λ k. ScheduledAnswer files k before now) (schedule_words_are words r.name r.other asked is r.words e)
    (record {
      bytes = r.bytes;
      extension = r.extension;
      sheet_bytes = r.sheet_bytes;
      sheet = r.sheet;
      text = text;
      file = r.file;
      elaborates = r.elaborates;
      well_formed = is_well_formed r.bytes r.extension r.elaborates;
      sheet_file = r.sheet_file;
      sheet_read = r.sheet_is;
      scheduled = report;
      written = a;
    })

pub scheduled : (files : Option NamedFiles) (words : List (List ℕ)) (before now : Option (List ℕ)) → OutputAnswer files words before now → (asked : ScheduleCommand) → schedule_of words ≡ Some asked → ScheduledAnswer files asked before now
scheduled files words before now o asked e = scheduled_of files words before now o.command o.values o.text asked (is_of words o.command o.command_is) o.read o.output o.written e
