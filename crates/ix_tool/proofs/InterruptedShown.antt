-- What an output of a run with an interrupt line shows.
use Rattle.std.proofs.Common.{◌≡◌, ℕ, suc, ◌<◌, List, [], ◌∷◌, length, Option, Some, None, true, refl, ap, sym, ◌∙◌, subst, arith}
use Rattle.std.specs.Prelude.{codes}
use Rattle.std.specs.Str.{bytes_eq}
use Rattle.std.proofs.lemmas.Bool.{and_parts, true≢false}
use Rattle.ix_io.specs.Shelf.{NamedFiles}
use Rattle.ix_extension.specs.Extensions.{ExtensionTree}
use Rattle.ix_sheet.specs.declared.sheet.Sheet.{Sheet}
use Rattle.ix_listing.proofs.OneExtension.{is_well_formed}
use Rattle.ix_words.specs.declared.command.Command.{Command}
use Rattle.ix_words.specs.declared.command.Command.TheVariants.{RunImage, Check, Certify, Schedule, Build, Sweep, Seq, Assemble, RunExtension, Bench, Wave, RunInterrupted, Audit, Barrel}
use Rattle.ix_words.specs.declared.command.RunForm.TheVariants.{Interrupted}
use Rattle.ix_words.specs.declared.command.Slot.{Slot}
use Rattle.ix_words.specs.Readings.{Reading, extension_read, sheet_read, image_read, waits_read, lines_read, number_read}
use Rattle.ix_words.specs.CommandLine.{is_command, slots_of, behind, number_within, InterruptedCommand, interrupted_command, interrupted_of}
use Rattle.rv_machine.specs.Promises.{TextLaw}
use Rattle.ix_words.specs.WordsRead.{AreRead}
use Rattle.ix_tool.specs.CommandOutput.{IsExtensionRun, IsInterruptedOutput, IsOutput, OutputAnswer, InterruptedAnswer}
use Rattle.ix_tool.proofs.ImageWords.{words_of_text}
use Rattle.ix_tool.proofs.Handlers.{handler_of}
use Rattle.ix_tool.proofs.Due.{both, one}
use Rattle.ix_tool.proofs.Headlines.{is_of}
use Rattle.ix_tool.proofs.Taking.{interrupted_read}

-- ---- the words
abbrev asked_by : List ℕ → List ℕ → List ℕ → List ℕ → List ℕ → ℕ → InterruptedCommand
asked_by a b c d l n = record { extension = a; sheet = b; image = c; waits = d; lines = l; cycles = n }

run_words_are : (words : List (List ℕ)) (a b c d l e : List ℕ) (n : ℕ) (command : InterruptedCommand) → is_command RunInterrupted words ≡ true → behind words ≡ a ∷ b ∷ c ∷ d ∷ l ∷ e ∷ [] → number_within 200000 e ≡ Some n → interrupted_of words ≡ Some command → asked_by a b c d l n ≡ command
run_words_are [] a b c d l e n command is h w k = absurd (true≢false (sym is))
run_words_are (word ∷ rest) a b c d l e n command is h w k =
    let first = (and_parts _ _ is).0 in
    let named : interrupted_of (word ∷ rest) ≡ Some (asked_by a b c d l n) =
    ap (λ r. interrupted_of (word ∷ r)) h ∙ ap (λ m. interrupted_command (bytes_eq word (codes "run")) a b c d l m) w ∙ ap (λ p. interrupted_command p a b c d l (Some n)) first in
    one (interrupted_of (word ∷ rest)) (asked_by a b c d l n) command named k

-- fewer words are no such run
few_no_run : (word : List ℕ) (rest : List (List ℕ)) → length rest < 6 → interrupted_of (word ∷ rest) ≡ None
few_no_run word [] h = refl
few_no_run word (a ∷ []) h = refl
few_no_run word (a ∷ b ∷ []) h = refl
few_no_run word (a ∷ b ∷ c ∷ []) h = refl
few_no_run word (a ∷ b ∷ c ∷ d ∷ []) h = refl
few_no_run word (a ∷ b ∷ c ∷ d ∷ e ∷ []) h = refl
few_no_run word (a ∷ b ∷ c ∷ d ∷ e ∷ f ∷ rest) h = absurd (omega (arith, h))

pub as_many : (files : Option NamedFiles) (slots : List Slot) (words : List (List ℕ)) (vs : List Reading) → AreRead files slots words vs → length words ≡ length slots
as_many files [] [] vs h = refl
as_many files [] (word ∷ words) vs h = absurd h
as_many files (slot ∷ slots) [] vs h = absurd h
as_many files (slot ∷ slots) (word ∷ words) [] h = absurd h
as_many files (slot ∷ slots) (word ∷ words) (v ∷ vs) h = ap suc (as_many files slots words vs h.1)

no_run : (files : Option NamedFiles) (words : List (List ℕ)) (command : Command) (vs : List Reading) → is_command command words ≡ true → AreRead files (slots_of command) (behind words) vs → length (slots_of command) < 6 → interrupted_of words ≡ None
no_run files [] command vs is read few = absurd (true≢false (sym is))
no_run files (word ∷ rest) command vs is read few = let n = as_many files (slots_of command) rest vs read in few_no_run word rest (omega (arith, n, few))

-- ---- the run
-- the run of these values is that of others with the same parts
run_of_parts : (x y : ExtensionTree) (s t : Sheet) (i j w v l k : List ℕ) (n m : ℕ) (text : List ℕ)
    → extension_read x ∷ sheet_read s ∷ image_read i ∷ waits_read w ∷ lines_read l ∷ number_read n ∷ [] ≡ extension_read y ∷ sheet_read t ∷ image_read j ∷ waits_read v ∷ lines_read k ∷ number_read m ∷ []
    → IsExtensionRun Interrupted y t j v (Some k) m text → IsExtensionRun Interrupted x s i w (Some l) n text
run_of_parts x y s t i j w v l k n m text e h =
    let a : x ≡ y = cc in
    let b : s ≡ t = cc in
    let c : i ≡ j = cc in
    let d : w ≡ v = cc in
    let f : l ≡ k = cc in
    let g : n ≡ m = cc in
    subst (λ z. IsExtensionRun Interrupted z s i w (Some l) n text) (sym a)
    (subst (λ z. IsExtensionRun Interrupted y z i w (Some l) n text) (sym b) (subst (λ z. IsExtensionRun Interrupted y t z w (Some l) n text) (sym c)
    (subst (λ z. IsExtensionRun Interrupted y t j z (Some l) n text) (sym d) (subst (λ z. IsExtensionRun Interrupted y t j v (Some z) n text) (sym f) (subst (λ z. IsExtensionRun Interrupted y t j v (Some k) z text) (sym g) h)))))

-- its rows are lawful
answered : TextLaw → (files : Option NamedFiles) (words : List (List ℕ)) (before now : Option (List ℕ)) (o : OutputAnswer files words before now) (asked : InterruptedCommand) → is_command RunInterrupted words ≡ true → AreRead files (slots_of RunInterrupted) (behind words) o.values → IsInterruptedOutput o.values o.text
    → interrupted_of words ≡ Some asked → InterruptedAnswer files asked before now
answered law files words before now o asked is read there e =
    let r = interrupted_read files (behind words) o.values read in
    let runs = run_of_parts r.extension there.extension r.sheet there.sheet r.image there.image r.waits there.waits r.lines there.lines r.cycles there.cycles o.text (sym r.values ∙ there.values_are) there.runs in
    subst (λ k. InterruptedAnswer files k before now) (run_words_are words r.name r.other r.third r.fourth r.fifth r.number r.cycles asked is r.words r.within e)
    (record {
      bytes = r.bytes;
      extension = r.extension;
      sheet_bytes = r.sheet_bytes;
      sheet = r.sheet;
      program = r.program;
      image = r.image;
      waits_bytes = r.waits_bytes;
      waits = r.waits;
      lines_bytes = r.lines_bytes;
      lines = r.lines;
      text = o.text;
      file = r.file;
      elaborates = r.elaborates;
      well_formed = is_well_formed r.bytes r.extension r.elaborates;
      sheet_file = r.sheet_file;
      sheet_read = r.sheet_is;
      image_file = r.program_file;
      image_read = r.text;
      waits_file = r.waits_file;
      waits_read = r.waits_are;
      lines_file = r.lines_file;
      lines_read = r.lines_are;
      runs = record {
        design = runs.design;
        stands = runs.stands;
        extension_is = runs.extension_is;
        sheet_is = runs.sheet_is;
        runs = law runs.design r.image r.waits (Some r.lines) r.cycles o.text (record { stands = runs.stands; handler = handler_of runs.design r.sheet_bytes r.sheet runs.sheet_is r.sheet_is.sheet_is; words = words_of_text r.program r.image r.text }) runs.runs;
      };
      written = o.written;
    })

found_of : TextLaw → (files : Option NamedFiles) (words : List (List ℕ)) (before now : Option (List ℕ)) (o : OutputAnswer files words before now) (asked : InterruptedCommand) (command : Command) → is_command command words ≡ true → AreRead files (slots_of command) (behind words) o.values → IsOutput command o.values o.text
    → interrupted_of words ≡ Some asked → InterruptedAnswer files asked before now
found_of law files words before now o asked RunInterrupted is read out e = answered law files words before now o asked is read out e
found_of law files words before now o asked RunImage is read out e = absurd (both (interrupted_of words) asked e (no_run files words RunImage o.values is read (omega arith)))
found_of law files words before now o asked Check is read out e = absurd (both (interrupted_of words) asked e (no_run files words Check o.values is read (omega arith)))
found_of law files words before now o asked Certify is read out e = absurd (both (interrupted_of words) asked e (no_run files words Certify o.values is read (omega arith)))
found_of law files words before now o asked Seq is read out e = absurd (both (interrupted_of words) asked e (no_run files words Seq o.values is read (omega arith)))
found_of law files words before now o asked Assemble is read out e = absurd (both (interrupted_of words) asked e (no_run files words Assemble o.values is read (omega arith)))
found_of law files words before now o asked Schedule is read out e = absurd (both (interrupted_of words) asked e (no_run files words Schedule o.values is read (omega arith)))
found_of law files words before now o asked Build is read out e = absurd (both (interrupted_of words) asked e (no_run files words Build o.values is read (omega arith)))
found_of law files words before now o asked Sweep is read out e = absurd (both (interrupted_of words) asked e (no_run files words Sweep o.values is read (omega arith)))
found_of law files words before now o asked RunExtension is read out e = absurd (both (interrupted_of words) asked e (no_run files words RunExtension o.values is read (omega arith)))
found_of law files words before now o asked Bench is read out e = absurd (both (interrupted_of words) asked e (no_run files words Bench o.values is read (omega arith)))
found_of law files words before now o asked Wave is read out e = absurd (both (interrupted_of words) asked e (no_run files words Wave o.values is read (omega arith)))
found_of law files words before now o asked Audit is read out e = absurd (both (interrupted_of words) asked e (no_run files words Audit o.values is read (omega arith)))
found_of law files words before now o asked Barrel is read out e = absurd (both (interrupted_of words) asked e (no_run files words Barrel o.values is read (omega arith)))

pub interrupted : TextLaw → (files : Option NamedFiles) (words : List (List ℕ)) (before now : Option (List ℕ)) → OutputAnswer files words before now → (asked : InterruptedCommand) → interrupted_of words ≡ Some asked → InterruptedAnswer files asked before now
interrupted law files words before now o asked e = found_of law files words before now o asked o.command (is_of words o.command o.command_is) o.read o.output e
