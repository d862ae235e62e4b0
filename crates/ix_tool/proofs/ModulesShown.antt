-- What an output of modules shows.
use Rattle.std.proofs.Common.{◌≡◌, ℕ, List, [], ◌∷◌, Option, Some, None, Bool, true, false, refl, ap, sym, ◌∙◌, subst}
use Rattle.std.specs.Prelude.{codes, if◌then◌else◌}
use Rattle.std.specs.Str.{bytes_eq}
use Rattle.std.proofs.lemmas.Bool.{and_parts, true≢false}
use Rattle.ix_io.specs.Shelf.{NamedFiles}
use Rattle.ix_io.specs.Sink.{Appends}
use Rattle.ix_listing.proofs.OneExtension.{is_well_formed}
use Rattle.ix_modules.specs.Modules.{IsModulesText}
use Rattle.ix_words.specs.declared.command.Command.{Command}
use Rattle.ix_words.specs.declared.command.Command.TheVariants.{RunImage, Check, Certify, Schedule, Build, Sweep, Seq, Assemble, RunExtension, Bench, Wave, RunInterrupted, Audit, Barrel}
use Rattle.ix_words.specs.Readings.{Reading}
use Rattle.ix_words.specs.CommandLine.{word_of, is_command, slots_of, behind, BuildCommand, build_of}
use Rattle.ix_words.specs.WordsRead.{AreRead}
use Rattle.ix_tool.specs.CommandOutput.{IsOutput, OutputAnswer, ModulesAnswer}
use Rattle.ix_tool.proofs.Due.{both, one}
use Rattle.ix_tool.proofs.Headlines.{is_of, pipeline_no_other, interrupted_no_other, audit_no_other, barrel_no_other, bench_no_other, not_its_word}
use Rattle.ix_tool.proofs.Taking.{run_read, extension_is_read, report_is_read, source_is_read, schedule_is_read, seq_read}

none_build : (b : Bool) (o : BuildCommand) → b ≡ false → (if b then Some o else None) ≡ None
none_build true o e = absurd (true≢false e)
none_build false o e = refl

build_words_are : (words : List (List ℕ)) (name other : List ℕ) (command : BuildCommand) → is_command Build words ≡ true → behind words ≡ name ∷ other ∷ [] → build_of words ≡ Some command → record { extension = name; sheet = other } ≡ command
build_words_are [] name other command is e h = absurd (true≢false (sym is))
build_words_are (word ∷ rest) name other command is e h =
    let first = (and_parts _ _ is).0 in
    let asked : BuildCommand = record { extension = name; sheet = other } in
    let named : build_of (word ∷ rest) ≡ Some asked = ap (λ r. build_of (word ∷ r)) e ∙ ap (λ b. if b then Some asked else None) first in
    one (build_of (word ∷ rest)) asked command named h

two_no_build : (words : List (List ℕ)) (name : List ℕ) (command : Command) → is_command command words ≡ true → behind words ≡ name ∷ [] → build_of words ≡ None
two_no_build [] name command is e = absurd (true≢false (sym is))
two_no_build (word ∷ rest) name command is e = ap (λ r. build_of (word ∷ r)) e

three_no_build : (words : List (List ℕ)) (a b c : List ℕ) (command : Command) → is_command command words ≡ true → behind words ≡ a ∷ b ∷ c ∷ [] → build_of words ≡ None
three_no_build [] a b c command is e = absurd (true≢false (sym is))
three_no_build (word ∷ rest) a b c command is e = ap (λ r. build_of (word ∷ r)) e

pair_no_build : (command : Command) → bytes_eq (word_of command) (codes "build") ≡ false → (words : List (List ℕ)) (name other : List ℕ) → is_command command words ≡ true → behind words ≡ name ∷ other ∷ [] → build_of words ≡ None
pair_no_build command unlike [] name other is e = absurd (true≢false (sym is))
pair_no_build command unlike (word ∷ rest) name other is e =
    ap (λ r. build_of (word ∷ r)) e
    ∙ none_build (bytes_eq word (codes "build")) (record { extension = name; sheet = other }) (not_its_word word (word_of command) (codes "build") unlike (and_parts _ _ is).0)

modules_of : (files : Option NamedFiles) (words : List (List ℕ)) (before now : Option (List ℕ)) (command : Command) (vs : List Reading) (text : List ℕ) (asked : BuildCommand) → is_command command words ≡ true → AreRead files (slots_of command) (behind words) vs → IsOutput command vs text → Appends before now text
    → build_of words ≡ Some asked → ModulesAnswer files asked before now
modules_of files words before now RunImage vs text asked is read out a e =
    let r = run_read files (behind words) vs read in
    absurd (both (build_of words) asked e (pair_no_build RunImage refl words r.name r.number is r.words))
modules_of files words before now Check vs text asked is read out a e =
    let r = extension_is_read files (behind words) vs read in
    absurd (both (build_of words) asked e (two_no_build words r.name Check is r.words))
modules_of files words before now Certify vs text asked is read out a e =
    let r = report_is_read files (behind words) vs read in
    absurd (both (build_of words) asked e (two_no_build words r.name Certify is r.words))
modules_of files words before now Seq vs text asked is read out a e =
    let r = seq_read files (behind words) vs read in
    absurd (both (build_of words) asked e (three_no_build words r.name r.other r.number Seq is r.words))
modules_of files words before now Assemble vs text asked is read out a e =
    let r = source_is_read files (behind words) vs read in
    absurd (both (build_of words) asked e (pair_no_build Assemble refl words r.name r.other is r.words))
modules_of files words before now Schedule vs text asked is read out a e =
    let r = schedule_is_read files (behind words) vs read in
    absurd (both (build_of words) asked e (pair_no_build Schedule refl words r.name r.other is r.words))
modules_of files words before now Sweep vs text asked is read out a e =
    let r = schedule_is_read files (behind words) vs read in
    absurd (both (build_of words) asked e (pair_no_build Sweep refl words r.name r.other is r.words))
modules_of files words before now RunExtension vs text asked is read out a e = absurd (both (build_of words) asked e (pipeline_no_other files words vs RunExtension is read).build)
modules_of files words before now Wave vs text asked is read out a e = absurd (both (build_of words) asked e (pipeline_no_other files words vs Wave is read).build)
modules_of files words before now RunInterrupted vs text asked is read out a e = absurd (both (build_of words) asked e (interrupted_no_other files words vs is read).build)
modules_of files words before now Audit vs text asked is read out a e = absurd (both (build_of words) asked e (audit_no_other files words vs is read).build)
modules_of files words before now Barrel vs text asked is read out a e = absurd (both (build_of words) asked e (barrel_no_other files words vs is read).build)
modules_of files words before now Bench vs text asked is read out a e = absurd (both (build_of words) asked e (bench_no_other files words vs is read).build)
modules_of files words before now Build vs text asked is read out a e =
    let r = schedule_is_read files (behind words) vs read in
    let modules : IsModulesText r.extension r.sheet text = subst (λ x. IsOutput Build x text) r.values out in
    subst (λ k. ModulesAnswer files k before now) (build_words_are words r.name r.other asked is r.words e)
    (record {
      bytes = r.bytes;
      extension = r.extension;
      sheet_bytes = r.sheet_bytes;
      sheet = r.sheet;
      text = text;
      file = r.file;
      elaborates = r.elaborates;
      well_formed = is_well_formed r.bytes r.extension r.elaborates;
      sheet_file = r.sheet_file;
      sheet_read = r.sheet_is;
      modules = modules;
      written = a;
    })

pub modules : (files : Option NamedFiles) (words : List (List ℕ)) (before now : Option (List ℕ)) → OutputAnswer files words before now → (asked : BuildCommand) → build_of words ≡ Some asked → ModulesAnswer files asked before now
modules files words before now o asked e = modules_of files words before now o.command o.values o.text asked (is_of words o.command o.command_is) o.read o.output o.written e
