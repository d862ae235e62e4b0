-- What a run of two harts shows.
use Rattle.std.proofs.Common.{◌≡◌, ℕ, ◌+◌, ◌≤◌, List, [], ◌∷◌, length, Option, Some, None, Bool, true, false, refl, ap, sym, ◌∙◌, subst, arith}
use Rattle.std.specs.Prelude.{codes}
use Rattle.std.specs.Str.{bytes_eq}
use Rattle.std.proofs.lemmas.Bool.{and_parts, true≢false}
use Rattle.ix_io.specs.Shelf.{NamedFiles}
use Rattle.ix_extension.specs.Extensions.{ExtensionTree}
use Rattle.ix_sheet.specs.declared.sheet.Sheet.{Sheet}
use Rattle.ix_sheet.specs.Datasheets.{IsSheetOf}
use Rattle.ix_listing.proofs.OneExtension.{is_well_formed}
use Rattle.rv_asm.specs.ImageText.{IsImageText}
use Rattle.rv_barrel.specs.Barrels.{BarrelLaw, IsTurning}
use Rattle.rv_harts.specs.BarrelLaws.{RowsLaw, IsolationLaw}
use Rattle.ix_words.specs.declared.command.Command.{Command}
use Rattle.ix_words.specs.declared.command.Command.TheVariants.{RunImage, Check, Certify, Schedule, Build, Sweep, Seq, Assemble, RunExtension, Bench, Wave, RunInterrupted, Audit, Barrel}
use Rattle.ix_words.specs.Readings.{Reading, extension_read, sheet_read, image_read, number_read}
use Rattle.ix_words.specs.CommandLine.{word_of, is_command, slots_of, behind, number_within, BarrelCommand, barrel_command, barrel_of}
use Rattle.ix_words.specs.WordsRead.{AreRead}
use Rattle.ix_tool.specs.BarrelOutput.{IsBarrelRun, IsLawfulBarrelRun, IsBarrelOutput, BarrelAnswer}
use Rattle.ix_tool.specs.CommandOutput.{IsOutput, OutputAnswer}
use Rattle.ix_tool.proofs.Due.{both, one}
use Rattle.ix_tool.proofs.Headlines.{is_of, not_its_word}
use Rattle.ix_tool.proofs.ImageWords.{words_of_text}
use Rattle.ix_tool.proofs.InterruptedShown.{as_many}
use Rattle.ix_tool.proofs.NearStages.{near_of}
use Rattle.ix_tool.proofs.Taking.{pipeline_read, audit_read, barrel_read}
use Rattle.ix_tool.proofs.TightPlans.{turning}

-- ---- the words
abbrev asked_by : List ℕ → List ℕ → List ℕ → List ℕ → ℕ → BarrelCommand
asked_by a b c d n = record { extension = a; sheet = b; first = c; second = d; cycles = n }

barrel_words_are : (words : List (List ℕ)) (a b c d e : List ℕ) (n : ℕ) (command : BarrelCommand) → is_command Barrel words ≡ true → behind words ≡ a ∷ b ∷ c ∷ d ∷ e ∷ [] → number_within 200000 e ≡ Some n → barrel_of words ≡ Some command → asked_by a b c d n ≡ command
barrel_words_are [] a b c d e n command is h w k = absurd (true≢false (sym is))
barrel_words_are (word ∷ rest) a b c d e n command is h w k =
    let first = (and_parts _ _ is).0 in
    let named : barrel_of (word ∷ rest) ≡ Some (asked_by a b c d n) =
    ap (λ r. barrel_of (word ∷ r)) h ∙ ap (λ m. barrel_command (bytes_eq word (codes "barrel")) a b c d m) w ∙ ap (λ p. barrel_command p a b c d (Some n)) first in
    one (barrel_of (word ∷ rest)) (asked_by a b c d n) command named k

-- fewer words, or more, are no such run
other_count : (word : List ℕ) (rest : List (List ℕ)) → (length rest ≡ 5 → ⊥) → barrel_of (word ∷ rest) ≡ None
other_count word [] h = refl
other_count word (a ∷ []) h = refl
other_count word (a ∷ b ∷ []) h = refl
other_count word (a ∷ b ∷ c ∷ []) h = refl
other_count word (a ∷ b ∷ c ∷ d ∷ []) h = refl
other_count word (a ∷ b ∷ c ∷ d ∷ e ∷ []) h = absurd (h refl)
other_count word (a ∷ b ∷ c ∷ d ∷ e ∷ f ∷ rest) h = refl

no_barrel : (files : Option NamedFiles) (words : List (List ℕ)) (command : Command) (vs : List Reading) → is_command command words ≡ true → AreRead files (slots_of command) (behind words) vs → (length (slots_of command) ≡ 5 → ⊥) → barrel_of words ≡ None
no_barrel files [] command vs is read h = absurd (true≢false (sym is))
no_barrel files (word ∷ rest) command vs is read h = other_count word rest (λ n. h (sym (as_many files (slots_of command) rest vs read) ∙ n))

-- nor are as many behind another word
none_where : (t : Bool) (a b c d : List ℕ) (o : Option ℕ) → t ≡ false → barrel_command t a b c d o ≡ None
none_where t a b c d None e = refl
none_where true a b c d (Some n) e = absurd (true≢false e)
none_where false a b c d (Some n) e = refl

six_no_barrel : (command : Command) → bytes_eq (word_of command) (codes "barrel") ≡ false → (words : List (List ℕ)) (a b c d e : List ℕ) → is_command command words ≡ true → behind words ≡ a ∷ b ∷ c ∷ d ∷ e ∷ [] → barrel_of words ≡ None
six_no_barrel command unlike [] a b c d e is h = absurd (true≢false (sym is))
six_no_barrel command unlike (word ∷ rest) a b c d e is h =
    ap (λ r. barrel_of (word ∷ r)) h
    ∙ none_where (bytes_eq word (codes "barrel")) a b c d (number_within 200000 e) (not_its_word word (word_of command) (codes "barrel") unlike (and_parts _ _ is).0)

-- ---- the run
-- what is so of these values is so of others with the same parts
run_of_parts : (x y : ExtensionTree) (s t : Sheet) (i j k l : List ℕ) (n m : ℕ) (text : List ℕ)
    → extension_read x ∷ sheet_read s ∷ image_read i ∷ image_read k ∷ number_read n ∷ [] ≡ extension_read y ∷ sheet_read t ∷ image_read j ∷ image_read l ∷ number_read m ∷ []
    → IsBarrelRun y t j l m text → IsBarrelRun x s i k n text
run_of_parts x y s t i j k l n m text e h =
    let a : x ≡ y = cc in
    let b : s ≡ t = cc in
    let c : i ≡ j = cc in
    let d : k ≡ l = cc in
    let f : n ≡ m = cc in
    subst (λ z. IsBarrelRun z s i k n text) (sym a) (subst (λ z. IsBarrelRun y z i k n text) (sym b) (subst (λ z. IsBarrelRun y t z k n text) (sym c) (subst (λ z. IsBarrelRun y t j z n text) (sym d) (subst (λ z. IsBarrelRun y t j l z text) (sym f) h))))

-- each hart has in it what its own image gives, and does what the run of this image does
lawful : BarrelLaw → RowsLaw → IsolationLaw → (x : ExtensionTree) (sheet : Sheet) (first second : List ℕ) (cycles : ℕ) (text sheet_bytes program other_program : List ℕ) → IsSheetOf sheet_bytes sheet → IsImageText program first → IsImageText other_program second
    → IsBarrelRun x sheet first second cycles text → IsLawfulBarrelRun x sheet first second cycles text
lawful law rows isolated x sheet first second cycles text sheet_bytes program other_program is i j h =
    let d = h.design in
    let near = subst (λ (s : Sheet). s.shape.stages ≤ s.shape.mem + 2) (sym h.sheet_is) (near_of sheet_bytes sheet is) in
    let turns : IsTurning d = turning d h.stands h.no_tight near in
    let one = law d first h.stands turns (words_of_text program first i) in
    let other = law d second h.stands turns (words_of_text other_program second j) in
    record {
      design = d;
      stands = h.stands;
      extension_is = h.extension_is;
      sheet_is = h.sheet_is;
      text_is = h.text_is;
      shown = rows d first second;
      first_alone = λ image n. isolated d first second first image 0 n (omega arith) refl;
      second_alone = λ image n. isolated d first second image second 1 n (omega arith) refl;
      first_prefix = one.0;
      second_prefix = other.0;
      first_state = one.1;
      second_state = other.1;
    }

answered : BarrelLaw → RowsLaw → IsolationLaw → (files : Option NamedFiles) (words : List (List ℕ)) (before now : Option (List ℕ)) (o : OutputAnswer files words before now) (asked : BarrelCommand) → is_command Barrel words ≡ true → AreRead files (slots_of Barrel) (behind words) o.values → IsBarrelOutput o.values o.text → barrel_of words ≡ Some asked → BarrelAnswer files asked before now
answered law rows isolated files words before now o asked is read there e =
    let r = barrel_read files (behind words) o.values read in
    subst (λ k. BarrelAnswer files k before now) (barrel_words_are words r.name r.other r.third r.fourth r.number r.cycles asked is r.words r.within e)
    (record {
      bytes = r.bytes;
      extension = r.extension;
      sheet_bytes = r.sheet_bytes;
      sheet = r.sheet;
      program = r.program;
      first = r.first;
      other_program = r.other_program;
      second = r.second;
      text = o.text;
      file = r.file;
      elaborates = r.elaborates;
      well_formed = is_well_formed r.bytes r.extension r.elaborates;
      sheet_file = r.sheet_file;
      sheet_read = r.sheet_is;
      first_file = r.program_file;
      first_read = r.text;
      second_file = r.other_file;
      second_read = r.other_text;
      runs = lawful law rows isolated r.extension r.sheet r.first r.second r.cycles o.text r.sheet_bytes r.program r.other_program r.sheet_is.sheet_is r.text r.other_text
          (run_of_parts r.extension there.extension r.sheet there.sheet r.first there.first r.second there.second r.cycles there.cycles o.text (sym r.values ∙ there.values_are) there.runs);
      written = o.written;
    })

found_of : BarrelLaw → RowsLaw → IsolationLaw → (files : Option NamedFiles) (words : List (List ℕ)) (before now : Option (List ℕ)) (o : OutputAnswer files words before now) (asked : BarrelCommand) (command : Command) → is_command command words ≡ true → AreRead files (slots_of command) (behind words) o.values → IsOutput command o.values o.text → barrel_of words ≡ Some asked → BarrelAnswer files asked before now
found_of law rows isolated files words before now o asked Barrel is read out e = answered law rows isolated files words before now o asked is read out e
found_of law rows isolated files words before now o asked RunExtension is read out e =
    let r = pipeline_read files (behind words) o.values read in
    absurd (both (barrel_of words) asked e (six_no_barrel RunExtension refl words r.name r.other r.third r.fourth r.number is r.words))
found_of law rows isolated files words before now o asked Wave is read out e =
    let r = pipeline_read files (behind words) o.values read in
    absurd (both (barrel_of words) asked e (six_no_barrel Wave refl words r.name r.other r.third r.fourth r.number is r.words))
found_of law rows isolated files words before now o asked Audit is read out e =
    let r = audit_read files (behind words) o.values read in
    absurd (both (barrel_of words) asked e (six_no_barrel Audit refl words r.name r.other r.third r.fourth r.fifth is r.words))
found_of law rows isolated files words before now o asked RunImage is read out e = absurd (both (barrel_of words) asked e (no_barrel files words RunImage o.values is read (λ n. omega (arith, n))))
found_of law rows isolated files words before now o asked Check is read out e = absurd (both (barrel_of words) asked e (no_barrel files words Check o.values is read (λ n. omega (arith, n))))
found_of law rows isolated files words before now o asked Certify is read out e = absurd (both (barrel_of words) asked e (no_barrel files words Certify o.values is read (λ n. omega (arith, n))))
found_of law rows isolated files words before now o asked Seq is read out e = absurd (both (barrel_of words) asked e (no_barrel files words Seq o.values is read (λ n. omega (arith, n))))
found_of law rows isolated files words before now o asked Assemble is read out e = absurd (both (barrel_of words) asked e (no_barrel files words Assemble o.values is read (λ n. omega (arith, n))))
found_of law rows isolated files words before now o asked Schedule is read out e = absurd (both (barrel_of words) asked e (no_barrel files words Schedule o.values is read (λ n. omega (arith, n))))
found_of law rows isolated files words before now o asked Build is read out e = absurd (both (barrel_of words) asked e (no_barrel files words Build o.values is read (λ n. omega (arith, n))))
found_of law rows isolated files words before now o asked Sweep is read out e = absurd (both (barrel_of words) asked e (no_barrel files words Sweep o.values is read (λ n. omega (arith, n))))
found_of law rows isolated files words before now o asked Bench is read out e = absurd (both (barrel_of words) asked e (no_barrel files words Bench o.values is read (λ n. omega (arith, n))))
found_of law rows isolated files words before now o asked RunInterrupted is read out e = absurd (both (barrel_of words) asked e (no_barrel files words RunInterrupted o.values is read (λ n. omega (arith, n))))

pub barreled : BarrelLaw → RowsLaw → IsolationLaw → (files : Option NamedFiles) (words : List (List ℕ)) (before now : Option (List ℕ)) → OutputAnswer files words before now → (asked : BarrelCommand) → barrel_of words ≡ Some asked → BarrelAnswer files asked before now
barreled law rows isolated files words before now o asked e = found_of law rows isolated files words before now o asked o.command (is_of words o.command o.command_is) o.read o.output e
