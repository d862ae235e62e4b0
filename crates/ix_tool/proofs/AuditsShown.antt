-- What a yes to a trace shows.
use Rattle.std.proofs.Common.{◌≡◌, ℕ, List, [], ◌∷◌, length, Option, Some, None, Bool, true, false, refl, ap, sym, ◌∙◌, subst, arith}
use Rattle.std.specs.Prelude.{codes, if◌then◌else◌}
use Rattle.std.specs.Str.{bytes_eq}
use Rattle.std.proofs.lemmas.Bool.{and_parts, true≢false}
use Rattle.ix_io.specs.Shelf.{NamedFiles}
use Rattle.ix_io.specs.Sink.{Appends}
use Rattle.ix_extension.specs.Extensions.{ExtensionTree}
use Rattle.ix_sheet.specs.declared.sheet.Sheet.{Sheet}
use Rattle.ix_listing.proofs.OneExtension.{is_well_formed}
use Rattle.ix_words.specs.declared.command.Command.{Command}
use Rattle.ix_words.specs.declared.command.Command.TheVariants.{RunImage, Check, Certify, Schedule, Build, Sweep, Seq, Assemble, RunExtension, Bench, Wave, RunInterrupted, Audit, Barrel}
use Rattle.ix_words.specs.Readings.{Reading, extension_read, sheet_read, image_read, waits_read, trace_read}
use Rattle.ix_words.specs.CommandLine.{word_of, is_command, slots_of, behind, AuditCommand, audit_of}
use Rattle.ix_words.specs.WordsRead.{AreRead}
use Rattle.ix_tool.specs.CommandOutput.{IsAuditedRun, IsAuditOutput, IsOutput, OutputAnswer, AuditAnswer}
use Rattle.ix_tool.proofs.Due.{both, one}
use Rattle.ix_tool.proofs.Headlines.{is_of, not_its_word}
use Rattle.ix_tool.proofs.InterruptedShown.{as_many}
use Rattle.ix_tool.proofs.Taking.{pipeline_read, audit_read, barrel_read}

-- ---- the words
abbrev asked_by : List ℕ → List ℕ → List ℕ → List ℕ → List ℕ → AuditCommand
asked_by a b c d e = record { extension = a; sheet = b; image = c; waits = d; trace = e }

audit_words_are : (words : List (List ℕ)) (a b c d e : List ℕ) (command : AuditCommand) → is_command Audit words ≡ true → behind words ≡ a ∷ b ∷ c ∷ d ∷ e ∷ [] → audit_of words ≡ Some command → asked_by a b c d e ≡ command
audit_words_are [] a b c d e command is h k = absurd (true≢false (sym is))
audit_words_are (word ∷ rest) a b c d e command is h k =
    let first = (and_parts _ _ is).0 in
    let named : audit_of (word ∷ rest) ≡ Some (asked_by a b c d e) =
    ap (λ r. audit_of (word ∷ r)) h ∙ ap (λ p. if p then Some (asked_by a b c d e) else None) first in
    one (audit_of (word ∷ rest)) (asked_by a b c d e) command named k

-- fewer words, or more, are no audit
other_count : (word : List ℕ) (rest : List (List ℕ)) → (length rest ≡ 5 → ⊥) → audit_of (word ∷ rest) ≡ None
other_count word [] h = refl
other_count word (a ∷ []) h = refl
other_count word (a ∷ b ∷ []) h = refl
other_count word (a ∷ b ∷ c ∷ []) h = refl
other_count word (a ∷ b ∷ c ∷ d ∷ []) h = refl
other_count word (a ∷ b ∷ c ∷ d ∷ e ∷ []) h = absurd (h refl)
other_count word (a ∷ b ∷ c ∷ d ∷ e ∷ f ∷ rest) h = refl

no_audit : (files : Option NamedFiles) (words : List (List ℕ)) (command : Command) (vs : List Reading) → is_command command words ≡ true → AreRead files (slots_of command) (behind words) vs → (length (slots_of command) ≡ 5 → ⊥) → audit_of words ≡ None
no_audit files [] command vs is read h = absurd (true≢false (sym is))
no_audit files (word ∷ rest) command vs is read h = other_count word rest (λ n. h (sym (as_many files (slots_of command) rest vs read) ∙ n))

-- nor are as many behind another word
none_where : (b : Bool) (command : AuditCommand) → b ≡ false → (if b then Some command else None) ≡ None
none_where true command e = absurd (true≢false e)
none_where false command e = refl

six_no_audit : (command : Command) → bytes_eq (word_of command) (codes "audit") ≡ false → (words : List (List ℕ)) (a b c d e : List ℕ) → is_command command words ≡ true → behind words ≡ a ∷ b ∷ c ∷ d ∷ e ∷ [] → audit_of words ≡ None
six_no_audit command unlike [] a b c d e is h = absurd (true≢false (sym is))
six_no_audit command unlike (word ∷ rest) a b c d e is h =
    ap (λ r. audit_of (word ∷ r)) h
    ∙ none_where (bytes_eq word (codes "audit")) (asked_by a b c d e) (not_its_word word (word_of command) (codes "audit") unlike (and_parts _ _ is).0)

-- ---- the trace
-- what is so of these values is so of others with the same parts
audited_of_parts : (x y : ExtensionTree) (s t : Sheet) (i j w v a b : List ℕ)
    → extension_read x ∷ sheet_read s ∷ image_read i ∷ waits_read w ∷ trace_read a ∷ [] ≡ extension_read y ∷ sheet_read t ∷ image_read j ∷ waits_read v ∷ trace_read b ∷ []
    → IsAuditedRun y t j v b → IsAuditedRun x s i w a
audited_of_parts x y s t i j w v a b e h =
    let p : x ≡ y = cc in
    let q : s ≡ t = cc in
    let r : i ≡ j = cc in
    let u : w ≡ v = cc in
    let z : a ≡ b = cc in
    subst (λ k. IsAuditedRun k s i w a) (sym p) (subst (λ k. IsAuditedRun y k i w a) (sym q) (subst (λ k. IsAuditedRun y t k w a) (sym r) (subst (λ k. IsAuditedRun y t j k a) (sym u) (subst (λ k. IsAuditedRun y t j v k) (sym z) h))))

answered : (files : Option NamedFiles) (words : List (List ℕ)) (before now : Option (List ℕ)) (o : OutputAnswer files words before now) (asked : AuditCommand) → is_command Audit words ≡ true → AreRead files (slots_of Audit) (behind words) o.values → IsAuditOutput o.values o.text → audit_of words ≡ Some asked → AuditAnswer files asked before now
answered files words before now o asked is read there e =
    let r = audit_read files (behind words) o.values read in
    subst (λ k. AuditAnswer files k before now) (audit_words_are words r.name r.other r.third r.fourth r.fifth asked is r.words e)
    (record {
      bytes = r.bytes;
      extension = r.extension;
      sheet_bytes = r.sheet_bytes;
      sheet = r.sheet;
      program = r.program;
      image = r.image;
      waits_bytes = r.waits_bytes;
      waits = r.waits;
      trace = r.trace;
      file = r.file;
      elaborates = r.elaborates;
      well_formed = is_well_formed r.bytes r.extension r.elaborates;
      sheet_file = r.sheet_file;
      sheet_read = r.sheet_is;
      image_file = r.program_file;
      image_read = r.text;
      waits_file = r.waits_file;
      waits_read = r.waits_are;
      trace_file = r.trace_file;
      audited = audited_of_parts r.extension there.extension r.sheet there.sheet r.image there.image r.waits there.waits r.trace there.trace (sym r.values ∙ there.values_are) there.audited;
      written = subst (λ t. Appends before now t) there.text_is o.written;
    })

found_of : (files : Option NamedFiles) (words : List (List ℕ)) (before now : Option (List ℕ)) (o : OutputAnswer files words before now) (asked : AuditCommand) (command : Command) → is_command command words ≡ true → AreRead files (slots_of command) (behind words) o.values → IsOutput command o.values o.text → audit_of words ≡ Some asked → AuditAnswer files asked before now
found_of files words before now o asked Audit is read out e = answered files words before now o asked is read out e
found_of files words before now o asked RunExtension is read out e =
    let r = pipeline_read files (behind words) o.values read in
    absurd (both (audit_of words) asked e (six_no_audit RunExtension refl words r.name r.other r.third r.fourth r.number is r.words))
found_of files words before now o asked Wave is read out e =
    let r = pipeline_read files (behind words) o.values read in
    absurd (both (audit_of words) asked e (six_no_audit Wave refl words r.name r.other r.third r.fourth r.number is r.words))
found_of files words before now o asked Barrel is read out e =
    let r = barrel_read files (behind words) o.values read in
    absurd (both (audit_of words) asked e (six_no_audit Barrel refl words r.name r.other r.third r.fourth r.number is r.words))
found_of files words before now o asked RunImage is read out e = absurd (both (audit_of words) asked e (no_audit files words RunImage o.values is read (λ n. omega (arith, n))))
found_of files words before now o asked Check is read out e = absurd (both (audit_of words) asked e (no_audit files words Check o.values is read (λ n. omega (arith, n))))
found_of files words before now o asked Certify is read out e = absurd (both (audit_of words) asked e (no_audit files words Certify o.values is read (λ n. omega (arith, n))))
found_of files words before now o asked Seq is read out e = absurd (both (audit_of words) asked e (no_audit files words Seq o.values is read (λ n. omega (arith, n))))
found_of files words before now o asked Assemble is read out e = absurd (both (audit_of words) asked e (no_audit files words Assemble o.values is read (λ n. omega (arith, n))))
found_of files words before now o asked Schedule is read out e = absurd (both (audit_of words) asked e (no_audit files words Schedule o.values is read (λ n. omega (arith, n))))
found_of files words before now o asked Build is read out e = absurd (both (audit_of words) asked e (no_audit files words Build o.values is read (λ n. omega (arith, n))))
found_of files words before now o asked Sweep is read out e = absurd (both (audit_of words) asked e (no_audit files words Sweep o.values is read (λ n. omega (arith, n))))
found_of files words before now o asked Bench is read out e = absurd (both (audit_of words) asked e (no_audit files words Bench o.values is read (λ n. omega (arith, n))))
found_of files words before now o asked RunInterrupted is read out e = absurd (both (audit_of words) asked e (no_audit files words RunInterrupted o.values is read (λ n. omega (arith, n))))

pub audited : (files : Option NamedFiles) (words : List (List ℕ)) (before now : Option (List ℕ)) → OutputAnswer files words before now → (asked : AuditCommand) → audit_of words ≡ Some asked → AuditAnswer files asked before now
audited files words before now o asked e = found_of files words before now o asked o.command (is_of words o.command o.command_is) o.read o.output e
