-- What the tool does, from what its parts do.
use Rattle.std.proofs.Common.{◌≡◌, ℕ, ◌-◌, List, [], ◌∷◌, length, drop, take, Option, Some, None, refl, ap, ◌∙◌, subst, arith, inl, inr}
use Rattle.std.specs.Prelude.{codes, String}
use Rattle.std.specs.declared.alloc.Global.{Global}
use Rattle.std.proofs.lemmas.List.{take_all}
use Rattle.ix_io.specs.Shelf.{NamedFiles}
use Rattle.ix_words.specs.declared.status.Status.{Status}
use Rattle.ix_words.specs.declared.status.Status.TheVariants.{Usage}
use Rattle.ix_words.specs.declared.command.Command.{Command}
use Rattle.ix_words.specs.declared.command.Slot.{Slot}
use Rattle.ix_words.specs.Readings.{Reading}
use Rattle.ix_words.specs.CommandLine.{command_of, slots_of, behind, bytes_of}
use Rattle.ix_words.specs.WordsRead.{AreRead, IsFirstRefused}
use Rattle.ix_tool.specs.CommandOutput.{Writes, Outcome, Answered, due_usage, due_file, due_answer}
use Rattle.ix_tool.proofs.Due.{both}

pub none_of : {A : Type 0} (o : Option A) → ((a : A) → o ≡ Some a → ⊥) → o ≡ None
none_of None unlike = refl
none_of (Some a) unlike = absurd (unlike a refl)

-- the words behind the first, as the program passes them
pub rest_of : (words : List (String Global)) → bytes_of (take (length words - 1) (drop 1 words)) ≡ behind (bytes_of words)
rest_of [] = refl
rest_of (word ∷ words) =
    let e : length (word ∷ words) - 1 ≡ length words = omega arith in
    ap (λ n. bytes_of (take n words)) e ∙ ap bytes_of (take_all (length words) words (omega arith))

pub usage_outcome : (files : Option NamedFiles) (R : List ℕ → Type 0) (words : List (List ℕ)) (before now : Option (List ℕ)) (faults faults_now : ℕ) (result : Status) → command_of words ≡ None → Writes Usage (codes "refused Usage\n") before now faults faults_now result → Outcome files R words before now faults faults_now result
usage_outcome files R words before now faults faults_now result none w = inr (Usage, codes "refused Usage\n", due_usage none, w)

pub answered_outcome : (files : Option NamedFiles) (R : List ℕ → Type 0) (words rest : List (List ℕ)) (slots : List Slot) (command : Command) (vs : List Reading) (before now : Option (List ℕ)) (faults faults_now : ℕ) (result : Status) → command_of words ≡ Some command → slots ≡ slots_of command → rest ≡ behind words
    → AreRead files slots rest vs → Answered command vs before now faults faults_now result → Outcome files R words before now faults faults_now result
answered_outcome files R words rest slots command vs before now faults faults_now result is s r read (inl memory) = inl (λ none. both (command_of words) command is none, memory.0, memory.1)
answered_outcome files R words rest slots command vs before now faults faults_now result is s r read (inr out) =
    inr (out.0, out.1, due_answer command vs out.0 out.1 is (subst (λ l. AreRead files l (behind words) vs) s (subst (λ l. AreRead files slots l vs) r read)) out.2, out.3)

pub refused_outcome : (files : Option NamedFiles) (R : List ℕ → Type 0) (words rest : List (List ℕ)) (slots : List Slot) (command : Command) (status : Status) (line shown : List ℕ) (before now : Option (List ℕ)) (faults faults_now : ℕ) (result : Status) → command_of words ≡ Some command → slots ≡ slots_of command → rest ≡ behind words
    → IsFirstRefused files R slots rest status line → shown ≡ line → Writes status shown before now faults faults_now result → Outcome files R words before now faults faults_now result
refused_outcome files R words rest slots command status line shown before now faults faults_now result is s r first e w =
    inr (
      status,
      line,
      due_file command status line is (subst (λ l. IsFirstRefused files R l (behind words) status line) s (subst (λ l. IsFirstRefused files R slots l status line) r first)),
      subst (λ b. Writes status b before now faults faults_now result) e w,
    )
