-- A word that is tried at the pc of a state is the step of that state.
use Rattle.std.proofs.Common.{◌≡◌, ◌∙◌, refl, sym, ap, ℕ, List, Option, Some, None, false}
use Rattle.ix_extension.specs.Extensions.{ExtensionTree}
use Rattle.rv_seq.specs.declared.decoded.Decoded.{Decoded}
use Rattle.rv_seq.specs.Decoding.{decoded_in}
use Rattle.rv_seq.specs.declared.arch.Arch.{Arch}
use Rattle.rv_seq.specs.declared.answer.StepAnswer.TheVariants.{Stopped}
use Rattle.rv_seq.specs.declared.commit.Stop.TheVariants.{Fetch}
use Rattle.rv_seq.specs.States.{state_at}
use Rattle.rv_seq.specs.Interrupts.{return_to}
use Rattle.rv_seq.specs.Steps.{word_at, of_word, step}
use Rattle.rv_lawful.specs.Settings.{does_access, word_accesses, state_trial}
use Rattle.rv_tried.specs.declared.trial.Trial.{Trial}
use Rattle.rv_tried.specs.Tried.{tried, tried_instruction, tried_return, no_customs, marked}
use Rattle.rv_past.specs.declared.step.Step.{Step}
use Rattle.rv_past.specs.Steps.{IsStepOf}

pub nowhere_is : (x : ExtensionTree) (image : List ℕ) (s : Arch) (count : ℕ) (one : Step) → word_at image s.pc ≡ None → one.pc ≡ s.pc → one.answer ≡ Stopped Fetch → one.accesses ≡ false → one.before ≡ count
    → one.blocks ≡ no_customs → one.own ≡ marked no_customs → IsStepOf x image s count one
unfolding step
nowhere_is x image s count one none pc answer accesses before blocks own = record {
  pc = pc;
  answer = answer ∙ sym (ap (λ o. of_word x s o) none);
  accesses = accesses ∙ sym (ap (λ o. word_accesses x s o) none);
  before = before;
  blocks = blocks ∙ sym (ap (λ o. (state_trial x s o).blocks) none);
  own = own ∙ sym (ap (λ o. (state_trial x s o).own) none);
}

-- it accesses the memory where the step does
access_is : (x : ExtensionTree) (s : Arch) (word : ℕ) (back : Option ℕ) (o : Option Decoded) → (tried x (state_at word s) s.mem back o).accesses ≡ does_access x s word o
unfolding tried tried_instruction tried_return
access_is x s word None None = refl
access_is x s word (Some at) None = refl
access_is x s word back (Some d) = refl

pub found_is : (x : ExtensionTree) (image : List ℕ) (s : Arch) (word count : ℕ) (one : Step) (trial : Trial) → word_at image s.pc ≡ Some word → trial ≡ tried x (state_at word s) s.mem (return_to word s.trap) (decoded_in x word)
    → (tried x (state_at word s) s.mem (return_to word s.trap) (decoded_in x word)).answer ≡ step x image s → one.pc ≡ s.pc → one.answer ≡ trial.answer → one.accesses ≡ trial.accesses → one.before ≡ count
    → one.blocks ≡ trial.blocks → one.own ≡ trial.own → IsStepOf x image s count one
found_is x image s word count one trial found is law pc answer accesses before blocks own = record {
  pc = pc;
  answer = answer ∙ ap (λ (t : Trial). t.answer) is ∙ law;
  accesses = accesses ∙ ap (λ (t : Trial). t.accesses) is ∙ access_is x s word (return_to word s.trap) (decoded_in x word) ∙ sym (ap (λ o. word_accesses x s o) found);
  before = before;
  blocks = blocks ∙ ap (λ (t : Trial). t.blocks) is ∙ sym (ap (λ o. (state_trial x s o).blocks) found);
  own = own ∙ ap (λ (t : Trial). t.own) is ∙ sym (ap (λ o. (state_trial x s o).own) found);
}
