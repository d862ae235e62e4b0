-- A word that is tried with what it sees of a state comes to what the step of that state comes to.
use Rattle.std.proofs.Common.{◌≡◌, ◌∙◌, sym, ap, refl, ℕ, List, Option, Some, None}
use Rattle.ix_extension.specs.Extensions.{ExtensionTree}
use Rattle.rv_seq.specs.declared.decoded.Decoded.{Decoded}
use Rattle.rv_seq.specs.Decoding.{decoded_in}
use Rattle.rv_seq.specs.declared.arch.Arch.{Arch}
use Rattle.rv_seq.specs.States.{state_at}
use Rattle.rv_seq.specs.Interrupts.{return_to}
use Rattle.rv_seq.specs.Steps.{word_at, attempted, of_return, of_decoded, of_word, step}
use Rattle.rv_tried.specs.Tried.{tried_instruction, tried_return, tried_unknown, tried}

tried_unknown_word : (x : ExtensionTree) (s : Arch) (word : ℕ) (back : Option ℕ) → (tried_unknown x (state_at word s) s.mem back).answer ≡ of_return x s word back
unfolding tried_return of_return
tried_unknown_word x s word None = refl
tried_unknown_word x s word (Some at) = refl

tried_decoded : (x : ExtensionTree) (s : Arch) (word : ℕ) (o : Option Decoded) → (tried x (state_at word s) s.mem (return_to word s.trap) o).answer ≡ of_decoded x s word o
unfolding tried tried_instruction attempted
tried_decoded x s word None = tried_unknown_word x s word (return_to word s.trap)
tried_decoded x s word (Some d) = refl

step_of : (x : ExtensionTree) (image : List ℕ) (s : Arch) → step x image s ≡ of_word x s (word_at image s.pc)
unfolding step
step_of x image s = refl

pub tried_step : (x : ExtensionTree) (image : List ℕ) (s : Arch) (word : ℕ) → word_at image s.pc ≡ Some word → (tried x (state_at word s) s.mem (return_to word s.trap) (decoded_in x word)).answer ≡ step x image s
tried_step x image s word e = tried_decoded x s word (decoded_in x word) ∙ sym (step_of x image s ∙ ap (λ (o : Option ℕ). of_word x s o) e)
