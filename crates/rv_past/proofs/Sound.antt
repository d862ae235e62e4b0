-- Each step of a run is sound.
use Rattle.std.proofs.Common.{◌≡◌, refl, sym, subst, ℕ, zero, suc, List, length, get_or, Option, Some, None}
use Rattle.std.specs.Prelude.{replicate}
use Rattle.ix_bits.specs.declared.number.Bits.{Bits}
use Rattle.ix_eval.specs.Evaluated.{type_of_custom}
use Rattle.ix_extension.specs.Extensions.{ExtensionTree}
use Rattle.rv_seq.specs.declared.decoded.Decoded.{Decoded}
use Rattle.rv_seq.specs.Decoding.{decoded_in}
use Rattle.rv_seq.specs.WordEffects.{over, blocks_effect}
use Rattle.rv_seq.specs.declared.arch.Arch.{Arch}
use Rattle.rv_seq.specs.declared.answer.StepAnswer.TheVariants.{Done}
use Rattle.rv_seq.specs.declared.commit.Stop.{Stop}
use Rattle.rv_seq.specs.States.{inputs_at, state_at}
use Rattle.rv_seq.specs.Commits.{slot_of, commit_of}
use Rattle.rv_seq.specs.Interrupts.{return_to}
use Rattle.rv_seq.specs.Runs.{run_with}
use Rattle.rv_seq.specs.Sound.{IsNowWide, IsSound}
use Rattle.rv_seq.specs.Steps.{word_at, own_effect, whole_effect, return_effect, unless_stopped, attempted, of_return, of_decoded, of_word, step}
use Rattle.rv_seq.specs.Stops.{stop_of}
use Rattle.rv_seq.proofs.Soundness.{sound_commit, sound_return}
use Rattle.rv_tried.specs.Whole.{AreBlocksWide, WideLaw}
use Rattle.rv_lawful.specs.Settings.{state_trial}
use Rattle.rv_past.specs.Past.{SoundSteps}

attempted_sound : (x : ExtensionTree) (s : Arch) (word : ℕ) (d : Decoded) → IsSound x (attempted x s word d)
unfolding attempted
attempted_sound x s word d = by_stop (stop_of d (own_effect x s word d)) refl where
  by_stop : (o : Option Stop) → stop_of d (own_effect x s word d) ≡ o → IsSound x (unless_stopped o (Done (commit_of s.pc word (whole_effect x s word d))))
  by_stop None e =
      sound_commit x d (inputs_at word s) (length x.blocks) s.pc word (own_effect x s word d) (blocks_effect x (inputs_at word s) (length x.blocks)) (whole_effect x s word d)
      (commit_of s.pc word (whole_effect x s word d)) refl refl e refl refl
  by_stop (Some stop) e = tt

back_sound : (x : ExtensionTree) (s : Arch) (word : ℕ) (back : Option ℕ) → IsSound x (of_return x s word back)
unfolding of_return
back_sound x s word None = tt
back_sound x s word (Some at) =
    sound_return x (inputs_at word s) (length x.blocks) s.pc word at (return_effect at) (blocks_effect x (inputs_at word s) (length x.blocks)) (over (return_effect at) (blocks_effect x (inputs_at word s) (length x.blocks)))
    (commit_of s.pc word (over (return_effect at) (blocks_effect x (inputs_at word s) (length x.blocks)))) refl refl refl refl

decoded_sound : (x : ExtensionTree) (s : Arch) (word : ℕ) (o : Option Decoded) → IsSound x (of_decoded x s word o)
decoded_sound x s word None = back_sound x s word (return_to word s.trap)
decoded_sound x s word (Some d) = attempted_sound x s word d

word_sound : (x : ExtensionTree) (s : Arch) (o : Option ℕ) → IsSound x (of_word x s o)
word_sound x s None = tt
word_sound x s (Some word) = decoded_sound x s word (decoded_in x word)

step_sound : (x : ExtensionTree) (image : List ℕ) (s : Arch) → IsSound x (step x image s)
unfolding step
step_sound x image s = word_sound x s (word_at image s.pc)

none_at : (n r : ℕ) → (let blocks : List (Option Bits) = replicate n None in get_or blocks r None ≡ None)
none_at zero r = refl
none_at (suc n) zero = refl
none_at (suc n) (suc r) = none_at n r

trial_wide : WideLaw → (x : ExtensionTree) (s : Arch) (o : Option ℕ) → AreBlocksWide x (state_trial x s o).blocks
trial_wide law x s None = λ r. subst (λ b. IsNowWide (type_of_custom x r).width (slot_of b)) (sym (none_at 16 r)) tt
trial_wide law x s (Some word) = law x (state_at word s) s.mem (return_to word s.trap) (decoded_in x word)

pub all_sound : WideLaw → SoundSteps
all_sound law = record {
  sound = λ x image e p. step_sound x image (run_with x image e p);
  wide = λ x image e p. trial_wide law x (run_with x image e p) (word_at image (run_with x image e p).pc);
}
