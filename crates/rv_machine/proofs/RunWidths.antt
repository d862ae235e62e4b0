-- The custom registers of a run's states have patterns of their widths.
use Rattle.std.specs.List.{list_any}
use Rattle.std.specs.Prelude.{if◌then◌else◌, nat_eq}
use Rattle.std.proofs.Common.{ℕ, zero, suc, List, length, Option, Some, None, Bool, true, false}
use Rattle.ix_tree.specs.TypedTrees.{TypedTextTree}
use Rattle.ix_extension.specs.Extensions.{ExtensionTree}
use Rattle.ix_extension.specs.WellFormed.{IsOf}
use Rattle.ix_eval.specs.declared.effect.Effect.{Effect}
use Rattle.rv_seq.specs.declared.decoded.Decoded.{Decoded}
use Rattle.rv_seq.specs.Decoding.{decoded_in}
use Rattle.rv_seq.specs.WordEffects.{over, blocks_effect, AreWide}
use Rattle.rv_seq.specs.declared.arch.Arch.{Arch}
use Rattle.rv_seq.specs.declared.answer.StepAnswer.TheVariants.{Done}
use Rattle.rv_seq.specs.declared.commit.Stop.{Stop}
use Rattle.rv_seq.specs.States.{first, inputs_at}
use Rattle.rv_seq.specs.Commits.{commit_of, applied, slots_of}
use Rattle.rv_seq.specs.Steps.{word_at, return_effect, of_return, attempted, of_decoded, of_word, step, after, unless_stopped, whole_effect, own_effect}
use Rattle.rv_seq.specs.Stops.{stop_of}
use Rattle.rv_seq.specs.Interrupts.{return_to, diverted}
use Rattle.rv_seq.specs.Runs.{Entries, start, entered, run_with}
use Rattle.rv_seq.proofs.Wide.{AreFit, wide_first, whole_fit, return_fit, slots_wide, wide_after}

written_wide : (x : ExtensionTree) (s : Arch) (word : ℕ) (e : Effect) → AreWide x s.custom → AreFit x e.custom → AreWide x (applied (commit_of s.pc word e) s).custom
unfolding applied commit_of
written_wide x s word e h w = wide_after x s.custom (slots_of e.custom) h (slots_wide x e.custom w)

attempted_wide : (x : ExtensionTree) (s : Arch) (word : ℕ) (e : Effect) (stop : Option Stop) → AreWide x s.custom → AreFit x e.custom → AreWide x (after x s (unless_stopped stop (Done (commit_of s.pc word e)))).custom
attempted_wide x s word e None h w = written_wide x s word e h w
attempted_wide x s word e (Some stop) h w = h

unknown_wide : (x : ExtensionTree) (s : Arch) (word : ℕ) (back : Option ℕ) → AreWide x s.custom → AreWide x (after x s (of_return x s word back)).custom
unfolding of_return
unknown_wide x s word None h = h
unknown_wide x s word (Some at) h =
    written_wide x s word (over (return_effect at) (blocks_effect x (inputs_at word s) (length x.blocks))) h (return_fit x at (inputs_at word s) (length x.blocks))

decoded_wide : (x : ExtensionTree) (s : Arch) (word : ℕ) (o : Option Decoded) → AreWide x s.custom → AreWide x (after x s (of_decoded x s word o)).custom
unfolding attempted
decoded_wide x s word None h = unknown_wide x s word (return_to word s.trap) h
decoded_wide x s word (Some d) h = attempted_wide x s word (whole_effect x s word d) (stop_of d (own_effect x s word d)) h (whole_fit x d (inputs_at word s) (length x.blocks))

fetched_wide : (x : ExtensionTree) (s : Arch) (o : Option ℕ) → AreWide x s.custom → AreWide x (after x s (of_word x s o)).custom
fetched_wide x s None h = h
fetched_wide x s (Some word) h = decoded_wide x s word (decoded_in x word) h

step_wide : (x : ExtensionTree) (image : List ℕ) (s : Arch) → AreWide x s.custom → AreWide x (after x s (step x image s)).custom
unfolding step
step_wide x image s h = fetched_wide x s (word_at image s.pc) h

first_is_wide : (t : TypedTextTree) (x : ExtensionTree) → IsOf t x → AreWide x (first x).custom
unfolding first
first_is_wide t x h = wide_first t x h

-- the entry of the handler keeps the custom registers
entered_wide : (x : ExtensionTree) (e : Option Entries) (p : ℕ) (s : Arch) → AreWide x s.custom → AreWide x (entered e p s).custom
unfolding diverted
entered_wide x None p s h = h
entered_wide x (Some e) p s h = by_entry (list_any (λ q. nat_eq q p) e.places) where
  by_entry : (b : Bool) → AreWide x (if b then diverted e.handler s else s).custom
  by_entry true = h
  by_entry false = h

-- in each state of a run the custom registers have patterns of their widths
pub run_wide : (t : TypedTextTree) (x : ExtensionTree) (image : List ℕ) (e : Option Entries) (p : ℕ) → IsOf t x → AreWide x (run_with x image e p).custom
unfolding run_with
run_wide t x image e zero h = entered_wide x e 0 (start x e) (started e) where
  started : (e : Option Entries) → AreWide x (start x e).custom
  started None = first_is_wide t x h
  started (Some s) = first_is_wide t x h
run_wide t x image e (suc p) h = entered_wide x e (suc p) (after x (run_with x image e p) (step x image (run_with x image e p))) (step_wide x image (run_with x image e p) (run_wide t x image e p h))
