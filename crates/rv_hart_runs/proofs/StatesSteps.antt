-- What the steps of a run write is asked for, for a design that stands and an image of words.
use Rattle.std.proofs.Common.{◌≡◌, ◌∙◌, sym, ap, subst, ℕ, ◌<◌, List, Option, Some, None, Bool}
use Rattle.ix_bits.specs.declared.number.Bits.{Bits}
use Rattle.ix_extension.specs.Extensions.{ExtensionTree, view_extension}
use Rattle.ix_plan.specs.declared.design.Design.{Design}
use Rattle.ix_standing.specs.Standing.{Stands}
use Rattle.rv_seq.specs.declared.decoded.Decoded.{Decoded}
use Rattle.rv_seq.specs.Decoding.{decoded_in}
use Rattle.rv_lawful.specs.Settings.{state_trial, run_trial}
use Rattle.rv_lawful.specs.Sight.{asked, KeepsLaw, IsKept}
use Rattle.rv_seq.specs.declared.arch.Arch.{Arch}
use Rattle.rv_seq.specs.declared.answer.StepAnswer.TheVariants.{Done}
use Rattle.rv_seq.specs.declared.commit.Commit.{Commit}
use Rattle.rv_seq.specs.declared.commit.Stop.{Stop}
use Rattle.rv_seq.specs.Commits.{commit_of}
use Rattle.rv_seq.specs.Interrupts.{return_to}
use Rattle.rv_seq.specs.Runs.{run}
use Rattle.rv_seq.specs.States.{state_at}
use Rattle.rv_seq.specs.Steps.{word_at, own_effect, whole_effect, unless_stopped, attempted, of_return, of_decoded, of_word, step}
use Rattle.rv_seq.specs.Stops.{stop_of}
use Rattle.rv_sight.specs.InUnits.{AreInUnits}
use Rattle.rv_sight.specs.Written.{IsAskedFor, WrittenLaw}
use Rattle.rv_tried.specs.Parts.{native, spawned}
use Rattle.rv_tried.specs.Tried.{tried}
use Rattle.rv_tried.specs.Whole.{IsWhole, WholeLaw}
use Rattle.rv_hart_runs.specs.HartRuns.{AreWords}
use Rattle.rv_hart_runs.proofs.StatesWords.{IsSoundState, run_sound}
use Rattle.rv_hart_runs.proofs.StatesParts.{IsSparse, sparse, IsOwnWrite, own_write}
use Rattle.rv_hart_runs.proofs.StatesTargets.{unspawned}

-- a word that is tried with what its instruction sees of a state answers as the step of that state
abbrev pub AnswerLaw : Type 0
AnswerLaw = (x : ExtensionTree) (image : List ℕ) (s : Arch) (word : ℕ) → word_at image s.pc ≡ Some word → (tried x (state_at word s) s.mem (return_to word s.trap) (decoded_in x word)).answer ≡ step x image s

-- what is known of a design over an image of words
pub record IsKnown (d : Design) (image : List ℕ) : Type 0 where
  pub stands : Stands d
  pub words : AreWords image
  pub keeps : KeepsLaw d
  pub written : WrittenLaw d
  pub units : AreInUnits d
  pub whole : WholeLaw
  pub answers : AnswerLaw

-- ---- a step that is done is of the word at its pc

unless_word : (o : Option Stop) (c e : Commit) → unless_stopped o (Done c) ≡ Done e → e.word ≡ c.word
unless_word (Some stop) c e q = cc
unless_word None c e q = let same : c ≡ e = cc in ap (λ (z : Commit). z.word) (sym same)

return_word : (x : ExtensionTree) (s : Arch) (word : ℕ) (back : Option ℕ) (c : Commit) → of_return x s word back ≡ Done c → c.word ≡ word
unfolding of_return commit_of
return_word x s word None c e = cc
return_word x s word (Some at) c e = unless_word None _ c e

decoded_word : (x : ExtensionTree) (s : Arch) (word : ℕ) (o : Option Decoded) (c : Commit) → of_decoded x s word o ≡ Done c → c.word ≡ word
unfolding attempted commit_of
decoded_word x s word None c e = return_word x s word (return_to word s.trap) c e
decoded_word x s word (Some d) c e = unless_word (stop_of d (own_effect x s word d)) (commit_of s.pc word (whole_effect x s word d)) c e

done_word : (x : ExtensionTree) (image : List ℕ) (s : Arch) (c : Commit) → step x image s ≡ Done c → word_at image s.pc ≡ Some c.word
unfolding step
done_word x image s c e = by_word (word_at image s.pc) e where
  by_word : (o : Option ℕ) → of_word x s o ≡ Done c → o ≡ Some c.word
  by_word None q = cc
  by_word (Some word) q = ap (λ w. Some w) (sym (decoded_word x s word (decoded_in x word) c q))

step_at : (x : ExtensionTree) (image : List ℕ) (s : Arch) (o : Option ℕ) → word_at image s.pc ≡ o → step x image s ≡ of_word x s o
unfolding step
step_at x image s o w = ap (λ q. of_word x s q) w

-- ---- the step of a place

module _ (d : Design) (image : List ℕ) (known : IsKnown d image) (p : ℕ) (c : Commit) (done : step (view_extension d.extension) image (run (view_extension d.extension) image p) ≡ Done c) where
  abbrev x : ExtensionTree
  x = view_extension d.extension

  abbrev s : Arch
  s = run x image p

  sound : IsSoundState x s
  sound = let formed = known.stands.well_formed in run_sound formed.0 x image p formed.1

  there : word_at image s.pc ≡ Some c.word
  there = done_word x image s c done

  comes : of_decoded x s c.word (decoded_in x c.word) ≡ Done c
  comes = sym (step_at x image s (Some c.word) there) ∙ done

  asked_for : IsAskedFor (asked d c.word) c
  asked_for = known.written c.word s c sound.wide sound.registers (known.words s.pc c.word there) sound.pc comes

  kept : IsKept (asked d c.word) s c.word c
  kept = known.keeps c.word s c sound.wide sound.registers (known.words s.pc c.word there) sound.pc comes

  -- what it spawns goes to its targets
  pub step_sparse : (own : List Bool) → IsSparse (asked d c.word) (spawned (asked d c.word) own c)
  step_sparse own = sparse (asked d c.word) own c asked_for

  -- what it writes itself goes to what it touches
  pub step_own : (blocks : List (Option Bits)) → IsOwnWrite (asked d c.word) (native (asked d c.word) blocks c)
  step_own blocks = own_write (asked d c.word) blocks c asked_for (unspawned d known.units c.word) kept.customs

  -- both are all
  pub step_whole : (r : ℕ) → r < 16 → IsWhole (run_trial x image None p).own (run_trial x image None p).blocks c r
  step_whole r few =
      subst (λ (o : Option ℕ). IsWhole (state_trial x s o).own (state_trial x s o).blocks c r) (sym there)
      (known.whole x (state_at c.word s) s.mem (return_to c.word s.trap) (decoded_in x c.word) c (known.answers x image s c.word there ∙ done) r few)
