-- One step more of a run.
use Rattle.std.proofs.Common.{◌≡◌, ◌∙◌, refl, sym, ap, ℕ, zero, suc, ◌+◌, ◌≤◌, List, [], ◌∷◌, ◌++◌, length, Option, None, Bool, true, false, arith}
use Rattle.std.specs.Prelude.{if◌then◌else◌}
use Rattle.std.proofs.lemmas.List.{length-append}
use Rattle.ix_bits.specs.declared.number.Bits.{Bits}
use Rattle.ix_extension.specs.Extensions.{ExtensionTree}
use Rattle.rv_seq.specs.WordEffects.{AreWide}
use Rattle.rv_seq.specs.declared.arch.Arch.{Arch}
use Rattle.rv_seq.specs.declared.arch.TrapState.{TrapState}
use Rattle.rv_seq.specs.declared.answer.StepAnswer.{StepAnswer}
use Rattle.rv_seq.specs.declared.answer.StepAnswer.TheVariants.{Done, Stopped}
use Rattle.rv_seq.specs.declared.commit.Commit.{Commit}
use Rattle.rv_seq.specs.Commits.{applied}
use Rattle.rv_seq.specs.Interrupts.{resumed, enabled_again, is_return}
use Rattle.rv_seq.specs.Runs.{run, run_with}
use Rattle.rv_seq.specs.States.{first}
use Rattle.rv_seq.specs.Steps.{step, after, word_at}
use Rattle.rv_lawful.specs.Settings.{Course, course_of, accesses_before, word_accesses, state_trial}
use Rattle.rv_past.specs.declared.step.Step.{Step}
use Rattle.rv_past.specs.declared.steps.Steps.{Steps}
use Rattle.rv_past.specs.Steps.{behind, IsStepOf, step_at, first_steps, AreSteps}

pub none_so_far : (x : ExtensionTree) (image : List ℕ) (s : Steps) → s.steps ≡ [] → s.ahead ≡ first x → s.accesses ≡ 0 → AreWide x s.ahead.custom → AreSteps x image s
unfolding first_steps run_with accesses_before
none_so_far x image s steps ahead accesses wide = record {
  steps = steps ∙ sym (ap (λ n. first_steps (course_of x image None) n) long);
  ahead = ahead ∙ sym (ap (λ n. run x image n) long);
  accesses = accesses ∙ sym (ap (λ n. accesses_before (course_of x image None) n) long);
  wide = wide;
} where
  long : length s.steps ≡ 0
  long = ap (λ (l : List Step). length l) steps

-- without an interrupt line there is no trap state

same_trap : (c : Commit) (s : Arch) → (applied c s).trap ≡ s.trap
unfolding applied
same_trap c s = refl

resumed_none : (b : Bool) (s : Arch) → s.trap ≡ None → resumed b s ≡ s
resumed_none false s e = refl
resumed_none true s e = ap (λ t. trapped t) (ap (λ t. enabled_again t) e ∙ sym e) where
  trapped : Option TrapState → Arch
  trapped t = record { pc = s.pc; x = s.x; custom = s.custom; mem = s.mem; trap = t }

after_is : (x : ExtensionTree) (a : StepAnswer) (s : Arch) → s.trap ≡ None → after x s a ≡ behind a s
after_is x (Done c) s e = resumed_none (is_return x c.word) (applied c s) (same_trap c s ∙ e)
after_is x (Stopped stop) s e = refl

behind_trap : (a : StepAnswer) (s : Arch) → (behind a s).trap ≡ s.trap
behind_trap (Done c) s = same_trap c s
behind_trap (Stopped stop) s = refl

first_trap : (x : ExtensionTree) → (first x).trap ≡ None
unfolding first
first_trap x = refl

no_trap : (x : ExtensionTree) (image : List ℕ) (n : ℕ) → (run x image n).trap ≡ None
unfolding run_with
no_trap x image zero = first_trap x
no_trap x image (suc n) =
    ap (λ (s : Arch). s.trap) (after_is x (step x image (run x image n)) (run x image n) (no_trap x image n))
    ∙ behind_trap (step x image (run x image n)) (run x image n)
    ∙ no_trap x image n

pub run_more : (x : ExtensionTree) (image : List ℕ) (n : ℕ) → run x image (suc n) ≡ behind (step x image (run x image n)) (run x image n)
unfolding run_with
run_more x image n = after_is x (step x image (run x image n)) (run x image n) (no_trap x image n)

-- a step by its parts
parts : ℕ → StepAnswer → Bool → ℕ → List (Option Bits) → List Bool → Step
parts pc answer accesses before blocks own = record { pc = pc; answer = answer; accesses = accesses; before = before; blocks = blocks; own = own }

step_is : (x : ExtensionTree) (image : List ℕ) (s : Arch) (n count : ℕ) (one : Step) → s ≡ run x image n → count ≡ accesses_before (course_of x image None) n → IsStepOf x image s count one → one ≡ step_at (course_of x image None) n
unfolding parts
step_is x image s n count one e accesses h =
    let c = course_of x image None in
    ap (λ p. parts p one.answer one.accesses one.before one.blocks one.own) (h.pc ∙ ap (λ (t : Arch). t.pc) e)
    ∙ ap (λ a. parts (c.pc n) a one.accesses one.before one.blocks one.own) (h.answer ∙ ap (λ (t : Arch). step x image t) e)
    ∙ ap (λ a. parts (c.pc n) (c.answer n) a one.before one.blocks one.own) (h.accesses ∙ ap (λ (t : Arch). word_accesses x t (word_at image t.pc)) e)
    ∙ ap (λ m. parts (c.pc n) (c.answer n) (c.accesses n) m one.blocks one.own) (h.before ∙ accesses)
    ∙ ap (λ l. parts (c.pc n) (c.answer n) (c.accesses n) (accesses_before c n) l one.own) (h.blocks ∙ ap (λ (t : Arch). (state_trial x t (word_at image t.pc)).blocks) e)
    ∙ ap (λ l. parts (c.pc n) (c.answer n) (c.accesses n) (accesses_before c n) (c.blocks n) l) (h.own ∙ ap (λ (t : Arch). (state_trial x t (word_at image t.pc)).own) e)

count_more : (c : Course) (n count : ℕ) (b : Bool) → b ≡ c.accesses n → count ≡ (if b then accesses_before c n + 1 else accesses_before c n) → count ≡ accesses_before c (suc n)
unfolding accesses_before
count_more c n count b e h = h ∙ ap (λ d. if d then accesses_before c n + 1 else accesses_before c n) e ∙ by_case (c.accesses n) where
  by_case : (d : Bool) → (if d then accesses_before c n + 1 else accesses_before c n) ≡ (if d then suc (accesses_before c n) else accesses_before c n)
  by_case true = omega arith
  by_case false = refl

pub one_more : (x : ExtensionTree) (image : List ℕ) (s new : Steps) (one : Step) → AreSteps x image s → IsStepOf x image s.ahead s.accesses one → new.steps ≡ s.steps ++ one ∷ []
    → new.accesses ≡ (if one.accesses then s.accesses + 1 else s.accesses) → new.ahead ≡ behind one.answer s.ahead → AreWide x new.ahead.custom → AreSteps x image new
unfolding first_steps
one_more x image s new one h is steps accesses ahead wide =
    let c = course_of x image None in
    let n = length s.steps in
    let same = step_is x image s.ahead n s.accesses one h.ahead h.accesses is in
    let long : length new.steps ≡ suc n = ap (λ (l : List Step). length l) steps ∙ length-append s.steps (one ∷ []) ∙ one_longer n in
    record {
      steps = steps ∙ ap (λ l. l ++ one ∷ []) h.steps ∙ ap (λ o. first_steps c n ++ o ∷ []) same ∙ sym (ap (λ m. first_steps c m) long);
      ahead = ahead ∙ ap (λ a. behind a s.ahead) (is.answer ∙ ap (λ (t : Arch). step x image t) h.ahead) ∙ ap (λ t. behind (step x image (run x image n)) t) h.ahead ∙ sym (run_more x image n) ∙ sym (ap (λ m. run x image m) long);
      accesses = count_more c n new.accesses one.accesses (ap (λ (o : Step). o.accesses) same) (accesses ∙ ap (λ m. if one.accesses then m + 1 else m) h.accesses) ∙ sym (ap (λ m. accesses_before c m) long);
      wide = wide;
    } where
      one_longer : (m : ℕ) → m + 1 ≡ suc m
      one_longer m = omega arith

-- no more accesses than steps
pub few_accesses : (c : Course) (n : ℕ) → accesses_before c n ≤ n
unfolding accesses_before
few_accesses c zero = omega arith
few_accesses c (suc n) = by_case (c.accesses n) (few_accesses c n) where
  by_case : (b : Bool) → accesses_before c n ≤ n → (if b then suc (accesses_before c n) else accesses_before c n) ≤ suc n
  by_case true h = omega (arith, h)
  by_case false h = omega (arith, h)
