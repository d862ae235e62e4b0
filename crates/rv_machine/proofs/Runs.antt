-- Facts on the run with an extension.
use Rattle.std.proofs.Common.{◌≡◌, ◌≢◌, ℕ, zero, suc, ◌+◌, ◌<◌, ◌≤◌, List, get_or, Option, Some, None, Bool, true, false, refl, sym, ap, ◌∙◌, subst, arith, inl, inr}
use Rattle.std.specs.Prelude.{if◌then◌else◌, slice_index}
use Rattle.std.proofs.lemmas.List.{get_or_past}
use Rattle.std.proofs.lemmas.Bool.{cases_lt}
use Rattle.ix_bits.specs.declared.number.Bits.{Bits}
use Rattle.ix_eval.proofs.Tables.{table_at}
use Rattle.ix_extension.specs.Extensions.{ExtensionTree}
use Rattle.rv_seq.specs.Decoding.{decoded_in}
use Rattle.rv_seq.specs.WordEffects.{AreWide}
use Rattle.rv_seq.specs.declared.arch.Arch.{Arch}
use Rattle.rv_seq.specs.declared.answer.StepAnswer.{StepAnswer}
use Rattle.rv_seq.specs.declared.answer.StepAnswer.TheVariants.{Done, Stopped}
use Rattle.rv_seq.specs.declared.commit.Commit.{Commit}
use Rattle.rv_seq.specs.declared.commit.Slot.TheVariants.{Absent}
use Rattle.rv_seq.specs.declared.commit.Stop.{Stop}
use Rattle.rv_seq.specs.Commits.{applied, with_slot, with_customs}
use Rattle.rv_seq.specs.States.{zero_bit, state_at}
use Rattle.rv_seq.specs.States.{first as first_state}
use Rattle.rv_seq.specs.Steps.{word_at, of_word, of_decoded, after, step}
use Rattle.rv_seq.specs.Interrupts.{return_to, is_return, resumed, diverted}
use Rattle.rv_seq.specs.Runs.{start, run_with, entered}
use Rattle.rv_engine.specs.Settings.{Setting, shape_of, tree_of}
use Rattle.rv_tried.specs.declared.trial.Trial.{Trial}
use Rattle.rv_tried.specs.Tried.{tried}
use Rattle.rv_tried.specs.Whole.{IsWhole, AreBlocksWide}
use Rattle.rv_lawful.specs.Settings.{entries_at, does_access, word_accesses, state_trial, run_trial}
use Rattle.rv_lawful.specs.Outstanding.{is_register}
use Rattle.rv_lawful.specs.Sight.{asked, IsKept}
use Rattle.rv_machine.specs.Owing.{judged}
use Rattle.rv_machine.specs.Placed.{run, entries_of, is_entry, NonePast, IsReady}
use Rattle.rv_machine.proofs.RunWords.{return_kept}

-- what the step at a place comes to
abbrev pub answer : Setting → ℕ → StepAnswer
answer k p = (judged k).course.answer p

-- where the run does not go to the handler, it goes on with the step
pub not_entered : (k : Setting) (p : ℕ) (s : Arch) → is_entry k p ≡ false → entered (entries_of k) p s ≡ s
not_entered k p s e = by_lines k.lines where
  by_lines : (lines : Option (List ℕ)) → entered (entries_at (shape_of k).trap lines k.places) p s ≡ s
  by_lines None = refl
  by_lines (Some l) = ap (λ b. if b then diverted (shape_of k).trap s else s) e

-- what the entry of the handler keeps
pub entered_keeps : (k : Setting) (p : ℕ) (P : Arch → Type 0) (s : Arch) → ((t : Arch) → P t → P (diverted (shape_of k).trap t)) → P s → P (entered (entries_of k) p s)
entered_keeps k p P s keeps h = by_lines k.lines where
  by_entry : (b : Bool) → P (if b then diverted (shape_of k).trap s else s)
  by_entry true = keeps s h
  by_entry false = h

  by_lines : (lines : Option (List ℕ)) → P (entered (entries_at (shape_of k).trap lines k.places) p s)
  by_lines None = h
  by_lines (Some l) = by_entry (is_entry k p)

next_run : (k : Setting) (p : ℕ) → run k (suc p) ≡ entered (entries_of k) (suc p) (after (tree_of k) (run k p) (answer k p))
unfolding run_with
next_run k p = refl

pub run_suc : (k : Setting) (p : ℕ) → is_entry k (suc p) ≡ false → run k (suc p) ≡ after (tree_of k) (run k p) (answer k p)
run_suc k p e = next_run k p ∙ not_entered k (suc p) (after (tree_of k) (run k p) (answer k p)) e

pub step_at : (x : ExtensionTree) (image : List ℕ) (s : Arch) (o : Option ℕ) → word_at image s.pc ≡ o → step x image s ≡ of_word x s o
unfolding step
step_at x image s o w = ap (λ q. of_word x s q) w

-- at a place with a word the step is that of the word
pub step_word : (k : Setting) (p word : ℕ) → word_at k.image (run k p).pc ≡ Some word → answer k p ≡ of_decoded (tree_of k) (run k p) word (decoded_in (tree_of k) word)
step_word k p word w = step_at (tree_of k) k.image (run k p) (Some word) w

-- and it accesses the memory where that does
pub access_word : (k : Setting) (p word : ℕ) → word_at k.image (run k p).pc ≡ Some word → (judged k).course.accesses p ≡ does_access (tree_of k) (run k p) word (decoded_in (tree_of k) word)
access_word k p word w = ap (λ o. word_accesses (tree_of k) (run k p) o) w

-- and it comes to what the word is tried to with what the state shows of it
pub trial_word : (k : Setting) (p word : ℕ) → word_at k.image (run k p).pc ≡ Some word → run_trial (tree_of k) k.image (entries_of k) p ≡ tried (tree_of k) (state_at word (run k p)) (run k p).mem (return_to word (run k p).trap) (decoded_in (tree_of k) word)
trial_word k p word w = ap (λ o. state_trial (tree_of k) (run k p) o) w

-- so it answers as the step does
same_answer : (k : Setting) (ready : IsReady k) (p word : ℕ) → word_at k.image (run k p).pc ≡ Some word → (tried (tree_of k) (state_at word (run k p)) (run k p).mem (return_to word (run k p).trap) (decoded_in (tree_of k) word)).answer ≡ answer k p
same_answer k ready p word w = ready.answers (tree_of k) k.image (run k p) word w

-- the parts of its record are the whole of it
pub whole_word : (k : Setting) (ready : IsReady k) (p word : ℕ) (c : Commit) (reg : ℕ) → word_at k.image (run k p).pc ≡ Some word → answer k p ≡ Done c → reg < 16 → IsWhole ((judged k).course.own p) ((judged k).course.blocks p) c reg
whole_word k ready p word c reg w h lt =
    subst (λ (u : Trial). IsWhole u.own u.blocks c reg) (sym (trial_word k p word w))
    (ready.whole (tree_of k) (state_at word (run k p)) (run k p).mem (return_to word (run k p).trap) (decoded_in (tree_of k) word) c (same_answer k ready p word w ∙ h) reg lt)

-- and what the blocks write has its widths
pub blocks_word : (k : Setting) (ready : IsReady k) (p word : ℕ) → word_at k.image (run k p).pc ≡ Some word → AreBlocksWide (tree_of k) ((judged k).course.blocks p)
blocks_word k ready p word w =
    subst (λ (u : Trial). AreBlocksWide (tree_of k) u.blocks) (sym (trial_word k p word w))
    (ready.blocks_wide (tree_of k) (state_at word (run k p)) (run k p).mem (return_to word (run k p).trap) (decoded_in (tree_of k) word))

-- what its record leaves as it is
pub kept_word : (k : Setting) (ready : IsReady k) (p word : ℕ) (c : Commit) → word_at k.image (run k p).pc ≡ Some word → answer k p ≡ Done c → IsKept (asked k.design word) (run k p) word c
kept_word k ready p word c w h = ready.keeps word (run k p) c (ready.wide p) (ready.words p) (ready.image (run k p).pc word w) (ready.pcs p) (sym (step_word k p word w) ∙ h)

pub run_done : (k : Setting) (p : ℕ) (c : Commit) → is_entry k (suc p) ≡ false → answer k p ≡ Done c → run k (suc p) ≡ resumed (is_return (tree_of k) c.word) (applied c (run k p))
run_done k p c e h = run_suc k p e ∙ ap (λ a. after (tree_of k) (run k p) a) h

-- a fact on the state behind a step: where it stops, and where it writes a record
step_fact : (k : Setting) (p : ℕ) (P : Arch → Type 0) → P (run k p) → ((c : Commit) → answer k p ≡ Done c → P (resumed (is_return (tree_of k) c.word) (applied c (run k p)))) → P (after (tree_of k) (run k p) (answer k p))
step_fact k p P same done = by_answer (answer k p) refl where
  by_answer : (a : StepAnswer) → answer k p ≡ a → P (after (tree_of k) (run k p) (answer k p))
  by_answer (Done c) h = subst (λ a. P (after (tree_of k) (run k p) a)) (sym h) (done c h)
  by_answer (Stopped stop) h = subst (λ a. P (after (tree_of k) (run k p) a)) (sym h) same

-- the same where the run may go to the handler behind the step, which keeps the fact
pub after_step : (k : Setting) (p : ℕ) (P : Arch → Type 0) → ((t : Arch) → P t → P (diverted (shape_of k).trap t)) → P (run k p) → ((c : Commit) → answer k p ≡ Done c → P (resumed (is_return (tree_of k) c.word) (applied c (run k p)))) → P (run k (suc p))
after_step k p P keeps same done = subst P (sym (next_run k p)) (entered_keeps k (suc p) P (after (tree_of k) (run k p) (answer k p)) keeps (step_fact k p P same done))

-- and where it does not
pub after_plain : (k : Setting) (p : ℕ) (P : Arch → Type 0) → is_entry k (suc p) ≡ false → P (run k p) → ((c : Commit) → answer k p ≡ Done c → P (resumed (is_return (tree_of k) c.word) (applied c (run k p)))) → P (run k (suc p))
after_plain k p P e same done = subst P (sym (run_suc k p e)) (step_fact k p P same done)

-- the entry keeps the registers and the memory
pub entry_x : (h : ℕ) (s : Arch) → (diverted h s).x ≡ s.x
unfolding diverted
entry_x h s = refl

pub entry_custom : (h : ℕ) (s : Arch) → (diverted h s).custom ≡ s.custom
unfolding diverted
entry_custom h s = refl

pub entry_mem : (h : ℕ) (s : Arch) → (diverted h s).mem ≡ s.mem
unfolding diverted
entry_mem h s = refl

trap_of : (c : Commit) (s : Arch) → (applied c s).trap ≡ s.trap
unfolding applied
trap_of c s = refl

pub next_x : (k : Setting) (p : ℕ) → (run k (suc p)).x ≡ (after (tree_of k) (run k p) (answer k p)).x
next_x k p =
    ap (λ (s : Arch). s.x) (next_run k p)
    ∙ entered_keeps k (suc p) (λ s. s.x ≡ (after (tree_of k) (run k p) (answer k p)).x) (after (tree_of k) (run k p) (answer k p)) (λ t h. entry_x (shape_of k).trap t ∙ h) refl

pub next_custom : (k : Setting) (p : ℕ) → (run k (suc p)).custom ≡ (after (tree_of k) (run k p) (answer k p)).custom
next_custom k p =
    ap (λ (s : Arch). s.custom) (next_run k p)
    ∙ entered_keeps k (suc p) (λ s. s.custom ≡ (after (tree_of k) (run k p) (answer k p)).custom) (after (tree_of k) (run k p) (answer k p)) (λ t h. entry_custom (shape_of k).trap t ∙ h) refl

-- a word returns to the same address wherever the run goes without an entry
pub run_return : (k : Setting) (r n word : ℕ) → NonePast k r → return_to word (run k (r + n)).trap ≡ return_to word (run k r).trap
run_return k r zero word past = ap (λ p. return_to word (run k p).trap) (let same : r + 0 ≡ r = omega arith in same)
run_return k r (suc n) word past =
    let next : r + suc n ≡ suc (r + n) = omega arith in
    ap (λ p. return_to word (run k p).trap) next
    ∙ after_plain k (r + n) (λ s. return_to word s.trap ≡ return_to word (run k (r + n)).trap) (past (suc (r + n)) (omega arith)) refl
    (λ c h. return_kept (is_return (tree_of k) c.word) (applied c (run k (r + n))).trap word ∙ ap (return_to word) (trap_of c (run k (r + n))))
    ∙ run_return k r n word past

-- a register that is not written, and not spawned
pub run_other : (k : Setting) (ready : IsReady k) (p word reg : ℕ) → word_at k.image (run k p).pc ≡ Some word → (asked k.design word).destination ≢ reg → is_register (asked k.design word).spawned reg ≡ false → slice_index (run k (suc p)).x reg ≡ slice_index (run k p).x reg
run_other k ready p word reg w ne none =
    after_step k p (λ s. slice_index s.x reg ≡ slice_index (run k p).x reg) (λ t h. ap (λ l. slice_index l reg) (entry_x (shape_of k).trap t) ∙ h) refl
    (λ c h. (kept_word k ready p word c w h).x reg (λ e. ne (sym e)) none)

-- memory, where the instruction does not store
pub run_memory : (k : Setting) (ready : IsReady k) (p word : ℕ) → word_at k.image (run k p).pc ≡ Some word → (asked k.design word).stores ≡ false → (run k (suc p)).mem ≡ (run k p).mem
run_memory k ready p word w n =
    after_step k p (λ s. s.mem ≡ (run k p).mem) (λ t h. entry_mem (shape_of k).trap t ∙ h) refl (λ c h. (kept_word k ready p word c w h).memory n)

-- ---- custom registers

custom_of : (c : Commit) (s : Arch) → (applied c s).custom ≡ with_customs s.custom c.custom
unfolding applied
custom_of c s = refl

-- one of the sixteen behind a record
pub custom_at : (c : Commit) (s : Arch) (reg : ℕ) → reg < 16 → get_or (applied c s).custom reg zero_bit ≡ with_slot (get_or s.custom reg zero_bit) (get_or c.custom reg Absent)
custom_at c s reg lt =
    ap (λ l. get_or l reg zero_bit) (custom_of c s)
    ∙ table_at (λ r. with_slot (get_or s.custom r zero_bit) (get_or c.custom r Absent)) 16 reg zero_bit lt

-- one past the sixteen
pub custom_past : (x : ExtensionTree) (file : List Bits) (reg : ℕ) → AreWide x file → 16 ≤ reg → get_or file reg zero_bit ≡ zero_bit
custom_past x file reg h le = let n = h.count in get_or_past file reg zero_bit (omega (arith, n, le))

pub run_done_custom : (k : Setting) (p : ℕ) (c : Commit) (reg : ℕ) → answer k p ≡ Done c → reg < 16 → get_or (run k (suc p)).custom reg zero_bit ≡ with_slot (get_or (run k p).custom reg zero_bit) (get_or c.custom reg Absent)
run_done_custom k p c reg h lt =
    ap (λ (l : List Bits). get_or l reg zero_bit) (next_custom k p)
    ∙ ap (λ a. get_or (after (tree_of k) (run k p) a).custom reg zero_bit) h
    ∙ custom_at c (run k p) reg lt

-- one that is not used
pub run_custom : (k : Setting) (ready : IsReady k) (p word reg : ℕ) → word_at k.image (run k p).pc ≡ Some word → get_or (asked k.design word).customs reg false ≡ false → get_or (run k (suc p)).custom reg zero_bit ≡ get_or (run k p).custom reg zero_bit
run_custom k ready p word reg w n = elim (cases_lt reg 16) [
  | inl lt ↦ after_step k p (λ s. get_or s.custom reg zero_bit ≡ get_or (run k p).custom reg zero_bit)
      (λ t h. ap (λ (l : List Bits). get_or l reg zero_bit) (entry_custom (shape_of k).trap t) ∙ h) refl
      (λ c h. custom_at c (run k p) reg lt ∙ ap (λ o. with_slot (get_or (run k p).custom reg zero_bit) o) ((kept_word k ready p word c w h).customs reg n))
  | inr le ↦ custom_past (tree_of k) (run k (suc p)).custom reg (ready.wide (suc p)) le ∙ sym (custom_past (tree_of k) (run k p).custom reg (ready.wide p) le)
]

-- ---- x0 is 0

zero_step : (k : Setting) (ready : IsReady k) (p : ℕ) (o : Option ℕ) → word_at k.image (run k p).pc ≡ o → slice_index (run k (suc p)).x 0 ≡ slice_index (run k p).x 0
zero_step k ready p None w =
    after_step k p (λ s. slice_index s.x 0 ≡ slice_index (run k p).x 0) (λ t h. ap (λ l. slice_index l 0) (entry_x (shape_of k).trap t) ∙ h) refl
    (λ c h. absurd (cc (step_at (tree_of k) k.image (run k p) None w, h)))
zero_step k ready p (Some word) w =
    after_step k p (λ s. slice_index s.x 0 ≡ slice_index (run k p).x 0) (λ t h. ap (λ l. slice_index l 0) (entry_x (shape_of k).trap t) ∙ h) refl
    (λ c h. (kept_word k ready p word c w h).zero)

start_zero : (x : ExtensionTree) (handler : ℕ) (lines : Option (List ℕ)) (places : List ℕ) → slice_index (start x (entries_at handler lines places)).x 0 ≡ 0
unfolding first_state
start_zero x handler None places = refl
start_zero x handler (Some l) places = refl

pub run_zero : (k : Setting) (ready : IsReady k) (p : ℕ) → slice_index (run k p).x 0 ≡ 0
unfolding run_with
run_zero k ready zero =
    entered_keeps k 0 (λ s. slice_index s.x 0 ≡ 0) (start (tree_of k) (entries_of k)) (λ t h. ap (λ l. slice_index l 0) (entry_x (shape_of k).trap t) ∙ h)
    (start_zero (tree_of k) (shape_of k).trap k.lines k.places)
run_zero k ready (suc p) = zero_step k ready p (word_at k.image (run k p).pc) refl ∙ run_zero k ready p

-- ---- a step that writes a record

-- its record, and the pc behind it
pub record GoesOn (k : Setting) (p code : ℕ) (c : Commit) : Type 0 where
  pub at : c.at ≡ (run k p).pc
  pub word : c.word ≡ code
  pub state : run k (suc p) ≡ resumed (is_return (tree_of k) c.word) (applied c (run k p))
  pub pc : (run k (suc p)).pc ≡ c.next

pub goes_on : (k : Setting) (ready : IsReady k) (p word : ℕ) (c : Commit) → is_entry k (suc p) ≡ false → word_at k.image (run k p).pc ≡ Some word → answer k p ≡ Done c → GoesOn k p word c
goes_on k ready p word c e w h =
    let kept = kept_word k ready p word c w h in
    record {
      at = kept.at;
      word = kept.word;
      state = run_done k p c e h;
      pc = ap (λ (s : Arch). s.pc) (run_done k p c e h) ∙ kept.next;
    }
