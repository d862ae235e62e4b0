-- The parts of a record, register by register.
use Rattle.std.proofs.Common.{◌≡◌, ◌∙◌, refl, sym, ap, ℕ, zero, suc, ◌+◌, ◌<◌, List, [], ◌∷◌, length, map, replicate, get_or, Option, Some, None, false}
use Rattle.std.specs.Prelude.{is_some, option_map, IfSome}
use Rattle.std.specs.Option.{option_or}
use Rattle.ix_bits.specs.declared.number.Bits.{Bits}
use Rattle.ix_extension.specs.Extensions.{ExtensionTree}
use Rattle.ix_mean.specs.declared.evaluate.State.{State}
use Rattle.ix_mean.specs.Given.{inputs_of}
use Rattle.ix_mean.specs.Meaning.{Inputs, Write}
use Rattle.ix_behaviour.specs.declared.which.Which.{Which}
use Rattle.ix_behaviour.specs.declared.which.Which.TheVariants as W
use Rattle.ix_behaviour.specs.Behaviours.{effect_by_name}
use Rattle.ix_eval.specs.Tables.{table}
use Rattle.ix_eval.proofs.Tables.{table_at}
use Rattle.ix_eval.specs.Evaluated.{bits_written, type_of_custom, written, custom_written, effect_at}
use Rattle.ix_eval.specs.declared.effect.Effect.{Effect}
use Rattle.rv_seq.specs.declared.decoded.Decoded.{Decoded}
use Rattle.rv_seq.specs.Memory.{peeked}
use Rattle.rv_seq.specs.WordEffects.{customs_over, over, blocks_effect}
use Rattle.rv_seq.specs.declared.answer.StepAnswer.TheVariants.{Done}
use Rattle.rv_seq.specs.declared.commit.Commit.{Commit}
use Rattle.rv_seq.specs.declared.commit.Slot.TheVariants.{Absent}
use Rattle.rv_seq.specs.declared.commit.Stop.{Stop}
use Rattle.rv_seq.specs.Commits.{slot_of, commit_of}
use Rattle.rv_seq.specs.Sound.{IsNowWide}
use Rattle.rv_seq.specs.Steps.{return_effect, unless_stopped}
use Rattle.rv_seq.specs.Stops.{stop_of}
use Rattle.rv_tried.specs.Tried.{effect_seen, blocks_seen, whole_seen, no_customs, marked, unless_stopping, tried_instruction, tried_return, tried_unknown, tried}
use Rattle.rv_tried.specs.Whole.{IsWhole, WholeLaw, AreBlocksWide, WideLaw}

marked_at : (xs : List (Option Bits)) (r : ℕ) → get_or (map is_some xs) r false ≡ is_some (get_or xs r None)
marked_at [] r = refl
marked_at (x ∷ xs) zero = refl
marked_at (x ∷ xs) (suc r) = marked_at xs r

-- by what the instruction itself writes to the register
by_own : (own blocks : List (Option Bits)) (c : Commit) (r : ℕ) → get_or c.custom r Absent ≡ slot_of (option_or (get_or own r None) (get_or blocks r None)) → IsWhole (marked own) blocks c r
by_own own blocks c r e = by (get_or own r None) refl
  where
    by : (o : Option Bits) → get_or own r None ≡ o → IsWhole (marked own) blocks c r
    by None q =
        record {
          others = λ h. e ∙ ap (λ (z : Option Bits). slot_of (option_or z (get_or blocks r None))) q;
          itself = λ h. cc (sym h ∙ marked_at own r ∙ ap (λ (z : Option Bits). is_some z) q);
        }
    by (Some b) q =
        record {
          others = λ h. cc (sym h ∙ marked_at own r ∙ ap (λ (z : Option Bits). is_some z) q);
          itself = λ h. (b, e ∙ ap (λ (z : Option Bits). slot_of (option_or z (get_or blocks r None))) q);
        }

customs_of : (at word : ℕ) (e b : Effect) (r : ℕ) → r < 16 → get_or (commit_of at word (over e b)).custom r Absent ≡ slot_of (option_or (get_or e.custom r None) (get_or b.custom r None))
unfolding commit_of over
customs_of at word e b r lt =
    table_at (λ m. slot_of (get_or (customs_over e.custom b.custom) m None)) 16 r Absent lt
    ∙ ap (λ (z : Option Bits). slot_of z) (table_at (λ m. option_or (get_or e.custom m None) (get_or b.custom m None)) 16 r None lt)

module _ (x : ExtensionTree) (i : State) (memory : List ℕ) (d : Decoded) (c : Commit) (r : ℕ) (lt : r < 16) where
  abbrev own : Effect
  own = effect_seen x i memory d

  abbrev blocks : Effect
  blocks = blocks_seen x i memory

  by_stop : (o : Option Stop) → unless_stopped o (Done (commit_of i.pc i.word (whole_seen x i memory d))) ≡ Done c
      → IsWhole (marked (unless_stopping o own.custom)) (unless_stopping o blocks.custom) c r
  by_stop (Some stop) e = cc
  by_stop None e =
      let same : commit_of i.pc i.word (whole_seen x i memory d) ≡ c = cc in
      by_own own.custom blocks.custom c r (ap (λ (z : Commit). get_or z.custom r Absent) (sym same) ∙ customs_of i.pc i.word own blocks r lt)

  instruction_whole : (tried_instruction x i memory d).answer ≡ Done c → IsWhole (tried_instruction x i memory d).own (tried_instruction x i memory d).blocks c r
  unfolding tried_instruction
  instruction_whole e = by_stop (stop_of d own) e

-- a return writes no custom register itself
unknown_whole : (x : ExtensionTree) (i : State) (memory : List ℕ) (back : Option ℕ) (c : Commit) (r : ℕ) → r < 16 → (tried_unknown x i memory back).answer ≡ Done c
    → IsWhole (tried_unknown x i memory back).own (tried_unknown x i memory back).blocks c r
unfolding tried_return
unknown_whole x i memory None c r lt e = cc
unknown_whole x i memory (Some at) c r lt e =
    let same : commit_of i.pc i.word (over (return_effect at) (blocks_seen x i memory)) ≡ c = cc in
    by_own no_customs (blocks_seen x i memory).custom c r (ap (λ (z : Commit). get_or z.custom r Absent) (sym same) ∙ customs_of i.pc i.word (return_effect at) (blocks_seen x i memory) r lt)

pub whole_law : WholeLaw
unfolding tried
whole_law x i memory back None c e r lt = unknown_whole x i memory back c r lt e
whole_law x i memory back (Some d) c e r lt = instruction_whole x i memory d c r lt e

-- Widths

abbrev IsFit : ExtensionTree → ℕ → Option Bits → Type 0
IsFit x r o = IfSome o (λ b. b.width ≡ (type_of_custom x r).width)

abbrev AreFit : ExtensionTree → List (Option Bits) → Type 0
AreFit x customs = (r : ℕ) → IsFit x r (get_or customs r None)

table_or : {A : Type 0} (P : ℕ → A → Type 0) (f : ℕ → A) (n : ℕ) (d : A) → ((r : ℕ) → P r (f r)) → ((r : ℕ) → P r d) → (r : ℕ) → P r (get_or (table f n) r d)
table_or P f zero d h g r = g r
table_or P f (suc n) d h g zero = h 0
table_or P f (suc n) d h g (suc r) = table_or (λ k. P (suc k)) (λ k. f (suc k)) n d (λ k. h (suc k)) (λ k. g (suc k)) r

none_fit : (x : ExtensionTree) (r n k : ℕ) → IsFit x r (get_or (replicate n None) k None)
none_fit x r zero k = tt
none_fit x r (suc n) zero = tt
none_fit x r (suc n) (suc k) = none_fit x r n k

written_fit : (x : ExtensionTree) (r : ℕ) (o : Option Write) → IsFit x r (option_map (bits_written (type_of_custom x r)) o)
written_fit x r None = tt
written_fit x r (Some w) = refl

effect_fit : (x : ExtensionTree) (w : Which) (i : Inputs) → AreFit x (effect_at x w i).custom
unfolding effect_at
effect_fit x w i =
    table_or (IsFit x) (custom_written x (effect_by_name x w i)) 16 None (λ r. written_fit x r (written (effect_by_name x w i) (3 + r))) (λ r. tt)

or_fit : (x : ExtensionTree) (r : ℕ) (o p : Option Bits) → IsFit x r o → IsFit x r p → IsFit x r (option_or o p)
or_fit x r None p h g = g
or_fit x r (Some b) p h g = h

over_fit : (x : ExtensionTree) (later earlier : Effect) → AreFit x later.custom → AreFit x earlier.custom → AreFit x (over later earlier).custom
unfolding over
over_fit x later earlier h g =
    table_or (IsFit x) (λ r. option_or (get_or later.custom r None) (get_or earlier.custom r None)) 16 None
    (λ r. or_fit x r (get_or later.custom r None) (get_or earlier.custom r None) (h r) (g r)) (λ r. tt)

blocks_fit : (x : ExtensionTree) (i : Inputs) (n : ℕ) → AreFit x (blocks_effect x i n).custom
unfolding blocks_effect
blocks_fit x i zero = λ r. none_fit x r 16 r
blocks_fit x i (suc n) = over_fit x (effect_at x (W.Block n) i) (blocks_effect x i n) (effect_fit x (W.Block n) i) (blocks_fit x i n)

slot_wide : (x : ExtensionTree) (r : ℕ) (o : Option Bits) → IsFit x r o → IsNowWide (type_of_custom x r).width (slot_of o)
slot_wide x r None h = tt
slot_wide x r (Some b) h = h

stopping_wide : (x : ExtensionTree) (i : State) (memory : List ℕ) (o : Option Stop) → AreBlocksWide x (unless_stopping o (blocks_seen x i memory).custom)
stopping_wide x i memory None = λ r. slot_wide x r (get_or (blocks_seen x i memory).custom r None) (blocks_fit x (inputs_of i (peeked memory)) (length x.blocks) r)
stopping_wide x i memory (Some stop) = λ r. slot_wide x r (get_or no_customs r None) (none_fit x r 16 r)

instruction_wide : (x : ExtensionTree) (i : State) (memory : List ℕ) (d : Decoded) → AreBlocksWide x (tried_instruction x i memory d).blocks
unfolding tried_instruction
instruction_wide x i memory d = stopping_wide x i memory (stop_of d (effect_seen x i memory d))

unknown_wide : (x : ExtensionTree) (i : State) (memory : List ℕ) (back : Option ℕ) → AreBlocksWide x (tried_unknown x i memory back).blocks
unfolding tried_return
unknown_wide x i memory None = λ r. slot_wide x r (get_or no_customs r None) (none_fit x r 16 r)
unknown_wide x i memory (Some at) = λ r. slot_wide x r (get_or (blocks_seen x i memory).custom r None) (blocks_fit x (inputs_of i (peeked memory)) (length x.blocks) r)

pub wide_law : WideLaw
unfolding tried
wide_law x i memory back None = unknown_wide x i memory back
wide_law x i memory back (Some d) = instruction_wide x i memory d
