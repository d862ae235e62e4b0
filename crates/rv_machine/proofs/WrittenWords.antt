-- What a step writes to an x register is a word, and the register is that of the word's field, but x0.
use Rattle.std.proofs.Common.{◌≡◌, ℕ, ◌<◌, ◌^◌, List, length, Option, Some, None, Bool, true, false, if◌then◌else◌, nat_eq, refl, subst}
use Rattle.ix_extension.specs.Extensions.{ExtensionTree}
use Rattle.rv_isa.specs.Fields.{rd_of, rs1_of, rs2_of}
use Rattle.ix_eval.specs.declared.effect.Effect.{Effect}
use Rattle.rv_seq.specs.declared.decoded.Decoded.{Decoded}
use Rattle.rv_seq.specs.Decoding.{decoded_in}
use Rattle.rv_seq.specs.WordEffects.{over, blocks_effect}
use Rattle.rv_seq.specs.declared.arch.Arch.{Arch}
use Rattle.rv_seq.specs.declared.answer.StepAnswer.{StepAnswer}
use Rattle.rv_seq.specs.declared.answer.StepAnswer.TheVariants.{Done}
use Rattle.rv_seq.specs.declared.commit.Commit.{Commit}
use Rattle.rv_seq.specs.declared.commit.Slot.{Slot}
use Rattle.rv_seq.specs.declared.commit.Slot.TheVariants.{Absent, Now, Later}
use Rattle.rv_seq.specs.declared.commit.Stop.{Stop}
use Rattle.rv_seq.specs.States.{inputs_at}
use Rattle.rv_seq.specs.Commits.{commit_of, x_index, x_slot}
use Rattle.rv_seq.specs.Interrupts.{return_to}
use Rattle.rv_seq.specs.Steps.{word_at, return_effect, of_return, attempted, of_decoded, of_word, step, unless_stopped, whole_effect, own_effect}
use Rattle.rv_seq.specs.Stops.{stop_of}
use Rattle.rv_machine.proofs.RunWords.{IsBelow, Writes, own_below, return_below, over_below, blocks_below, HoldsWords}

-- a write of the x register with this number, by the instruction of this word
abbrev pub IsXWrite : ℕ → ℕ → Slot ℕ → Type 0
IsXWrite word i Absent = Unit {0}
IsXWrite word i (Now v) = (i ≡ rd_of word) × (nat_eq (rd_of word) 0 ≡ false) × (v < 2 ^ 32)
IsXWrite word i Later = ⊥

slot_write : (word : ℕ) (o : Option ℕ) → IsBelow o → IsXWrite word (x_index (rd_of word) o) (x_slot (rd_of word) o)
slot_write word None h = tt
slot_write word (Some v) h = by_case (nat_eq (rd_of word) 0) refl where
  by_case : (b : Bool) → nat_eq (rd_of word) 0 ≡ b → IsXWrite word (rd_of word) (if b then Absent else Now v)
  by_case true e = tt
  by_case false e = (refl, e, h)

abbrev IsWritten : Commit → Type 0
IsWritten c = IsXWrite c.word c.rd_index c.rd

same_done : (a b : Commit) → ◌≡◌ {A = StepAnswer} (Done a) (Done b) → a ≡ b
same_done a b e = cc

attempted_write : (s : Arch) (word : ℕ) (e : Effect) (stop : Option Stop) (c : Commit) → Writes e → unless_stopped stop (Done (commit_of s.pc word e)) ≡ Done c → IsWritten c
unfolding commit_of
attempted_write s word e None c w h = subst (λ d. IsWritten d) (same_done (commit_of s.pc word e) c h) (slot_write word e.rd w.rd)
attempted_write s word e (Some stop) c w h = cc

unknown_write : (x : ExtensionTree) (s : Arch) (word : ℕ) (back : Option ℕ) (c : Commit) → HoldsWords s → IsBelow back → of_return x s word back ≡ Done c → IsWritten c
unfolding of_return
unknown_write x s word None c h b e = cc
unknown_write x s word (Some at) c h b e =
    attempted_write s word (over (return_effect at) (blocks_effect x (inputs_at word s) (length x.blocks))) None c
    (over_below (return_effect at) (blocks_effect x (inputs_at word s) (length x.blocks)) (return_below at b) (blocks_below x (inputs_at word s) (length x.blocks))) e

decoded_write : (x : ExtensionTree) (s : Arch) (word : ℕ) (o : Option Decoded) (c : Commit) → HoldsWords s → of_decoded x s word o ≡ Done c → IsWritten c
unfolding attempted
decoded_write x s word None c h e = unknown_write x s word (return_to word s.trap) c h (h.back word) e
decoded_write x s word (Some d) c h e =
    attempted_write s word (whole_effect x s word d) (stop_of d (own_effect x s word d)) c
    (over_below (own_effect x s word d) (blocks_effect x (inputs_at word s) (length x.blocks)) (own_below x d (inputs_at word s) (h.registers (rs1_of word)) (h.registers (rs2_of word))) (blocks_below x (inputs_at word s) (length x.blocks))) e

-- the record of a step
pub step_write : (x : ExtensionTree) (image : List ℕ) (s : Arch) (c : Commit) → HoldsWords s → step x image s ≡ Done c → IsXWrite c.word c.rd_index c.rd
unfolding step
step_write x image s c h e = by_word (word_at image s.pc) e where
  by_word : (o : Option ℕ) → of_word x s o ≡ Done c → IsWritten c
  by_word None q = cc
  by_word (Some word) q = decoded_write x s word (decoded_in x word) c h q
