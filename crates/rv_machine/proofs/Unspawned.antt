-- Where an instruction spawns nothing, what it writes by itself is the whole record.
use Rattle.std.proofs.Common.{◌≡◌, ◌∙◌, refl, sym, ap, ℕ, List, length, get_or, Option, Some, None, Bool, true, false}
use Rattle.std.specs.Prelude.{if◌then◌else◌}
use Rattle.ix_bits.specs.declared.number.Bits.{Bits}
use Rattle.ix_eval.proofs.Tables.{table_length, table_is}
use Rattle.ix_extension.specs.Extensions.{ExtensionTree}
use Rattle.rv_asks.specs.declared.asks.Asks.{Asks}
use Rattle.rv_seq.specs.declared.decoded.Decoded.{Decoded}
use Rattle.rv_seq.specs.declared.arch.Arch.{Arch}
use Rattle.rv_seq.specs.declared.answer.StepAnswer.TheVariants.{Done}
use Rattle.rv_seq.specs.WordEffects.{over, blocks_effect}
use Rattle.ix_eval.specs.declared.effect.Effect.{Effect}
use Rattle.rv_seq.specs.States.{inputs_at}
use Rattle.rv_seq.specs.declared.commit.Commit.{Commit}
use Rattle.rv_seq.specs.declared.commit.Slot.{Slot}
use Rattle.rv_seq.specs.declared.commit.Slot.TheVariants.{Absent}
use Rattle.rv_seq.specs.declared.commit.Stop.{Stop}
use Rattle.rv_seq.specs.Commits.{slot_of, commit_of}
use Rattle.rv_seq.specs.Interrupts.{return_to}
use Rattle.rv_seq.specs.Steps.{word_at, return_effect, of_return, own_effect, whole_effect, unless_stopped, attempted, of_decoded, of_word, step}
use Rattle.rv_seq.specs.Stops.{stop_of}
use Rattle.rv_tried.specs.Parts.{native_index, native_x, native_customs, native}
use Rattle.rv_lawful.specs.Sight.{SpawnsNothing}

-- Records

same_record : (at word : ℕ) (rd_index : ℕ) (rd : Slot ℕ) (custom : List (Slot Bits)) (c : Commit) → at ≡ c.at → word ≡ c.word → rd_index ≡ c.rd_index → rd ≡ c.rd → custom ≡ c.custom
    → record { at = at; word = word; rd_index = rd_index; rd = rd; custom = custom; store = c.store; next = c.next } ≡ c
same_record at word rd_index rd custom c a b e f g = rw (a, b, e, f, g) refl

unless_so : {A : Type 0} (b : Bool) (x y : A) → b ≡ false → (if b then x else y) ≡ y
unless_so true x y e = cc
unless_so false x y e = refl

-- a table whose entries are those of a list of sixteen is the list
module _ (a : Asks) (quiet : SpawnsNothing a) (c : Commit) (long : length c.custom ≡ 16) where
  pub native_same : (blocks : List (Option Bits)) → native a blocks c ≡ c
  unfolding native
  native_same blocks =
      same_record c.at c.word (native_index a.spawned c.rd_index) (native_x a.spawned c.rd) (native_customs a.spawned_customs blocks c.custom) c refl refl
      (ap (λ o. native_index o c.rd_index) quiet.x) (ap (λ o. native_x o c.rd) quiet.x)
      (sym (table_is c.custom (λ r. if get_or a.spawned_customs r false then slot_of (get_or blocks r None) else get_or c.custom r Absent) 16 Absent long
      (λ r less. sym (unless_so (get_or a.spawned_customs r false) (slot_of (get_or blocks r None)) (get_or c.custom r Absent) (quiet.customs r)))))

-- a record of a step has sixteen custom registers
long_done : (o : Option Stop) (c d : Commit) → length c.custom ≡ 16 → unless_stopped o (Done c) ≡ Done d → length d.custom ≡ 16
long_done (Some stop) c d l e = cc
long_done None c d l e = let same : c ≡ d = cc in ap (λ (z : Commit). length z.custom) (sym same) ∙ l

long_unknown : (x : ExtensionTree) (s : Arch) (word : ℕ) (back : Option ℕ) (c : Commit) → of_return x s word back ≡ Done c → length c.custom ≡ 16
unfolding of_return commit_of
long_unknown x s word None c e = cc
long_unknown x s word (Some at) c e =
    let whole : Effect = over (return_effect at) (blocks_effect x (inputs_at word s) (length x.blocks)) in
    long_done None (commit_of s.pc word whole) c (table_length (λ r. slot_of (get_or whole.custom r None)) 16) e

long_decoded : (x : ExtensionTree) (s : Arch) (word : ℕ) (o : Option Decoded) (c : Commit) → of_decoded x s word o ≡ Done c → length c.custom ≡ 16
unfolding attempted commit_of
long_decoded x s word None c e = long_unknown x s word (return_to word s.trap) c e
long_decoded x s word (Some d) c e =
    long_done (stop_of d (own_effect x s word d)) (commit_of s.pc word (whole_effect x s word d)) c (table_length (λ r. slot_of (get_or (whole_effect x s word d).custom r None)) 16) e

pub record_long : (x : ExtensionTree) (image : List ℕ) (s : Arch) (c : Commit) → step x image s ≡ Done c → length c.custom ≡ 16
unfolding step
record_long x image s c e = by (word_at image s.pc) e
  where
    by : (o : Option ℕ) → of_word x s o ≡ Done c → length c.custom ≡ 16
    by None q = cc
    by (Some word) q = long_decoded x s word _ c q
