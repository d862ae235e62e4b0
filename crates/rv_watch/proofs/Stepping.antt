-- Steps: one that is done is of the word at its pc, and one that stops for want of a word has none there.
use Rattle.std.proofs.Common.{◌≡◌, refl, sym, ap, ℕ, List, Option, Some, None, Bool, true, false}
use Rattle.std.specs.Prelude.{if◌then◌else◌, nat_eq, ◌%◌}
use Rattle.std.specs.Option.{option_or}
use Rattle.ix_eval.specs.declared.access.Access.{Access}
use Rattle.ix_eval.specs.declared.effect.Effect.{Effect}
use Rattle.ix_extension.specs.Extensions.{ExtensionTree}
use Rattle.rv_base.specs.declared.operation.Operation.{Operation}
use Rattle.rv_base.specs.declared.operation.Operation.TheVariants as O
use Rattle.rv_base.specs.Operations.{operation_at}
use Rattle.rv_memory.specs.Room.{is_inside}
use Rattle.rv_seq.specs.declared.decoded.Decoded.{Decoded}
use Rattle.rv_seq.specs.declared.decoded.Decoded.TheVariants as D
use Rattle.rv_seq.specs.Decoding.{decoded_in}
use Rattle.rv_seq.specs.declared.arch.Arch.{Arch}
use Rattle.rv_seq.specs.declared.answer.StepAnswer.TheVariants.{Done, Stopped}
use Rattle.rv_seq.specs.declared.commit.Commit.{Commit}
use Rattle.rv_seq.specs.declared.commit.Stop.{Stop}
use Rattle.rv_seq.specs.declared.commit.Stop.TheVariants.{Fetch}
use Rattle.rv_seq.specs.Commits.{commit_of}
use Rattle.rv_seq.specs.Interrupts.{return_to}
use Rattle.rv_seq.specs.Steps.{word_at, own_effect, whole_effect, unless_stopped, attempted, of_return, of_decoded, of_word, step}
use Rattle.rv_seq.specs.Stops.{access_stop, load_stop, store_stop, operation_stop, call_stop, target_stop, stop_of}

-- ---- a step that is done is of the word at its pc

unless_word : (o : Option Stop) (c d : Commit) → unless_stopped o (Done c) ≡ Done d → d.word ≡ c.word
unless_word (Some stop) c d e = cc
unless_word None c d e = let same : c ≡ d = cc in ap (λ (z : Commit). z.word) (sym same)

return_word : (x : ExtensionTree) (s : Arch) (word : ℕ) (back : Option ℕ) (c : Commit) → of_return x s word back ≡ Done c → c.word ≡ word
unfolding of_return commit_of
return_word x s word None c e = cc
return_word x s word (Some at) c e = unless_word None _ c e

decoded_word : (x : ExtensionTree) (s : Arch) (word : ℕ) (o : Option Decoded) (c : Commit) → of_decoded x s word o ≡ Done c → c.word ≡ word
unfolding attempted commit_of
decoded_word x s word None c e = return_word x s word (return_to word s.trap) c e
decoded_word x s word (Some d) c e = unless_word (stop_of d (own_effect x s word d)) (commit_of s.pc word (whole_effect x s word d)) c e

pub done_word : (x : ExtensionTree) (image : List ℕ) (s : Arch) (c : Commit) → step x image s ≡ Done c → word_at image s.pc ≡ Some c.word
unfolding step
done_word x image s c e = by_word (word_at image s.pc) e where
  by_word : (o : Option ℕ) → of_word x s o ≡ Done c → o ≡ Some c.word
  by_word None q = cc
  by_word (Some word) q = ap (λ w. Some w) (sym (decoded_word x s word (decoded_in x word) c q))

-- ---- no word stops for want of a word

abbrev IsOther : Option Stop → Type 0
IsOther o = o ≡ Some Fetch → ⊥

or_other : (a b : Option Stop) → IsOther a → IsOther b → IsOther (option_or a b)
or_other None b h g = g
or_other (Some stop) b h g = h

access_other : (a : Access) → IsOther (access_stop a)
access_other a = by_case (nat_eq (a.at % a.bytes) 0) (is_inside a.at a.bytes) where
  by_case : (b c : Bool) → IsOther (if b then (if c then None else Some Rattle.rv_seq.specs.declared.commit.Stop.TheVariants.DataRange) else Some Rattle.rv_seq.specs.declared.commit.Stop.TheVariants.Misaligned)
  by_case true true e = cc
  by_case true false e = cc
  by_case false c e = cc

load_other : (o : Option Access) → IsOther (load_stop o)
load_other None e = cc
load_other (Some a) e = access_other a e

store_other : (o : Option (Access × ℕ)) → IsOther (store_stop o)
store_other None e = cc
store_other (Some s) e = access_other s.0 e

operation_other : (op : Operation) → IsOther (operation_stop op)
operation_other O.Upper e = cc
operation_other O.UpperFromPc e = cc
operation_other O.Jump e = cc
operation_other O.JumpRegister e = cc
operation_other (O.Immediate op) e = cc
operation_other (O.Register op) e = cc
operation_other (O.Branch test) e = cc
operation_other (O.Load size) e = cc
operation_other (O.LoadUnsigned size) e = cc
operation_other (O.Store size) e = cc
operation_other O.Fence e = cc
operation_other O.Call e = cc
operation_other O.Break e = cc

call_other : (d : Decoded) → IsOther (call_stop d)
call_other (D.Base b) e = operation_other (operation_at b.row) e
call_other (D.Own n) e = cc

target_other : (d : Decoded) (o : Option ℕ) → IsOther (target_stop d o)
target_other (D.Base b) None e = cc
target_other (D.Base b) (Some a) e = by_case (nat_eq (a % 4) 0) e where
  by_case : (c : Bool) → IsOther (if c then None else Some Rattle.rv_seq.specs.declared.commit.Stop.TheVariants.Target)
  by_case true q = cc
  by_case false q = cc
target_other (D.Own n) o e = cc

stop_other : (d : Decoded) (f : Effect) → IsOther (stop_of d f)
stop_other d f =
    or_other (option_or (option_or (call_stop d) (load_stop f.load)) (store_stop f.store)) (target_stop d f.pc)
    (or_other (option_or (call_stop d) (load_stop f.load)) (store_stop f.store) (or_other (call_stop d) (load_stop f.load) (call_other d) (load_other f.load)) (store_other f.store))
    (target_other d f.pc)

unless_other : (o : Option Stop) (c : Commit) → IsOther o → unless_stopped o (Done c) ≡ Stopped Fetch → ⊥
unless_other None c h e = cc
unless_other (Some stop) c h e = let same : stop ≡ Fetch = cc in h (ap (λ z. Some z) same)

return_other : (x : ExtensionTree) (s : Arch) (word : ℕ) (back : Option ℕ) → of_return x s word back ≡ Stopped Fetch → ⊥
unfolding of_return
return_other x s word None e = cc
return_other x s word (Some at) e = cc

decoded_other : (x : ExtensionTree) (s : Arch) (word : ℕ) (o : Option Decoded) → of_decoded x s word o ≡ Stopped Fetch → ⊥
unfolding attempted
decoded_other x s word None e = return_other x s word (return_to word s.trap) e
decoded_other x s word (Some d) e = unless_other (stop_of d (own_effect x s word d)) (commit_of s.pc word (whole_effect x s word d)) (stop_other d (own_effect x s word d)) e

pub fetch_none : (x : ExtensionTree) (image : List ℕ) (s : Arch) → step x image s ≡ Stopped Fetch → word_at image s.pc ≡ None
unfolding step
fetch_none x image s e = by_word (word_at image s.pc) e where
  by_word : (o : Option ℕ) → of_word x s o ≡ Stopped Fetch → o ≡ None
  by_word None q = refl
  by_word (Some word) q = absurd (decoded_other x s word (decoded_in x word) q)
