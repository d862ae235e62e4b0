-- From effects to records: where effects agree, words come to the same.
use Rattle.std.proofs.Common.{◌≢◌, inl, inr, ◌≡◌, refl, sym, ap, subst, ◌∙◌, ℕ, ◌+◌, ◌%◌, ◌^◌, ◌<◌, List, get_or, length, Option, Some, None, Bool, true, false, cond}
use Rattle.std.specs.Prelude.{◌⊎◌, option_map, slice_index, is_some, is_none, ◌&&◌, nat_eq, unwrap_or}
use Rattle.std.specs.Option.{option_or}
use Rattle.std.proofs.lemmas.List.{get_or-set_other}
use Rattle.std.proofs.lemmas.Bool.{eq-eqb, false≢true}
use Rattle.ix_bits.specs.declared.number.Bits.{Bits}
use Rattle.ix_extension.specs.Extensions.{ExtensionTree}
use Rattle.ix_mean.specs.declared.evaluate.State.{State}
use Rattle.ix_eval.specs.declared.access.Access.{Access}
use Rattle.ix_eval.specs.declared.effect.Effect.{Effect}
use Rattle.rv_isa.specs.declared.base.Base.{Base}
use Rattle.rv_isa.specs.Fields.{rd_of}
use Rattle.rv_seq.specs.declared.decoded.Decoded.{Decoded}
use Rattle.rv_seq.specs.declared.decoded.Decoded.TheVariants as D
use Rattle.rv_seq.specs.WordEffects.{customs_over, over, blocks_effect}
use Rattle.rv_asks.specs.declared.asks.Asks.{Asks}
use Rattle.rv_seq.specs.declared.arch.Arch.{Arch}
use Rattle.rv_seq.specs.declared.answer.StepAnswer.{StepAnswer}
use Rattle.rv_seq.specs.declared.answer.StepAnswer.TheVariants.{Done, Stopped}
use Rattle.rv_seq.specs.declared.commit.Commit.{Commit}
use Rattle.rv_seq.specs.declared.commit.Slot.TheVariants.{Absent, Now}
use Rattle.rv_seq.specs.declared.commit.Stop.{Stop}
use Rattle.rv_seq.specs.Commits.{x_index, x_slot, slot_of, commit_of, with_x, with_store, applied}
use Rattle.rv_seq.specs.Runs.{stored_at, access_in}
use Rattle.rv_seq.specs.Steps.{return_effect, of_return, own_effect, whole_effect, unless_stopped, attempted, of_decoded}
use Rattle.rv_seq.specs.Stops.{call_stop, load_stop, store_stop, target_stop, stop_of}
use Rattle.rv_seq.specs.States.{state_at, inputs_at}
use Rattle.rv_tried.specs.Tried.{effect_seen, whole_seen, tried_instruction, tried_return, tried, blocks_seen, unless_stopping, load_unless, marked}
use Rattle.rv_lawful.specs.Forwarding.{value_in, x_written}
use Rattle.rv_lawful.specs.Settings.{does_access}
use Rattle.rv_lawful.specs.Outstanding.{is_register}
use Rattle.rv_lawful.specs.Sight.{IsEarlyCommit, IsEarly, IsKept}
use Rattle.rv_sight.specs.Written.{IsAskedFor}
use Rattle.rv_sight.proofs.Parts.{effect_from, table_get, table_none}

-- ---- effects behind those of always-blocks
-- the blocks' effects agree where it counts
pub record IsSameBlocks (b c : Effect) : Type 0 where
  pub pc : b.pc ≡ c.pc
  pub custom : b.custom ≡ c.custom

pub over_same : (e f b c : Effect) → e ≡ f → IsSameBlocks b c → over e b ≡ over f c
unfolding over
over_same e f b c h g =
    effect_from (over e b) (over f c) (ap (λ (z : Effect). z.rd) h)
    (ap (λ (z : Effect). option_or z.pc b.pc) h ∙ ap (option_or f.pc) g.pc)
    (ap (λ (z : Effect). customs_over z.custom b.custom) h ∙ ap (customs_over f.custom) g.custom)
    (ap (λ (z : Effect). z.load) h) (ap (λ (z : Effect). z.store) h)

pub over_blocks : (e f b c : Effect) → e.pc ≡ f.pc → e.custom ≡ f.custom → IsSameBlocks b c → IsSameBlocks (over e b) (over f c)
unfolding over
over_blocks e f b c p q g =
    record { pc = ap (λ (z : Option ℕ). option_or z b.pc) p ∙ ap (option_or f.pc) g.pc; custom = ap (λ (z : List (Option Bits)). customs_over z b.custom) q ∙ ap (customs_over f.custom) g.custom }

-- ---- exactly the same
pub exact_answer : (x : ExtensionTree) (i : State) (memory : List ℕ) (back : Option ℕ) (s : Arch) (code : ℕ) (d : Decoded) → i.word ≡ code → i.pc ≡ s.pc → effect_seen x i memory d ≡ own_effect x s code d → whole_seen x i memory d ≡ whole_effect x s code d
    → (tried x i memory back (Some d)).answer ≡ of_decoded x s code (Some d)
unfolding tried tried_instruction attempted
exact_answer x i memory back s code d w p e h =
    ap (λ (z : Effect). unless_stopped (stop_of d z) (Done (commit_of i.pc i.word (whole_seen x i memory d)))) e
    ∙ ap (λ (z : Effect). unless_stopped (stop_of d (own_effect x s code d)) (Done (commit_of i.pc i.word z))) h
    ∙ ap (λ (z : ℕ). unless_stopped (stop_of d (own_effect x s code d)) (Done (commit_of z i.word (whole_effect x s code d)))) p
    ∙ ap (λ (z : ℕ). unless_stopped (stop_of d (own_effect x s code d)) (Done (commit_of s.pc z (whole_effect x s code d)))) w

-- ---- the same but for rd and late writes
pub record IsEarlyEffect (a : Asks) (e f : Effect) : Type 0 where
  pub load : e.load ≡ f.load
  pub store : e.store ≡ f.store
  pub pc : a.late ≡ false → e.pc ≡ f.pc
  pub customs : (r : ℕ) → get_or a.late_customs r false ≡ false → get_or a.spawned_customs r false ≡ false → get_or e.custom r None ≡ get_or f.custom r None

pub early_commit : (a : Asks) (at code : ℕ) (e f b c : Effect) → IsEarlyEffect a e f → IsSameBlocks b c → IsEarlyCommit a (commit_of at code (over e b)) (commit_of at code (over f c))
unfolding over commit_of
early_commit a at code e f b c h g =
    record {
      store = h.store;
      next = λ l.
          ap (λ (z : Option ℕ). unwrap_or (option_or z b.pc) ((at + 4) % 2 ^ 32)) (h.pc l) ∙ ap (λ (z : Option ℕ). unwrap_or (option_or f.pc z) ((at + 4) % 2 ^ 32)) g.pc;
      customs = λ r l s.
          table_get (λ m. slot_of (get_or (customs_over e.custom b.custom) m None)) (λ m. slot_of (get_or (customs_over f.custom c.custom) m None)) 16 r Absent
          (λ few. ap slot_of
          (table_get (λ m. option_or (get_or e.custom m None) (get_or b.custom m None)) (λ m. option_or (get_or f.custom m None) (get_or c.custom m None)) 16 r None
          (λ less. ap (λ (z : Option Bits). option_or z (get_or b.custom r None)) (h.customs r l s) ∙ ap (λ (z : List (Option Bits)). option_or (get_or f.custom r None) (get_or z r None)) g.custom)));
    }

early_answers : (a : Asks) (c d : Commit) (o p : Option Stop) → o ≡ p → IsEarlyCommit a c d → IsEarly a (unless_stopped o (Done c)) (unless_stopped p (Done d))
early_answers a c d o p e h = subst (λ (z : Option Stop). IsEarly a (unless_stopped o (Done c)) (unless_stopped z (Done d))) e (by o)
  where
    by : (o : Option Stop) → IsEarly a (unless_stopped o (Done c)) (unless_stopped o (Done d))
    by None = h
    by (Some stop) = refl

pub early_answer : (a : Asks) (x : ExtensionTree) (i : State) (memory : List ℕ) (back : Option ℕ) (s : Arch) (code : ℕ) (d : Decoded) → i.word ≡ code → i.pc ≡ s.pc → stop_of d (effect_seen x i memory d) ≡ stop_of d (own_effect x s code d)
    → IsEarlyCommit a (commit_of s.pc code (whole_seen x i memory d)) (commit_of s.pc code (whole_effect x s code d)) → IsEarly a (tried x i memory back (Some d)).answer (of_decoded x s code (Some d))
unfolding tried tried_instruction attempted
early_answer a x i memory back s code d w p e h =
    let P : ℕ → ℕ → Type 0 = λ y z. IsEarly a (unless_stopped (stop_of d (effect_seen x i memory d)) (Done (commit_of y z (whole_seen x i memory d)))) (unless_stopped (stop_of d (own_effect x s code d)) (Done (commit_of s.pc code (whole_effect x s code d)))) in
    let here : P s.pc code = early_answers a (commit_of s.pc code (whole_seen x i memory d)) (commit_of s.pc code (whole_effect x s code d)) (stop_of d (effect_seen x i memory d)) (stop_of d (own_effect x s code d)) e h in
    subst (λ (y : ℕ). P y i.word) (sym p) (subst (λ (z : ℕ). P s.pc z) (sym w) here)

pub same_access : (x : ExtensionTree) (i : State) (memory : List ℕ) (back : Option ℕ) (s : Arch) (code : ℕ) (d : Decoded) → stop_of d (effect_seen x i memory d) ≡ stop_of d (own_effect x s code d)
    → (effect_seen x i memory d).load ≡ (own_effect x s code d).load → (effect_seen x i memory d).store ≡ (own_effect x s code d).store → (tried x i memory back (Some d)).accesses ≡ does_access x s code (Some d)
unfolding tried tried_instruction
same_access x i memory back s code d e l t =
    ap (λ (z : Option Stop). is_none z && is_some (access_in (effect_seen x i memory d))) e
    ∙ ap (λ (z : Option Access). is_none (stop_of d (own_effect x s code d)) && is_some (option_or z (option_map stored_at (effect_seen x i memory d).store))) l
    ∙ ap (λ (z : Option (Access × ℕ)). is_none (stop_of d (own_effect x s code d)) && is_some (option_or (own_effect x s code d).load (option_map stored_at z))) t

-- and it has the same load
pub same_load : (x : ExtensionTree) (i : State) (memory : List ℕ) (back : Option ℕ) (s : Arch) (code : ℕ) (d : Decoded) → stop_of d (effect_seen x i memory d) ≡ stop_of d (own_effect x s code d)
    → (effect_seen x i memory d).load ≡ (own_effect x s code d).load → (tried x i memory back (Some d)).load ≡ (tried x (state_at code s) s.mem back (Some d)).load
unfolding tried tried_instruction
same_load x i memory back s code d e l =
    ap (λ (z : Option Stop). load_unless z (effect_seen x i memory d).load) e ∙ ap (load_unless (stop_of d (own_effect x s code d))) l

-- what the always-blocks write, and which registers the instruction itself does
pub same_blocks : (x : ExtensionTree) (i : State) (memory : List ℕ) (back : Option ℕ) (s : Arch) (code : ℕ) (d : Decoded) → stop_of d (effect_seen x i memory d) ≡ stop_of d (own_effect x s code d)
    → (blocks_seen x i memory).custom ≡ (blocks_seen x (state_at code s) s.mem).custom → (tried x i memory back (Some d)).blocks ≡ (tried x (state_at code s) s.mem back (Some d)).blocks
unfolding tried tried_instruction
same_blocks x i memory back s code d e h =
    ap (λ (z : Option Stop). unless_stopping z (blocks_seen x i memory).custom) e ∙ ap (unless_stopping (stop_of d (own_effect x s code d))) h

pub same_own : (x : ExtensionTree) (i : State) (memory : List ℕ) (back : Option ℕ) (s : Arch) (code : ℕ) (d : Decoded) → effect_seen x i memory d ≡ own_effect x s code d
    → (tried x i memory back (Some d)).own ≡ (tried x (state_at code s) s.mem back (Some d)).own
unfolding tried tried_instruction
same_own x i memory back s code d e = ap (λ (z : Effect). marked (unless_stopping (stop_of d z) z.custom)) e

-- ---- a word that is no instruction
pub unknown_answer : (x : ExtensionTree) (i : State) (memory : List ℕ) (back : Option ℕ) (s : Arch) (code : ℕ) → i.word ≡ code → i.pc ≡ s.pc → IsSameBlocks (blocks_seen x i memory) (blocks_effect x (inputs_at code s) (length x.blocks))
    → (tried x i memory back None).answer ≡ of_return x s code back
unfolding tried tried_return of_return
unknown_answer x i memory None s code w p h = refl
unknown_answer x i memory (Some at) s code w p h =
    let there = over (return_effect at) (blocks_effect x (inputs_at code s) (length x.blocks)) in
    ap (λ (z : Effect). Done (commit_of i.pc i.word z)) (over_same (return_effect at) (return_effect at) (blocks_seen x i memory) (blocks_effect x (inputs_at code s) (length x.blocks)) refl h)
    ∙ ap (λ (z : ℕ). Done (commit_of z i.word there)) p
    ∙ ap (λ (z : ℕ). Done (commit_of s.pc z there)) w

pub unknown_access : (x : ExtensionTree) (i : State) (memory : List ℕ) (back : Option ℕ) (s : Arch) (code : ℕ) → (tried x i memory back None).accesses ≡ does_access x s code None
unfolding tried tried_return
unknown_access x i memory None s code = refl
unknown_access x i memory (Some at) s code = refl

pub unknown_load : (x : ExtensionTree) (i : State) (memory : List ℕ) (back : Option ℕ) (s : Arch) (code : ℕ) → (tried x i memory back None).load ≡ (tried x (state_at code s) s.mem back None).load
unfolding tried tried_return
unknown_load x i memory None s code = refl
unknown_load x i memory (Some at) s code = refl

pub unknown_blocks : (x : ExtensionTree) (i : State) (memory : List ℕ) (back : Option ℕ) (s : Arch) (code : ℕ) → (blocks_seen x i memory).custom ≡ (blocks_seen x (state_at code s) s.mem).custom
    → (tried x i memory back None).blocks ≡ (tried x (state_at code s) s.mem back None).blocks
unfolding tried tried_return
unknown_blocks x i memory None s code h = refl
unknown_blocks x i memory (Some at) s code h = h

pub unknown_own : (x : ExtensionTree) (i : State) (memory : List ℕ) (back : Option ℕ) (s : Arch) (code : ℕ) → (tried x i memory back None).own ≡ (tried x (state_at code s) s.mem back None).own
unfolding tried tried_return
unknown_own x i memory None s code = refl
unknown_own x i memory (Some at) s code = refl

-- each answer is early with itself
pub early_itself : (a : Asks) (z : StepAnswer) → IsEarly a z z
early_itself a (Done c) = record { store = refl; next = λ l. refl; customs = λ r l s. refl }
early_itself a (Stopped stop) = refl

-- ---- the x register
-- the value that is written to this x register, where the instruction does not stop
abbrev x_unless : Option Stop → ℕ → Option ℕ → Option ℕ
x_unless None rd value = value_in (x_slot rd value)
x_unless (Some stop) rd value = None

written_is : (o : Option Stop) (at word : ℕ) (e b : Effect) → x_written (unless_stopped o (Done (commit_of at word (over e b)))) ≡ x_unless o (rd_of word) e.rd
unfolding over commit_of
written_is None at word e b = refl
written_is (Some stop) at word e b = refl

-- the same is written to the x register
pub same_x : (x : ExtensionTree) (i : State) (memory : List ℕ) (back : Option ℕ) (s : Arch) (code : ℕ) (d : Decoded) → i.word ≡ code → stop_of d (effect_seen x i memory d) ≡ stop_of d (own_effect x s code d)
    → (effect_seen x i memory d).rd ≡ (own_effect x s code d).rd → x_written (tried x i memory back (Some d)).answer ≡ x_written (of_decoded x s code (Some d))
unfolding tried tried_instruction attempted
same_x x i memory back s code d w e r =
    written_is (stop_of d (effect_seen x i memory d)) i.pc i.word (effect_seen x i memory d) (blocks_seen x i memory)
    ∙ ap (λ (z : Option Stop). x_unless z (rd_of i.word) (effect_seen x i memory d).rd) e
    ∙ ap (x_unless (stop_of d (own_effect x s code d)) (rd_of i.word)) r
    ∙ ap (λ (z : ℕ). x_unless (stop_of d (own_effect x s code d)) (rd_of z) (own_effect x s code d).rd) w
    ∙ sym (written_is (stop_of d (own_effect x s code d)) s.pc code (own_effect x s code d) (blocks_effect x (inputs_at code s) (length x.blocks)))

-- an instruction of an extension stops by its load or its store
pub own_stop : (n : ℕ) (e f : Effect) → e.load ≡ f.load → e.store ≡ f.store → stop_of (D.Own n) e ≡ stop_of (D.Own n) f
own_stop n e f l t =
    ap (λ (z : Option Access). option_or (option_or (option_or None (load_stop z)) (store_stop e.store)) None) l
    ∙ ap (λ (z : Option (Access × ℕ)). option_or (option_or (option_or None (load_stop f.load)) (store_stop z)) None) t

pub base_stop : (b : Base) (e f : Effect) → e.load ≡ f.load → e.store ≡ f.store → e.pc ≡ f.pc → stop_of (D.Base b) e ≡ stop_of (D.Base b) f
base_stop b e f l t p =
    ap (λ (z : Option Access). option_or (option_or (option_or (call_stop (D.Base b)) (load_stop z)) (store_stop e.store)) (target_stop (D.Base b) e.pc)) l
    ∙ ap (λ (z : Option (Access × ℕ)). option_or (option_or (option_or (call_stop (D.Base b)) (load_stop f.load)) (store_stop z)) (target_stop (D.Base b) e.pc)) t
    ∙ ap (λ (z : Option ℕ). option_or (option_or (option_or (call_stop (D.Base b)) (load_stop f.load)) (store_stop f.store)) (target_stop (D.Base b) z)) p

-- ---- what a record keeps
pub record IsUnasked (a : Asks) (code : ℕ) (e b : Effect) : Type 0 where
  pub rd : (v : ℕ) → e.rd ≡ Some v → (a.destination ≡ rd_of code) ⊎ (a.spawned ≡ Some (rd_of code))
  pub target : (r : ℕ) → a.spawned ≡ Some r → rd_of code ≡ r
  pub own : (r : ℕ) → r < 16 → get_or a.customs r false ≡ false → get_or e.custom r None ≡ None
  pub blocks : (r : ℕ) → r < 16 → get_or a.customs r false ≡ false → get_or b.custom r None ≡ None
  pub store : a.stores ≡ false → e.store ≡ None

x_kept : (x : List ℕ) (rd r : ℕ) (o : Option ℕ) → ((v : ℕ) → o ≡ Some v → nat_eq rd 0 ≡ false → rd ≡ r → ⊥) → slice_index (with_x x (x_index rd o) (x_slot rd o)) r ≡ slice_index x r
x_kept x rd r None h = refl
x_kept x rd r (Some v) h = by (nat_eq rd 0) refl
  where
    by : (b : Bool) → nat_eq rd 0 ≡ b → slice_index (with_x x rd (cond b Absent (Now v))) r ≡ slice_index x r
    by true e = refl
    by false e = get_or-set_other x rd r v 0 (λ q. h v refl e (sym q))

-- the register is neither the destination nor the spawn target
neither : (a : Asks) (r rd : ℕ) → r ≢ a.destination → is_register a.spawned r ≡ false → rd ≡ r → (a.destination ≡ rd) ⊎ (a.spawned ≡ Some rd) → ⊥
neither a r rd other unspawned same h = elim h [
  | inl e ↦ other (sym same ∙ sym e)
  | inr e ↦ false≢true (sym unspawned ∙ ap (λ (o : Option ℕ). is_register o r) e ∙ eq-eqb rd r same)
]

-- what a record keeps, and which x register it writes
pub record IsHeld (a : Asks) (s : Arch) (code : ℕ) (c : Commit) : Type 0 where
  pub kept : IsKept a s code c
  pub asked : IsAskedFor a c

x_some : (rd : ℕ) (o : Option ℕ) (v : ℕ) → x_slot rd o ≡ Now v → x_index rd o ≢ 0
x_some rd None v e = cc
x_some rd (Some u) v e = λ zero_is. by (nat_eq rd 0) (eq-eqb rd 0 zero_is) e
  where
    by : (b : Bool) → b ≡ true → (cond b Absent (Now u)) ≡ Now v → ⊥
    by true q h = cc h
    by false q h = cc q

x_own : (a : Asks) (rd : ℕ) (o : Option ℕ) (v : ℕ) → ((u : ℕ) → o ≡ Some u → (a.destination ≡ rd) ⊎ (a.spawned ≡ Some rd)) → x_slot rd o ≡ Now v → (x_index rd o ≡ a.destination) ⊎ (a.spawned ≡ Some (x_index rd o))
x_own a rd None v h e = cc
x_own a rd (Some u) v h e = elim (h u refl) [ inl d ↦ inl (sym d) | inr d ↦ inr d ]

x_target : (rd : ℕ) (o : Option ℕ) (v r : ℕ) → rd ≡ r → x_slot rd o ≡ Now v → x_index rd o ≡ r
x_target rd None v r h e = cc
x_target rd (Some u) v r h e = h

asked_from : (a : Asks) (s : Arch) (code : ℕ) (e b : Effect) → IsUnasked a code e b → IsAskedFor a (commit_of s.pc code (over e b))
unfolding over commit_of
asked_from a s code e b h = record { some = λ v is. x_some (rd_of code) e.rd v is; own = λ v is. x_own a (rd_of code) e.rd v h.rd is; spawned = λ v r is target. x_target (rd_of code) e.rd v r (h.target r target) is }

kept_from : (a : Asks) (s : Arch) (code : ℕ) (e b : Effect) → IsUnasked a code e b → IsKept a s code (commit_of s.pc code (over e b))
unfolding over commit_of applied
kept_from a s code e b h =
    record {
      at = refl;
      word = refl;
      next = refl;
      x = λ r other unspawned. x_kept s.x (rd_of code) r e.rd (λ v is zero_is same. neither a r (rd_of code) other unspawned same (h.rd v is));
      zero = x_kept s.x (rd_of code) 0 e.rd (λ v is zero_is same. false≢true (sym zero_is ∙ eq-eqb (rd_of code) 0 same));
      customs = λ r none.
          table_none (λ m. slot_of (get_or (customs_over e.custom b.custom) m None)) 16 r Absent
          (λ few. ap slot_of
          (table_none (λ m. option_or (get_or e.custom m None) (get_or b.custom m None)) 16 r None
          (λ less. ap (λ (z : Option Bits). option_or z (get_or b.custom r None)) (h.own r few none) ∙ h.blocks r few none)));
      memory = λ none. ap (with_store s.mem) (h.store none);
    }

pub held_from : (a : Asks) (s : Arch) (code : ℕ) (e b : Effect) → IsUnasked a code e b → IsHeld a s code (commit_of s.pc code (over e b))
held_from a s code e b h = record { kept = kept_from a s code e b h; asked = asked_from a s code e b h }

done_is : (o : Option Stop) (c d : Commit) → unless_stopped o (Done c) ≡ Done d → c ≡ d
done_is None c d e = cc
done_is (Some stop) c d e = cc

pub held_by : (a : Asks) (x : ExtensionTree) (s : Arch) (code : ℕ) (d : Decoded) (c : Commit) → IsHeld a s code (commit_of s.pc code (whole_effect x s code d)) → of_decoded x s code (Some d) ≡ Done c → IsHeld a s code c
unfolding attempted
held_by a x s code d c h e = subst (IsHeld a s code) (done_is (stop_of d (own_effect x s code d)) (commit_of s.pc code (whole_effect x s code d)) c e) h

-- a return writes nothing itself
pub held_return : (a : Asks) (x : ExtensionTree) (s : Arch) (code : ℕ) (back : Option ℕ) (c : Commit) → ((at : ℕ) → IsHeld a s code (commit_of s.pc code (over (return_effect at) (blocks_effect x (inputs_at code s) (length x.blocks)))))
    → of_return x s code back ≡ Done c → IsHeld a s code c
unfolding of_return
held_return a x s code None c h e = cc
held_return a x s code (Some at) c h e =
    let same : commit_of s.pc code (over (return_effect at) (blocks_effect x (inputs_at code s) (length x.blocks))) ≡ c = cc in
    subst (IsHeld a s code) same (h at)
