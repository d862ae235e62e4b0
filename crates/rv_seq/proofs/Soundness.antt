-- The record of a step has the widths of its extension, and stores within the memory.
use Rattle.std.proofs.Common.{◌≡◌, ◌∙◌, sym, ap, subst, refl, ℕ, ◌%◌, Option, Some, None, Bool, true, false}
use Rattle.std.specs.Prelude.{if◌then◌else◌, nat_eq}
use Rattle.std.specs.Option.{option_or}
use Rattle.ix_extension.specs.Extensions.{ExtensionTree}
use Rattle.ix_mean.specs.Meaning.{Inputs}
use Rattle.ix_eval.specs.declared.access.Access.{Access}
use Rattle.ix_eval.specs.declared.effect.Effect.{Effect}
use Rattle.rv_memory.specs.Room.{is_inside}
use Rattle.rv_seq.specs.declared.decoded.Decoded.{Decoded}
use Rattle.rv_seq.specs.WordEffects.{effect_of, over, blocks_effect}
use Rattle.rv_seq.specs.declared.commit.Stop.{Stop}
use Rattle.rv_seq.specs.declared.commit.Stop.TheVariants.{Misaligned, DataRange}
use Rattle.rv_seq.specs.declared.commit.Commit.{Commit}
use Rattle.rv_seq.specs.Commits.{IsStoredInside, commit_of}
use Rattle.rv_seq.specs.Stops.{access_stop, load_stop, store_stop, call_stop, target_stop, stop_of}
use Rattle.rv_seq.specs.Steps.{return_effect}
use Rattle.rv_seq.specs.Sound.{IsSoundCommit}
use Rattle.rv_seq.proofs.Wide.{slots_wide, whole_fit, return_fit}

or_left : (o p : Option Stop) → option_or o p ≡ None → o ≡ None
or_left None p e = refl
or_left (Some v) p e = e

or_right : (o p : Option Stop) → option_or o p ≡ None → p ≡ None
or_right None p e = e
or_right (Some v) p e = absurd cc

inside_test : (p q : Bool) → (if p then (if q then None else Some DataRange) else Some Misaligned) ≡ None → q ≡ true
inside_test true true e = refl
inside_test true false e = absurd cc
inside_test false q e = absurd cc

inside_of : (s : Option (Access × ℕ)) → store_stop s ≡ None → IsStoredInside s
inside_of None e = tt
inside_of (Some s) e = inside_test (nat_eq (s.0.at % s.0.bytes) 0) (is_inside s.0.at s.0.bytes) e

stored_inside : (d : Decoded) (e : Effect) → stop_of d e ≡ None → IsStoredInside e.store
stored_inside d e h =
    let a = call_stop d in
    let b = load_stop e.load in
    let s = store_stop e.store in
    inside_of e.store (or_right (option_or a b) s (or_left (option_or (option_or a b) s) (target_stop d e.pc) h))

sound_of : (x : ExtensionTree) (d : Decoded) (i : Inputs) (n at word : ℕ) → stop_of d (effect_of x d i) ≡ None
    → IsSoundCommit x (commit_of at word (over (effect_of x d i) (blocks_effect x i n)))
unfolding commit_of over
sound_of x d i n at word h =
    record { wide = slots_wide x (over (effect_of x d i) (blocks_effect x i n)).custom (whole_fit x d i n); inside = stored_inside d (effect_of x d i) h }

pub sound_commit : (x : ExtensionTree) (d : Decoded) (i : Inputs) (n at word : ℕ) (own blocks total : Effect) (c : Commit) → own ≡ effect_of x d i → blocks ≡ blocks_effect x i n
    → stop_of d own ≡ None → total ≡ over own blocks → c ≡ commit_of at word total → IsSoundCommit x c
sound_commit x d i n at word own blocks total c e f stop g h =
    let whole : c ≡ commit_of at word (over (effect_of x d i) (blocks_effect x i n)) =
    h ∙ ap (λ (z : Effect). commit_of at word z) (g ∙ ap (λ (z : Effect). over z blocks) e ∙ ap (λ (z : Effect). over (effect_of x d i) z) f) in
    subst (λ (z : Commit). IsSoundCommit x z) (sym whole) (sound_of x d i n at word (ap (λ (z : Effect). stop_of d z) (sym e) ∙ stop))

return_sound : (x : ExtensionTree) (i : Inputs) (n pc word at : ℕ) → IsSoundCommit x (commit_of pc word (over (return_effect at) (blocks_effect x i n)))
unfolding commit_of over
return_sound x i n pc word at = record { wide = slots_wide x (over (return_effect at) (blocks_effect x i n)).custom (return_fit x at i n); inside = tt }

-- a return stores nothing
pub sound_return : (x : ExtensionTree) (i : Inputs) (n pc word at : ℕ) (own blocks total : Effect) (c : Commit) → own ≡ return_effect at → blocks ≡ blocks_effect x i n
    → total ≡ over own blocks → c ≡ commit_of pc word total → IsSoundCommit x c
sound_return x i n pc word at own blocks total c e f g h =
    let whole : c ≡ commit_of pc word (over (return_effect at) (blocks_effect x i n)) =
    h ∙ ap (λ (z : Effect). commit_of pc word z) (g ∙ ap (λ (z : Effect). over z blocks) e ∙ ap (λ (z : Effect). over (return_effect at) z) f) in
    subst (λ (z : Commit). IsSoundCommit x z) (sym whole) (return_sound x i n pc word at)
