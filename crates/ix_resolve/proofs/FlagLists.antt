-- Flags that are set one after the other.
use Rattle.std.proofs.Common.{◌≡◌, ◌∙◌, sym, ap, refl, ℕ, ◌+◌, ◌<◌, ◌≤◌, List, [], ◌∷◌, ◌++◌, set, map, take, Bool, true, false, append_assoc, length-append, arith, drop, drop-cons, add-one, length, get_or}
use Rattle.std.proofs.lemmas.List.{drop_all, append-nil}
use Rattle.ix_mean.specs.declared.resolved.ResolvedStmt.{ResolvedStmt}
use Rattle.ix_bits.specs.declared.number.Ty.{Ty}
use Rattle.ix_mean.specs.Core.{u1}
use Rattle.ix_slots.specs.Spawned.{written_in, written_among, spawned_in, spawned_among}
use Rattle.ix_behaviour.specs.Flags.{unmarked, marked}

pub marked_both : (fs : List Bool) (xs ys : List ℕ) → marked fs (xs ++ ys) ≡ marked (marked fs xs) ys
marked_both fs [] ys = refl
marked_both fs (x ∷ xs) ys = marked_both (set fs x true) xs ys

pub written_rest : (xs : List ResolvedStmt) (k : ℕ) (x : ResolvedStmt) → k < length xs → x ≡ get_or xs k x → written_among (drop k xs) ≡ written_in x ++ written_among (drop (k + 1) xs)
written_rest xs k x h e = rw (add-one, drop-cons xs k x, ← e) refl

pub spawned_rest : (xs : List ResolvedStmt) (k : ℕ) (x : ResolvedStmt) → k < length xs → x ≡ get_or xs k x → spawned_among (drop k xs) ≡ spawned_in x ++ spawned_among (drop (k + 1) xs)
spawned_rest xs k x h e = rw (add-one, drop-cons xs k x, ← e) refl

-- one more flag
pub flag_more : (fs now : List Bool) (ts : List Ty) (all : List Bool) → length fs < length ts → now ≡ fs ++ false ∷ [] → fs ++ map unmarked (drop (length fs) ts) ≡ all
    → now ++ map unmarked (drop (length now) ts) ≡ all
flag_more fs now ts all h e f =
    let t = get_or ts (length fs) u1 in
    let count : length (fs ++ false ∷ []) ≡ length fs + 1 = length-append fs (false ∷ []) in
    let front : drop (length fs) ts ≡ t ∷ drop (length fs + 1) ts = rw (add-one, drop-cons ts (length fs) u1) refl in
    ap (λ (z : List Bool). z ++ map unmarked (drop (length z) ts)) e
    ∙ ap (λ (k : ℕ). (fs ++ false ∷ []) ++ map unmarked (drop k ts)) count
    ∙ append_assoc fs (false ∷ []) (map unmarked (drop (length fs + 1) ts))
    ∙ ap (λ (z : List Ty). fs ++ map unmarked z) (sym front)
    ∙ f
