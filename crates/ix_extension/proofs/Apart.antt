-- An extension that breaks no rule has no word that is two instructions.
use Rattle.std.proofs.Common.{◌≡◌, refl, sym, ap, subst, ℕ, ◌<◌, arith, List, [], ◌∷◌, Option, Some, None, Bool, true, false, cond, rules, bit_and, bit_xor}
use Rattle.std.specs.Prelude.{All}
use Rattle.std.specs.List.{AllPairs}
use Rattle.std.proofs.lemmas.Bool.{eqb-true, ltb-true}
use Rattle.std.proofs.lemmas.List.Elements.{All-nil, All-cons}
use Rattle.std.proofs.lemmas.List.Kept.{AllPairs-cons}
use Rattle.ix_bits.specs.BaseTable.{is_match, are_apart, base_patterns}
use Rattle.rv_isa.proofs.MaskLemmas.{xor_under_both}
use Rattle.ix_tree.specs.TypedTrees.{TypedTextTree}
use Rattle.ix_extension.specs.Extensions.{InstructionTree, ExtensionTree, extension_of, all_instrs}
use Rattle.ix_extension.specs.Faults.{Fault, or_fault, fault_where, too_many, two_pc_blocks, pattern_of, word_of_both, shared_word, base_overlap_of, base_fault, overlap, overlap_with, overlap_fault, is_too_large, width_fault, twice_fault, extension_fault, first_fault}
use Rattle.ix_extension.specs.WellFormed.{IsOf}
use Rattle.ix_extension.specs.Laws.{ShareNone, IsNoBase}

pub share_none : (p q : ℕ × ℕ) → are_apart p q ≡ true → ShareNone p q
share_none p q a word m n =
    let e = xor_under_both word p.0 q.0 in
    let f = ltb-true 0 _ a in
    let x : bit_and word p.0 ≡ p.1 = eqb-true _ _ m in
    let y : bit_and word q.0 ≡ q.1 = eqb-true _ _ n in
    let g : bit_and (bit_xor p.1 q.1) (bit_and p.0 q.0) ≡ 0 = rw (x, y) at e in
    omega (arith, f, g)

-- where no rule is broken, none of its parts is
none_where : {A : Type 0} (b : Bool) (rest : Option A) (f : A) (G : Type 0) → (b ≡ true → rest ≡ None → G) → cond b rest (Some f) ≡ None → G
none_where true rest f G h e = h refl e
none_where false rest f G h e = cc

none_both : (o p : Option Fault) (G : Type 0) → (o ≡ None → p ≡ None → G) → or_fault o p ≡ None → G
none_both None p G h e = h refl e
none_both (Some f) p G h e = cc

none_base : (name : List ℕ) (o : Option ℕ) → base_overlap_of name o ≡ None → o ≡ None
none_base name None e = refl
none_base name (Some word) e = cc

-- ---- base rows
shared_none : (p : ℕ × ℕ) (qs : List (ℕ × ℕ)) → shared_word p qs ≡ None → All (λ q. ShareNone p q) qs
shared_none p [] e = All-nil (λ (q : ℕ × ℕ). ShareNone p q)
shared_none p (q ∷ qs) e =
    none_where (are_apart p q) (shared_word p qs) (word_of_both p q) _ (λ a r. All-cons (λ (q : ℕ × ℕ). ShareNone p q) q qs (share_none p q a) (shared_none p qs r)) e

base_none : (xs : List InstructionTree) → base_fault xs ≡ None → All IsNoBase xs
base_none [] e = All-nil IsNoBase
base_none (x ∷ xs) e =
    none_both (base_overlap_of x.behaviour.name (shared_word (pattern_of x) base_patterns)) (base_fault xs) _ (λ o r.
    All-cons IsNoBase x xs (shared_none (pattern_of x) base_patterns (none_base x.behaviour.name _ o)) (base_none xs r)) e

-- ---- pairs of instructions
pairs_nil : {A : Type 0} (R : A → A → Type 0) → AllPairs R []
pairs_nil R = search rules

abbrev Apart : InstructionTree → InstructionTree → Type 0
Apart a b = ShareNone (pattern_of a) (pattern_of b)

with_none : (x : InstructionTree) (ys : List InstructionTree) → overlap_with x ys ≡ None → All (Apart x) ys
with_none x [] e = All-nil (Apart x)
with_none x (y ∷ ys) e =
    none_where (are_apart (pattern_of x) (pattern_of y)) (overlap_with x ys) _ _ (λ a r. All-cons (Apart x) y ys (share_none (pattern_of x) (pattern_of y) a) (with_none x ys r)) e

pairs_none : (xs : List InstructionTree) → overlap_fault xs ≡ None → AllPairs Apart xs
pairs_none [] e = pairs_nil Apart
pairs_none (x ∷ xs) e = none_both (overlap_with x xs) (overlap_fault xs) _ (λ o r. AllPairs-cons Apart x xs (with_none x xs o) (pairs_none xs r)) e

-- ---- extensions
extension_apart : (x : ExtensionTree) → extension_fault x ≡ None → AllPairs Apart x.instructions × All IsNoBase x.instructions
extension_apart x e =
    none_both (fault_where (is_too_large x) too_many) _ _ (λ a r.
    none_both (base_fault x.instructions) _ _ (λ b s.
    none_both (overlap_fault x.instructions) _ _ (λ o u. (pairs_none x.instructions o, base_none x.instructions b)) s) r) e

pub one_instruction : (t : TypedTextTree) (x : ExtensionTree) → IsOf t x → AllPairs Apart x.instructions × All IsNoBase x.instructions
one_instruction t x h =
    let P : ExtensionTree → Type 0 = λ z. AllPairs Apart z.instructions × All IsNoBase z.instructions in
    subst P (sym h.parts)
    (none_both (width_fault (all_instrs t.sections)) _ _ (λ a r.
    none_both (twice_fault (all_instrs t.sections)) _ _ (λ b s. extension_apart (extension_of t) s) r) h.sound)
