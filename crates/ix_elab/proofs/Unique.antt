-- A text has one extension, or one thing in it is refused first.
use Rattle.std.proofs.Common.{◌≡◌, ◌∙◌, sym, ap, subst, refl, ℕ, List, length, Option, Some, None, Bool, true, false, Result, Ok, Err, ◌⊎◌, inl, inr}
use Rattle.std.specs.Prelude.{IsOkUnless, IfOk, IfErr}
use Rattle.ix_tree.specs.declared.token.Span.{Span}
use Rattle.ix_tree.specs.declared.token.Token.{Token}
use Rattle.ix_tree.specs.declared.extension.Extension.{Extension}
use Rattle.ix_tree.specs.Lexing.{Lexes}
use Rattle.ix_tree.specs.Parsing.{IsVerdict, is_tree, refused_at, too_deep_at, Verdict}
use Rattle.ix_tree.specs.Trees.{TextTree}
use Rattle.ix_tree.specs.TypedTrees.{TypedTextTree}
use Rattle.ix_tree.specs.Unrolling.{Outcome, outcome, without_loops, refused, Refusal, bound_at, turns_at, assigned_at, size_at}
use Rattle.ix_tree.proofs.Parts.{lexes_unique}
use Rattle.ix_tree.proofs.Verdicts.{one_verdict}
use Rattle.ix_typing.specs.Refusals as T
use Rattle.ix_typing.specs.Texts.{judged_text}
use Rattle.ix_lex.specs.declared.error.LexErr.{LexErr}
use Rattle.ix_lex.specs.Refusals.{IsRefusal}
use Rattle.ix_lex.proofs.Readings.{refusal_excludes}
use Rattle.ix_unroll.specs.declared.error.UnrollErr.{UnrollErr}
use Rattle.ix_unroll.specs.declared.error.UnrollErr.TheVariants as U
use Rattle.ix_check_parts.specs.declared.error.CheckErr.{CheckErr}
use Rattle.ix_check_parts.specs.declared.error.CheckErr.TheVariants as C
use Rattle.ix_check_parts.specs.Telling.{refusal_of}
use Rattle.ix_extension.specs.Extensions.{ExtensionTree, view_extension}
use Rattle.ix_extension.specs.Faults.{Fault, first_fault, encoding_width, field_twice, too_many, base_overlap, overlap, two_pc_blocks}
use Rattle.ix_elab.specs.declared.error.FrontErr.{FrontErr}
use Rattle.ix_elab.specs.declared.error.FrontErr.TheVariants as F
use Rattle.ix_elab.specs.Elaborating.{IsTree, IsUnrolled, HasTypes, Elaborates}
use Rattle.ix_elab.specs.Refusing.{span_at, IsRefusedBy, IsNoText, Unrolls, IsNotUnrolled, IsNotTyped, IsBroken, IsBrokenAs, IsCause, IsRefused, IsErr}
use Rattle.ix_elab.proofs.Stops.{refusal_is_one}

-- ---- trees
same_tokens : (bytes : List ℕ) (xs ys : List Token) → Lexes bytes xs → Lexes bytes ys → xs ≡ ys
same_tokens bytes xs ys x y = lexes_unique x.reads y.reads

-- what is told of the tokens of a text
one_told : (bytes : List ℕ) (xs ys : List Token) (v w : Verdict) → Lexes bytes xs → Lexes bytes ys → IsVerdict xs v → IsVerdict ys w → v ≡ w
one_told bytes xs ys v w x y p q =
    let e = same_tokens bytes xs ys x y in
    one_verdict ys v w (subst (λ (z : List Token). IsVerdict z v) e p) q

same_tree : (bytes : List ℕ) (x y : TextTree) → IsTree bytes x → IsTree bytes y → x ≡ y
same_tree bytes x y p q = let e = one_told bytes p.tokens q.tokens (is_tree x) (is_tree y) p.lexed q.lexed p.derived q.derived in cc

abbrev verdict_by : Bool → ℕ → Verdict
verdict_by false n = refused_at n
verdict_by true n = too_deep_at n

by_verdict : (deep : Bool) (ts : List Token) (n : ℕ) → IsRefusedBy deep ts n → IsVerdict ts (verdict_by deep n)
by_verdict false ts n h = h
by_verdict true ts n h = h

tree_or_none : (bytes : List ℕ) (x : TextTree) (s : Span) (deep : Bool) → IsTree bytes x → IsNoText bytes s deep → ⊥
tree_or_none bytes x s false p q =
    let e = one_told bytes p.tokens q.tokens (is_tree x) (refused_at q.token) p.lexed q.lexed p.derived q.refused in cc
tree_or_none bytes x s true p q =
    let e = one_told bytes p.tokens q.tokens (is_tree x) (too_deep_at q.token) p.lexed q.lexed p.derived q.refused in cc

same_none : (bytes : List ℕ) (s t : Span) (d e : Bool) → IsNoText bytes s d → IsNoText bytes t e → F.Parse s d ≡ F.Parse t e
same_none bytes s t d e p q =
    let k = same_tokens bytes p.tokens q.tokens p.lexed q.lexed in
    let v = one_told bytes p.tokens q.tokens (verdict_by d p.token) (verdict_by e q.token) p.lexed q.lexed (by_verdict d p.tokens p.token p.refused) (by_verdict e q.tokens q.token q.refused) in
    let w = verdict_same d e p.token q.token v in
    let a : s ≡ t = p.place ∙ ap (λ (z : List Token). span_at z p.token (length bytes)) k ∙ ap (λ (n : ℕ). span_at q.tokens n (length bytes)) w.1 ∙ sym q.place in
    ap (λ (z : Span). F.Parse z d) a ∙ ap (F.Parse t) w.0
  where
    verdict_same : (d e : Bool) (m n : ℕ) → verdict_by d m ≡ verdict_by e n → (d ≡ e) × (m ≡ n)
    verdict_same false false m n e = (refl, cc)
    verdict_same false true m n e = cc
    verdict_same true false m n e = cc
    verdict_same true true m n e = (refl, cc)

-- ---- trees without loops
same_outcome : (bytes : List ℕ) (x y : TextTree) (o p : Outcome) → IsTree bytes x → IsTree bytes y → outcome x ≡ o → outcome y ≡ p → o ≡ p
same_outcome bytes x y o p h k e f = sym e ∙ ap outcome (same_tree bytes x y h k) ∙ f

same_unrolled : (bytes : List ℕ) (x y : TextTree) → IsUnrolled bytes x → IsUnrolled bytes y → x ≡ y
same_unrolled bytes x y p q = let e = same_outcome bytes p.looped q.looped (without_loops x) (without_loops y) p.tree q.tree p.unrolled q.unrolled in cc

abbrev unroll_refusal : UnrollErr → Refusal
unroll_refusal (U.Bound s) = bound_at s
unroll_refusal (U.Turns s) = turns_at s
unroll_refusal (U.Assigned s) = assigned_at s
unroll_refusal (U.Size s) = size_at s
unroll_refusal U.Memory = bound_at (record { from = 0; to = 0 })

unrolls_is : (e : UnrollErr) (t : TextTree) → Unrolls e t → outcome t ≡ refused (unroll_refusal e)
unrolls_is (U.Bound s) t h = h
unrolls_is (U.Turns s) t h = h
unrolls_is (U.Assigned s) t h = h
unrolls_is (U.Size s) t h = h
unrolls_is U.Memory t h = absurd h

abbrev unroll_error : Refusal → UnrollErr
unroll_error (bound_at s) = U.Bound s
unroll_error (turns_at s) = U.Turns s
unroll_error (assigned_at s) = U.Assigned s
unroll_error (size_at s) = U.Size s

unroll_back : (e : UnrollErr) (t : TextTree) → Unrolls e t → unroll_error (unroll_refusal e) ≡ e
unroll_back (U.Bound s) t h = refl
unroll_back (U.Turns s) t h = refl
unroll_back (U.Assigned s) t h = refl
unroll_back (U.Size s) t h = refl
unroll_back U.Memory t h = absurd h

unrolled_or_none : (bytes : List ℕ) (x : TextTree) (e : UnrollErr) → IsUnrolled bytes x → IsNotUnrolled bytes e → ⊥
unrolled_or_none bytes x e p q =
    let k = same_outcome bytes p.looped q.text (without_loops x) (refused (unroll_refusal e)) p.tree q.tree p.unrolled (unrolls_is e q.text q.refused) in cc

same_not_unrolled : (bytes : List ℕ) (d e : UnrollErr) → IsNotUnrolled bytes d → IsNotUnrolled bytes e → d ≡ e
same_not_unrolled bytes d e p q =
    let k = same_outcome bytes p.text q.text (refused (unroll_refusal d)) (refused (unroll_refusal e)) p.tree q.tree (unrolls_is d p.text p.refused) (unrolls_is e q.text q.refused) in
    let l : unroll_refusal d ≡ unroll_refusal e = cc in
    sym (unroll_back d p.text p.refused) ∙ ap unroll_error l ∙ unroll_back e q.text q.refused

-- ---- types
same_judged : (bytes : List ℕ) (x y : TextTree) (r s : Result TypedTextTree T.Refusal) → IsUnrolled bytes x → IsUnrolled bytes y → judged_text x ≡ r → judged_text y ≡ s → r ≡ s
same_judged bytes x y r s h k e f = sym e ∙ ap judged_text (same_unrolled bytes x y h k) ∙ f

same_types : (bytes : List ℕ) (x y : TypedTextTree) → HasTypes bytes x → HasTypes bytes y → x ≡ y
same_types bytes x y p q = let e = same_judged bytes p.flat q.flat (Ok x) (Ok y) p.tree q.tree p.judged q.judged in cc

types_or_none : (bytes : List ℕ) (x : TypedTextTree) (e : CheckErr) → HasTypes bytes x → IsNotTyped bytes e → ⊥
types_or_none bytes x e p q = let k = same_judged bytes p.flat q.text (Ok x) (Err q.refusal) p.tree q.tree p.judged q.judged in cc

abbrev check_error : T.Rule → Span → CheckErr
check_error T.unknown s = C.Unknown s
check_error T.twice s = C.Twice s
check_error T.narrow s = C.Narrow s
check_error T.too_wide s = C.TooWide s
check_error T.mixed s = C.Mixed s
check_error T.range s = C.Range s
check_error T.index s = C.Index s
check_error T.read_after_write s = C.ReadAfterWrite s
check_error T.double_write s = C.DoubleWrite s
check_error T.second_access s = C.SecondAccess s
check_error T.in_spawn s = C.InSpawn s
check_error T.rom s = C.Rom s

abbrev check_back : Option T.Refusal → CheckErr
check_back None = C.Memory
check_back (Some f) = check_error f.rule f.at

back_is : (e : CheckErr) → check_back (refusal_of e) ≡ e
back_is (C.Unknown s) = refl
back_is (C.Twice s) = refl
back_is (C.Narrow s) = refl
back_is (C.TooWide s) = refl
back_is (C.Mixed s) = refl
back_is (C.Range s) = refl
back_is (C.Index s) = refl
back_is (C.ReadAfterWrite s) = refl
back_is (C.DoubleWrite s) = refl
back_is (C.SecondAccess s) = refl
back_is (C.InSpawn s) = refl
back_is (C.Rom s) = refl
back_is C.Memory = refl

same_not_typed : (bytes : List ℕ) (d e : CheckErr) → IsNotTyped bytes d → IsNotTyped bytes e → d ≡ e
same_not_typed bytes d e p q =
    let k = same_judged bytes p.text q.text (Err p.refusal) (Err q.refusal) p.tree q.tree p.judged q.judged in
    let l : Some p.refusal ≡ Some q.refusal = cc in
    sym (back_is d) ∙ ap check_back (p.told ∙ l ∙ sym q.told) ∙ back_is e

-- ---- rules on encodings
same_first : (bytes : List ℕ) (x y : TypedTextTree) (o p : Option Fault) → HasTypes bytes x → HasTypes bytes y → first_fault x ≡ o → first_fault y ≡ p → o ≡ p
same_first bytes x y o p h k e f = sym e ∙ ap first_fault (same_types bytes x y h k) ∙ f

same_broken : (bytes : List ℕ) (f g : Fault) → IsBroken bytes f → IsBroken bytes g → f ≡ g
same_broken bytes f g p q = let e = same_first bytes p.text q.text (Some f) (Some g) p.typed q.typed p.first q.first in cc

sound_or_broken : (bytes : List ℕ) (x : ExtensionTree) (f : Fault) → Elaborates bytes x → IsBroken bytes f → ⊥
sound_or_broken bytes x f p q = let e = same_first bytes p.text q.text None (Some f) p.typed q.typed p.sound q.first in cc

-- ---- how far a text comes
abbrev pub error_of : Fault → FrontErr
error_of (encoding_width a) = F.EncodingWidth a
error_of (field_twice a) = F.FieldTwice a
error_of too_many = F.TooMany
error_of (base_overlap a word) = F.BaseOverlap a word
error_of (overlap a b word) = F.Overlap a b word
error_of two_pc_blocks = F.TwoPcBlocks

pub data Stage (bytes : List ℕ) : FrontErr → Type 0 where
  at_lex : (e : LexErr) → IsRefusal bytes e → Stage bytes (F.Lex e)
  at_parse : (s : Span) (deep : Bool) → IsNoText bytes s deep → Stage bytes (F.Parse s deep)
  at_unroll : (e : UnrollErr) → IsNotUnrolled bytes e → Stage bytes (F.Unroll e)
  at_check : (e : CheckErr) → IsNotTyped bytes e → Stage bytes (F.Check e)
  at_fault : (f : Fault) (e : FrontErr) → IsBroken bytes f → e ≡ error_of f → Stage bytes e

pub stage_of : (bytes : List ℕ) (e : FrontErr) → (e ≡ F.Memory → ⊥) → IsCause bytes e → Stage bytes e
stage_of bytes (F.Lex e) m h = at_lex e h
stage_of bytes (F.Parse s deep) m h = at_parse s deep h
stage_of bytes (F.Unroll e) m h = at_unroll e h
stage_of bytes (F.Check e) m h = at_check e h
stage_of bytes (F.EncodingWidth a) m h = at_fault (encoding_width a) _ h refl
stage_of bytes (F.FieldTwice a) m h = at_fault (field_twice a) _ h refl
stage_of bytes F.TooMany m h = at_fault too_many _ h refl
stage_of bytes (F.BaseOverlap a word) m h = at_fault (base_overlap a word) _ h refl
stage_of bytes (F.Overlap a b word) m h = at_fault (overlap a b word) _ h refl
stage_of bytes F.TwoPcBlocks m h = at_fault two_pc_blocks _ h refl
stage_of bytes F.Memory m h = absurd (m refl)

no_lex : (bytes : List ℕ) (e : LexErr) (ts : List Token) (G : Type 0) → IsRefusal bytes e → Lexes bytes ts → G
no_lex bytes e ts G r l = absurd (refusal_excludes bytes e r ts l)

pub same_stage : (bytes : List ℕ) (d e : FrontErr) → Stage bytes d → Stage bytes e → d ≡ e
same_stage bytes _ _ (at_lex d p) (at_lex e q) = ap F.Lex (refusal_is_one bytes d e p q)
same_stage bytes _ _ (at_lex d p) (at_parse s deep q) = no_lex bytes d q.tokens _ p q.lexed
same_stage bytes _ _ (at_lex d p) (at_unroll e q) = no_lex bytes d q.tree.tokens _ p q.tree.lexed
same_stage bytes _ _ (at_lex d p) (at_check e q) = no_lex bytes d q.tree.tree.tokens _ p q.tree.tree.lexed
same_stage bytes _ _ (at_lex d p) (at_fault f e q h) = no_lex bytes d q.typed.tree.tree.tokens _ p q.typed.tree.tree.lexed
same_stage bytes _ _ (at_parse s deep p) (at_lex e q) = no_lex bytes e p.tokens _ q p.lexed
same_stage bytes _ _ (at_parse s deep p) (at_parse t low q) = same_none bytes s t deep low p q
same_stage bytes _ _ (at_parse s deep p) (at_unroll e q) = absurd (tree_or_none bytes q.text s deep q.tree p)
same_stage bytes _ _ (at_parse s deep p) (at_check e q) = absurd (tree_or_none bytes q.tree.looped s deep q.tree.tree p)
same_stage bytes _ _ (at_parse s deep p) (at_fault f e q h) = absurd (tree_or_none bytes q.typed.tree.looped s deep q.typed.tree.tree p)
same_stage bytes _ _ (at_unroll d p) (at_lex e q) = no_lex bytes e p.tree.tokens _ q p.tree.lexed
same_stage bytes _ _ (at_unroll d p) (at_parse t low q) = absurd (tree_or_none bytes p.text t low p.tree q)
same_stage bytes _ _ (at_unroll d p) (at_unroll e q) = ap F.Unroll (same_not_unrolled bytes d e p q)
same_stage bytes _ _ (at_unroll d p) (at_check e q) = absurd (unrolled_or_none bytes q.text d q.tree p)
same_stage bytes _ _ (at_unroll d p) (at_fault f e q h) = absurd (unrolled_or_none bytes q.typed.flat d q.typed.tree p)
same_stage bytes _ _ (at_check d p) (at_lex e q) = no_lex bytes e p.tree.tree.tokens _ q p.tree.tree.lexed
same_stage bytes _ _ (at_check d p) (at_parse t low q) = absurd (tree_or_none bytes p.tree.looped t low p.tree.tree q)
same_stage bytes _ _ (at_check d p) (at_unroll e q) = absurd (unrolled_or_none bytes p.text e p.tree q)
same_stage bytes _ _ (at_check d p) (at_check e q) = ap F.Check (same_not_typed bytes d e p q)
same_stage bytes _ _ (at_check d p) (at_fault f e q h) = absurd (types_or_none bytes q.text d q.typed p)
same_stage bytes _ _ (at_fault f d p h) (at_lex e q) = no_lex bytes e p.typed.tree.tree.tokens _ q p.typed.tree.tree.lexed
same_stage bytes _ _ (at_fault f d p h) (at_parse t low q) = absurd (tree_or_none bytes p.typed.tree.looped t low p.typed.tree.tree q)
same_stage bytes _ _ (at_fault f d p h) (at_unroll e q) = absurd (unrolled_or_none bytes p.typed.flat e p.typed.tree q)
same_stage bytes _ _ (at_fault f d p h) (at_check e q) = absurd (types_or_none bytes p.text e p.typed q)
same_stage bytes _ _ (at_fault f d p h) (at_fault g e q k) = h ∙ ap error_of (same_broken bytes f g p q) ∙ sym k

pub extension_or_stage : (bytes : List ℕ) (x : ExtensionTree) (e : FrontErr) → Elaborates bytes x → Stage bytes e → ⊥
extension_or_stage bytes x _ p (at_lex e q) = refusal_excludes bytes e q p.typed.tree.tree.tokens p.typed.tree.tree.lexed
extension_or_stage bytes x _ p (at_parse s deep q) = tree_or_none bytes p.typed.tree.looped s deep p.typed.tree.tree q
extension_or_stage bytes x _ p (at_unroll e q) = unrolled_or_none bytes p.typed.flat e p.typed.tree q
extension_or_stage bytes x _ p (at_check e q) = types_or_none bytes p.text e p.typed q
extension_or_stage bytes x _ p (at_fault f e q h) = sound_or_broken bytes x f p q

-- ---- answers
memory_or_none : (e : FrontErr) → (e ≡ F.Memory) ⊎ (e ≡ F.Memory → ⊥)
memory_or_none (F.Lex e) = inr (λ q. cc)
memory_or_none (F.Parse s deep) = inr (λ q. cc)
memory_or_none (F.Unroll e) = inr (λ q. cc)
memory_or_none (F.Check e) = inr (λ q. cc)
memory_or_none (F.EncodingWidth a) = inr (λ q. cc)
memory_or_none (F.FieldTwice a) = inr (λ q. cc)
memory_or_none F.TooMany = inr (λ q. cc)
memory_or_none (F.BaseOverlap a word) = inr (λ q. cc)
memory_or_none (F.Overlap a b word) = inr (λ q. cc)
memory_or_none F.TwoPcBlocks = inr (λ q. cc)
memory_or_none F.Memory = inl refl

-- where there is an extension only memory can fail
pub only_memory : (bytes : List ℕ) (r : Result Extension FrontErr) (x : ExtensionTree) → IfErr r (λ e. IsCause bytes e) → Elaborates bytes x → IsOkUnless r F.Memory
only_memory bytes (Ok y) x h p = tt
only_memory bytes (Err e) x h p =
    elim (memory_or_none e) [
      | inl m ↦ m
      | inr n ↦ absurd (extension_or_stage bytes x e p (stage_of bytes e n h))
    ]

-- what is refused first is told, unless memory fails
pub refusal_told : (bytes : List ℕ) (r : Result Extension FrontErr) (e : FrontErr) → IfOk r (λ x. Elaborates bytes (view_extension x)) → IfErr r (λ d. IsCause bytes d) → IsRefused bytes e → IsErr r e
refusal_told bytes (Ok y) e o h q = absurd (extension_or_stage bytes (view_extension y) e o (stage_of bytes e q.some q.cause))
refusal_told bytes (Err d) e o h q =
    elim (memory_or_none d) [
      | inl m ↦ inr (ap (λ (z : FrontErr). let w : Result Extension FrontErr = Err z in w) m)
      | inr n ↦ inl (ap (λ (z : FrontErr). let w : Result Extension FrontErr = Err z in w) (same_stage bytes d e (stage_of bytes d n h) (stage_of bytes e q.some q.cause)))
    ]
