-- What each step of elaboration tells is what is refused first.
use Rattle.std.proofs.Common.{◌≡◌, ◌∙◌, sym, ap, subst, refl, ℕ, List, length, Option, Some, None, Bool, true, false, Result, Ok, Err, ◌⊎◌}
use Rattle.ix_tree.specs.declared.token.Span.{Span}
use Rattle.ix_tree.specs.declared.token.Token.{Token}
use Rattle.ix_tree.specs.declared.section.Tree.{Tree}
use Rattle.ix_tree.specs.declared.typed.Typed.{Typed}
use Rattle.ix_tree.specs.Lexing.{Lexes}
use Rattle.ix_tree.specs.Grammar.{Derives}
use Rattle.ix_tree.specs.Trees.{TextTree}
use Rattle.ix_tree.specs.TypedTrees.{TypedTextTree}
use Rattle.ix_tree.specs.Unrolling.{outcome, refused, bound_at, turns_at, assigned_at, size_at}
use Rattle.ix_unroll.specs.declared.error.UnrollErr.{UnrollErr}
use Rattle.ix_unroll.specs.declared.error.UnrollErr.TheVariants as U
use Rattle.ix_unroll.specs.Telling as L
use Rattle.ix_typing.specs.Refusals.{Refusal, refuse, unknown, twice, narrow, too_wide, mixed, range, index, read_after_write, double_write, second_access, in_spawn, rom}
use Rattle.ix_typing.specs.Texts.{judged_text}
use Rattle.ix_typing.specs.Laws.{IsTyped}
use Rattle.ix_typing.proofs.ErasingTexts.{text_erased}
use Rattle.ix_check_parts.specs.declared.error.CheckErr.{CheckErr}
use Rattle.ix_check_parts.specs.declared.error.CheckErr.TheVariants as C
use Rattle.ix_check_parts.specs.Telling.{refusal_of}
use Rattle.ix_check.specs.Telling.{ComesWhere}
use Rattle.ix_extension.specs.Extensions.{ExtensionTree}
use Rattle.ix_extension.specs.Faults.{Fault, first_fault, encoding_width, field_twice, too_many, base_overlap, overlap, two_pc_blocks}
use Rattle.ix_extension.specs.WellFormed.{IsOf}
use Rattle.ix_encode.specs.Telling.{IsFault}
use Rattle.ix_elab.specs.declared.error.FrontErr.{FrontErr}
use Rattle.ix_elab.specs.declared.error.FrontErr.TheVariants as F
use Rattle.ix_elab.specs.Elaborating.{IsTree, IsUnrolled, HasTypes, Elaborates}
use Rattle.ix_elab.specs.Refusing.{span_at, of_unroll, of_check, IsNotUnrolled, IsNotTyped, IsCause, IsNoTree, IsBrokenAs, IsBroken}

-- ---- the tree
pub tree_cause : (bytes : List ℕ) (ts : List Token) (end : ℕ) (e : FrontErr) → Lexes bytes ts → end ≡ length bytes → IsNoTree ts end e → IsCause bytes e
tree_cause bytes ts end (F.Lex x) l q h = absurd h
tree_cause bytes ts end (F.Parse s deep) l q h =
    record { tokens = ts; token = h.0; lexed = l; refused = h.1; place = h.2 ∙ ap (λ n. span_at ts h.0 n) q }
tree_cause bytes ts end (F.Unroll x) l q h = absurd h
tree_cause bytes ts end (F.Check x) l q h = absurd h
tree_cause bytes ts end (F.EncodingWidth a) l q h = absurd h
tree_cause bytes ts end (F.FieldTwice a) l q h = absurd h
tree_cause bytes ts end F.TooMany l q h = absurd h
tree_cause bytes ts end (F.BaseOverlap a word) l q h = absurd h
tree_cause bytes ts end (F.Overlap a b word) l q h = absurd h
tree_cause bytes ts end F.TwoPcBlocks l q h = absurd h
tree_cause bytes ts end F.Memory l q h = tt

-- ---- loops
pub unroll_cause : (bytes : List ℕ) (t : TextTree) (r : Result Tree UnrollErr) (e : UnrollErr) → IsTree bytes t → r ≡ Err e
    → ((s : Span) → L.ComesWhere r (U.Bound s) (outcome t ≡ refused (bound_at s)))
    → ((s : Span) → L.ComesWhere r (U.Turns s) (outcome t ≡ refused (turns_at s)))
    → ((s : Span) → L.ComesWhere r (U.Assigned s) (outcome t ≡ refused (assigned_at s)))
    → ((s : Span) → L.ComesWhere r (U.Size s) (outcome t ≡ refused (size_at s)))
    → IsCause bytes (of_unroll e)
unroll_cause bytes t r (U.Bound s) k h a b c d = record { text = t; tree = k; refused = (a s).only h }
unroll_cause bytes t r (U.Turns s) k h a b c d = record { text = t; tree = k; refused = (b s).only h }
unroll_cause bytes t r (U.Assigned s) k h a b c d = record { text = t; tree = k; refused = (c s).only h }
unroll_cause bytes t r (U.Size s) k h a b c d = record { text = t; tree = k; refused = (d s).only h }
unroll_cause bytes t r U.Memory k h a b c d = tt

-- ---- types
-- an error that comes exactly where it is the first refusal is that
pub check_cause : (bytes : List ℕ) (t : TextTree) (r : Result Typed CheckErr) (x : CheckErr) → IsUnrolled bytes t → r ≡ Err x
    → ((s : Span) → ComesWhere r (C.Unknown s) (judged_text t ≡ refuse unknown s))
    → ((s : Span) → ComesWhere r (C.Twice s) (judged_text t ≡ refuse twice s))
    → ((s : Span) → ComesWhere r (C.Narrow s) (judged_text t ≡ refuse narrow s))
    → ((s : Span) → ComesWhere r (C.TooWide s) (judged_text t ≡ refuse too_wide s))
    → ((s : Span) → ComesWhere r (C.Mixed s) (judged_text t ≡ refuse mixed s))
    → ((s : Span) → ComesWhere r (C.Range s) (judged_text t ≡ refuse range s))
    → ((s : Span) → ComesWhere r (C.Index s) (judged_text t ≡ refuse index s))
    → ((s : Span) → ComesWhere r (C.ReadAfterWrite s) (judged_text t ≡ refuse read_after_write s))
    → ((s : Span) → ComesWhere r (C.DoubleWrite s) (judged_text t ≡ refuse double_write s))
    → ((s : Span) → ComesWhere r (C.SecondAccess s) (judged_text t ≡ refuse second_access s))
    → ((s : Span) → ComesWhere r (C.InSpawn s) (judged_text t ≡ refuse in_spawn s))
    → ((s : Span) → ComesWhere r (C.Rom s) (judged_text t ≡ refuse rom s))
    → IsCause bytes (of_check x)
check_cause bytes t r (C.Unknown s) u h a b c d e f g k l m n o = record { text = t; tree = u; refusal = record { rule = unknown; at = s }; told = refl; judged = (a s).only h }
check_cause bytes t r (C.Twice s) u h a b c d e f g k l m n o = record { text = t; tree = u; refusal = record { rule = twice; at = s }; told = refl; judged = (b s).only h }
check_cause bytes t r (C.Narrow s) u h a b c d e f g k l m n o = record { text = t; tree = u; refusal = record { rule = narrow; at = s }; told = refl; judged = (c s).only h }
check_cause bytes t r (C.TooWide s) u h a b c d e f g k l m n o = record { text = t; tree = u; refusal = record { rule = too_wide; at = s }; told = refl; judged = (d s).only h }
check_cause bytes t r (C.Mixed s) u h a b c d e f g k l m n o = record { text = t; tree = u; refusal = record { rule = mixed; at = s }; told = refl; judged = (e s).only h }
check_cause bytes t r (C.Range s) u h a b c d e f g k l m n o = record { text = t; tree = u; refusal = record { rule = range; at = s }; told = refl; judged = (f s).only h }
check_cause bytes t r (C.Index s) u h a b c d e f g k l m n o = record { text = t; tree = u; refusal = record { rule = index; at = s }; told = refl; judged = (g s).only h }
check_cause bytes t r (C.ReadAfterWrite s) u h a b c d e f g k l m n o = record { text = t; tree = u; refusal = record { rule = read_after_write; at = s }; told = refl; judged = (k s).only h }
check_cause bytes t r (C.DoubleWrite s) u h a b c d e f g k l m n o = record { text = t; tree = u; refusal = record { rule = double_write; at = s }; told = refl; judged = (l s).only h }
check_cause bytes t r (C.SecondAccess s) u h a b c d e f g k l m n o = record { text = t; tree = u; refusal = record { rule = second_access; at = s }; told = refl; judged = (m s).only h }
check_cause bytes t r (C.InSpawn s) u h a b c d e f g k l m n o = record { text = t; tree = u; refusal = record { rule = in_spawn; at = s }; told = refl; judged = (n s).only h }
check_cause bytes t r (C.Rom s) u h a b c d e f g k l m n o = record { text = t; tree = u; refusal = record { rule = rom; at = s }; told = refl; judged = (o s).only h }
check_cause bytes t r C.Memory u h a b c d e f g k l m n o = tt

-- ---- encodings
pub typed_is : (flat : TextTree) (t : TypedTextTree) → judged_text flat ≡ Ok t → IsTyped t
typed_is flat t e =
    let h = text_erased flat t e in
    let P : TextTree → Type 0 = λ z. judged_text z ≡ Ok t in
    subst P (sym h) e

pub has_typed : (bytes : List ℕ) (t : TypedTextTree) → HasTypes bytes t → IsTyped t
has_typed bytes t h = typed_is h.flat t h.judged

pub elaborated : (bytes : List ℕ) (t : TypedTextTree) (x : ExtensionTree) → HasTypes bytes t → IsOf t x → Elaborates bytes x
elaborated bytes t x h o = record { text = t; typed = h; sound = o.sound; parts = o.parts }

-- the rule that is told is broken
with_fault : (bytes : List ℕ) (t : TypedTextTree) (f : Fault) → HasTypes bytes t → first_fault t ≡ Some f → IsBroken bytes f
with_fault bytes t f h e = record { text = t; typed = h; first = e }

pub broken_cause : (bytes : List ℕ) (t : TypedTextTree) (o : Option Fault) (e : FrontErr) → HasTypes bytes t → IsFault o (first_fault t) → IsBrokenAs o e → IsCause bytes e
broken_cause bytes t None e h f b = subst (IsCause bytes) (sym b) tt
broken_cause bytes t (Some (encoding_width a)) e h f b = subst (IsCause bytes) (sym b) (with_fault bytes t (encoding_width a) h f)
broken_cause bytes t (Some (field_twice a)) e h f b = subst (IsCause bytes) (sym b) (with_fault bytes t (field_twice a) h f)
broken_cause bytes t (Some too_many) e h f b = subst (IsCause bytes) (sym b) (with_fault bytes t too_many h f)
broken_cause bytes t (Some (base_overlap a word)) e h f b = subst (IsCause bytes) (sym b) (with_fault bytes t (base_overlap a word) h f)
broken_cause bytes t (Some (overlap a c word)) e h f b = subst (IsCause bytes) (sym b) (with_fault bytes t (overlap a c word) h f)
broken_cause bytes t (Some two_pc_blocks) e h f b = subst (IsCause bytes) (sym b) (with_fault bytes t two_pc_blocks h f)
