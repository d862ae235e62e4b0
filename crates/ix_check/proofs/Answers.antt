-- Each answer of the checker comes exactly where it is due.
use Rattle.std.proofs.Common.{◌≡◌, ◌∙◌, sym, ap, subst, refl, Option, Some, None, Result, Ok, Err, ◌⊎◌, inl, inr, IfOk, IsOkUnless}
use Rattle.ix_tree.specs.declared.token.Span.{Span}
use Rattle.ix_tree.specs.declared.typed.Typed.{Typed}
use Rattle.ix_tree.specs.TypedTrees.{TypedTextTree}
use Rattle.ix_tree.specs.TypedView.{typed_tree}
use Rattle.ix_typing.specs.Refusals.{Rule, unknown, twice, narrow, too_wide, mixed, range, index, read_after_write, double_write, second_access, in_spawn, rom, Refusal}
use Rattle.ix_check_parts.specs.declared.error.CheckErr.{CheckErr}
use Rattle.ix_check_parts.specs.declared.error.CheckErr.TheVariants as C
use Rattle.ix_check_parts.specs.Telling.{IsRefused, refusal_of}
use Rattle.ix_check.specs.Telling.{TellsText, ComesWhere}

-- the error that tells a refusal
abbrev error_of : Rule → Span → CheckErr
error_of unknown s = C.Unknown s
error_of twice s = C.Twice s
error_of narrow s = C.Narrow s
error_of too_wide s = C.TooWide s
error_of mixed s = C.Mixed s
error_of range s = C.Range s
error_of index s = C.Index s
error_of read_after_write s = C.ReadAfterWrite s
error_of double_write s = C.DoubleWrite s
error_of second_access s = C.SecondAccess s
error_of in_spawn s = C.InSpawn s
error_of rom s = C.Rom s

abbrev back : Option Refusal → CheckErr
back None = C.Memory
back (Some f) = error_of f.rule f.at

told_back : (d : CheckErr) → d ≡ back (refusal_of d)
told_back (C.Unknown s) = refl
told_back (C.Twice s) = refl
told_back (C.Narrow s) = refl
told_back (C.TooWide s) = refl
told_back (C.Mixed s) = refl
told_back (C.Range s) = refl
told_back (C.Index s) = refl
told_back (C.ReadAfterWrite s) = refl
told_back (C.DoubleWrite s) = refl
told_back (C.SecondAccess s) = refl
told_back (C.InSpawn s) = refl
told_back (C.Rom s) = refl
told_back C.Memory = refl

same_refusal : {A : Type 0} (f g : Refusal) (r : Result A Refusal) → r ≡ Err f → r ≡ Err g → Some f ≡ Some g
same_refusal {A = A} f g r h k = ap refusal_in (sym h ∙ k)
  where
    refusal_in : Result A Refusal → Option Refusal
    refusal_in (Ok x) = None
    refusal_in (Err e) = Some e

-- another error than want of memory tells what is judged
one_error : {A : Type 0} (q : Option Refusal) (f : Refusal) (r : Result A Refusal) → IsRefused q r → r ≡ Err f → (q ≡ Some f) ⊎ (q ≡ None)
one_error None f r h k = inr refl
one_error (Some g) f r h k = inl (same_refusal g f r h k)

abbrev fails : CheckErr → Result Typed CheckErr
fails d = Err d

error_due : (d e : CheckErr) (f : Refusal) → refusal_of e ≡ Some f → ((refusal_of d ≡ Some f) ⊎ (refusal_of d ≡ None)) → (fails d ≡ Err e) ⊎ (fails d ≡ Err C.Memory)
error_due d e f h (inl k) = inl (ap fails (told_back d ∙ ap back (k ∙ sym h) ∙ sym (told_back e)))
error_due d e f h (inr k) = inr (ap fails (told_back d ∙ ap back k))

due : (R : Result Typed CheckErr) (r : Result TypedTextTree Refusal) (e : CheckErr) (f : Refusal) → refusal_of e ≡ Some f → TellsText R r → r ≡ Err f → (R ≡ Err e) ⊎ (R ≡ Err C.Memory)
due (Ok t) r e f h told k = cc
due (Err d) r e f h told k = error_due d e f h (one_error (refusal_of d) f r told k)

-- an error comes exactly where its refusal is judged
pub comes : (R : Result Typed CheckErr) (r : Result TypedTextTree Refusal) (e : CheckErr) (f : Refusal) → refusal_of e ≡ Some f → TellsText R r → ComesWhere R e (r ≡ Err f)
comes R r e f h told =
    record {
      only = λ k.
          let P : Result Typed CheckErr → Type 0 = λ z. TellsText z r in
          let Q : Option Refusal → Type 0 = λ q. IsRefused q r in
          subst Q h (subst P k told);
      whenever = due R r e f h told;
    }

pub typed_is : (R : Result Typed CheckErr) (r : Result TypedTextTree Refusal) → TellsText R r → IfOk R (λ t. r ≡ Ok (typed_tree t))
typed_is (Ok t) r told = told
typed_is (Err e) r told = tt

no_refusal : {A : Type 0} (q : Option Refusal) (r : Result A Refusal) (u : A) → IsRefused q r → r ≡ Ok u → q ≡ None
no_refusal None r u h k = refl
no_refusal (Some f) r u h k = cc

pub only_memory : (R : Result Typed CheckErr) (r : Result TypedTextTree Refusal) (u : TypedTextTree) → TellsText R r → r ≡ Ok u → IsOkUnless R C.Memory
only_memory (Ok t) r u told h = tt
only_memory (Err e) r u told h = told_back e ∙ ap back (no_refusal (refusal_of e) r u told h)
