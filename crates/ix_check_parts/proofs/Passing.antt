-- A refusal is passed on.
use Rattle.std.proofs.Common.{◌≡◌, List, ◌∷◌, ap, Option, Some, None, Result, Ok, Err, refl, subst, sym}
use Rattle.ix_typing.specs.Refusals.{Refusal, and_then, Step, each}
use Rattle.ix_typing.proofs.Listed.{behind, each_refused}
use Rattle.ix_check_parts.specs.declared.error.CheckErr.{CheckErr}
use Rattle.ix_tree.specs.declared.token.Span.{Span}
use Rattle.ix_tree.specs.declared.expr.ExprKind as E
use Rattle.ix_tree.specs.declared.expr.ExprKind.{ExprKind}
use Rattle.ix_tree.specs.View.{view_kind}
use Rattle.ix_typing.specs.Assignments.{span_of}
use Rattle.ix_typing.specs.Expressions as T
use Rattle.ix_check_parts.specs.declared.judged.Judged.{Judged}
use Rattle.ix_check_parts.specs.Telling.{IsRefused, Refuses, refusal_of, Tells, seen}

refused_on : {A B : Type 0} (o : Option Refusal) (r : Result A Refusal) (f : A → Result B Refusal) → IsRefused o r → IsRefused o (and_then r f)
refused_on None r f h = tt
refused_on {A = A} {B = B} (Some x) r f h =
    let P : Result A Refusal → Type 0 = λ z. and_then z f ≡ Err x in
    subst P (sym h) refl

pub passes_on : {A B : Type 0} (e : CheckErr) (r : Result A Refusal) (f : A → Result B Refusal) → Refuses e r → Refuses e (and_then r f)
passes_on e r f h = refused_on (refusal_of e) r f h

-- what is judged goes on behind an answer
pub goes_on : {A B : Type 0} (r : Result A Refusal) (a : A) (f : A → Result B Refusal) → r ≡ Ok a → and_then r f ≡ f a
goes_on {A = A} {B = B} r a f h =
    let P : Result A Refusal → Type 0 = λ z. and_then z f ≡ f a in
    subst P (sym h) refl

-- a refusal behind an answer
pub refused_behind : {A B : Type 0} (e : CheckErr) (r : Result A Refusal) (a : A) (f : A → Result B Refusal) → r ≡ Ok a → Refuses e (f a) → Refuses e (and_then r f)
refused_behind {A = A} {B = B} e r a f h k =
    let P : Result B Refusal → Type 0 = λ z. Refuses e z in
    subst P (sym (goes_on r a f h)) k

-- an operand has a type, and what is judged of it is refused
pub refused_in : {B C : Type 0} (e : CheckErr) (y : Result Judged CheckErr) (j : Judged) (r : Result T.Judged Refusal) → y ≡ Ok j → Tells y r
    → (f : T.Judged → Result C Refusal) (g : T.Judged → C → Result B Refusal) → Refuses e (f (seen j)) → Refuses e (and_then r (λ x. and_then (f x) (g x)))
refused_in {B = B} {C = C} e y j r is h f g k =
    let P : Result Judged CheckErr → Type 0 = λ z. Tells z r in
    refused_behind e r (seen j) (λ x. and_then (f x) (g x)) (subst P is h) (passes_on e (f (seen j)) (g (seen j)) k)

-- the place of an expression of the code
pub span_is : (s : Span) (k : ExprKind) → s ≡ span_of (view_kind s k)
span_is s (E.Literal ty b) = refl
span_is s (E.Name n) = refl
span_is s E.Pc = refl
span_is s E.X = refl
span_is s E.Mem = refl
span_is s (E.Index' p a x q b y) = refl
span_is s (E.Range' p a x q b y r c z) = refl
span_is s (E.Unary' op p a x) = refl
span_is s (E.Cast' to p a x) = refl
span_is s (E.Binary' op p a x q b y) = refl
span_is s (E.Choose' p a x q b y r c z) = refl

refused_item : {S A B : Type 0} (o : Option Refusal) (f : A → S → Result (Step S B) Refusal) (r : Result (Step S (List B)) Refusal) (all rest : List A) (out : List B) (s : S) (x : A)
    → r ≡ behind out (each f all s) → all ≡ x ∷ rest → IsRefused o (f x s) → IsRefused o r
refused_item None f r all rest out s x e split h = tt
refused_item (Some d) f r all rest out s x e split h = each_refused f r all rest out s x d e split h

-- an item of a list is refused
pub each_refuses : {S A B : Type 0} (d : CheckErr) (f : A → S → Result (Step S B) Refusal) (r : Result (Step S (List B)) Refusal) (all rest : List A) (out : List B) (s : S) (x : A)
    → r ≡ behind out (each f all s) → all ≡ x ∷ rest → Refuses d (f x s) → Refuses d r
each_refuses d f r all rest out s x e split h = refused_item (refusal_of d) f r all rest out s x e split h
