-- The first reads of lists that stand one behind the other.
use Rattle.std.proofs.Common.{◌≡◌, ◌∙◌, sym, ap, refl, ℕ, ◌+◌, ◌<◌, ◌≤◌, List, [], ◌∷◌, ◌++◌, Option, Some, None, drop, length, get_or}
use Rattle.std.proofs.lemmas.List.{drop_all}
use Rattle.ix_bits.specs.declared.number.Bits.{Bits}
use Rattle.ix_mean.specs.declared.resolved.ResolvedStmt.{ResolvedStmt}
use Rattle.ix_mean.specs.Core.{Statement}
use Rattle.ix_mean.specs.Meaning.{Inputs, Access, Numbers, run, reads}
use Rattle.ix_mean.specs.View.{view_statement, view_statements}
use Rattle.ix_mean.proofs.Executing.{all_rest}
use Rattle.ix_eval.specs.Readings.{first_of, either}

pub first_both : (xs ys : List Access) → first_of (xs ++ ys) ≡ either (first_of xs) (first_of ys)
first_both [] ys = refl
first_both (x ∷ xs) ys = refl

pub either_assoc : (a b c : Option Access) → either (either a b) c ≡ either a (either b c)
either_assoc (Some a) b c = refl
either_assoc None b c = refl

pub either_none : (a : Option Access) → either a None ≡ a
either_none (Some a) = refl
either_none None = refl

-- two that are read, as the first of both lists
pub first_two : (r a b : Option Access) (xs ys : List Access) → r ≡ either a b → a ≡ first_of xs → b ≡ first_of ys → r ≡ first_of (xs ++ ys)
first_two r a b xs ys e f g = e ∙ ap (λ (z : Option Access). either z b) f ∙ ap (either (first_of xs)) g ∙ sym (first_both xs ys)

-- one more statement
pub reads_more : (ts : List (List Bits)) (i : Inputs) (xs : List ResolvedStmt) (k : ℕ) (x : ResolvedStmt) (s n : Numbers) (f r g : Option Access) → k < length xs → x ≡ get_or xs k x
    → n ≡ run i (view_statement ts x) s → r ≡ first_of (reads i (view_statement ts x) s) → g ≡ either f r
    → either g (first_of (reads i (view_statements ts (drop (k + 1) xs)) n)) ≡ either f (first_of (reads i (view_statements ts (drop k xs)) s))
reads_more ts i xs k x s n f r g h e p q u =
    let rest = view_statements ts (drop (k + 1) xs) in
    let whole = all_rest ts xs k x h e in
    ap (λ (z : Option Access). either z (first_of (reads i rest n))) u
    ∙ either_assoc f r (first_of (reads i rest n))
    ∙ ap (λ (z : Option Access). either f (either z (first_of (reads i rest n)))) q
    ∙ ap (λ (z : Numbers). either f (either (first_of (reads i (view_statement ts x) s)) (first_of (reads i rest z)))) p
    ∙ ap (either f) (sym (first_both (reads i (view_statement ts x) s) (reads i rest (run i (view_statement ts x) s))))
    ∙ ap (λ (z : Statement). either f (first_of (reads i z s))) (sym whole)

-- nothing is left
pub reads_ended : (ts : List (List Bits)) (i : Inputs) (xs : List ResolvedStmt) (k : ℕ) (s : Numbers) (f : Option Access) → length xs ≤ k
    → f ≡ either f (first_of (reads i (view_statements ts (drop k xs)) s))
reads_ended ts i xs k s f h = sym (either_none f) ∙ ap (λ (ys : List ResolvedStmt). either f (first_of (reads i (view_statements ts ys) s))) (sym (drop_all k xs h))
