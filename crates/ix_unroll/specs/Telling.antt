-- What an answer says of the marks that are met.
use Rattle.std.specs.Prelude.{◌≡◌, ℕ, ◌+◌, List, [], ◌∷◌, Some, None, Result, Ok, Err, ◌⊎◌}
use Rattle.ix_tree.specs.Unrolling.{Mark, statement, fault, bound_at, turns_at, assigned_at, size_at, first_refusal}
use Rattle.ix_tree.specs.declared.section.Tree.{Tree}
use Rattle.ix_tree.specs.declared.stmt.Stmt.{Stmt}
use Rattle.ix_unroll.specs.declared.error.UnrollErr.{UnrollErr}
use Rattle.ix_unroll.specs.declared.error.UnrollErr.TheVariants.{Bound, Turns, Assigned, Size, Memory}

-- how many statements of the result are among the marks
abbrev pub statements : List Mark → ℕ
statements [] = 0
statements (statement s ∷ ms) = statements ms + 1
statements (fault b s ∷ ms) = statements ms

-- nothing is refused, and m statements stand behind the marks where n stand before
pub record Passes (n : ℕ) (ms : List Mark) (m : ℕ) : Type 0 where
  pub none : first_refusal n ms ≡ None
  pub count : m ≡ n + statements ms

-- the error is the first refusal
abbrev pub Refuses : UnrollErr → ℕ → List Mark → Type 0
Refuses Memory n ms = Unit {0}
Refuses (Bound s) n ms = first_refusal n ms ≡ Some (bound_at s)
Refuses (Turns s) n ms = first_refusal n ms ≡ Some (turns_at s)
Refuses (Assigned s) n ms = first_refusal n ms ≡ Some (assigned_at s)
Refuses (Size s) n ms = first_refusal n ms ≡ Some (size_at s)

-- The answer is this error only where P holds, and where P holds the answer is this error unless memory fails.
pub record ComesWhere (result : Result Tree UnrollErr) (e : UnrollErr) (P : Type 0) : Type 0 where
  pub only : result ≡ Err e → P
  pub whenever : P → (result ≡ Err e) ⊎ (result ≡ Err Memory)

-- an error that is passed on, or want of memory where there was none
abbrev pub KeepsErr : Result Stmt UnrollErr → UnrollErr → Type 0
KeepsErr (Ok x) e = e ≡ Memory
KeepsErr (Err d) e = e ≡ d
