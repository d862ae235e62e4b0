-- What the parts of the code that judge loops answer.
use Rattle.std.specs.Prelude.{◌≡◌, ℕ, ℤ, List, []}
use Rattle.ix_tree.specs.declared.token.Span.{Span}
use Rattle.ix_tree.specs.declared.stmt.Loop.{Loop}
use Rattle.ix_tree.specs.View.{view, view_assign}
use Rattle.ix_tree.specs.Rows.{view_whole}
use Rattle.ix_tree.specs.Trees.{StmtTree, s_for, StmtRow}
use Rattle.ix_tree.specs.LoopHeads.{Binding}
use Rattle.ix_tree.specs.Unrolling.{Head, Turns, these, breaks, bound, turns, assigned, Mark, with_value, alone, opened, met, opened_marks}
use Rattle.ix_unroll.specs.declared.error.UnrollErr.{UnrollErr}
use Rattle.ix_unroll.specs.declared.error.UnrollErr.TheVariants as E
use Rattle.ix_unroll.specs.declared.turns.Step.{Step}
use Rattle.ix_unroll.specs.declared.turns.Step.TheVariants as S

-- the head of a loop of the code
abbrev pub head_of : Loop → Head
head_of l = record { name = l.name; start = view l.start; test = view l.test; last = view_assign l.last }

-- a loop of the code as a statement
abbrev pub loop_tree : Span → Loop → StmtTree
loop_tree s l = s_for s l.ty l.name (view l.start) (view l.test) (view_assign l.last) (view_whole l.body)

-- what a statement comes to in a block, and what is met there
abbrev pub opened_row : StmtTree → List Binding → StmtRow
opened_row x bs = opened x (alone x bs)

abbrev pub row_marks : StmtTree → List Binding → List Mark
row_marks x bs = opened_marks x (met x bs)

-- the same of a loop's body, at each value
abbrev pub body_row : StmtTree → List ℕ → List Binding → ℤ → StmtRow
body_row x n bs v = opened_row x (with_value bs n v)

abbrev pub body_marks : StmtTree → List ℕ → List Binding → ℤ → List Mark
body_marks x n bs v = row_marks x (with_value bs n v)

-- what a value of the variable comes to
abbrev pub StepIs : Step → (ℤ → Turns) → Turns → Type 0
StepIs S.Bound rest t = t ≡ breaks bound
StepIs S.End rest t = t ≡ these []
StepIs (S.Turn v) rest t = t ≡ rest v

-- the values, or the error for the rule that the loop at the span breaks
abbrev pub ErrIs : UnrollErr → Span → Turns → Type 0
ErrIs E.Memory s t = Unit {0}
ErrIs (E.Bound at) s t = (at ≡ s) × (t ≡ breaks bound)
ErrIs (E.Turns at) s t = (at ≡ s) × (t ≡ breaks turns)
ErrIs (E.Assigned at) s t = (at ≡ s) × (t ≡ breaks assigned)
ErrIs (E.Size at) s t = ⊥
