-- Cells move as the row before puts them: stage 0 and what stands above it, apart and together.
use Rattle.std.proofs.Common.{◌≡◌, ◌∙◌, refl, ◌<◌, List, [], ◌∷◌, length, Option, Some, None, arith}
use Rattle.rv_trace.specs.declared.row.Cell.{Cell}
use Rattle.rv_trace.specs.declared.row.Row.{Row}
use Rattle.rv_trace.specs.RowParts.{Name, name_of, names_of, stays, front, comes, InStage, MovesInto}
use Rattle.rv_rows.specs.Facts.{MoveAbove}

front_name : (cells : List (Option Cell)) → Option Name
front_name cells = name_of (front cells)

-- what is known of all stages, of those above stage 0
pub above_of : (before : Row) (new : Option Name) (was now : List (Option Cell)) → MovesInto before (comes (stays before (front was)) new) was (names_of now) → MoveAbove before was (names_of now)
above_of before new [] [] m = tt
above_of before new [] (n ∷ now) m = absurd m
above_of before new (w ∷ was) [] m = absurd m
above_of before new (w ∷ was) (n ∷ now) m = m.1

-- stage 0 keeps a held cell
pub kept_of : (before : Row) (new : Option Name) (was now : List (Option Cell)) → MovesInto before (comes (stays before (front was)) new) was (names_of now) → (n : Name) → stays before (front was) ≡ Some n → name_of (front now) ≡ Some n
kept_of before new [] now m n e = cc
kept_of before new (w ∷ was) [] m n e = absurd m
kept_of before new (w ∷ was) (x ∷ now) m n e = by_case (stays before w) m.0 e where
  by_case : (o : Option Name) → InStage o (comes o new) (name_of x) → o ≡ Some n → name_of x ≡ Some n
  by_case None h e = cc
  by_case (Some p) h e = h ∙ e

-- and has what is fetched, where it keeps none
pub fetched_of : (before : Row) (new : Option Name) (was now : List (Option Cell)) → MovesInto before (comes (stays before (front was)) new) was (names_of now) → 0 < length was → stays before (front was) ≡ None → name_of (front now) ≡ new
fetched_of before new [] now m lt e = absurd (omega (arith, lt))
fetched_of before new (w ∷ was) [] m lt e = absurd m
fetched_of before new (w ∷ was) (x ∷ now) m lt e = by_case (stays before w) m.0 e where
  by_case : (o : Option Name) → InStage o (comes o new) (name_of x) → o ≡ None → name_of x ≡ new
  by_case None h e = h
  by_case (Some p) h e = cc

-- all of it together is what is known of all stages
pub moves_of : (before : Row) (new : Option Name) (was now : List (Option Cell)) → MoveAbove before was (names_of now) → ((n : Name) → stays before (front was) ≡ Some n → name_of (front now) ≡ Some n)
    → (stays before (front was) ≡ None → name_of (front now) ≡ new) → MovesInto before (comes (stays before (front was)) new) was (names_of now)
moves_of before new [] [] m kept fetch = tt
moves_of before new [] (n ∷ now) m kept fetch = absurd m
moves_of before new (w ∷ was) [] m kept fetch = absurd m
moves_of before new (w ∷ was) (x ∷ now) m kept fetch = (by_case (stays before w) kept fetch, m) where
  by_case : (o : Option Name) → ((n : Name) → o ≡ Some n → name_of x ≡ Some n) → (o ≡ None → name_of x ≡ new) → InStage o (comes o new) (name_of x)
  by_case None k f = f refl
  by_case (Some p) k f = k p refl
