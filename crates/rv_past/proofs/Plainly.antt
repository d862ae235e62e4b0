-- The address that is fetched where a row names none.
use Rattle.std.proofs.Common.{◌≡◌, ◌∙◌, refl, sym, ap, ℕ, zero, suc, ◌<◌, List, [], ◌∷◌, take, get_or, Option, Some, None, Bool, true, false, arith}
use Rattle.std.specs.Prelude.{◌||◌, if◌then◌else◌, is_some}
use Rattle.ix_extension.specs.Extensions.{ExtensionTree}
use Rattle.rv_core.specs.declared.Shape.{Shape}
use Rattle.rv_core.specs.Guesses.{guess_of}
use Rattle.rv_trace.specs.declared.row.Cell.{Cell}
use Rattle.rv_trace.specs.declared.row.Row.{Row}
use Rattle.rv_trace.specs.Trace.{has_serial}
use Rattle.rv_trace.specs.RowParts.{name_of, leaves, front}
use Rattle.rv_lawful.specs.Settings.{Setting, jump_with}
use Rattle.rv_lawful.specs.LawfulTrace.{guessed, plain_fetch}
use Rattle.rv_lawful.specs.Future.{going_on}
use Rattle.rv_past.specs.declared.past.Past.{Past}
use Rattle.rv_past.specs.Past.{IsPast, JumpsSo}

front_is : (n : ℕ) (cells : List (Option Cell)) → 0 < n → front (take n cells) ≡ get_or cells 0 None
front_is zero cells lt = absurd (omega (arith, lt))
front_is (suc n) [] lt = refl
front_is (suc n) (d ∷ rest) lt = refl

some_goes : (row : Row) (o : Option Cell) (c : Cell) → going_on row o ≡ Some c → leaves row o ≡ name_of (Some c)
some_goes row None c e = absurd cc
some_goes row (Some d) c e = by_case (is_some d.hold || has_serial row.flushed d.serial) e where
  by_case : (b : Bool) → (if is_some (if b then None else name_of (Some d)) then Some d else None) ≡ Some c → (if b then None else name_of (Some d)) ≡ name_of (Some c)
  by_case true e = absurd cc
  by_case false e = ap name_of e

module _ (k : Setting) (earlier : List Row) (row : Row) (fetch : ℕ) (some : 0 < k.shape.stages) where
  at_front : plain_fetch k earlier fetch row ≡ guessed k earlier fetch (leaves row (get_or row.cells 0 None))
  at_front = ap (λ o. guessed k earlier fetch (leaves row o)) (front_is k.shape.stages row.cells some)

  pub guess_is : (x : ExtensionTree) (past : Past) (c : Cell) (shape : Shape) (at : ℕ) → k.shape ≡ shape → JumpsSo x k → IsPast x k earlier past → going_on row (get_or row.cells 0 None) ≡ Some c
      → at ≡ guess_of shape.predict (jump_with x past.file past.arch.mem c.at c.word) c.at → at ≡ plain_fetch k earlier fetch row
  guess_is x past c shape at same jumps is e guess =
      guess
      ∙ ap (λ (s : Shape). guess_of s.predict (jump_with x past.file past.arch.mem c.at c.word) c.at) (sym same)
      ∙ ap (λ o. guess_of k.shape.predict o c.at) (jumps past.file c.at c.word past.arch.mem ∙ ap (λ f. k.jump f c.at c.word) is.file)
      ∙ sym (at_front ∙ ap (λ o. guessed k earlier fetch o) (some_goes row (get_or row.cells 0 None) c e))
