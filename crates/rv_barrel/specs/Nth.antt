-- The element of a list at a place, for lists one behind the other (this project's choice).
use Rattle.std.specs.Prelude.{◌≡◌, ℕ, ◌+◌, List, length, Some, Result, Ok, Err, slice_get}

-- the element of this list at this place, or how many places it is past the end
abbrev pub IsNth : {A : Type 0} → List A → ℕ → Result A ℕ → Type 0
IsNth xs k (Ok x) = slice_get xs k ≡ Some x
IsNth xs k (Err rest) = k ≡ length xs + rest
