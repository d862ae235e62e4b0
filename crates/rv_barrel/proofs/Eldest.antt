-- The oldest of lists one behind the other, and of what stands.
use Rattle.std.proofs.Common.{◌≡◌, ◌∙◌, refl, ap, List, [], ◌∷◌, ◌++◌, Option, Some, None, Bool, true, false}
use Rattle.std.specs.Prelude.{ℕ, reverse, find, option_map, if◌then◌else◌}
use Rattle.std.specs.Option.{option_or}
use Rattle.std.proofs.lemmas.List.{reverse-append}
use Rattle.std.proofs.lemmas.List.Folds.{find-append}
use Rattle.rv_harts.specs.Harts.{Fetched}
use Rattle.rv_harts.specs.Turns.{eldest}

abbrev serial_of : Fetched → ℕ
serial_of c = c.serial

mapped_or : (one other : Option Fetched) → option_map serial_of (option_or one other) ≡ option_or (option_map serial_of one) (option_map serial_of other)
mapped_or None other = refl
mapped_or (Some c) other = refl

-- of two lists the oldest of the first, else that of the second
pub eldest_both : (f : Fetched → Bool) (cs ds : List Fetched) → eldest f (cs ++ ds) ≡ option_or (eldest f cs) (eldest f ds)
eldest_both f cs ds = ap (option_map serial_of) (find-append f cs ds) ∙ mapped_or (find f cs) (find f ds)

eldest_one : (f : Fetched → Bool) (c : Fetched) → eldest f (c ∷ []) ≡ (if f c then Some c.serial else None)
eldest_one f c = by_case (f c) where
  by_case : (b : Bool) → option_map serial_of (if b then Some c else None) ≡ (if b then Some c.serial else None)
  by_case true = refl
  by_case false = refl

-- with one more that is younger than all
pub eldest_more : (f : Fetched → Bool) (c : Fetched) (cs : List Fetched) → eldest f (reverse (c ∷ cs)) ≡ option_or (eldest f (reverse cs)) (if f c then Some c.serial else None)
eldest_more f c cs = ap (eldest f) (reverse-append (c ∷ []) cs) ∙ eldest_both f (reverse cs) (c ∷ []) ∙ ap (option_or (eldest f (reverse cs))) (eldest_one f c)
