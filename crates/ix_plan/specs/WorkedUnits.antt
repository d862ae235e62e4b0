-- Two worked units on a core of three stages: one up to time 4, one up to time 3 (the rule is this project's choice).
use Rattle.std.specs.Prelude.{◌≡◌, ℕ, List, [], ◌∷◌, Option, Some, None, true, false}
use Rattle.ix_plan.specs.Units.{Slots, unit_written, frozen_with, next_units}

abbrev pub two_units : Option ℕ → Option ℕ → Option ℕ → List Slots
two_units at_three at_four other = (at_three ∷ at_four ∷ []) ∷ (other ∷ []) ∷ []

-- Serial 0 retires into the longer one and serial 1, a row later, into the other, so that both are at their last times in one row: the lower unit is
-- written, the other one is frozen for a row and then written.
pub record AreUnitRows : Type 0 where
  pub enters : next_units (Some (0, 0)) (two_units None None None) ≡ two_units (Some 0) None None
  pub both : next_units (Some (1, 1)) (two_units (Some 0) None None) ≡ two_units None (Some 0) (Some 1)
  pub none_written : unit_written (two_units (Some 0) None None) ≡ None
  pub lower : unit_written (two_units None (Some 0) (Some 1)) ≡ Some (0, 0)
  pub frozen : frozen_with 1 (Some 1 ∷ []) (unit_written (two_units None (Some 0) (Some 1))) ≡ true
  pub written : frozen_with 0 (None ∷ Some 0 ∷ []) (unit_written (two_units None (Some 0) (Some 1))) ≡ false
  pub stays : next_units None (two_units None (Some 0) (Some 1)) ≡ two_units None None (Some 1)
  pub other : unit_written (two_units None None (Some 1)) ≡ Some (1, 1)
  pub empty : next_units None (two_units None None (Some 1)) ≡ two_units None None None
