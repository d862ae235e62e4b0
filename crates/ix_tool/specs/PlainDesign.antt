-- The design of the base set alone (this project's choice): an extension without sections on the core of three stages.
use Rattle.std.specs.Prelude.{◌≡◌, false}
use Rattle.ix_extension.specs.Extensions.{view_extension}
use Rattle.ix_plan.specs.declared.design.Design.{Design}
use Rattle.ix_standing.specs.Standing.{Stands}
use Rattle.rv_core.specs.Kinds.{HasNumbers}
use Rattle.rv_seq.specs.Bare.{bare}

-- the design stands, its extension has no sections, and its core has the numbers of three stages
pub record IsPlain (d : Design) : Type 0 where
  pub stands : Stands d
  pub extension_is : view_extension d.extension ≡ bare
  pub shape : HasNumbers d.sheet.shape 3 1 1 2 false
