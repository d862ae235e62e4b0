-- The shapes of the cores that a datasheet can name (this project's choice).
use Rattle.std.specs.Prelude.{◌≡◌, ℕ, Bool, true, false}
use Rattle.rv_core.specs.declared.Shape.{Shape}
use Rattle.rv_core.specs.declared.cores.CoreKind.{CoreKind}
use Rattle.rv_core.specs.declared.cores.CoreKind.TheVariants.{Three, Four, Five, ThreeF, FiveF}

-- the shape has these numbers of STAGES, RD, EX and MEM, forwards and predicts or does neither, and its handler is at 16
pub record HasNumbers (shape : Shape) (stages rd ex mem : ℕ) (bypassed : Bool) : Type 0 where
  pub stages_are : shape.stages ≡ stages
  pub rd_is : shape.rd ≡ rd
  pub ex_is : shape.ex ≡ ex
  pub mem_is : shape.mem ≡ mem
  pub forward_is : shape.forward ≡ bypassed
  pub predict_is : shape.predict ≡ bypassed
  pub trap_is : shape.trap ≡ 16

-- what each core's numbers are
abbrev pub IsShapeOf : CoreKind → Shape → Type 0
IsShapeOf Three shape = HasNumbers shape 3 1 1 2 false
IsShapeOf Four shape = HasNumbers shape 4 1 2 3 false
IsShapeOf Five shape = HasNumbers shape 5 1 2 3 false
IsShapeOf ThreeF shape = HasNumbers shape 3 1 1 2 true
IsShapeOf FiveF shape = HasNumbers shape 5 1 2 3 true
