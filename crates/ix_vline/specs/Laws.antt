-- Kinds and slots are what may stand behind the lines of a module.
use Rattle.std.specs.Prelude.{◌≡◌, ℕ, suc, List, ◌++◌, take, Option}
use Rattle.ix_verilog.specs.declared.source.Source.{Source}
use Rattle.ix_verilog.specs.Words.{Word}
use Rattle.ix_verilog.specs.Lines.{Line, line_words}
use Rattle.ix_verilog.specs.Subset.{MayStand}
use Rattle.ix_vline.specs.declared.kind.Kind.{Kind}
use Rattle.ix_vline.specs.Slots.{slots}
use Rattle.ix_vline.specs.Reached.{Fits, Reaches}

-- a line that may stand, and that has these words
pub record Stands (o : Option Source) (ws : List Word) : Type 0 where
  pub line : Line
  pub may : MayStand o line
  pub are : ws ≡ line_words line

-- each line that may stand fits the slots of a kind
abbrev pub LinesFit : Type 0
LinesFit = (o : Option Source) (line : Line) → MayStand o line → (k : Kind) × Fits o (slots k) (line_words line)

-- what fits the slots of a kind is a line that may stand
abbrev pub FittingStands : Type 0
FittingStands = (o : Option Source) (k : Kind) (ws : List Word) → Fits o (slots k) ws → Stands o ws

-- words of which the first is that of a line that may stand are the first of one, as far as its slots take them
abbrev pub StartedGoesOn : Type 0
StartedGoesOn =
    (o : Option Source) (k : Kind) (ws : List Word) (n : ℕ) → Reaches o (slots k) ws (suc n) → (more : List Word) × Fits o (slots k) (take (suc n) ws ++ more)
