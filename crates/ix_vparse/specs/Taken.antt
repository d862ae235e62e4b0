-- What a line makes of the module that is open and of those that have ended.
use Rattle.std.specs.Prelude.{◌≡◌, List, Option}
use Rattle.ix_verilog.specs.declared.source.Source.{Source}
use Rattle.ix_verilog.specs.Words.{Word}
use Rattle.ix_verilog.specs.Lines.{Line, line_words}
use Rattle.ix_verilog.specs.Subset.{MayStand, after_in}

-- a line that has these words leads from one to the other
pub record Goes (o : Option Source) (ws : List Word) (next : Option Source) : Type 0 where
  pub line : Line
  pub may : MayStand o line
  pub are : ws ≡ line_words line
  pub leads : (modules : List Source) → after_in modules o line ≡ record { modules = modules; open_module = next }

-- the same where modules may end
pub record Steps (o : Option Source) (modules : List Source) (ws : List Word) (next : Option Source) (more : List Source) : Type 0 where
  pub line : Line
  pub may : MayStand o line
  pub are : ws ≡ line_words line
  pub leads : after_in modules o line ≡ record { modules = more; open_module = next }
