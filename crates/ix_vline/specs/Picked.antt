-- What the words of a line say.
use Rattle.std.specs.Prelude.{◌≡◌, ℕ, ◌-◌, List, [], get_or, decimal}
use Rattle.ix_net.specs.declared.netlist.Port.{Port}
use Rattle.ix_net.specs.Valid.{IsWidth}
use Rattle.ix_verilog.specs.declared.right.Sign.{Sign}
use Rattle.ix_verilog.specs.declared.right.RightSide.{RightSide}
use Rattle.ix_verilog.specs.declared.right.RightSide.TheVariants as side
use Rattle.ix_verilog.specs.Words.{Word}
use Rattle.ix_verilog.specs.Lines.{sign_word}
use Rattle.ix_vline.specs.declared.kind.Right.{Right}
use Rattle.ix_vline.specs.declared.kind.Right.TheVariants as right

-- the word at a place
abbrev pub nth : ℕ → List Word → Word
nth k ws = get_or ws k []

-- the words of its line declare the port
pub record IsDeclaredBy (ws : List Word) (p : Port) : Type 0 where
  pub name : p.name ≡ nth 6 ws
  pub highest : nth 2 ws ≡ decimal (p.width - 1)
  pub wide : IsWidth p.width

-- the right side of an assignment by the words of its line
abbrev pub IsSideOf : Right → List Word → RightSide → Type 0
IsSideOf right.Literal ws r = r ≡ side.Literal (nth 3 ws)
IsSideOf right.Copy ws r = r ≡ side.Copy (nth 3 ws)
IsSideOf right.Both ws r = (s : Sign) × (sign_word s ≡ nth 4 ws) × (r ≡ side.Both s (nth 3 ws) (nth 5 ws))
IsSideOf right.Turned ws r = r ≡ side.Turned (nth 4 ws)
IsSideOf right.Signed ws r = r ≡ side.Signed (nth 5 ws) (nth 10 ws)
IsSideOf right.Joined ws r = r ≡ side.Joined (nth 4 ws) (nth 6 ws)
IsSideOf right.Range ws r = r ≡ side.Range (nth 3 ws) (nth 5 ws) (nth 7 ws)
IsSideOf right.Choice ws r = r ≡ side.Choice (nth 3 ws) (nth 5 ws) (nth 7 ws)
