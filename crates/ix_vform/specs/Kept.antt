-- What is kept beside an open module: what each name is, and which names are driven.
use Rattle.std.specs.Prelude.{◌≡◌, List, Bool, Option, Some, None, cond, String}
use Rattle.std.specs.BTreeMap.{BTreeMap, get_by_text}
use Rattle.std.specs.BTreeSet.{BTreeSet, contains_text}
use Rattle.std.specs.List.{list_any}
use Rattle.std.specs.Str.{bytes_eq}
use Rattle.ix_net.specs.declared.netlist.Port.{Port}
use Rattle.ix_verilog.specs.declared.source.Assign.{Assign}
use Rattle.ix_verilog.specs.declared.source.Update.{Update}
use Rattle.ix_verilog.specs.declared.source.Source.{Source}
use Rattle.ix_verilog.specs.Words.{Word}
use Rattle.ix_verilog.specs.Subset.{assigned}
use Rattle.ix_vform.specs.declared.role.Role.{Role}
use Rattle.ix_vform.specs.declared.role.Role.TheVariants.{Input, Assigned, Register}

-- one of the ports has the name
abbrev pub is_port : List Port → Word → Bool
is_port ports n = list_any (λ (p : Port). bytes_eq p.name n) ports

-- an input, else an output or a wire, else a register
abbrev pub role_among : Bool → Bool → Bool → Option Role
role_among input out register = cond input (Some Input) (cond out (Some Assigned) (cond register (Some Register) None))

-- what a name is in a module
abbrev pub role_in : Source → Word → Option Role
role_in s n = role_among (is_port s.inputs n) (is_port (assigned s) n) (is_port s.registers n)

-- what a name is that is declared once more
abbrev pub first_of : Option Role → Role → Role
first_of None new = new
first_of (Some Input) new = Input
first_of (Some Assigned) Input = Input
first_of (Some Assigned) Assigned = Assigned
first_of (Some Assigned) Register = Assigned
first_of (Some Register) new = new

-- an assignment drives the name
abbrev pub is_assigned : List Assign → Word → Bool
is_assigned assigns n = list_any (λ (a : Assign). bytes_eq a.target n) assigns

-- a line of `always` changes the name
abbrev pub is_updated : List Update → Word → Bool
is_updated updates n = list_any (λ (u : Update). bytes_eq u.target n) updates

-- the map has what each name is, and the sets have what is driven
pub record IsKept {Y : Type 0} (s : Source) (roles : BTreeMap (String Y) Role) (assigns updates : BTreeSet (String Y)) : Type 0 where
  pub found : (n : Word) → get_by_text roles n ≡ role_in s n
  pub driven : (n : Word) → contains_text assigns n ≡ is_assigned s.assigns n
  pub changed : (n : Word) → contains_text updates n ≡ is_updated s.updates n
