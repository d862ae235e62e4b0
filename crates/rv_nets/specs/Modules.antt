-- The modules of a design as they run beside a pipeline (IEEE 1364-2005, 9.2.2; that each is settled and then clocked once in a row is this project's choice).
use Rattle.std.specs.Prelude.{◌≡◌, ℕ, suc, List, [], ◌∷◌}
use Rattle.std.specs.List.{flat_map}
use Rattle.ix_net.specs.declared.netlist.Net.{Net}
use Rattle.ix_net.specs.declared.netlist.Port.{Port}
use Rattle.ix_net.specs.Run.{next_banks}
use Rattle.ix_net.specs.Valuation.{Settles}
use Rattle.ix_neteval.specs.State.{State, first_state}
use Rattle.ix_plan.specs.declared.design.Design.{Design}
use Rattle.ix_plan.specs.declared.design.Plan.{Plan}
use Rattle.rv_unit.specs.Numbering.{unit_of}
use Rattle.rv_ports.specs.declared.modules.Module.{Module}
use Rattle.rv_ports.specs.declared.shown.Shown.{Shown}
use Rattle.rv_ports.specs.Inputs.{inputs_by}
use Rattle.rv_ports.specs.Driven.{ports_in, values_in}

-- the module of the behaviour with this number and this plan
abbrev pub module_at : Design → ℕ → Plan → Module
module_at d n p = record { shape = d.sheet.shape; mode = p.mode; number = n; unit = unit_of d.plans n }

-- in a row each name gets the value that these inputs give, and then the banks are clocked
pub record StepsTo (inputs : List ℕ) (old new : State) : Type 0 where
  pub same_net : new.net ≡ old.net
  pub settled : Settles old.net inputs old.banks new.values
  pub banks : new.banks ≡ next_banks old.net new.values

-- a module with the plan of its behaviour, and what its net has
pub record Driver : Type 0 where
  pub driven : Module
  pub plan : Plan
  pub state : State

-- it is driven by what a row shows
pub record IsStep (w : Shown) (old new : Driver) : Type 0 where
  pub same_module : new.driven ≡ old.driven
  pub same_plan : new.plan ≡ old.plan
  pub step : StepsTo (inputs_by old.driven old.plan w) old.state new.state

-- so is each of these
abbrev pub AllStep : Shown → List Driver → List Driver → Type 0
AllStep w [] [] = Unit {0}
AllStep w (s ∷ olds) (t ∷ news) = IsStep w s t × AllStep w olds news
AllStep w [] (t ∷ news) = ⊥
AllStep w (s ∷ olds) [] = ⊥

-- the modules of behaviours with these plans and nets, the first of which has the number n, before the first row
abbrev pub drivers_from : Design → ℕ → List Plan → List Net → List Driver
drivers_from d n [] nets = []
drivers_from d n (p ∷ plans) [] = []
drivers_from d n (p ∷ plans) (net ∷ nets) = record { driven = module_at d n p; plan = p; state = first_state net } ∷ drivers_from d (suc n) plans nets

-- the modules of a design before the first row: all is 0
abbrev pub drivers_of : Design → List Driver
drivers_of d = drivers_from d 0 d.plans d.nets

-- the modules come to these through rows that show this, the newest first
abbrev pub Reached : Design → List Shown → List Driver → Type 0
Reached d [] drivers = drivers ≡ drivers_of d
Reached d (w ∷ earlier) drivers = (before : List Driver) × Reached d earlier before × AllStep w before drivers

-- the ports of a module, by number
abbrev pub own_ports : Driver → List Port
own_ports s = ports_in s.state.net

-- the ports of all modules, by number
abbrev pub all_ports : List Driver → List Port
all_ports drivers = flat_map own_ports drivers

-- what the ports of all modules show, by number
abbrev pub ports_shown : List Driver → List ℕ
ports_shown drivers = flat_map (λ (s : Driver). values_in s.state.net s.state.values) drivers
