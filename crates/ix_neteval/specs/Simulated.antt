-- What a simulator does in one cycle after another (IEEE 1364-2005, 9.2.2).
use Rattle.std.specs.Prelude.{◌≡◌, ℕ, List, [], ◌∷◌}
use Rattle.ix_net.specs.declared.netlist.Net.{Net}
use Rattle.ix_net.specs.Run.{IsRun, next_banks}
use Rattle.ix_net.specs.Valuation.{Settles}
use Rattle.ix_neteval.specs.State.{State, first_state}

-- what `settle` ensures, for some inputs
pub record SettlesTo (old new : State) : Type 0 where
  pub inputs : List ℕ
  pub same_net : new.net ≡ old.net
  pub same_banks : new.banks ≡ old.banks
  pub settled : Settles old.net inputs old.banks new.values

-- what `clock` ensures
pub record ClocksTo (old new : State) : Type 0 where
  pub same_net : new.net ≡ old.net
  pub same_values : new.values ≡ old.values
  pub banks : new.banks ≡ next_banks old.net old.values

-- The values that a simulator settles to, from a state on: each cycle is settled and then clocked.
pub data Simulates : State → List (List ℕ) → Type 0 where
  no_cycle : {s : State} → Simulates s []
  one_cycle : {s settled clocked : State} {rest : List (List ℕ)} → SettlesTo s settled → ClocksTo settled clocked → Simulates clocked rest
      → Simulates s (settled.values ∷ rest)

-- what a simulator settles to from its first state is a run of its net
abbrev pub SimulatorsRun : Type 0
SimulatorsRun = (net : Net) (cycles : List (List ℕ)) → Simulates (first_state net) cycles → IsRun net cycles
