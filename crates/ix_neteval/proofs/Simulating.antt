-- What a simulator settles to is a run of its net.
use Rattle.std.proofs.Common.{◌≡◌, ℕ, List, [], ◌∷◌, refl, ap, ◌∙◌, subst}
use Rattle.ix_net.specs.declared.netlist.Net.{Net}
use Rattle.ix_net.specs.Run.{IsRunFrom, next_banks}
use Rattle.ix_net.specs.Valuation.{Settles}
use Rattle.ix_neteval.specs.State.{State, first_state}
use Rattle.ix_neteval.specs.Simulated.{Simulates, no_cycle, one_cycle, SimulatorsRun}

run_from : (net : Net) (s : State) (cycles : List (List ℕ)) → s.net ≡ net → Simulates s cycles → IsRunFrom net s.banks cycles
run_from net s [] e no_cycle = tt
run_from net s (v ∷ rest) e (one_cycle {settled = settled} {clocked = clocked} a b r) =
    let same : settled.net ≡ net = a.same_net ∙ e in
    let S : Net → Type 0 = λ n. Settles n a.inputs s.banks settled.values in
    let here : Settles net a.inputs s.banks settled.values = subst S e a.settled in
    let next : clocked.banks ≡ next_banks net settled.values = b.banks ∙ ap (λ (n : Net). next_banks n settled.values) same in
    let R : List ℕ → Type 0 = λ bs. IsRunFrom net bs rest in
    (here.valuation, here.banks_same, subst R next (run_from net clocked rest (b.same_net ∙ same) r))

pub simulators_run : SimulatorsRun
simulators_run net cycles s = run_from net (first_state net) cycles refl s
