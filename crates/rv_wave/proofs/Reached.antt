-- What the modules showed, row by row.
use Rattle.std.proofs.Common.{◌≡◌, ◌∙◌, refl, sym, ap, ℕ, suc, ◌+◌, List, [], ◌∷◌, ◌++◌, length, length-append, map, take, arith}
use Rattle.ix_net.specs.declared.netlist.Net.{Net}
use Rattle.ix_net.specs.declared.netlist.Port.{Port}
use Rattle.ix_net.specs.Valuation.{value_of}
use Rattle.ix_plan.specs.declared.design.Design.{Design}
use Rattle.rv_trace.specs.declared.row.Row.{Row}
use Rattle.rv_engine.specs.Settings.{Setting}
use Rattle.rv_nets.specs.Modules.{Driver, Reached, own_ports, all_ports, ports_shown}
use Rattle.rv_nets.specs.NetsLaw.{ReachedBy}
use Rattle.rv_pipe.specs.Machines.{shown_over}
use Rattle.rv_pipe.proofs.Reaching.{ports_same}
use Rattle.rv_ports.specs.Driven.{ports_in, ports_of, values_in}
use Rattle.rv_ports.specs.declared.shown.Shown.{Shown}

-- as often as there are rows
pub long_over : (k : Setting) (rows : List Row) → length (shown_over k rows) ≡ length rows
long_over k [] = refl
long_over k (row ∷ earlier) = ap suc (long_over k earlier)

pub as_often : (d : Design) (ws : List Shown) (modules : List Driver) (values : List (List ℕ)) → ReachedBy d ws modules values → length values ≡ length ws
as_often d [] modules values h = ap length h.1
as_often d (w ∷ earlier) modules values h =
    let e = as_often d earlier h.0 h.1 h.2 in
    let f : length h.1 + 1 ≡ suc (length earlier) = omega (arith, e) in
    ap length h.4 ∙ length-append h.1 (ports_shown modules ∷ []) ∙ f

reached_of : (d : Design) (ws : List Shown) (modules : List Driver) (values : List (List ℕ)) → ReachedBy d ws modules values → Reached d ws modules
reached_of d [] modules values h = h.0
reached_of d (w ∷ earlier) modules values h = (h.0, reached_of d earlier h.0 h.1 h.2, h.3)

-- a value for each port
long_values : (net : Net) (values : List ℕ) (ports : List Port) → length (map (λ (p : Port). value_of net values p.name) ports) ≡ length ports
long_values net values [] = refl
long_values net values (p ∷ ports) = ap suc (long_values net values ports)

long_shown : (modules : List Driver) → length (ports_shown modules) ≡ length (all_ports modules)
long_shown [] = refl
long_shown (s ∷ modules) =
    length-append (values_in s.state.net s.state.values) (ports_shown modules)
    ∙ ap (λ n. n + length (ports_shown modules)) (long_values s.state.net s.state.values (ports_in s.state.net))
    ∙ ap (λ n. length (own_ports s) + n) (long_shown modules)
    ∙ sym (length-append (own_ports s) (all_ports modules))

pub one_each : (d : Design) (ws : List Shown) (modules : List Driver) (values : List (List ℕ)) → length d.plans ≡ length d.nets → ReachedBy d ws modules values → length (ports_shown modules) ≡ length (ports_of d.nets)
one_each d ws modules values e h = long_shown modules ∙ ap length (ports_same d ws modules e (reached_of d ws modules values h))

pub take_whole : (xs : List ℕ) (n : ℕ) → n ≡ length xs → take n xs ≡ xs
take_whole [] n e = let z : n ≡ 0 = e in ap (λ i. take i []) z
take_whole (x ∷ xs) n e = ap (λ i. take i (x ∷ xs)) e ∙ ap (λ l. x ∷ l) (take_whole xs (length xs) refl)
