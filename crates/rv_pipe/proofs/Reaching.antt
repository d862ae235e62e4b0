-- What the modules beside a machine show is what nets show that its rows drive.
use Rattle.std.proofs.Common.{◌≡◌, ◌∙◌, refl, sym, ap, subst, ℕ, suc, pred, List, [], ◌∷◌, ◌++◌, length, Option, Some}
use Rattle.std.specs.Prelude.{slice_get}
use Rattle.ix_net.specs.declared.netlist.Net.{Net}
use Rattle.ix_plan.specs.declared.design.Design.{Design}
use Rattle.ix_plan.specs.declared.design.Plan.{Plan}
use Rattle.rv_engine.specs.Settings.{Setting, setting}
use Rattle.rv_engine.specs.Showing.{shown_of}
use Rattle.rv_machine.specs.Promises.{IsRunnable, ShownLaw}
use Rattle.rv_machine.specs.Running.{AreRows, machine_at}
use Rattle.rv_nets.specs.Modules.{Driver, AllStep, Reached, drivers_from, own_ports, all_ports, ports_shown, module_at}
use Rattle.rv_nets.specs.NetsLaw.{NetsLaw, inputs_with}
use Rattle.rv_pipe.specs.Machines.{shown_over}
use Rattle.rv_ports.specs.Drives.{drives_of}
use Rattle.rv_ports.specs.Driven.{AreDriven, inputs_over, ports_in, ports_of, port_values}
use Rattle.rv_ports.specs.Inputs.{inputs_by}
use Rattle.rv_ports.specs.declared.shown.Shown.{Shown}
use Rattle.rv_machine.specs.Lives.{PromiseLaw}
use Rattle.rv_machine.specs.Promise.{AllPromised}
use Rattle.rv_trace.specs.declared.row.Row.{Row}

-- ---- the ports of the modules are those of the design

first_ports : (d : Design) (n : ℕ) (plans : List Plan) (nets : List Net) → length plans ≡ length nets → all_ports (drivers_from d n plans nets) ≡ ports_of nets
first_ports d n [] [] e = refl
first_ports d n [] (net ∷ nets) e = cc
first_ports d n (p ∷ plans) [] e = cc
first_ports d n (p ∷ plans) (net ∷ nets) e = ap (λ l. ports_in net ++ l) (first_ports d (suc n) plans nets (ap pred e))

same_ports : (olds news : List Driver) (w : Shown) → AllStep w olds news → all_ports news ≡ all_ports olds
same_ports [] [] w h = refl
same_ports [] (t ∷ news) w h = absurd h
same_ports (s ∷ olds) [] w h = absurd h
same_ports (s ∷ olds) (t ∷ news) w h = ap (λ (n : Net). ports_in n ++ all_ports news) h.0.step.same_net ∙ ap (λ l. own_ports s ++ l) (same_ports olds news w h.1)

pub ports_same : (d : Design) (ws : List Shown) (drivers : List Driver) → length d.plans ≡ length d.nets → Reached d ws drivers → all_ports drivers ≡ ports_of d.nets
ports_same d [] drivers e h = ap all_ports h ∙ first_ports d 0 d.plans d.nets e
ports_same d (w ∷ earlier) drivers e h = same_ports h.0 drivers w h.2 ∙ ports_same d earlier h.0 e h.1

-- ---- and what they show is what driven nets show

pub inputs_same : (d : Design) (image waits : List ℕ) (lines : Option (List ℕ)) → IsRunnable d image → ShownLaw → (n : ℕ) (p : Plan) (rows : List Row) → AreRows (setting d image waits lines) rows
    → inputs_with (module_at d n p) p (shown_over (setting d image waits lines) rows) ≡ inputs_over (drives_of d image waits lines) n p rows
unfolding inputs_over
inputs_same d image waits lines can law n p [] are = refl
inputs_same d image waits lines can law n p (row ∷ earlier) are =
    ap (λ l. l ++ inputs_by (module_at d n p) p (shown_of (setting d image waits lines) (machine_at (setting d image waits lines) earlier)) ∷ []) (inputs_same d image waits lines can law n p earlier are.2)
    ∙ ap (λ w. inputs_over (drives_of d image waits lines) n p earlier ++ inputs_by (module_at d n p) p w ∷ []) (law d image waits lines row earlier can are)

long_over : (k : Setting) (rows : List Row) → length (shown_over k rows) ≡ length rows
long_over k [] = refl
long_over k (row ∷ earlier) = ap suc (long_over k earlier)

-- there are runs of the design's nets, driven by the rows, whose newest cycle shows what the modules do
pub driven : (d : Design) (image waits : List ℕ) (lines : Option (List ℕ)) (row : Row) (earlier : List Row) (modules : List Driver) → IsRunnable d image → ShownLaw → NetsLaw → length d.plans ≡ length d.nets
    → AreRows (setting d image waits lines) (row ∷ earlier) → Reached d (shown_over (setting d image waits lines) (row ∷ earlier)) modules
    → (runs : List (List (List ℕ))) × AreDriven (drives_of d image waits lines) d.plans d.nets (row ∷ earlier) runs × (port_values d.nets runs (length earlier) ≡ ports_shown modules)
driven d image waits lines row earlier modules can shown nets e are reached =
    let k = setting d image waits lines in
    let x = nets d (shown_of k (machine_at k earlier)) (shown_over k earlier) modules e reached in (
      x.0,
      record {
        count = x.1.count;
        each = λ n p net cycles f g q. record { run = x.1.run n p net cycles f g q; inputs = x.1.inputs n p net cycles f g q ∙ inputs_same d image waits lines can shown n p (row ∷ earlier) are };
      },
      ap (λ i. port_values d.nets x.0 i) (sym (long_over k earlier)) ∙ x.2,
    )

-- so of a port by its number, and the outputs keep what is promised of them
pub driven_port : (d : Design) (image waits : List ℕ) (lines : Option (List ℕ)) (rows earlier : List Row) (row : Row) (modules : List Driver) (k value : ℕ) → rows ≡ row ∷ earlier → IsRunnable d image → ShownLaw → NetsLaw → PromiseLaw
    → length d.plans ≡ length d.nets → AreRows (setting d image waits lines) rows → Reached d (shown_over (setting d image waits lines) rows) modules → slice_get (ports_shown modules) k ≡ Some value
    → (runs : List (List (List ℕ))) × AreDriven (drives_of d image waits lines) d.plans d.nets rows runs × AllPromised (drives_of d image waits lines) d.plans d.nets rows runs × (slice_get (port_values d.nets runs (length earlier)) k ≡ Some value)
driven_port d image waits lines rows earlier row modules k value same can shown nets promise e are reached is =
    let x = driven d image waits lines row earlier modules can shown nets e (subst (λ l. AreRows (setting d image waits lines) l) same are) (subst (λ l. Reached d (shown_over (setting d image waits lines) l) modules) same reached) in
    let all : AreDriven (drives_of d image waits lines) d.plans d.nets rows x.0 = subst (λ l. AreDriven (drives_of d image waits lines) d.plans d.nets l x.0) (sym same) x.1 in (
      x.0,
      all,
      promise d image waits lines rows x.0 can are all,
      ap (λ l. slice_get l k) x.2 ∙ is,
    )
