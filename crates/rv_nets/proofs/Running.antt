-- The states that modules come to are those of runs of their nets.
use Rattle.std.proofs.Common.{◌≡◌, ◌∙◌, refl, sym, ap, subst, ℕ, zero, suc, ◌+◌, ◌<◌, ◌≤◌, List, [], ◌∷◌, ◌++◌, length, map, Option, Some, None, arith}
use Rattle.std.specs.Prelude.{slice_get}
use Rattle.ix_net.specs.declared.netlist.Net.{Net}
use Rattle.ix_net.specs.Run.{IsRun, IsRunFrom, next_banks, first_banks, cycle_at}
use Rattle.ix_net.specs.Valuation.{Settles, inputs_of}
use Rattle.ix_neteval.specs.State.{State}
use Rattle.ix_plan.specs.declared.design.Design.{Design}
use Rattle.ix_plan.specs.declared.design.Plan.{Plan}
use Rattle.rv_ports.specs.declared.shown.Shown.{Shown}
use Rattle.rv_ports.specs.Inputs.{inputs_by}
use Rattle.rv_ports.specs.Driven.{values_in, port_values}
use Rattle.rv_nets.specs.Modules.{Driver, module_at, StepsTo, AllStep, drivers_from, Reached, ports_shown}
use Rattle.rv_nets.specs.NetsLaw.{inputs_with, HaveRun, NetsLaw, ReachedBy, port_rows, AllRowsLaw}

-- the banks behind these cycles
abbrev banks_after : Net → List ℕ → List (List ℕ) → List ℕ
banks_after net banks [] = banks
banks_after net banks (v ∷ rest) = banks_after net (next_banks net v) rest

run_more : (net : Net) (banks : List ℕ) (cycles : List (List ℕ)) (inputs values : List ℕ) → IsRunFrom net banks cycles → Settles net inputs (banks_after net banks cycles) values → IsRunFrom net banks (cycles ++ values ∷ [])
run_more net banks [] inputs values r s = (s.valuation, s.banks_same, tt)
run_more net banks (c ∷ rest) inputs values r s = (r.0, r.1, run_more net (next_banks net c) rest inputs values r.2 s)

banks_more : (net : Net) (banks : List ℕ) (cycles : List (List ℕ)) (values : List ℕ) → banks_after net banks (cycles ++ values ∷ []) ≡ next_banks net values
banks_more net banks [] values = refl
banks_more net banks (c ∷ rest) values = banks_more net (next_banks net c) rest values

inputs_more : (net : Net) (cycles : List (List ℕ)) (values : List ℕ) → map (inputs_of net) (cycles ++ values ∷ []) ≡ map (inputs_of net) cycles ++ inputs_of net values ∷ []
inputs_more net [] values = refl
inputs_more net (c ∷ rest) values = ap (λ l. inputs_of net c ∷ l) (inputs_more net rest values)

last_more : (cycles : List (List ℕ)) (values : List ℕ) → cycle_at (cycles ++ values ∷ []) (length cycles) ≡ values
last_more [] values = refl
last_more (c ∷ rest) values = last_more rest values

length_more : (cycles : List (List ℕ)) (values : List ℕ) → length (cycles ++ values ∷ []) ≡ suc (length cycles)
length_more [] values = refl
length_more (c ∷ rest) values = ap suc (length_more rest values)

-- these cycles are a run of the net under these inputs, one for each of so many rows, and lead to this state
record LeadsTo (net : Net) (inputs : List (List ℕ)) (rows : ℕ) (cycles : List (List ℕ)) (s : State) : Type 0 where
  net_is : s.net ≡ net
  run : IsRun net cycles
  inputs_are : map (inputs_of net) cycles ≡ inputs
  count : length cycles ≡ rows
  banks : s.banks ≡ banks_after net (first_banks net) cycles
  last : (n : ℕ) → rows ≡ suc n → cycle_at cycles n ≡ s.values

-- one row more
leads_on : (net : Net) (inputs : List (List ℕ)) (rows : ℕ) (cycles : List (List ℕ)) (s t : State) (driven : List ℕ) → LeadsTo net inputs rows cycles s → StepsTo driven s t
    → LeadsTo net (inputs ++ driven ∷ []) (suc rows) (cycles ++ t.values ∷ []) t
leads_on net inputs rows cycles s t driven h step =
    let settled : Settles net driven s.banks t.values = subst (λ n. Settles n driven s.banks t.values) h.net_is step.settled in
    let settles : Settles net driven (banks_after net (first_banks net) cycles) t.values = subst (λ b. Settles net driven b t.values) h.banks settled in
    record {
      net_is = step.same_net ∙ h.net_is;
      run = run_more net (first_banks net) cycles driven t.values h.run settles;
      inputs_are = inputs_more net cycles t.values ∙ ap (λ l. l ++ inputs_of net t.values ∷ []) h.inputs_are ∙ ap (λ i. inputs ++ i ∷ []) settled.inputs_same;
      count = length_more cycles t.values ∙ ap suc h.count;
      banks = step.banks ∙ ap (λ (n : Net). next_banks n t.values) h.net_is ∙ sym (banks_more net (first_banks net) cycles t.values);
      last = λ n e. let c = h.count in let same : n ≡ length cycles = omega (arith, c, e) in ap (λ i. cycle_at (cycles ++ t.values ∷ []) i) same ∙ last_more cycles t.values;
    }

-- so for all modules, of which the first has the number n
abbrev AllLead : Design → List Shown → ℕ → List Plan → List Net → List (List (List ℕ)) → List Driver → Type 0
AllLead d ws n [] [] [] [] = Unit {0}
AllLead d ws n (p ∷ plans) (net ∷ nets) (c ∷ runs) (s ∷ drivers) =
    (s.driven ≡ module_at d n p) × (s.plan ≡ p) × LeadsTo net (inputs_with (module_at d n p) p ws) (length ws) c s.state × AllLead d ws (suc n) plans nets runs drivers
AllLead d ws n [] [] [] (s ∷ drivers) = ⊥
AllLead d ws n [] [] (c ∷ runs) drivers = ⊥
AllLead d ws n [] (net ∷ nets) runs drivers = ⊥
AllLead d ws n (p ∷ plans) [] runs drivers = ⊥
AllLead d ws n (p ∷ plans) (net ∷ nets) [] drivers = ⊥
AllLead d ws n (p ∷ plans) (net ∷ nets) (c ∷ runs) [] = ⊥

-- these runs have the same cycles as those, so many first ones
abbrev AllLonger : ℕ → List (List (List ℕ)) → List (List (List ℕ)) → Type 0
AllLonger count [] [] = Unit {0}
AllLonger count (c ∷ runs) (l ∷ longer) = ((i : ℕ) → i < count → cycle_at l i ≡ cycle_at c i) × AllLonger count runs longer
AllLonger count [] (l ∷ longer) = ⊥
AllLonger count (c ∷ runs) [] = ⊥

same_before : (cycles : List (List ℕ)) (values : List ℕ) (i : ℕ) → i < length cycles → cycle_at (cycles ++ values ∷ []) i ≡ cycle_at cycles i
same_before [] values i lt = absurd (omega (arith, lt))
same_before (c ∷ rest) values zero lt = refl
same_before (c ∷ rest) values (suc i) lt = same_before rest values i (omega (arith, lt))

-- before the first row
abbrev no_cycles : List Net → List (List (List ℕ))
no_cycles nets = map (λ net. []) nets

lead_first : (d : Design) (n : ℕ) (plans : List Plan) (nets : List Net) → length plans ≡ length nets → AllLead d [] n plans nets (no_cycles nets) (drivers_from d n plans nets)
lead_first d n [] [] e = tt
lead_first d n (p ∷ plans) (net ∷ nets) e = (
  refl,
  refl,
  record { net_is = refl; run = tt; inputs_are = refl; count = refl; banks = refl; last = λ i q. absurd (omega (arith, q)) },
  lead_first d (suc n) plans nets (omega (arith, e)),
)
lead_first d n [] (net ∷ nets) e = absurd (omega (arith, e))
lead_first d n (p ∷ plans) [] e = absurd (omega (arith, e))

lead_more : (d : Design) (w : Shown) (ws : List Shown) (n : ℕ) (plans : List Plan) (nets : List Net) (runs : List (List (List ℕ))) (olds news : List Driver)
    → AllLead d ws n plans nets runs olds → AllStep w olds news → (longer : List (List (List ℕ))) × AllLead d (w ∷ ws) n plans nets longer news × AllLonger (length ws) runs longer
lead_more d w ws n [] [] [] [] [] h step = ([], tt, tt)
lead_more d w ws n [] [] [] [] (t ∷ news) h step = absurd step
lead_more d w ws n [] [] [] (s ∷ olds) news h step = absurd h
lead_more d w ws n [] [] (c ∷ runs) olds news h step = absurd h
lead_more d w ws n [] (net ∷ nets) runs olds news h step = absurd h
lead_more d w ws n (p ∷ plans) [] runs olds news h step = absurd h
lead_more d w ws n (p ∷ plans) (net ∷ nets) [] olds news h step = absurd h
lead_more d w ws n (p ∷ plans) (net ∷ nets) (c ∷ runs) [] news h step = absurd h
lead_more d w ws n (p ∷ plans) (net ∷ nets) (c ∷ runs) (s ∷ olds) [] h step = absurd step
lead_more d w ws n (p ∷ plans) (net ∷ nets) (c ∷ runs) (s ∷ olds) (t ∷ news) h step =
    let rest = lead_more d w ws (suc n) plans nets runs olds news h.3 step.1 in
    let moved : StepsTo (inputs_by (module_at d n p) p w) s.state t.state =
    subst (λ v. StepsTo (inputs_by v p w) s.state t.state) h.0 (subst (λ q. StepsTo (inputs_by s.driven q w) s.state t.state) h.1 step.0.step) in (
      (c ++ t.state.values ∷ []) ∷ rest.0,
      (step.0.same_module ∙ h.0, step.0.same_plan ∙ h.1, leads_on net (inputs_with (module_at d n p) p ws) (length ws) c s.state t.state (inputs_by (module_at d n p) p w) h.2 moved, rest.1),
      (λ i lt. same_before c t.state.values i (subst (λ m. i < m) (sym h.2.count) lt), rest.2),
    )

lead_all : (d : Design) (ws : List Shown) (drivers : List Driver) → length d.plans ≡ length d.nets → Reached d ws drivers → (runs : List (List (List ℕ))) × AllLead d ws 0 d.plans d.nets runs drivers
lead_all d [] drivers e h = (no_cycles d.nets, subst (λ l. AllLead d [] 0 d.plans d.nets (no_cycles d.nets) l) (sym h) (lead_first d 0 d.plans d.nets e))
lead_all d (w ∷ ws) drivers e h =
    let before = lead_all d ws h.0 e h.1 in
    let after = lead_more d w ws 0 d.plans d.nets before.0 h.0 drivers before.1 h.2 in (after.0, after.1)

-- ---- one of the modules

lead_at : (d : Design) (ws : List Shown) (n : ℕ) (plans : List Plan) (nets : List Net) (runs : List (List (List ℕ))) (drivers : List Driver) → AllLead d ws n plans nets runs drivers
    → (i : ℕ) (p : Plan) (net : Net) (c : List (List ℕ)) → slice_get plans i ≡ Some p → slice_get nets i ≡ Some net → slice_get runs i ≡ Some c
    → (s : State) × LeadsTo net (inputs_with (module_at d (n + i) p) p ws) (length ws) c s
lead_at d ws n [] nets runs drivers h i p net c e f g = cc
lead_at d ws n (q ∷ plans) [] runs drivers h i p net c e f g = cc
lead_at d ws n (q ∷ plans) (m ∷ nets) [] drivers h i p net c e f g = cc
lead_at d ws n (q ∷ plans) (m ∷ nets) (b ∷ runs) [] h i p net c e f g = absurd h
lead_at d ws n (q ∷ plans) (m ∷ nets) (b ∷ runs) (s ∷ drivers) h (suc i) p net c e f g =
    let x = lead_at d ws (suc n) plans nets runs drivers h.3 i p net c e f g in
    let z : suc n + i ≡ n + suc i = omega arith in (
      x.0,
      subst (λ j. LeadsTo net (inputs_with (module_at d j p) p ws) (length ws) c x.0) z x.1,
    )
lead_at d ws n (q ∷ plans) (m ∷ nets) (b ∷ runs) (s ∷ drivers) h zero p net c e f g =
    let same_plan : q ≡ p = cc in
    let same_net : m ≡ net = cc in
    let same_run : b ≡ c = cc in
    let z : n ≡ n + 0 = omega arith in (
      s.state,
      subst (λ j. LeadsTo net (inputs_with (module_at d j p) p ws) (length ws) c s.state) z
          (subst (λ y. LeadsTo net (inputs_with (module_at d n p) p ws) (length ws) y s.state) same_run
          (subst (λ y. LeadsTo y (inputs_with (module_at d n p) p ws) (length ws) b s.state) same_net
          (subst (λ y. LeadsTo m (inputs_with (module_at d n y) y ws) (length ws) b s.state) same_plan h.2))),
    )

lead_count : (d : Design) (ws : List Shown) (n : ℕ) (plans : List Plan) (nets : List Net) (runs : List (List (List ℕ))) (drivers : List Driver) → AllLead d ws n plans nets runs drivers → length runs ≡ length nets
lead_count d ws n [] [] [] drivers h = refl
lead_count d ws n [] [] (c ∷ runs) drivers h = absurd h
lead_count d ws n [] (net ∷ nets) runs drivers h = absurd h
lead_count d ws n (p ∷ plans) [] runs drivers h = absurd h
lead_count d ws n (p ∷ plans) (net ∷ nets) [] drivers h = absurd h
lead_count d ws n (p ∷ plans) (net ∷ nets) (c ∷ runs) [] h = absurd h
lead_count d ws n (p ∷ plans) (net ∷ nets) (c ∷ runs) (s ∷ drivers) h = ap suc (lead_count d ws (suc n) plans nets runs drivers h.3)

lead_ports : (d : Design) (ws : List Shown) (rows : ℕ) (n : ℕ) (plans : List Plan) (nets : List Net) (runs : List (List (List ℕ))) (drivers : List Driver) → length ws ≡ suc rows → AllLead d ws n plans nets runs drivers
    → port_values nets runs rows ≡ ports_shown drivers
lead_ports d ws rows n [] [] [] [] e h = refl
lead_ports d ws rows n [] [] [] (s ∷ drivers) e h = absurd h
lead_ports d ws rows n [] [] (c ∷ runs) drivers e h = absurd h
lead_ports d ws rows n [] (net ∷ nets) runs drivers e h = absurd h
lead_ports d ws rows n (p ∷ plans) [] runs drivers e h = absurd h
lead_ports d ws rows n (p ∷ plans) (net ∷ nets) [] drivers e h = absurd h
lead_ports d ws rows n (p ∷ plans) (net ∷ nets) (c ∷ runs) [] e h = absurd h
lead_ports d ws rows n (p ∷ plans) (net ∷ nets) (c ∷ runs) (s ∷ drivers) e h =
    ap (λ v. values_in net v ++ port_values nets runs rows) (h.2.last rows e)
    ∙ ap (λ (m : Net). values_in m s.state.values ++ port_values nets runs rows) (sym h.2.net_is)
    ∙ ap (λ l. values_in s.state.net s.state.values ++ l) (lead_ports d ws rows (suc n) plans nets runs drivers e h.3)

pub nets_law : NetsLaw
nets_law d w earlier drivers e h =
    let x = lead_all d (w ∷ earlier) drivers e h in (
      x.0,
      record {
        count = lead_count d (w ∷ earlier) 0 d.plans d.nets x.0 drivers x.1;
        run = λ n p net c f g q. (lead_at d (w ∷ earlier) 0 d.plans d.nets x.0 drivers x.1 n p net c f g q).1.run;
        inputs = λ n p net c f g q.
            let z : 0 + n ≡ n = omega arith in
            (lead_at d (w ∷ earlier) 0 d.plans d.nets x.0 drivers x.1 n p net c f g q).1.inputs_are ∙ ap (λ j. inputs_with (module_at d j p) p (w ∷ earlier)) z;
      },
      lead_ports d (w ∷ earlier) (length earlier) 0 d.plans d.nets x.0 drivers refl x.1,
    )

-- ---- in each of the cycles

same_values : (count : ℕ) (nets : List Net) (runs longer : List (List (List ℕ))) → AllLonger count runs longer → (i : ℕ) → i < count → port_values nets longer i ≡ port_values nets runs i
same_values count [] runs longer h i lt = refl
same_values count (net ∷ nets) [] [] h i lt = refl
same_values count (net ∷ nets) [] (l ∷ longer) h i lt = absurd h
same_values count (net ∷ nets) (c ∷ runs) [] h i lt = absurd h
same_values count (net ∷ nets) (c ∷ runs) (l ∷ longer) h i lt =
    ap (λ v. values_in net v ++ port_values nets longer i) (h.0 i lt) ∙ ap (λ v. values_in net (cycle_at c i) ++ v) (same_values count nets runs longer h.1 i lt)

same_rows : (count : ℕ) (nets : List Net) (runs longer : List (List (List ℕ))) → AllLonger count runs longer → (n : ℕ) → n ≤ count → port_rows nets longer n ≡ port_rows nets runs n
same_rows count nets runs longer h zero le = refl
same_rows count nets runs longer h (suc n) le =
    ap (λ v. port_rows nets longer n ++ v ∷ []) (same_values count nets runs longer h n (omega (arith, le)))
    ∙ ap (λ r. r ++ port_values nets runs n ∷ []) (same_rows count nets runs longer h n (omega (arith, le)))

lead_rows : (d : Design) (ws : List Shown) (drivers : List Driver) (rows : List (List ℕ)) → length d.plans ≡ length d.nets → ReachedBy d ws drivers rows
    → (runs : List (List (List ℕ))) × AllLead d ws 0 d.plans d.nets runs drivers × (port_rows d.nets runs (length ws) ≡ rows)
lead_rows d [] drivers rows e h = (no_cycles d.nets, subst (λ l. AllLead d [] 0 d.plans d.nets (no_cycles d.nets) l) (sym h.0) (lead_first d 0 d.plans d.nets e), sym h.1)
lead_rows d (w ∷ ws) drivers rows e h =
    let before = lead_rows d ws h.0 h.1 e h.2 in
    let after = lead_more d w ws 0 d.plans d.nets before.0 h.0 drivers before.1 h.3 in (
      after.0,
      after.1,
      ap (λ r. r ++ port_values d.nets after.0 (length ws) ∷ []) (same_rows (length ws) d.nets before.0 after.0 after.2 (length ws) (omega arith) ∙ before.2)
          ∙ ap (λ v. h.1 ++ v ∷ []) (lead_ports d (w ∷ ws) (length ws) 0 d.plans d.nets after.0 drivers refl after.1)
          ∙ sym h.4,
    )

pub all_rows_law : AllRowsLaw
all_rows_law d ws drivers rows e h =
    let x = lead_rows d ws drivers rows e h in (
      x.0,
      record {
        count = lead_count d ws 0 d.plans d.nets x.0 drivers x.1;
        run = λ n p net c f g q. (lead_at d ws 0 d.plans d.nets x.0 drivers x.1 n p net c f g q).1.run;
        inputs = λ n p net c f g q.
            let z : 0 + n ≡ n = omega arith in
            (lead_at d ws 0 d.plans d.nets x.0 drivers x.1 n p net c f g q).1.inputs_are ∙ ap (λ j. inputs_with (module_at d j p) p ws) z;
      },
      x.2,
    )
