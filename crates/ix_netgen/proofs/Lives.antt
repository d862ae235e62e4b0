-- While a token stands at a time, each bank of that time holds its term's value.
use Rattle.std.proofs.Common.{◌≡◌, ◌≢◌, ⊎_elim, ℕ, ◌+◌, ◌-◌, ◌<◌, ◌^◌, zero, suc, List, [], ◌∷◌, ◌++◌, Some, Bool, true, false, cond, map, length, get_or, unwrap_or, append_assoc, arith, refl, ap, sym, ◌∙◌, subst, All, Contains}
use Rattle.std.specs.Prelude.{option_map}
use Rattle.std.specs.List.{position_from}
use Rattle.std.specs.Str.{bytes_eq}
use Rattle.std.proofs.lemmas.Slice.Eq.{bytes_eq-Decides}
use Rattle.std.proofs.lemmas.Bool.{cases_eq}
use Rattle.std.proofs.lemmas.List.{get_or_default}
use Rattle.std.proofs.lemmas.List.Elements.{All-contains}
use Rattle.ix_net.specs.declared.netlist.Net.{Net}
use Rattle.ix_net.specs.declared.netlist.Bank.{Bank}
use Rattle.ix_net.specs.declared.netlist.Port.{Port}
use Rattle.ix_net.specs.Signals.{signals, cell_port, bank_port, place_of, bits_of}
use Rattle.ix_net.specs.Valuation.{IsValuation, value_of, banks_of}
use Rattle.ix_net.specs.Run.{IsRun, next_bank, next_banks, first_banks}
use Rattle.ix_net.proofs.NetLemmas.{Apart}
use Rattle.ix_ports.specs.Ports.{enable_name, enable_port}
use Rattle.ix_mean.specs.GraphValues.{IsMeaning}
use Rattle.ix_net.specs.Run.{cycle_at}
use Rattle.ix_net.proofs.RunLemmas.{explained, run_valuation, run_banks, value_of_bank, bank_moves, bank_stays}
use Rattle.ix_plan.specs.Service.{enable_at, Moves, IsLife, Carries, ShowsAlways}
use Rattle.ix_cells.specs.Naming.{register_name}
use Rattle.ix_netgen.specs.Standing.{Timetable, Scene, HasEnable, IsRightBank, ShowsOutputs}
use Rattle.ix_cells.proofs.Names.{register_same}

-- the first with a name stays the first where more stand behind
place_on : (xs ys : List Port) (n : List ℕ) (at i : ℕ) → position_from (λ (p : Port). bytes_eq n p.name) at xs ≡ Some i → position_from (λ (p : Port). bytes_eq n p.name) at (xs ++ ys) ≡ Some i
place_on [] ys n at i e = cc
place_on (x ∷ xs) ys n at i e = by_case (bytes_eq n x.name) e (place_on xs ys n (at + 1) i) where
  by_case : (b : Bool) → cond b (Some at) (position_from (λ (p : Port). bytes_eq n p.name) (at + 1) xs) ≡ Some i
      → (position_from (λ (p : Port). bytes_eq n p.name) (at + 1) xs ≡ Some i → position_from (λ (p : Port). bytes_eq n p.name) (at + 1) (xs ++ ys) ≡ Some i)
      → cond b (Some at) (position_from (λ (p : Port). bytes_eq n p.name) (at + 1) (xs ++ ys)) ≡ Some i
  by_case true h on = h
  by_case false h on = on h

-- a port of a list has a first of its name
placed : (xs : List Port) (p : Port) (at : ℕ) → Contains xs p → (i : ℕ) × (position_from (λ (q : Port). bytes_eq p.name q.name) at xs ≡ Some i)
placed [] p at h = absurd (let l = h.1 in omega (arith, l))
placed (x ∷ xs) p at (zero, l, e) = (at, ap (λ b. cond b (Some at) (position_from (λ (q : Port). bytes_eq p.name q.name) (at + 1) xs)) (ap (λ (q : Port). bytes_eq p.name q.name) e ∙ (bytes_eq-Decides p.name p.name).1 refl))
placed (x ∷ xs) p at (suc k, l, e) = by_case (bytes_eq p.name x.name) (placed xs p (at + 1) (k, omega (arith, l), e)) where
  by_case : (b : Bool) → (i : ℕ) × (position_from (λ (q : Port). bytes_eq p.name q.name) (at + 1) xs ≡ Some i) → (i : ℕ) × (cond b (Some at) (position_from (λ (q : Port). bytes_eq p.name q.name) (at + 1) xs) ≡ Some i)
  by_case true h = (at, refl)
  by_case false h = h

-- an enable that the net has as an input shows there what its name shows
enable_value : (net : Net) (values : List ℕ) (t : ℕ) → HasEnable net t → enable_at net values t ≡ value_of net values (enable_name t)
enable_value net values t h =
    let i = placed net.inputs (enable_port t) 0 h in
    let rest : List Port = map cell_port net.cells ++ map bank_port net.banks in
    let whole : place_of (signals net) (enable_name t) ≡ Some i.0 =
    ap (λ (l : List Port). place_of l (enable_name t)) (append_assoc net.inputs (map cell_port net.cells) (map bank_port net.banks)) ∙ place_on net.inputs rest (enable_name t) 0 i.0 i.1 in
    ap (λ o. unwrap_or (option_map (λ k. get_or values k 0) o) 0) (i.1 ∙ sym whole)

module _ (p : Timetable) (net : Net) (apart : Apart net) (right : All (IsRightBank p net) net.banks) (terms : ℕ → ℕ) (means : IsMeaning p.graph terms) where
  -- the banks of time t hold their terms' values
  abbrev Held : ℕ → List ℕ → Type 0
  Held t values = (b : Bank) (k : ℕ) → Contains net.banks b → k < 2 ^ 64 → t < 2 ^ 64 → b.target ≡ register_name k t → value_of net values b.target ≡ terms k

  bank_is : (b : Bank) (k t : ℕ) → Contains net.banks b → k < 2 ^ 64 → t < 2 ^ 64 → b.target ≡ register_name k t → (r : IsRightBank p net b) × (k ≡ r.op) × (t ≡ r.time + 1)
  bank_is b k t within bk bt e =
      let r : IsRightBank p net b = All-contains (IsRightBank p net) net.banks b right within in
      let same = register_same k t r.op (r.time + 1) bk bt r.bounds.0 r.bounds.1 (sym e ∙ r.named) in
      (r, same.0, same.1)

  -- no bank stands at the first time
  held_first : (values : List ℕ) → Held p.shape.rd values
  held_first values b k within bk bt e = absurd (let r = bank_is b k p.shape.rd within bk bt e in omega (arith, r.0.from_rd, r.2))

  held_next :
      (before after : List ℕ) (t u : ℕ) → IsValuation net before → banks_of net after ≡ next_banks net before → Moves net p.shape.rd before t u
      → Held t before → (u ≢ t → Carries p.shape p.graph p.times net terms t before) → Held u after
  held_next before after t u v e m h carried b k within bk bu named =
      let i = bank_is b k u within bk bu named in
      let r : IsRightBank p net b = i.0 in
      let next : value_of net after b.target ≡ next_bank net before b = value_of_bank net apart before after e b within in
      ⊎_elim
      (λ (on : enable_at net before t ≡ 1).
      (let there : u ≡ t + 1 = m.goes on in
      let time : r.time ≡ t = omega (arith, i.2, there) in
      let enabled : value_of net before b.enable ≡ 1 = ap (value_of net before) r.enabled ∙ sym (enable_value net before r.time r.has_enable) ∙ ap (enable_at net before) time ∙ on in
      let S : ℕ → Type 0 = λ s. Scene p net terms s (value_of net before) in
      let scene : Scene p net terms t (value_of net before) = record { carried = carried (λ same. absurd (omega (arith, same, there))); held = h } in
      let shown = r.stands terms means (value_of net before) (bits_of (signals net)) (explained net apart before v) (subst S (sym time) scene) in
      next ∙ bank_moves net before b enabled ∙ ap (value_of net before) r.fed ∙ shown ∙ ap terms (sym i.1)))
      (λ (off : enable_at net before t ≢ 1).
      (let there : u ≡ t = m.stays off in
      let above : p.shape.rd < t = omega (arith, i.2, there, r.from_rd) in
      let time : r.time ≡ t - 1 = omega (arith, i.2, there) in
      let disabled : value_of net before b.enable ≢ 1 = λ one. m.alone off above (ap (enable_at net before) (sym time) ∙ enable_value net before r.time r.has_enable ∙ ap (value_of net before) (sym r.enabled) ∙ one) in
      let N : ℕ → Type 0 = λ s. b.target ≡ register_name k s in
      next ∙ bank_stays net before b disabled ∙ h b k within bk (omega (arith, there, bu)) (subst N there named)))
      (cases_eq (enable_at net before t) 1)

  module _ (cycles : List (List ℕ)) (run : IsRun net cycles) (first : ℕ) (life : List ℕ) (lives : IsLife net p.shape.rd cycles first life) where
    abbrev CarriedAt : ℕ → Type 0
    CarriedAt m = Carries p.shape p.graph p.times net terms (get_or life m 0) (cycle_at cycles (first + m))

    held_at :
        (m : ℕ) → m < length life → ((j : ℕ) → j < m → get_or life (j + 1) 0 ≢ get_or life j 0 → CarriedAt j)
        → Held (get_or life m 0) (cycle_at cycles (first + m))
    held_at zero l carried =
        let at : get_or life 0 0 ≡ get_or life 0 p.shape.rd = get_or_default life 0 0 p.shape.rd l in
        let H : ℕ → Type 0 = λ t. Held t (cycle_at cycles (first + 0)) in
        subst H (sym (at ∙ lives.starts)) (held_first (cycle_at cycles (first + 0)))
    held_at (suc m) l carried =
        let one_more : suc m ≡ m + 1 = omega arith in
        let next : first + suc m ≡ suc (first + m) = omega arith in
        let before : List ℕ = cycle_at cycles (first + m) in
        let within : suc (first + m) < length cycles = omega (arith, lives.within) in
        let value = run_valuation net (first_banks net) cycles run (first + m) (omega arith) in
        let banks = run_banks net (first_banks net) cycles run (first + m) within in
        let move = lives.moves m (omega arith) in
        let ih = held_at m (omega arith) (λ j lt ne. carried j (omega arith) ne) in
        let r : Held (get_or life (m + 1) 0) (cycle_at cycles (suc (first + m))) =
        held_next before (cycle_at cycles (suc (first + m))) (get_or life m 0) (get_or life (m + 1) 0) value banks move ih (λ ne. carried m (omega arith) ne) in
        let H : ℕ → ℕ → Type 0 = λ i j. Held (get_or life i 0) (cycle_at cycles j) in
        subst (λ i. H i (first + suc m)) (sym one_more) (subst (λ j. H (m + 1) j) (sym next) r)

-- a net whose banks are right, and whose outputs show their terms' values in each scene, serves
pub shows_always : (p : Timetable) (net : Net) → Apart net → All (IsRightBank p net) net.banks → ShowsOutputs p net → ShowsAlways p.shape p.graph p.times net
shows_always p net apart right outputs terms means cycles run first life lives k l left here i op at time j letter a lj aj =
    let within : first + k < length cycles = omega (arith, lives.within) in
    let value = run_valuation net (first_banks net) cycles run (first + k) within in
    let held = held_at p net apart right terms means cycles run first life lives k l left in
    let scene : Scene p net terms (get_or life k 0) (value_of net (cycle_at cycles (first + k))) = record { carried = here; held = held } in
    let S : ℕ → Type 0 = λ s. Scene p net terms s (value_of net (cycle_at cycles (first + k))) in
    outputs i op at j letter a lj aj terms means (value_of net (cycle_at cycles (first + k))) (bits_of (signals net))
    (explained net apart (cycle_at cycles (first + k)) value) (subst S (sym time) scene)
