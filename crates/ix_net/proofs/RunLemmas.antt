-- What a run of a net says of each cycle: it is a valuation, and its banks are those that the cycle before leaves.
use Rattle.std.proofs.Common.{◌≡◌, ◌≢◌, ℕ, ◌+◌, ◌<◌, zero, suc, List, [], ◌∷◌, Some, unwrap_or, length, map, get_or, eqb, cond, arith, ap, sym, ◌∙◌, Contains}
use Rattle.std.specs.Option.{option_and_then}
use Rattle.std.specs.Prelude.{slice_get}
use Rattle.std.proofs.lemmas.Bool.{eq-eqb, eqb-true, false_from_ne_true}
use Rattle.std.proofs.lemmas.List.{get_or-map, get_or-drop}
use Rattle.std.proofs.lemmas.Option.{get_or_from_slice_get}
use Rattle.ix_net.specs.declared.netlist.Net.{Net}
use Rattle.ix_net.specs.declared.netlist.Port.{Port}
use Rattle.ix_net.specs.declared.netlist.Bank.{Bank}
use Rattle.ix_net.specs.Declarations.{Has, Explains}
use Rattle.ix_net.specs.Signals.{signals, bank_port, place_of, width_of, bits_of}
use Rattle.ix_net.specs.Valuation.{IsValuation, value_of, banks_of}
use Rattle.ix_net.specs.Run.{IsRunFrom, cycle_at, next_bank, next_banks}
use Rattle.ix_net.proofs.NetLemmas.{Apart, place_of-at, signal_bank, slice_get_from_contains, slice_get_mapped}
use Rattle.ix_net.proofs.FitLemmas.{value_at_place, value_fits}

-- the width of a declared name is the one that its declaration gives, where no two names are one
pub width_from_has : (net : Net) → Apart net → (n : List ℕ) (w : ℕ) → Has net n w → width_of (signals net) n ≡ Some w
width_from_has net apart n w h =
    let p : Port = record { name = n; width = w } in
    let at : slice_get (signals net) h.0 ≡ Some p = slice_get_from_contains (signals net) p h in
    let place : place_of (signals net) n ≡ Some h.0 = place_of-at (signals net) apart h.0 p at in
    ap (λ o. option_and_then (λ i. slice_get (map (λ (p : Port). p.width) (signals net)) i) o) place ∙ slice_get_mapped (λ (p : Port). p.width) (signals net) h.0 p at

-- a valuation explains the net
pub explained : (net : Net) → Apart net → (values : List ℕ) → IsValuation net values → Explains net (value_of net values) (bits_of (signals net))
explained net apart values v = record {
  wide = λ n w h. ap (λ o. unwrap_or o 0) (width_from_has net apart n w h);
  fit = λ n w h. value_fits net values v.fit n w (width_from_has net apart n w h);
  holds = v.holds;
}

-- the cycles of a run
pub run_valuation : (net : Net) (banks : List ℕ) (cycles : List (List ℕ)) → IsRunFrom net banks cycles → (k : ℕ) → k < length cycles → IsValuation net (cycle_at cycles k)
run_valuation net banks [] r k l = absurd (omega arith)
run_valuation net banks (v ∷ rest) r zero l = r.0
run_valuation net banks (v ∷ rest) r (suc k) l = run_valuation net (next_banks net v) rest r.2 k (omega arith)

pub run_banks :
    (net : Net) (banks : List ℕ) (cycles : List (List ℕ)) → IsRunFrom net banks cycles → (k : ℕ) → suc k < length cycles
    → banks_of net (cycle_at cycles (suc k)) ≡ next_banks net (cycle_at cycles k)
run_banks net banks [] r k l = absurd (omega arith)
run_banks net banks (v ∷ []) r k l = absurd (omega arith)
run_banks net banks (v ∷ (u ∷ rest)) r zero l = r.2.1
run_banks net banks (v ∷ (u ∷ rest)) r (suc k) l = run_banks net (next_banks net v) (u ∷ rest) r.2 k (omega arith)

-- a bank in the next cycle
pub value_of_bank :
    (net : Net) → Apart net → (before after : List ℕ) → banks_of net after ≡ next_banks net before → (b : Bank) → Contains net.banks b
    → value_of net after b.target ≡ next_bank net before b
value_of_bank net apart before after e b within =
    let at : slice_get net.banks within.0 ≡ Some b = slice_get_from_contains net.banks b within in
    let place = place_of-at (signals net) apart (length net.inputs + length net.cells + within.0) (bank_port b) (signal_bank net within.0 b at) in
    value_at_place net after b.target (length net.inputs + length net.cells + within.0) place
    ∙ sym (get_or-drop (length net.inputs + length net.cells) after within.0 0)
    ∙ ap (λ xs. get_or xs within.0 0) e
    ∙ get_or-map (next_bank net before) net.banks within.0 b 0 within.1
    ∙ ap (next_bank net before) (get_or_from_slice_get net.banks within.0 b b at)

-- a bank by its enable
pub bank_moves : (net : Net) (values : List ℕ) (b : Bank) → value_of net values b.enable ≡ 1 → next_bank net values b ≡ value_of net values b.source
bank_moves net values b h = (let t = eq-eqb (value_of net values b.enable) 1 h in ap (λ z. cond z (value_of net values b.source) (value_of net values b.target)) t)

pub bank_stays : (net : Net) (values : List ℕ) (b : Bank) → value_of net values b.enable ≢ 1 → next_bank net values b ≡ value_of net values b.target
bank_stays net values b h =
    (let t = false_from_ne_true (eqb (value_of net values b.enable) 1) (λ g. h (eqb-true (value_of net values b.enable) 1 g)) in
    ap (λ z. cond z (value_of net values b.source) (value_of net values b.target)) t)
