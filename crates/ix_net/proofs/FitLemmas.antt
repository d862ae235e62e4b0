-- Values of ports within their widths, and values of names.
use Rattle.std.proofs.Common.{◌≡◌, ℕ, ◌+◌, ◌<◌, ◌^◌, zero, suc, List, [], ◌∷◌, ◌++◌, Some, unwrap_or, length, map, get_or, arith, refl, ap, sym, ◌∙◌, subst}
use Rattle.std.specs.Option.{option_map}
use Rattle.std.specs.Prelude.{slice_get}
use Rattle.std.proofs.lemmas.Option.{slice_get-get_or, same_Some}
use Rattle.ix_net.specs.declared.netlist.Net.{Net}
use Rattle.ix_net.specs.declared.netlist.Port.{Port}
use Rattle.ix_net.specs.declared.netlist.Cell.{Cell}
use Rattle.ix_net.specs.Forms.{Fits}
use Rattle.ix_net.specs.Signals.{signals, cell_port, place_of, width_of}
use Rattle.ix_net.specs.Valuation.{FitPorts, value_of, right_side}
use Rattle.ix_net.proofs.FormLemmas.{result_fits}
use Rattle.ix_net.proofs.NetLemmas.{Apart, placed_from_width, place_of-at, signal_cell}
use Rattle.ix_net.proofs.TableLemmas.{place_within, width_at_place}

pub fit_length : (ps : List Port) (vs : List ℕ) → FitPorts ps vs → length vs ≡ length ps
fit_length [] [] h = refl
fit_length [] (v ∷ vs) h = absurd h
fit_length (p ∷ ps) [] h = absurd h
fit_length (p ∷ ps) (v ∷ vs) h = ap suc (fit_length ps vs h.1)

pub fit_at : (ps : List Port) (vs : List ℕ) → FitPorts ps vs → (i : ℕ) (p : Port) → slice_get ps i ≡ Some p → get_or vs i 0 < 2 ^ p.width
fit_at [] [] h i p g = absurd (cc)
fit_at [] (v ∷ vs) h i p g = absurd h
fit_at (q ∷ ps) [] h i p g = absurd h
fit_at (q ∷ ps) (v ∷ vs) h zero p g = (let P : Port → Type 0 = λ x. v < 2 ^ x.width in subst P (same_Some q p g) h.0)
fit_at (q ∷ ps) (v ∷ vs) h (suc i) p g = fit_at ps vs h.1 i p g

pub fit_from : (ps : List Port) (vs : List ℕ) → length vs ≡ length ps → ((i : ℕ) (p : Port) → slice_get ps i ≡ Some p → get_or vs i 0 < 2 ^ p.width) → FitPorts ps vs
fit_from [] [] e h = tt
fit_from [] (v ∷ vs) e h = absurd (omega arith)
fit_from (p ∷ ps) [] e h = absurd (omega arith)
fit_from (p ∷ ps) (v ∷ vs) e h = (h 0 p refl, fit_from ps vs (omega arith) (λ i q g. h (suc i) q g))

pub fit_append : (ps qs : List Port) (vs ws : List ℕ) → FitPorts ps vs → FitPorts qs ws → FitPorts (ps ++ qs) (vs ++ ws)
fit_append [] qs [] ws h g = g
fit_append [] qs (v ∷ vs) ws h g = absurd h
fit_append (p ∷ ps) qs [] ws h g = absurd h
fit_append (p ∷ ps) qs (v ∷ vs) ws h g = (h.0, fit_append ps qs vs ws h.1 g)

pub fit_cells : (f : Cell → ℕ) (cells : List Cell) → ((k : ℕ) (c : Cell) → slice_get cells k ≡ Some c → f c < 2 ^ c.width) → FitPorts (map cell_port cells) (map f cells)
fit_cells f [] h = tt
fit_cells f (c ∷ cells) h = (h 0 c refl, fit_cells f cells (λ k d g. h (suc k) d g))

-- the value of a name at its place
pub value_at_place : (net : Net) (values : List ℕ) (n : List ℕ) (i : ℕ) → place_of (signals net) n ≡ Some i → value_of net values n ≡ get_or values i 0
value_at_place net values n i h = ap (λ o. unwrap_or (option_map (λ k. get_or values k 0) o) 0) h

pub value_of_cell : (net : Net) → Apart net → (values : List ℕ) (k : ℕ) (c : Cell) → slice_get net.cells k ≡ Some c → value_of net values c.target ≡ get_or values (length net.inputs + k) 0
value_of_cell net apart values k c h =
    value_at_place net values c.target (length net.inputs + k) (place_of-at (signals net) apart (length net.inputs + k) (cell_port c) (signal_cell net k c h))

-- the value of a name fits its width
pub value_fits : (net : Net) (values : List ℕ) → FitPorts (signals net) values → (n : List ℕ) (v : ℕ) → width_of (signals net) n ≡ Some v → value_of net values n < 2 ^ v
value_fits net values fit n v h =
    let p = placed_from_width (signals net) n v h in
    let d : Port = record { name = []; width = 0 } in
    let l : p.0 < length (signals net) = place_within (signals net) n p.0 p.1 in
    let port : slice_get (signals net) p.0 ≡ Some (get_or (signals net) p.0 d) = slice_get-get_or (signals net) p.0 d l in
    let width : v ≡ (get_or (signals net) p.0 d).width = same_Some v (get_or (signals net) p.0 d).width (sym h ∙ width_at_place (signals net) n p.0 d p.1) in
    let P : ℕ → Type 0 = λ x. x < 2 ^ v in
    let Q : ℕ → Type 0 = λ w. get_or values p.0 0 < 2 ^ w in
    subst P (sym (value_at_place net values n p.0 p.1)) (subst Q (sym width) (fit_at (signals net) values fit p.0 (get_or (signals net) p.0 d) port))

-- the value of a right side fits the target
pub right_side_fits : (net : Net) (values : List ℕ) (c : Cell) → FitPorts (signals net) values → Fits (width_of (signals net)) c.width c.form → right_side net values c < 2 ^ c.width
right_side_fits net values c fit h = result_fits (width_of (signals net)) (value_of net values) c.width c.form h (value_fits net values fit)
