-- A valid net has exactly one valuation for given inputs and banks.
use Rattle.std.proofs.Common.{◌≡◌, ⊎_elim, ℕ, ◌+◌, ◌-◌, ◌<◌, ◌≤◌, ◌^◌, zero, suc, max, List, ◌++◌, Bool, true, ◌&&◌, eqb, Some, length, map, get_or, take, arith, refl, ap, sym, ◌∙◌, subst, Contains, ltb}
use Rattle.std.specs.List.{list_any, Any}
use Rattle.std.specs.Prelude.{slice_get}
use Rattle.std.proofs.lemmas.Bool.{cases_lt, and_parts, and_from, ltb-true, lt-ltb, eqb-true, eq-eqb}
use Rattle.std.proofs.lemmas.Grind.{same_number_lists}
use Rattle.std.proofs.lemmas.List.{append_assoc, get_or_default, length-map, length-append, get_or-map, get_or-take, get_or-drop, get_or_append_left, get_or-append-add, take_at, drop_at}
use Rattle.std.proofs.lemmas.List.Elements.{recursion_from_All, All-contains}
use Rattle.std.proofs.lemmas.List.Folds.{Any-from_list_any, list_any-from_Any}
use Rattle.std.proofs.lemmas.Nat.{pow_pos}
use Rattle.std.proofs.lemmas.Option.{slice_get-get_or, slice_get_within, get_or_from_slice_get}
use Rattle.ix_net.specs.declared.netlist.Net.{Net}
use Rattle.ix_net.specs.declared.netlist.Cell.{Cell}
use Rattle.ix_net.specs.declared.gates.Gate.{Gate}
use Rattle.ix_net.specs.Chain.{Chain, one, more}
use Rattle.ix_net.specs.Forms.{operands}
use Rattle.ix_net.specs.Gates.{reads_of}
use Rattle.ix_net.specs.Laws.{ValidNetsHaveOneValuation}
use Rattle.ix_net.specs.Order.{Reads, gate_at}
use Rattle.ix_net.specs.Signals.{signals, cell_port, bank_port, place_of, number_of, bits_of}
use Rattle.ix_net.specs.Valid.{IsValid}
use Rattle.ix_net.specs.Wiring.{cell_gate}
use Rattle.ix_net.specs.Valuation.{FitPorts, IsValuation, Settles, value_of, right_side, inputs_of, banks_of}
use Rattle.ix_net.proofs.FormLemmas.{result_of-same}
use Rattle.ix_net.proofs.FitLemmas.{fit_length, fit_append, fit_cells, value_at_place, value_of_cell, right_side_fits}
use Rattle.ix_net.proofs.NetLemmas.{Apart, CellsFit, gates_of_net, cell_fits, operand_placed, number_from_place, gate_at_cell, reads_of-gate_of, Contains-map, contains_from_slice_get, slice_get_some}
use Rattle.ix_net.proofs.Rank.{IsRank, Passes, rank_or_loop}
use Rattle.ix_net.proofs.ValidLemmas.{loop_from, apart_of}

-- a test of a list of numbers
pub list_any-eqb : (xs : List ℕ) (y : ℕ) → list_any (λ x. eqb x y) xs ≡ true → Contains xs y
list_any-eqb xs y h =
    let a : Any (λ x. eqb x y ≡ true) xs = Any-from_list_any (λ x. eqb x y) xs h in
    let P : ℕ → Type 0 = λ x. Contains xs x in
    subst P (eqb-true a.1 y a.4) (a.0, a.2, a.3)

pub list_any-Contains : (xs : List ℕ) (y : ℕ) → Contains xs y → list_any (λ x. eqb x y) xs ≡ true
list_any-Contains xs y c = list_any-from_Any (λ x. eqb x y) xs (c.0, y, c.1, c.2, eq-eqb y y refl)

-- the test of what a cell reads
abbrev reads_test : ℕ → List Gate → ℕ → ℕ → Bool
reads_test first gates a b = ltb a (length gates) && (ltb b (length gates) && list_any (λ x. eqb x (first + a)) (reads_of (gate_at gates b)))

reads_from : (first : ℕ) (gates : List Gate) (a b : ℕ) → reads_test first gates a b ≡ true → Reads first gates a b
reads_from first gates a b h =
    let p = and_parts (ltb a (length gates)) (ltb b (length gates) && list_any (λ x. eqb x (first + a)) (reads_of (gate_at gates b))) h in
    let q = and_parts (ltb b (length gates)) (list_any (λ x. eqb x (first + a)) (reads_of (gate_at gates b))) p.1 in
    record { source = ltb-true a (length gates) p.0; reader = ltb-true b (length gates) q.0; reads = list_any-eqb (reads_of (gate_at gates b)) (first + a) q.1 }

test_from : (first : ℕ) (gates : List Gate) (a b : ℕ) → Reads first gates a b → reads_test first gates a b ≡ true
test_from first gates a b r =
    and_from (ltb a (length gates)) (ltb b (length gates) && list_any (λ x. eqb x (first + a)) (reads_of (gate_at gates b))) (lt-ltb a (length gates) r.source)
    (and_from (ltb b (length gates)) (list_any (λ x. eqb x (first + a)) (reads_of (gate_at gates b))) (lt-ltb b (length gates) r.reader) (list_any-Contains (reads_of (gate_at gates b)) (first + a) r.reads))

chain_from : (first : ℕ) (gates : List Gate) (a b : ℕ) → Chain (Passes (reads_test first gates)) a b → Chain (Reads first gates) a b
chain_from first gates a b (one s) = one (reads_from first gates a b s)
chain_from first gates a b (more {y = y} c s) = more (chain_from first gates a y c) (reads_from first gates y b s)

-- the cells of a valid net have ranks that rise along what they read
pub record HasRank (net : Net) : Type 0 where
  pub rank : ℕ → ℕ
  pub rises : (a b : ℕ) → Reads (length net.inputs) (gates_of_net net) a b → rank a < rank b

pub rank_of_valid : (net : Net) → IsValid net → HasRank net
rank_of_valid net v =
    let first = length net.inputs in
    let gates : List Gate = gates_of_net net in
    ⊎_elim
    (λ (h : IsRank (length gates) (reads_test first gates)). let r : HasRank net = record { rank = h.rank; rises = λ a b r. h.rises a b r.source r.reader (test_from first gates a b r) } in r)
    (λ (l : (k : ℕ) × Chain (Passes (reads_test first gates)) k k). absurd (let x = loop_from net l.0 v.cells_fit (chain_from first gates l.0 l.0 l.1) in v.loopless x.0 x.1))
    (rank_or_loop (length gates) (reads_test first gates))

-- an operand that is a cell is read
pub operand_reads :
    (net : Net) (a b : ℕ) (c : Cell) (n : List ℕ) → slice_get net.cells b ≡ Some c → Contains (operands c.form) n → place_of (signals net) n ≡ Some (length net.inputs + a)
    → a < length net.cells → Reads (length net.inputs) (gates_of_net net) a b
operand_reads net a b c n hb within at la =
    let size : length (gates_of_net net) ≡ length net.cells = length-map net.cells (cell_gate (signals net)) in
    let lb : b < length net.cells = slice_get_within net.cells b c hb in
    let by_form : Contains (map (number_of (signals net)) (operands c.form)) (number_of (signals net) n) = Contains-map (number_of (signals net)) (operands c.form) n within in
    let C : List ℕ → Type 0 = λ xs. Contains xs (number_of (signals net) n) in
    let D : ℕ → Type 0 = λ i. Contains (reads_of (gate_at (gates_of_net net) b)) i in
    let by_gate : Contains (reads_of (gate_at (gates_of_net net) b)) (number_of (signals net) n) =
    subst C (sym (ap reads_of (gate_at_cell net b c hb) ∙ reads_of-gate_of (number_of (signals net)) (bits_of (signals net)) c.form)) by_form in
    record { source = omega arith; reader = omega arith; reads = subst D (number_from_place (signals net) n (length net.inputs + a) at) by_gate }

-- two lists of values agree on inputs and banks
pub record Agrees (net : Net) (v u : List ℕ) : Type 0 where
  pub on_inputs : (i : ℕ) → i < length net.inputs → get_or v i 0 ≡ get_or u i 0
  pub on_banks : (i : ℕ) → length net.inputs + length net.cells ≤ i → get_or v i 0 ≡ get_or u i 0

-- a right side has one value where the values agree on what it reads
pub right_side-same :
    (net : Net) (v u : List ℕ) (k : ℕ) (c : Cell) → CellsFit net → Agrees net v u → slice_get net.cells k ≡ Some c
    → ((a : ℕ) → Reads (length net.inputs) (gates_of_net net) a k → get_or v (length net.inputs + a) 0 ≡ get_or u (length net.inputs + a) 0)
    → right_side net v c ≡ right_side net u c
right_side-same net v u k c fits agrees hk cells =
    result_of-same (value_of net v) (value_of net u) (bits_of (signals net)) c.width c.form
    (recursion_from_All (λ n. value_of net v n ≡ value_of net u n) (operands c.form) (λ j d l.
    (let n : List ℕ = get_or (operands c.form) j d in
    let within : Contains (operands c.form) n = (j, l, get_or_default (operands c.form) j n d l) in
    let p = operand_placed (signals net) c.width c.form (cell_fits net k c fits hk) n within in
    let same : get_or v p.0 0 ≡ get_or u p.0 0 =
    ⊎_elim (λ (li : p.0 < length net.inputs). agrees.on_inputs p.0 li)
    (λ (gi : length net.inputs ≤ p.0). ⊎_elim
    (λ (lb : p.0 < length net.inputs + length net.cells).
    (let a = p.0 - length net.inputs in
    let e : p.0 ≡ length net.inputs + a = omega arith in
    let r : Reads (length net.inputs) (gates_of_net net) a k = operand_reads net a k c n hk within (p.1 ∙ ap Some e) (omega arith) in
    ap (λ i. get_or v i 0) e ∙ cells a r ∙ ap (λ i. get_or u i 0) (sym e)))
    (λ (gb : length net.inputs + length net.cells ≤ p.0). agrees.on_banks p.0 gb)
    (cases_lt p.0 (length net.inputs + length net.cells)))
    (cases_lt p.0 (length net.inputs)) in
    value_at_place net v n p.0 p.1 ∙ same ∙ sym (value_at_place net u n p.0 p.1))))

-- two lists with the same inputs and banks agree
agrees_from : (net : Net) (v u : List ℕ) → inputs_of net v ≡ inputs_of net u → banks_of net v ≡ banks_of net u → Agrees net v u
agrees_from net v u ei eb =
    let m = length net.inputs + length net.cells in
    record {
      on_inputs = λ i l. sym (get_or-take (length net.inputs) v i 0 l) ∙ ap (λ xs. get_or xs i 0) ei ∙ get_or-take (length net.inputs) u i 0 l;
      on_banks = λ i l.
          (let e : m + (i - m) ≡ i = omega arith in
          ap (λ j. get_or v j 0) (sym e) ∙ sym (get_or-drop m v (i - m) 0) ∙ ap (λ xs. get_or xs (i - m) 0) eb ∙ get_or-drop m u (i - m) 0 ∙ ap (λ j. get_or u j 0) e);
    }

-- two valuations that agree on inputs and banks agree on the cells of a rank below n, for each n
unique_upto :
    (net : Net) (v u : List ℕ) (h : HasRank net) → Apart net → CellsFit net → Agrees net v u → IsValuation net v → IsValuation net u
    → (n a : ℕ) (c : Cell) → slice_get net.cells a ≡ Some c → h.rank a < n → get_or v (length net.inputs + a) 0 ≡ get_or u (length net.inputs + a) 0
unique_upto net v u h apart fits agrees hv hu zero a c ha l = absurd (omega arith)
unique_upto net v u h apart fits agrees hv hu (suc n) a c ha l =
    let size : length (gates_of_net net) ≡ length net.cells = length-map net.cells (cell_gate (signals net)) in
    let right : right_side net v c ≡ right_side net u c = right_side-same net v u a c fits agrees ha
    (λ b r. (let cb = slice_get_some net.cells b (omega (arith, r.source)) in unique_upto net v u h apart fits agrees hv hu n b cb.0 cb.1 (omega (arith, h.rises b a r)))) in
    let within : Contains net.cells c = contains_from_slice_get net.cells a c ha in
    let at_v : value_of net v c.target ≡ right_side net v c = All-contains (λ (c : Cell). value_of net v c.target ≡ right_side net v c) net.cells c hv.holds within in
    let at_u : value_of net u c.target ≡ right_side net u c = All-contains (λ (c : Cell). value_of net u c.target ≡ right_side net u c) net.cells c hu.holds within in
    sym (value_of_cell net apart v a c ha) ∙ at_v ∙ right ∙ sym at_u ∙ value_of_cell net apart u a c ha

pub unique_valuation : (net : Net) → IsValid net → (inputs banks v u : List ℕ) → Settles net inputs banks v → Settles net inputs banks u → v ≡ u
unique_valuation net valid inputs banks v u sv su =
    let h = rank_of_valid net valid in
    let apart : Apart net = apart_of net valid.distinct in
    let agrees : Agrees net v u = agrees_from net v u (sv.inputs_same ∙ sym su.inputs_same) (sv.banks_same ∙ sym su.banks_same) in
    let lv = fit_length (signals net) v sv.valuation.fit in
    let lu = fit_length (signals net) u su.valuation.fit in
    same_number_lists v u (lv ∙ sym lu)
    (λ i l. ⊎_elim (λ (li : i < length net.inputs). agrees.on_inputs i li)
    (λ (gi : length net.inputs ≤ i). ⊎_elim
    (λ (lb : i < length net.inputs + length net.cells).
    (let a = i - length net.inputs in
    let e : length net.inputs + a ≡ i = omega arith in
    let c = slice_get_some net.cells a (omega arith) in
    ap (λ j. get_or v j 0) (sym e) ∙ unique_upto net v u h apart valid.cells_fit agrees sv.valuation su.valuation (suc (h.rank a)) a c.0 c.1 (omega arith) ∙ ap (λ j. get_or u j 0) e))
    (λ (gb : length net.inputs + length net.cells ≤ i). agrees.on_banks i gb)
    (cases_lt i (length net.inputs + length net.cells)))
    (cases_lt i (length net.inputs)))

-- values with given inputs and banks, and a value of f for each cell
abbrev laid : Net → List ℕ → List ℕ → (Cell → ℕ) → List ℕ
laid net inputs banks f = inputs ++ map f net.cells ++ banks

laid_front : (net : Net) (inputs : List ℕ) (f : Cell → ℕ) → length inputs ≡ length net.inputs → length (inputs ++ map f net.cells) ≡ length net.inputs + length net.cells
laid_front net inputs f e = length-append inputs (map f net.cells) ∙ ap (λ n. length inputs + n) (length-map net.cells f) ∙ ap (λ n. n + length net.cells) e

laid_inputs : (net : Net) (inputs banks : List ℕ) (f : Cell → ℕ) → length inputs ≡ length net.inputs → inputs_of net (laid net inputs banks f) ≡ inputs
laid_inputs net inputs banks f e = ap (take (length net.inputs)) (append_assoc inputs (map f net.cells) banks) ∙ take_at inputs (map f net.cells ++ banks) (length net.inputs) e

laid_banks : (net : Net) (inputs banks : List ℕ) (f : Cell → ℕ) → length inputs ≡ length net.inputs → banks_of net (laid net inputs banks f) ≡ banks
laid_banks net inputs banks f e = drop_at (inputs ++ map f net.cells) banks (length net.inputs + length net.cells) (laid_front net inputs f e)

laid_cell : (net : Net) (inputs banks : List ℕ) (f : Cell → ℕ) (k : ℕ) (c : Cell) → length inputs ≡ length net.inputs → slice_get net.cells k ≡ Some c → get_or (laid net inputs banks f) (length net.inputs + k) 0 ≡ f c
laid_cell net inputs banks f k c e h =
    let l : k < length net.cells = slice_get_within net.cells k c h in
    let front = laid_front net inputs f e in
    get_or_append_left (inputs ++ map f net.cells) banks 0 (length net.inputs + k) (omega arith)
    ∙ ap (λ n. get_or (inputs ++ map f net.cells) (n + k) 0) (sym e)
    ∙ get_or-append-add inputs (map f net.cells) k 0
    ∙ get_or-map f net.cells k c 0 l ∙ ap f (get_or_from_slice_get net.cells k c c h)

laid_agrees : (net : Net) (inputs banks : List ℕ) (f g : Cell → ℕ) → length inputs ≡ length net.inputs → Agrees net (laid net inputs banks f) (laid net inputs banks g)
laid_agrees net inputs banks f g e =
    agrees_from net (laid net inputs banks f) (laid net inputs banks g) (laid_inputs net inputs banks f e ∙ sym (laid_inputs net inputs banks g e))
    (laid_banks net inputs banks f e ∙ sym (laid_banks net inputs banks g e))

-- the cells after n turns in which each takes the value of its right side
abbrev turns : Net → List ℕ → List ℕ → ℕ → Cell → ℕ
turns net inputs banks zero c = 0
turns net inputs banks (suc n) c = right_side net (laid net inputs banks (turns net inputs banks n)) c

turns_fit :
    (net : Net) (inputs banks : List ℕ) → CellsFit net → FitPorts net.inputs inputs → FitPorts (map bank_port net.banks) banks
    → (n : ℕ) → FitPorts (signals net) (laid net inputs banks (turns net inputs banks n))
turns_fit net inputs banks fits fi fb n =
    fit_append (net.inputs ++ map cell_port net.cells) (map bank_port net.banks) (inputs ++ map (turns net inputs banks n) net.cells) banks
    (fit_append net.inputs (map cell_port net.cells) inputs (map (turns net inputs banks n) net.cells) fi (fit_cells (turns net inputs banks n) net.cells (cells n))) fb
  where
    cells : (n k : ℕ) (c : Cell) → slice_get net.cells k ≡ Some c → turns net inputs banks n c < 2 ^ c.width
    cells zero k c h = pow_pos c.width
    cells (suc n) k c h =
        right_side_fits net (laid net inputs banks (turns net inputs banks n)) c
        (fit_append (net.inputs ++ map cell_port net.cells) (map bank_port net.banks) (inputs ++ map (turns net inputs banks n) net.cells) banks
        (fit_append net.inputs (map cell_port net.cells) inputs (map (turns net inputs banks n) net.cells) fi (fit_cells (turns net inputs banks n) net.cells (cells n))) fb)
        (cell_fits net k c fits h)

-- a cell of a rank below n does not change after n turns
turns_still :
    (net : Net) (inputs banks : List ℕ) (h : HasRank net) → CellsFit net → length inputs ≡ length net.inputs
    → (n a : ℕ) (c : Cell) → slice_get net.cells a ≡ Some c → h.rank a < n → turns net inputs banks n c ≡ turns net inputs banks (suc n) c
turns_still net inputs banks h fits e zero a c ha l = absurd (omega arith)
turns_still net inputs banks h fits e (suc n) a c ha l =
    let size : length (gates_of_net net) ≡ length net.cells = length-map net.cells (cell_gate (signals net)) in
    right_side-same net (laid net inputs banks (turns net inputs banks n)) (laid net inputs banks (turns net inputs banks (suc n))) a c fits
    (laid_agrees net inputs banks (turns net inputs banks n) (turns net inputs banks (suc n)) e) ha
    (λ b r.
    (let cb = slice_get_some net.cells b (omega (arith, r.source)) in
    laid_cell net inputs banks (turns net inputs banks n) b cb.0 e cb.1
    ∙ turns_still net inputs banks h fits e n b cb.0 cb.1 (omega (arith, h.rises b a r))
    ∙ sym (laid_cell net inputs banks (turns net inputs banks (suc n)) b cb.0 e cb.1)))

-- past all ranks below n
abbrev top : (ℕ → ℕ) → ℕ → ℕ
top r zero = 0
top r (suc n) = max (top r n) (suc (r n))

top-above : (r : ℕ → ℕ) (n a : ℕ) → a < n → r a < top r n
top-above r zero a l = absurd (omega arith)
top-above r (suc n) a l = ⊎_elim (λ (less : a < n). omega (arith, top-above r n a less)) (λ (ge : n ≤ a). (let e : a ≡ n = omega arith in omega (arith, ap r e))) (cases_lt a n)

pub valuation_exists :
    (net : Net) → IsValid net → (inputs banks : List ℕ) → FitPorts net.inputs inputs → FitPorts (map bank_port net.banks) banks → (v : List ℕ) × Settles net inputs banks v
valuation_exists net valid inputs banks fi fb =
    let h = rank_of_valid net valid in
    let apart : Apart net = apart_of net valid.distinct in
    let m = top h.rank (length net.cells) in
    let v : List ℕ = laid net inputs banks (turns net inputs banks m) in
    let e : length inputs ≡ length net.inputs = fit_length net.inputs inputs fi in
    let s : Settles net inputs banks v = record {
      valuation = record {
        fit = turns_fit net inputs banks valid.cells_fit fi fb m;
        holds = λ k d l.
            (let c : Cell = get_or net.cells k d in
            let hk : slice_get net.cells k ≡ Some c = slice_get-get_or net.cells k d l in
            value_of_cell net apart v k c hk ∙ laid_cell net inputs banks (turns net inputs banks m) k c e hk
            ∙ turns_still net inputs banks h valid.cells_fit e m k c hk (top-above h.rank (length net.cells) k l));
      };
      inputs_same = laid_inputs net inputs banks (turns net inputs banks m) e;
      banks_same = laid_banks net inputs banks (turns net inputs banks m) e;
    } in
    (v, s)

pub one_valuation : ValidNetsHaveOneValuation
one_valuation net inputs banks valid fi fb =
    let x = valuation_exists net valid inputs banks fi fb in
    record { values = x.0; settles = x.1; only = λ u su. unique_valuation net valid inputs banks u x.0 su x.1 }
