-- A run over the cells in an order in which each stands behind those that it reads.
use Rattle.std.proofs.Common.{◌≡◌, ◌≢◌, ◌⊎◌, ⊎_elim, inl, inr, ℕ, ◌+◌, ◌<◌, ◌≤◌, ◌^◌, List, true, false, Some, length, get_or, set, take, eqb, arith, refl, ap, sym, ◌∙◌, subst, Contains, length-set}
use Rattle.std.specs.List.{list_any}
use Rattle.std.specs.Prelude.{slice_get}
use Rattle.std.proofs.lemmas.Bool.{cases_eq, cases_Bool, false≢true}
use Rattle.std.proofs.lemmas.List.{get_or-set_same, get_or-set_other, get_or_default, set-get_or, length-take, get_or-take}
use Rattle.std.proofs.lemmas.List.Elements.{recursion_from_All}
use Rattle.std.proofs.lemmas.Option.{slice_get-get_or, slice_get_within, get_or_from_slice_get}
use Rattle.ix_net.specs.declared.gates.Gate.{Gate}
use Rattle.ix_net.specs.Gates.{reads_of, gate_result}
use Rattle.ix_net.specs.Order.{Reads, gate_at}
use Rattle.ix_net.proofs.OneValuation.{list_any-eqb, list_any-Contains}
use Rattle.ix_net.proofs.OrderLemmas.{Contains-more, Contains-whole}
use Rattle.ix_neteval.specs.Wired.{GateFits, HasPattern, FitWidths, AreWired, GateHolds, KeepsOthers}
use Rattle.ix_neteval.proofs.GateLemmas.{gate_fits_map, gate_result-same, gate_result_fits}

-- a list has a number or does not
pub contains_cases : (xs : List ℕ) (y : ℕ) → Contains xs y ⊎ (Contains xs y → ⊥)
contains_cases xs y =
    ⊎_elim (λ (t : list_any (λ x. eqb x y) xs ≡ true). inl (list_any-eqb xs y t)) (λ (f : list_any (λ x. eqb x y) xs ≡ false). inr (λ c. false≢true (sym f ∙ list_any-Contains xs y c)))
    (cases_Bool (list_any (λ x. eqb x y) xs))

-- the values after the first i cells of the order
pub record IsRunning (first : ℕ) (gates : List Gate) (order widths old values : List ℕ) (i : ℕ) : Type 0 where
  pub fit : FitWidths widths values
  pub hold : (k : ℕ) → Contains (take i order) k → GateHolds first gates widths values k
  pub others : KeepsOthers first (length gates) old values

pub running_first : (first : ℕ) (gates : List Gate) (order widths values : List ℕ) → FitWidths widths values → IsRunning first gates order widths values values 0
running_first first gates order widths values fit =
    record {
      fit = fit;
      hold = λ k c. absurd (let l = c.1 in omega (arith, length-take 0 order));
      others = record { before = λ i l. refl; behind = λ i l. refl };
    }

-- the cell at a place of the order, its width and its right side
pub cell_within : (first : ℕ) (gates : List Gate) (order widths : List ℕ) → AreWired first gates order widths → (i : ℕ) → i < length order → get_or order i 0 < length gates
cell_within first gates order widths w i l = w.ordered.ordered.cells i 0 l

pub width_read : (first : ℕ) (gates : List Gate) (order widths : List ℕ) → AreWired first gates order widths → (cell : ℕ) → cell < length gates → slice_get widths (first + cell) ≡ Some (get_or widths (first + cell) 0)
width_read first gates order widths w cell l = slice_get-get_or widths (first + cell) 0 (let r = w.room in omega arith)

has_pattern : (first : ℕ) (gates : List Gate) (order widths values : List ℕ) → AreWired first gates order widths → FitWidths widths values → (i v : ℕ) → slice_get widths i ≡ Some v → HasPattern values i v
has_pattern first gates order widths values w fit i v h =
    record { within = (let l = slice_get_within widths i v h in let s = fit.size in omega arith); fits = fit.fit i v h; wide = w.wide i v h }

pub gate_ready :
    (first : ℕ) (gates : List Gate) (order widths values : List ℕ) → AreWired first gates order widths → FitWidths widths values → (cell : ℕ) → cell < length gates
    → GateFits (HasPattern values) (get_or widths (first + cell) 0) (gate_at gates cell)
gate_ready first gates order widths values w fit cell l =
    gate_fits_map (λ i v. slice_get widths i ≡ Some v) (HasPattern values) (has_pattern first gates order widths values w fit) (get_or widths (first + cell) 0) (gate_at gates cell)
    (w.gates_fit cell (get_or widths (first + cell) 0) l (width_read first gates order widths w cell l))

-- a write of a fitting value keeps the values fitting
fit-set : (widths values : List ℕ) (p w x : ℕ) → FitWidths widths values → slice_get widths p ≡ Some w → x < 2 ^ w → FitWidths widths (set values p x)
fit-set widths values p w x fit h l =
    let lp : p < length values = (let lw = slice_get_within widths p w h in let s = fit.size in omega arith) in
    record {
      size = length-set values p x ∙ fit.size;
      fit = λ i v hi. ⊎_elim
          (λ (e : i ≡ p).
          (let same : v ≡ w = sym (get_or_from_slice_get widths i v 0 hi) ∙ ap (λ j. get_or widths j 0) e ∙ get_or_from_slice_get widths p w 0 h in
          let at : get_or (set values p x) i 0 ≡ x = ap (λ j. get_or (set values p x) j 0) e ∙ get_or-set_same values p x 0 lp in
          let P : ℕ → Type 0 = λ y. y < 2 ^ v in
          let Q : ℕ → Type 0 = λ u. x < 2 ^ u in
          subst P (sym at) (subst Q (sym same) l)))
          (λ (ne : i ≡ p → ⊥). (let P : ℕ → Type 0 = λ y. y < 2 ^ v in subst P (sym (get_or-set_other values p i x 0 ne)) (fit.fit i v hi)))
          (cases_eq i p);
    }

-- a gate that does not read what was written keeps its value
unread :
    (first : ℕ) (gates : List Gate) (values : List ℕ) (k cell x w : ℕ) → k < length gates → cell < length gates → (Reads first gates cell k → ⊥)
    → gate_result (λ i. get_or values i 0) w (gate_at gates k) ≡ gate_result (λ i. get_or (set values (first + cell) x) i 0) w (gate_at gates k)
unread first gates values k cell x w lk lc never =
    gate_result-same (λ i. get_or values i 0) (λ i. get_or (set values (first + cell) x) i 0) w (gate_at gates k)
    (recursion_from_All (λ i. get_or values i 0 ≡ get_or (set values (first + cell) x) i 0) (reads_of (gate_at gates k))
    (λ j d l.
    (let i = get_or (reads_of (gate_at gates k)) j d in
    sym (get_or-set_other values (first + cell) i x 0
    (λ e. never (record { source = lc; reader = lk; reads = (j, l, get_or_default (reads_of (gate_at gates k)) j (first + cell) d l ∙ e) }))))))

-- an earlier part of a list
pub contains_longer : (order : List ℕ) (q i c : ℕ) → q ≤ i → Contains (take q order) c → Contains (take i order) c
contains_longer order q i c l h =
    let short : length (take q order) ≤ q = omega (arith, length-take q order) in
    let near : h.0 < q = omega (arith, h.1) in
    let size = length-take i order in
    let size_q = length-take q order in
    (h.0, (let l' = h.1 in omega arith), get_or-take i order h.0 c (omega arith) ∙ sym (get_or-take q order h.0 c near) ∙ h.2)

-- one more cell has run
pub running_step :
    (first : ℕ) (gates : List Gate) (order widths old values : List ℕ) (i x : ℕ) → AreWired first gates order widths → i < length order
    → x ≡ gate_result (λ j. get_or values j 0) (get_or widths (first + get_or order i 0) 0) (gate_at gates (get_or order i 0))
    → IsRunning first gates order widths old values i → IsRunning first gates order widths old (set values (first + get_or order i 0) x) (i + 1)
running_step first gates order widths old values i x w l e r =
    let cell = get_or order i 0 in
    let p = first + cell in
    let lc : cell < length gates = cell_within first gates order widths w i l in
    let room = w.room in
    let size = r.fit.size in
    let lp : p < length values = omega arith in
    let ready = gate_ready first gates order widths values w r.fit cell lc in
    let P : ℕ → Type 0 = λ y. y < 2 ^ get_or widths p 0 in
    let fits : x < 2 ^ get_or widths p 0 = subst P (sym e) (gate_result_fits values (get_or widths p 0) (gate_at gates cell) ready) in
    record {
      fit = fit-set widths values p (get_or widths p 0) x r.fit (width_read first gates order widths w cell lc) fits;
      hold = λ k h. ⊎_elim
          (λ (done : Contains (take i order) cell).
          (let here : GateHolds first gates widths values cell = r.hold cell done in
          let same : set values p x ≡ values = ap (set values p) (e ∙ sym here) ∙ set-get_or values p 0 in
          let H : List ℕ → Type 0 = λ vs. GateHolds first gates widths vs k in
          subst H (sym same)
          (⊎_elim (λ (c : Contains (take i order) k). r.hold k c) (λ (ek : cell ≡ k). let K : ℕ → Type 0 = λ n. GateHolds first gates widths values n in subst K ek here) (Contains-more order i 0 k l h))))
          (λ (undone : Contains (take i order) cell → ⊥). ⊎_elim
          (λ (c : Contains (take i order) k).
          (let q = c.0 in
          let short : length (take i order) ≤ i = omega (arith, length-take i order) in
          let lq : q < i = omega (arith, c.1) in
          let at : get_or order q 0 ≡ k = get_or_default order q 0 k (omega arith) ∙ sym (get_or-take i order q k lq) ∙ c.2 in
          let K : ℕ → Type 0 = λ n. n < length gates in
          let lk : k < length gates = subst K at (cell_within first gates order widths w q (omega arith)) in
          let R : ℕ → Type 0 = λ n. Reads first gates cell n in
          let never : Reads first gates cell k → ⊥ = λ rd. undone (contains_longer order q i cell (omega arith) (w.ordered.ordered.behind q cell (omega arith) (subst R (sym at) rd))) in
          let other : first + k ≢ p = λ ep. undone (let C : ℕ → Type 0 = λ n. Contains (take i order) n in let ek : k ≡ cell = omega arith in subst C ek c) in
          get_or-set_other values p (first + k) x 0 other ∙ r.hold k c ∙ unread first gates values k cell x (get_or widths (first + k) 0) lk lc never))
          (λ (ek : cell ≡ k).
          (let never : Reads first gates cell cell → ⊥ = λ rd. undone (w.ordered.ordered.behind i cell l rd) in
          let K : ℕ → Type 0 = λ n. GateHolds first gates widths (set values p x) n in
          subst K ek (get_or-set_same values p x 0 lp ∙ e ∙ unread first gates values cell cell x (get_or widths p 0) lc lc never)))
          (Contains-more order i 0 k l h))
          (contains_cases (take i order) cell);
      others = record {
        before = λ j lj. get_or-set_other values p j x 0 (λ ej. omega arith) ∙ r.others.before j lj;
        behind = λ j gj. get_or-set_other values p j x 0 (λ ej. omega arith) ∙ r.others.behind j gj;
      };
    }

-- all cells have run
pub running_all :
    (first : ℕ) (gates : List Gate) (order widths old values : List ℕ) (i : ℕ) → AreWired first gates order widths → length order ≤ i
    → IsRunning first gates order widths old values i → (k : ℕ) → k < length gates → GateHolds first gates widths values k
running_all first gates order widths old values i w l r k lk = r.hold k (Contains-whole order i k l (w.ordered.whole k lk))
