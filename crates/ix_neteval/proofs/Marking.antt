-- Signals are marked where they change, and a cell that reads none of these keeps its value.
use Rattle.std.proofs.Common.{◌≡◌, ◌≢◌, ⊎_elim, inl, inr, ℕ, zero, suc, ◌+◌, ◌-◌, ◌<◌, ◌≤◌, List, [], ◌∷◌, Bool, true, false, length, get_or, set, take, drop, ◌++◌, not, ◌==◌, ◌||◌, arith, refl, ap, sym, ◌∙◌, subst, Contains}
use Rattle.std.specs.List.{list_any}
use Rattle.std.proofs.lemmas.Bool.{cases_eq, cases_lt}
use Rattle.std.proofs.lemmas.List.{get_or-set_same, get_or-set_other, get_or_default, get_or-take, get_or-drop, get_or_past, get_or_append_left, get_or-append_right, length-take, length-take-le, length-append, length-drop}
use Rattle.std.proofs.lemmas.List.Elements.{recursion_from_All}
use Rattle.ix_net.specs.declared.gates.Gate.{Gate}
use Rattle.ix_net.specs.Gates.{reads_of, gate_result}
use Rattle.ix_net.specs.Order.{gate_at}
use Rattle.ix_net.proofs.OrderLemmas.{Contains-more}
use Rattle.ix_neteval.specs.Wired.{AreWired, GateHolds}
use Rattle.ix_neteval.specs.Marked.{is_marked, IsDone, IsMarked}
use Rattle.ix_neteval.proofs.GateLemmas.{gate_result-same}
use Rattle.ix_neteval.proofs.RunLemmas.{IsRunning, cell_within, contains_cases, contains_longer}

-- so many of the values from a place on, where they are not marked, are these already
abbrev pub Flagged : List ℕ → List ℕ → ℕ → List Bool → ℕ → Type 0
Flagged values news at marks count = (s : ℕ) → s < count → get_or marks (at + s) false ≡ false → get_or values (at + s) 0 ≡ get_or news s 0

same_of : (a b : ℕ) → not (a == b) ≡ false → a ≡ b
same_of a b h = by_case (a == b) refl h where
  by_case : (t : Bool) → (a == b) ≡ t → not t ≡ false → a ≡ b
  by_case true e q = grind (arith, e)
  by_case false e q = cc

pub flag_step : (values news : List ℕ) (marks : List Bool) (at i : ℕ) (b : Bool) → at + i < length marks → b ≡ not (get_or values (at + i) 0 == get_or news i 0) → Flagged values news at marks i
    → Flagged values news at (set marks (at + i) b) (i + 1)
flag_step values news marks at i b room is before s lt none = ⊎_elim
    (λ (e : s ≡ i).
    (let here : get_or (set marks (at + i) b) (at + s) false ≡ b = ap (λ n. get_or (set marks (at + i) b) (at + n) false) e ∙ get_or-set_same marks (at + i) b false room in
    let same = same_of (get_or values (at + i) 0) (get_or news i 0) (sym is ∙ sym here ∙ none) in
    ap (λ n. get_or values (at + n) 0) e ∙ same ∙ ap (λ n. get_or news n 0) (sym e)))
    (λ (ne : s ≡ i → ⊥). before s (omega (arith, lt, ne)) (sym (get_or-set_other marks (at + i) (at + s) b false (λ e. ne (omega (arith, e)))) ∙ none))
    (cases_eq s i)

-- what stands before a place keeps its mark
pub flag_kept : (marks : List Bool) (at i : ℕ) (b : Bool) (s : ℕ) → s < at → get_or (set marks (at + i) b) s false ≡ get_or marks s false
flag_kept marks at i b s lt = get_or-set_other marks (at + i) s b false (λ e. (let l = lt in omega (arith, l, e)))

-- ---- cells

neither : (a b : Bool) → (a || b) ≡ false → (a ≡ false) × (b ≡ false)
neither true b e = cc
neither false b e = (refl, e)

-- the element of a list is among the first ones up to it
contains_last : (order : List ℕ) (i k : ℕ) → i < length order → k ≡ get_or order i 0 → Contains (take (i + 1) order) k
contains_last order i k l e = (i, (let s = length-take (i + 1) order in omega (arith, l, s)), get_or-take (i + 1) order i k (omega arith) ∙ get_or_default order i k 0 l ∙ sym e)

unmarked_each : (f : ℕ → Bool) (xs : List ℕ) → list_any f xs ≡ false → (j d : ℕ) → j < length xs → f (get_or xs j d) ≡ false
unmarked_each f [] h j d l = absurd (omega (arith, l))
unmarked_each f (x ∷ xs) h zero d l = (neither (f x) (list_any f xs) h).0
unmarked_each f (x ∷ xs) h (suc j) d l = unmarked_each f xs (neither (f x) (list_any f xs) h).1 j d (omega (arith, l))

module _ (first : ℕ) (gates : List Gate) (order widths old values : List ℕ) (i : ℕ) (marks : List Bool) (w : AreWired first gates order widths) (l : i < length order) (r : IsRunning first gates order widths old values i) where
  -- what the cell reads is no cell, or has its value already
  read_done : (s : ℕ) → Contains (reads_of (gate_at gates (get_or order i 0))) s → IsDone first (length gates) (take i order) s
  read_done s reads = ⊎_elim
      (λ (before : s < first). inl before)
      (λ (from : first ≤ s). ⊎_elim
      (λ (inside : s < first + length gates).
      (let k = s - first in
      let there : s ≡ first + k = omega (arith, from) in
      let C : ℕ → Type 0 = λ n. Contains (reads_of (gate_at gates (get_or order i 0))) n in
      inr (inr (k, w.ordered.ordered.behind i k l (record { source = omega (arith, from, inside); reader = cell_within first gates order widths w i l; reads = subst C there reads }), there))))
      (λ (behind : first + length gates ≤ s). inr (inl behind))
      (cases_lt s (first + length gates)))
      (cases_lt s first)

  -- a cell that reads nothing that is marked has the value of its right side
  pub kept_value : IsMarked first gates widths (take i order) marks values → list_any (is_marked marks) (reads_of (gate_at gates (get_or order i 0))) ≡ false
      → get_or values (first + get_or order i 0) 0 ≡ gate_result (λ j. get_or values j 0) (get_or widths (first + get_or order i 0) 0) (gate_at gates (get_or order i 0))
  kept_value m unmarked = ⊎_elim
      (λ (done : Contains (take i order) (get_or order i 0)). r.hold (get_or order i 0) done)
      (λ (undone : Contains (take i order) (get_or order i 0) → ⊥).
      (let inside = cell_within first gates order widths w i l in
      m.waiting (get_or order i 0) inside undone
      ∙ m.held (get_or order i 0) inside
      ∙ gate_result-same (λ j. get_or m.before j 0) (λ j. get_or values j 0) (get_or widths (first + get_or order i 0) 0) (gate_at gates (get_or order i 0))
      (recursion_from_All (λ s. get_or m.before s 0 ≡ get_or values s 0) (reads_of (gate_at gates (get_or order i 0)))
      (λ j d lt.
      (let s = get_or (reads_of (gate_at gates (get_or order i 0))) j d in
      sym (m.same s (read_done s (j, lt, get_or_default (reads_of (gate_at gates (get_or order i 0))) j s d lt)) (unmarked_each (is_marked marks) (reads_of (gate_at gates (get_or order i 0))) unmarked j d lt)))))))
      (contains_cases (take i order) (get_or order i 0))

  -- one more cell has its value
  pub marked_step : (x : ℕ) → length marks ≡ length values → IsMarked first gates widths (take i order) marks values
      → IsMarked first gates widths (take (i + 1) order) (set marks (first + get_or order i 0) (is_marked marks (first + get_or order i 0) || not (get_or values (first + get_or order i 0) 0 == x))) (set values (first + get_or order i 0) x)
  marked_step x sizes m =
      let p = first + get_or order i 0 in
      let inside = cell_within first gates order widths w i l in
      let room = w.room in
      let size = r.fit.size in
      let there : p < length values = omega (arith, room, size, inside) in
      let mark : Bool = is_marked marks p || not (get_or values p 0 == x) in
      record {
        before = m.before;
        held = m.held;
        waiting = λ k lk undone.
            (let other : first + k ≢ p = λ e. undone (let same : k ≡ get_or order i 0 = omega (arith, e) in contains_last order i k l same) in
            get_or-set_other values p (first + k) x 0 other ∙ m.waiting k lk (λ c. undone (contains_longer order i (i + 1) k (omega arith) c)));
        same = λ s done unmarked. ⊎_elim
            (λ (e : s ≡ p).
            (let both = neither (is_marked marks p) (not (get_or values p 0 == x)) (sym (get_or-set_same marks p mark false (omega (arith, there, sizes))) ∙ ap (λ n. get_or (set marks p mark) n false) (sym e) ∙ unmarked) in
            let kept : x ≡ get_or values p 0 = sym (same_of (get_or values p 0) x both.1) in
            let was : get_or values p 0 ≡ get_or m.before p 0 = ⊎_elim
            (λ (done : Contains (take i order) (get_or order i 0)). m.same p (inr (inr (get_or order i 0, done, refl))) both.0)
            (λ (undone : Contains (take i order) (get_or order i 0) → ⊥). m.waiting (get_or order i 0) inside undone)
            (contains_cases (take i order) (get_or order i 0)) in
            ap (λ n. get_or (set values p x) n 0) e ∙ get_or-set_same values p x 0 there ∙ kept ∙ was ∙ ap (λ n. get_or m.before n 0) (sym e)))
            (λ (ne : s ≡ p → ⊥).
            get_or-set_other values p s x 0 ne
            ∙ m.same s (shorter s ne done) (sym (get_or-set_other marks p s mark false ne) ∙ unmarked))
            (cases_eq s p);
      }
    where
      shorter : (s : ℕ) → (s ≡ first + get_or order i 0 → ⊥) → IsDone first (length gates) (take (i + 1) order) s → IsDone first (length gates) (take i order) s
      shorter s ne (inl before) = inl before
      shorter s ne (inr (inl behind)) = inr (inl behind)
      shorter s ne (inr (inr (k, c, at))) = ⊎_elim (λ (c : Contains (take i order) k). inr (inr (k, c, at))) (λ (same : get_or order i 0 ≡ k). absurd (ne (at ∙ ap (λ n. first + n) (sym same)))) (Contains-more order i 0 k l c)

-- ---- inputs and banks

-- with the inputs in front and the banks at the end only what is marked of these has changed, and no cell has
pub loaded_marked :
    (gates : List Gate) (widths raws banks old loaded : List ℕ) (before marks : List Bool) (n : ℕ) → ((k : ℕ) → k < length gates → GateHolds n gates widths old k) → length raws ≡ n
    → n + length gates + length banks ≡ length old → loaded ≡ take (n + length gates) (raws ++ drop n old) ++ banks
    → ((s : ℕ) → s < n → is_marked before s ≡ false → get_or old s 0 ≡ get_or raws s 0) → ((s : ℕ) → s < n + length gates → is_marked marks s ≡ is_marked before s)
    → ((k : ℕ) → k < length banks → is_marked marks (n + length gates + k) ≡ false → get_or old (n + length gates + k) 0 ≡ get_or banks k 0)
    → IsMarked n gates widths [] marks loaded
loaded_marked gates widths raws banks old loaded before marks n hold count size made inputs kept ends =
    record {
      before = old;
      held = hold;
      waiting = λ k lk undone.
          (let lt : n + k < n + length gates = omega (arith, lk) in
          at (n + k) lt ∙ get_or-append_right raws (drop n old) n (n + k) 0 count (omega arith) ∙ get_or-drop n old (n + k - n) 0 ∙ ap (λ j. get_or old j 0) (omega arith));
      same = case;
    }
  where
    m : ℕ
    m = n + length gates

    front : List ℕ
    front = raws ++ drop n old

    front_size : length (raws ++ drop n old) ≡ length old
    front_size = length-append raws (drop n old) ∙ (let d = length-drop n old in omega (arith, d, count, size))

    taken : length (take (n + length gates) (raws ++ drop n old)) ≡ n + length gates
    taken = length-take-le (n + length gates) (raws ++ drop n old) (let s = front_size in omega (arith, s, size))

    at : (s : ℕ) → s < n + length gates → get_or loaded s 0 ≡ get_or (raws ++ drop n old) s 0
    at s lt = ap (λ (l : List ℕ). get_or l s 0) made ∙ get_or_append_left (take (n + length gates) (raws ++ drop n old)) banks 0 s (let t = taken in omega (arith, t, lt)) ∙ get_or-take (n + length gates) (raws ++ drop n old) s 0 lt

    loaded_size : length loaded ≡ length old
    loaded_size = ap (λ (l : List ℕ). length l) made ∙ length-append (take (n + length gates) (raws ++ drop n old)) banks ∙ (let t = taken in omega (arith, t, size))

    case : (s : ℕ) → IsDone n (length gates) [] s → is_marked marks s ≡ false → get_or loaded s 0 ≡ get_or old s 0
    case s (inl lt) unmarked = at s (omega (arith, lt)) ∙ get_or_append_left raws (drop n old) 0 s (omega (arith, lt, count)) ∙ sym (inputs s lt (sym (kept s (omega (arith, lt))) ∙ unmarked))
    case s (inr (inl behind)) unmarked = ⊎_elim
        (λ (inside : s < length old).
        (let k = s - (n + length gates) in
        let there : n + length gates + k ≡ s = omega (arith, behind) in
        ap (λ (l : List ℕ). get_or l s 0) made
        ∙ get_or-append_right (take (n + length gates) (raws ++ drop n old)) banks (n + length gates) s 0 taken behind
        ∙ sym (ends k (omega (arith, inside, size, behind)) (ap (is_marked marks) there ∙ unmarked))
        ∙ ap (λ j. get_or old j 0) there))
        (λ (outside : length old ≤ s). get_or_past loaded s 0 (let z = loaded_size in omega (arith, z, outside)) ∙ sym (get_or_past old s 0 outside))
        (cases_lt s (length old))
    case s (inr (inr (k, c, e))) unmarked = absurd (let l = c.1 in omega (arith, l))
