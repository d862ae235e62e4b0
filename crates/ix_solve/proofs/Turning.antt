-- Inequalities that are turned round, one after the other.
use Rattle.std.proofs.Common.{◌≡◌, ℕ, ◌+◌, ◌-◌, ◌≤◌, ◌<◌, List, [], ◌∷◌, ◌++◌, length, get_or, take, refl, sym, ◌∙◌, ap, arith, ◌⊎◌, inl, inr}
use Rattle.std.specs.Prelude.{All, Contains}
use Rattle.std.proofs.lemmas.List.{get_or_append_left, get_or_push, get_or-take, length_push, length-take-le, take-append-le, take_all}
use Rattle.std.proofs.lemmas.List.Elements.{All-push, All-nil, All-from_get_or, Contains-append_left, Contains-get_or}
use Rattle.ix_sheet.specs.declared.problem.Arc.{Arc}
use Rattle.ix_sheet.specs.Bounds.{turned}
use Rattle.ix_solve.specs.declared.network.Network.{Network}
use Rattle.ix_solve.specs.Search.{no_arc, arc_at, IsInside}
use Rattle.ix_solve.specs.Networks.{IsNetwork, IsResidual}

-- the first i inequalities are told, and those of them that carry an amount are turned round behind all
pub record IsTurning (m : ℕ) (first : List Arc) (amounts : List ℕ) (arcs : List Arc) (back : List ℕ) (i : ℕ) : Type 0 where
  pub first_len : length first ≡ m
  pub len : length arcs ≡ m + length back
  pub kept : take m arcs ≡ first
  pub against : (j : ℕ) → j < length back → (get_or back j 0 < m) × (arc_at arcs (m + j) ≡ turned (arc_at first (get_or back j 0)))
  pub only : All (λ k. 0 < get_or amounts k 0) back
  pub each : (k : ℕ) → k < i → 0 < get_or amounts k 0 → Contains back k

below_or_last : (k n : ℕ) → k < n + 1 → (k < n) ⊎ (k ≡ n)
below_or_last k n h = grind arith

below_or_not : (k n : ℕ) → (k < n) ⊎ (n ≤ k)
below_or_not k n = grind arith

-- the inequalities are not moved
same_there : (m : ℕ) (first : List Arc) (arcs : List Arc) (k : ℕ) → take m arcs ≡ first → k < m → arc_at arcs k ≡ arc_at first k
same_there m first arcs k kept b = sym (get_or-take m arcs k no_arc b) ∙ ap (λ xs. get_or xs k no_arc) kept

-- one more carries nothing
pub turning_none : (m : ℕ) (first : List Arc) (amounts : List ℕ) (arcs : List Arc) (back : List ℕ) (i : ℕ) → IsTurning m first amounts arcs back i → get_or amounts i 0 ≡ 0 →
    IsTurning m first amounts arcs back (i + 1)
turning_none m first amounts arcs back i h none = record {
  first_len = h.first_len;
  len = h.len;
  kept = h.kept;
  against = h.against;
  only = h.only;
  each = λ k b some. elim (below_or_last k i b) [
    | inl low ↦ h.each k low some
    | inr e ↦ (let z : get_or amounts k 0 ≡ get_or amounts i 0 = ap (λ q. get_or amounts q 0) e in absurd (omega arith))
  ];
}

-- one more is turned round
pub turning_some : (m : ℕ) (first : List Arc) (amounts : List ℕ) (arcs new : List Arc) (back places : List ℕ) (a : Arc) (i p : ℕ) → IsTurning m first amounts arcs back i → i < m →
    0 < get_or amounts i 0 → a ≡ turned (arc_at arcs i) → new ≡ arcs ++ a ∷ [] → p ≡ i → places ≡ back ++ p ∷ [] → IsTurning m first amounts new places (i + 1)
turning_some m first amounts arcs new back places a i p h b some ea en ei ep =
    let long : length (back ++ i ∷ []) ≡ length back + 1 = length_push back i in
    let at_end : arc_at (arcs ++ a ∷ []) (m + length back) ≡ a = get_or_push arcs a no_arc (m + length back) h.len in
    let last : get_or (back ++ i ∷ []) (length back) 0 ≡ i = get_or_push back i 0 (length back) refl in
    rw (en, ep, ei) (record {
      first_len = h.first_len;
      len = length_push arcs a ∙ omega (arith, h.len);
      kept = take-append-le m arcs (a ∷ []) (omega (arith, h.len)) ∙ h.kept;
      against = λ j j_in. elim (below_or_last j (length back) (omega arith)) [
        | inl low ↦
            (let old : get_or (back ++ i ∷ []) j 0 ≡ get_or back j 0 = get_or_append_left back (i ∷ []) 0 j low in
            let there : arc_at (arcs ++ a ∷ []) (m + j) ≡ arc_at arcs (m + j) = get_or_append_left arcs (a ∷ []) no_arc (m + j) (omega (arith, h.len)) in
            let was = h.against j low in
            rw (old, there) was)
        | inr e ↦ rw (e, last, at_end) (b, ea ∙ ap turned (same_there m first arcs i h.kept b))
      ];
      only = All-push (λ k. 0 < get_or amounts k 0) back i h.only some;
      each = λ k k_in carries. elim (below_or_last k i k_in) [
        | inl low ↦ Contains-append_left back (i ∷ []) k (h.each k low carries)
        | inr e ↦
            (let c : Contains (back ++ i ∷ []) (get_or (back ++ i ∷ []) (length back) 0) = Contains-get_or (back ++ i ∷ []) (length back) 0 (omega arith) in
            rw e (rw last at c))
      ];
    })

-- before the first
pub turning_start : (m : ℕ) (old arcs : List Arc) (amounts back : List ℕ) → m ≤ length old → arcs ≡ take m old → back ≡ [] → IsTurning m (take m old) amounts arcs back 0
turning_start m old arcs amounts back b ea eb = rw (ea, eb) (record {
  first_len = length-take-le m old b;
  len = (let e = length-take-le m old b in omega arith);
  kept = take_all m (take m old) (omega (arith, length-take-le m old b));
  against = λ j j_in. absurd (omega arith);
  only = All-nil (λ k. 0 < get_or amounts k 0);
  each = λ k k_in. absurd (omega arith);
})

-- all are told
pub turned_network : (old new : Network) (amounts : List ℕ) (i : ℕ) → IsNetwork old → IsTurning old.bounds (take old.bounds old.arcs.items) amounts new.arcs.items new.back.items i →
    length amounts ≡ i → length amounts ≡ old.bounds → new.root ≡ old.root → new.bounds ≡ old.bounds → IsNetwork new
turned_network old new amounts i is h ei same er eb =
    let m = old.bounds in
    let n = old.root in
    let at : (k : ℕ) → k < m → arc_at new.arcs.items k ≡ arc_at old.arcs.items k
    = λ k b. same_there m (take m old.arcs.items) new.arcs.items k h.kept b ∙ get_or-take m old.arcs.items k no_arc b in
    let low : (k : ℕ) → k < m → IsInside n (arc_at new.arcs.items k) = λ k b. rw (at k b) (is.framed.inside k no_arc (omega (arith, is.len))) in
    record {
      few = rw eb is.few;
      len = rw eb h.len;
      enough = rw (eb, er) is.enough;
      framed = rw er (record {
        enough = omega (arith, h.len, is.enough);
        early = λ v b. rw (at v (omega (arith, is.enough))) (is.framed.early v b);
        late = λ v b. rw (at (n + v) (omega (arith, is.enough))) (is.framed.late v b);
        inside = All-from_get_or (IsInside n) new.arcs.items no_arc
            (λ k b. elim (below_or_not k m) [
              | inl in_first ↦ low k in_first
              | inr high ↦
                  (let j = k - m in
                  let j_in : j < length new.back.items = omega (arith, h.len) in
                  let sum : m + j ≡ k = omega arith in
                  let a = h.against j j_in in
                  let e : arc_at new.arcs.items k ≡ turned (arc_at (take m old.arcs.items) (get_or new.back.items j 0)) = ap (λ q. arc_at new.arcs.items q) (sym sum) ∙ a.1 in
                  let i = low (get_or new.back.items j 0) a.0 in
                  let there : arc_at (take m old.arcs.items) (get_or new.back.items j 0) ≡ arc_at new.arcs.items (get_or new.back.items j 0) = sym (same_there m (take m old.arcs.items) new.arcs.items (get_or new.back.items j 0) h.kept a.0) in
                  rw (e, there) (i.1, i.0))
            ]);
      });
      against = rw eb (λ j b.
          (let a = h.against j b in
          let there : arc_at (take m old.arcs.items) (get_or new.back.items j 0) ≡ arc_at new.arcs.items (get_or new.back.items j 0) = sym (same_there m (take m old.arcs.items) new.arcs.items (get_or new.back.items j 0) h.kept a.0) in
          (a.0, rw there at a.1)));
    }

pub turned_residual : (new : Network) (m : ℕ) (first : List Arc) (amounts : List ℕ) (i : ℕ) → IsTurning m first amounts new.arcs.items new.back.items i → new.bounds ≡ i → IsResidual amounts new
turned_residual new m first amounts i h e = record { each = λ k b some. h.each k (omega arith) some; only = h.only }
