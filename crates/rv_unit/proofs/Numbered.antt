-- Units by number.
use Rattle.std.proofs.Common.{◌≡◌, ℕ, zero, suc, ◌+◌, ◌<◌, ◌≤◌, List, [], ◌∷◌, length, take, drop, get_or, Option, Some, None, Bool, true, false, refl, sym, ap, ◌∙◌, subst, arith, replicate}
use Rattle.std.specs.Prelude.{if◌then◌else◌, slice_get, ◌-◌}
use Rattle.std.proofs.Math.Seq.{drop-cons}
use Rattle.std.proofs.lemmas.Option.{slice_get_past, slice_get-get_or}
use Rattle.ix_graph.specs.declared.graph.Mode.{Mode}
use Rattle.ix_graph.specs.declared.graph.Mode.TheVariants.{InPipeline, Tight, Decoupled, Always}
use Rattle.ix_plan.specs.declared.design.Plan.{Plan}
use Rattle.ix_plan.specs.Units.{unit_in, first_units}
use Rattle.rv_unit.specs.Numbering.{is_decoupled, with_last, lasts_of, unit_after, unit_of}
use Rattle.rv_unit.specs.Entries.{last_time}
use Rattle.rv_unit.specs.Slots.{slots_from, units_from}
use Rattle.rv_unit.specs.UnitLaws.{FirstLaw, NumberingLaw, UnitsLaw, ApartLaw}

-- ---- at first
no_slots : (u t n : ℕ) → slots_from u t n [] ≡ replicate n None
no_slots u t zero = refl
no_slots u t (suc n) = ap (λ l. None ∷ l) (no_slots u (suc t) n)

first_from : (u stages : ℕ) (plans : List Plan) → units_from u stages (lasts_of plans) [] ≡ first_units stages plans
first_from u stages [] = refl
first_from u stages (p ∷ plans) = by_case p.mode (λ v. first_from v stages plans) where
  by_case : (m : Mode) → ((v : ℕ) → units_from v stages (lasts_of plans) [] ≡ first_units stages plans) →
      units_from u stages (with_last (is_decoupled m) p.last (lasts_of plans)) [] ≡ unit_in stages m p.last (first_units stages plans)
  by_case Decoupled ih = ap (λ l. l ∷ units_from (u + 1) stages (lasts_of plans) []) (no_slots u stages (p.last + 1 - stages)) ∙ ap (λ l. replicate (p.last + 1 - stages) None ∷ l) (ih (u + 1))
  by_case InPipeline ih = ih u
  by_case Tight ih = ih u
  by_case Always ih = ih u

pub first_law : FirstLaw
first_law stages plans = first_from 0 stages plans

-- ---- the number of a behaviour's unit
-- with a count of units before the list
numbered : (before : ℕ) (plans : List Plan) (n u : ℕ) (p : Plan) → unit_after (before + length (lasts_of (take n plans))) (slice_get plans n) ≡ Some u →
    slice_get plans n ≡ Some p → (v : ℕ) × (u ≡ before + v) × (v < length (lasts_of plans)) × (last_time (lasts_of plans) v ≡ p.last)
numbered before [] n u p h g = cc
numbered before (q ∷ plans) zero u p h g = by_case (is_decoupled q.mode) h where
  same : q ≡ p
  same = cc

  by_case : (b : Bool) → (if b then Some (before + 0) else None) ≡ Some u →
      (v : ℕ) × (u ≡ before + v) × (v < length (with_last b q.last (lasts_of plans))) × (last_time (with_last b q.last (lasts_of plans)) v ≡ p.last)
  by_case true h = (0, cc, omega arith, ap (λ r. r.last) same)
  by_case false h = cc
numbered before (q ∷ plans) (suc n) u p h g = by_case (is_decoupled q.mode) h (λ c h'. numbered c plans n u p h' g) where
  by_case : (b : Bool) → unit_after (before + length (with_last b q.last (lasts_of (take n plans)))) (slice_get plans n) ≡ Some u →
      ((c : ℕ) → unit_after (c + length (lasts_of (take n plans))) (slice_get plans n) ≡ Some u →
      (v : ℕ) × (u ≡ c + v) × (v < length (lasts_of plans)) × (last_time (lasts_of plans) v ≡ p.last)) →
      (v : ℕ) × (u ≡ before + v) × (v < length (with_last b q.last (lasts_of plans))) × (last_time (with_last b q.last (lasts_of plans)) v ≡ p.last)
  by_case true h ih =
      let more : before + suc (length (lasts_of (take n plans))) ≡ suc before + length (lasts_of (take n plans)) = omega arith in
      let r = ih (suc before) (subst (λ c. unit_after c (slice_get plans n) ≡ Some u) more h) in
      (suc r.0, omega (arith, r.1), omega (arith, r.2), r.3)
  by_case false h ih = ih before h

pub numbering_law : NumberingLaw
numbering_law plans n u p h g =
    let none : length (lasts_of (take n plans)) ≡ 0 + length (lasts_of (take n plans)) = omega arith in
    let r = numbered 0 plans n u p (subst (λ c. unit_after c (slice_get plans n) ≡ Some u) none h) g in
    let same : u ≡ r.0 = omega (arith, r.1) in
    (omega (arith, r.2), ap (λ v. last_time (lasts_of plans) v) same ∙ r.3)

-- ---- no two behaviours have one unit
count_of : (c u : ℕ) (o : Option Plan) → unit_after c o ≡ Some u → c ≡ u
count_of c u None h = cc
count_of c u (Some p) h = by_case (is_decoupled p.mode) h where
  by_case : (b : Bool) → (if b then Some c else None) ≡ Some u → c ≡ u
  by_case true h = cc
  by_case false h = cc

-- a behaviour behind the first one does not have the first one's unit
first_alone : (before : ℕ) (q : Plan) (plans : List Plan) (m u : ℕ) → unit_after (before + 0) (Some q) ≡ Some u →
    unit_after (before + length (lasts_of (take (suc m) (q ∷ plans)))) (slice_get plans m) ≡ Some u → ⊥
first_alone before q plans m u h g = by_case (is_decoupled q.mode) h g where
  by_case : (b : Bool) → (if b then Some (before + 0) else None) ≡ Some u →
      unit_after (before + length (with_last b q.last (lasts_of (take m plans)))) (slice_get plans m) ≡ Some u → ⊥
  by_case true h g =
      let first : before + 0 ≡ u = cc in
      let other = count_of (before + suc (length (lasts_of (take m plans)))) u (slice_get plans m) g in
      omega (arith, first, other)
  by_case false h g = cc

apart : (before : ℕ) (plans : List Plan) (n m u : ℕ) → unit_after (before + length (lasts_of (take n plans))) (slice_get plans n) ≡ Some u →
    unit_after (before + length (lasts_of (take m plans))) (slice_get plans m) ≡ Some u → n ≡ m
apart before [] n m u h g = cc
apart before (q ∷ plans) zero zero u h g = refl
apart before (q ∷ plans) zero (suc m) u h g = absurd (first_alone before q plans m u h g)
apart before (q ∷ plans) (suc n) zero u h g = absurd (first_alone before q plans n u g h)
apart before (q ∷ plans) (suc n) (suc m) u h g = ap suc (by_case (is_decoupled q.mode) h g (λ c h' g'. apart c plans n m u h' g')) where
  by_case : (b : Bool) → unit_after (before + length (with_last b q.last (lasts_of (take n plans)))) (slice_get plans n) ≡ Some u →
      unit_after (before + length (with_last b q.last (lasts_of (take m plans)))) (slice_get plans m) ≡ Some u →
      ((c : ℕ) → unit_after (c + length (lasts_of (take n plans))) (slice_get plans n) ≡ Some u →
      unit_after (c + length (lasts_of (take m plans))) (slice_get plans m) ≡ Some u → n ≡ m) → n ≡ m
  by_case true h g ih =
      let more : (k : ℕ) → before + suc k ≡ suc before + k = λ k. omega arith in
      ih (suc before) (subst (λ c. unit_after c (slice_get plans n) ≡ Some u) (more _) h) (subst (λ c. unit_after c (slice_get plans m) ≡ Some u) (more _) g)
  by_case false h g ih = ih before h g

pub apart_law : ApartLaw
apart_law plans n m u h g =
    let none : (k : ℕ) → k ≡ 0 + k = λ k. omega arith in
    apart 0 plans n m u (subst (λ c. unit_after c (slice_get plans n) ≡ Some u) (none _) h) (subst (λ c. unit_after c (slice_get plans m) ≡ Some u) (none _) g)

-- ---- plans one after another
pub lasts_rest : (plans : List Plan) (i : ℕ) (p : Plan) → i < length plans → p ≡ get_or plans i p →
    lasts_of (drop i plans) ≡ with_last (is_decoupled p.mode) p.last (lasts_of (drop (i + 1) plans))
lasts_rest plans i p lt q =
    ap lasts_of (drop-cons plans i p lt) ∙ ap (λ x. with_last (is_decoupled x.mode) x.last (lasts_of (drop (suc i) plans))) (sym q)
    ∙ ap (λ k. with_last (is_decoupled p.mode) p.last (lasts_of (drop k plans))) more where
      more : suc i ≡ i + 1
      more = omega arith

-- the first plans have no more units than all
pub lasts_taken : (plans : List Plan) (n : ℕ) → length (lasts_of (take n plans)) ≤ length (lasts_of plans)
lasts_taken plans zero = omega arith
lasts_taken [] (suc n) = omega arith
lasts_taken (p ∷ plans) (suc n) = by_case (is_decoupled p.mode) (lasts_taken plans n) where
  by_case : (b : Bool) → length (lasts_of (take n plans)) ≤ length (lasts_of plans) →
      length (with_last b p.last (lasts_of (take n plans))) ≤ length (with_last b p.last (lasts_of plans))
  by_case true h = omega (arith, h)
  by_case false h = h

-- ---- the unit of a behaviour, as it is found
pub unit_past : (plans : List Plan) (n : ℕ) → length plans ≤ n → unit_of plans n ≡ None
unit_past plans n le = ap (λ o. unit_after (length (lasts_of (take n plans))) o) (slice_get_past plans n le)

pub unit_there : (plans : List Plan) (n : ℕ) (p : Plan) → n < length plans → p ≡ get_or plans n p →
    unit_of plans n ≡ (if is_decoupled p.mode then Some (length (lasts_of (take n plans))) else None)
unit_there plans n p lt q =
    ap (λ o. unit_after (length (lasts_of (take n plans))) o) (slice_get-get_or plans n p lt)
    ∙ ap (λ x. if is_decoupled x.mode then Some (length (lasts_of (take n plans))) else None) (sym q)

pub unit_found : (plans : List Plan) (n count : ℕ) (p : Plan) → n < length plans → p ≡ get_or plans n p → is_decoupled p.mode ≡ true →
    count ≡ length (lasts_of (take n plans)) → Some count ≡ unit_of plans n
unit_found plans n count p lt q d e =
    ap Some e ∙ sym (unit_there plans n p lt q ∙ ap (λ b. if b then Some (length (lasts_of (take n plans))) else None) d)

-- ---- the units of a design can be
lasts_few : (plans : List Plan) → length (lasts_of plans) ≤ length plans
lasts_few [] = omega arith
lasts_few (p ∷ plans) = by_case (is_decoupled p.mode) (lasts_few plans) where
  by_case : (b : Bool) → length (lasts_of plans) ≤ length plans → length (with_last b p.last (lasts_of plans)) ≤ suc (length plans)
  by_case true h = omega (arith, h)
  by_case false h = omega (arith, h)

-- what holds of the last time of each decoupled plan holds of each unit's
lasts_each : (P : ℕ → Type 0) (plans : List Plan) → ((n : ℕ) (p : Plan) → slice_get plans n ≡ Some p → is_decoupled p.mode ≡ true → P p.last) →
    (k d : ℕ) → k < length (lasts_of plans) → P (get_or (lasts_of plans) k d)
lasts_each P [] h k d lt = absurd (omega arith)
lasts_each P (p ∷ plans) h k d lt = by_case (is_decoupled p.mode) refl k lt (λ j lt'. lasts_each P plans (λ n. h (suc n)) j d lt') where
  by_case : (b : Bool) → is_decoupled p.mode ≡ b → (k : ℕ) → k < length (with_last b p.last (lasts_of plans)) →
      ((j : ℕ) → j < length (lasts_of plans) → P (get_or (lasts_of plans) j d)) → P (get_or (with_last b p.last (lasts_of plans)) k d)
  by_case true q zero lt ih = h 0 p refl q
  by_case true q (suc k) lt ih = ih k (omega arith)
  by_case false q k lt ih = ih k lt

pub units_law : UnitsLaw
units_law stages plans few h = record {
  few = (let less = lasts_few plans in omega (arith, less));
  first = lasts_each (λ last. stages ≤ last) plans (λ n p g q. (h n p g q).0);
  most = lasts_each (λ last. last ≤ 64) plans (λ n p g q. (h n p g q).1);
}
