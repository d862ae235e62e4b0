-- From the entries of a row to those of the next.
use Rattle.std.proofs.Common.{◌≡◌, ℕ, zero, suc, ◌+◌, ◌<◌, ◌≤◌, List, [], ◌∷◌, ◌++◌, length, map, take, drop, Option, Some, None, Bool, true, false, refl, sym, ap, ◌∙◌, subst, arith, All, get_or, set}
use Rattle.std.specs.Prelude.{◌&&◌, if◌then◌else◌, ◌==◌, ◌↔◌, IfSome, is_some}
use Rattle.std.proofs.Math.Seq.{drop-cons}
use Rattle.std.proofs.lemmas.Bool.Decides.{nat_tests}
use Rattle.rv_unit.specs.declared.entry.Entry.{Entry}
use Rattle.rv_unit.specs.declared.survey.Survey.{Survey}
use Rattle.rv_unit.specs.Entries.{last_time, is_finished, has_finished, writer, is_number, is_frozen, does_write, written_among, written_entry, unit_and_serial, moved, cons_unless, stepped, next_entries}
use Rattle.rv_unit.specs.Timed.{AreUnits, IsEntry, IsTimed, CanEnter, room}
use Rattle.rv_unit.specs.Surveys.{IsSurvey, is_frozen_by, moved_by, HasNext, staying, IsWrittenAt}
use Rattle.rv_unit.proofs.Finishing.{none_finished, writer_finished, finished_below, nothing_written, same_test, has_serial_at, written_serial}
use Rattle.rv_unit.specs.Slots.{serial_at}
use Rattle.ix_plan.specs.Units.{has_some, with_unit}
use Rattle.rv_unit.proofs.Moving.{writes_alone, timed_law}
use Rattle.rv_unit.proofs.Fewer.{room_law}
use Rattle.rv_unit.proofs.Surveying.{frozen_found}

-- ---- where the entry stands that writes
-- the test of the code is that of the definition
pub writes_at : (lasts : List ℕ) (all : List Entry) (w : ℕ) (e : Entry) → writer lasts all ≡ Some w →
    does_write lasts all e ≡ ((e.unit == w) && (e.time == last_time lasts w))
writes_at lasts all w e h = ap (λ o. is_finished lasts e && is_number o e.unit) h ∙ ap (λ b. is_finished lasts e && b) turned ∙ same_test lasts w e where
  turned : (w == e.unit) ≡ (e.unit == w)
  turned = grind (arith, nat_tests)

pub none_stays : (lasts : List ℕ) (all l : List Entry) → written_among lasts all l ≡ None → staying lasts all l ≡ l
none_stays lasts all [] h = refl
none_stays lasts all (e ∷ rest) h = by_case (does_write lasts all e) h (λ h'. none_stays lasts all rest h') where
  by_case : (b : Bool) → (if b then Some e else written_among lasts all rest) ≡ None → (written_among lasts all rest ≡ None → staying lasts all rest ≡ rest) →
      cons_unless b e (staying lasts all rest) ≡ e ∷ rest
  by_case true h ih = cc
  by_case false h ih = ap (λ l. e ∷ l) (ih h)

-- of a part that is looked through nothing writes
pub record IsSought (lasts : List ℕ) (all : List Entry) (i : ℕ) : Type 0 where
  pub written : written_entry lasts all ≡ written_among lasts all (drop i all)
  pub others : staying lasts all all ≡ take i all ++ staying lasts all (drop i all)

pub sought_first : (lasts : List ℕ) (all : List Entry) → IsSought lasts all 0
sought_first lasts all = record { written = refl; others = refl }

-- what stands at i, and what is behind it
at_drop : (all : List Entry) (i : ℕ) (d : Entry) → i < length all → drop i all ≡ get_or all i d ∷ drop (i + 1) all
at_drop all i d lt = drop-cons all i d lt ∙ ap (λ k. get_or all i d ∷ drop k all) more where
  more : suc i ≡ i + 1
  more = omega arith

take_one_more : (all rest : List Entry) (i : ℕ) (d : Entry) → i < length all → take i all ++ get_or all i d ∷ rest ≡ take (i + 1) all ++ rest
take_one_more all rest i d lt = by_list all i lt ∙ ap (λ k. take k all ++ rest) more where
  more : suc i ≡ i + 1
  more = omega arith

  by_list : (l : List Entry) (k : ℕ) → k < length l → take k l ++ get_or l k d ∷ rest ≡ take (suc k) l ++ rest
  by_list [] k lt = absurd (omega arith)
  by_list (e ∷ l) zero lt = refl
  by_list (e ∷ l) (suc k) lt = ap (λ r. e ∷ r) (by_list l k (omega arith))

pub sought_more : (lasts : List ℕ) (all : List Entry) (i : ℕ) (e d : Entry) → IsSought lasts all i → i < length all → e ≡ get_or all i d →
    does_write lasts all e ≡ false → IsSought lasts all (i + 1)
sought_more lasts all i e d h lt q w = record {
  written = h.written ∙ ap (λ l. written_among lasts all l) parts ∙ ap (λ b. if b then Some e else written_among lasts all (drop (i + 1) all)) w;
  others = h.others ∙ ap (λ l. take i all ++ staying lasts all l) parts
      ∙ ap (λ b. take i all ++ cons_unless b e (staying lasts all (drop (i + 1) all))) w
      ∙ ap (λ x. take i all ++ x ∷ staying lasts all (drop (i + 1) all)) q
      ∙ take_one_more all (staying lasts all (drop (i + 1) all)) i d lt;
} where
  parts : drop i all ≡ e ∷ drop (i + 1) all
  parts = at_drop all i d lt ∙ ap (λ x. x ∷ drop (i + 1) all) (sym q)

pub sought_found : (lasts : List ℕ) (all : List Entry) (i : ℕ) (e d : Entry) → IsSought lasts all i → i < length all → e ≡ get_or all i d →
    does_write lasts all e ≡ true → IsWrittenAt lasts all i
sought_found lasts all i e d h lt q w = record {
  below = lt;
  written = λ d'. h.written ∙ ap (λ l. written_among lasts all l) parts ∙ ap (λ b. if b then Some e else written_among lasts all (drop (i + 1) all)) w
      ∙ ap Some (q ∙ any all i lt d d');
  others = h.others ∙ ap (λ l. take i all ++ staying lasts all l) parts ∙ ap (λ b. take i all ++ cons_unless b e (staying lasts all (drop (i + 1) all))) w;
} where
  parts : drop i all ≡ e ∷ drop (i + 1) all
  parts = at_drop all i d lt ∙ ap (λ x. x ∷ drop (i + 1) all) (sym q)

  any : (l : List Entry) (k : ℕ) → k < length l → (a b : Entry) → get_or l k a ≡ get_or l k b
  any [] k lt a b = absurd (omega arith)
  any (e ∷ l) zero lt a b = refl
  any (e ∷ l) (suc k) lt a b = any l k (omega arith) a b

pub sought_none : (lasts : List ℕ) (all : List Entry) (i : ℕ) → IsSought lasts all i → drop i all ≡ [] → written_entry lasts all ≡ None
sought_none lasts all i h q = h.written ∙ ap (λ l. written_among lasts all l) q

-- ---- what stays is all but the one that writes
timed_drop : (stages : ℕ) (lasts : List ℕ) (l : List Entry) (k : ℕ) → IsTimed stages lasts l → IsTimed stages lasts (drop k l)
timed_drop stages lasts l zero t = t
timed_drop stages lasts [] (suc k) t = tt
timed_drop stages lasts (e ∷ l) (suc k) t = timed_drop stages lasts l k t.2

written_writes : (lasts : List ℕ) (all l : List Entry) (e : Entry) → written_among lasts all l ≡ Some e → does_write lasts all e ≡ true
written_writes lasts all [] e h = cc
written_writes lasts all (p ∷ l) e h = by_case (does_write lasts all p) refl h (λ h'. written_writes lasts all l e h') where
  by_case : (b : Bool) → does_write lasts all p ≡ b → (if b then Some p else written_among lasts all l) ≡ Some e →
      (written_among lasts all l ≡ Some e → does_write lasts all e ≡ true) → does_write lasts all e ≡ true
  by_case true q h ih = (let same : p ≡ e = cc in ap (λ x. does_write lasts all x) (sym same) ∙ q)
  by_case false q h ih = ih h

pub stays_without : (stages : ℕ) (lasts : List ℕ) (all : List Entry) (k : ℕ) (d : Entry) → IsTimed stages lasts all → IsWrittenAt lasts all k →
    staying lasts all all ≡ take k all ++ drop (k + 1) all
stays_without stages lasts all k d t h =
    let lt = h.below in
    let timed : IsTimed stages lasts (get_or all k d ∷ drop (k + 1) all) =
    subst (λ l. IsTimed stages lasts l) (at_drop all k d lt) (timed_drop stages lasts all k t) in
    let writes = written_writes lasts all all (get_or all k d) (h.written d) in
    h.others ∙ ap (λ l. take k all ++ l)
    (none_stays lasts all (drop (k + 1) all) (writes_alone stages lasts all (get_or all k d) (drop (k + 1) all) writes timed.1 timed.2))

-- ---- all go on
pub moved_more : (f : Entry → Entry) (xs : List Entry) (i : ℕ) (e d : Entry) → i < length xs → e ≡ f (get_or xs i d) →
    set (map f (take i xs) ++ drop i xs) i e ≡ map f (take (i + 1) xs) ++ drop (i + 1) xs
moved_more f xs i e d lt q = by_list xs i lt q ∙ ap (λ k. map f (take k xs) ++ drop k xs) more where
  more : suc i ≡ i + 1
  more = omega arith

  by_list : (l : List Entry) (k : ℕ) → k < length l → e ≡ f (get_or l k d) → set (map f (take k l) ++ drop k l) k e ≡ map f (take (suc k) l) ++ drop (suc k) l
  by_list [] k lt q = absurd (omega arith)
  by_list (p ∷ l) zero lt q = ap (λ x. x ∷ l) q
  by_list (p ∷ l) (suc k) lt q = ap (λ r. f p ∷ r) (by_list l k (omega arith) q)

pub moved_rest : (f : Entry → Entry) (xs : List Entry) (i : ℕ) (d : Entry) → i < length xs → get_or (map f (take i xs) ++ drop i xs) i d ≡ get_or xs i d
moved_rest f [] i d lt = absurd (omega arith)
moved_rest f (p ∷ l) zero d lt = refl
moved_rest f (p ∷ l) (suc i) d lt = moved_rest f l i d (omega arith)

pub moved_found : (lasts : List ℕ) (all : List Entry) (s : Survey) (stages : ℕ) (l : List Entry) → IsSurvey lasts all s → length lasts ≤ 72 →
    IsTimed stages lasts l → map (moved_by s) (staying lasts all l) ≡ stepped lasts all l
moved_found lasts all s stages [] h few t = refl
moved_found lasts all s stages (e ∷ l) h few t =
    by_case (does_write lasts all e) (is_frozen_by s e.unit) (frozen_found lasts all s e.unit h within) (moved_found lasts all s stages l h few t.2) where
      within : e.unit < 72
      within = (let lt = t.0.below in omega (arith, lt))

      by_case : (b f : Bool) → f ≡ is_frozen lasts all e.unit → map (moved_by s) (staying lasts all l) ≡ stepped lasts all l →
          map (moved_by s) (cons_unless b e (staying lasts all l)) ≡ cons_unless b (moved lasts all e) (stepped lasts all l)
      by_case true f q ih = ih
      by_case false f q ih =
          ap (λ g. record { serial = e.serial; unit = e.unit; time = if g then e.time else suc e.time } ∷ map (moved_by s) (staying lasts all l)) (frozen_found lasts all s e.unit h within)
          ∙ ap (λ r. moved lasts all e ∷ r) ih

-- ---- entries by their number
pub each_entry : (stages : ℕ) (lasts : List ℕ) (l : List Entry) → IsTimed stages lasts l → (k : ℕ) (d : Entry) → k < length l → IsEntry stages lasts (get_or l k d)
each_entry stages lasts [] t k d lt = absurd (omega arith)
each_entry stages lasts (e ∷ l) t zero d lt = t.0
each_entry stages lasts (e ∷ l) t (suc k) d lt = each_entry stages lasts l t.2 k d (omega arith)

staying_entry : (stages : ℕ) (lasts : List ℕ) (all l : List Entry) → IsTimed stages lasts l → (k : ℕ) (d : Entry) → k < length (staying lasts all l) →
    IsEntry stages lasts (get_or (staying lasts all l) k d)
staying_entry stages lasts all [] t k d lt = absurd (omega arith)
staying_entry stages lasts all (e ∷ l) t k d lt = by_case (does_write lasts all e) k lt (λ j lt'. staying_entry stages lasts all l t.2 j d lt') where
  by_case : (b : Bool) (k : ℕ) → k < length (cons_unless b e (staying lasts all l)) →
      ((j : ℕ) → j < length (staying lasts all l) → IsEntry stages lasts (get_or (staying lasts all l) j d)) →
      IsEntry stages lasts (get_or (cons_unless b e (staying lasts all l)) k d)
  by_case true k lt ih = ih k lt
  by_case false zero lt ih = t.0
  by_case false (suc k) lt ih = ih k (omega arith)

-- each that stays has room for one more time
pub staying_next : (stages : ℕ) (lasts : List ℕ) (all : List Entry) → AreUnits stages lasts → IsTimed stages lasts all → All HasNext (staying lasts all all)
staying_next stages lasts all units t = λ k d lt.
    let e = staying_entry stages lasts all all t k d lt in
    let below = e.below in
    let few = units.few in
    let last = e.last in
    let most = units.most (get_or (staying lasts all all) k d).unit 0 below in
    record { unit = omega (arith, below, few); time = omega (arith, last, most) }

-- each that stands there a row later has a unit
pub next_below : (stages : ℕ) (lasts : List ℕ) (all : List Entry) (enter : Option (ℕ × ℕ)) → AreUnits stages lasts → IsTimed stages lasts all →
    CanEnter lasts all enter → All (λ e. e.unit < length lasts) (next_entries stages lasts enter all)
next_below stages lasts all enter units t c = λ k d lt.
    (each_entry stages lasts (next_entries stages lasts enter all) (timed_law stages lasts all enter units t c) k d lt).below

-- and there is room for all of them
pub next_few : (stages : ℕ) (lasts : List ℕ) (all : List Entry) (enter : Option (ℕ × ℕ)) → AreUnits stages lasts → IsTimed stages lasts all →
    CanEnter lasts all enter → length (next_entries stages lasts enter all) ≤ room stages lasts
next_few stages lasts all enter units t c = room_law stages lasts (next_entries stages lasts enter all) units (timed_law stages lasts all enter units t c)

-- ---- the unit that writes
pub writer_below : (stages : ℕ) (lasts : List ℕ) (all : List Entry) → IsTimed stages lasts all → IfSome (writer lasts all) (λ w. w < length lasts)
writer_below stages lasts all t = by_case (writer lasts all) refl where
  by_case : (o : Option ℕ) → writer lasts all ≡ o → IfSome o (λ w. w < length lasts)
  by_case None h = tt
  by_case (Some w) h = finished_below stages lasts w all t (writer_finished lasts w all h)

pub writer_none : (lasts : List ℕ) (all : List Entry) → (writer lasts all ≡ None) ↔ ((u : ℕ) → has_finished lasts u all ≡ false)
writer_none lasts all = (λ h u. none_finished lasts u all h, λ h. by_case (writer lasts all) refl h) where
  by_case : (o : Option ℕ) → writer lasts all ≡ o → ((u : ℕ) → has_finished lasts u all ≡ false) → o ≡ None
  by_case None q h = refl
  by_case (Some w) q h = (let f = writer_finished lasts w all q in let n = h w in cc)

-- ---- one row
pub row_gone : (stages : ℕ) (lasts : List ℕ) (all taken gone : List Entry) (s : Survey) → AreUnits stages lasts → IsTimed stages lasts all →
    IsSurvey lasts all s → taken ≡ staying lasts all all → gone ≡ map (moved_by s) taken → gone ≡ stepped lasts all all
row_gone stages lasts all taken gone s units t h q r = r ∙ ap (λ l. map (moved_by s) l) q ∙ moved_found lasts all s stages all h units.few t

pub survey_below : (stages : ℕ) (lasts : List ℕ) (all : List Entry) (s : Survey) → IsTimed stages lasts all → IsSurvey lasts all s →
    IfSome s.granted (λ w. w < length lasts)
survey_below stages lasts all s t h = subst (λ o. IfSome o (λ w. w < length lasts)) (sym h.granted) (writer_below stages lasts all t)

-- what is told of the entry that writes is of a unit, and is none where no unit has a finished one
pub written_below : (stages : ℕ) (lasts : List ℕ) (all : List Entry) → IsTimed stages lasts all →
    IfSome (unit_and_serial (written_entry lasts all)) (λ w. w.0 < length lasts)
written_below stages lasts all t = by_list all t where
  by_list : (l : List Entry) → IsTimed stages lasts l → IfSome (unit_and_serial (written_among lasts all l)) (λ w. w.0 < length lasts)
  by_list [] t = tt
  by_list (e ∷ l) t = by_case (does_write lasts all e) (by_list l t.2) where
    by_case : (b : Bool) → IfSome (unit_and_serial (written_among lasts all l)) (λ w. w.0 < length lasts) →
        IfSome (unit_and_serial (if b then Some e else written_among lasts all l)) (λ w. w.0 < length lasts)
    by_case true ih = t.0.below
    by_case false ih = ih

pub written_none : (lasts : List ℕ) (all : List Entry) → (unit_and_serial (written_entry lasts all) ≡ None) ↔ ((u : ℕ) → has_finished lasts u all ≡ false)
written_none lasts all = (
  λ h. (writer_none lasts all).0 (by_case (writer lasts all) refl h),
  λ h. ap unit_and_serial (nothing_written lasts all all ((writer_none lasts all).1 h)),
) where
  some : (w : ℕ) (o : Option ℕ) → has_some o ≡ true → with_unit w o None ≡ None → ⊥
  some w None f h = cc
  some w (Some s) f h = cc

  by_case : (o : Option ℕ) → writer lasts all ≡ o → unit_and_serial (written_entry lasts all) ≡ None → o ≡ None
  by_case None q h = refl
  by_case (Some w) q h =
      absurd (some w (serial_at w (last_time lasts w) all) (has_serial_at lasts w all ∙ writer_finished lasts w all q) (sym (written_serial lasts all w all q) ∙ h))

-- ---- where nothing stands and nothing enters
pub nothing_in : (l : List Entry) (n : ℕ) → length l ≡ n → true ≡ (n == 0) → l ≡ []
nothing_in [] n q h = refl
nothing_in (e ∷ l) n q h = absurd (grind (arith, nat_tests))

pub nothing_enters : (enter : Option (ℕ × ℕ)) → is_some enter ≡ false → enter ≡ None
nothing_enters None h = refl
nothing_enters (Some e) h = cc
