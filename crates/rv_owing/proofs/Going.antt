-- What is kept behind one row more.
use Rattle.std.proofs.Common.{◌≡◌, ◌∙◌, refl, sym, ap, subst, ℕ, List, [], ◌∷◌, ◌++◌, map, Option, Some, None, Bool, true, false, inl, inr, Result, Ok, Err, OnOk}
use Rattle.std.specs.Prelude.{◌||◌, if◌then◌else◌, reverse, is_some, slice_index_or}
use Rattle.std.proofs.lemmas.List.{map-append, reverse-append}
use Rattle.ix_plan.specs.declared.design.Plan.{Plan}
use Rattle.ix_plan.specs.Units.{Slots, next_units, first_units}
use Rattle.rv_unit.specs.Numbering.{lasts_of}
use Rattle.rv_unit.specs.Slots.{units_of}
use Rattle.rv_unit.specs.Timed.{AreUnits, IsTimed, CanEnter}
use Rattle.rv_unit.proofs.Numbered.{first_law}
use Rattle.rv_asks.specs.declared.asks.Asks.{Asks}
use Rattle.rv_seq.specs.declared.commit.Commit.{Commit}
use Rattle.rv_trace.specs.declared.row.Row.{Row}
use Rattle.rv_trace.specs.Trace.{place, retirements}
use Rattle.rv_lawful.specs.Settings.{Setting}
use Rattle.rv_lawful.specs.Outstanding.{Decoupled, serial_written, is_serial, in_unit, entering, units_after, is_written, decoupled_in, decoupled, without, outstanding}
use Rattle.rv_lawful.specs.LawfulTrace.{serial_in, LawfulRow, Lawful}
use Rattle.rv_rows.specs.Facts.{IsPlain, AreGoingOn, RowFacts}
use Rattle.rv_rows.specs.Recorded.{HasWords, IsRecorded, AreRecorded}
use Rattle.rv_rows.specs.Gone.{GoneLaw}
use Rattle.rv_rows.specs.declared.known.Owed.{Owed}
use Rattle.rv_rows.specs.Known.{owed_of, IsOwing}
use Rattle.rv_owing.specs.Units.{HasUnits}
use Rattle.rv_owing.specs.declared.owing.Owing.{Owing}
use Rattle.rv_owing.specs.Owing.{place_of, IsOwed, serial_granted, IsDueBehind, GrantedLaw, into_unit, entering_of}
use Rattle.rv_owing.specs.Kept.{place_from, place_among, without_at, are_all, is_none_but, unit_entering, owed_entering, place_entering}
use Rattle.rv_owing.proofs.Among.{Among, from_contains, among_either, reverse_cons, without_append, without_either, without_reverse, within_all}
use Rattle.rv_owing.proofs.Entering.{leaving}
use Rattle.rv_owing.proofs.Following.{all_out, outs_fall, outstanding_next}
use Rattle.rv_owing.proofs.Following as F
use Rattle.rv_owing.proofs.Removing.{rises_reverse, falls_of, among_reverse, cut, found, not_missing, all_gone, gone_all, none_reversed, none_straight, none_both, none_first, none_last}

-- ---- lists

among_back : (l : List Decoupled) (d : Decoupled) → Among (reverse l) d → Among l d
among_back [] d x = absurd x
among_back (o ∷ older) d x = elim (among_either (reverse older) (o ∷ []) d (subst (λ z. Among z d) (reverse_cons o older) x)) [
  | inl y ↦ inr (among_back older d y)
  | inr y ↦ elim y [ inl e ↦ inl e | inr n ↦ absurd n ]
]

map_same : {A : Type 0} (f g : Decoupled → A) (xs : List Decoupled) → ((d : Decoupled) → Among xs d → f d ≡ g d) → map f xs ≡ map g xs
map_same f g [] h = refl
map_same f g (x ∷ xs) h = ap (λ a. a ∷ map f xs) (h x (inl refl)) ∙ ap (λ l. g x ∷ l) (map_same f g xs (λ d y. h d (inr y)))

-- what is left and what is new, the oldest first
turned : {A : Type 0} (f : Decoupled → A) (new old : List Decoupled) → map f (reverse (new ++ old)) ≡ map f (reverse old) ++ map f (reverse new)
turned f new old = ap (map f) (reverse-append new old) ∙ map-append f (reverse old) (reverse new)

-- ---- what enters

pub unit_entering_is : (k : Setting) (earlier : List Row) (o : Option (ℕ × Commit)) → unit_entering (entering_of k earlier o) ≡ entering k o
unit_entering_is k earlier None = refl
unit_entering_is k earlier (Some (s, c)) = by_unit (k.asks c.word).unit where
  by_unit : (u : Option ℕ) → unit_entering (into_unit s (retirements earlier) (k.asks c.word) u) ≡ in_unit s u
  by_unit None = refl
  by_unit (Some u) = refl

owed_entering_is : (k : Setting) (earlier : List Row) (o : Option (ℕ × Commit)) → map (owed_of k) (reverse (decoupled_in k o)) ≡ owed_entering (entering_of k earlier o)
owed_entering_is k earlier None = refl
owed_entering_is k earlier (Some (s, c)) = by_unit (k.asks c.word).unit where
  by_unit : (u : Option ℕ) → map (owed_of k) (reverse (if is_some u then (s, c.word) ∷ [] else [])) ≡ owed_entering (into_unit s (retirements earlier) (k.asks c.word) u)
  by_unit None = refl
  by_unit (Some u) = refl

place_entering_is : (k : Setting) (earlier : List Row) (row : Row) (o : Option (ℕ × Commit)) → ((s : ℕ) (c : Commit) → o ≡ Some (s, c) → place (row ∷ earlier) s ≡ retirements earlier)
    → map (place_of (row ∷ earlier)) (reverse (decoupled_in k o)) ≡ place_entering (entering_of k earlier o)
place_entering_is k earlier row None placed = refl
place_entering_is k earlier row (Some (s, c)) placed = by_unit (k.asks c.word).unit where
  by_unit : (u : Option ℕ) → map (place_of (row ∷ earlier)) (reverse (if is_some u then (s, c.word) ∷ [] else [])) ≡ place_entering (into_unit s (retirements earlier) (k.asks c.word) u)
  by_unit None = refl
  by_unit (Some u) = ap (λ p. p ∷ []) (placed s c refl)

-- ---- behind one row more

pub units_more : (k : Setting) (earlier : List Row) (row : Row) (enters : Option (ℕ × ℕ)) (before behind : List Slots) → enters ≡ entering k row.retired → before ≡ units_after k earlier → next_units enters before ≡ behind → behind ≡ units_after k (row ∷ earlier)
unfolding units_after
units_more k earlier row enters before behind e b n = sym n ∙ ap (λ o. next_units o before) e ∙ ap (λ l. next_units (entering k row.retired) l) b

module _ (facts : RowFacts) (gone : GoneLaw) (k : Setting) (plain : IsPlain k) (words : HasWords k) (units : HasUnits k) (earlier : List Row) (row : Row) (going : AreGoingOn k earlier) (all : AreRecorded k earlier)
    (lawful : LawfulRow k earlier row) (recorded : IsRecorded k earlier row) where
  all_lawful : Lawful (λ places. k) (row ∷ earlier)
  all_lawful = (lawful, going.going, going.lawful)

  next_is : outstanding k (row ∷ earlier) ≡ decoupled_in k row.retired ++ without (is_serial (serial_written row.written)) (outstanding k earlier)
  next_is = outstanding_next facts gone k plain words units row earlier all_lawful (recorded, all)

  -- each list that is made of the outstanding ones
  left_of : {A : Type 0} (f : Decoupled → A) → without_at (place_among (serial_written row.written) (map (owed_of k) (reverse (outstanding k earlier)))) (map f (reverse (outstanding k earlier)))
      ≡ map f (reverse (without (is_serial (serial_written row.written)) (outstanding k earlier)))
  left_of f =
      cut k f (serial_written row.written) (reverse (outstanding k earlier)) (rises_reverse (outstanding k earlier) (outs_fall facts gone k plain words units earlier going.lawful all))
      ∙ ap (map f) (without_reverse (is_serial (serial_written row.written)) (outstanding k earlier))

  whole_of : {A : Type 0} (f : Decoupled → A) → map f (reverse (outstanding k (row ∷ earlier))) ≡ map f (reverse (without (is_serial (serial_written row.written)) (outstanding k earlier))) ++ map f (reverse (decoupled_in k row.retired))
  whole_of f = ap (λ l. map f (reverse l)) next_is ∙ turned f (decoupled_in k row.retired) (without (is_serial (serial_written row.written)) (outstanding k earlier))

  module _ (granted : Option ℕ) (enters : Option (ℕ × ℕ × ℕ × Asks)) (owed : List Owed) (granted_is : granted ≡ serial_granted k earlier) (enters_is : enters ≡ entering_of k earlier row.retired)
      (owed_is : owed ≡ map (owed_of k) (reverse (outstanding k earlier))) where
    written_is : granted ≡ serial_written row.written
    written_is = granted_is ∙ sym lawful.units

    pub owed_more : without_at (place_among granted owed) owed ++ owed_entering enters ≡ map (owed_of k) (reverse (outstanding k (row ∷ earlier)))
    owed_more =
        ap (λ o. without_at (place_among o owed) owed ++ owed_entering enters) written_is
        ∙ ap (λ l. without_at (place_among (serial_written row.written) l) l ++ owed_entering enters) owed_is
        ∙ ap (λ l. l ++ owed_entering enters) (left_of (owed_of k))
        ∙ ap (λ o. map (owed_of k) (reverse (without (is_serial (serial_written row.written)) (outstanding k earlier))) ++ owed_entering o) enters_is
        ∙ ap (λ l. map (owed_of k) (reverse (without (is_serial (serial_written row.written)) (outstanding k earlier))) ++ l) (sym (owed_entering_is k earlier row.retired))
        ∙ sym (whole_of (owed_of k))

    stays_at : (d : Decoupled) → Among (reverse (outstanding k earlier)) d → place_of earlier d ≡ place_of (row ∷ earlier) d
    stays_at d x =
        let among = within_all (is_written earlier) (decoupled k earlier) d (among_back (outstanding k earlier) d x) in
        sym ((leaving facts gone k earlier row plain words going lawful).stays d.0 (all_out facts gone k plain words earlier going.lawful all d among.1).retired)

    pub places_more : (places : List ℕ) → places ≡ map (place_of earlier) (reverse (outstanding k earlier))
        → without_at (place_among granted owed) places ++ place_entering enters ≡ map (place_of (row ∷ earlier)) (reverse (outstanding k (row ∷ earlier)))
    places_more places places_is =
        let same = places_is ∙ map_same (place_of earlier) (place_of (row ∷ earlier)) (reverse (outstanding k earlier)) stays_at in
        ap (λ o. without_at (place_among o owed) places ++ place_entering enters) written_is
        ∙ ap (λ l. without_at (place_among (serial_written row.written) l) places ++ place_entering enters) owed_is
        ∙ ap (λ l. without_at (place_among (serial_written row.written) (map (owed_of k) (reverse (outstanding k earlier)))) l ++ place_entering enters) same
        ∙ ap (λ l. l ++ place_entering enters) (left_of (place_of (row ∷ earlier)))
        ∙ ap (λ o. map (place_of (row ∷ earlier)) (reverse (without (is_serial (serial_written row.written)) (outstanding k earlier))) ++ place_entering o) enters_is
        ∙ ap (λ l. map (place_of (row ∷ earlier)) (reverse (without (is_serial (serial_written row.written)) (outstanding k earlier))) ++ l)
        (sym (place_entering_is k earlier row row.retired (leaving facts gone k earlier row plain words going lawful).placed))
        ∙ sym (whole_of (place_of (row ∷ earlier)))

-- ---- is nothing outstanding?

parts_of : (k : Setting) (earlier : List Row) (row : Row) → outstanding k (row ∷ earlier) ≡ without (is_written (row ∷ earlier)) (decoupled_in k row.retired) ++ without (is_serial (serial_written row.written)) (outstanding k earlier)
unfolding decoupled is_written
parts_of k earlier row =
    without_append (is_written (row ∷ earlier)) (decoupled_in k row.retired) (decoupled k earlier)
    ∙ ap (λ l. without (is_written (row ∷ earlier)) (decoupled_in k row.retired) ++ l) (without_either (λ s. is_serial (serial_written row.written) s) (λ s. is_written earlier s) (decoupled k earlier))

written_now : (earlier : List Row) (row : Row) (s : ℕ) → is_written earlier s ≡ false → is_written (row ∷ earlier) s ≡ is_serial (serial_written row.written) s
unfolding is_written
written_now earlier row s e = ap (λ b. is_serial (serial_written row.written) s || b) e ∙ last (is_serial (serial_written row.written) s) where
  last : (b : Bool) → (b || false) ≡ b
  last true = refl
  last false = refl

-- what enters is written in the row, where something enters
new_gone : (k : Setting) (earlier : List Row) (row : Row) (o : Option (ℕ × Commit)) → ((s : ℕ) → serial_in (entering k o) ≡ Some s → is_written earlier s ≡ false)
    → (is_none_but (serial_written row.written) (serial_in (entering k o)) ≡ true → without (is_written (row ∷ earlier)) (decoupled_in k o) ≡ [])
    × (without (is_written (row ∷ earlier)) (decoupled_in k o) ≡ [] → is_none_but (serial_written row.written) (serial_in (entering k o)) ≡ true)
new_gone k earlier row None fresh = (λ e. refl, λ e. refl)
new_gone k earlier row (Some (s, c)) fresh = by_unit (k.asks c.word).unit fresh where
  left : Bool → List Decoupled
  left b = if b then [] else (s, c.word) ∷ []

  full : left false ≡ [] → ⊥
  full e = cc

  one : (b : Bool) → is_written (row ∷ earlier) s ≡ b → is_serial (serial_written row.written) s ≡ b
      → (is_serial (serial_written row.written) s ≡ true → left (is_written (row ∷ earlier) s) ≡ [])
      × (left (is_written (row ∷ earlier) s) ≡ [] → is_serial (serial_written row.written) s ≡ true)
  one true p q = (λ e. ap left p, λ e. q)
  one false p q = (λ e. cc (q, e), λ e. absurd (full (sym (ap left p) ∙ e)))

  by_unit : (u : Option ℕ) → ((t : ℕ) → serial_in (in_unit s u) ≡ Some t → is_written earlier t ≡ false)
      → (is_none_but (serial_written row.written) (serial_in (in_unit s u)) ≡ true → without (is_written (row ∷ earlier)) (if is_some u then (s, c.word) ∷ [] else []) ≡ [])
      × (without (is_written (row ∷ earlier)) (if is_some u then (s, c.word) ∷ [] else []) ≡ [] → is_none_but (serial_written row.written) (serial_in (in_unit s u)) ≡ true)
  by_unit None f = (λ e. refl, λ e. refl)
  by_unit (Some u) f = one (is_serial (serial_written row.written) s) (written_now earlier row s (f s refl)) refl

module _ (k : Setting) (earlier : List Row) (row : Row) (written enters : Option ℕ) (owed : List Owed) (owed_is : owed ≡ map (owed_of k) (reverse (outstanding k earlier))) (written_is : written ≡ serial_written row.written)
    (enters_is : enters ≡ serial_in (entering k row.retired)) (fresh : (s : ℕ) → enters ≡ Some s → is_written earlier s ≡ false) where
  fresh_now : (s : ℕ) → serial_in (entering k row.retired) ≡ Some s → is_written earlier s ≡ false
  fresh_now s e = fresh s (enters_is ∙ e)

  old_is : are_all written owed ≡ are_all (serial_written row.written) (map (owed_of k) (reverse (outstanding k earlier)))
  old_is = ap (λ w. are_all w owed) written_is ∙ ap (λ l. are_all (serial_written row.written) l) owed_is

  new_is : is_none_but written enters ≡ is_none_but (serial_written row.written) (serial_in (entering k row.retired))
  new_is = ap (λ w. is_none_but w enters) written_is ∙ ap (λ o. is_none_but (serial_written row.written) o) enters_is

  pub settled_from : are_all written owed ≡ true → is_none_but written enters ≡ true → outstanding k (row ∷ earlier) ≡ []
  settled_from a b =
      parts_of k earlier row
      ∙ none_both (without (is_written (row ∷ earlier)) (decoupled_in k row.retired)) (without (is_serial (serial_written row.written)) (outstanding k earlier))
      ((new_gone k earlier row row.retired fresh_now).0 (sym new_is ∙ b))
      (none_straight (is_serial (serial_written row.written)) (outstanding k earlier) (all_gone k (serial_written row.written) (reverse (outstanding k earlier)) (sym old_is ∙ a)))

  pub settled_old : outstanding k (row ∷ earlier) ≡ [] → are_all written owed ≡ true
  settled_old e =
      old_is
      ∙ gone_all k (serial_written row.written) (reverse (outstanding k earlier))
      (none_reversed (is_serial (serial_written row.written)) (outstanding k earlier)
      (none_last (without (is_written (row ∷ earlier)) (decoupled_in k row.retired)) (without (is_serial (serial_written row.written)) (outstanding k earlier)) (sym (parts_of k earlier row) ∙ e)))

  pub settled_new : outstanding k (row ∷ earlier) ≡ [] → is_none_but written enters ≡ true
  settled_new e =
      new_is
      ∙ (new_gone k earlier row row.retired fresh_now).1
      (none_first (without (is_written (row ∷ earlier)) (decoupled_in k row.retired)) (without (is_serial (serial_written row.written)) (outstanding k earlier)) (sym (parts_of k earlier row) ∙ e))

-- ---- as it is kept

pub both_ok : {T E P Q R : Type 0} (r : Result T E) → (P → Q → R) → OnOk r P → OnOk r Q → OnOk r R
both_ok (Ok x) f p q = f p q
both_ok (Err x) f p q = tt

-- before the first row
pub owed_first : (k : Setting) (o : Owing) (stages : ℕ) (plans : List Plan) → o.units.stages ≡ stages → o.units.lasts ≡ lasts_of plans → o.units.entries ≡ [] → k.shape.stages ≡ stages → k.units ≡ first_units stages plans
    → o.owed.items ≡ [] → o.places.items ≡ [] → IsOwed k [] o
unfolding units_after decoupled
owed_first k o stages plans a b c d e f g = record {
  stages = a ∙ sym d;
  units = ap (λ n. units_of n o.units.lasts o.units.entries) a ∙ ap (λ l. units_of stages l o.units.entries) b ∙ ap (λ l. units_of stages (lasts_of plans) l) c ∙ first_law stages plans ∙ sym e;
  owed = f;
  places = g;
}

module _ (facts : RowFacts) (gone : GoneLaw) (k : Setting) (plain : IsPlain k) (words : HasWords k) (units : HasUnits k) (earlier : List Row) (row : Row) (going : AreGoingOn k earlier) (all : AreRecorded k earlier)
    (lawful : LawfulRow k earlier row) (recorded : IsRecorded k earlier row) (old : Owing) (is : IsOwed k earlier old) (enters : Option (ℕ × ℕ × ℕ × Asks)) (enters_is : enters ≡ entering_of k earlier row.retired) where
  into_is : unit_entering enters ≡ entering k row.retired
  into_is = ap unit_entering enters_is ∙ unit_entering_is k earlier row.retired

  -- what enters can
  pub can_enter : AreUnits old.units.stages old.units.lasts → IsTimed old.units.stages old.units.lasts old.units.entries → CanEnter old.units.lasts old.units.entries (unit_entering enters)
  can_enter can timed =
      subst (λ o. CanEnter old.units.lasts old.units.entries o) (sym into_is)
      (F.enters facts gone k plain words units row earlier going lawful recorded old.units.stages old.units.lasts old.units.entries can timed is.units)

  -- behind the row
  pub owed_next : (new : Owing) (granted : Option ℕ) (into : Option (ℕ × ℕ)) → granted ≡ serial_granted k earlier → into ≡ unit_entering enters → new.units.stages ≡ old.units.stages
      → next_units into (units_of old.units.stages old.units.lasts old.units.entries) ≡ units_of new.units.stages new.units.lasts new.units.entries
      → new.owed.items ≡ without_at (place_among granted old.owed.items) old.owed.items ++ owed_entering enters → new.places.items ≡ without_at (place_among granted old.owed.items) old.places.items ++ place_entering enters
      → IsOwed k (row ∷ earlier) new
  owed_next new granted into granted_is same_into same_stages next owed places = record {
    stages = same_stages ∙ is.stages;
    units = units_more k earlier row into (units_of old.units.stages old.units.lasts old.units.entries) (units_of new.units.stages new.units.lasts new.units.entries) (same_into ∙ into_is) is.units next;
    owed = owed ∙ owed_more facts gone k plain words units earlier row going all lawful recorded granted enters old.owed.items granted_is enters_is is.owed;
    places = places ∙ places_more facts gone k plain words units earlier row going all lawful recorded granted enters old.owed.items granted_is enters_is is.owed old.places.items is.places;
  }

-- what is due
pub due_is : (k : Setting) (rows : List Row) (o : Owing) (s n place : ℕ) (w : Owed) → IsOwed k rows o → IsOwing k rows → GrantedLaw k rows → serial_granted k rows ≡ Some s → place_from 0 s o.owed.items ≡ Some n
    → place ≡ slice_index_or o.places.items n place → w ≡ slice_index_or o.owed.items n w → IsDueBehind k rows (s, place, w.asks)
due_is k rows o s n place w is owing law granted at place_at owed_at =
    let x = law s granted in
    let rises = rises_reverse (outstanding k rows) (falls_of (outstanding k rows) owing.ordered) in
    let among = among_reverse (outstanding k rows) (s, x.0) (from_contains (outstanding k rows) (s, x.0) x.1) in
    let there = sym (ap (λ l. place_from 0 s l) is.owed) ∙ at in
    record {
      granted = granted;
      place = place_at ∙ ap (λ l. slice_index_or l n place) is.places ∙ found k (place_of rows) place s x.0 (reverse (outstanding k rows)) n rises among there;
      word = x.0;
      outstanding = x.1;
      asks = ap (λ (z : Owed). z.asks) (owed_at ∙ ap (λ l. slice_index_or l n w) is.owed ∙ found k (owed_of k) w s x.0 (reverse (outstanding k rows)) n rises among there);
    }

pub due_there : (k : Setting) (rows : List Row) (o : Owing) (s : ℕ) → IsOwed k rows o → GrantedLaw k rows → serial_granted k rows ≡ Some s → place_from 0 s o.owed.items ≡ None → ⊥
due_there k rows o s is law granted at =
    let x = law s granted in
    not_missing k s x.0 (reverse (outstanding k rows)) (among_reverse (outstanding k rows) (s, x.0) (from_contains (outstanding k rows) (s, x.0) x.1)) (sym (ap (λ l. place_from 0 s l) is.owed) ∙ at)
