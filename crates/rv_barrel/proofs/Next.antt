-- What a row shows, and what is kept behind it.
use Rattle.std.proofs.Common.{◌≡◌, ◌∙◌, refl, sym, ap, subst, ℕ, zero, suc, ◌+◌, ◌-◌, ◌<◌, ◌≤◌, List, [], ◌∷◌, ◌++◌, length, take, drop, get_or, reverse, map, Option, Some, None, Bool, true, false, arith}
use Rattle.std.specs.Prelude.{replicate, is_some, is_none, slice_get, if◌then◌else◌, ◌==◌, ◌&&◌, ◌||◌, nat_le}
use Rattle.std.proofs.lemmas.Bool.Decides.{nat_tests}
use Rattle.ix_eval.specs.Tables.{table}
use Rattle.ix_extension.specs.Extensions.{ExtensionTree, view_extension}
use Rattle.ix_plan.specs.declared.design.Design.{Design}
use Rattle.ix_plan.specs.Units as units
use Rattle.rv_harts.specs.BarrelRows.{hart_setting}
use Rattle.rv_harts.specs.declared.event.Event.{Event}
use Rattle.rv_harts.specs.declared.event.Event.TheVariants.{Turned, Stopped, Led}
use Rattle.rv_harts.specs.declared.event.EventAt.{EventAt}
use Rattle.rv_harts.specs.declared.row.HartPart.{HartPart}
use Rattle.rv_harts.specs.Events.{standing}
use Rattle.rv_harts.specs.Harts.{Fetched, Hart}
use Rattle.rv_harts.specs.HartRows as rows
use Rattle.rv_harts.specs.HartRows.{hart_at, hart_row, next_hart, stages_in, entering, event_in, event_at, leaving, cell_at, cell_with, turn_at, flushed_in, stopping, is_over, stages_after, lost, below, owed_after, address_after, cleared, fetches}
use Rattle.rv_harts.specs.HartStates.{architecture, retirements}
use Rattle.rv_hart_runs.specs.HartRuns.{KnownHart}
use Rattle.rv_lawful.specs.Outstanding.{Written, after_written, after_retired}
use Rattle.rv_lawful.specs.Settings.{Setting}
use Rattle.rv_seq.specs.declared.arch.Arch.{Arch}
use Rattle.rv_seq.specs.declared.commit.Commit.{Commit}
use Rattle.rv_seq.specs.declared.commit.Stop.{Stop}
use Rattle.rv_seq.specs.Runs.{run}
use Rattle.rv_trace.specs.RowParts.{in_five}
use Rattle.rv_barrel.specs.declared.cell.InFlight.{InFlight}
use Rattle.rv_barrel.specs.Cells.{Slots, count, fetched_of, AreAsked}
use Rattle.rv_barrel.specs.Moving.{fetched_in, advanced, all_free, ahead_of}
use Rattle.rv_barrel.specs.Showing.{cells_from, serials_of}
use Rattle.rv_barrel.specs.Sides.{stop_by}
use Rattle.rv_barrel.specs.Turning.{AreTried}
use Rattle.rv_barrel.proofs.Beginning.{no_tried}
use Rattle.rv_barrel.proofs.Happening.{IsHere, ends, event_here_is}
use Rattle.rv_barrel.proofs.Kept.{slot_of, advanced_to, asked_on, asked_free, count_free, long_free, tried_on, executed_on, executed_still, ahead_on, above_kept}
use Rattle.rv_barrel.proofs.Moves.{emptied, one_in, fetched_advanced, free_is}
use Rattle.rv_barrel.proofs.Row.{cells_are, table_same, serials_are}
use Rattle.rv_barrel.proofs.Views.{none_first, count_is, last_slot}
use Rattle.rv_barrel.proofs.Whole.{IsBegun, last_stage, lost_few, leaving_is}

-- What the row shows

pub cells_there : (d : Design) (image : List ℕ) (h n : ℕ) (s1 : Slots) (new : Option InFlight) (ahead : Arch) (event : Option EventAt) → IsBegun d image h n s1 new ahead →
    event ≡ event_in (hart_setting d image) h n (hart_at (hart_setting d image) h n) → cells_from h event 0 s1 ++ replicate (5 - length s1) None ≡ (hart_row (hart_setting d image) h n).cells
unfolding hart_row
cells_there d image h n s1 new ahead event b e =
    let k = hart_setting d image in
    let g = hart_at (hart_setting d image) h n in
    let most = d.sheet.shape.lawful.most in
    cells_are h event g.retired 0 5 s1 (omega (arith, b.long, most))
    ∙ ap (λ (l : List (Option Fetched)). table (λ r. cell_with h (turn_at (0 + r) event) (slice_get l r)) 5) b.stages
    ∙ ap (λ (o : Option EventAt). table (λ r. cell_with h (turn_at (0 + r) o) (slice_get (stages_in k h n g) r)) 5) e
    ∙ table_same (λ r. cell_with h (turn_at (0 + r) (event_in k h n g)) (slice_get (stages_in k h n g) r)) (cell_at k h n g) 5 (λ r. ap (λ (m : ℕ). cell_with h (turn_at m (event_in k h n g)) (slice_get (stages_in k h n g) r)) (omega arith))

pub flushed_there : (d : Design) (image : List ℕ) (h n : ℕ) (s1 : Slots) (new : Option InFlight) (ahead : Arch) (event : Option EventAt) → IsBegun d image h n s1 new ahead →
    event ≡ event_in (hart_setting d image) h n (hart_at (hart_setting d image) h n) → in_five (serials_of (take (below event) s1)) ≡ flushed_in (hart_setting d image) h n (hart_at (hart_setting d image) h n)
flushed_there d image h n s1 new ahead event b e =
    let k = hart_setting d image in
    let g = hart_at (hart_setting d image) h n in
    ap in_five (serials_are g.retired (below event) s1)
    ∙ ap (λ (l : List (Option Fetched)). in_five (reverse (map (λ (c : Fetched). c.serial) (standing (take (below event) l))))) b.stages
    ∙ ap (λ (o : Option EventAt). in_five (reverse (map (λ (c : Fetched). c.serial) (standing (take (below o) (stages_in k h n g)))))) e

-- Whether it stops

abbrev pub over_by : Bool → Bool → Bool → Bool → Bool
over_by f v z o = f && v && z && o

over_same : (f v z o c : Bool) → c ≡ (v && z) → (f && c && o) ≡ over_by f v z o
over_same f v z o c e = ap (λ (t : Bool). f && t && o) e ∙ by_case f v z o where
  by_case : (f v z o : Bool) → (f && (v && z) && o) ≡ over_by f v z o
  by_case true true true o = refl
  by_case true true false o = refl
  by_case true false z o = refl
  by_case false v z o = refl

none_left : (d : Design) (image : List ℕ) (h n : ℕ) (s1 : Slots) (new : Option InFlight) (ahead : Arch) → IsBegun d image h n s1 new ahead →
    (count s1 == 0) ≡ (is_none (entering (hart_setting d image) h n (hart_at (hart_setting d image) h n)) && (length (standing (hart_at (hart_setting d image) h n).above) == 0))
none_left d image h n s1 new ahead b =
    ap (λ (m : ℕ). m == 0) (count_is g.retired s1 ∙ ap (λ (l : List (Option Fetched)). length (standing l)) b.stages) ∙ by_first (entering (hart_setting d image) h n (hart_at (hart_setting d image) h n)) where
      g : Hart
      g = hart_at (hart_setting d image) h n

      more : (m : ℕ) → (suc m == 0) ≡ false
      more m = grind (arith, nat_tests)

      by_first : (f : Option Fetched) → (length (standing (f ∷ (hart_at (hart_setting d image) h n).above)) == 0) ≡ (is_none f && (length (standing (hart_at (hart_setting d image) h n).above) == 0))
      by_first None = refl
      by_first (Some c) = more (length (standing (hart_at (hart_setting d image) h n).above))

pub stop_there : (d : Design) (image : List ℕ) (h n : ℕ) (s1 : Slots) (new : Option InFlight) (ahead : Arch) (event : Option EventAt) (may : Bool) (owed : ℕ) (stop : Option Stop) → IsBegun d image h n s1 new ahead →
    event ≡ event_in (hart_setting d image) h n (hart_at (hart_setting d image) h n) → may ≡ fetches h n (hart_at (hart_setting d image) h n) →
    owed ≡ length (owed_after (hart_setting d image) h n (hart_at (hart_setting d image) h n)) →
    stop ≡ stop_by (rows.stop_of (event_at event)) (may && (count s1 == 0) && (owed == 0)) → stop ≡ stopping (hart_setting d image) h n (hart_at (hart_setting d image) h n)
stop_there d image h n s1 new ahead event may owed stop b e f o is =
    let k = hart_setting d image in
    let g = hart_at (hart_setting d image) h n in
    is
    ∙ ap (λ (v : Option EventAt). stop_by (rows.stop_of (event_at v)) (may && (count s1 == 0) && (owed == 0))) e
    ∙ ap (λ (v : Bool). stop_by (rows.stop_of (event_at (event_in k h n g))) (v && (count s1 == 0) && (owed == 0))) f
    ∙ ap (λ (v : ℕ). stop_by (rows.stop_of (event_at (event_in k h n g))) (fetches h n g && (count s1 == 0) && (v == 0))) o
    ∙ ap (λ (v : Bool). stop_by (rows.stop_of (event_at (event_in k h n g))) v)
    (over_same (fetches h n g) (is_none (entering k h n g)) (length (standing g.above) == 0) (length (owed_after k h n g) == 0) (count s1 == 0) (none_left d image h n s1 new ahead b))

-- a part by its fields
abbrev pub part_of : Option (ℕ × Commit) → Option Written → List (Option ℕ) → Option ℕ → Option Stop → HartPart
part_of retired written flushed redirect stop = record { retired = retired; written = written; flushed = flushed; redirect = redirect; stop = stop }

-- The next row

pub above_next : (k : Setting) (h n : ℕ) → (hart_at k h (suc n)).above ≡ (if is_some (stopping k h n (hart_at k h n)) then replicate (k.shape.stages - 1) None else take (k.shape.stages - 1) (cleared (lost (event_in k h n (hart_at k h n))) (stages_in k h n (hart_at k h n))))
unfolding hart_at next_hart
above_next k h n = refl

pub fetch_next : (k : Setting) (h n : ℕ) → (hart_at k h (suc n)).fetch ≡ address_after (hart_at k h n).fetch (entering k h n (hart_at k h n)) (event_at (event_in k h n (hart_at k h n)))
unfolding hart_at next_hart
fetch_next k h n = refl

pub next_next : (k : Setting) (h n : ℕ) → (hart_at k h (suc n)).next ≡ (if is_some (entering k h n (hart_at k h n)) then suc (hart_at k h n).next else (hart_at k h n).next)
unfolding hart_at next_hart
next_next k h n = refl

pub retired_next : (k : Setting) (h n : ℕ) → (hart_at k h (suc n)).retired ≡ (if is_some (leaving k h n (hart_at k h n)) then suc (hart_at k h n).retired else (hart_at k h n).retired)
unfolding hart_at next_hart
retired_next k h n = refl

pub owed_there : (k : Setting) (h n : ℕ) → (hart_at k h (suc n)).owed ≡ owed_after k h n (hart_at k h n)
unfolding hart_at next_hart
owed_there k h n = refl

pub units_next : (k : Setting) (h n : ℕ) → (hart_at k h (suc n)).units ≡ (if rows.steps k h n (hart_at k h n) then (hart_at k h n).units else units.next_units (rows.unit_entered k (leaving k h n (hart_at k h n))) (hart_at k h n).units)
unfolding hart_at next_hart
units_next k h n = refl

pub stopped_next : (k : Setting) (h n : ℕ) → (hart_at k h (suc n)).stopped ≡ ((hart_at k h n).stopped || is_some (stopping k h n (hart_at k h n)))
unfolding hart_at next_hart
stopped_next k h n = refl

pub state_next : (x : ExtensionTree) (k : Setting) (h n : ℕ) → architecture x k h (suc n) ≡ after_written (hart_row k h n).part.written (after_retired x k (retirements k h n) (hart_row k h n).part.retired (architecture x k h n))
unfolding architecture
state_next x k h n = refl

-- retired, as it counts
pub retired_on : (d : Design) (image : List ℕ) (h n : ℕ) (s1 : Slots) (new : Option InFlight) (ahead : Arch) → IsBegun d image h n s1 new ahead →
    (hart_at (hart_setting d image) h n).retired + one_in (last_slot s1) ≡ (hart_at (hart_setting d image) h (suc n)).retired
retired_on d image h n s1 new ahead b = by_slot (last_slot s1) ∙ ap (λ (f : Option Fetched). if is_some f then suc (hart_at (hart_setting d image) h n).retired else (hart_at (hart_setting d image) h n).retired) (leaving_is d image h n s1 new ahead b) ∙ sym (retired_next (hart_setting d image) h n) where
  by_slot : (slot : Option InFlight) → (hart_at (hart_setting d image) h n).retired + one_in slot ≡ (if is_some (fetched_in (hart_at (hart_setting d image) h n).retired slot) then suc (hart_at (hart_setting d image) h n).retired else (hart_at (hart_setting d image) h n).retired)
  by_slot None = omega arith
  by_slot (Some c) = omega arith

abbrev pub slots_by : Bool → ℕ → Slots → Slots
slots_by stops gone s = if stops then all_free s else advanced gone 0 None s

pub stages_next : (d : Design) (image : List ℕ) (h n : ℕ) (s1 s2 : Slots) (new : Option InFlight) (ahead : Arch) (event : Option EventAt) (stop : Option Stop) → IsBegun d image h n s1 new ahead →
    event ≡ event_in (hart_setting d image) h n (hart_at (hart_setting d image) h n) → stop ≡ stopping (hart_setting d image) h n (hart_at (hart_setting d image) h n) → s2 ≡ slots_by (is_some stop) (lost event) s1 →
    fetched_of (hart_at (hart_setting d image) h (suc n)).retired s2 ≡ None ∷ (hart_at (hart_setting d image) h (suc n)).above
stages_next d image h n s1 s2 new ahead event stop b e st is =
    ap (fetched_of (hart_at (hart_setting d image) h (suc n)).retired) is ∙ by_stop (is_some stop) ∙ ap (λ (t : Bool). none_first (above_by t)) (ap is_some st) ∙ sym (ap (λ (l : List (Option Fetched)). none_first l) (above_next (hart_setting d image) h n)) where
      m : ℕ
      m = d.sheet.shape.stages - 1

      above_by : Bool → List (Option Fetched)
      above_by t = if t then replicate (d.sheet.shape.stages - 1) None else take (d.sheet.shape.stages - 1) (cleared (lost (event_in (hart_setting d image) h n (hart_at (hart_setting d image) h n))) (stages_in (hart_setting d image) h n (hart_at (hart_setting d image) h n)))

      by_stop : (t : Bool) → fetched_of (hart_at (hart_setting d image) h (suc n)).retired (slots_by t (lost event) s1) ≡ none_first (above_by t)
      by_stop true = free_is (hart_at (hart_setting d image) h (suc n)).retired s1 ∙ ap (λ (i : ℕ). replicate i None) (last_stage d s1 b.long)
      by_stop false =
          sym (ap (λ (q : ℕ). fetched_of q (advanced (lost event) 0 None s1)) (retired_on d image h n s1 new ahead b))
          ∙ fetched_advanced (hart_at (hart_setting d image) h n).retired (d.sheet.shape.stages - 1) (lost event) s1 (last_stage d s1 b.long) (lost_few d image h n s1 new ahead event b e)
          ∙ ap (λ (o : Option EventAt). none_first (take (d.sheet.shape.stages - 1) (cleared (lost o) (fetched_of (hart_at (hart_setting d image) h n).retired s1)))) e
          ∙ ap (λ (l : List (Option Fetched)). none_first (take (d.sheet.shape.stages - 1) (cleared (lost (event_in (hart_setting d image) h n (hart_at (hart_setting d image) h n))) l))) b.stages

advanced_long : (gone stage : ℕ) (come : Option InFlight) (s : Slots) → length (advanced gone stage come s) ≡ length s
advanced_long gone stage come [] = refl
advanced_long gone stage come (s ∷ older) = ap suc (advanced_long gone (suc stage) _ older)

pub long_next : (t : Bool) (gone : ℕ) (s : Slots) → length (slots_by t gone s) ≡ length s
long_next true gone s = long_free s
long_next false gone s = advanced_long gone 0 None s

pub asked_next : (k : Setting) (t : Bool) (gone m : ℕ) (s : Slots) → length s ≡ suc m → AreAsked k s → AreAsked k (slots_by t gone s)
asked_next k true gone m s e h = asked_free k s
asked_next k false gone m s e h = asked_on k gone m s e h

pub tried_next : (k : Setting) (q : ℕ) (t : Bool) (gone m : ℕ) (s : Slots) → length s ≡ suc m → gone ≤ m → AreTried k k.shape.ex q 0 s → AreTried k (suc k.shape.ex) (q + one_in (last_slot s)) 0 (slots_by t gone s)
tried_next k q true gone m s e le h = no_tried k (suc k.shape.ex) (q + one_in (last_slot s)) 0 (all_free s) (count_free s)
tried_next k q false gone m s e le h = tried_on k q gone m s e le h

-- nothing stands where nothing stood
none_taken : (n : ℕ) (s : Slots) → count s ≡ 0 → count (take n s) ≡ 0
none_taken zero s e = refl
none_taken (suc n) [] e = refl
none_taken (suc n) (None ∷ older) e = none_taken n older e
none_taken (suc n) (Some c ∷ older) e = absurd (omega (arith, e))

none_emptied : (n : ℕ) (s : Slots) → count s ≡ 0 → count (emptied n s) ≡ 0
none_emptied zero s e = e
none_emptied (suc n) [] e = refl
none_emptied (suc n) (None ∷ older) e = none_emptied n older e
none_emptied (suc n) (Some c ∷ older) e = absurd (omega (arith, e))

none_on : (gone m : ℕ) (s : Slots) → length s ≡ suc m → count s ≡ 0 → count (advanced gone 0 None s) ≡ 0
none_on gone m s long e = ap (λ (l : Slots). count l) (advanced_to gone m s long) ∙ none_taken m (emptied gone s) (none_emptied gone s e)

or_so : (a t : Bool) → (a || t) ≡ true → t ≡ false → a ≡ true
or_so true t e f = refl
or_so false true e f = sym f ∙ e
or_so false false e f = e

pub idle_next : (d : Design) (image : List ℕ) (h n : ℕ) (s1 : Slots) (new : Option InFlight) (ahead : Arch) (gone : ℕ) (t : Bool) → IsBegun d image h n s1 new ahead →
    t ≡ is_some (stopping (hart_setting d image) h n (hart_at (hart_setting d image) h n)) → (hart_at (hart_setting d image) h (suc n)).stopped ≡ true → count (slots_by t gone s1) ≡ 0
idle_next d image h n s1 new ahead gone true b e stopped = count_free s1
idle_next d image h n s1 new ahead gone false b e stopped =
    none_on gone (d.sheet.shape.stages - 1) s1 (last_stage d s1 b.long)
    (b.idle (or_so (hart_at (hart_setting d image) h n).stopped (is_some (stopping (hart_setting d image) h n (hart_at (hart_setting d image) h n))) (sym (stopped_next (hart_setting d image) h n) ∙ stopped) (sym e)))

-- The state ahead

none_cleared : (q gone : ℕ) (s : Slots) → standing (take gone (fetched_of q s)) ≡ [] → count (emptied gone s) ≡ count s
none_cleared q zero s e = refl
none_cleared q (suc gone) [] e = refl
none_cleared q (suc gone) (None ∷ older) e = none_cleared q gone older e
none_cleared q (suc gone) (Some c ∷ older) e = absurd (some_none (ap (λ (l : List Fetched). length l) e)) where
  some_none : suc (length (standing (take gone (fetched_of q older)))) ≡ 0 → ⊥
  some_none f = omega (arith, f)

none_between : (q m gone : ℕ) (s : Slots) → standing (take (gone - m) (drop m (fetched_of q s))) ≡ [] → count (drop m (emptied gone s)) ≡ count (drop m s)
none_between q zero gone s e = none_cleared q gone s (subst (λ (i : ℕ). standing (take i (fetched_of q s)) ≡ []) (omega arith) e)
none_between q (suc m) zero s e = refl
none_between q (suc m) (suc gone) [] e = refl
none_between q (suc m) (suc gone) (None ∷ older) e = none_between q m gone older (subst (λ (i : ℕ). standing (take i (drop m (fetched_of q older))) ≡ []) (omega arith) e)
none_between q (suc m) (suc gone) (Some c ∷ older) e = none_between q m gone older (subst (λ (i : ℕ). standing (take i (drop m (fetched_of q older))) ≡ []) (omega arith) e)

pub still_there : (d : Design) (image : List ℕ) (h n : ℕ) (s1 : Slots) (new : Option InFlight) (ahead : Arch) (event : Option EventAt) → IsBegun d image h n s1 new ahead → KnownHart (hart_setting d image) h n →
    event ≡ event_in (hart_setting d image) h n (hart_at (hart_setting d image) h n) → d.sheet.shape.ex < lost event →
    count (drop (suc d.sheet.shape.ex) (emptied (lost event) s1)) ≡ count (drop (suc d.sheet.shape.ex) s1)
still_there d image h n s1 new ahead event b known e lt = by_event event refl lt where
  k : Setting
  k = hart_setting d image

  g : Hart
  g = hart_at (hart_setting d image) h n

  upto : (gone : ℕ) → gone ≤ suc d.sheet.shape.ex → count (drop (suc d.sheet.shape.ex) (emptied gone s1)) ≡ count (drop (suc d.sheet.shape.ex) s1)
  upto gone le = ap (λ (l : Slots). count l) (above_kept (suc d.sheet.shape.ex) gone s1 le)

  by_kind : (f : EventAt) (v : Event) → f.event ≡ v → event_in (hart_setting d image) h n (hart_at (hart_setting d image) h n) ≡ Some f → IsHere (hart_setting d image) 0 (length (stages_in (hart_setting d image) h n (hart_at (hart_setting d image) h n))) f →
      d.sheet.shape.ex < stages_after f.stage v → count (drop (suc d.sheet.shape.ex) (emptied (stages_after f.stage v) s1)) ≡ count (drop (suc d.sheet.shape.ex) s1)
  by_kind f (Turned turn at) is there here lt = let le = here.ending (ap ends is) in upto (suc f.stage) (omega (arith, le))
  by_kind f (Stopped stop) is there here lt = let le = here.ending (ap ends is) in upto (suc f.stage) (omega (arith, le))
  by_kind f (Led at) is there here lt =
      none_between (hart_at (hart_setting d image) h n).retired (suc d.sheet.shape.ex) f.stage s1
      (ap (λ (l : List (Option Fetched)). standing (take (f.stage - suc d.sheet.shape.ex) (drop (suc d.sheet.shape.ex) l))) b.stages ∙ known.settled f there lt)

  by_event : (o : Option EventAt) → event ≡ o → d.sheet.shape.ex < lost o → count (drop (suc d.sheet.shape.ex) (emptied (lost o) s1)) ≡ count (drop (suc d.sheet.shape.ex) s1)
  by_event None is lt = absurd (omega (arith, lt))
  by_event (Some f) is lt =
      let there = sym e ∙ is in
      by_kind f f.event refl there (event_here_is (hart_setting d image) (hart_at (hart_setting d image) h n).owed (rows.kept_in (hart_setting d image) h n (hart_at (hart_setting d image) h n)) (hart_at (hart_setting d image) h n).fetch 0 (stages_in (hart_setting d image) h n (hart_at (hart_setting d image) h n)) f d.sheet.shape.lawful.reads_first there) lt

slot_got : (n : ℕ) (s : Slots) → get_or s n None ≡ slot_of n s
slot_got n [] = none_there n where
  none_there : (n : ℕ) → get_or {A = Option InFlight} [] n None ≡ None
  none_there zero = refl
  none_there (suc n) = refl
slot_got zero (s ∷ older) = refl
slot_got (suc n) (s ∷ older) = slot_got n older

abbrev pub ahead_by_test : Bool → Option InFlight → Arch → Arch
ahead_by_test t slot a = if t then ahead_of slot a else a

pub executed_next : (d : Design) (image : List ℕ) (h n : ℕ) (s1 : Slots) (new : Option InFlight) (ahead ahead2 : Arch) (event : Option EventAt) (t : Bool) → IsBegun d image h n s1 new ahead → KnownHart (hart_setting d image) h n →
    event ≡ event_in (hart_setting d image) h n (hart_at (hart_setting d image) h n) → t ≡ is_some (stopping (hart_setting d image) h n (hart_at (hart_setting d image) h n)) →
    ahead2 ≡ ahead_by_test (nat_le (lost event) d.sheet.shape.ex) (get_or s1 d.sheet.shape.ex None) ahead → (hart_at (hart_setting d image) h (suc n)).stopped ≡ false →
    ahead2 ≡ run (view_extension d.extension) image ((hart_at (hart_setting d image) h (suc n)).retired + count (drop (suc d.sheet.shape.ex) (slots_by t (lost event) s1)))
executed_next d image h n s1 new ahead ahead2 event true b known e st is goes = absurd (apart (sym goes ∙ stopped_next (hart_setting d image) h n ∙ ap (λ (v : Bool). (hart_at (hart_setting d image) h n).stopped || v) (sym st) ∙ or_true (hart_at (hart_setting d image) h n).stopped)) where
  or_true : (v : Bool) → (v || true) ≡ true
  or_true true = refl
  or_true false = refl

  Truly : Bool → Type 0
  Truly true = ⊥
  Truly false = Unit

  apart : false ≡ true → ⊥
  apart f = subst Truly f tt
executed_next d image h n s1 new ahead ahead2 event false b known e st is goes = is ∙ by_test (nat_le (lost event) d.sheet.shape.ex) refl where
  x : ExtensionTree
  x = view_extension d.extension

  q : ℕ
  q = (hart_at (hart_setting d image) h n).retired

  first_false : (a v : Bool) → (a || v) ≡ false → a ≡ false
  first_false true v f = f
  first_false false v f = refl

  going : (hart_at (hart_setting d image) h n).stopped ≡ false
  going = first_false (hart_at (hart_setting d image) h n).stopped (is_some (stopping (hart_setting d image) h n (hart_at (hart_setting d image) h n))) (sym (stopped_next (hart_setting d image) h n) ∙ goes)

  now : ahead ≡ run (view_extension d.extension) image ((hart_at (hart_setting d image) h n).retired + count (drop (suc d.sheet.shape.ex) s1))
  now = b.executed going

  few : lost event ≤ d.sheet.shape.stages - 1
  few = lost_few d image h n s1 new ahead event b e

  inside : d.sheet.shape.ex ≤ d.sheet.shape.stages - 1
  inside = let late = d.sheet.shape.lawful.memory_late in let in_it = d.sheet.shape.lawful.memory_inside in omega (arith, late, in_it)

  counted : (hart_at (hart_setting d image) h n).retired + one_in (last_slot s1) + count (drop (suc d.sheet.shape.ex) (advanced (lost event) 0 None s1)) ≡ (hart_at (hart_setting d image) h (suc n)).retired + count (drop (suc d.sheet.shape.ex) (advanced (lost event) 0 None s1))
  counted = ap (λ (m : ℕ). m + count (drop (suc d.sheet.shape.ex) (advanced (lost event) 0 None s1))) (retired_on d image h n s1 new ahead b)

  by_test : (v : Bool) → nat_le (lost event) d.sheet.shape.ex ≡ v → ahead_by_test v (get_or s1 d.sheet.shape.ex None) ahead ≡ run (view_extension d.extension) image ((hart_at (hart_setting d image) h (suc n)).retired + count (drop (suc d.sheet.shape.ex) (advanced (lost event) 0 None s1)))
  by_test true f =
      let le : lost event ≤ d.sheet.shape.ex = grind (arith, nat_tests, f) in
      ap (λ (slot : Option InFlight). ahead_of slot ahead) (slot_got d.sheet.shape.ex s1)
      ∙ ahead_on d image (hart_at (hart_setting d image) h n).retired s1 ahead b.tried now
      ∙ ap (λ (m : ℕ). run (view_extension d.extension) image m) (sym (executed_on d.sheet.shape.ex (lost event) (hart_at (hart_setting d image) h n).retired (d.sheet.shape.stages - 1) s1 (last_stage d s1 b.long) inside le) ∙ counted)
  by_test false f =
      let lt : d.sheet.shape.ex < lost event = grind (arith, nat_tests, f) in
      now
      ∙ ap (λ (m : ℕ). run (view_extension d.extension) image m)
      (sym (executed_still d.sheet.shape.ex (lost event) (hart_at (hart_setting d image) h n).retired (d.sheet.shape.stages - 1) s1 (last_stage d s1 b.long) lt few (still_there d image h n s1 new ahead event b known e lt)) ∙ counted)

-- The front

pub fetched_is : (p : ℕ) (new : Option InFlight) → is_some (fetched_in p new) ≡ is_some new
fetched_is p None = refl
fetched_is p (Some c) = refl

pub some_there : (d : Design) (image : List ℕ) (h n : ℕ) (s1 : Slots) (new : Option InFlight) (ahead : Arch) → IsBegun d image h n s1 new ahead → is_some new ≡ is_some (entering (hart_setting d image) h n (hart_at (hart_setting d image) h n))
some_there d image h n s1 new ahead b = sym (fetched_is b.place new) ∙ ap is_some b.entering

-- The parts together

pub part_there : (k : Setting) (h n : ℕ) {retired : Option (ℕ × Commit)} {written : Option Written} {flushed : List (Option ℕ)} {redirect : Option ℕ} {stop : Option Stop} →
    retired ≡ rows.retired_of k (leaving k h n (hart_at k h n)) → written ≡ rows.written_by k (hart_at k h n).owed (rows.serial_out k h n (hart_at k h n)) → flushed ≡ flushed_in k h n (hart_at k h n) →
    redirect ≡ rows.redirect_of (event_at (event_in k h n (hart_at k h n))) → stop ≡ stopping k h n (hart_at k h n) →
    part_of retired written flushed redirect stop ≡ (hart_row k h n).part
unfolding hart_row
part_there k h n {retired} {written} {flushed} {redirect} {stop} a b c d e =
    ap (λ (v : Option (ℕ × Commit)). part_of v written flushed redirect stop) a
    ∙ ap (λ (v : Option Written). part_of (rows.retired_of k (leaving k h n (hart_at k h n))) v flushed redirect stop) b
    ∙ ap (λ (v : List (Option ℕ)). part_of (rows.retired_of k (leaving k h n (hart_at k h n))) (rows.written_by k (hart_at k h n).owed (rows.serial_out k h n (hart_at k h n))) v redirect stop) c
    ∙ ap (λ (v : Option ℕ). part_of (rows.retired_of k (leaving k h n (hart_at k h n))) (rows.written_by k (hart_at k h n).owed (rows.serial_out k h n (hart_at k h n))) (flushed_in k h n (hart_at k h n)) v stop) d
    ∙ ap (λ (v : Option Stop). part_of (rows.retired_of k (leaving k h n (hart_at k h n))) (rows.written_by k (hart_at k h n).owed (rows.serial_out k h n (hart_at k h n))) (flushed_in k h n (hart_at k h n)) (rows.redirect_of (event_at (event_in k h n (hart_at k h n)))) v) e

pub state_there : (x : ExtensionTree) (k : Setting) (h n : ℕ) →
    after_written (rows.written_by k (hart_at k h n).owed (rows.serial_out k h n (hart_at k h n))) (after_retired x k (retirements k h n) (rows.retired_of k (leaving k h n (hart_at k h n))) (architecture x k h n)) ≡ architecture x k h (suc n)
unfolding architecture hart_row
state_there x k h n = refl
