-- A row of a hart, from what is kept before it to what it shows.
use Rattle.std.proofs.Common.{◌≡◌, ◌∙◌, refl, sym, ap, subst, ℕ, zero, suc, ◌+◌, ◌-◌, ◌<◌, ◌≤◌, List, [], ◌∷◌, length, drop, get_or, Option, Some, None, Bool, true, false, arith}
use Rattle.std.specs.Prelude.{slice_get, not, if◌then◌else◌, ◌==◌, ◌&&◌, ◌%◌, IfSome}
use Rattle.ix_extension.specs.Extensions.{ExtensionTree, view_extension}
use Rattle.ix_plan.specs.declared.design.Design.{Design}
use Rattle.ix_plan.specs.Units.{unit_written, next_units, frozen_with}
use Rattle.ix_plan.specs.Units as units
use Rattle.rv_harts.specs.BarrelRows.{hart_setting}
use Rattle.rv_harts.specs.declared.event.EventAt.{EventAt}
use Rattle.rv_harts.specs.Events.{event_from}
use Rattle.rv_harts.specs.Harts.{Fetched, Hart}
use Rattle.rv_harts.specs.HartRows as rows
use Rattle.rv_harts.specs.HartRows.{entering, stages_in, hart_at, hart_row, fetches, steps, serial_out, kept_in, event_in, event_at, leaving, last_in, retired_of, cell_at, cell_with, turn_at, flushed_in, written_by, redirect_of, stopping, is_over, below, lost, owed_after, owing}
use Rattle.rv_hart_runs.specs.HartRuns.{KnownHart}
use Rattle.rv_lawful.specs.LawfulTrace.{serial_in}
use Rattle.rv_lawful.specs.Settings.{Setting}
use Rattle.rv_seq.specs.declared.arch.Arch.{Arch}
use Rattle.rv_seq.specs.Runs.{run}
use Rattle.rv_seq.specs.Steps.{word_at}
use Rattle.rv_unit.specs.Slots.{units_of}
use Rattle.rv_unit.specs.Standing.{Standing}
use Rattle.rv_barrel.specs.declared.cell.Front.{Front}
use Rattle.rv_barrel.specs.declared.cell.InFlight.{InFlight}
use Rattle.rv_barrel.specs.declared.cell.Owed.{Owed}
use Rattle.rv_barrel.specs.Cells.{Slots, count, fetched_at, fetched_of, AreAsked, AreOwed}
use Rattle.rv_barrel.specs.Moving.{put_first, tried_at, fetched_in, new_in}
use Rattle.rv_barrel.specs.Older.{kept_of}
use Rattle.rv_barrel.specs.Showing.{retired_by}
use Rattle.rv_barrel.specs.Sides.{IsSide}
use Rattle.rv_barrel.specs.Turning.{IsCore, AreTried}
use Rattle.rv_barrel.proofs.Beginning.{new_of, first_free, new_is, put_is, put_asked, put_tried, step_there, count_put, idle_tried}
use Rattle.rv_barrel.proofs.Going.{put_long, tried_long}
use Rattle.rv_barrel.proofs.Happening.{event_here_is, lost_is, below_is}
use Rattle.rv_barrel.proofs.Owings.{IsGoing}
use Rattle.rv_barrel.proofs.Row.{last_at, last_asked, last_tried, going_out, retired_is}
use Rattle.rv_barrel.proofs.Views.{count_tried, fetched_tried, asked_tried, tried_now, last_slot, last_is}

abbrev pub setting_of : Design → List ℕ → Setting
setting_of d image = hart_setting d image

-- What the row begins with

pub record IsBegun (d : Design) (image : List ℕ) (h n : ℕ) (s : Slots) (new : Option InFlight) (ahead : Arch) : Type 0 where
  pub stages : fetched_of (hart_at (hart_setting d image) h n).retired s ≡ stages_in (hart_setting d image) h n (hart_at (hart_setting d image) h n)
  pub long : length s ≡ d.sheet.shape.stages
  pub asked : AreAsked (hart_setting d image) s
  pub tried : AreTried (hart_setting d image) d.sheet.shape.ex (hart_at (hart_setting d image) h n).retired 0 s
  pub place : ℕ
  pub entering : fetched_in place new ≡ rows.entering (hart_setting d image) h n (hart_at (hart_setting d image) h n)
  pub idle : (hart_at (hart_setting d image) h n).stopped ≡ true → count s ≡ 0
  pub executed : (hart_at (hart_setting d image) h n).stopped ≡ false → ahead ≡ run (view_extension d.extension) image ((hart_at (hart_setting d image) h n).retired + count (drop (suc d.sheet.shape.ex) s))

abbrev may_of : ℕ → ℕ → Bool → Bool
may_of h n stopped = ((n % 2) == h) && not stopped

drop_tried : (x : ExtensionTree) (image : List ℕ) (a : Arch) (n : ℕ) (s : Slots) → count (drop (suc n) (tried_at x image a n s)) ≡ count (drop (suc n) s)
drop_tried x image a n [] = refl
drop_tried x image a zero (s ∷ older) = refl
drop_tried x image a (suc n) (s ∷ older) = drop_tried x image a n older

count_none : (s : Slots) → count s ≡ 0 → count (put_first None s) ≡ 0
count_none [] e = refl
count_none (None ∷ older) e = e
count_none (Some c ∷ older) e = absurd (omega (arith, e))

place_of : (q : ℕ) (s : Slots) → ℕ
place_of q [] = q
place_of q (s ∷ older) = q + count older

new_there : (d : Design) (image : List ℕ) (h n : ℕ) (g : Hart) (s : Slots) → 0 < length s → fetched_of g.retired s ≡ None ∷ g.above →
    fetched_in (place_of g.retired s) (new_of d image (fetches h n g) g.next g.fetch) ≡ entering (hart_setting d image) h n g
unfolding place_of
new_there d image h n g [] lt e = absurd (omega (arith, lt))
new_there d image h n g (s ∷ older) lt e = new_is d image h n g older (first_free g.retired s older g.above e)

-- stage 0 is free as a row begins
pub free_first : (q : ℕ) (s : Slots) (above : List (Option Fetched)) → fetched_of q s ≡ None ∷ above → get_or s 0 None ≡ None
free_first q [] above e = refl
free_first q (None ∷ older) above e = refl
free_first q (Some c ∷ older) above e = cc

-- what comes in has the fetch address
pub at_there : (d : Design) (image : List ℕ) (may : Bool) (next fetch place : ℕ) → IfSome (fetched_in place (new_of d image may next fetch)) (λ c. c.at ≡ fetch)
at_there d image false next fetch place = tt
at_there d image true next fetch place = by_word (word_at image fetch) where
  by_word : (w : Option ℕ) → IfSome (fetched_in place (new_in d next fetch w)) (λ c. c.at ≡ fetch)
  by_word None = tt
  by_word (Some w) = refl

pub begun : (d : Design) (image : List ℕ) (h n : ℕ) (s s1 : Slots) (front : Front) (ahead arch : Arch) (u : Standing) (owed : List Owed) (room : ℕ) (may : Bool) (new : Option InFlight) →
    IsSide (view_extension d.extension) (hart_setting d image) h n s front ahead arch u owed room →
    may ≡ may_of h n front.stopped → new ≡ new_of d image may front.next front.fetch → s1 ≡ tried_at (view_extension d.extension) image ahead d.sheet.shape.ex (put_first new s) →
    IsBegun d image h n s1 new ahead
begun d image h n s s1 front ahead arch u owed room may new side is_may is_new is_s1 = record {
  stages = ap (fetched_of q) is_s1 ∙ fetched_tried x image ahead q ex (put_first new s) ∙ put_is d image h n g s new some side.above fresh;
  long = ap (λ (l : Slots). length l) is_s1 ∙ tried_long x image ahead ex (put_first new s) ∙ put_long new s ∙ side.long;
  asked = subst (AreAsked k) (sym is_s1) (asked_tried k x image ahead ex (put_first new s) (subst (λ (c : Option InFlight). AreAsked k (put_first c s)) (sym fresh) (put_asked d image (fetches h n g) g.next g.fetch s side.asked)));
  tried = subst (AreTried k ex q 0) (sym is_s1) (by_stop g.stopped refl);
  place = place_of q s;
  entering = ap (fetched_in (place_of q s)) fresh ∙ new_there d image h n g s some side.above;
  idle = λ stands. ap (λ (l : Slots). count l) is_s1 ∙ count_tried x image ahead ex (put_first new s) ∙ still stands;
  executed = λ goes. side.executed goes ∙ sym (ap (λ (m : ℕ). run x image (q + m)) above);
} where
  k : Setting
  k = hart_setting d image

  x : ExtensionTree
  x = view_extension d.extension

  g : Hart
  g = hart_at (hart_setting d image) h n

  q : ℕ
  q = (hart_at (hart_setting d image) h n).retired

  ex : ℕ
  ex = d.sheet.shape.ex

  some : 0 < length s
  some = let l = d.sheet.shape.lawful.least in omega (arith, side.long, l)

  fetch_so : may ≡ fetches h n (hart_at (hart_setting d image) h n)
  fetch_so = is_may ∙ ap (may_of h n) side.stopped

  fresh : new ≡ new_of d image (fetches h n (hart_at (hart_setting d image) h n)) (hart_at (hart_setting d image) h n).next (hart_at (hart_setting d image) h n).fetch
  fresh =
      is_new
      ∙ ap (λ (b : Bool). new_of d image b front.next front.fetch) fetch_so
      ∙ ap (λ (m : ℕ). new_of d image (fetches h n (hart_at (hart_setting d image) h n)) m front.fetch) side.next
      ∙ ap (λ (m : ℕ). new_of d image (fetches h n (hart_at (hart_setting d image) h n)) (hart_at (hart_setting d image) h n).next m) side.fetch

  still : (hart_at (hart_setting d image) h n).stopped ≡ true → count (put_first new s) ≡ 0
  still e =
      let off : may_of h n true ≡ false = and_false ((n % 2) == h) in
      let none : new ≡ None = is_new ∙ ap (λ (b : Bool). new_of d image b front.next front.fetch) (is_may ∙ ap (may_of h n) (side.stopped ∙ e) ∙ off) in
      ap (λ (c : Option InFlight). count (put_first c s)) none ∙ count_none s (side.idle e) where
        and_false : (b : Bool) → (b && false) ≡ false
        and_false true = refl
        and_false false = refl

  above : count (drop (suc d.sheet.shape.ex) s1) ≡ count (drop (suc d.sheet.shape.ex) s)
  above = ap (λ (l : Slots). count (drop (suc d.sheet.shape.ex) l)) is_s1 ∙ drop_tried (view_extension d.extension) image ahead d.sheet.shape.ex (put_first new s) ∙ count_put d.sheet.shape.ex new s

  by_stop : (b : Bool) → (hart_at (hart_setting d image) h n).stopped ≡ b → AreTried (hart_setting d image) d.sheet.shape.ex (hart_at (hart_setting d image) h n).retired 0 (tried_at (view_extension d.extension) image ahead d.sheet.shape.ex (put_first new s))
  by_stop true e = idle_tried (hart_setting d image) (view_extension d.extension) image ahead d.sheet.shape.ex (hart_at (hart_setting d image) h n).retired d.sheet.shape.ex (put_first new s) (still e)
  by_stop false e =
      tried_now (hart_setting d image) (view_extension d.extension) image ahead (hart_at (hart_setting d image) h n).retired d.sheet.shape.ex 0 (put_first new s) (omega arith)
      (step_there d image ((hart_at (hart_setting d image) h n).retired + count (drop (suc d.sheet.shape.ex) (put_first new s))) ahead
      (side.executed e ∙ sym (ap (λ (m : ℕ). run (view_extension d.extension) image ((hart_at (hart_setting d image) h n).retired + m)) (count_put d.sheet.shape.ex new s))))
      (put_tried (hart_setting d image) (hart_at (hart_setting d image) h n).retired new s side.tried)

-- Its event

abbrev pub serial_by : Bool → List units.Slots → Option ℕ
serial_by steps us = if steps then serial_in (unit_written us) else None

pub out_is : (d : Design) (image : List ℕ) (h n : ℕ) (s : Slots) (front : Front) (ahead arch : Arch) (u : Standing) (owed : List Owed) (room : ℕ) (steps : Bool) (out : Option ℕ) →
    IsSide (view_extension d.extension) (hart_setting d image) h n s front ahead arch u owed room →
    steps ≡ (not (((n + (d.sheet.shape.stages - 1)) % 2) == h) && not front.stopped) → out ≡ serial_by steps (units_of u.stages u.lasts u.entries) →
    out ≡ serial_out (hart_setting d image) h n (hart_at (hart_setting d image) h n)
out_is d image h n s front ahead arch u owed room steps out side is_steps is_out =
    is_out
    ∙ ap (λ (b : Bool). serial_by b (units_of u.stages u.lasts u.entries)) (is_steps ∙ ap (λ (b : Bool). not (((n + (d.sheet.shape.stages - 1)) % 2) == h) && not b) side.stopped)
    ∙ ap (λ (us : List units.Slots). serial_by (rows.steps (hart_setting d image) h n (hart_at (hart_setting d image) h n)) us) side.standing

abbrev pub EventLaw : Design → Option EventAt → ℕ → Option ℕ → Slots → List Owed → Type 0
EventLaw d event near out s owed =
    (k : Setting) (q : ℕ) (all : List Fetched) → IsCore k d.sheet.shape → AreAsked k s → AreTried k k.shape.ex q 0 s → AreOwed k owed all → event ≡ event_from k all (kept_of out all) near 0 (fetched_of q s)

pub event_is_in : (d : Design) (image : List ℕ) (h n : ℕ) (s s1 : Slots) (front : Front) (ahead arch : Arch) (u : Standing) (owed : List Owed) (room : ℕ) (new : Option InFlight) (out : Option ℕ) (event : Option EventAt) →
    IsSide (view_extension d.extension) (hart_setting d image) h n s front ahead arch u owed room → IsBegun d image h n s1 new ahead →
    out ≡ serial_out (hart_setting d image) h n (hart_at (hart_setting d image) h n) → EventLaw d event front.fetch out s1 owed → event ≡ event_in (hart_setting d image) h n (hart_at (hart_setting d image) h n)
event_is_in d image h n s s1 front ahead arch u owed room new out event side b is_out law =
    let k = hart_setting d image in
    let g = hart_at (hart_setting d image) h n in
    law k g.retired g.owed (record { stages = refl; rd = refl; ex = refl }) b.asked b.tried side.owing
    ∙ ap (λ (o : Option ℕ). event_from k g.owed (kept_of o g.owed) front.fetch 0 (fetched_of g.retired s1)) is_out
    ∙ ap (λ (m : ℕ). event_from k g.owed (kept_in k h n g) m 0 (fetched_of g.retired s1)) side.fetch
    ∙ ap (λ (l : List (Option Fetched)). event_from k g.owed (kept_in k h n g) g.fetch 0 l) b.stages

-- how many cells there are, less one
pub last_stage : (d : Design) (s : Slots) → length s ≡ d.sheet.shape.stages → length s ≡ suc (d.sheet.shape.stages - 1)
last_stage d s e = let l = d.sheet.shape.lawful.least in omega (arith, e, l)

pub cells_long : (d : Design) (image : List ℕ) (h n : ℕ) (s1 : Slots) (new : Option InFlight) (ahead : Arch) → IsBegun d image h n s1 new ahead →
    length (stages_in (hart_setting d image) h n (hart_at (hart_setting d image) h n)) ≡ suc (d.sheet.shape.stages - 1)
cells_long d image h n s1 new ahead b = sym (ap (λ (l : List (Option Fetched)). length l) b.stages) ∙ as_many (hart_at (hart_setting d image) h n).retired s1 ∙ last_stage d s1 b.long where
  as_many : (q : ℕ) (s : Slots) → length (fetched_of q s) ≡ length s
  as_many q [] = refl
  as_many q (None ∷ older) = ap suc (as_many q older)
  as_many q (Some c ∷ older) = ap suc (as_many q older)

pub below_inside : (d : Design) (image : List ℕ) (h n : ℕ) (s1 : Slots) (new : Option InFlight) (ahead : Arch) (event : Option EventAt) → IsBegun d image h n s1 new ahead →
    event ≡ event_in (hart_setting d image) h n (hart_at (hart_setting d image) h n) → below event ≤ length s1
below_inside d image h n s1 new ahead event b e =
    let k = hart_setting d image in
    let g = hart_at (hart_setting d image) h n in
    let few = below_is k g.owed (kept_in k h n g) g.fetch (d.sheet.shape.stages - 1) (stages_in k h n g) d.sheet.shape.lawful.reads_first (cells_long d image h n s1 new ahead b) in
    let long = last_stage d s1 b.long in
    let same = ap below e in
    omega (arith, few, long, same)

pub lost_few : (d : Design) (image : List ℕ) (h n : ℕ) (s1 : Slots) (new : Option InFlight) (ahead : Arch) (event : Option EventAt) → IsBegun d image h n s1 new ahead →
    event ≡ event_in (hart_setting d image) h n (hart_at (hart_setting d image) h n) → lost event ≤ d.sheet.shape.stages - 1
lost_few d image h n s1 new ahead event b e =
    let k = hart_setting d image in
    let g = hart_at (hart_setting d image) h n in
    let late = d.sheet.shape.lawful.memory_late in
    let inside = d.sheet.shape.lawful.memory_inside in
    let few = lost_is k g.owed (kept_in k h n g) g.fetch (d.sheet.shape.stages - 1) (stages_in k h n g) d.sheet.shape.lawful.reads_first (omega (arith, late, inside)) (cells_long d image h n s1 new ahead b) in
    let same = ap lost e in
    omega (arith, few, same)

pub event_near : (d : Design) (image : List ℕ) (h n : ℕ) (s1 : Slots) (new : Option InFlight) (ahead : Arch) (event : Option EventAt) → IsBegun d image h n s1 new ahead →
    event ≡ event_in (hart_setting d image) h n (hart_at (hart_setting d image) h n) → IfSome event (λ e. e.stage < 255)
event_near d image h n s1 new ahead event b e = by_event event refl where
  by_event : (o : Option EventAt) → event ≡ o → IfSome o (λ f. f.stage < 255)
  by_event None is = tt
  by_event (Some f) is =
      let k = hart_setting d image in
      let g = hart_at (hart_setting d image) h n in
      let here = event_here_is k g.owed (kept_in k h n g) g.fetch 0 (stages_in k h n g) f d.sheet.shape.lawful.reads_first (sym e ∙ is) in
      let to = here.to in
      let long = cells_long d image h n s1 new ahead b in
      let most = d.sheet.shape.lawful.most in
      omega (arith, to, long, most)

-- What goes out of the last stage

pub last_got : (n : ℕ) (s : Slots) (slot : Option InFlight) → length s ≡ suc n → get_or s n slot ≡ last_slot s
last_got n [] slot e = absurd (omega (arith, e))
last_got zero (s ∷ []) slot e = refl
last_got (suc n) (s ∷ []) slot e = absurd (omega (arith, e))
last_got zero (s ∷ t ∷ older) slot e = absurd (omega (arith, e))
last_got (suc n) (s ∷ t ∷ older) slot e = last_got n (t ∷ older) slot (omega (arith, e))

pub going_last : (d : Design) (image : List ℕ) (h n : ℕ) (s1 : Slots) (new : Option InFlight) (ahead : Arch) → IsBegun d image h n s1 new ahead → KnownHart (hart_setting d image) h n →
    IsGoing (hart_setting d image) (hart_at (hart_setting d image) h n).retired (last_slot s1)
going_last d image h n s1 new ahead b known = by_slot (last_slot s1) refl where
  by_slot : (slot : Option InFlight) → last_slot s1 ≡ slot → IsGoing (hart_setting d image) (hart_at (hart_setting d image) h n).retired slot
  by_slot None e = tt
  by_slot (Some c) e =
      let k = hart_setting d image in
      let q = (hart_at (hart_setting d image) h n).retired in
      let long = last_stage d s1 b.long in
      let late = d.sheet.shape.lawful.memory_late in
      let inside = d.sheet.shape.lawful.memory_inside in
      let above : d.sheet.shape.ex < d.sheet.shape.stages - 1 = omega (arith, late, inside) in
      let asks = last_asked k s1 c b.asked e in
      let tried = last_tried k d.sheet.shape.ex q 0 (d.sheet.shape.stages - 1) s1 c long (omega (arith, above)) b.tried e in
      let there = sym (ap (λ (l : List (Option Fetched)). slice_get l (d.sheet.shape.stages - 1)) b.stages) ∙ last_at q (d.sheet.shape.stages - 1) s1 long ∙ ap (λ (o : Option InFlight). Some (fetched_in q o)) e in
      (going_out k q c asks tried (known.tried (d.sheet.shape.stages - 1) (fetched_at q c) above there), asks)

pub leaving_is : (d : Design) (image : List ℕ) (h n : ℕ) (s1 : Slots) (new : Option InFlight) (ahead : Arch) → IsBegun d image h n s1 new ahead →
    fetched_in (hart_at (hart_setting d image) h n).retired (last_slot s1) ≡ leaving (hart_setting d image) h n (hart_at (hart_setting d image) h n)
leaving_is d image h n s1 new ahead b = sym (last_is (hart_at (hart_setting d image) h n).retired s1) ∙ ap last_in b.stages

pub retired_there : (k : Setting) (q : ℕ) (slot : Option InFlight) → IsGoing k q slot → retired_by slot ≡ retired_of k (fetched_in q slot)
retired_there k q None h = refl
retired_there k q (Some c) h = retired_is k q c h.0
