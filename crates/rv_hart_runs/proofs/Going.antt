-- What is known of a hart before each row.
use Rattle.std.proofs.Common.{◌≡◌, ◌∙◌, refl, sym, ap, subst, ℕ, zero, suc, ◌+◌, ◌-◌, ◌<◌, ◌≤◌, List, [], ◌∷◌, ◌++◌, length, Option, Some, None, Bool, true, false, arith}
use Rattle.std.specs.Prelude.{take, reverse, replicate, option_map, is_some, if◌then◌else◌, ◌==◌, ◌%◌, ◌&&◌, ◌||◌, not}
use Rattle.std.specs.Option.{option_or}
use Rattle.std.proofs.lemmas.List.{length-replicate, length-take-le, take-replicate}
use Rattle.rv_lawful.specs.Settings.{Setting}
use Rattle.rv_seq.specs.declared.commit.Stop.{Stop}
use Rattle.rv_seq.specs.declared.commit.Stop.TheVariants.{Fetch}
use Rattle.rv_seq.specs.Steps.{word_at}
use Rattle.rv_unit.specs.Entries.{is_number}
use Rattle.rv_harts.specs.declared.event.Event.{Event}
use Rattle.rv_harts.specs.declared.event.Event.TheVariants.{Stopped}
use Rattle.rv_harts.specs.declared.event.EventAt.{EventAt}
use Rattle.rv_harts.specs.Harts.{Fetched, Hart, first_hart}
use Rattle.rv_harts.specs.Turns.{stop_due, reading_turn, executing_turn}
use Rattle.rv_harts.specs.Events.{standing, undone, successor, event_of, event_here, event_from}
use Rattle.rv_harts.specs.HartRows.{fetches, fetched, entering, stages_in, serial_out, kept_in, event_in, event_at, lost, cleared, address_after, last_in, leaving, owing, owed_after, stop_of, is_over, stopping, next_hart, hart_at}
use Rattle.rv_hart_runs.proofs.Free.{or_left, neither, same_some, Free, free_kept}
use Rattle.rv_hart_runs.proofs.Known.{IsSound, has_unit, is_late, IsPast, IsCell, AreCells, retired_after}
use Rattle.rv_hart_runs.proofs.Passing.{test_apart, turn_here, stop_here, quiet_then}
use Rattle.rv_hart_runs.proofs.Calm.{cleared_length, cleared_last, calmed}
use Rattle.rv_hart_runs.proofs.Moving.{moved}
use Rattle.rv_hart_runs.proofs.Apart.{AreApart, kept_apart, owing_apart}

-- what stands above stage 0: nothing after a stop
abbrev pub StandsAs : Setting → Bool → List (Option Fetched) → List Fetched → ℕ → ℕ → Type 0
StandsAs k true above owed retired fetch = above ≡ replicate (k.shape.stages - 1) None
StandsAs k false above owed retired fetch = AreCells k owed retired fetch 1 above

pub record IsHart (k : Setting) (n : ℕ) (g : Hart) : Type 0 where
  pub long : length g.above ≡ k.shape.stages - 1
  pub early : g.next ≤ n
  pub apart : AreApart k g.owed
  pub stands : StandsAs k g.stopped g.above g.owed g.retired g.fetch

-- ---- stages without a cell

pub none_stand : (k : Setting) (owed : List Fetched) (retired near stage n : ℕ) → near ≡ k.course.pc retired → AreCells k owed retired near stage (replicate n None)
none_stand k owed retired near stage zero e = e
none_stand k owed retired near stage (suc n) e = none_stand k owed retired near (suc stage) n e

cleared_none : (m n : ℕ) → cleared m (replicate n None) ≡ replicate n None
cleared_none zero n = refl
cleared_none (suc m) zero = refl
cleared_none (suc m) (suc n) = ap (λ (l : List (Option Fetched)). None ∷ l) (cleared_none m n)

pub last_none : (n : ℕ) → last_in (replicate n None) ≡ None
last_none zero = refl
last_none (suc zero) = refl
last_none (suc (suc n)) = last_none (suc n)

none_taken : (n m : ℕ) (stages : List (Option Fetched)) → stages ≡ replicate (suc n) None → take n (cleared m stages) ≡ replicate n None
none_taken n m stages e =
    ap (λ (l : List (Option Fetched)). take n (cleared m l)) e ∙ ap (λ (l : List (Option Fetched)). take n l) (cleared_none m (suc n)) ∙ take-replicate n (suc n) None (omega arith)

-- ---- stage 0

fetches_none : (k : Setting) (h n : ℕ) (g : Hart) → g.stopped ≡ true → entering k h n g ≡ None
fetches_none k h n g e = by_row ((n % 2) == h) where
  by_row : (b : Bool) → (if b && not g.stopped then fetched g (word_at k.image g.fetch) else None) ≡ None
  by_row false = refl
  by_row true = ap (λ (b : Bool). if not b then fetched g (word_at k.image g.fetch) else None) e

-- after a stop nothing stands in any stage
pub stopped_stages : (k : Setting) (h n : ℕ) (g : Hart) → IsHart k n g → g.stopped ≡ true → stages_in k h n g ≡ replicate (suc (k.shape.stages - 1)) None
stopped_stages k h n g hart e =
    ap (λ (o : Option Fetched). o ∷ g.above) (fetches_none k h n g e)
    ∙ ap (λ (l : List (Option Fetched)). None ∷ l) (subst (λ (b : Bool). StandsAs k b g.above g.owed g.retired g.fetch) e hart.stands)

-- what is fetched
pub record IsFetched (k : Setting) (g : Hart) (c : Fetched) : Type 0 where
  pub at : c.at ≡ g.fetch
  pub place : c.place ≡ g.retired + length (standing g.above)
  pub word : word_at k.image g.fetch ≡ Some c.word

fetched_word : (k : Setting) (g : Hart) (o : Option ℕ) (c : Fetched) → word_at k.image g.fetch ≡ o → fetched g o ≡ Some c → IsFetched k g c
fetched_word k g None c w e = cc
fetched_word k g (Some word) c w e =
    let new : Fetched = record { serial = g.next; at = g.fetch; word = word; place = g.retired + length (standing g.above) } in
    let same : new ≡ c = same_some new c e in
    record {
      at = ap (λ (x : Fetched). x.at) (sym same);
      place = ap (λ (x : Fetched). x.place) (sym same);
      word = w ∙ ap (λ (x : Fetched). Some x.word) same;
    }

fetched_if : (k : Setting) (g : Hart) (b : Bool) (c : Fetched) → (if b then fetched g (word_at k.image g.fetch) else None) ≡ Some c → IsFetched k g c
fetched_if k g true c e = fetched_word k g (word_at k.image g.fetch) c refl e
fetched_if k g false c e = cc

pub entering_tells : (k : Setting) (h n : ℕ) (g : Hart) (c : Fetched) → entering k h n g ≡ Some c → IsFetched k g c
entering_tells k h n g c e = fetched_if k g (fetches h n g) c e

-- at stage 0 a cell does nothing
module _ (k : Setting) (owed kept : List Fetched) (near : ℕ) (c : Fetched) (older : List (Option Fetched)) where
  abbrev before : List Fetched
  before = reverse (standing older)

  no_rd : (0 == k.shape.rd) ≡ false
  no_rd = test_apart 0 k.shape.rd (λ e. let a = k.shape.lawful.reads_late in absurd (omega (arith, a, e)))

  no_ex : (0 == k.shape.ex) ≡ false
  no_ex = test_apart 0 k.shape.ex (λ e. let a = k.shape.lawful.reads_late in let b = k.shape.lawful.reads_first in absurd (omega (arith, a, b, e)))

  no_last : (1 == k.shape.stages) ≡ false
  no_last = test_apart 1 k.shape.stages (λ e. let a = k.shape.lawful.least in absurd (omega (arith, a, e)))

  unturned_there : turn_here k owed kept 0 c older ≡ None
  unturned_there =
      neither (0 == k.shape.rd) (0 == k.shape.ex) (reading_turn k c before (owed ++ before)) (executing_turn k c before (owed ++ before) (kept ++ reverse (undone k 1 older))) no_rd no_ex

  runs_there : stop_here k 0 c ≡ None
  runs_there = ap (λ (b : Bool). if b then option_map (λ (stop : Stop). Stopped stop) (stop_due k c) else None) no_ex

  unsettled : (b : Bool) → (if b then 1 == k.shape.stages else 0 == k.shape.ex) ≡ false
  unsettled true = no_last
  unsettled false = no_ex

  pub nothing_there : event_of k owed kept near 0 c older ≡ None
  nothing_there = quiet_then k owed kept near 0 c older unturned_there runs_there (ap (λ (b : Bool). b && not (successor k c == near)) (unsettled (is_late k c)))

-- ---- a row

-- what is fetched is known beside what stands above
module _ (k : Setting) (h n : ℕ) (g : Hart) (above : AreCells k g.owed g.retired g.fetch 1 g.above) where
  row_cells : (near : ℕ) (new : Option Fetched) → entering k h n g ≡ new → (new ≡ None → near ≡ g.fetch) → AreCells k g.owed g.retired near 0 (new ∷ g.above)
  row_cells near None e same = subst (λ a. AreCells k g.owed g.retired a 1 g.above) (sym (same refl)) above
  row_cells near (Some c) e same =
      let is = entering_tells k h n g c e in
      let cell : IsCell k g.owed g.retired near 0 c (standing g.above) =
      record {
        placed = is.place;
        worded = ap (λ a. word_at k.image a) is.at ∙ is.word;
        past = λ lt. absurd (omega (arith, lt));
        leads = λ lt late. absurd (omega (arith, lt));
      } in
      (cell, subst (λ a. AreCells k g.owed g.retired a 1 g.above) (sym is.at) above)

  pub fetch_cells : AreCells k g.owed g.retired g.fetch 0 (stages_in k h n g)
  fetch_cells = row_cells g.fetch (entering k h n g) refl (λ e. refl)

  next_address : (new : Option Fetched) → new ≡ None → address_after g.fetch new None ≡ g.fetch
  next_address None e = refl
  next_address (Some c) e = cc

  pub next_cells : AreCells k g.owed g.retired (address_after g.fetch (entering k h n g) None) 0 (stages_in k h n g)
  next_cells = row_cells (address_after g.fetch (entering k h n g) None) (entering k h n g) refl (next_address (entering k h n g))

  still : (kept : List Fetched) (new : Option Fetched) → event_from k g.owed kept g.fetch 0 (new ∷ g.above) ≡ None → event_from k g.owed kept (address_after g.fetch new None) 0 (new ∷ g.above) ≡ None
  still kept None e = e
  still kept (Some c) e =
      let near = address_after g.fetch (Some c) None in
      ap (λ (o : Option EventAt). option_or o (option_map (event_here 0) (event_of k g.owed kept near 0 c g.above)))
      (or_left (event_from k g.owed kept c.at 1 g.above) (option_map (event_here 0) (event_of k g.owed kept g.fetch 0 c g.above)) e)
      ∙ ap (λ (o : Option Event). option_map (event_here 0) o) (nothing_there k g.owed kept near c g.above)

  pub next_still : event_in k h n g ≡ None → event_from k g.owed (kept_in k h n g) (address_after g.fetch (entering k h n g) None) 0 (stages_in k h n g) ≡ None
  next_still e = still (kept_in k h n g) (entering k h n g) e

-- ---- a row later

module _ (k : Setting) (sound : IsSound k) (h n : ℕ) (g : Hart) (hart : IsHart k n g) where
  some_stages : suc (k.shape.stages - 1) ≡ k.shape.stages
  some_stages = let a = k.shape.lawful.least in omega (arith, a)

  row_long : length (stages_in k h n g) ≡ suc (k.shape.stages - 1)
  row_long = ap suc hart.long

  keeps : (f : Fetched → Bool) → Free f g.owed → Free f (kept_in k h n g)
  keeps f free = free_kept f (λ (c : Fetched). not (is_number (serial_out k h n g) c.serial)) g.owed free

  abbrev later : ℕ → List (Option Fetched) → Type 0
  later near stages = AreCells k (owed_after k h n g) (retired_after g.retired (leaving k h n g)) near 1 (take (k.shape.stages - 1) stages)

  -- cells that do nothing more, and of which the last is that which retires
  moved_on : (near : ℕ) (stages : List (Option Fetched)) → length stages ≡ suc (k.shape.stages - 1) → last_in stages ≡ leaving k h n g → AreCells k g.owed g.retired near 0 stages →
      event_from k g.owed (kept_in k h n g) near 0 stages ≡ None → later near stages
  moved_on near stages long last cells none =
      let all : 0 + length stages ≡ k.shape.stages = omega (arith, long, some_stages) in
      subst (λ (o : Option Fetched). AreCells k (kept_in k h n g ++ owing k o) (retired_after g.retired o) near 1 (take (k.shape.stages - 1) stages)) last
      (moved k sound g.owed (kept_in k h n g) g.retired keeps near 0 (k.shape.stages - 1) stages long all cells none)

  by_event : AreCells k g.owed g.retired g.fetch 1 g.above → (e : Option EventAt) → event_in k h n g ≡ e → stop_of (event_at e) ≡ None →
      later (address_after g.fetch (entering k h n g) (event_at e)) (cleared (lost e) (stages_in k h n g))
  by_event above None is goes =
      moved_on (address_after g.fetch (entering k h n g) None) (stages_in k h n g) row_long refl (next_cells k h n g above) (next_still k h n g above is)
  by_event above (Some e) is goes =
      let all : 0 + length (stages_in k h n g) ≡ k.shape.stages = omega (arith, row_long, some_stages) in
      let x = calmed k g.owed (kept_in k h n g) g.retired g.fetch 0 (stages_in k h n g) e all (fetch_cells k h n g above) is goes in
      let ends = x.ends in
      let count : x.count ≡ lost (Some e) = omega (arith, ends) in
      subst (λ m. later (address_after g.fetch (entering k h n g) (Some e.event)) (cleared m (stages_in k h n g))) count
      (subst (λ near. later near (cleared x.count (stages_in k h n g))) (sym (x.names g.fetch (entering k h n g)))
      (moved_on x.near (cleared x.count (stages_in k h n g)) (cleared_length x.count (stages_in k h n g) ∙ row_long) (cleared_last x.count (stages_in k h n g) x.inside) x.cells x.quiet))

  abbrev next_above : Bool → List (Option Fetched)
  next_above stops = if stops then replicate (k.shape.stages - 1) None else take (k.shape.stages - 1) (cleared (lost (event_in k h n g)) (stages_in k h n g))

  unstopped : (o : Option Stop) → is_some o ≡ false → o ≡ None
  unstopped None e = refl
  unstopped (Some stop) e = cc

  stands_next : (a b : Bool) → g.stopped ≡ a → is_some (stopping k h n g) ≡ b →
      StandsAs k (a || b) (next_above b) (owed_after k h n g) (retired_after g.retired (leaving k h n g)) (address_after g.fetch (entering k h n g) (event_at (event_in k h n g)))
  stands_next true true e s = refl
  stands_next true false e s = none_taken (k.shape.stages - 1) (lost (event_in k h n g)) (stages_in k h n g) (stopped_stages k h n g hart e)
  stands_next false true e s = refl
  stands_next false false e s =
      by_event (subst (λ (b : Bool). StandsAs k b g.above g.owed g.retired g.fetch) e hart.stands) (event_in k h n g) refl
      (or_left (stop_of (event_at (event_in k h n g))) (if is_over k h n g then Some Fetch else None) (unstopped (stopping k h n g) s))

  long_next : (b : Bool) → length (next_above b) ≡ k.shape.stages - 1
  long_next true = length-replicate (k.shape.stages - 1) None
  long_next false =
      let same = cleared_length (lost (event_in k h n g)) (stages_in k h n g) ∙ row_long in
      length-take-le (k.shape.stages - 1) (cleared (lost (event_in k h n g)) (stages_in k h n g)) (omega (arith, same))

  early_next : (b : Bool) → (if b then suc g.next else g.next) ≤ suc n
  early_next true = let e = hart.early in omega (arith, e)
  early_next false = let e = hart.early in omega (arith, e)

-- ---- what stands in the stages of a row

-- they are known by some address
pub row_known : (k : Setting) (h n : ℕ) (g : Hart) → IsHart k n g → (near : ℕ) × AreCells k g.owed g.retired near 0 (stages_in k h n g)
row_known k h n g hart = by_stop g.stopped refl where
  by_stop : (b : Bool) → g.stopped ≡ b → (near : ℕ) × AreCells k g.owed g.retired near 0 (stages_in k h n g)
  by_stop false e = (g.fetch, fetch_cells k h n g (subst (λ (b : Bool). StandsAs k b g.above g.owed g.retired g.fetch) e hart.stands))
  by_stop true e = (
    k.course.pc g.retired,
    subst (λ (l : List (Option Fetched)). AreCells k g.owed g.retired (k.course.pc g.retired) 0 l) (sym (stopped_stages k h n g hart e))
        (none_stand k g.owed g.retired (k.course.pc g.retired) 0 (suc (k.shape.stages - 1)) refl),
  )

-- what is known of what stands in the last of some stages
pub record IsLast (k : Setting) (owed : List Fetched) (retired : ℕ) (c : Fetched) : Type 0 where
  pub placed : c.place ≡ retired
  pub past : IsPast k owed c []

pub last_known : (k : Setting) (owed : List Fetched) (retired near stage : ℕ) (stages : List (Option Fetched)) (c : Fetched) → AreCells k owed retired near stage stages → last_in stages ≡ Some c →
    k.shape.ex + 1 < stage + length stages → IsLast k owed retired c
last_known k owed retired near stage [] c cells e lt = cc
last_known k owed retired near stage (None ∷ []) c cells e lt = cc
last_known k owed retired near stage (Some d ∷ []) c cells e lt =
    let placed = cells.0.placed in
    let same : d ≡ c = same_some d c e in
    subst (λ (x : Fetched). IsLast k owed retired x) same (record { placed = omega (arith, placed); past = cells.0.past (omega (arith, lt)) })
last_known k owed retired near stage (None ∷ t ∷ stages) c cells e lt = last_known k owed retired near (suc stage) (t ∷ stages) c cells e (omega (arith, lt))
last_known k owed retired near stage (Some d ∷ t ∷ stages) c cells e lt = last_known k owed retired d.at (suc stage) (t ∷ stages) c cells.1 e (omega (arith, lt))

pub leaving_known : (k : Setting) (h n : ℕ) (g : Hart) → IsHart k n g → (c : Fetched) → leaving k h n g ≡ Some c → IsLast k g.owed g.retired c
leaving_known k h n g hart c e =
    let row = row_known k h n g hart in
    let long = hart.long in
    let a = k.shape.lawful.memory_late in
    let b = k.shape.lawful.memory_inside in
    last_known k g.owed g.retired row.0 0 (stages_in k h n g) c row.1 e (omega (arith, long, a, b))

-- ---- all rows

pub next_is : (k : Setting) → IsSound k → (h n : ℕ) (g : Hart) → IsHart k n g → IsHart k (suc n) (next_hart k h n g)
unfolding next_hart
next_is k sound h n g hart =
    record {
      long = long_next k sound h n g hart (is_some (stopping k h n g));
      early = early_next k sound h n g hart (is_some (entering k h n g));
      apart =
          owing_apart k (kept_in k h n g) (leaving k h n g)
          (λ c u e unit. free_kept (has_unit k u) (λ (d : Fetched). not (is_number (serial_out k h n g) d.serial)) g.owed ((leaving_known k h n g hart c e).past.unowed u unit))
          (kept_apart k (λ (d : Fetched). not (is_number (serial_out k h n g) d.serial)) g.owed hart.apart);
      stands = stands_next k sound h n g hart g.stopped (is_some (stopping k h n g)) refl refl;
    }

first_is : (k : Setting) → IsSound k → IsHart k 0 (first_hart k)
first_is k sound =
    record {
      long = length-replicate (k.shape.stages - 1) None;
      early = omega arith;
      apart = tt;
      stands = none_stand k [] 0 0 1 (k.shape.stages - 1) (sym sound.begins);
    }

pub hart_is : (k : Setting) → IsSound k → (h n : ℕ) → IsHart k n (hart_at k h n)
unfolding hart_at
hart_is k sound h zero = first_is k sound
hart_is k sound h (suc n) = next_is k sound h n (hart_at k h n) (hart_is k sound h n)
