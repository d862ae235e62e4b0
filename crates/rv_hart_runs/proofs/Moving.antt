-- What is known of cells is known of them a row later, where none does anything that ends younger ones.
use Rattle.std.proofs.Common.{◌≡◌, ◌∙◌, refl, sym, ap, ℕ, zero, suc, ◌+◌, ◌<◌, List, [], ◌∷◌, ◌++◌, length, Option, Some, None, Bool, true, false, arith, inl, inr}
use Rattle.std.specs.Prelude.{take, option_map, if◌then◌else◌, ◌==◌, ◌&&◌, not}
use Rattle.std.proofs.lemmas.Bool.{cases_lt}
use Rattle.rv_lawful.specs.Settings.{Setting}
use Rattle.rv_harts.specs.Harts.{Fetched}
use Rattle.rv_harts.specs.Events.{standing, settles, successor, event_of, event_here, event_from}
use Rattle.rv_harts.specs.HartRows.{last_in, owing}
use Rattle.rv_hart_runs.proofs.Free.{or_left, or_right, unmapped, Free, free_both, free_taken, free_last, free_owing}
use Rattle.rv_hart_runs.proofs.Known.{IsSound, is_late, has_unit, IsPast, IsCell, AreCells, retired_after}
use Rattle.rv_hart_runs.proofs.Passing.{test_same, same_number, turn_here, stop_here, leads_here, IsQuiet, quiet_from, passes}

-- what has settled, and flushes nothing, leads to the next younger one
settled_near : (settled : Bool) (to near : ℕ) → settled ≡ true → (settled && not (to == near)) ≡ false → near ≡ to
settled_near false to near s h = cc
settled_near true to near s h = by_test (to == near) refl h where
  by_test : (b : Bool) → (to == near) ≡ b → not b ≡ false → near ≡ to
  by_test true e q = sym (same_number to near e)
  by_test false e q = cc

settles_at : (stage stages ex : ℕ) (late : Bool) → late ≡ false → stage ≡ ex → (if late then suc stage == stages else stage == ex) ≡ true
settles_at stage stages ex true n e = cc
settles_at stage stages ex false n e = test_same stage ex e

settles_last : (stage stages ex : ℕ) (late : Bool) → late ≡ true → suc stage ≡ stages → (if late then suc stage == stages else stage == ex) ≡ true
settles_last stage stages ex true n e = test_same (suc stage) stages e
settles_last stage stages ex false n e = cc

-- what stands is counted with what retires
counted : (retired n : ℕ) (stages : List (Option Fetched)) → length stages ≡ suc n → retired + length (standing stages) ≡ retired_after retired (last_in stages) + length (standing (take n stages))
counted retired n [] long = absurd (omega (arith, long))
counted retired zero (s ∷ t ∷ stages) long = absurd (omega (arith, long))
counted retired (suc n) (s ∷ []) long = absurd (omega (arith, long))
counted retired zero (None ∷ []) long = refl
counted retired zero (Some c ∷ []) long = omega arith
counted retired (suc n) (None ∷ t ∷ stages) long = counted retired n (t ∷ stages) (omega (arith, long))
counted retired (suc n) (Some c ∷ t ∷ stages) long = let rest = counted retired n (t ∷ stages) (omega (arith, long)) in omega (arith, rest)

-- what is owed is kept, and what retires is owed
module _ (k : Setting) (sound : IsSound k) (owed kept : List Fetched) (retired : ℕ) (keeps : (f : Fetched → Bool) → Free f owed → Free f kept) where
  -- the cell in the last stage leads to the next younger one
  last_leads : (near stage : ℕ) (c : Fetched) → suc stage ≡ k.shape.stages → IsCell k owed retired near stage c [] → event_of k owed kept near stage c [] ≡ None → near ≡ k.course.pc (suc retired)
  last_leads near stage c long cell none = by_late (is_late k c) refl ∙ ap (λ p. k.course.pc p) (let placed = cell.placed in omega (arith, placed)) where
    past : k.shape.ex < stage
    past = let a = k.shape.lawful.memory_late in let b = k.shape.lawful.memory_inside in omega (arith, a, b, long)

    by_late : (b : Bool) → is_late k c ≡ b → near ≡ successor k c
    by_late false e = cell.leads past e
    by_late true e = settled_near (settles k stage c) (successor k c) near (settles_last stage k.shape.stages k.shape.ex (is_late k c) e long) (quiet_from k owed kept near stage c [] none).straight

  -- a cell past EX is known so a row later
  later_past : (n : ℕ) (c : Fetched) (stages : List (Option Fetched)) → IsPast k owed c (standing stages) → IsPast k (kept ++ owing k (last_in stages)) c (standing (take n stages))
  later_past n c stages h =
      record {
        early = free_taken (is_late k) n stages h.early;
        going = h.going;
        unowed = λ u e.
            free_both (has_unit k u) kept (owing k (last_in stages)) (keeps (has_unit k u) (h.unowed u e))
            (free_owing k (has_unit k u) (last_in stages) (λ d last. free_last (has_unit k u) stages d (h.alone u e) last));
        alone = λ u e. free_taken (has_unit k u) n stages (h.alone u e);
      }

  -- so is each cell
  later_cell : (near stage n : ℕ) (c : Fetched) (older : List (Option Fetched)) → length older ≡ suc n → IsCell k owed retired near stage c (standing older) → AreCells k owed retired c.at (suc stage) older →
      event_of k owed kept near stage c older ≡ None → IsCell k (kept ++ owing k (last_in older)) (retired_after retired (last_in older)) near (suc stage) c (standing (take n older))
  later_cell near stage n c older long cell cells none =
      record {
        placed = cell.placed ∙ counted retired n older long;
        worded = cell.worded;
        past = λ lt. later_past n c older (elim (cases_lt k.shape.ex stage) [
          | inl less ↦ cell.past less
          | inr not ↦ passes k sound owed kept retired near stage c older (omega (arith, lt, not)) cell cells quiet.unturned quiet.runs
        ]);
        leads = λ lt early. elim (cases_lt k.shape.ex stage) [
          | inl less ↦ cell.leads less early
          | inr not ↦ settled_near (settles k stage c) (successor k c) near (settles_at stage k.shape.stages k.shape.ex (is_late k c) early (omega (arith, lt, not))) quiet.straight
        ];
      } where
        quiet : IsQuiet (turn_here k owed kept stage c older) (stop_here k stage c) (leads_here k near stage c)
        quiet = quiet_from k owed kept near stage c older none

  -- and all of them
  pub moved : (near stage n : ℕ) (stages : List (Option Fetched)) → length stages ≡ suc n → stage + length stages ≡ k.shape.stages → AreCells k owed retired near stage stages →
      event_from k owed kept near stage stages ≡ None → AreCells k (kept ++ owing k (last_in stages)) (retired_after retired (last_in stages)) near (suc stage) (take n stages)
  moved near stage n [] one long cells none = absurd (omega (arith, one))
  moved near stage zero (s ∷ t ∷ stages) one long cells none = absurd (omega (arith, one))
  moved near stage (suc n) (s ∷ []) one long cells none = absurd (omega (arith, one))
  moved near stage zero (None ∷ []) one long cells none = cells
  moved near stage zero (Some c ∷ []) one long cells none =
      last_leads near stage c (omega (arith, long)) cells.0 (unmapped (event_here stage) (event_of k owed kept near stage c []) none)
  moved near stage (suc n) (None ∷ t ∷ stages) one long cells none = moved near (suc stage) n (t ∷ stages) (omega (arith, one)) (omega (arith, long)) cells none
  moved near stage (suc n) (Some c ∷ t ∷ stages) one long cells none =
      let above = or_left (event_from k owed kept c.at (suc stage) (t ∷ stages)) (option_map (event_here stage) (event_of k owed kept near stage c (t ∷ stages))) none in
      let own = unmapped (event_here stage) (event_of k owed kept near stage c (t ∷ stages))
      (or_right (event_from k owed kept c.at (suc stage) (t ∷ stages)) (option_map (event_here stage) (event_of k owed kept near stage c (t ∷ stages))) none) in
      (later_cell near stage n c (t ∷ stages) (omega (arith, one)) cells.0 cells.1 own, moved c.at (suc stage) n (t ∷ stages) (omega (arith, one)) (omega (arith, long)) cells.1 above)
