-- Past EX only what writes the pc late does anything, in the last stage, and then nothing stands between EX and it.
use Rattle.std.proofs.Common.{◌≡◌, ◌∙◌, refl, sym, ap, ℕ, zero, suc, ◌+◌, ◌-◌, ◌<◌, List, [], ◌∷◌, ◌++◌, Option, Some, None, Bool, false, arith}
use Rattle.std.specs.Prelude.{take, drop, reverse, option_map, if◌then◌else◌, ◌==◌, ◌&&◌, not}
use Rattle.std.specs.Option.{option_or}
use Rattle.rv_lawful.specs.Settings.{Setting}
use Rattle.rv_seq.specs.declared.commit.Stop.{Stop}
use Rattle.rv_harts.specs.declared.event.Event.{Event}
use Rattle.rv_harts.specs.declared.event.Event.TheVariants.{Stopped}
use Rattle.rv_harts.specs.declared.event.EventAt.{EventAt}
use Rattle.rv_harts.specs.Harts.{Fetched, Hart}
use Rattle.rv_harts.specs.Turns.{stop_due, reading_turn, executing_turn}
use Rattle.rv_harts.specs.Events.{standing, undone, successor, event_of, event_here, event_from}
use Rattle.rv_harts.specs.HartRows.{stages_in, kept_in, event_in}
use Rattle.rv_hart_runs.proofs.Free.{neither, same_some, Free}
use Rattle.rv_hart_runs.proofs.Known.{is_late, AreCells}
use Rattle.rv_hart_runs.proofs.Passing.{test_apart, turn_here, stop_here, leads_here, quiet_then}
use Rattle.rv_hart_runs.proofs.Going.{IsHart, row_known}

own_stage : (stage : ℕ) (o : Option Event) (e : EventAt) → option_map (event_here stage) o ≡ Some e → e.stage ≡ stage
own_stage stage None e is = cc
own_stage stage (Some event) e is = ap (λ (x : EventAt). x.stage) (sym (same_some (event_here stage event) e is))

module _ (k : Setting) (owed kept : List Fetched) where
  -- past EX what does not write the pc late does nothing
  unlate_quiet : (near stage : ℕ) (c : Fetched) (older : List (Option Fetched)) → k.shape.ex < stage → is_late k c ≡ false → event_of k owed kept near stage c older ≡ None
  unlate_quiet near stage c older past early = quiet_then k owed kept near stage c older unturned runs straight where
    no_ex : (stage == k.shape.ex) ≡ false
    no_ex = test_apart stage k.shape.ex (λ e. absurd (omega (arith, past, e)))

    no_rd : (stage == k.shape.rd) ≡ false
    no_rd = test_apart stage k.shape.rd (λ e. let first = k.shape.lawful.reads_first in absurd (omega (arith, past, first, e)))

    unturned : turn_here k owed kept stage c older ≡ None
    unturned =
        neither (stage == k.shape.rd) (stage == k.shape.ex) (reading_turn k c (reverse (standing older)) (owed ++ reverse (standing older)))
        (executing_turn k c (reverse (standing older)) (owed ++ reverse (standing older)) (kept ++ reverse (undone k (suc stage) older))) no_rd no_ex

    runs : stop_here k stage c ≡ None
    runs = ap (λ (b : Bool). if b then option_map (λ (stop : Stop). Stopped stop) (stop_due k c) else None) no_ex

    straight : leads_here k near stage c ≡ false
    straight = ap (λ (b : Bool). (if b then suc stage == k.shape.stages else stage == k.shape.ex) && not (successor k c == near)) early ∙ ap (λ (b : Bool). b && not (successor k c == near)) no_ex

  -- so where none of them does, nothing happens
  unlate_still : (near stage : ℕ) (stages : List (Option Fetched)) → k.shape.ex < stage → Free (is_late k) (standing stages) → event_from k owed kept near stage stages ≡ None
  unlate_still near stage [] past free = refl
  unlate_still near stage (None ∷ older) past free = unlate_still near (suc stage) older (omega (arith, past)) free
  unlate_still near stage (Some c ∷ older) past free =
      ap (λ (o : Option EventAt). option_or o (option_map (event_here stage) (event_of k owed kept near stage c older))) (unlate_still c.at (suc stage) older (omega (arith, past)) free.1)
      ∙ ap (λ (o : Option Event). option_map (event_here stage) o) (unlate_quiet near stage c older past free.0)

  module _ (retired : ℕ) (e : EventAt) where
    -- from a stage past EX on, up to that of the event
    between : (near by stage d : ℕ) (stages : List (Option Fetched)) → AreCells k owed retired near stage stages → k.shape.ex < stage → event_from k owed kept by stage stages ≡ Some e →
        e.stage ≡ stage + d → standing (take d stages) ≡ []
    between near by stage zero stages cells past is at = refl
    between near by stage (suc d) [] cells past is at = refl
    between near by stage (suc d) (None ∷ older) cells past is at = between near by (suc stage) d older cells (omega (arith, past)) is (omega (arith, at))
    between near by stage (suc d) (Some c ∷ older) cells past is at =
        let still = unlate_still c.at (suc stage) older (omega (arith, past)) (cells.0.past past).early in
        let own = event_of k owed kept by stage c older in
        let here = own_stage stage own e (sym (ap (λ (o : Option EventAt). option_or o (option_map (event_here stage) own)) still) ∙ is) in
        absurd (omega (arith, here, at))

    -- from any stage up to EX on
    behind : (near by stage m d : ℕ) (stages : List (Option Fetched)) → AreCells k owed retired near stage stages → stage + m ≡ suc k.shape.ex → e.stage ≡ suc k.shape.ex + d →
        event_from k owed kept by stage stages ≡ Some e → standing (take d (drop m stages)) ≡ []
    behind near by stage zero d stages cells ex at is = between near by stage d stages cells (omega (arith, ex)) is (omega (arith, ex, at))
    behind near by stage (suc m) d [] cells ex at is = cc
    behind near by stage (suc m) d (None ∷ older) cells ex at is = behind near by (suc stage) m d older cells (omega (arith, ex)) at is
    behind near by stage (suc m) d (Some c ∷ older) cells ex at is =
        by_older (event_from k owed kept c.at (suc stage) older) refl is (λ there. behind c.at c.at (suc stage) m d older cells.1 (omega (arith, ex)) at there) where
          by_older : (o : Option EventAt) → event_from k owed kept c.at (suc stage) older ≡ o → option_or o (option_map (event_here stage) (event_of k owed kept by stage c older)) ≡ Some e →
              (event_from k owed kept c.at (suc stage) older ≡ Some e → standing (take d (drop m older)) ≡ []) → standing (take d (drop m older)) ≡ []
          by_older None none own rest = let here = own_stage stage (event_of k owed kept by stage c older) e own in absurd (omega (arith, here, ex, at))
          by_older (Some found) there same rest = rest (there ∙ same)

pub settled_in : (k : Setting) (h n : ℕ) (g : Hart) → IsHart k n g → (e : EventAt) → event_in k h n g ≡ Some e → k.shape.ex < e.stage →
    standing (take (e.stage - suc k.shape.ex) (drop (suc k.shape.ex) (stages_in k h n g))) ≡ []
settled_in k h n g hart e is past =
    let row = row_known k h n g hart in
    behind k g.owed (kept_in k h n g) g.retired e row.0 g.fetch 0 (suc k.shape.ex) (e.stage - suc k.shape.ex) (stages_in k h n g) row.1 (omega arith) (omega (arith, past)) is
