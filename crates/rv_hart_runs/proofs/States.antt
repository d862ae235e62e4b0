-- The state of a hart with its outstanding writes applied is that of the run one instruction at a time, at the count of its retirements.
use Rattle.std.proofs.Common.{◌≡◌, ◌∙◌, refl, sym, ap, subst, ℕ, zero, suc, ◌+◌, ◌<◌, List, [], ◌∷◌, ◌++◌, Option, Some, None, arith}
use Rattle.std.specs.Prelude.{is_some, if◌then◌else◌, option_map}
use Rattle.ix_extension.specs.Extensions.{ExtensionTree, view_extension}
use Rattle.ix_plan.specs.declared.design.Design.{Design}
use Rattle.ix_standing.specs.Standing.{Stands}
use Rattle.rv_asks.specs.declared.asks.Asks.{Asks}
use Rattle.rv_holds.specs.Tokens.{commit_in}
use Rattle.rv_lawful.specs.Outstanding.{after_retired, after_written, after_spawned}
use Rattle.rv_lawful.specs.Settings.{Setting}
use Rattle.rv_lawful.specs.Sight.{asked, KeepsLaw}
use Rattle.rv_sight.specs.InUnits.{AreInUnits}
use Rattle.rv_sight.specs.Written.{WrittenLaw}
use Rattle.rv_tried.specs.Whole.{WholeLaw}
use Rattle.rv_seq.specs.declared.answer.StepAnswer.{StepAnswer}
use Rattle.rv_seq.specs.declared.answer.StepAnswer.TheVariants.{Done}
use Rattle.rv_seq.specs.declared.arch.Arch.{Arch}
use Rattle.rv_seq.specs.declared.commit.Commit.{Commit}
use Rattle.rv_seq.specs.Commits.{applied}
use Rattle.rv_seq.specs.Interrupts.{is_return, resumed}
use Rattle.rv_seq.specs.Runs.{run}
use Rattle.rv_seq.specs.Runs.{run_with}
use Rattle.rv_seq.specs.Steps.{after}
use Rattle.rv_tried.specs.Parts.{native, shown, spawned, paid}
use Rattle.rv_harts.specs.BarrelLaws.{StateLaw}
use Rattle.rv_harts.specs.BarrelRows.{hart_setting}
use Rattle.rv_harts.specs.Harts.{Fetched, Hart}
use Rattle.rv_harts.specs.HartRows.{stages_in, serial_out, kept_in, written_by, last_in, leaving, owing, retired_of, hart_row, next_hart, hart_at}
use Rattle.rv_harts.specs.HartStates.{retirements, architecture, after_owed, applied_state}
use Rattle.rv_hart_runs.specs.HartRuns.{ArePlaced, IsGoingOn, KnownHart, KnownLaw, StatesLaw}
use Rattle.rv_hart_runs.proofs.StatesParts.{native_shown, shown_word, whole_applied, quiet_applied, paid_resumed}
use Rattle.rv_hart_runs.proofs.StatesTargets.{NoTouched, no_unit}
use Rattle.rv_hart_runs.proofs.StatesSteps.{AnswerLaw, IsKnown, step_own, step_whole}
use Rattle.rv_hart_runs.proofs.Free.{same_some}
use Rattle.rv_hart_runs.proofs.StatesLists.{append_none}
use Rattle.rv_hart_runs.proofs.StatesOwed.{spawn, owed_one_more, owed_resumed, written_now, owed_applied}
use Rattle.rv_hart_runs.proofs.StatesKept.{IsOrdered, leaves_behind}
use Rattle.rv_hart_runs.proofs.StatesOrdered.{reads_inside, leaves_going, ordered}

-- the last of some cells is placed where as many have retired
placed_last : (retired : ℕ) (stages : List (Option Fetched)) (c : Fetched) → ArePlaced retired stages → last_in stages ≡ Some c → c.place ≡ retired
placed_last retired [] c p e = cc
placed_last retired (None ∷ []) c p e = cc
placed_last retired (Some d ∷ []) c p e =
    let same : d ≡ c = same_some d c e in
    let z : retired + 0 ≡ retired = omega arith in
    ap (λ (y : Fetched). y.place) (sym same) ∙ p.0 ∙ z
placed_last retired (None ∷ t ∷ stages) c p e = placed_last retired (t ∷ stages) c p e
placed_last retired (Some d ∷ t ∷ stages) c p e = placed_last retired (t ∷ stages) c p.1 e

module _ (d : Design) (image : List ℕ) (known : IsKnown d image) where
  abbrev x : ExtensionTree
  x = view_extension d.extension

  abbrev k : Setting
  k = hart_setting d image

  abbrev state : ℕ → Arch
  state p = run x image p

  next_state : (p : ℕ) (c : Commit) → k.course.answer p ≡ Done c → state (suc p) ≡ resumed (is_return x c.word) (applied c (state p))
  unfolding run_with
  next_state p c done = ap (λ (a : StepAnswer). after x (state p) a) done

  module _ (h n : ℕ) (hart : KnownHart k h n) (kept : IsOrdered k (hart_at k h n)) (before : after_owed k (hart_at k h n).owed (architecture x k h n) ≡ state (retirements k h n)) where
    abbrev g : Hart
    g = hart_at k h n

    abbrev p : ℕ
    p = retirements k h n

    leaves_place : (c : Fetched) → leaving k h n g ≡ Some c → c.place ≡ p
    leaves_place c e = placed_last g.retired (stages_in k h n g) c hart.placed e ∙ hart.counted

    -- what was outstanding, behind a row that retires what it does
    written : (s : Arch) → after_owed k (kept_in k h n g) (after_written (written_by k g.owed (serial_out k h n g)) s) ≡ after_owed k g.owed s
    written s = written_now d image known g.owed kept.apart kept.going (serial_out k h n g) s

    abbrev Behind : Option Fetched → Type 0
    Behind l =
        after_owed k (kept_in k h n g ++ owing k l) (after_written (written_by k g.owed (serial_out k h n g)) (after_retired x k p (retired_of k l) (architecture x k h n)))
        ≡ state (if is_some (retired_of k l) then suc p else p)

    -- where a cell retires
    module _ (c : Fetched) (e : leaving k h n g ≡ Some c) where
      going : IsGoingOn k c
      going = leaves_going d image h n hart kept c e

      abbrev commit : Commit
      commit = going.0

      abbrev a : Asks
      a = asked d commit.word

      done : k.course.answer p ≡ Done commit
      done = ap (λ (q : ℕ). k.course.answer q) (sym (leaves_place c e)) ∙ going.1

      abbrev own_part : Commit
      own_part = native a (k.course.blocks p) commit

      retired_is : retired_of k (Some c) ≡ Some (c.serial, shown a commit)
      retired_is = ap (λ (r : StepAnswer). option_map (λ (b : Commit). (c.serial, shown (k.asks b.word) b)) (commit_in r)) going.1

      -- the state behind its own writes
      after_own : (s : Arch) → after_retired x k p (Some (c.serial, shown a commit)) s ≡ resumed (is_return x commit.word) (applied own_part s)
      after_own s =
          ap (λ (w : ℕ). resumed (is_return x w) (applied (native (k.asks w) (k.course.blocks p) (shown a commit)) s)) (shown_word a commit)
          ∙ ap (λ (b : Commit). resumed (is_return x commit.word) (applied b s)) (native_shown a (k.course.blocks p) commit)

      outstanding : after_owed k (kept_in k h n g) (after_written (written_by k g.owed (serial_out k h n g)) (after_retired x k p (Some (c.serial, shown a commit)) (architecture x k h n))) ≡ resumed (is_return x commit.word) (applied own_part (state p))
      outstanding =
          written (after_retired x k p (Some (c.serial, shown a commit)) (architecture x k h n))
          ∙ ap (λ s. after_owed k g.owed s) (after_own (architecture x k h n))
          ∙ owed_resumed k (is_return x commit.word) g.owed (applied own_part (architecture x k h n))
          ∙ ap (λ s. resumed (is_return x commit.word) s)
          (owed_applied d image known commit.word own_part (step_own d image known p commit done (k.course.blocks p)) g.owed kept.going
          (λ o is. subst (λ (w : ℕ). NoTouched (asked d w) (asked d o.word)) (sym going.2) ((leaves_behind k h n g kept (reads_inside d image) (leaves_going d image h n hart kept) c o e is).free)) (architecture x k h n)
          ∙ ap (λ s. applied own_part s) before)

      by_unit : (u : Option ℕ) → (asked d c.word).unit ≡ u → after_owed k (kept_in k h n g ++ (if is_some u then c ∷ [] else [])) (after_written (written_by k g.owed (serial_out k h n g)) (after_retired x k p (Some (c.serial, shown a commit)) (architecture x k h n))) ≡ state (suc p)
      by_unit None q =
          ap (λ (l : List Fetched). after_owed k l (after_written (written_by k g.owed (serial_out k h n g)) (after_retired x k p (Some (c.serial, shown a commit)) (architecture x k h n)))) (append_none (kept_in k h n g))
          ∙ outstanding
          ∙ ap (λ s. resumed (is_return x commit.word) s) (quiet_applied a (k.course.blocks p) commit (state p) (no_unit d known.units commit.word (ap (λ (w : ℕ). (asked d w).unit) going.2 ∙ q)))
          ∙ sym (next_state p commit done)
      by_unit (Some u) q =
          owed_one_more k c (kept_in k h n g) (after_written (written_by k g.owed (serial_out k h n g)) (after_retired x k p (Some (c.serial, shown a commit)) (architecture x k h n)))
          ∙ ap (λ s. spawn k c s) outstanding
          ∙ spawn_now (resumed (is_return x commit.word) (applied own_part (state p)))
          ∙ paid_resumed (is_return x commit.word) (spawned a (k.course.own p) commit) (applied own_part (state p))
          ∙ ap (λ s. resumed (is_return x commit.word) s) (whole_applied a (k.course.own p) (k.course.blocks p) commit (state p) (step_whole d image known p commit done))
          ∙ sym (next_state p commit done) where
            spawn_now : (s : Arch) → spawn k c s ≡ paid (spawned a (k.course.own p) commit) s
            spawn_now s = ap (λ (r : StepAnswer). after_spawned k c.place r s) going.1 ∙ ap (λ (q : ℕ). paid (spawned a (k.course.own q) commit) s) (leaves_place c e)

      retires : Behind (Some c)
      retires =
          subst (λ (r : Option (ℕ × Commit)). after_owed k (kept_in k h n g ++ owing k (Some c)) (after_written (written_by k g.owed (serial_out k h n g)) (after_retired x k p r (architecture x k h n))) ≡ state (if is_some r then suc p else p))
          (sym retired_is) (by_unit (asked d c.word).unit refl)

    by_leaving : (l : Option Fetched) → leaving k h n g ≡ l → Behind l
    by_leaving None e =
        ap (λ (l : List Fetched). after_owed k l (after_written (written_by k g.owed (serial_out k h n g)) (architecture x k h n))) (append_none (kept_in k h n g))
        ∙ written (architecture x k h n)
        ∙ before
    by_leaving (Some c) e = retires c e

    state_next : after_owed k (hart_at k h (suc n)).owed (architecture x k h (suc n)) ≡ state (retirements k h (suc n))
    unfolding hart_at next_hart hart_row architecture retirements
    state_next = by_leaving (leaving k h n g) refl

  -- the state before each row
  first_state : (h : ℕ) → applied_state x k h 0 ≡ state (retirements k h 0)
  unfolding hart_at architecture retirements run_with
  first_state h = refl

  of_run : (h : ℕ) → ((n : ℕ) → KnownHart k h n) → (n : ℕ) → applied_state x k h n ≡ state (retirements k h n)
  of_run h hart zero = first_state h
  of_run h hart (suc n) = state_next h n (hart n) (ordered d image h hart n) (of_run h hart n)

-- for a design that stands and an image of words
pub states : (d : Design) (image : List ℕ) → IsKnown d image → ((h n : ℕ) → h < 2 → KnownHart (hart_setting d image) h n) → StateLaw d image
states d image known hart h n lt = of_run d image known h (λ m. hart h m lt) n

-- from the laws of what a word sees and of what it comes to
pub states_law : ((d : Design) → Stands d → KeepsLaw d) → ((d : Design) → Stands d → WrittenLaw d) → ((d : Design) → Stands d → AreInUnits d) → WholeLaw → AnswerLaw → KnownLaw → StatesLaw
states_law keeps written units whole answers hart d image stands words =
    states d image
    (record { stands = stands; words = words; keeps = keeps d stands; written = written d stands; units = units d stands; whole = whole; answers = answers })
    (λ h n lt. hart d image h n stands lt)
