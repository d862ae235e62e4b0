-- Outstanding writes of a hart: what a unit writes in a row may be written then or in the order of retirement, and what retires may be written before or after them.
use Rattle.std.proofs.Common.{◌≡◌, ◌∙◌, refl, sym, ap, subst, ℕ, ◌<◌, List, [], ◌∷◌, ◌++◌, Option, Some, None, Bool, true, false, inl, inr, arith}
use Rattle.std.specs.Prelude.{find, filter, not, ◌==◌, if◌then◌else◌, option_map}
use Rattle.ix_plan.specs.declared.design.Design.{Design}
use Rattle.rv_holds.specs.Tokens.{commit_in}
use Rattle.rv_lawful.specs.Outstanding.{after_spawned, after_written}
use Rattle.rv_lawful.specs.Settings.{Setting}
use Rattle.rv_lawful.specs.Sight.{asked}
use Rattle.rv_seq.specs.declared.answer.StepAnswer.{StepAnswer}
use Rattle.rv_seq.specs.declared.answer.StepAnswer.TheVariants.{Done, Stopped}
use Rattle.rv_seq.specs.declared.arch.Arch.{Arch}
use Rattle.rv_seq.specs.declared.commit.Commit.{Commit}
use Rattle.rv_seq.specs.Commits.{applied}
use Rattle.rv_seq.specs.Interrupts.{resumed}
use Rattle.rv_tried.specs.declared.parts.Spawned.{Spawned}
use Rattle.rv_tried.specs.Parts.{spawned, paid}
use Rattle.rv_unit.specs.Entries.{is_number}
use Rattle.rv_harts.specs.BarrelRows.{hart_setting}
use Rattle.rv_harts.specs.Harts.{Fetched}
use Rattle.rv_harts.specs.HartRows.{written_as, writes_of, written_of, written_by}
use Rattle.rv_harts.specs.HartStates.{after_owed}
use Rattle.rv_hart_runs.specs.HartRuns.{IsGoingOn}
use Rattle.rv_hart_runs.proofs.StatesSwaps.{paid_swap, applied_swap}
use Rattle.rv_hart_runs.proofs.StatesParts.{IsSparse, IsOwnWrite, paid_resumed}
use Rattle.rv_hart_runs.proofs.StatesTargets.{NoTouched, spawns_apart, own_spawn_apart}
use Rattle.rv_hart_runs.proofs.StatesSteps.{IsKnown, step_sparse}
use Rattle.rv_hart_runs.proofs.Passing.{same_number}
use Rattle.rv_hart_runs.proofs.StatesLists.{other_number, turned_round, In, in_filter, in_either, found_in, all_kept}
use Rattle.rv_hart_runs.proofs.StatesEvents.{IsFreeOf}

-- the writes of the `spawn` body of the step at the place of a cell
abbrev pub spawn : Setting → Fetched → Arch → Arch
spawn k c s = after_spawned k c.place (k.course.answer c.place) s

-- o is older than p, which touches no spawn target of o
pub record IsBefore (k : Setting) (o p : Fetched) : Type 0 where
  pub older : o.serial < p.serial
  pub free : IsFreeOf k p o

-- so is each of these before those behind it
abbrev pub AreInTurn : Setting → List Fetched → Type 0
AreInTurn k [] = Unit {0}
AreInTurn k (o ∷ later) = ((p : Fetched) → In p later → IsBefore k o p) × AreInTurn k later

pub apart_filtered : (k : Setting) (f : Fetched → Bool) (owed : List Fetched) → AreInTurn k owed → AreInTurn k (filter f owed)
apart_filtered k f [] h = tt
apart_filtered k f (o ∷ later) h = by_case (f o) (apart_filtered k f later h.1) where
  by_case : (b : Bool) → AreInTurn k (filter f later) → AreInTurn k (if b then o ∷ filter f later else filter f later)
  by_case true rest = (λ p is. h.0 p (in_filter f p later is), rest)
  by_case false rest = rest

pub apart_one_more : (k : Setting) (c : Fetched) (owed : List Fetched) → AreInTurn k owed → ((o : Fetched) → In o owed → IsBefore k o c) → AreInTurn k (owed ++ c ∷ [])
apart_one_more k c [] h new = (λ p is. absurd is, tt)
apart_one_more k c (o ∷ later) h new = (
  λ p is. elim (in_either p later (c ∷ []) is) [
    | inl a ↦ h.0 p a
    | inr b ↦ elim b [ inl e ↦ subst (λ (y : Fetched). IsBefore k o y) (sym e) (new o (inl refl)) | inr none ↦ absurd none ]
  ],
  apart_one_more k c later h.1 (λ q is. new q (inr is)),
)

-- ---- lists

pub owed_one_more : (k : Setting) (c : Fetched) (owed : List Fetched) (s : Arch) → after_owed k (owed ++ c ∷ []) s ≡ spawn k c (after_owed k owed s)
owed_one_more k c [] s = refl
owed_one_more k c (o ∷ owed) s = owed_one_more k c owed (spawn k o s)

spawned_resumed : (k : Setting) (p : ℕ) (a : StepAnswer) (returns : Bool) (s : Arch) → after_spawned k p a (resumed returns s) ≡ resumed returns (after_spawned k p a s)
spawned_resumed k p (Done c) returns s = paid_resumed returns (spawned (k.asks c.word) (k.course.own p) c) s
spawned_resumed k p (Stopped stop) returns s = refl

pub owed_resumed : (k : Setting) (returns : Bool) (owed : List Fetched) (s : Arch) → after_owed k owed (resumed returns s) ≡ resumed returns (after_owed k owed s)
owed_resumed k returns [] s = refl
owed_resumed k returns (o ∷ owed) s = ap (λ z. after_owed k owed z) (spawned_resumed k o.place (k.course.answer o.place) returns s) ∙ owed_resumed k returns owed (spawn k o s)

module _ (d : Design) (image : List ℕ) (known : IsKnown d image) where
  abbrev k : Setting
  k = hart_setting d image

  -- what the step of a cell spawns
  abbrev spawn_of : (c : Fetched) → IsGoingOn k c → Spawned
  spawn_of c going = spawned (k.asks going.0.word) (k.course.own c.place) going.0

  spawn_is : (c : Fetched) (going : IsGoingOn k c) (s : Arch) → spawn k c s ≡ paid (spawn_of c going) s
  spawn_is c going s = ap (λ (a : StepAnswer). after_spawned k c.place a s) going.1

  spawn_sparse : (c : Fetched) (going : IsGoingOn k c) → IsSparse (asked d c.word) (spawn_of c going)
  spawn_sparse c going = subst (λ (w : ℕ). IsSparse (asked d w) (spawn_of c going)) going.2 (step_sparse d image known c.place going.0 going.1 (k.course.own c.place))

  -- writes of two cells in either order
  spawn_swap : (o p : Fetched) → IsGoingOn k o → IsGoingOn k p → IsFreeOf k p o → (s : Arch) → spawn k o (spawn k p s) ≡ spawn k p (spawn k o s)
  spawn_swap o p og pg free s =
      spawn_is o og (spawn k p s)
      ∙ ap (λ z. paid (spawn_of o og) z) (spawn_is p pg s)
      ∙ paid_swap (spawn_of p pg) (spawn_of o og) s (spawns_apart d known.units p.word o.word (spawn_of p pg) (spawn_of o og) free (spawn_sparse p pg) (spawn_sparse o og))
      ∙ ap (λ z. paid (spawn_of p pg) z) (sym (spawn_is o og s))
      ∙ sym (spawn_is p pg (spawn k o s))

  -- what a unit writes of a cell is that
  written_is : (c : Fetched) → IsGoingOn k c → (s : Arch) → after_written (writes_of k c) s ≡ spawn k c s
  written_is c going s =
      ap (λ (a : StepAnswer). after_written (option_map (λ (e : Commit). written_as c.serial (spawned (k.asks e.word) (k.course.own c.place) e)) (commit_in a)) s) going.1
      ∙ sym (spawn_is c going s)

  abbrev pub AreGoing : List Fetched → Type 0
  AreGoing owed = (c : Fetched) → In c owed → IsGoingOn k c

  -- an older cell's writes, and what a unit writes of a younger one
  written_swap : (o : Fetched) → IsGoingOn k o → (w : Option Fetched) → ((p : Fetched) → w ≡ Some p → IsGoingOn k p × IsFreeOf k p o) → (s : Arch) → spawn k o (after_written (written_of k w) s) ≡ after_written (written_of k w) (spawn k o s)
  written_swap o og None h s = refl
  written_swap o og (Some p) h s =
      let x = h p refl in
      ap (λ z. spawn k o z) (written_is p x.0 s) ∙ spawn_swap o p og x.0 x.1 s ∙ sym (written_is p x.0 (spawn k o s))

  abbrev keeps : ℕ → Fetched → Bool
  keeps j c = not (is_number (Some j) c.serial)

  abbrev names : ℕ → Fetched → Bool
  names j c = c.serial == j

  written_serial : (owed : List Fetched) → AreInTurn k owed → AreGoing owed → (j : ℕ) (s : Arch) → after_owed k (filter (keeps j) owed) (after_written (written_of k (find (names j) owed)) s) ≡ after_owed k owed s
  written_serial [] apart going j s = refl
  written_serial (o ∷ later) apart going j s = by_case (o.serial == j) refl (written_serial later apart.1 (λ p is. going p (inr is)) j (spawn k o s)) where
    og : IsGoingOn k o
    og = going o (inl refl)

    here : (b : Bool) → (o.serial == j) ≡ b → keeps j o ≡ not b
    here b e = ap (λ (z : Bool). not z) (turned_round j o.serial ∙ e)

    others : o.serial ≡ j → (p : Fetched) → In p later → keeps j p ≡ true
    others e p is = let lt = (apart.0 p is).older in ap (λ (z : Bool). not z) (other_number j p.serial (omega (arith, e, lt)))

    found : (p : Fetched) → find (names j) later ≡ Some p → IsGoingOn k p × IsFreeOf k p o
    found p e = let is = found_in (names j) p later e in (going p (inr is), (apart.0 p is).free)

    by_case : (b : Bool) → (o.serial == j) ≡ b → after_owed k (filter (keeps j) later) (after_written (written_of k (find (names j) later)) (spawn k o s)) ≡ after_owed k later (spawn k o s) →
        after_owed k (filter (keeps j) (o ∷ later)) (after_written (written_of k (find (names j) (o ∷ later))) s) ≡ after_owed k later (spawn k o s)
    by_case true e rest =
        ap (λ (b : Bool). after_owed k (if b then o ∷ filter (keeps j) later else filter (keeps j) later) (after_written (written_of k (find (names j) (o ∷ later))) s)) (here true e)
        ∙ ap (λ (b : Bool). after_owed k (filter (keeps j) later) (after_written (written_of k (if b then Some o else find (names j) later)) s)) e
        ∙ ap (λ (l : List Fetched). after_owed k l (after_written (writes_of k o) s)) (all_kept (keeps j) later (others (same_number o.serial j e)))
        ∙ ap (λ z. after_owed k later z) (written_is o og s)
    by_case false e rest =
        ap (λ (b : Bool). after_owed k (if b then o ∷ filter (keeps j) later else filter (keeps j) later) (after_written (written_of k (find (names j) (o ∷ later))) s)) (here false e)
        ∙ ap (λ (b : Bool). after_owed k (o ∷ filter (keeps j) later) (after_written (written_of k (if b then Some o else find (names j) later)) s)) e
        ∙ ap (λ z. after_owed k (filter (keeps j) later) z) (written_swap o og (find (names j) later) found s)
        ∙ rest

  -- what a unit writes in a row, and what is not written then
  pub written_now : (owed : List Fetched) → AreInTurn k owed → AreGoing owed → (t : Option ℕ) (s : Arch) → after_owed k (filter (λ (c : Fetched). not (is_number t c.serial)) owed) (after_written (written_by k owed t) s) ≡ after_owed k owed s
  written_now owed apart going None s = ap (λ (l : List Fetched). after_owed k l s) (all_kept (λ (c : Fetched). not (is_number None c.serial)) owed (λ c is. refl))
  written_now owed apart going (Some j) s = written_serial owed apart going j s

  -- what is written at retirement by an instruction that touches no outstanding register
  pub owed_applied : (word : ℕ) (c : Commit) → IsOwnWrite (asked d word) c → (owed : List Fetched) → AreGoing owed → ((o : Fetched) → In o owed → NoTouched (asked d word) (asked d o.word)) → (s : Arch) →
      after_owed k owed (applied c s) ≡ applied c (after_owed k owed s)
  owed_applied word c own [] going free s = refl
  owed_applied word c own (o ∷ later) going free s =
      let og = going o (inl refl) in
      ap (λ z. after_owed k later z)
      (spawn_is o og (applied c s)
      ∙ applied_swap c (spawn_of o og) s (own_spawn_apart d known.units word o.word c (spawn_of o og) (free o (inl refl)) own (spawn_sparse o og))
      ∙ ap (λ z. applied c z) (sym (spawn_is o og s)))
      ∙ owed_applied word c own later (λ p is. going p (inr is)) (λ p is. free p (inr is)) (spawn k o s)
