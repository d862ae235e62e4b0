-- The laws: what is known of each hart of a design that stands, and that what it retires is a prefix of its run.
use Rattle.std.proofs.Common.{◌≡◌, ◌∙◌, refl, sym, ap, subst, ℕ, zero, suc, ◌+◌, ◌<◌, ◌≤◌, List, [], ◌∷◌, length, Option, Some, None, Bool, true, arith}
use Rattle.std.specs.Prelude.{is_some, slice_get, option_map, if◌then◌else◌}
use Rattle.rv_lawful.specs.Headline.{IsRecord}
use Rattle.rv_lawful.specs.Settings.{Setting}
use Rattle.rv_holds.specs.Tokens.{commit_in}
use Rattle.rv_seq.specs.declared.answer.StepAnswer.{StepAnswer}
use Rattle.rv_seq.specs.declared.answer.StepAnswer.TheVariants.{Done, Stopped}
use Rattle.rv_seq.specs.declared.commit.Commit.{Commit}
use Rattle.rv_tried.specs.Parts.{shown}
use Rattle.rv_harts.specs.declared.row.Turn.TheVariants.{Unit as InUnit}
use Rattle.rv_harts.specs.Harts.{Fetched}
use Rattle.rv_harts.specs.HartRows.{stages_in, leaving, retired_of, owed_after, next_hart, hart_at, hart_row}
use Rattle.rv_harts.specs.HartStates.{part_at, retirements}
use Rattle.rv_harts.specs.Turns.{unit_of}
use Rattle.rv_hart_runs.specs.HartRuns.{ArePlaced, IsGoingOn, KnownHart}
use Rattle.rv_hart_runs.proofs.Free.{same_some, Free, free_none}
use Rattle.rv_hart_runs.proofs.Known.{IsSound, has_unit, AreCells}
use Rattle.rv_hart_runs.proofs.Apart.{few}
use Rattle.rv_hart_runs.proofs.Settled.{settled_in}
use Rattle.rv_hart_runs.proofs.Frozen.{enters_at}
use Rattle.rv_hart_runs.proofs.Going.{row_known, IsLast, leaving_known, hart_is}

-- ---- what stands in the stages

placed_in : (k : Setting) (owed : List Fetched) (retired near stage : ℕ) (stages : List (Option Fetched)) → AreCells k owed retired near stage stages → ArePlaced retired stages
placed_in k owed retired near stage [] cells = tt
placed_in k owed retired near stage (None ∷ older) cells = placed_in k owed retired near (suc stage) older cells
placed_in k owed retired near stage (Some c ∷ older) cells = (cells.0.placed, placed_in k owed retired c.at (suc stage) older cells.1)

none_some : {A : Type 0} (x : A) → ◌≡◌ {A = Option A} None (Some x) → ⊥
none_some x e = cc

none_inside : (c : Fetched) → ◌≡◌ {A = Option (Option Fetched)} (Some None) (Some (Some c)) → ⊥
none_inside c e = none_some c (same_some None (Some c) e)

tried_in : (k : Setting) (owed : List Fetched) (retired near base : ℕ) (stages : List (Option Fetched)) (i : ℕ) (c : Fetched) → AreCells k owed retired near base stages → k.shape.ex < base + i →
    slice_get stages i ≡ Some (Some c) → IsGoingOn k c
tried_in k owed retired near base [] i c cells lt e = absurd (none_some (Some c) e)
tried_in k owed retired near base (None ∷ older) zero c cells lt e = absurd (none_inside c e)
tried_in k owed retired near base (Some d ∷ older) zero c cells lt e =
    let same : d ≡ c = same_some d c (same_some (Some d) (Some c) e) in
    subst (λ (x : Fetched). IsGoingOn k x) same (cells.0.past (omega (arith, lt))).going
tried_in k owed retired near base (None ∷ older) (suc i) c cells lt e = tried_in k owed retired near (suc base) older i c cells (omega (arith, lt)) e
tried_in k owed retired near base (Some d ∷ older) (suc i) c cells lt e = tried_in k owed retired d.at (suc base) older i c cells.1 (omega (arith, lt)) e

-- ---- how many retire

-- the record of a step as it is shown, with the serial
abbrev shown_of : Setting → Fetched → Commit → ℕ × Commit
shown_of k c d = (c.serial, shown (k.asks d.word) d)

shown_some : (k : Setting) (c : Fetched) (a : StepAnswer) (d : Commit) → a ≡ Done d → is_some (option_map (shown_of k c) (commit_in a)) ≡ true
shown_some k c (Done x) d e = refl
shown_some k c (Stopped stop) d e = cc

all_shown : (k : Setting) (owed : List Fetched) (retired : ℕ) (o : Option Fetched) → ((c : Fetched) → o ≡ Some c → IsLast k owed retired c) → is_some (retired_of k o) ≡ is_some o
all_shown k owed retired None last = refl
all_shown k owed retired (Some c) last =
    let going = (last c refl).past.going in
    shown_some k c (k.course.answer c.place) going.0 going.1

pub counted : (k : Setting) → IsSound k → (h n : ℕ) → (hart_at k h n).retired ≡ retirements k h n
unfolding hart_at next_hart hart_row retirements
counted k sound h zero = refl
counted k sound h (suc n) =
    let g = hart_at k h n in
    let all = all_shown k g.owed g.retired (leaving k h n g) (leaving_known k h n g (hart_is k sound h n)) in
    ap (λ m. if is_some (leaving k h n g) then suc m else m) (counted k sound h n) ∙ ap (λ (b : Bool). if b then suc (retirements k h n) else retirements k h n) (sym all)

-- ---- what is known

alone_in : (k : Setting) (u : ℕ) (owed : List Fetched) → Free (has_unit k u) owed → unit_of k (Some u) owed ≡ None
alone_in k u owed free = ap (λ (o : Option ℕ). option_map (λ (j : ℕ). InUnit u j) o) (free_none (has_unit k u) owed free)

owed_few : (k : Setting) (sound : IsSound k) (h n : ℕ) → length (owed_after k h n (hart_at k h n)) ≤ length k.units
unfolding hart_at next_hart
owed_few k sound h n = few k sound (owed_after k h n (hart_at k h n)) (hart_is k sound h (suc n)).apart

pub known_hart : (k : Setting) → IsSound k → (h n : ℕ) → h < 2 → KnownHart k h n
known_hart k sound h n low =
    let g = hart_at k h n in
    let hart = hart_is k sound h n in
    let row = row_known k h n g hart in
    record {
      placed = placed_in k g.owed g.retired row.0 0 (stages_in k h n g) row.1;
      counted = counted k sound h n;
      fetched = hart.early;
      tried = λ stage c lt e. tried_in k g.owed g.retired row.0 0 (stages_in k h n g) stage c row.1 (omega (arith, lt)) e;
      alone = λ c u e unit. alone_in k u g.owed ((leaving_known k h n g hart c e).past.unowed u unit);
      inside = λ c u e unit. sound.below c.word u unit;
      few = owed_few k sound h n;
      settled = settled_in k h n g hart;
      enters = enters_at k sound h n low;
    }

-- ---- what retires

-- what retires with a record is the next of the run
same_record : (k : Setting) (c : Fetched) (a : StepAnswer) (s : ℕ) (d : Commit) → option_map (shown_of k c) (commit_in a) ≡ Some (s, d) →
    (x : Commit) × (a ≡ Done x) × (d ≡ shown (k.asks x.word) x)
same_record k c (Done x) s d e = (x, refl, ap (λ (p : ℕ × Commit). p.1) (sym (same_some (shown_of k c x) (s, d) e)))
same_record k c (Stopped stop) s d e = cc

recorded : (k : Setting) (retired : ℕ) (o : Option Fetched) (s : ℕ) (d : Commit) → ((c : Fetched) → o ≡ Some c → c.place ≡ retired) → retired_of k o ≡ Some (s, d) → IsRecord k retired d
recorded k retired None s d last e = cc
recorded k retired (Some c) s d last e = subst (λ p. IsRecord k p d) (last c refl) (same_record k c (k.course.answer c.place) s d e)

pub next_record : (k : Setting) → IsSound k → (h n s : ℕ) (d : Commit) → (part_at k h n).retired ≡ Some (s, d) → IsRecord k (retirements k h n) d
unfolding hart_row
next_record k sound h n s d e =
    let g = hart_at k h n in
    let hart = hart_is k sound h n in
    recorded k (retirements k h n) (leaving k h n g) s d (λ c last. (leaving_known k h n g hart c last).placed ∙ counted k sound h n) e
