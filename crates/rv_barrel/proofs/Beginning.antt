-- The stages as a row begins.
use Rattle.std.proofs.Common.{◌≡◌, ◌∙◌, refl, sym, ap, subst, ℕ, suc, ◌+◌, ◌<◌, List, [], ◌∷◌, length, drop, Option, Some, None, Bool, true, false, arith}
use Rattle.std.specs.Prelude.{if◌then◌else◌}
use Rattle.ix_extension.specs.Extensions.{ExtensionTree, view_extension}
use Rattle.ix_plan.specs.declared.design.Design.{Design}
use Rattle.rv_harts.specs.BarrelRows.{hart_setting}
use Rattle.rv_harts.specs.Events.{standing}
use Rattle.rv_harts.specs.Harts.{Fetched, Hart}
use Rattle.rv_harts.specs.HartRows.{fetched, entering, stages_in, fetches}
use Rattle.rv_lawful.specs.Settings.{Setting}
use Rattle.rv_seq.specs.declared.answer.StepAnswer.{StepAnswer}
use Rattle.rv_seq.specs.declared.answer.StepAnswer.TheVariants.{Done, Stopped}
use Rattle.rv_seq.specs.declared.arch.Arch.{Arch}
use Rattle.rv_seq.specs.Commits.{applied}
use Rattle.rv_seq.specs.Runs.{run}
use Rattle.rv_seq.specs.Steps.{word_at, step}
use Rattle.rv_past.specs.Steps.{behind}
use Rattle.rv_past.proofs.Growing.{run_more}
use Rattle.rv_barrel.specs.declared.cell.InFlight.{InFlight}
use Rattle.rv_barrel.specs.Cells.{Slots, count, fetched_at, fetched_of, AreAsked}
use Rattle.rv_barrel.specs.Moving.{new_in, put_first, step_here, tried_at, fetched_in}
use Rattle.rv_barrel.specs.Turning.{IsStepAt, AreTried, next_in}
use Rattle.rv_barrel.proofs.Views.{none_first, count_is, count_tried}

-- the first of these is free, and the others are as they are
pub first_free : (q : ℕ) (s : Option InFlight) (older : Slots) (above : List (Option Fetched)) → fetched_of q (s ∷ older) ≡ None ∷ above → fetched_of q older ≡ above
first_free q None older above e = tail e where
  rest : List (Option Fetched) → List (Option Fetched)
  rest [] = []
  rest (f ∷ fs) = fs

  tail : none_first (fetched_of q older) ≡ none_first above → fetched_of q older ≡ above
  tail e = ap rest e
first_free q (Some c) older above e = absurd (apart e) where
  head : List (Option Fetched) → Type 0
  head [] = ⊥
  head (None ∷ fs) = ⊥
  head (Some f ∷ fs) = Unit

  apart : Some (fetched_at (q + count older) c) ∷ fetched_of q older ≡ None ∷ above → ⊥
  apart e = subst head e tt

-- what comes in
new_place : (d : Design) (image : List ℕ) (g : Hart) (m : ℕ) (w : Option ℕ) → m ≡ length (standing g.above) → fetched_in (g.retired + m) (new_in d g.next g.fetch w) ≡ fetched g w
new_place d image g m None e = refl
new_place d image g m (Some word) e = ap (λ (i : ℕ). Some (the_fetched i)) e where
  the_fetched : ℕ → Fetched
  the_fetched i = record { serial = g.next; at = g.fetch; word = word; place = g.retired + i }

abbrev pub new_of : Design → List ℕ → Bool → ℕ → ℕ → Option InFlight
new_of d image may serial at = if may then new_in d serial at (word_at image at) else None

pub new_is : (d : Design) (image : List ℕ) (h n : ℕ) (g : Hart) (older : Slots) → fetched_of g.retired older ≡ g.above →
    fetched_in (g.retired + count older) (new_of d image (fetches h n g) g.next g.fetch) ≡ entering (hart_setting d image) h n g
new_is d image h n g older e = by_case (fetches h n g) where
  many : count older ≡ length (standing g.above)
  many = count_is g.retired older ∙ ap (λ (l : List (Option Fetched)). length (standing l)) e

  by_case : (b : Bool) → fetched_in (g.retired + count older) (if b then new_in d g.next g.fetch (word_at image g.fetch) else None) ≡ (if b then fetched g (word_at image g.fetch) else None)
  by_case true = new_place d image g (count older) (word_at image g.fetch) many
  by_case false = refl

first_is : (q : ℕ) (new : Option InFlight) (older : Slots) → fetched_of q (new ∷ older) ≡ fetched_in (q + count older) new ∷ fetched_of q older
first_is q None older = refl
first_is q (Some c) older = refl

-- the stages of the row, before what stands in EX is tried
pub put_is : (d : Design) (image : List ℕ) (h n : ℕ) (g : Hart) (s : Slots) (new : Option InFlight) → 0 < length s → fetched_of g.retired s ≡ None ∷ g.above →
    new ≡ new_of d image (fetches h n g) g.next g.fetch → fetched_of g.retired (put_first new s) ≡ stages_in (hart_setting d image) h n g
put_is d image h n g [] new lt above e = absurd (omega (arith, lt))
put_is d image h n g (s ∷ older) new lt above e =
    let rest = first_free g.retired s older g.above above in
    first_is g.retired new older
    ∙ ap (λ (f : List (Option Fetched)). fetched_in (g.retired + count older) new ∷ f) rest
    ∙ ap (λ (f : Option Fetched). f ∷ g.above) (ap (fetched_in (g.retired + count older)) e ∙ new_is d image h n g older rest)

-- what is asked of it
new_asked : (d : Design) (image : List ℕ) (serial at : ℕ) (w : Option ℕ) (older : Slots) → AreAsked (hart_setting d image) older → AreAsked (hart_setting d image) (new_in d serial at w ∷ older)
new_asked d image serial at None older h = h
new_asked d image serial at (Some word) older h = (refl, h)

pub put_asked : (d : Design) (image : List ℕ) (may : Bool) (serial at : ℕ) (s : Slots) → AreAsked (hart_setting d image) s → AreAsked (hart_setting d image) (put_first (new_of d image may serial at) s)
put_asked d image may serial at [] h = tt
put_asked d image true serial at (s ∷ older) h = new_asked d image serial at (word_at image at) older (rest s h) where
  rest : (s : Option InFlight) → AreAsked (hart_setting d image) (s ∷ older) → AreAsked (hart_setting d image) older
  rest None h = h
  rest (Some c) h = h.1
put_asked d image false serial at (s ∷ older) h = rest s h where
  rest : (s : Option InFlight) → AreAsked (hart_setting d image) (s ∷ older) → AreAsked (hart_setting d image) older
  rest None h = h
  rest (Some c) h = h.1

-- what comes in is not tried, and need not be
pub put_tried : (k : Setting) (q : ℕ) (new : Option InFlight) (s : Slots) → AreTried k (suc k.shape.ex) q 0 s → AreTried k (suc k.shape.ex) q 0 (put_first new s)
put_tried k q new [] h = tt
put_tried k q None (s ∷ older) h = rest s h where
  rest : (s : Option InFlight) → AreTried k (suc k.shape.ex) q 0 (s ∷ older) → AreTried k (suc k.shape.ex) q 1 older
  rest None h = h
  rest (Some c) h = h.1
put_tried k q (Some c) (s ∷ older) h = ((λ le. absurd (omega (arith, le))), rest s h) where
  rest : (s : Option InFlight) → AreTried k (suc k.shape.ex) q 0 (s ∷ older) → AreTried k (suc k.shape.ex) q 1 older
  rest None h = h
  rest (Some c) h = h.1

-- the step of a state of the run is the step at its place
next_behind : (a : StepAnswer) (s : Arch) → next_in s.pc a ≡ (behind a s).pc
unfolding applied
next_behind (Done c) s = refl
next_behind (Stopped stop) s = refl

pub step_there : (d : Design) (image : List ℕ) (p : ℕ) (a : Arch) → a ≡ run (view_extension d.extension) image p → IsStepAt (hart_setting d image) p (step_here (view_extension d.extension) image a)
step_there d image p a e = subst (λ (s : Arch). IsStepAt (hart_setting d image) p (step_here (view_extension d.extension) image s)) (sym e) there where
  x : ExtensionTree
  x = view_extension d.extension

  there : IsStepAt (hart_setting d image) p (step_here (view_extension d.extension) image (run (view_extension d.extension) image p))
  there = record {
    pc = refl;
    answer = refl;
    blocks = refl;
    own = refl;
    next = next_behind (step (view_extension d.extension) image (run (view_extension d.extension) image p)) (run (view_extension d.extension) image p) ∙ sym (ap (λ (s : Arch). s.pc) (run_more (view_extension d.extension) image p));
  }

-- how many stand above a stage, whatever comes into the first
pub count_put : (n : ℕ) (new : Option InFlight) (s : Slots) → count (drop (suc n) (put_first new s)) ≡ count (drop (suc n) s)
count_put n new [] = refl
count_put n new (s ∷ older) = refl

-- nothing stands in free stages
pub no_tried : (k : Setting) (from q stage : ℕ) (s : Slots) → count s ≡ 0 → AreTried k from q stage s
no_tried k from q stage [] e = tt
no_tried k from q stage (None ∷ older) e = no_tried k from q (suc stage) older e
no_tried k from q stage (Some c ∷ older) e = absurd (omega (arith, e))

pub idle_tried : (k : Setting) (x : ExtensionTree) (image : List ℕ) (a : Arch) (from q n : ℕ) (s : Slots) → count s ≡ 0 → AreTried k from q 0 (tried_at x image a n s)
idle_tried k x image a from q n s e = no_tried k from q 0 (tried_at x image a n s) (count_tried x image a n s ∙ e)
