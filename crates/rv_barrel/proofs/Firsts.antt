-- What is kept of a hart before its first row.
use Rattle.std.proofs.Common.{◌≡◌, ◌∙◌, refl, sym, ap, subst, ℕ, zero, suc, ◌+◌, ◌-◌, ◌≤◌, List, [], ◌∷◌, length, take, drop, Option, None, false, arith}
use Rattle.std.specs.Prelude.{replicate}
use Rattle.ix_extension.specs.Extensions.{ExtensionTree, view_extension}
use Rattle.ix_plan.specs.declared.design.Design.{Design}
use Rattle.ix_plan.specs.Units as units
use Rattle.rv_seq.specs.WordEffects.{AreWide}
use Rattle.rv_harts.specs.BarrelRows.{hart_setting}
use Rattle.rv_harts.specs.HartRows.{hart_at}
use Rattle.rv_harts.specs.HartStates.{architecture}
use Rattle.rv_harts.specs.Harts.{Fetched, Hart, first_hart}
use Rattle.rv_lawful.specs.Settings.{Setting}
use Rattle.rv_seq.specs.declared.arch.Arch.{Arch}
use Rattle.rv_seq.specs.Runs.{run, run_with}
use Rattle.rv_seq.specs.States.{first}
use Rattle.rv_unit.specs.declared.entry.Entry.{Entry}
use Rattle.rv_unit.specs.Numbering.{lasts_of}
use Rattle.rv_unit.specs.Slots.{units_of, units_from}
use Rattle.rv_unit.specs.Standing.{Standing}
use Rattle.rv_unit.specs.UnitLaws.{FirstLaw}
use Rattle.rv_barrel.specs.declared.cell.Front.{Front}
use Rattle.rv_barrel.specs.declared.cell.Owed.{Owed}
use Rattle.rv_barrel.specs.Cells.{Slots, count, fetched_of, AreAsked, AreOwed}
use Rattle.rv_barrel.specs.Sides.{IsSide}
use Rattle.rv_barrel.specs.Turning.{AreTried}
use Rattle.rv_barrel.proofs.Views.{none_first}

pub first_is : (k : Setting) (h : ℕ) → hart_at k h 0 ≡ first_hart k
unfolding hart_at
first_is k h = refl

abbrev pub free : ℕ → Slots
free m = replicate m None

free_fetched : (q m : ℕ) → fetched_of q (free m) ≡ replicate m None
free_fetched q zero = refl
free_fetched q (suc m) = ap (λ (l : List (Option Fetched)). None ∷ l) (free_fetched q m)

free_taken : (m n : ℕ) → m ≤ n → take m (free n) ≡ free m
free_taken zero n le = refl
free_taken (suc m) zero le = absurd (omega (arith, le))
free_taken (suc m) (suc n) le = ap (λ (l : Slots). None ∷ l) (free_taken m n (omega (arith, le)))

free_long : (m : ℕ) → length (free m) ≡ m
free_long zero = refl
free_long (suc m) = ap suc (free_long m)

free_asked : (k : Setting) (m : ℕ) → AreAsked k (free m)
free_asked k zero = tt
free_asked k (suc m) = free_asked k m

free_tried : (k : Setting) (from q stage m : ℕ) → AreTried k from q stage (free m)
free_tried k from q stage zero = tt
free_tried k from q stage (suc m) = free_tried k from q (suc stage) m

free_counted : (m : ℕ) → count (free m) ≡ 0
free_counted zero = refl
free_counted (suc m) = free_counted m

free_above : (n m : ℕ) → count (drop n (free m)) ≡ 0
free_above zero m = free_counted m
free_above (suc n) zero = refl
free_above (suc n) (suc m) = free_above n m

first_run : (x : ExtensionTree) (image : List ℕ) → run x image 0 ≡ first x
unfolding run_with
first_run x image = refl

first_state : (x : ExtensionTree) (d : Design) (image : List ℕ) (h : ℕ) → architecture x (hart_setting d image) h 0 ≡ first x
unfolding architecture
first_state x d image h = refl

units_long : (u stages : ℕ) (lasts : List ℕ) (entries : List Entry) → length (units_from u stages lasts entries) ≡ length lasts
units_long u stages [] entries = refl
units_long u stages (last ∷ lasts) entries = ap suc (units_long (u + 1) stages lasts entries)

pub first_kept : (d : Design) (image : List ℕ) (h : ℕ) (ahead arch : Arch) (u : Standing) (owed : List Owed) (room : ℕ) (front : Front) →
    FirstLaw → front.fetch ≡ 0 → front.next ≡ 0 → front.stopped ≡ false → ahead ≡ first (view_extension d.extension) → AreWide (view_extension d.extension) ahead.custom → arch ≡ first (view_extension d.extension) →
    u.stages ≡ d.sheet.shape.stages → u.lasts ≡ lasts_of d.plans → u.entries ≡ [] → owed ≡ [] → length u.lasts ≤ room →
    IsSide (view_extension d.extension) (hart_setting d image) h 0 (take d.sheet.shape.stages (free 5)) front ahead arch u owed room
first_kept d image h ahead arch u owed room front law fetch next stopped is_ahead wide is_arch stages lasts entries none most = record {
  above = ap (λ (g : Hart). fetched_of g.retired slots) start ∙ ap (fetched_of 0) few ∙ free_fetched 0 d.sheet.shape.stages ∙ whole ∙ sym (ap (λ (g : Hart). cons g.above) start);
  long = ap (λ (l : Slots). length l) few ∙ free_long d.sheet.shape.stages;
  asked = subst (AreAsked (hart_setting d image)) (sym few) (free_asked (hart_setting d image) d.sheet.shape.stages);
  tried = subst (λ (l : Slots). AreTried (hart_setting d image) (suc d.sheet.shape.ex) (hart_at (hart_setting d image) h 0).retired 0 l) (sym few) (free_tried (hart_setting d image) (suc d.sheet.shape.ex) (hart_at (hart_setting d image) h 0).retired 0 d.sheet.shape.stages);
  idle = λ e. ap (λ (l : Slots). count l) few ∙ free_counted d.sheet.shape.stages;
  fetch = fetch ∙ sym (ap (λ (g : Hart). g.fetch) start);
  next = next ∙ sym (ap (λ (g : Hart). g.next) start);
  stopped = stopped ∙ sym (ap (λ (g : Hart). g.stopped) start);
  executed = λ e. is_ahead ∙ sym (first_run (view_extension d.extension) image) ∙ ap (λ (m : ℕ). run (view_extension d.extension) image m) begun;
  wide = wide;
  state = is_arch ∙ sym (first_state (view_extension d.extension) d image h);
  standing = ap (λ (m : ℕ). units_of m u.lasts u.entries) stages ∙ ap (λ (l : List ℕ). units_of d.sheet.shape.stages l u.entries) lasts ∙ ap (λ (l : List Entry). units_of d.sheet.shape.stages (lasts_of d.plans) l) entries ∙ law d.sheet.shape.stages d.plans ∙ sym (ap (λ (g : Hart). g.units) start);
  stages = stages;
  lasts = as_many;
  owing = subst (λ (l : List Fetched). AreOwed (hart_setting d image) owed l) (sym (ap (λ (g : Hart). g.owed) start)) (subst (λ (l : List Owed). AreOwed (hart_setting d image) l []) (sym none) tt);
  capacity = omega (arith, as_many, most);
} where
  slots : Slots
  slots = take d.sheet.shape.stages (free 5)

  start : hart_at (hart_setting d image) h 0 ≡ first_hart (hart_setting d image)
  start = first_is (hart_setting d image) h

  few : take d.sheet.shape.stages (free 5) ≡ free d.sheet.shape.stages
  few = free_taken d.sheet.shape.stages 5 d.sheet.shape.lawful.most

  cons : List (Option Fetched) → List (Option Fetched)
  cons l = None ∷ l

  all_none : ℕ → List (Option Fetched)
  all_none m = replicate m None

  whole : all_none d.sheet.shape.stages ≡ none_first (all_none (d.sheet.shape.stages - 1))
  whole = let l = d.sheet.shape.lawful.least in let more : d.sheet.shape.stages ≡ suc (d.sheet.shape.stages - 1) = omega (arith, l) in ap all_none more

  begun : 0 ≡ (hart_at (hart_setting d image) h 0).retired + count (drop (suc d.sheet.shape.ex) (take d.sheet.shape.stages (free 5)))
  begun =
      let a = ap (λ (g : Hart). g.retired) (first_is (hart_setting d image) h) in
      let b = ap (λ (l : Slots). count (drop (suc d.sheet.shape.ex) l)) (free_taken d.sheet.shape.stages 5 d.sheet.shape.lawful.most) in
      let c = free_above (suc d.sheet.shape.ex) d.sheet.shape.stages in
      omega (arith, a, b, c)

  as_many : length u.lasts ≡ length (hart_setting d image).units
  as_many = ap (λ (l : List ℕ). length l) lasts ∙ sym (units_long 0 d.sheet.shape.stages (lasts_of d.plans) []) ∙ ap (λ (us : List units.Slots). length us) (law d.sheet.shape.stages d.plans)
