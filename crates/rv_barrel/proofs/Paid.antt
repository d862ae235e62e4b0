-- What goes out of the last stage: its store, its unit, what it owes, and what it writes.
use Rattle.std.proofs.Common.{◌≡◌, ◌∙◌, refl, sym, ap, subst, ℕ, zero, suc, ◌+◌, ◌-◌, ◌<◌, ◌≤◌, List, [], ◌∷◌, ◌++◌, length, Option, Some, None, false, arith}
use Rattle.std.specs.Prelude.{slice_get}
use Rattle.ix_bits.specs.declared.number.Bits.{Bits}
use Rattle.ix_extension.specs.Extensions.{ExtensionTree, view_extension}
use Rattle.ix_plan.specs.declared.design.Design.{Design}
use Rattle.ix_plan.specs.Units.{unit_written}
use Rattle.ix_plan.specs.Units as units
use Rattle.rv_asks.specs.declared.asks.Asks.{Asks}
use Rattle.rv_harts.specs.BarrelRows.{hart_setting}
use Rattle.rv_harts.specs.Harts.{Fetched}
use Rattle.rv_harts.specs.HartRows as rows
use Rattle.rv_harts.specs.HartRows.{hart_at, leaving, owed_after, owing, kept_in, serial_out, retired_of, last_in, stages_in}
use Rattle.rv_harts.specs.Turns.{asked}
use Rattle.rv_hart_runs.specs.HartRuns.{KnownHart}
use Rattle.rv_lawful.specs.Outstanding.{in_unit, after_retired}
use Rattle.rv_lawful.specs.Settings.{Setting}
use Rattle.rv_past.specs.Making.{IsStored}
use Rattle.rv_past.specs.Past.{SoundSteps, retired_one}
use Rattle.rv_past.specs.Past as past
use Rattle.rv_seq.specs.Commits.{IsStoredInside, applied}
use Rattle.rv_seq.specs.Interrupts.{is_return, resumed}
use Rattle.rv_seq.specs.declared.answer.StepAnswer.TheVariants.{Done}
use Rattle.rv_seq.specs.declared.arch.Arch.{Arch}
use Rattle.rv_seq.specs.declared.commit.Commit.{Commit}
use Rattle.rv_seq.specs.Sound.{IsSound}
use Rattle.rv_past.specs.declared.step.Step.{Step}
use Rattle.rv_tried.specs.Parts.{shown, native}
use Rattle.rv_unit.specs.declared.entry.Entry.{Entry}
use Rattle.rv_unit.specs.Entries.{is_frozen}
use Rattle.rv_unit.specs.Slots.{units_of, units_from, slots_from}
use Rattle.rv_unit.specs.Standing.{Standing}
use Rattle.rv_unit.specs.Timed.{AreUnits, IsTimed, CanEnter}
use Rattle.rv_unit.specs.UnitLaws.{FrozenLaw}
use Rattle.rv_barrel.specs.declared.cell.Front.{Front}
use Rattle.rv_barrel.specs.declared.cell.InFlight.{InFlight}
use Rattle.rv_barrel.specs.declared.cell.Owed.{Owed}
use Rattle.rv_barrel.specs.Cells.{Slots, fetched_at, AreOwed}
use Rattle.rv_barrel.specs.Moving.{fetched_in}
use Rattle.rv_barrel.specs.Older.{kept_of}
use Rattle.rv_barrel.specs.Owing.{entering_by, owed_by, unit_entered, without_serial}
use Rattle.rv_barrel.specs.Paying.{IsStoredSlot, arch_by, arch_step, due_of}
use Rattle.rv_barrel.specs.Showing.{retired_by, step_by, answer_by}
use Rattle.rv_barrel.specs.Sides.{IsSide}
use Rattle.rv_barrel.proofs.Owings.{IsGoing, owed_long, owed_both, owed_kept, owed_entering, entered_is}
use Rattle.rv_barrel.proofs.Views.{last_slot}
use Rattle.rv_barrel.proofs.Whole.{IsBegun, leaving_is, retired_there}

-- its store is inside the memory

shown_stored : (a : Asks) (d : Commit) (serial : ℕ) → IsStoredInside d.store → IsStored (Some (serial, shown a d))
unfolding shown
shown_stored a d serial h = h

sound_stored : (x : ExtensionTree) (d : Commit) → IsSound x (Done d) → IsStoredInside d.store
sound_stored x d h = h.inside

pub stored_is : (d : Design) (image : List ℕ) (q : ℕ) (slot : Option InFlight) → SoundSteps → IsGoing (hart_setting d image) q slot → IsStoredSlot slot
stored_is d image q None law h = tt
stored_is d image q (Some c) law h =
    let x = view_extension d.extension in
    let g = h.0 in
    let sound : IsSound x (Done g.commit) = subst (IsSound x) g.course (law.sound x image None q) in
    let shows : retired_by (Some c) ≡ Some (c.serial, shown c.asks g.commit) = ap (step_by c.serial c.asks) g.tried ∙ ap (answer_by c.serial c.asks) g.answer in
    subst IsStored (sym shows) (shown_stored c.asks g.commit c.serial (sound_stored x g.commit sound))

-- its unit takes it

pub record HasSlots (us : List units.Slots) (m : ℕ) : Type 0 where
  pub slots : units.Slots
  pub there : slice_get us m ≡ Some slots

unit_there : (u stages : ℕ) (lasts : List ℕ) (entries : List Entry) (m : ℕ) → m < length lasts → HasSlots (units_from u stages lasts entries) m
unit_there u stages [] entries m lt = absurd (omega (arith, lt))
unit_there u stages (last ∷ lasts) entries zero lt = record { slots = slots_from u stages (last + 1 - stages) entries; there = refl }
unit_there u stages (last ∷ lasts) entries (suc m) lt = let rest = unit_there (u + 1) stages lasts entries m (omega (arith, lt)) in record { slots = rest.slots; there = rest.there }

pub can_enter : (d : Design) (image : List ℕ) (h n : ℕ) (s s1 : Slots) (front : Front) (ahead arch : Arch) (us : Standing) (owed : List Owed) (room : ℕ) (new : Option InFlight) →
    IsSide (view_extension d.extension) (hart_setting d image) h n s front ahead arch us owed room → IsBegun d image h n s1 new ahead → KnownHart (hart_setting d image) h n →
    IsGoing (hart_setting d image) (hart_at (hart_setting d image) h n).retired (last_slot s1) → AreUnits us.stages us.lasts → IsTimed us.stages us.lasts us.entries → FrozenLaw →
    CanEnter us.lasts us.entries (unit_entered (entering_by (last_slot s1)))
can_enter d image h n s s1 front ahead arch us owed room new side b known going are timed frozen =
    subst (CanEnter us.lasts us.entries) (sym (entered_is k q (last_slot s1) going)) (by_slot (last_slot s1) refl) where
      k : Setting
      k = hart_setting d image

      q : ℕ
      q = (hart_at (hart_setting d image) h n).retired

      by_unit : (c : InFlight) (u : Option ℕ) → last_slot s1 ≡ Some c → (asked (hart_setting d image) (fetched_at (hart_at (hart_setting d image) h n).retired c)).unit ≡ u → CanEnter us.lasts us.entries (in_unit c.serial u)
      by_unit c None e is = tt
      by_unit c (Some u) e is = (inside, free) where
        out : leaving (hart_setting d image) h n (hart_at (hart_setting d image) h n) ≡ Some (fetched_at (hart_at (hart_setting d image) h n).retired c)
        out = sym (leaving_is d image h n s1 new ahead b) ∙ ap (fetched_in (hart_at (hart_setting d image) h n).retired) e

        inside : u < length us.lasts
        inside = let lt = known.inside (fetched_at (hart_at (hart_setting d image) h n).retired c) u out is in let same = side.lasts in omega (arith, lt, same)

        there : HasSlots (units_of us.stages us.lasts us.entries) u
        there = unit_there 0 us.stages us.lasts us.entries u inside

        free : is_frozen us.lasts us.entries u ≡ false
        free =
            sym (frozen us.stages us.lasts us.entries u there.slots are timed there.there)
            ∙ ap (λ (all : List units.Slots). units.frozen_with u there.slots (unit_written all)) side.standing
            ∙ known.enters (fetched_at (hart_at (hart_setting d image) h n).retired c) u there.slots out is (sym (ap (λ (all : List units.Slots). slice_get all u) side.standing) ∙ there.there)

      by_slot : (slot : Option InFlight) → last_slot s1 ≡ slot → CanEnter us.lasts us.entries (rows.unit_entered (hart_setting d image) (fetched_in (hart_at (hart_setting d image) h n).retired slot))
      by_slot None e = tt
      by_slot (Some c) e = by_unit c (asked (hart_setting d image) (fetched_at (hart_at (hart_setting d image) h n).retired c)).unit e refl

-- what is owed behind the row

pub owed_next : (d : Design) (image : List ℕ) (h n : ℕ) (s1 : Slots) (new : Option InFlight) (ahead : Arch) (owed : List Owed) (out : Option ℕ) → IsBegun d image h n s1 new ahead →
    IsGoing (hart_setting d image) (hart_at (hart_setting d image) h n).retired (last_slot s1) → AreOwed (hart_setting d image) owed (hart_at (hart_setting d image) h n).owed →
    out ≡ serial_out (hart_setting d image) h n (hart_at (hart_setting d image) h n) →
    AreOwed (hart_setting d image) (without_serial out owed ++ owed_by (entering_by (last_slot s1))) (owed_after (hart_setting d image) h n (hart_at (hart_setting d image) h n))
owed_next d image h n s1 new ahead owed out b going are e =
    let k = hart_setting d image in
    let g = hart_at (hart_setting d image) h n in
    let kept = owed_kept k out owed g.owed are in
    let more = owed_entering k g.retired (last_slot s1) going in
    let both = owed_both k (without_serial out owed) (owed_by (entering_by (last_slot s1))) (kept_of out g.owed) (owing k (fetched_in g.retired (last_slot s1))) kept more in
    subst (λ (o : Option ℕ). AreOwed k (without_serial out owed ++ owed_by (entering_by (last_slot s1))) (kept_of o g.owed ++ owing k (leaving k h n g))) e
    (subst (λ (f : Option Fetched). AreOwed k (without_serial out owed ++ owed_by (entering_by (last_slot s1))) (kept_of out g.owed ++ owing k f)) (leaving_is d image h n s1 new ahead b) both)

pub room_is : (d : Design) (image : List ℕ) (h n : ℕ) (s1 : Slots) (new : Option InFlight) (ahead : Arch) (owed : List Owed) (out : Option ℕ) (room : ℕ) → IsBegun d image h n s1 new ahead →
    IsGoing (hart_setting d image) (hart_at (hart_setting d image) h n).retired (last_slot s1) → AreOwed (hart_setting d image) owed (hart_at (hart_setting d image) h n).owed →
    out ≡ serial_out (hart_setting d image) h n (hart_at (hart_setting d image) h n) → KnownHart (hart_setting d image) h n → length (hart_setting d image).units ≤ room →
    length (without_serial out owed ++ owed_by (entering_by (last_slot s1))) ≤ room
room_is d image h n s1 new ahead owed out room b going are e known most =
    let k = hart_setting d image in
    let long = owed_long k (without_serial out owed ++ owed_by (entering_by (last_slot s1))) (owed_after k h n (hart_at k h n)) (owed_next d image h n s1 new ahead owed out b going are e) in
    let few = known.few in
    omega (arith, long, few, most)

-- what it writes

shown_word : (a : Asks) (d : Commit) → (shown a d).word ≡ d.word
unfolding shown
shown_word a d = refl

abbrev pub writes_by : ExtensionTree → Asks → List (Option Bits) → Commit → Arch → Arch
writes_by x a blocks c s = resumed (is_return x c.word) (applied (native a blocks c) s)

pub arch_there : (d : Design) (image : List ℕ) (q : ℕ) (slot : Option InFlight) (s : Arch) → IsGoing (hart_setting d image) q slot →
    arch_by (view_extension d.extension) slot s ≡ after_retired (view_extension d.extension) (hart_setting d image) q (retired_of (hart_setting d image) (fetched_in q slot)) s
arch_there d image q None s h = refl
arch_there d image q (Some c) s h =
    let x = view_extension d.extension in
    let k = hart_setting d image in
    let g = h.0 in
    let r = shown c.asks g.commit in
    let shows : step_by c.serial c.asks (Some g.step) ≡ Some (c.serial, r) = ap (answer_by c.serial c.asks) g.answer in
    let same : retired_by (Some c) ≡ Some (c.serial, r) = ap (step_by c.serial c.asks) g.tried ∙ shows in
    let word : c.asks ≡ k.asks r.word = g.asks ∙ sym (ap (λ (w : ℕ). k.asks w) (shown_word c.asks g.commit)) in
    ap (λ (t : Option Step). arch_step x c.serial c.asks t s) g.tried
    ∙ ap (λ (o : Option (ℕ × Commit)). past.retired_by x (due_of g.step c.asks) o s) shows
    ∙ ap (λ (a : Asks). writes_by x a g.step.blocks r s) word
    ∙ ap (λ (blocks : List (Option Bits)). writes_by x (k.asks r.word) blocks r s) g.placed.blocks
    ∙ ap (λ (o : Option (ℕ × Commit)). after_retired x k q o s) (sym same ∙ retired_there k q (Some c) h)
