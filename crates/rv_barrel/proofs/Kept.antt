-- What is kept of the stages behind a row.
use Rattle.std.proofs.Common.{◌≡◌, ◌∙◌, refl, sym, ap, subst, ℕ, zero, suc, ◌+◌, ◌-◌, ◌<◌, ◌≤◌, List, [], ◌∷◌, length, take, drop, Option, Some, None, arith}
use Rattle.std.proofs.lemmas.Option.{none-some}
use Rattle.ix_extension.specs.Extensions.{ExtensionTree, view_extension}
use Rattle.ix_plan.specs.declared.design.Design.{Design}
use Rattle.rv_harts.specs.BarrelRows.{hart_setting}
use Rattle.rv_lawful.specs.Settings.{Setting}
use Rattle.rv_seq.specs.declared.answer.StepAnswer.{StepAnswer}
use Rattle.rv_seq.specs.declared.arch.Arch.{Arch}
use Rattle.rv_seq.specs.Runs.{run}
use Rattle.rv_seq.specs.Steps.{step}
use Rattle.rv_past.specs.declared.step.Step.{Step}
use Rattle.rv_past.specs.Steps.{behind}
use Rattle.rv_past.proofs.Growing.{run_more}
use Rattle.rv_barrel.specs.declared.cell.InFlight.{InFlight}
use Rattle.rv_barrel.specs.Cells.{Slots, count, AreAsked}
use Rattle.rv_barrel.specs.Moving.{advanced, all_free, ahead_of, ahead_by}
use Rattle.rv_barrel.specs.Turning.{IsTriedAt, AreTried}
use Rattle.rv_barrel.proofs.Views.{unsome, none_first, last_slot}
use Rattle.rv_barrel.proofs.Moves.{emptied, emptied_long, last_emptied, advanced_is, one_in, count_last}

-- What is asked

asked_take : (k : Setting) (n : ℕ) (s : Slots) → AreAsked k s → AreAsked k (take n s)
asked_take k zero s h = tt
asked_take k (suc n) [] h = tt
asked_take k (suc n) (None ∷ older) h = asked_take k n older h
asked_take k (suc n) (Some c ∷ older) h = (h.0, asked_take k n older h.1)

asked_emptied : (k : Setting) (n : ℕ) (s : Slots) → AreAsked k s → AreAsked k (emptied n s)
asked_emptied k zero s h = h
asked_emptied k (suc n) [] h = tt
asked_emptied k (suc n) (None ∷ older) h = asked_emptied k n older h
asked_emptied k (suc n) (Some c ∷ older) h = asked_emptied k n older h.1

-- the stages one on are these
pub advanced_to : (gone n : ℕ) (s : Slots) → length s ≡ suc n → advanced gone 0 None s ≡ None ∷ take n (emptied gone s)
advanced_to gone n s e =
    advanced_is gone 0 None s
    ∙ ap (λ (m : ℕ). take m (None ∷ emptied (gone - 0) s)) e
    ∙ ap (λ (m : ℕ). none_first (take n (emptied m s))) (omega arith)

pub asked_on : (k : Setting) (gone n : ℕ) (s : Slots) → length s ≡ suc n → AreAsked k s → AreAsked k (advanced gone 0 None s)
asked_on k gone n s e h = subst (λ (l : Slots). AreAsked k l) (sym (advanced_to gone n s e)) (asked_take k n (emptied gone s) (asked_emptied k gone s h))

pub asked_free : (k : Setting) (s : Slots) → AreAsked k (all_free s)
asked_free k [] = tt
asked_free k (s ∷ older) = asked_free k older

pub count_free : (s : Slots) → count (all_free s) ≡ 0
count_free [] = refl
count_free (s ∷ older) = count_free older

pub long_free : (s : Slots) → length (all_free s) ≡ length s
long_free [] = refl
long_free (s ∷ older) = ap suc (long_free older)

-- What was tried

tried_emptied : (k : Setting) (from q stage n : ℕ) (s : Slots) → AreTried k from q stage s → AreTried k from q stage (emptied n s)
tried_emptied k from q stage zero s h = h
tried_emptied k from q stage (suc n) [] h = tt
tried_emptied k from q stage (suc n) (None ∷ older) h = tried_emptied k from q (suc stage) n older h
tried_emptied k from q stage (suc n) (Some c ∷ older) h = tried_emptied k from q (suc stage) n older h.1

tried_gone : (k : Setting) (from q stage n : ℕ) (s : Slots) → length s ≡ suc n → AreTried k from q stage s → AreTried k (suc from) (q + one_in (last_slot s)) (suc stage) (take n s)
tried_gone k from q stage n [] e h = absurd (omega (arith, e))
tried_gone k from q stage zero (s ∷ older) e h = tt
tried_gone k from q stage (suc n) (s ∷ []) e h = absurd (omega (arith, e))
tried_gone k from q stage (suc n) (None ∷ t ∷ older) e h = tried_gone k from q (suc stage) n (t ∷ older) (omega (arith, e)) h
tried_gone k from q stage (suc n) (Some c ∷ t ∷ older) e h =
    let few = count_last n (t ∷ older) (omega (arith, e)) in
    let same : q + count (t ∷ older) ≡ q + one_in (last_slot (t ∷ older)) + count (take n (t ∷ older)) = omega (arith, few) in
    ((λ le. subst (λ (p : ℕ). IsTriedAt k p c) same (h.0 (omega (arith, le)))), tried_gone k from q (suc stage) n (t ∷ older) (omega (arith, e)) h.1)

pub tried_on : (k : Setting) (q gone n : ℕ) (s : Slots) → length s ≡ suc n → gone ≤ n → AreTried k k.shape.ex q 0 s → AreTried k (suc k.shape.ex) (q + one_in (last_slot s)) 0 (advanced gone 0 None s)
tried_on k q gone n s e le h =
    let kept : Slots = emptied gone s in
    let same : last_slot kept ≡ last_slot s = last_emptied gone s (omega (arith, e, le)) in
    subst (λ (l : Slots). AreTried k (suc k.shape.ex) (q + one_in (last_slot s)) 0 l) (sym (advanced_to gone n s e))
    (subst (λ (l : Option InFlight). AreTried k (suc k.shape.ex) (q + one_in l) 1 (take n kept)) same
    (tried_gone k k.shape.ex q 0 n kept (emptied_long gone s ∙ e) (tried_emptied k k.shape.ex q 0 gone s h)))

-- The state ahead

count_take_drop : (m n : ℕ) (s : Slots) → length s ≡ suc n → m ≤ n → count (drop m s) ≡ count (drop m (take n s)) + one_in (last_slot s)
count_take_drop m n [] e le = absurd (omega (arith, e))
count_take_drop zero n (s ∷ older) e le = count_last n (s ∷ older) e
count_take_drop (suc m) zero (s ∷ older) e le = absurd (omega (arith, le))
count_take_drop (suc m) (suc n) (s ∷ []) e le = absurd (omega (arith, e))
count_take_drop (suc m) (suc n) (s ∷ t ∷ older) e le = count_take_drop m n (t ∷ older) (omega (arith, e)) (omega (arith, le))

-- the slot of a stage, and those above it
abbrev pub slot_of : ℕ → Slots → Option InFlight
slot_of n [] = None
slot_of zero (s ∷ older) = s
slot_of (suc n) (s ∷ older) = slot_of n older

count_from : (m : ℕ) (s : Slots) → count (drop m s) ≡ one_in (slot_of m s) + count (drop (suc m) s)
count_from zero [] = omega arith
count_from (suc m) [] = omega arith
count_from zero (None ∷ older) = omega arith
count_from zero (Some c ∷ older) = omega arith
count_from (suc m) (s ∷ older) = count_from m older

-- what is above the freed stages stays
pub above_kept : (m gone : ℕ) (s : Slots) → gone ≤ m → drop m (emptied gone s) ≡ drop m s
above_kept m zero s le = refl
above_kept zero (suc gone) s le = absurd (omega (arith, le))
above_kept (suc m) (suc gone) [] le = refl
above_kept (suc m) (suc gone) (s ∷ older) le = above_kept m gone older (omega (arith, le))

freed_here : (m gone : ℕ) (s : Slots) → m < gone → slot_of m (emptied gone s) ≡ None
freed_here m zero s lt = absurd (omega (arith, lt))
freed_here m (suc gone) [] lt = refl
freed_here zero (suc gone) (s ∷ older) lt = refl
freed_here (suc m) (suc gone) (s ∷ older) lt = freed_here m gone older (omega (arith, lt))

-- how many are executed behind a row: those that were, and what goes on out of EX
pub executed_on : (ex gone q n : ℕ) (s : Slots) → length s ≡ suc n → ex ≤ n → gone ≤ ex →
    q + one_in (last_slot s) + count (drop (suc ex) (advanced gone 0 None s)) ≡ q + count (drop (suc ex) s) + one_in (slot_of ex s)
executed_on ex gone q n s e le few =
    let kept : Slots = emptied gone s in
    let last : last_slot kept ≡ last_slot s = last_emptied gone s (omega (arith, e, le, few)) in
    let a = ap (λ (l : Slots). count (drop (suc ex) l)) (advanced_to gone n s e) in
    let b = count_take_drop ex n kept (emptied_long gone s ∙ e) le in
    let c = ap (λ (l : Slots). count l) (above_kept ex gone s few) in
    let d = count_from ex s in
    let f = ap one_in last in
    omega (arith, a, b, c, d, f)

-- where what stands in EX does not go on, and nothing above it is flushed
pub executed_still : (ex gone q n : ℕ) (s : Slots) → length s ≡ suc n → ex < gone → gone ≤ n → count (drop (suc ex) (emptied gone s)) ≡ count (drop (suc ex) s) →
    q + one_in (last_slot s) + count (drop (suc ex) (advanced gone 0 None s)) ≡ q + count (drop (suc ex) s)
executed_still ex gone q n s e lt le same =
    let kept : Slots = emptied gone s in
    let last : last_slot kept ≡ last_slot s = last_emptied gone s (omega (arith, e, le)) in
    let a = ap (λ (l : Slots). count (drop (suc ex) l)) (advanced_to gone n s e) in
    let b = count_take_drop ex n kept (emptied_long gone s ∙ e) (omega (arith, lt, le)) in
    let d = count_from ex kept in
    let g = ap one_in (freed_here ex gone s lt) in
    let f = ap one_in last in
    omega (arith, a, b, d, f, g, same)

-- the state ahead, where what stands in EX goes on
ahead_slot : (x : ExtensionTree) (image : List ℕ) (k : Setting) (p : ℕ) (slot : Option InFlight) (a : Arch) → k.course.answer p ≡ step x image (run x image p) → a ≡ run x image p →
    ((c : InFlight) → slot ≡ Some c → IsTriedAt k p c) → ahead_of slot a ≡ run x image (p + one_in slot)
ahead_slot x image k p None a course e tried = e ∙ ap (λ (m : ℕ). run x image m) (omega arith)
ahead_slot x image k p (Some c) a course e tried =
    let t = tried c refl in
    ap (λ (s : Option Step). ahead_by s a) t.tried
    ∙ ap (λ (r : StepAnswer). behind r a) (t.placed.answer ∙ course)
    ∙ ap (λ (s : Arch). behind (step x image (run x image p)) s) e
    ∙ sym (run_more x image p)
    ∙ ap (λ (m : ℕ). run x image m) (omega arith)

-- what stands in a stage was tried at its place
slot_tried : (k : Setting) (from q stage m : ℕ) (s : Slots) (c : InFlight) → from ≤ stage + m → AreTried k from q stage s → slot_of m s ≡ Some c → IsTriedAt k (q + count (drop (suc m) s)) c
slot_tried k from q stage m [] c le h e = absurd (none-some _ e)
slot_tried k from q stage zero (None ∷ older) c le h e = absurd (none-some _ e)
slot_tried k from q stage zero (Some d ∷ older) c le h e = subst (λ (f : InFlight). IsTriedAt k (q + count older) f) (unsome _ _ e) (h.0 (omega (arith, le)))
slot_tried k from q stage (suc m) (None ∷ older) c le h e = slot_tried k from q (suc stage) m older c (omega (arith, le)) h e
slot_tried k from q stage (suc m) (Some d ∷ older) c le h e = slot_tried k from q (suc stage) m older c (omega (arith, le)) h.1 e

pub ahead_on : (d : Design) (image : List ℕ) (q : ℕ) (s : Slots) (a : Arch) → AreTried (hart_setting d image) d.sheet.shape.ex q 0 s →
    a ≡ run (view_extension d.extension) image (q + count (drop (suc d.sheet.shape.ex) s)) →
    ahead_of (slot_of d.sheet.shape.ex s) a ≡ run (view_extension d.extension) image (q + count (drop (suc d.sheet.shape.ex) s) + one_in (slot_of d.sheet.shape.ex s))
ahead_on d image q s a tried e =
    ahead_slot (view_extension d.extension) image (hart_setting d image) (q + count (drop (suc d.sheet.shape.ex) s)) (slot_of d.sheet.shape.ex s) a refl e
    (λ c here. slot_tried (hart_setting d image) d.sheet.shape.ex q 0 d.sheet.shape.ex s c (omega arith) tried here)
