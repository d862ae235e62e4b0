-- What is known of a row that moves rightly, part by part.
use Rattle.std.proofs.Common.{◌≡◌, ◌∙◌, refl, sym, ap, subst, ℕ, zero, suc, ◌+◌, ◌-◌, ◌<◌, ◌≤◌, List, [], ◌∷◌, length, Option, Some, None, Bool, true, false, arith, inl, inr}
use Rattle.std.specs.Prelude.{slice_get, if◌then◌else◌, is_some}
use Rattle.std.proofs.lemmas.Option.{same_Some}
use Rattle.rv_asks.specs.declared.asks.Asks.{Asks}
use Rattle.rv_seq.specs.declared.commit.Commit.{Commit}
use Rattle.rv_past.specs.declared.step.Step.{Step}
use Rattle.rv_past.specs.Steps.{step_at}
use Rattle.rv_trace.specs.declared.row.Cell.{Cell}
use Rattle.rv_trace.specs.declared.row.Row.{Row}
use Rattle.rv_trace.specs.Trace.{place, retirements, newest}
use Rattle.rv_lawful.specs.Settings.{Setting, stages_of, Stands, stood, tailed}
use Rattle.rv_lawful.specs.Outstanding.{in_unit, entering, is_written}
use Rattle.rv_lawful.specs.LawfulTrace.{serial_in}
use Rattle.rv_rows.specs.Facts.{IsPlain, AreGoingOn, MovesAbove, AboveFacts}
use Rattle.rv_rows.specs.Kinds.{MovesRightly}
use Rattle.rv_watch.specs.declared.kept.Kept.{Kept}
use Rattle.rv_watch.specs.Kept.{was_here, IsKept}
use Rattle.rv_watch.proofs.Keeping.{stood_before, tailed_before}
use Rattle.rv_rows.specs.Known.{IsOwing}
use Rattle.rv_watch.specs.Parts.{so_far}
use Rattle.rv_watch.proofs.Tests.{differ, not_true, get_first, taken_below}
use Rattle.rv_watch.proofs.Cells.{low_place}

-- the stages of a core, from 0
pub record AreStages (k : Setting) : Type 0 where
  pub ex_some : 0 < k.shape.ex
  pub mem_some : 0 < k.shape.mem
  pub ex_in : k.shape.ex < 5
  pub mem_in : k.shape.mem < 5
  pub last_in : k.shape.stages - 1 < 5
  pub last_some : 0 < k.shape.stages - 1
  pub last : suc (k.shape.stages - 1) ≡ k.shape.stages

pub stages_are : (k : Setting) → IsPlain k → AreStages k
stages_are k plain =
    let a = plain.rd_pos in
    let b = plain.rd_ex in
    let c = plain.ex_mem in
    let d = plain.mem_last in
    let e = plain.most in
    record {
      ex_some = omega (arith, a, b);
      mem_some = omega (arith, a, b, c);
      ex_in = omega (arith, c, d, e);
      mem_in = omega (arith, d, e);
      last_in = omega (arith, a, b, c, d, e);
      last_some = omega (arith, a, b, c, d);
      last = omega (arith, d);
    }

-- what stands in a stage stands in the row
pub stands_in : (k : Setting) (row : Row) (stage : ℕ) (c : Cell) → Stands k row stage c → slice_get row.cells stage ≡ Some (Some c)
stands_in k row stage c e = sym (get_first k.shape.stages stage row.cells (taken_below k.shape.stages stage row.cells (Some c) e)) ∙ e

pub stage_in : (k : Setting) (row : Row) (stage : ℕ) (c : Cell) → IsPlain k → Stands k row stage c → stage < 5
stage_in k row stage c plain e = let lt = taken_below k.shape.stages stage row.cells (Some c) e in let most = plain.most in omega (arith, lt, most)

pub same_last : (k : Setting) (stage : ℕ) → suc stage ≡ k.shape.stages → stage ≡ k.shape.stages - 1
same_last k stage e = omega (arith, e)

-- ---- steps

module _ (k : Setting) (earlier : List Row) (row : Row) (plain : IsPlain k) (above : AboveFacts k earlier row) (steps : List Step)
    (are : (p : ℕ) (one : Step) → p < length steps → slice_get steps p ≡ Some one → one ≡ step_at k.course p) (many : retirements earlier + 6 ≤ length steps)
    (places : List ℕ) (placed : (stage : ℕ) (c : Cell) → 0 < stage → Stands k row stage c → slice_get places stage ≡ Some (place (row ∷ earlier) c.serial)) where
  at_place : (stage at : ℕ) (c : Cell) → 0 < stage → Stands k row stage c → slice_get places stage ≡ Some at → at ≡ place (row ∷ earlier) c.serial
  at_place stage at c some e p = same_Some at (place (row ∷ earlier) c.serial) (sym p ∙ placed stage c some e)

  -- the step of a cell
  pub step_here : (stage at : ℕ) (one : Step) (c : Cell) → 0 < stage → Stands k row stage c → slice_get places stage ≡ Some at → (at < length steps → slice_get steps at ≡ Some one) → one ≡ step_at k.course (place (row ∷ earlier) c.serial)
  step_here stage at one c some e p s =
      let same = at_place stage at c some e p in
      let low = low_place k earlier row plain above stage c some e in
      let lt : at < length steps = omega (arith, same, low, many) in
      are at one lt (s lt) ∙ ap (step_at k.course) same

  -- the step behind it
  pub step_behind : (stage at : ℕ) (one : Step) (c : Cell) → 0 < stage → Stands k row stage c → slice_get places stage ≡ Some at → (at + 1 < length steps → slice_get steps (at + 1) ≡ Some one)
      → one ≡ step_at k.course (suc (place (row ∷ earlier) c.serial))
  step_behind stage at one c some e p s =
      let same = at_place stage at c some e p in
      let low = low_place k earlier row plain above stage c some e in
      let lt : at + 1 < length steps = omega (arith, same, low, many) in
      let next : at + 1 ≡ suc (place (row ∷ earlier) c.serial) = omega (arith, same) in
      are (at + 1) one lt (s lt) ∙ ap (step_at k.course) next

-- ---- counts

module _ (k : Setting) (earlier : List Row) (before row : Row) (kept : Kept) (plain : IsPlain k) (newest_is : newest earlier ≡ before) (is : IsKept k earlier kept) where
  found : (was now : Option Cell) (c : Cell) (stage number : ℕ) → Stands k row stage c → slice_get row.cells stage ≡ Some now → so_far number was now ≡ (if was_here was c.serial then number else 0)
  found was now c stage number e f = ap (λ o. so_far number was o) (same_Some now (Some c) (sym f ∙ stands_in k row stage c e))

  pub stood_is : (was now : Option Cell) (c : Cell) → Stands k row k.shape.mem c → slice_get before.cells k.shape.mem ≡ Some was → slice_get row.cells k.shape.mem ≡ Some now → so_far kept.stood was now ≡ stood k earlier c.serial
  stood_is was now c e f g = found was now c k.shape.mem kept.stood e g ∙ sym (stood_before k earlier before row kept plain newest_is is was c f)

  pub tailed_is : AboveFacts k earlier row → (last : ℕ) (was now : Option Cell) (c : Cell) → suc last ≡ k.shape.stages → Stands k row last c → slice_get before.cells last ≡ Some was → slice_get row.cells last ≡ Some now
      → so_far kept.tailed was now ≡ tailed k earlier c.serial
  tailed_is above last was now c end e f g = found was now c last kept.tailed e g ∙ sym (tailed_before k earlier before row kept plain newest_is is above last was c end f e)

-- ---- what retires was not written

pub unwritten : (k : Setting) (earlier : List Row) (row : Row) → IsPlain k → AboveFacts k earlier row → IsOwing k earlier → MovesRightly k earlier row → (s : ℕ) → serial_in (entering k row.retired) ≡ Some s → is_written earlier s ≡ false
unwritten k earlier row plain above owing moves s e = by_case row.retired refl e where
  of_unit : (t : ℕ) (u : Option ℕ) → serial_in (in_unit t u) ≡ Some s → t ≡ s
  of_unit t None q = cc
  of_unit t (Some u) q = same_Some t s q

  by_case : (o : Option (ℕ × Commit)) → row.retired ≡ o → serial_in (entering k o) ≡ Some s → is_written earlier s ≡ false
  by_case None q f = cc
  by_case (Some (t, d)) q f =
      let are = stages_are k plain in
      let x = (moves.retires (k.shape.stages - 1) are.last).leaver t d q in
      let new = (above.in_place (k.shape.stages - 1) x.0 are.last_some x.1).unretired in
      subst (λ n. is_written earlier n ≡ false) (x.3 ∙ of_unit t (k.asks d.word).unit f)
      (not_true (is_written earlier x.0.serial) (λ w. differ (sym (owing.written x.0.serial w) ∙ new)))
