-- The rows of the run in which a block and a `spawn` body write one register are lawful, and keep what both write.
use Rattle.std.proofs.Common.{◌≡◌, ℕ, List, [], ◌∷◌, Some, None, Bool, true, false, refl, sym, ap, ◌∙◌, arith, inl, inr}
use Rattle.std.specs.Prelude.{get_or}
use Rattle.ix_bits.specs.declared.number.Bits.{Bits}
use Rattle.rv_lawful.specs.Headline.{IsSpawnWrite}
use Rattle.rv_lawful.specs.LawfulTrace.{fetch_address, next_serial, Lawful}
use Rattle.rv_lawful.specs.Outstanding.{units_after, is_written, decoupled, architecture}
use Rattle.rv_seq.specs.Commits.{applied}
use Rattle.rv_seq.specs.States.{first, zero_bit}
use Rattle.rv_seq.specs.declared.answer.StepAnswer.{StepAnswer}
use Rattle.rv_seq.specs.declared.answer.StepAnswer.TheVariants.{Done}
use Rattle.rv_seq.specs.declared.commit.Commit.{Commit}
use Rattle.rv_seq.specs.declared.commit.Slot.{Slot}
use Rattle.rv_seq.specs.declared.commit.Slot.TheVariants.{Absent, Now, Later}
use Rattle.rv_seq.specs.declared.commit.Stop.TheVariants.{Ebreak}
use Rattle.rv_trace.specs.declared.row.Hold.TheVariants.{Board, Drain}
use Rattle.ix_plan.specs.declared.design.Target.TheVariants.{Custom}
use Rattle.rv_trace.specs.Trace.{newest, is_flushed, is_retired, place, retirements}
use Rattle.rv_tried.specs.declared.parts.Spawned.{Spawned}
use Rattle.rv_tried.specs.Parts.{native, spawned, paid}
use Rattle.row_laws.specs.Sharing.{of_block, left_by, sharing_record, sharing_answer, sharing_hand, sharing, sharer, break, row_0, two_rows, sharing_write, sharing_three, sharing_four, sharing_rows, IsUnlawful, drains_first, Holds, HoldsApplied, HoldsNot, IsNoWrite, block_by_unit}
use Rattle.row_laws.proofs.Stages.{no_custom, AllNamed}
use Rattle.row_laws.proofs.Tests.{IsSimple}
use Rattle.row_laws.proofs.Judging.{waits_for_write}
use Rattle.row_laws.proofs.Judged.{Judged, no_rows, next_row, stop_row, row_named}

simple : (b : Bool) → IsSimple (sharing_hand b)
simple b = record { late = λ word. refl; loads = λ word. refl; tail = λ word. refl; unlate = λ word r. no_custom r }

judged_1 : (b : Bool) → Judged (sharing_hand b) (row_0 ∷ [])
unfolding fetch_address next_serial is_flushed is_retired is_written place units_after decoupled
judged_1 b = next_row (sharing_hand b) (simple b) [] (Some sharer) None None None None (no_rows (sharing_hand b)) refl (record { moves = (refl, (refl, (refl, tt))); units = refl; names = refl; cells = refl }) refl refl

judged_2 : (b : Bool) → Judged (sharing_hand b) two_rows
unfolding fetch_address next_serial is_flushed is_retired is_written place units_after decoupled
judged_2 b = next_row (sharing_hand b) (simple b) (row_0 ∷ []) (Some (break None)) (Some sharer) None None None (judged_1 b) refl (record { moves = (refl, (refl, (refl, tt))); units = refl; names = refl; cells = refl }) refl refl

judged_3 : (b : Bool) → Judged (sharing_hand b) sharing_three
unfolding fetch_address next_serial is_flushed is_retired is_written place units_after decoupled
judged_3 b =
    next_row (sharing_hand b) (simple b) two_rows None (Some (break (Some (Board (Custom 0) 0)))) (Some sharer) (Some (0, sharing_record Later)) None (judged_2 b) refl
    (record { moves = (refl, (refl, (refl, tt))); units = refl; names = refl; cells = refl }) refl refl

judged_4 : (b : Bool) → Judged (sharing_hand b) (sharing_four b)
unfolding fetch_address next_serial is_flushed is_retired is_written place units_after decoupled
judged_4 true =
    next_row (sharing_hand true) (simple true) sharing_three None (Some (break (Some (Board (Custom 0) 0)))) None None (Some (sharing_write true)) (judged_3 true) refl
    (record { moves = (refl, (refl, (refl, tt))); units = refl; names = refl; cells = refl }) refl refl
judged_4 false =
    next_row (sharing_hand false) (simple false) sharing_three None (Some (break (Some (Board (Custom 0) 0)))) None None (Some (sharing_write false)) (judged_3 false) refl
    (record { moves = (refl, (refl, (refl, tt))); units = refl; names = refl; cells = refl }) refl refl

judged_5 : (b : Bool) → Judged (sharing_hand b) (sharing_rows b)
unfolding fetch_address next_serial is_flushed is_retired is_written place units_after decoupled
judged_5 true =
    stop_row (sharing_hand true) (simple true) (sharing_four true) None (break None) None None None Ebreak (judged_4 true) refl
    (record { moves = (refl, (refl, (refl, tt))); units = refl; names = refl; cells = refl }) refl refl
judged_5 false =
    stop_row (sharing_hand false) (simple false) (sharing_four false) None (break None) None None None Ebreak (judged_4 false) refl
    (record { moves = (refl, (refl, (refl, tt))); units = refl; names = refl; cells = refl }) refl refl

pub sharing_lawful : (b : Bool) → Lawful (λ places. sharing b) (sharing_rows b)
sharing_lawful b = (judged_5 b).lawful

names_3 : (b : Bool) → AllNamed (sharing_hand b) drains_first
names_3 b = (row_named (sharing_hand b) None (Some (break (Some (Drain 0)))) (Some sharer) (Some (0, sharing_record Later)) None None refl, (judged_2 b).names)

pub drains_first_refused : (b : Bool) → IsUnlawful b drains_first
unfolding is_flushed is_written
drains_first_refused b h =
    let wait = waits_for_write (sharing_hand b) two_rows (newest drains_first) (break (Some (Drain 0))) (Custom 0) 0 (names_3 b) refl in
    elim ((h.0.holds 1 (break (Some (Drain 0))) refl).shown_first (Drain 0) (Board (Custom 0) 0) refl (inl wait)) [ inl x ↦ absurd (omega (arith, x)) | inr x ↦ let e = x.0 in absurd (omega (arith, e)) ]

-- States

pub block_first : (b : Bool) → Holds b sharing_three of_block
unfolding architecture retirements native paid applied first
block_first b = refl

-- the block's write is not lost
pub block_kept : (b : Bool) → HoldsNot b sharing_three zero_bit
block_kept b h = let e : ◌≡◌ {A = ℕ} 5 0 = ap (λ (v : Bits). v.raw) (sym (block_first b) ∙ h) in absurd (omega (arith, e))

pub applied_before : (b : Bool) → HoldsApplied b sharing_three (left_by b)
unfolding architecture decoupled is_written is_flushed place retirements native spawned paid applied first
applied_before true = refl
applied_before false = refl

pub instruction_last : (b : Bool) → Holds b (sharing_four b) (left_by b)
unfolding architecture retirements native paid applied first
instruction_last true = refl
instruction_last false = refl

-- Writes

pub writes_own : (b : Bool) → IsSpawnWrite (sharing b) sharing_three (sharing_write b)
unfolding is_flushed is_retired is_written place spawned
writes_own true = record { commit = sharing_record (Now (left_by true)); step = refl; values = refl; retired = refl; once = refl }
writes_own false = record { commit = sharing_record (Now (left_by false)); step = refl; values = refl; retired = refl; once = refl }

-- the number that is written, 0 where there is none
abbrev told : Slot Bits → ℕ
told Absent = 0
told (Now n) = n.raw
told Later = 0

abbrev first_told : List (Slot Bits) → ℕ
first_told l = told (get_or l 0 Absent)

done_same : (a : StepAnswer) (c d : Commit) → a ≡ Done c → a ≡ Done d → c ≡ d
done_same a c d e f = the (sym e ∙ f) where
  the : ◌≡◌ {A = StepAnswer} (Done c) (Done d) → c ≡ d
  the q = cc

pub block_by_unit_refused : (b : Bool) → IsNoWrite b block_by_unit
unfolding is_flushed place spawned
block_by_unit_refused true w =
    let same = done_same (sharing_answer true 0) (sharing_record (Now (left_by true))) w.commit refl w.step in
    let e : ◌≡◌ {A = ℕ} 5 7 = ap (λ (s : Spawned). first_told s.custom) w.values ∙ ap (λ (c : Commit). first_told (spawned ((sharing true).asks c.word) ((sharing true).course.own 0) c).custom) (sym same) in
    absurd (omega (arith, e))
block_by_unit_refused false w =
    let same = done_same (sharing_answer false 0) (sharing_record (Now (left_by false))) w.commit refl w.step in
    let e : ◌≡◌ {A = ℕ} 5 0 = ap (λ (s : Spawned). first_told s.custom) w.values ∙ ap (λ (c : Commit). first_told (spawned ((sharing false).asks c.word) ((sharing false).course.own 0) c).custom) (sym same) in
    absurd (omega (arith, e))
