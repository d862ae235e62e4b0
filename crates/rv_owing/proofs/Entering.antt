-- What retires in a lawful row: it stands in the last stage, has the word of its record, and its unit is open.
use Rattle.std.proofs.Common.{◌≡◌, ◌∙◌, refl, sym, ap, subst, ℕ, suc, ◌-◌, ◌<◌, List, Option, Some, None, Bool, true, false, arith, inl}
use Rattle.std.specs.Prelude.{◌||◌, if◌then◌else◌, is_some, slice_get}
use Rattle.ix_plan.specs.Units.{Slots, unit_written, frozen_with}
use Rattle.rv_seq.specs.declared.commit.Commit.{Commit}
use Rattle.rv_seq.specs.declared.commit.Stop.{Stop}
use Rattle.rv_trace.specs.declared.row.Cell.{Cell}
use Rattle.rv_trace.specs.declared.row.Row.{Row}
use Rattle.rv_trace.specs.declared.row.Hold.{Hold}
use Rattle.rv_trace.specs.declared.row.Hold.TheVariants.{UnitFull}
use Rattle.rv_trace.specs.Trace.{has_serial, newest, retirements}
use Rattle.rv_trace.specs.RowParts.{name_of, leaves}
use Rattle.rv_lawful.specs.Settings.{Setting, stages_of, Stands}
use Rattle.rv_lawful.specs.Outstanding.{units_after}
use Rattle.rv_lawful.specs.LawfulTrace.{IsWordOf, TrueHold, StopsRun, new_cell, LawfulRow}
use Rattle.rv_lawful.specs.Headline.{IsRecord}
use Rattle.rv_rows.specs.Facts.{IsPlain, AreGoingOn, MovesAbove, RowFacts, AboveFacts, FirstFacts}
use Rattle.rv_rows.proofs.Moving.{above_of}
use Rattle.rv_rows.proofs.Fetching.{left_unflushed}
use Rattle.rv_rows.specs.Recorded.{HasWords}
use Rattle.rv_rows.specs.Gone.{GoneLaw, LeavingFacts}

-- a cell that leaves shows no hold
left_free : (row : Row) (c : Cell) → leaves row (Some c) ≡ name_of (Some c) → c.hold ≡ None
left_free row c e = by_hold c.hold e where
  by_hold : (h : Option Hold) → (if is_some h || has_serial row.flushed c.serial then None else name_of (Some c)) ≡ name_of (Some c) → h ≡ None
  by_hold None q = refl
  by_hold (Some h) q = cc

-- the cell of what retires
pub record Retirement (k : Setting) (earlier : List Row) (row : Row) (s : ℕ) (c : Commit) : Type 0 where
  pub stage : ℕ
  pub cell : Cell
  pub last : suc stage ≡ k.shape.stages
  pub stands : Stands k row stage cell
  pub serial : cell.serial ≡ s
  pub known : IsWordOf k earlier s c.word
  pub word : c.word ≡ cell.word
  pub free : (h : Hold) → TrueHold k earlier row stage cell h → ⊥

module _ (rows : RowFacts) (gone : GoneLaw) (k : Setting) (earlier : List Row) (row : Row) (plain : IsPlain k) (words : HasWords k) (going : AreGoingOn k earlier) (lawful : LawfulRow k earlier row) where
  pub above_moves : MovesAbove k earlier row
  above_moves =
      above_of (newest earlier) (new_cell k earlier) (stages_of k (newest earlier)) (stages_of k row) lawful.moves

  pub above : AboveFacts k earlier row
  above = rows.above k earlier row plain going above_moves

  pub first : FirstFacts k earlier row
  first = rows.first k earlier row plain going lawful.moves

  pub leaving : LeavingFacts k earlier row
  leaving = gone.leaving k earlier row plain words going lawful

  last_is : suc (k.shape.stages - 1) ≡ k.shape.stages
  last_is = let a = plain.mem_last in omega (arith, a)

  last_up : (stage : ℕ) → suc stage ≡ k.shape.stages → 0 < stage
  last_up stage e = let a = plain.rd_pos in let b = plain.rd_ex in let d = plain.ex_mem in let f = plain.mem_last in omega (arith, a, b, d, e, f)

  unstopped : (stage : ℕ) (c : Cell) → suc stage ≡ k.shape.stages → (stop : Stop) → StopsRun k earlier row stage c stop → ⊥
  unstopped stage c e stop h = let at = h.executing in let d = plain.ex_mem in let f = plain.mem_last in omega (arith, at, e, d, f)

  pub retirement : (s : ℕ) (c : Commit) → row.retired ≡ Some (s, c) → IsRecord k (retirements earlier) c → Retirement k earlier row s c
  retirement s c e record_is =
      let x = (lawful.retires (k.shape.stages - 1) last_is).leaver s c e in
      let known = leaving.word s c e record_is in
      record {
        stage = k.shape.stages - 1;
        cell = x.0;
        last = last_is;
        stands = x.1;
        serial = x.3;
        known = known;
        word = above.one_word (k.shape.stages - 1) x.0 c.word (last_up (k.shape.stages - 1) last_is) x.1 (subst (λ n. IsWordOf k earlier n c.word) (sym x.3) known);
        free = (lawful.holds (k.shape.stages - 1) x.0 x.1).free (left_free row x.0 x.2) (left_unflushed row x.0 x.2) (unstopped (k.shape.stages - 1) x.0 last_is);
      }

  -- its unit is not frozen
  pub open_unit : (s : ℕ) (c : Commit) → row.retired ≡ Some (s, c) → IsRecord k (retirements earlier) c → (u : ℕ) (slots : Slots) → (k.asks c.word).unit ≡ Some u
      → slice_get (units_after k earlier) u ≡ Some slots → frozen_with u slots (unit_written (units_after k earlier)) ≡ false
  open_unit s c e record_is u slots enters at = by_case (frozen_with u slots (unit_written (units_after k earlier))) refl where
    out : Retirement k earlier row s c
    out = retirement s c e record_is

    by_case : (b : Bool) → frozen_with u slots (unit_written (units_after k earlier)) ≡ b → frozen_with u slots (unit_written (units_after k earlier)) ≡ false
    by_case false q = q
    by_case true q =
        absurd (out.free (UnitFull u) (inl (record {
          last = out.last;
          enters = ap (λ w. (k.asks w).unit) (sym out.word) ∙ enters;
          frozen = (slots, at, q);
        })))
