-- What the laws of rows say whatever run they are judged by: where cells stand and retire, and what holds them in the last stage. A row that takes an interrupt changes the run by which
-- the rows behind it are judged, and none of this.
use Rattle.std.proofs.Common.{◌≡◌, ℕ, suc, ◌+◌, ◌-◌, ◌<◌, List, [], ◌∷◌, Option, Some, None, Bool, true, false, refl, sym, ap, ◌∙◌, subst, arith, inl, inr}
use Rattle.std.specs.Prelude.{if◌then◌else◌, ◌==◌, slice_get}
use Rattle.ix_plan.specs.declared.design.Design.{Design}
use Rattle.ix_plan.specs.Units.{Slots, next_units, unit_written, frozen_with}
use Rattle.rv_seq.specs.declared.commit.Stop.{Stop}
use Rattle.rv_seq.specs.Steps.{word_at}
use Rattle.rv_trace.specs.declared.row.Cell.{Cell}
use Rattle.rv_trace.specs.declared.row.Hold.TheVariants as H
use Rattle.rv_trace.specs.declared.row.Row.{Row}
use Rattle.rv_trace.specs.Trace.{newest, has_serial}
use Rattle.rv_trace.specs.RowParts.{names_of, stays, front, serial_after, fetched, comes, MovesInto}
use Rattle.rv_lawful.specs.Entering.{places}
use Rattle.rv_lawful.specs.Settings.{Setting, setting, stages_of, Stands, has_tail, tailed}
use Rattle.rv_lawful.specs.LawfulTrace.{Lawful, LawfulRow, TrueHold, StopsRun, WaitsForModule, WaitsForUnit, Retires, IsWordOf, next_serial, fetch_address}
use Rattle.rv_lawful.specs.Outstanding.{entering, units_after}
use Rattle.rv_ports.specs.Seats.{time_of}

-- a row after the earlier ones: each cell stands where the row before puts it, and what is fetched comes from some address; it retires from the last stage; Tail and a full unit hold a
-- cell of the last stage for their causes, and a full unit holds each that enters it
pub record IsFramed (k : Setting) (earlier : List Row) (row : Row) : Type 0 where
  pub address : ℕ
  pub moves : MovesInto (newest earlier) (comes (stays (newest earlier) (front (stages_of k (newest earlier)))) (fetched (next_serial k earlier) address (word_at k.image address)))
      (stages_of k (newest earlier)) (names_of (stages_of k row))
  pub retires : (stage : ℕ) → suc stage ≡ k.shape.stages → Retires k row stage
  pub tails : (stage : ℕ) (c : Cell) (left : ℕ) → Stands k row stage c → c.hold ≡ Some (H.Tail left) → WaitsForModule k earlier row stage c left
  pub full : (stage : ℕ) (c : Cell) (u : ℕ) → Stands k row stage c → k.shape.ex < stage → c.hold ≡ None → has_serial row.flushed c.serial ≡ false → WaitsForUnit k earlier row stage c u → ⊥

-- so each of these rows, and none follows a stop
abbrev pub Framed : Setting → List Row → Type 0
Framed k [] = Unit {0}
Framed k (row ∷ earlier) = IsFramed k earlier row × ((newest earlier).stop ≡ None) × Framed k earlier

-- ---- what is told of rows alike, at whatever places the run goes to the handler

module _ (d : Design) (image waits : List ℕ) (lines : Option (List ℕ)) (ps qs : List ℕ) where
  abbrev a : Setting
  a = setting d image waits lines ps

  abbrev b : Setting
  b = setting d image waits lines qs

  pub same_serial : (rows : List Row) → next_serial (setting d image waits lines ps) rows ≡ next_serial (setting d image waits lines qs) rows
  unfolding next_serial
  same_serial [] = refl
  same_serial (row ∷ earlier) = ap (λ n. serial_after n (front (stages_of b row))) (same_serial earlier)

  pub same_tailed : (rows : List Row) (s : ℕ) → tailed (setting d image waits lines ps) rows s ≡ tailed (setting d image waits lines qs) rows s
  unfolding tailed
  same_tailed [] s = refl
  same_tailed (row ∷ earlier) s = ap (λ n. if has_tail (slice_get (stages_of b row) (b.shape.stages - 1)) s then suc n else n) (same_tailed earlier s)

  pub time_there : (rows : List Row) (stage : ℕ) (c : Cell) → time_of (setting d image waits lines ps) rows stage c ≡ time_of (setting d image waits lines qs) rows stage c
  time_there rows stage c = by_test (suc stage == b.shape.stages) where
    by_test : (t : Bool) → (if t then stage + tailed a rows c.serial else stage) ≡ (if t then stage + tailed b rows c.serial else stage)
    by_test true = ap (λ n. stage + n) (same_tailed rows c.serial)
    by_test false = refl

  pub same_units : (rows : List Row) → units_after (setting d image waits lines ps) rows ≡ units_after (setting d image waits lines qs) rows
  unfolding units_after
  same_units [] = refl
  same_units (row ∷ earlier) = ap (λ (u : List Slots). next_units (entering b row.retired) u) (same_units earlier)

  pub word_there : (rows : List Row) (s word : ℕ) → IsWordOf (setting d image waits lines ps) rows s word → IsWordOf (setting d image waits lines qs) rows s word
  word_there [] s word h = absurd h
  word_there (row ∷ earlier) s word (inl h) = inl h
  word_there (row ∷ earlier) s word (inr h) = inr (word_there earlier s word h)

  -- ---- a lawful row

  tail_there : (earlier : List Row) (row : Row) (stage : ℕ) (c : Cell) (left : ℕ) → TrueHold a earlier row stage c (H.Tail left) → WaitsForModule b earlier row stage c left
  tail_there earlier row stage c left (inl h) = record { last = h.last; still = ap (λ n. left + n) (sym (same_tailed earlier c.serial)) ∙ h.still; some = h.some }
  tail_there earlier row stage c left (inr h) = cc (h.0)

  unit_there : (earlier : List Row) (row : Row) (stage : ℕ) (c : Cell) (u : ℕ) → WaitsForUnit b earlier row stage c u → WaitsForUnit a earlier row stage c u
  unit_there earlier row stage c u h =
      let y = h.frozen in
      let e = same_units earlier in
      record {
        last = h.last;
        enters = h.enters;
        frozen = (
          y.0,
          ap (λ (us : List Slots). slice_get us u) e ∙ y.1,
          ap (λ (us : List Slots). frozen_with u y.0 (unit_written us)) e ∙ y.2,
        );
      }

  no_stop : (earlier : List Row) (row : Row) (stage : ℕ) (c : Cell) (stop : Stop) → a.shape.ex < stage → StopsRun a earlier row stage c stop → ⊥
  no_stop earlier row stage c stop past h = (let e = h.executing in omega (arith, e, past))

  pub framed_row : (earlier : List Row) (row : Row) → LawfulRow (setting d image waits lines ps) earlier row → IsFramed (setting d image waits lines qs) earlier row
  framed_row earlier row h = record {
    address = fetch_address a earlier;
    moves =
        subst
        (λ n. MovesInto (newest earlier) (comes (stays (newest earlier) (front (stages_of a (newest earlier)))) (fetched n (fetch_address a earlier) (word_at image (fetch_address a earlier)))) (stages_of a (newest earlier)) (names_of (stages_of a row)))
        (same_serial earlier) h.moves;
    retires = λ stage last. (let r = h.retires stage last in record { leaver = r.leaver; retired = r.retired });
    tails = λ stage c left stands e. tail_there earlier row stage c left ((h.holds stage c stands).shown (H.Tail left) e);
    full = λ stage c u stands past e alive w.
        (h.holds stage c stands).free e alive (λ stop x. no_stop earlier row stage c stop past x) (H.UnitFull u) (inl (unit_there earlier row stage c u w));
  }

-- so are lawful rows, as any of them is judged
pub framed : (d : Design) (image waits : List ℕ) (lines : Option (List ℕ)) (qs : List ℕ) (rows : List Row) → Lawful (setting d image waits lines) rows → Framed (setting d image waits lines qs) rows
framed d image waits lines qs [] h = tt
framed d image waits lines qs (row ∷ earlier) h = (framed_row d image waits lines (places earlier) qs earlier row h.0, h.1, framed d image waits lines qs earlier h.2)
