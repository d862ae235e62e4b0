-- The enables of a row are the same at whatever places the run goes to the handler.
use Rattle.std.proofs.Common.{◌≡◌, ℕ, suc, ◌-◌, ◌<◌, ◌≤◌, List, Option, Some, None, Bool, true, false, refl, sym, ap, ◌∙◌, arith}
use Rattle.std.specs.Prelude.{◌&&◌, not, if◌then◌else◌, ◌==◌, nat_lt, get_or}
use Rattle.std.proofs.lemmas.Bool.Decides.{nat_tests}
use Rattle.ix_eval.specs.Tables.{table}
use Rattle.ix_graph.specs.declared.graph.Mode.{Mode}
use Rattle.ix_graph.specs.declared.graph.Mode.TheVariants.{InPipeline, Tight, Decoupled, Always}
use Rattle.ix_net.specs.declared.netlist.Net.{Net}
use Rattle.ix_plan.specs.declared.design.Design.{Design}
use Rattle.ix_plan.specs.Units.{Slots}
use Rattle.rv_trace.specs.declared.row.Cell.{Cell}
use Rattle.rv_trace.specs.declared.row.Row.{Row}
use Rattle.rv_ports.specs.declared.modules.Module.{Module}
use Rattle.rv_ports.specs.declared.shown.Seat.{Seat}
use Rattle.rv_ports.specs.declared.shown.Shown.{Shown}
use Rattle.rv_ports.specs.Drives.{Drives, drives_of}
use Rattle.rv_ports.specs.Seats.{seat_in, cell_at, freezes, shown_by}
use Rattle.rv_ports.specs.Inputs.{seat_at, moves_on, is_own, last_seat, is_tailed, stands_still, enable_beyond, enable_value}
use Rattle.rv_machine.proofs.LivesFrame.{same_units}
use Rattle.rv_machine.proofs.LivesShown.{seat_is, Tells}

module _ (d : Design) (image waits : List ℕ) (lines : Option (List ℕ)) (ps qs : List ℕ) (earlier : List Row) (row : Row) where
  abbrev x : Drives
  x = drives_of d image waits lines ps

  abbrev y : Drives
  y = drives_of d image waits lines qs

  abbrev v : Shown
  v = shown_by (drives_of d image waits lines ps) earlier row

  abbrev w : Shown
  w = shown_by (drives_of d image waits lines qs) earlier row

  same_moves : (stage : ℕ) (o : Option Cell) → moves_on (seat_in x earlier row stage o) ≡ moves_on (seat_in y earlier row stage o)
  same_moves stage None = refl
  same_moves stage (Some c) = refl

  same_own : (n stage : ℕ) (o : Option Cell) → (is_own n (seat_in x earlier row stage o) && moves_on (seat_in x earlier row stage o)) ≡ (is_own n (seat_in y earlier row stage o) && moves_on (seat_in y earlier row stage o))
  same_own n stage None = refl
  same_own n stage (Some c) = refl

  same_tails : (n stage : ℕ) (o : Option Cell) → (is_own n (seat_in x earlier row stage o) && is_tailed (seat_in x earlier row stage o)) ≡ (is_own n (seat_in y earlier row stage o) && is_tailed (seat_in y earlier row stage o))
  same_tails n stage None = refl
  same_tails n stage (Some c) = refl

  same_still : (o : Option ℕ) → stands_still v o ≡ stands_still w o
  unfolding shown_by
  same_still None = refl
  same_still (Some u) = ap (λ (us : List Slots). get_or (table (freezes us) 64) u false) (same_units d image waits lines ps qs earlier)

  module _ (m : Module) (most : m.shape.stages ≤ 5) (some : 0 < m.shape.stages) where
    last_five : m.shape.stages - 1 < 5
    last_five = omega (arith, most, some)

    last_is : (z : Drives) → last_seat m (shown_by z earlier row) ≡ seat_in z earlier row (m.shape.stages - 1) (cell_at z.setting row (m.shape.stages - 1))
    last_is z = seat_is z earlier row (m.shape.stages - 1) last_five

    own_last : (is_own m.number (last_seat m v) && moves_on (last_seat m v)) ≡ (is_own m.number (last_seat m w) && moves_on (last_seat m w))
    own_last =
        ap (λ (s : Option Seat). is_own m.number s && moves_on s) (last_is x)
        ∙ same_own m.number (m.shape.stages - 1) (cell_at x.setting row (m.shape.stages - 1))
        ∙ sym (ap (λ (s : Option Seat). is_own m.number s && moves_on s) (last_is y))

    tails_last : (is_own m.number (last_seat m v) && is_tailed (last_seat m v)) ≡ (is_own m.number (last_seat m w) && is_tailed (last_seat m w))
    tails_last =
        ap (λ (s : Option Seat). is_own m.number s && is_tailed s) (last_is x)
        ∙ same_tails m.number (m.shape.stages - 1) (cell_at x.setting row (m.shape.stages - 1))
        ∙ sym (ap (λ (s : Option Seat). is_own m.number s && is_tailed s) (last_is y))

    same_beyond : (mode : Mode) (t : ℕ) → enable_beyond mode m v t ≡ enable_beyond mode m w t
    same_beyond InPipeline t = refl
    same_beyond Always t = refl
    same_beyond Tight t = tails_last
    same_beyond Decoupled t =
        ap (λ (b : Bool). if suc t == m.shape.stages then b else not (stands_still v m.unit)) own_last
        ∙ ap (λ (b : Bool). if suc t == m.shape.stages then is_own m.number (last_seat m w) && moves_on (last_seat m w) else not b) (same_still m.unit)

    same_enable : (t : ℕ) → enable_value m v t ≡ enable_value m w t
    same_enable t = by_test (nat_lt (suc t) m.shape.stages) refl where
      by_test : (b : Bool) → nat_lt (suc t) m.shape.stages ≡ b → (if b then moves_on (seat_at v t) else enable_beyond m.mode m v t) ≡ (if b then moves_on (seat_at w t) else enable_beyond m.mode m w t)
      by_test true e =
          let less : suc t < m.shape.stages = grind (arith, nat_tests) in
          let five : t < 5 = omega (arith, less, most) in
          ap moves_on (seat_is x earlier row t five) ∙ same_moves t (cell_at x.setting row t) ∙ sym (ap moves_on (seat_is y earlier row t five))
      by_test false e = same_beyond m.mode t

-- so what tells them of a row tells them of it as it is judged otherwise
pub tells_there : (d : Design) (image waits : List ℕ) (lines : Option (List ℕ)) (ps qs : List ℕ) (earlier : List Row) (row : Row) (net : Net) (values : List ℕ) (m : Module) (last : ℕ) → m.shape.stages ≤ 5 → 0 < m.shape.stages
    → Tells net values m (shown_by (drives_of d image waits lines ps) earlier row) last → Tells net values m (shown_by (drives_of d image waits lines qs) earlier row) last
tells_there d image waits lines ps qs earlier row net values m last most some h = record {
  set = λ t low high e. h.set t low high (same_enable d image waits lines ps qs earlier row m most some t ∙ e);
  clear = λ t small e. h.clear t small (same_enable d image waits lines ps qs earlier row m most some t ∙ e);
}
