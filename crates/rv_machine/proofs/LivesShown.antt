-- What a row shows a module of its cells, and how a token moves by it.
use Rattle.std.proofs.Common.{◌≡◌, ◌≢◌, ℕ, suc, ◌+◌, ◌-◌, ◌<◌, ◌≤◌, ◌^◌, List, Option, Some, None, Bool, true, false, refl, ap, ◌∙◌, arith}
use Rattle.std.specs.Prelude.{◌&&◌, not, if◌then◌else◌, ◌==◌, is_some, nat_lt, slice_get}
use Rattle.std.proofs.lemmas.Bool.Decides.{nat_tests}
use Rattle.ix_eval.proofs.Tables.{table_at}
use Rattle.ix_graph.specs.declared.graph.Mode.{Mode}
use Rattle.ix_net.specs.declared.netlist.Net.{Net}
use Rattle.ix_plan.specs.Service.{enable_at, Moves}
use Rattle.rv_trace.specs.declared.row.Cell.{Cell}
use Rattle.rv_trace.specs.declared.row.Row.{Row}
use Rattle.rv_trace.specs.RowParts.{Name, leaves}
use Rattle.rv_lawful.specs.Settings.{stages_of}
use Rattle.rv_lawful.specs.Future.{cell_in}
use Rattle.rv_lawful.specs.Outstanding.{units_after}
use Rattle.rv_ports.specs.declared.modules.Module.{Module}
use Rattle.rv_ports.specs.declared.shown.Shown.{Shown}
use Rattle.rv_ports.specs.Drives.{Drives}
use Rattle.rv_ports.specs.Seats.{seat_in, cell_at, freezes, shown_by}
use Rattle.rv_ports.specs.Inputs.{seat_at, moves_on, is_number, stands_still, enable_beyond, enable_value}

-- ---- numbers

pub less_true : (a b : ℕ) → a < b → nat_lt a b ≡ true
less_true a b h = grind (arith, nat_tests)

pub less_false : (a b : ℕ) → b ≤ a → nat_lt a b ≡ false
less_false a b h = grind (arith, nat_tests)

pub equal_true : (a b : ℕ) → a ≡ b → (a == b) ≡ true
equal_true a b e = grind (arith, nat_tests)

pub equal_false : (a b : ℕ) → b < a → (a == b) ≡ false
equal_false a b h = grind (arith, nat_tests)

pub equal_false_up : (a b : ℕ) → a < b → (a == b) ≡ false
equal_false_up a b h = grind (arith, nat_tests)

pub equal_of : (a b : ℕ) → (a == b) ≡ true → a ≡ b
equal_of a b e = grind (arith, nat_tests)

-- ---- cells

pub not_and_false : (b : Bool) → not (b && false) ≡ true
not_and_false true = refl
not_and_false false = refl

-- what does not leave does not move
pub no_move : (d : Drives) (earlier : List Row) (row : Row) (stage : ℕ) (o : Option Cell) → leaves row o ≡ None → moves_on (seat_in d earlier row stage o) ≡ false
no_move d earlier row stage None e = refl
no_move d earlier row stage (Some c) e = ap (λ (x : Option Name). is_some x && not ((stage == d.setting.shape.ex) && is_some row.stop)) e

-- what leaves moves, in a row without a stop
pub some_move : (d : Drives) (earlier : List Row) (row : Row) (stage : ℕ) (c : Cell) (x : Name) → leaves row (Some c) ≡ Some x → row.stop ≡ None → moves_on (seat_in d earlier row stage (Some c)) ≡ true
some_move d earlier row stage c x e f =
    ap (λ (y : Option Name). is_some y && not ((stage == d.setting.shape.ex) && is_some row.stop)) e
    ∙ ap (λ o. not ((stage == d.setting.shape.ex) && is_some o)) f
    ∙ not_and_false (stage == d.setting.shape.ex)

pub own_number_is : (o : Option ℕ) (n : ℕ) → o ≡ Some n → is_number o n ≡ true
own_number_is o n e = ap (λ x. is_number x n) e ∙ equal_true n n refl

module _ (d : Drives) (earlier : List Row) (row : Row) where
  pub seat_is : (stage : ℕ) → stage < 5 → seat_at (shown_by d earlier row) stage ≡ seat_in d earlier row stage (cell_at d.setting row stage)
  unfolding shown_by
  seat_is stage lt = table_at (λ i. seat_in d earlier row i (cell_at d.setting row i)) 5 stage None lt

  pub frozen_is : (u : ℕ) → u < 64 → stands_still (shown_by d earlier row) (Some u) ≡ freezes (units_after d.setting earlier) u
  unfolding shown_by
  frozen_is u lt = table_at (freezes (units_after d.setting earlier)) 64 u false lt

  -- the cell of a stage
  pub seat_there : (stage : ℕ) (o : Option Cell) → stage < 5 → slice_get (stages_of d.setting row) stage ≡ Some o → seat_at (shown_by d earlier row) stage ≡ seat_in d earlier row stage o
  seat_there stage o lt e = seat_is stage lt ∙ ap (λ x. seat_in d earlier row stage (cell_in x)) e

-- ---- enables

pub enable_below : (m : Module) (w : Shown) (t : ℕ) → suc t < m.shape.stages → enable_value m w t ≡ moves_on (seat_at w t)
enable_below m w t lt = ap (λ (b : Bool). if b then moves_on (seat_at w t) else enable_beyond m.mode m w t) (less_true (suc t) m.shape.stages lt)

pub enable_above : (m : Module) (w : Shown) (t : ℕ) (mode : Mode) → m.mode ≡ mode → m.shape.stages ≤ suc t → enable_value m w t ≡ enable_beyond mode m w t
enable_above m w t mode e le = ap (λ (b : Bool). if b then moves_on (seat_at w t) else enable_beyond m.mode m w t) (less_false (suc t) m.shape.stages le) ∙ ap (λ x. enable_beyond x m w t) e

-- ---- moves

-- enables tell what a row shows, up to the last time
pub record Tells (net : Net) (values : List ℕ) (m : Module) (w : Shown) (last : ℕ) : Type 0 where
  pub set : (t : ℕ) → m.shape.rd ≤ t → t < last → enable_value m w t ≡ true → enable_at net values t ≡ 1
  pub clear : (t : ℕ) → t < 2 ^ 64 → enable_value m w t ≡ false → enable_at net values t ≢ 1

module _ (net : Net) (values : List ℕ) (m : Module) (w : Shown) (last : ℕ) (tells : Tells net values m w last) where
  pub step_on : (u v : ℕ) → m.shape.rd ≤ u → v ≤ last → enable_value m w u ≡ true → v ≡ u + 1 → Moves net m.shape.rd values u v
  step_on u v low high e next =
      let one : enable_at net values u ≡ 1 = tells.set u low (omega (arith, high, next)) e in
      record { goes = λ q. next; stays = λ ne. absurd (ne one); alone = λ ne lt. absurd (ne one) }

  pub step_off : (u v : ℕ) → v < 2 ^ 64 → enable_value m w u ≡ false → (m.shape.rd < u → enable_value m w (u - 1) ≡ false) → v ≡ u → Moves net m.shape.rd values u v
  step_off u v bound e behind same =
      record {
        goes = λ one. absurd (tells.clear u (omega (arith, bound, same)) e one);
        stays = λ ne. same;
        alone = λ ne lt. tells.clear (u - 1) (omega (arith, bound, same)) (behind lt);
      }
