-- What a hart keeps between rows, as the definition of its rows has it (this project's choice).
use Rattle.std.specs.Prelude.{◌≡◌, ℕ, suc, ◌+◌, ◌≤◌, List, ◌∷◌, length, take, drop, vec_capacity, Option, Some, None, Bool, true, false, if◌then◌else◌}
use Rattle.std.specs.Option.{option_or}
use Rattle.ix_extension.specs.Extensions.{ExtensionTree}
use Rattle.rv_seq.specs.WordEffects.{AreWide}
use Rattle.rv_harts.specs.HartRows.{hart_at}
use Rattle.rv_harts.specs.HartStates.{architecture}
use Rattle.rv_lawful.specs.Settings.{Setting}
use Rattle.rv_seq.specs.declared.arch.Arch.{Arch}
use Rattle.rv_seq.specs.declared.commit.Stop.{Stop}
use Rattle.rv_seq.specs.declared.commit.Stop.TheVariants.{Fetch}
use Rattle.rv_seq.specs.Runs.{run}
use Rattle.rv_unit.specs.Slots.{units_of}
use Rattle.rv_unit.specs.Standing.{Standing}
use Rattle.rv_barrel.specs.declared.cell.Front.{Front}
use Rattle.rv_barrel.specs.declared.cell.Owed.{Owed}
use Rattle.rv_barrel.specs.declared.side.Side.{Side}
use Rattle.rv_barrel.specs.Cells.{Slots, count, fetched_of, AreAsked, AreOwed}
use Rattle.rv_barrel.specs.Turning.{AreTried}

-- why a hart stops, where an instruction makes this stop, if one does, and nothing is left or something is
abbrev pub stop_by : Option Stop → Bool → Option Stop
stop_by stop over = option_or stop (if over then Some Fetch else None)

-- what is kept of hart h before row n
pub record IsSide (x : ExtensionTree) (k : Setting) (h n : ℕ) (slots : Slots) (front : Front) (ahead arch : Arch) (units : Standing) (owed : List Owed) (room : ℕ) : Type 0 where
  pub above : fetched_of (hart_at k h n).retired slots ≡ None ∷ (hart_at k h n).above
  pub long : length slots ≡ k.shape.stages
  pub asked : AreAsked k slots
  pub tried : AreTried k (suc k.shape.ex) (hart_at k h n).retired 0 slots
  pub idle : (hart_at k h n).stopped ≡ true → count slots ≡ 0
  pub fetch : front.fetch ≡ (hart_at k h n).fetch
  pub next : front.next ≡ (hart_at k h n).next
  pub stopped : front.stopped ≡ (hart_at k h n).stopped
  pub executed : (hart_at k h n).stopped ≡ false → ahead ≡ run x k.image ((hart_at k h n).retired + count (drop (suc k.shape.ex) slots))
  pub wide : AreWide x ahead.custom
  pub state : arch ≡ architecture x k h n
  pub standing : units_of units.stages units.lasts units.entries ≡ (hart_at k h n).units
  pub stages : units.stages ≡ k.shape.stages
  pub lasts : length units.lasts ≡ length k.units
  pub owing : AreOwed k owed (hart_at k h n).owed
  pub capacity : length k.units ≤ room

-- the same of a side as it is kept: past the stages of the core nothing counts
abbrev pub IsKept : ExtensionTree → Setting → ℕ → ℕ → Side → Type 0
IsKept x k h n side = IsSide x k h n (take k.shape.stages side.slots) side.front side.ahead side.arch side.units side.owed.items (vec_capacity side.owed)
