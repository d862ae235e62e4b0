-- The rows of a machine are those of a setting that names no places.
use Rattle.std.proofs.Common.{◌≡◌, ◌∙◌, ap, subst, ℕ, List}
use Rattle.rv_trace.specs.declared.row.Row.{Row}
use Rattle.rv_engine.specs.Settings.{Setting, Machine, setting}
use Rattle.rv_machine.specs.Running.{machine_at, AreRows}
use Rattle.rv_nets.specs.Modules.{Driver, Reached}
use Rattle.rv_pipe.specs.Machines.{IsSound, shown_over}
use Rattle.rv_pipe.proofs.Sound.{plainly}

module _ (k : Setting) (m : Machine) (rows : List Row) (spare : ℕ) (modules : List Driver) (sound : IsSound k m rows spare modules) where
  pub kept_there : m ≡ machine_at (setting k.design k.image k.waits k.lines) rows
  kept_there = sound.machine ∙ ap (λ s. machine_at s rows) (plainly k sound.plain)

  pub rows_there : AreRows (setting k.design k.image k.waits k.lines) rows
  rows_there = subst (λ s. AreRows s rows) (plainly k sound.plain) sound.are_rows

  pub shown_there : Reached k.design (shown_over (setting k.design k.image k.waits k.lines) rows) modules
  shown_there = subst (λ (s : Setting). Reached k.design (shown_over s rows) modules) (plainly k sound.plain) sound.reached
