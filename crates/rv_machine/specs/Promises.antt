-- What the rows of a machine promise (this project's choice): they are lawful, and what they show is the run one instruction at a time.
use Rattle.std.specs.Prelude.{◌≡◌, ℕ, ◌^◌, ◌<◌, ◌≤◌, List, ◌∷◌, length, Option, Some}
use Rattle.ix_extension.specs.Extensions.{view_extension}
use Rattle.ix_plan.specs.declared.design.Design.{Design}
use Rattle.ix_standing.specs.Standing.{Stands}
use Rattle.rv_seq.specs.Runs.{run_with}
use Rattle.rv_seq.specs.Steps.{word_at}
use Rattle.rv_trace.specs.declared.row.Row.{Row}
use Rattle.rv_trace.specs.Trace.{retirements}
use Rattle.rv_engine.specs.Settings.{setting}
use Rattle.rv_engine.specs.Showing.{shown_of}
use Rattle.rv_ports.specs.Drives.{drives_of}
use Rattle.rv_ports.specs.Seats.{shown_by}
use Rattle.rv_lawful.specs.Settings as Lawful
use Rattle.rv_lawful.specs.Entering.{places}
use Rattle.rv_lawful.specs.Outstanding.{architecture, applied_state, outstanding_targets}
use Rattle.rv_lawful.specs.Headline.{Headline}
use Rattle.rv_machine.specs.Running.{AreRows, machine_at}
use Rattle.rv_machine.specs.Owing.{targets_owed}
use Rattle.rv_machine.specs.DesignText.{most_targets, IsDesignText}
use Rattle.rv_machine.specs.LawfulText.{IsLawfulText}

-- a design that stands, whose handler begins at a word's address, and an image of words
pub record IsRunnable (d : Design) (image : List ℕ) : Type 0 where
  pub stands : Stands d
  pub handler : d.sheet.shape.trap < 2 ^ 32
  pub words : (at word : ℕ) → word_at image at ≡ Some word → word < 2 ^ 32

-- the state of their machine is that which the rows tell, it is the run's with what is outstanding applied in the order of retirement, and the machine lists what is outstanding
pub record IsStateOf (d : Design) (image waits : List ℕ) (lines : Option (List ℕ)) (rows : List Row) : Type 0 where
  pub state : (machine_at (setting d image waits lines) rows).arch ≡ architecture (view_extension d.extension) (Lawful.setting d image waits lines (places rows)) rows
  pub applied : applied_state (view_extension d.extension) (Lawful.setting d image waits lines (places rows)) rows ≡ run_with (view_extension d.extension) image (Lawful.entries_at d.sheet.shape.trap lines (places rows)) (retirements rows)
  pub targets : targets_owed (machine_at (setting d image waits lines) rows).owed ≡ outstanding_targets (Lawful.setting d image waits lines (places rows)) rows
  pub few : length (outstanding_targets (Lawful.setting d image waits lines (places rows)) rows) ≤ most_targets

-- the headline holds of the rows of their machine
abbrev pub RowsLaw : Type 0
RowsLaw = (d : Design) (image waits : List ℕ) (lines : Option (List ℕ)) (rows : List Row) → IsRunnable d image → AreRows (setting d image waits lines) rows → Headline d image waits lines rows

-- so of what they leave
abbrev pub StateLaw : Type 0
StateLaw = (d : Design) (image waits : List ℕ) (lines : Option (List ℕ)) (rows : List Row) → IsRunnable d image → AreRows (setting d image waits lines) rows → IsStateOf d image waits lines rows

-- and of what they show the modules in a row after these
abbrev pub ShownLaw : Type 0
ShownLaw =
    (d : Design) (image waits : List ℕ) (lines : Option (List ℕ)) (row : Row) (earlier : List Row) → IsRunnable d image → AreRows (setting d image waits lines) (row ∷ earlier) →
    shown_of (setting d image waits lines) (machine_at (setting d image waits lines) earlier) ≡ shown_by (drives_of d image waits lines (places earlier)) earlier row

-- and its text is that of such rows
abbrev pub TextLaw : Type 0
TextLaw =
    (d : Design) (image waits : List ℕ) (lines : Option (List ℕ)) (cycles : ℕ) (text : List ℕ) → IsRunnable d image → IsDesignText (setting d image waits lines) cycles text →
    IsLawfulText d image waits lines cycles text
