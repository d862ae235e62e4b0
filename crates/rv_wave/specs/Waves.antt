-- The run of a pipeline with an extension as a value change dump of the ports of its modules (IEEE 1364-2005, section 18.2; that the times are the numbers of the rows is this project's choice).
use Rattle.std.specs.Prelude.{◌≡◌, ℕ, ◌≤◌, List, length, None}
use Rattle.ix_dump.specs.Dump.{dump_text}
use Rattle.ix_plan.specs.declared.design.Design.{Design}
use Rattle.rv_trace.specs.declared.row.Row.{Row}
use Rattle.rv_trace.specs.Trace.{newest}
use Rattle.rv_engine.specs.Settings.{setting}
use Rattle.rv_lawful.specs.Headline.{Headline}
use Rattle.rv_machine.specs.Promises.{IsRunnable}
use Rattle.rv_machine.specs.Running.{AreRows}
use Rattle.rv_nets.specs.NetsLaw.{HaveRun, port_rows}
use Rattle.rv_pipe.specs.Machines.{shown_over}
use Rattle.rv_ports.specs.Drives.{drives_of}
use Rattle.rv_ports.specs.Driven.{AreDriven}
use Rattle.rv_machine.specs.Promise.{AllPromised}

-- the dump of rows of the machine, as many as the cycles, or fewer where the last one has a stop: in each row the ports show what a run of each module's net does, whose inputs are what the rows drive
pub record IsDesignWave (d : Design) (image waits : List ℕ) (cycles : ℕ) (text : List ℕ) : Type 0 where
  pub rows : List Row
  pub runs : List (List (List ℕ))
  pub are_rows : AreRows (setting d image waits None) rows
  pub few : length rows ≤ cycles
  pub whole : (newest rows).stop ≡ None → length rows ≡ cycles
  pub have_run : HaveRun d (shown_over (setting d image waits None) rows) runs
  pub text_is : text ≡ dump_text d.nets (port_rows d.nets runs (length rows))

-- the dump of rows which the headline holds of on the core of a design, whose memory has these waits, as many as the cycles, or fewer where the last one has a stop: in each row the ports show what
-- a run of each module's net does, which these rows drive; and where a token stands at the time of an output, neither flushed nor due to stop nor waiting for what it reads, the output shows the value
-- of the sequential run at its place
pub record IsLawfulWave (d : Design) (image waits : List ℕ) (cycles : ℕ) (text : List ℕ) : Type 0 where
  pub rows : List Row
  pub runs : List (List (List ℕ))
  pub headline : Headline d image waits None rows
  pub few : length rows ≤ cycles
  pub whole : (newest rows).stop ≡ None → length rows ≡ cycles
  pub driven : AreDriven (drives_of d image waits None) d.plans d.nets rows runs
  pub promised : AllPromised (drives_of d image waits None) d.plans d.nets rows runs
  pub text_is : text ≡ dump_text d.nets (port_rows d.nets runs (length rows))

-- a dump over an image of words is one of lawful rows
abbrev pub WaveLaw : Type 0
WaveLaw = (d : Design) (image waits : List ℕ) (cycles : ℕ) (text : List ℕ) → IsRunnable d image → IsDesignWave d image waits cycles text → IsLawfulWave d image waits cycles text
