-- A dump of rows is that of runs of the modules' nets, which lawful rows drive.
use Rattle.std.proofs.Common.{◌≡◌, ◌∙◌, sym, ap, subst, ℕ, ◌≤◌, List, length, Option, None, Bool, true, false, Result, Ok, Err}
use Rattle.std.specs.Prelude.{OnOk}
use Rattle.ix_dump.specs.Dump.{dump_text}
use Rattle.ix_io.specs.Faults.{Rose}
use Rattle.ix_io.specs.Sink.{Appends, AppendsFront}
use Rattle.ix_plan.specs.declared.design.Design.{Design}
use Rattle.ix_standing.specs.Standing.{Stands}
use Rattle.rv_trace.specs.declared.row.Row.{Row}
use Rattle.rv_trace.specs.Trace.{newest}
use Rattle.rv_engine.specs.Settings.{Setting, setting}
use Rattle.rv_machine.specs.Promises.{RowsLaw, ShownLaw}
use Rattle.rv_machine.specs.Running.{AreRows}
use Rattle.rv_nets.specs.Modules.{Driver}
use Rattle.rv_nets.specs.NetsLaw.{AllRowsLaw, ReachedBy, port_rows}
use Rattle.rv_pipe.specs.Machines.{shown_over}
use Rattle.rv_pipe.proofs.Reaching.{inputs_same}
use Rattle.rv_ports.specs.Drives.{drives_of}
use Rattle.rv_ports.specs.Driven.{AreDriven}
use Rattle.rv_machine.specs.Lives.{PromiseLaw}
use Rattle.rv_wave.specs.Sent.{IsEnded}
use Rattle.rv_wave.specs.Waves.{IsDesignWave, WaveLaw}
use Rattle.rv_wave.proofs.Reached.{long_over}

pub as_many : (d : Design) → Stands d → length d.plans ≡ length d.nets
as_many d stands = stands.built.plan_count ∙ sym stands.built.net_count

pub wave : AllRowsLaw → (d : Design) (image waits : List ℕ) (k : Setting) (cycles : ℕ) (rows : List Row) (modules : List Driver) (values : List (List ℕ)) → k ≡ setting d image waits None → length d.plans ≡ length d.nets → AreRows k rows → length rows ≤ cycles → ((newest rows).stop ≡ None → length rows ≡ cycles)
    → ReachedBy k.design (shown_over k rows) modules values → IsDesignWave d image waits cycles (dump_text k.design.nets values)
wave law d image waits k cycles rows modules values same e are few whole reached =
    let x = law d (shown_over (setting d image waits None) rows) modules values e (subst (λ s. ReachedBy s.design (shown_over s rows) modules values) same reached) in
    record {
      rows = rows;
      runs = x.0;
      are_rows = subst (λ s. AreRows s rows) same are;
      few = few;
      whole = whole;
      have_run = x.1;
      text_is =
          ap (λ s. dump_text s.design.nets values) same
          ∙ ap (λ v. dump_text d.nets v) (sym x.2)
          ∙ ap (λ n. dump_text d.nets (port_rows d.nets x.0 n)) (long_over (setting d image waits None) rows);
    }

-- the dump of a machine's rows, as it was sent whole or not
module _ (law : AllRowsLaw) (d : Design) (image waits : List ℕ) (k : Setting) (cycles : ℕ) (rows : List Row) (modules : List Driver) (first now : Option (List ℕ)) (faults faults_now : ℕ) (same : k ≡ setting d image waits None) (stands : Stands d) (are : AreRows k rows) (few : length rows ≤ cycles)
    (whole : (newest rows).stop ≡ None → length rows ≡ cycles) where
  pub all_sent : (sent : Bool) → IsEnded sent k rows modules first now faults faults_now → sent ≡ true → (text : List ℕ) × IsDesignWave d image waits cycles text × Appends first now text
  all_sent true h e = (dump_text k.design.nets h.values, wave law d image waits k cycles rows modules h.values same (as_many d stands) are few whole h.reached, h.appends)
  all_sent false h e = cc

  pub not_all_sent : (sent : Bool) → IsEnded sent k rows modules first now faults faults_now → sent ≡ false → Rose faults faults_now × ((text : List ℕ) × IsDesignWave d image waits cycles text × AppendsFront first now text)
  not_all_sent true h e = cc
  not_all_sent false h e = (h.rose, (dump_text k.design.nets h.values, wave law d image waits k cycles rows modules h.values same (as_many d stands) are few whole h.reached, h.front))

-- what follows of an answer Ok
pub on_ok : {A E P Q : Type 0} (r : Result A E) → OnOk r P → (P → Q) → OnOk r Q
on_ok (Ok a) p f = f p
on_ok (Err e) p f = tt

pub lawful : RowsLaw → ShownLaw → PromiseLaw → WaveLaw
lawful rows shown promise d image waits cycles text can h =
    let driven : AreDriven (drives_of d image waits None) d.plans d.nets h.rows h.runs = record {
      count = h.have_run.count;
      each = λ n p net cycles f g q. record { run = h.have_run.run n p net cycles f g q; inputs = h.have_run.inputs n p net cycles f g q ∙ inputs_same d image waits None can shown n p h.rows h.are_rows };
    } in
    record {
      rows = h.rows;
      runs = h.runs;
      headline = rows d image waits None h.rows can h.are_rows;
      few = h.few;
      whole = h.whole;
      driven = driven;
      promised = promise d image waits None h.rows h.runs can h.are_rows driven;
      text_is = h.text_is;
    }
