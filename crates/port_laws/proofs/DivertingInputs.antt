-- The inputs of modules in the run that takes an interrupt, and lists that are not.
use Rattle.std.proofs.Common.{refl, sym, ◌∙◌}
use Rattle.rv_lawful.specs.Entering.{places}
use Rattle.rv_lawful.specs.Future.{future_file}
use Rattle.rv_lawful.specs.Outstanding.{architecture, units_after}
use Rattle.rv_lawful.specs.Settings.{tailed}
use Rattle.rv_ports.specs.Driven.{inputs_over}
use Rattle.rv_ports.specs.Inputs.{inputs_by}
use Rattle.rv_ports.specs.Seats.{shown_by}
use Rattle.rv_seq.specs.Commits.{applied}
use Rattle.rv_seq.specs.States.{first}
use Rattle.rv_trace.specs.Trace.{is_flushed, place, retirements}
use Rattle.rv_tried.specs.Parts.{native, paid}
use Rattle.port_laws.specs.Diverting.{AreWatching, AreNotWatching, AreIdle, AreNotIdle, IsOfOneRun, at_rest, entry_unseen, flushed_moves, goes_on, watched}
use Rattle.port_laws.proofs.Differing.{differ}

pub watched_are : AreWatching watched
unfolding inputs_over inputs_by shown_by future_file architecture first units_after place places is_flushed retirements tailed native paid applied
watched_are = refl

pub goes_on_refused : AreNotWatching goes_on
goes_on_refused e = differ watched goes_on refl (sym watched_are ∙ e)

pub entry_unseen_refused : AreNotWatching entry_unseen
entry_unseen_refused e = differ watched entry_unseen refl (sym watched_are ∙ e)

pub of_one_run : IsOfOneRun goes_on
unfolding inputs_over inputs_by shown_by future_file architecture first units_after place places is_flushed retirements tailed native paid applied
of_one_run = refl

pub idle_are : AreIdle at_rest
unfolding inputs_over inputs_by shown_by future_file architecture first units_after place places is_flushed retirements tailed native paid applied
idle_are = refl

pub flushed_moves_refused : AreNotIdle flushed_moves
flushed_moves_refused e = differ at_rest flushed_moves refl (sym idle_are ∙ e)
