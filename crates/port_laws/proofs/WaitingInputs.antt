-- The inputs of modules in the run of waiting, and lists that are not.
use Rattle.std.proofs.Common.{refl, sym, ◌∙◌}
use Rattle.rv_lawful.specs.Future.{future_file}
use Rattle.rv_lawful.specs.Outstanding.{architecture, units_after}
use Rattle.rv_lawful.specs.Settings.{tailed}
use Rattle.rv_ports.specs.Driven.{inputs_over}
use Rattle.rv_ports.specs.Inputs.{inputs_by}
use Rattle.rv_ports.specs.Seats.{shown_by}
use Rattle.rv_seq.specs.Commits.{applied}
use Rattle.rv_seq.specs.States.{first}
use Rattle.rv_trace.specs.Trace.{is_flushed, place, retirements}
use Rattle.rv_tried.specs.Parts.{native, paid}
use Rattle.port_laws.specs.Waiting.{AreNotWaiting, AreNotWatching, AreWaiting, AreWatching, blind_at_stop, idle, moves_behind, right, silent_behind, watched, written_late}
use Rattle.port_laws.proofs.Differing.{differ}

pub inputs_are : AreWaiting right
unfolding inputs_over inputs_by shown_by future_file architecture first units_after place is_flushed retirements tailed native paid applied
inputs_are = refl

pub silent_behind_refused : AreNotWaiting silent_behind
silent_behind_refused e = differ right silent_behind refl (sym inputs_are ∙ e)

pub moves_behind_refused : AreNotWaiting moves_behind
moves_behind_refused e = differ right moves_behind refl (sym inputs_are ∙ e)

pub idle_refused : AreNotWaiting idle
idle_refused e = differ right idle refl (sym inputs_are ∙ e)

pub watched_are : AreWatching watched
unfolding inputs_over inputs_by shown_by future_file architecture first units_after place is_flushed retirements tailed native paid applied
watched_are = refl

pub written_late_refused : AreNotWatching written_late
written_late_refused e = differ watched written_late refl (sym watched_are ∙ e)

pub blind_at_stop_refused : AreNotWatching blind_at_stop
blind_at_stop_refused e = differ watched blind_at_stop refl (sym watched_are ∙ e)
