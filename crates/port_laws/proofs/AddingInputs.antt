-- The inputs of modules in the run of adding, and lists that are not.
use Rattle.std.proofs.Common.{refl, sym, ◌∙◌}
use Rattle.rv_lawful.specs.Future.{future_file}
use Rattle.rv_lawful.specs.Outstanding.{architecture, units_after}
use Rattle.rv_lawful.specs.Settings.{tailed}
use Rattle.rv_ports.specs.Driven.{inputs_over}
use Rattle.rv_ports.specs.Inputs.{inputs_by}
use Rattle.rv_ports.specs.Seats.{shown_by}
use Rattle.rv_seq.specs.Commits.{applied}
use Rattle.rv_seq.specs.States.{first}
use Rattle.rv_trace.specs.Trace.{is_flushed, place, retirements}
use Rattle.rv_tried.specs.Parts.{native, paid}
use Rattle.port_laws.specs.Adding.{AreAdding, AreNotAdding, AreNotWatching, AreWatching, blind_at_stop, moves_at_stop, moves_while_held, reads_twice, reads_while_held, right, stale_operand, watched, watches_held}
use Rattle.port_laws.proofs.Differing.{differ}

pub inputs_are : AreAdding right
unfolding inputs_over inputs_by shown_by future_file architecture first units_after place is_flushed retirements tailed native paid applied
inputs_are = refl

pub reads_while_held_refused : AreNotAdding reads_while_held
reads_while_held_refused e = differ right reads_while_held refl (sym inputs_are ∙ e)

pub moves_while_held_refused : AreNotAdding moves_while_held
moves_while_held_refused e = differ right moves_while_held refl (sym inputs_are ∙ e)

pub stale_operand_refused : AreNotAdding stale_operand
stale_operand_refused e = differ right stale_operand refl (sym inputs_are ∙ e)

pub reads_twice_refused : AreNotAdding reads_twice
reads_twice_refused e = differ right reads_twice refl (sym inputs_are ∙ e)

pub moves_at_stop_refused : AreNotAdding moves_at_stop
moves_at_stop_refused e = differ right moves_at_stop refl (sym inputs_are ∙ e)

pub watched_are : AreWatching watched
unfolding inputs_over inputs_by shown_by future_file architecture first units_after place is_flushed retirements tailed native paid applied
watched_are = refl

pub watches_held_refused : AreNotWatching watches_held
watches_held_refused e = differ watched watches_held refl (sym watched_are ∙ e)

pub blind_at_stop_refused : AreNotWatching blind_at_stop
blind_at_stop_refused e = differ watched blind_at_stop refl (sym watched_are ∙ e)
