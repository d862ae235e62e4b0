-- The inputs of modules in the run of leaping, and lists that are not.
use Rattle.std.proofs.Common.{refl, sym, ◌∙◌}
use Rattle.rv_lawful.specs.Future.{future_file}
use Rattle.rv_lawful.specs.Outstanding.{architecture, units_after}
use Rattle.rv_lawful.specs.Settings.{tailed}
use Rattle.rv_ports.specs.Driven.{inputs_over}
use Rattle.rv_ports.specs.Inputs.{inputs_by}
use Rattle.rv_ports.specs.Seats.{shown_by}
use Rattle.rv_seq.specs.Commits.{applied}
use Rattle.rv_seq.specs.States.{first}
use Rattle.rv_trace.specs.Trace.{is_flushed, place, retirements}
use Rattle.rv_tried.specs.Parts.{native, paid}
use Rattle.port_laws.specs.Leaping.{AreLeaping, AreNotLeaping, AreNotWatching, AreWatching, blind_to_flushed, block_put_off, flushed_moves, late_lost, late_too_early, right, watched}
use Rattle.port_laws.proofs.Differing.{differ}

pub inputs_are : AreLeaping right
unfolding inputs_over inputs_by shown_by future_file architecture first units_after place is_flushed retirements tailed native paid applied
inputs_are = refl

pub flushed_moves_refused : AreNotLeaping flushed_moves
flushed_moves_refused e = differ right flushed_moves refl (sym inputs_are ∙ e)

pub watched_are : AreWatching watched
unfolding inputs_over inputs_by shown_by future_file architecture first units_after place is_flushed retirements tailed native paid applied
watched_are = refl

pub blind_to_flushed_refused : AreNotWatching blind_to_flushed
blind_to_flushed_refused e = differ watched blind_to_flushed refl (sym watched_are ∙ e)

pub block_put_off_refused : AreNotWatching block_put_off
block_put_off_refused e = differ watched block_put_off refl (sym watched_are ∙ e)

pub late_too_early_refused : AreNotWatching late_too_early
late_too_early_refused e = differ watched late_too_early refl (sym watched_are ∙ e)

pub late_lost_refused : AreNotWatching late_lost
late_lost_refused e = differ watched late_lost refl (sym watched_are ∙ e)
