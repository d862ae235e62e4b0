-- The inputs of modules in the run of forwarding, and lists that are not.
use Rattle.std.proofs.Common.{refl, sym, ◌∙◌}
use Rattle.rv_lawful.specs.Future.{future_file}
use Rattle.rv_lawful.specs.Outstanding.{architecture, units_after}
use Rattle.rv_lawful.specs.Settings.{tailed}
use Rattle.rv_ports.specs.Driven.{inputs_over}
use Rattle.rv_ports.specs.Inputs.{inputs_by}
use Rattle.rv_ports.specs.Seats.{shown_by}
use Rattle.rv_seq.specs.Commits.{applied}
use Rattle.rv_seq.specs.States.{first}
use Rattle.rv_trace.specs.Trace.{is_flushed, place, retirements}
use Rattle.rv_tried.specs.Parts.{native, paid}
use Rattle.port_laws.specs.Forwarding.{AreForwarding, AreNotForwarding, of_file, of_older, right}
use Rattle.port_laws.proofs.Differing.{differ}

pub inputs_are : AreForwarding right
unfolding inputs_over inputs_by shown_by future_file architecture first units_after place is_flushed retirements tailed native paid applied
inputs_are = refl

pub of_file_refused : AreNotForwarding of_file
of_file_refused e = differ right of_file refl (sym inputs_are ∙ e)

pub of_older_refused : AreNotForwarding of_older
of_older_refused e = differ right of_older refl (sym inputs_are ∙ e)
