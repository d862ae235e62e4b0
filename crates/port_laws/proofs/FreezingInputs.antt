-- The inputs of modules in the run of freezing, and lists that are not.
use Rattle.std.proofs.Common.{refl, sym, ◌∙◌}
use Rattle.rv_lawful.specs.Future.{future_file}
use Rattle.rv_lawful.specs.Outstanding.{architecture, units_after}
use Rattle.rv_lawful.specs.Settings.{tailed}
use Rattle.rv_ports.specs.Driven.{inputs_over}
use Rattle.rv_ports.specs.Inputs.{inputs_by}
use Rattle.rv_ports.specs.Seats.{shown_by}
use Rattle.rv_seq.specs.Commits.{applied}
use Rattle.rv_seq.specs.States.{first}
use Rattle.rv_trace.specs.Trace.{is_flushed, place, retirements}
use Rattle.rv_tried.specs.Parts.{native, paid}
use Rattle.port_laws.specs.Freezing.{AreNotQuick, AreNotSlow, AreQuick, AreSlow, moves_while_frozen, quick_right, retires_unseen, slow_frozen, slow_right, still_while_empty}
use Rattle.port_laws.proofs.Differing.{differ}

pub slow_are : AreSlow slow_right
unfolding inputs_over inputs_by shown_by future_file architecture first units_after place is_flushed retirements tailed native paid applied
slow_are = refl

pub quick_are : AreQuick quick_right
unfolding inputs_over inputs_by shown_by future_file architecture first units_after place is_flushed retirements tailed native paid applied
quick_are = refl

pub slow_frozen_refused : AreNotSlow slow_frozen
slow_frozen_refused e = differ slow_right slow_frozen refl (sym slow_are ∙ e)

pub moves_while_frozen_refused : AreNotQuick moves_while_frozen
moves_while_frozen_refused e = differ quick_right moves_while_frozen refl (sym quick_are ∙ e)

pub still_while_empty_refused : AreNotQuick still_while_empty
still_while_empty_refused e = differ quick_right still_while_empty refl (sym quick_are ∙ e)

pub retires_unseen_refused : AreNotQuick retires_unseen
retires_unseen_refused e = differ quick_right retires_unseen refl (sym quick_are ∙ e)
