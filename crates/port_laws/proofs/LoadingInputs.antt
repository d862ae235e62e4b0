-- The inputs of modules in the run of loading, and lists that are not.
use Rattle.std.proofs.Common.{refl, sym, ◌∙◌}
use Rattle.rv_lawful.specs.Future.{future_file}
use Rattle.rv_lawful.specs.Outstanding.{architecture, units_after}
use Rattle.rv_lawful.specs.Settings.{tailed}
use Rattle.rv_ports.specs.Driven.{inputs_over}
use Rattle.rv_ports.specs.Inputs.{inputs_by}
use Rattle.rv_ports.specs.Seats.{shown_by}
use Rattle.rv_seq.specs.Commits.{applied}
use Rattle.rv_seq.specs.States.{first}
use Rattle.rv_trace.specs.Trace.{is_flushed, place, retirements}
use Rattle.rv_tried.specs.Parts.{native, paid}
use Rattle.port_laws.specs.Loading.{AreLoading, AreNotLoading, goes_at_retirement, goes_while_waiting, one_enable, reads_before_store, reads_twice, reads_while_waiting, right}
use Rattle.port_laws.proofs.Differing.{differ}

pub inputs_are : AreLoading right
unfolding inputs_over inputs_by shown_by future_file architecture first units_after place is_flushed retirements tailed native paid applied
inputs_are = refl

pub reads_while_waiting_refused : AreNotLoading reads_while_waiting
reads_while_waiting_refused e = differ right reads_while_waiting refl (sym inputs_are ∙ e)

pub goes_while_waiting_refused : AreNotLoading goes_while_waiting
goes_while_waiting_refused e = differ right goes_while_waiting refl (sym inputs_are ∙ e)

pub reads_before_store_refused : AreNotLoading reads_before_store
reads_before_store_refused e = differ right reads_before_store refl (sym inputs_are ∙ e)

pub reads_twice_refused : AreNotLoading reads_twice
reads_twice_refused e = differ right reads_twice refl (sym inputs_are ∙ e)

pub one_enable_refused : AreNotLoading one_enable
one_enable_refused e = differ right one_enable refl (sym inputs_are ∙ e)

pub goes_at_retirement_refused : AreNotLoading goes_at_retirement
goes_at_retirement_refused e = differ right goes_at_retirement refl (sym inputs_are ∙ e)
