use Rattle.std.proofs.Common.{refl, ap, ◌∙◌}
use Rattle.ix_verilog.specs.declared.source.Source.{Source}
use Rattle.ix_vform.proofs.Driven.{assigned_moved, updated_moved, no_outputs, no_wires, driven_iff}
use Rattle.ix_vform.proofs.guard.is_driven.Goals as goal

pub returns-then-not-are_assigned : goal.returns-then-not-are_assigned
returns-then-not-are_assigned c =
    let s = c.args.opened.now in
    no_outputs s c.are_assigned.result (assigned_moved s.assigns s.assigns c.as_slice.result.now s.outputs c.are_assigned.result refl (c.as_slice.ensures ∙ ap (λ (z : Source). z.outputs) c.source.ensures) c.are_assigned.ensures)
    c.if-not-are_assigned.true

pub returns-then-not-are_assigned-2 : goal.returns-then-not-are_assigned-2
returns-then-not-are_assigned-2 c =
    let s = c.args.opened.now in
    no_wires s c.are_assigned-2.result (assigned_moved s.assigns s.assigns c.as_slice-2.result.now s.wires c.are_assigned-2.result refl (c.as_slice-2.ensures ∙ ap (λ (z : Source). z.wires) c.source-2.ensures) c.are_assigned-2.ensures)
    c.if-not-are_assigned-2.true

pub returns : goal.returns
returns c =
    let s = c.args.opened.now in
    driven_iff s c.are_assigned.result c.are_assigned-2.result c.are_updated.result
    (assigned_moved s.assigns s.assigns c.as_slice.result.now s.outputs c.are_assigned.result refl (c.as_slice.ensures ∙ ap (λ (z : Source). z.outputs) c.source.ensures) c.are_assigned.ensures)
    c.if-not-are_assigned.false
    (assigned_moved s.assigns s.assigns c.as_slice-2.result.now s.wires c.are_assigned-2.result refl (c.as_slice-2.ensures ∙ ap (λ (z : Source). z.wires) c.source-2.ensures) c.are_assigned-2.ensures)
    c.if-not-are_assigned-2.false
    (updated_moved s.updates s.updates c.as_slice-3.result.now s.registers c.are_updated.result refl (c.as_slice-3.ensures ∙ ap (λ (z : Source). z.registers) c.source-3.ensures) c.are_updated.ensures)
