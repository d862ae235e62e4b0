use Rattle.std.proofs.Common.{sym, subst, ap, ◌∙◌, ◌++◌}
use Rattle.std.specs.Prelude.{All, codes}
use Rattle.std.specs.List.{flat_map}
use Rattle.std.proofs.lemmas.Result.{on_ok_weaker}
use Rattle.ix_vprint.specs.Printed.{ports_text, wires_text, registers_text, cell_text, always_text}
use Rattle.ix_net.specs.Valid.{IsWidth}
use Rattle.ix_vprint.proofs.Nets.{output_widths, cell_widths, bank_widths}
use Rattle.ix_vprint.proofs.Texts.{seven}
use Rattle.ix_vprint.proofs.printing.put_lines.Goals as goal

pub put_ports-requires-2 : goal.put_ports-requires-2
put_ports-requires-2 c = subst (All (λ p. IsWidth p.width)) (sym c.as_slice-2.ensures) (output_widths c.args.net.now c.requires)

pub put_wires-requires : goal.put_wires-requires
put_wires-requires c = subst (All (λ p. IsWidth p.width)) (sym c.as_slice-4.ensures) (cell_widths c.args.net.now c.requires)

pub put_registers-requires : goal.put_registers-requires
put_registers-requires c = subst (All (λ p. IsWidth p.width)) (sym c.as_slice-5.ensures) (bank_widths c.args.net.now c.requires)

pub returns-clause-text : goal.returns-clause-text
returns-clause-text c =
    let net = c.args.net.now in
    on_ok_weaker c.put.result
    (λ e. seven c.args.out.now.items (ports_text (codes "  input [") net.inputs) (ports_text (codes "  output [") net.outputs) (wires_text net.outputs net.cells)
    (registers_text net.banks) (flat_map cell_text net.cells) (always_text net.banks) (codes "endmodule\n")
    c.put_ports.new.out.items c.put_ports-2.new.out.items c.put_wires.new.out.items c.put_registers.new.out.items c.put_cells.new.out.items c.put_always.new.out.items c.put.new.out.items
    (c.in_ok-put_ports.ensures ∙ ap (λ z. c.args.out.now.items ++ ports_text (codes "  input [") z) c.as_slice.ensures)
    (c.in_ok-put_ports-2.ensures ∙ ap (λ z. c.put_ports.new.out.items ++ ports_text (codes "  output [") z) c.as_slice-2.ensures)
    (c.in_ok-put_wires.ensures ∙ ap (λ z. c.put_ports-2.new.out.items ++ wires_text z c.as_slice-4.result.now) c.as_slice-3.ensures ∙ ap (λ z. c.put_ports-2.new.out.items ++ wires_text net.outputs z) c.as_slice-4.ensures)
    (c.in_ok-put_registers.ensures ∙ ap (λ z. c.put_wires.new.out.items ++ registers_text z) c.as_slice-5.ensures)
    (c.in_ok-put_cells.ensures.text ∙ ap (λ z. c.put_registers.new.out.items ++ flat_map cell_text z) c.as_slice-6.ensures)
    (c.in_ok-put_always.ensures.text ∙ ap (λ z. c.put_cells.new.out.items ++ always_text z) c.as_slice-7.ensures) e) c.put.ensures
