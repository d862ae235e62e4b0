use Rattle.std.proofs.Common.{ap, ◌∙◌, ◌++◌}
use Rattle.std.specs.List.{flat_map}
use Rattle.std.proofs.lemmas.Result.{on_ok_weaker}
use Rattle.ix_vprint.specs.Printed.{port_name}
use Rattle.ix_vprint.proofs.Texts.{head_done}
use Rattle.ix_vprint.proofs.printing.put_head.Goals as goal

pub returns-clause-text : goal.returns-clause-text
returns-clause-text c =
    on_ok_weaker c.put-4.result
    (λ e. head_done c.args.out.now.items c.args.net.now.name c.args.net.now.inputs c.args.net.now.outputs
    c.put.new.out.items c.put-2.new.out.items c.put-3.new.out.items c.put_names.new.out.items c.put_names-2.new.out.items c.put-4.new.out.items
    c.in_ok-put.ensures (c.in_ok-put-2.ensures ∙ ap (λ z. c.put.new.out.items ++ z) c.as_str.ensures.text) c.in_ok-put-3.ensures
    (c.in_ok-put_names.ensures.text ∙ ap (λ z. c.put-3.new.out.items ++ flat_map port_name z) c.as_slice.ensures)
    (c.in_ok-put_names-2.ensures.text ∙ ap (λ z. c.put_names.new.out.items ++ flat_map port_name z) c.as_slice-2.ensures) e) c.put-4.ensures
