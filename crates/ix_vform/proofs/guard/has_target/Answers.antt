use Rattle.std.proofs.Common.{ap, ◌∙◌}
use Rattle.ix_verilog.specs.declared.source.Source.{Source}
use Rattle.ix_vform.proofs.Named.{target_in}
use Rattle.ix_vform.proofs.guard.has_target.Goals as goal

pub returns : goal.returns
returns c =
    target_in c.args.opened.now c.as_slice.result.now c.as_slice-2.result.now c.has_target_in.result c.has_target_in-2.result
    (c.as_slice.ensures ∙ ap (λ (s : Source). s.outputs) c.source.ensures) (c.as_slice-2.ensures ∙ ap (λ (s : Source). s.wires) c.source-2.ensures)
    c.has_target_in.ensures c.if-has_target_in.false c.has_target_in-2.ensures
