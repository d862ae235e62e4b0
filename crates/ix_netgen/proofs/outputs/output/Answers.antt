use Rattle.std.proofs.Common.{ℕ, List, [], ◌∷◌, ◌++◌, refl, ap, ◌∙◌}
use Rattle.ix_net.specs.declared.netlist.Cell.{Cell}
use Rattle.ix_net.specs.declared.netlist.Port.{Port}
use Rattle.ix_net.specs.declared.netlist.Form.TheVariants.{Copy}
use Rattle.ix_cells.specs.Naming.{name_of}
use Rattle.ix_netgen.proofs.outputs.output.Goals as goal

pub returns : goal.returns
unfolding name_of
returns c = record {
  named = refl;
  inputs = refl;
  banks = refl;
  cells_are =
      c.in_ok-push.ensures.ok
      ∙ ap (λ (n : List ℕ). let x : Cell = record { target = n; width = c.args.operand.ty.width; form = Copy c.in_ok-source.source } in c.args.net.now.cells ++ x ∷ []) c.in_ok-target.ensures
      ∙ ap (λ (n : List ℕ). let x : Cell = record { target = name_of (Rattle.ix_cells.specs.declared.signal.Signal.TheVariants.Output c.args.number c.args.letter); width = c.args.operand.ty.width; form = Copy n } in c.args.net.now.cells ++ x ∷ []) c.in_ok-source.ensures;
  ports_are =
      c.in_ok-push-2.ensures.ok
      ∙ ap (λ (n : List ℕ). let x : Port = record { name = n; width = c.args.operand.ty.width } in c.args.net.now.outputs ++ x ∷ []) c.in_ok-port.ensures;
}
