use Rattle.std.proofs.Common.{map, sym, ◌∙◌}
use Rattle.ix_graph.specs.Graphs.{arg_type}
use Rattle.ix_cells.proofs.Forms.{if_ok}
use Rattle.ix_cells.proofs.Dispatch.{two_count, two_typed, on_two}
use Rattle.ix_cells.proofs.kinds.compute.Goals as goal

pub two-requires : goal.two-requires
two-requires c =
    two_count c.args.graph.now c.args.op.now.kind c.in-Some.operation c.args.op.now.args c.args.op.now.ty c.args.operands.now (sym c.operator.ensures ∙ c.in-Some.is) c.requires.typed c.requires.types

pub two_operands-requires-clause-exists : goal.two_operands-requires-clause-exists
two_operands-requires-clause-exists c =
    (two_typed c.args.graph.now c.args.op.now.kind c.in-Some.operation c.args.op.now.args c.args.op.now.ty c.args.operands.now (sym c.operator.ensures ∙ c.in-Some.is) c.requires.typed c.requires.types _ _ c.two.ensures).exists

pub two_operands-requires-clause-exact : goal.two_operands-requires-clause-exact
two_operands-requires-clause-exact c =
    (two_typed c.args.graph.now c.args.op.now.kind c.in-Some.operation c.args.op.now.args c.args.op.now.ty c.args.operands.now (sym c.operator.ensures ∙ c.in-Some.is) c.requires.typed c.requires.types _ _ c.two.ensures).width

pub returns-in-Some : goal.returns-in-Some
returns-in-Some c =
    if_ok c.two_operands.result _ _
    (λ r p. on_two c.args.graph.now.tables c.args.op.now.kind c.in-Some.operation (map (arg_type c.args.graph.now.ops) c.args.op.now.args) c.args.operands.now c.two.result.0 c.two.result.1 _ _ r c.args.op.now.ty
    (sym c.operator.ensures ∙ c.in-Some.is) c.two.ensures c.requires.types p) c.two_operands.ensures
