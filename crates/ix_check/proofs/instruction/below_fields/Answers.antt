use Rattle.ix_check.proofs.Behaviours.{fields_kept}
use Rattle.ix_check.proofs.instruction.below_fields.Goals as goal

pub returns-in-Ok-clause-kept : goal.returns-in-Ok-clause-kept
returns-in-Ok-clause-kept c =
    fields_kept c.behaviour-body.result c.args.state.now.names c.declare_fields.new.names c.behaviour-body.new.state.names c.keep.new.self c.args.pieces.now c.len-before.result
    c.len-before.ensures c.in-Ok.ensures.ok c.behaviour-body.ensures.kept c.keep.ensures
