use Rattle.std.proofs.Common.{subst}
use Rattle.ix_tree.specs.Rows.{view_whole}
use Rattle.ix_typing.specs.declared.state.State.{State}
use Rattle.ix_typing.specs.Statements.{judged_stmt}
use Rattle.ix_check_parts.specs.Telling.{TellsStmt}
use Rattle.ix_check.proofs.Behaviours.{setting_of, body_kept}
use Rattle.ix_check.proofs.behaviour.behaviour.Goals as goal

pub returns-clause-kept : goal.returns-clause-kept
returns-clause-kept c =
    let x = view_whole c.args.stmt.now in
    let P : State → Type 0 = λ st. TellsStmt c.statement-typed.result c.statement-typed.new.state (judged_stmt x (setting_of c.args.body) st) in
    body_kept c.statement-typed.result c.statement-typed.new.state c.args.body c.args.state.now.names c.keep.new.self x c.len-before.result c.len-before.ensures c.keep.ensures
    (subst P c.restart.ensures c.statement-typed.ensures)
