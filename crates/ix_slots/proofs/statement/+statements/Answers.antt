use Rattle.std.proofs.Common.{◌≡◌, ◌≤◌, ◌+◌, ◌∙◌, ap, sym, arith, List, ◌++◌, drop, length}
use Rattle.ix_tree.specs.declared.typed.TypedStmt.{TypedStmt}
use Rattle.ix_tree.specs.declared.typed.TypedStmtKind.{TypedStmtKind}
use Rattle.ix_tree.specs.TypedTrees.{TypedStmtTree}
use Rattle.ix_tree.specs.TypedView.{typed_stmt, typed_whole, typed_items}
use Rattle.ix_tree.proofs.TypedViews.{typed_block_view}
use Rattle.ix_mean.specs.declared.resolved.ResolvedStmt.{ResolvedStmt}
use Rattle.ix_mean.specs.ResolvingStatements.{left}
use Rattle.ix_mean.proofs.Executing.{block_view}
use Rattle.ix_slots.specs.Found.{entries_of}
use Rattle.ix_slots.specs.Made.{made_step, made_row}
use Rattle.ix_slots.specs.Spawned.{spawned_among, written_by, made_spawned, made_row_spawned}
use Rattle.ix_slots.proofs.Chains.{prefixed, row_more, row_ended}
use Rattle.ix_slots.proofs.MakesSteps.{kept, step_extends, row_extends}
use Rattle.ix_slots.proofs.Spawns.{written_view, spawned_block, spawned_more}
use Rattle.ix_slots.proofs.statement.+statements.Goals as goal

pub scoped-returns-clause-scope : goal.scoped-returns-clause-scope
scoped-returns-clause-scope t c =
    let ns = c.args.names.now in
    let sc = c.args.locals.now in
    let x = typed_whole c.args.x.now in
    kept sc c.statement.new.locals c.keep.new.self (made_step ns x sc).scope c.len-count.result c.len-count.ensures c.in_ok-body.ensures.scope (step_extends ns x sc) c.keep.ensures.locals c.keep.ensures.slots

pub statement-returns-in_ok-body-in-Block-clause-body : goal.statement-returns-in_ok-body-in-Block-clause-body
statement-returns-in_ok-body-in-Block-clause-body t c =
    let ns = c.args.names.now in
    let sc = c.args.locals.now in
    let x = c.args.x.now in
    let whole = ap (typed_stmt x.span) c.in-Block.is ∙ typed_block_view x.span c.in-Block.all in
    block_view (entries_of ns.tables) c.in_ok-body-in-Block.body
    ∙ c.in_ok-body-in-Block.ensures.body
    ∙ ap (λ (ys : List TypedStmt). (made_row ns (typed_items ys) sc).body) c.as_slice.ensures
    ∙ ap (λ (z : TypedStmtTree). (made_step ns z sc).body) (sym whole)

pub statement-returns-in_ok-body-in-Block-clause-scope : goal.statement-returns-in_ok-body-in-Block-clause-scope
statement-returns-in_ok-body-in-Block-clause-scope t c =
    let ns = c.args.names.now in
    let sc = c.args.locals.now in
    let x = c.args.x.now in
    let row = typed_items c.as_slice.result.now in
    let whole = ap (typed_stmt x.span) c.in-Block.is ∙ typed_block_view x.span c.in-Block.all in
    kept sc c.statements.new.locals c.keep.new.self (made_row ns row sc).scope c.len-count.result c.len-count.ensures c.in_ok-body-in-Block.ensures.scope (row_extends ns row sc) c.keep.ensures.locals c.keep.ensures.slots
    ∙ ap (λ (ys : List TypedStmt). left sc (made_row ns (typed_items ys) sc).scope) c.as_slice.ensures
    ∙ ap (λ (z : TypedStmtTree). (made_step ns z sc).scope) (sym whole)

pub statement-returns-in_ok-body-in-Block-clause-spawns : goal.statement-returns-in_ok-body-in-Block-clause-spawns
statement-returns-in_ok-body-in-Block-clause-spawns t c =
    let ns = c.args.names.now in
    let sc = c.args.locals.now in
    let x = c.args.x.now in
    let whole = ap (typed_stmt x.span) c.in-Block.is ∙ typed_block_view x.span c.in-Block.all in
    spawned_block c.in_ok-body-in-Block.body
    ∙ c.in_ok-body-in-Block.ensures.spawns
    ∙ ap (λ (ys : List TypedStmt). made_row_spawned ns (typed_items ys) sc) c.as_slice.ensures
    ∙ ap (λ (z : TypedStmtTree). made_spawned ns z sc) (sym whole)

pub statement-returns-in_ok-scoped-in-Spawn-clause-spawns : goal.statement-returns-in_ok-scoped-in-Spawn-clause-spawns
statement-returns-in_ok-scoped-in-Spawn-clause-spawns t c =
    let ns = c.args.names.now in
    let sc = c.args.locals.now in
    let x = c.args.x.now in
    let inner : c.deref-in-Spawn.result.now ≡ c.in-Spawn.x.value = cc in
    written_view (entries_of ns.tables) c.in_ok-scoped-in-Spawn.field-0.value
    ∙ ap written_by c.in_ok-scoped-in-Spawn.ensures.body
    ∙ ap (λ (y : TypedStmt). written_by (made_step ns (typed_whole y) sc).body) inner
    ∙ ap (λ (z : TypedStmtKind). made_spawned ns (typed_stmt x.span z) sc) (sym c.in-Spawn.is)

pub statements-loop-x-preserved : goal.statements-loop-x-preserved
statements-loop-x-preserved t c =
    let ns = c.args.names.now in
    let ts = entries_of ns.tables in
    let xs = c.args.all.now in
    let k = c.loop-x.x-index in
    let x = c.x-item.result in
    let out = c.loop-x.out in
    let y = c.in_ok-statement.field-0 in
    let sc = c.loop-x.locals in
    let mid = c.statement.new.locals in
    let rest = typed_items (drop (k + 1) xs) in (
      ap (λ (ys : List ResolvedStmt). prefixed ts ys (made_row ns rest mid)) c.in_ok-push.ensures.ok
          ∙ row_more ts ns xs k x out y sc mid c.loop-x-test.true c.x-item.is c.in_ok-statement.ensures.body c.in_ok-statement.ensures.scope
          ∙ c.loop-x.invariant.0,
      ap (λ (ys : List ResolvedStmt). spawned_among ys ++ made_row_spawned ns rest mid) c.in_ok-push.ensures.ok
          ∙ spawned_more ns xs k x out y sc mid c.loop-x-test.true c.x-item.is c.in_ok-statement.ensures.spawns c.in_ok-statement.ensures.scope
          ∙ c.loop-x.invariant.1,
    )

pub statements-returns-clause-body : goal.statements-returns-clause-body
statements-returns-clause-body t c =
    let ns = c.args.names.now in
    let xs = c.args.all.now in
    let past : length xs ≤ c.loop-x.x-index = omega arith in
    let all = made_row ns (typed_items xs) c.args.locals.now in
    (row_ended (entries_of ns.tables) ns xs c.loop-x.x-index c.loop-x.out c.loop-x.locals all past c.loop-x.invariant.0).0
