use Rattle.std.proofs.Common.{◌≤◌, ◌+◌, ◌∙◌, ap, arith, ℕ, List, ◌++◌, drop, length, map}
use Rattle.ix_tree.specs.TypedView.{typed_decl}
use Rattle.ix_mean.specs.declared.resolved.ResolvedStmt.{ResolvedStmt}
use Rattle.ix_mean.proofs.Executing.{block_view}
use Rattle.ix_slots.specs.Found.{entries_of}
use Rattle.ix_slots.specs.Made.{made_declarations}
use Rattle.ix_slots.specs.Spawned.{spawned_in, spawned_among}
use Rattle.ix_slots.proofs.Chains.{prefixed, declarations_more, declarations_ended}
use Rattle.ix_slots.proofs.Spawns.{spawned_block, spawned_push}
use Rattle.ix_slots.proofs.statement.declarations.Goals as goal

pub loop-decl-preserved : goal.loop-decl-preserved
loop-decl-preserved c =
    let ns = c.args.names.now in
    let ts = entries_of ns.tables in
    let xs = c.args.decls.now in
    let k = c.loop-decl.decl-index in
    let out = c.loop-decl.all in
    let y = c.in_ok-declaration.field-0 in
    let mid = c.declaration.new.locals in (
      ap (λ (ys : List ResolvedStmt). prefixed ts ys (made_declarations ns c.args.ty (map typed_decl (drop (k + 1) xs)) mid)) c.in_ok-push.ensures.ok
          ∙ declarations_more ts ns c.args.ty xs k c.decl-item.result out y c.loop-decl.locals mid c.loop-decl-test.true c.decl-item.is c.in_ok-declaration.ensures.body c.in_ok-declaration.ensures.scope
          ∙ c.loop-decl.invariant.0,
      ap spawned_among c.in_ok-push.ensures.ok
          ∙ spawned_push out y
          ∙ ap (λ (z : List ℕ). z ++ spawned_in y) c.loop-decl.invariant.1
          ∙ c.in_ok-declaration.ensures.plain,
    )

pub returns-clause-body : goal.returns-clause-body
returns-clause-body c =
    let ns = c.args.names.now in
    let xs = c.args.decls.now in
    let past : length xs ≤ c.loop-decl.decl-index = omega arith in
    let all = made_declarations ns c.args.ty (map typed_decl xs) c.args.locals.now in
    block_view (entries_of ns.tables) c.loop-decl.all
    ∙ (declarations_ended (entries_of ns.tables) ns c.args.ty xs c.loop-decl.decl-index c.loop-decl.all c.loop-decl.locals all past c.loop-decl.invariant.0).0

pub returns-clause-plain : goal.returns-clause-plain
returns-clause-plain c = spawned_block c.loop-decl.all ∙ c.loop-decl.invariant.1
