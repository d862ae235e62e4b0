use Rattle.std.proofs.Common.{◌∙◌, ap, arith}
use Rattle.ix_mean.specs.View.{frame_of, view_statements}
use Rattle.ix_extension.specs.Extensions.{view_extension}
use Rattle.ix_behaviour.specs.Behaviours.{statement_at, frame_at}
use Rattle.ix_slots.specs.Found.{entries_of}
use Rattle.ix_graphs.proofs.Bridging.{statement_is, typed_at, targets_few, tables_few, graph_told}
use Rattle.ix_graphs.proofs.behaviour.graph_at.Goals as goal

pub graph_of_resolved-requires-clause-typed : goal.graph_of_resolved-requires-clause-typed
graph_of_resolved-requires-clause-typed c =
    let x = view_extension c.args.ext.now in
    let w = c.args.which in
    typed_at (frame_of c.in-Ok-resolve.resolved.types) (frame_at x w) (view_statements c.in-Ok.tables c.as_slice-in-Ok-resolve.result.now) (statement_at x w) c.in-Ok-resolve.ensures.types
    (statement_is x w c.in-Ok.tables (entries_of c.args.ext.now.tables) c.in-Ok-resolve.resolved.body c.as_slice-in-Ok-resolve.result.now (c.in-Ok.ensures ∙ ap entries_of c.as_slice.ensures) c.as_slice-in-Ok-resolve.ensures c.in-Ok-resolve.ensures.body)
    (c.behaviour_laws.ensures.typed c.requires.well_formed.0 x w c.requires.well_formed.1 c.requires.in_range)

pub graph_of_resolved-requires-clause-few_targets : goal.graph_of_resolved-requires-clause-few_targets
graph_of_resolved-requires-clause-few_targets c =
    let x = view_extension c.args.ext.now in
    targets_few x c.args.which (frame_of c.in-Ok-resolve.resolved.types) c.in-Ok-resolve.ensures.types (c.behaviour_laws.ensures.few c.requires.well_formed.0 x c.requires.well_formed.1).registers

pub graph_of_resolved-requires-clause-few_tables : goal.graph_of_resolved-requires-clause-few_tables
graph_of_resolved-requires-clause-few_tables c =
    tables_few c.in-Ok.tables c.args.ext.now.tables c.len.result (c.in-Ok.ensures ∙ ap entries_of c.as_slice.ensures) c.len.ensures (omega (arith, c.if-len-gt-MOST_TABLES.false))

pub returns-in-Ok-resolve : goal.returns-in-Ok-resolve
returns-in-Ok-resolve c =
    let x = view_extension c.args.ext.now in
    let w = c.args.which in
    graph_told x w (entries_of c.args.ext.now.tables) (record { types = c.in-Ok-resolve.resolved.types; tables = c.in-Ok.tables }) (view_statements c.in-Ok.tables c.as_slice-in-Ok-resolve.result.now) c.as_slice-in-Ok-resolve-2.result.now c.graph_of_resolved.result
    c.in-Ok-resolve.ensures.types (c.in-Ok.ensures ∙ ap entries_of c.as_slice.ensures)
    (statement_is x w c.in-Ok.tables (entries_of c.args.ext.now.tables) c.in-Ok-resolve.resolved.body c.as_slice-in-Ok-resolve.result.now (c.in-Ok.ensures ∙ ap entries_of c.as_slice.ensures) c.as_slice-in-Ok-resolve.ensures c.in-Ok-resolve.ensures.body)
    (c.as_slice-in-Ok-resolve-2.ensures ∙ c.in-Ok-resolve.ensures.spawned) c.graph_of_resolved.ensures
