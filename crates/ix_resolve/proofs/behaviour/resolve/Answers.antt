use Rattle.std.proofs.Common.{◌≡◌, ◌≤◌, ◌∙◌, ap, sym, subst, ℕ, List, length, map}
use Rattle.ix_bits.specs.declared.number.Ty.{Ty}
use Rattle.ix_tree.specs.declared.extension.Register.{Register}
use Rattle.ix_tree.specs.TypedView.{typed_items}
use Rattle.ix_extension.specs.Extensions.{view_extension}
use Rattle.ix_mean.specs.declared.resolved.ResolvedStmt.{ResolvedStmt}
use Rattle.ix_mean.specs.Typing.{Frame}
use Rattle.ix_mean.specs.View.{view_statements}
use Rattle.ix_mean.specs.ResolvingStatements.{Scope, Step}
use Rattle.ix_behaviour.specs.Behaviours.{stored_in, targets_at}
use Rattle.ix_slots.specs.Found.{entries_of}
use Rattle.ix_slots.specs.Made.{made_row}
use Rattle.ix_slots.specs.Spawned.{spawned_among}
use Rattle.ix_behaviour.specs.Flags.{unmarked, marked}
use Rattle.ix_resolve.proofs.Resolving.{names_are, body_made, spawned_made, statement_made, frame_made}
use Rattle.ix_resolve.proofs.behaviour.resolve.Goals as goal

pub new-requires : goal.new-requires
new-requires c =
    let few = c.behaviour_laws.ensures.few c.requires.well_formed.0 (view_extension c.args.ext.now) c.requires.well_formed.1 in
    let P : List Register → Type 0 = λ rs. length rs ≤ 16 in
    subst P (sym c.as_slice-registers.ensures) few.registers

pub returns-clause-body : goal.returns-clause-body
returns-clause-body c =
    let x = c.args.ext.now in
    let w = c.args.which in
    let xs = c.body_of.result.now in
    let ns = c.in_ok-names.names in
    let sc = c.new-locals.result in
    let named =
    c.in_ok-names.ensures
    ∙ names_are x w c.pieces_of.result.now c.as_slice-registers.result.now c.as_slice.result.now c.pieces_of.ensures c.as_slice-registers.ensures c.as_slice.ensures in
    let made = body_made x w xs ns sc c.behaviour_laws.ensures.resolved c.behaviour_laws.ensures.typed c.requires.well_formed c.requires.in_range c.body_of.ensures named c.new-locals.ensures in
    statement_made x w ns (made_row ns (typed_items xs) sc) c.in_ok-body.body named made c.in_ok-body.ensures.body

pub returns-clause-types : goal.returns-clause-types
returns-clause-types c =
    let x = c.args.ext.now in
    let w = c.args.which in
    let xs = c.body_of.result.now in
    let ns = c.in_ok-names.names in
    let sc = c.new-locals.result in
    let named =
    c.in_ok-names.ensures
    ∙ names_are x w c.pieces_of.result.now c.as_slice-registers.result.now c.as_slice.result.now c.pieces_of.ensures c.as_slice-registers.ensures c.as_slice.ensures in
    let made = body_made x w xs ns sc c.behaviour_laws.ensures.resolved c.behaviour_laws.ensures.typed c.requires.well_formed c.requires.in_range c.body_of.ensures named c.new-locals.ensures in
    let body = statement_made x w ns (made_row ns (typed_items xs) sc) c.in_ok-body.body named made c.in_ok-body.ensures.body in
    let stored =
    c.stored_first.ensures (entries_of x.tables)
    ∙ ap (λ (b : List ResolvedStmt). stored_in (view_statements (entries_of x.tables) b)) c.as_slice-2.ensures in
    frame_made x w c.from_vec-slots.result c.in_ok-targets.targets c.stored_first.result c.as_slice-registers.result.now c.in_ok-body.body
    (c.from_vec-slots.ensures ∙ c.into_slots.ensures ∙ ap (λ (s : Scope). s.slots) (c.in_ok-body.ensures.scope ∙ ap (λ (s : Step). s.scope) made))
    c.in_ok-targets.ensures stored body c.as_slice-registers.ensures

pub returns-clause-spawned : goal.returns-clause-spawned
returns-clause-spawned c =
    let x = c.args.ext.now in
    let w = c.args.which in
    let xs = c.body_of.result.now in
    let ns = c.in_ok-names.names in
    let sc = c.new-locals.result in
    let named =
    c.in_ok-names.ensures
    ∙ names_are x w c.pieces_of.result.now c.as_slice-registers.result.now c.as_slice.result.now c.pieces_of.ensures c.as_slice-registers.ensures c.as_slice.ensures in
    let made = body_made x w xs ns sc c.behaviour_laws.ensures.resolved c.behaviour_laws.ensures.typed c.requires.well_formed c.requires.in_range c.body_of.ensures named c.new-locals.ensures in
    let body = statement_made x w ns (made_row ns (typed_items xs) sc) c.in_ok-body.body named made c.in_ok-body.ensures.body in
    let stored =
    c.stored_first.ensures (entries_of x.tables)
    ∙ ap (λ (b : List ResolvedStmt). stored_in (view_statements (entries_of x.tables) b)) c.as_slice-2.ensures in
    let types =
    frame_made x w c.from_vec-slots.result c.in_ok-targets.targets c.stored_first.result c.as_slice-registers.result.now c.in_ok-body.body
    (c.from_vec-slots.ensures ∙ c.into_slots.ensures ∙ ap (λ (s : Scope). s.slots) (c.in_ok-body.ensures.scope ∙ ap (λ (s : Step). s.scope) made))
    c.in_ok-targets.ensures stored body c.as_slice-registers.ensures in
    let spawned = spawned_made x w xs ns sc c.behaviour_laws.ensures.resolved c.behaviour_laws.ensures.typed c.requires.well_formed c.requires.in_range c.body_of.ensures named c.new-locals.ensures in
    c.in_ok-spawned.ensures
    ∙ ap (λ (ts : List Ty). marked (map unmarked ts) (spawned_among c.as_slice-4.result.now)) (c.as_slice-3.ensures ∙ ap (λ (f : Frame). f.targets) types)
    ∙ ap (λ (b : List ResolvedStmt). marked (map unmarked (targets_at (view_extension x) w)) (spawned_among b)) c.as_slice-4.ensures
    ∙ ap (marked (map unmarked (targets_at (view_extension x) w))) (c.in_ok-body.ensures.spawns ∙ spawned)
