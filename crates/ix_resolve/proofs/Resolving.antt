-- What is made of a behaviour's statements is what its names resolve to.
use Rattle.std.proofs.Common.{◌≡◌, ◌∙◌, sym, ap, subst, refl, ℕ, List, [], ◌∷◌, ◌++◌, map, Option}
use Rattle.ix_bits.specs.declared.number.Ty.{Ty}
use Rattle.ix_tree.specs.declared.extension.Extension.{Extension}
use Rattle.ix_tree.specs.declared.extension.Piece.{Piece}
use Rattle.ix_tree.specs.declared.extension.Register.{Register}
use Rattle.ix_tree.specs.declared.extension.Table.{Table}
use Rattle.ix_tree.specs.declared.typed.TypedStmt.{TypedStmt}
use Rattle.ix_tree.specs.TypedTrees.{TypedStmtTree, ts_block, ts_empty, ts_locals, ts_assign, ts_if, ts_if_else, ts_spawn, TypedRow, typed_end, typed_more}
use Rattle.ix_tree.specs.TypedView.{typed_whole, typed_items}
use Rattle.ix_extension.specs.Extensions.{ExtensionTree, view_extension}
use Rattle.ix_extension.specs.WellFormed.{IsOf, IsWellFormed}
use Rattle.ix_mean.specs.declared.resolved.ResolvedStmt.{ResolvedStmt}
use Rattle.ix_mean.specs.View.{view_statements}
use Rattle.ix_mean.specs.Core.{u32, Statement, st_skip, st_then, st_set, st_write, st_if}
use Rattle.ix_mean.specs.Typing.{Frame, IsTypedStatement}
use Rattle.ix_mean.specs.ByName.{Names}
use Rattle.ix_mean.specs.ResolvingStatements.{Scope, Step, after, left, step, step_row, outside, IsResolvedStatement, IsResolvedRow}
use Rattle.ix_behaviour.specs.declared.which.Which.{Which}
use Rattle.ix_behaviour.specs.Behaviours.{HasBehaviour, body_at, pieces_at, names_at, steps, resolved_at, statement_at, stored_in, or_byte, type_of_register, targets_at, frame_at, targets_in, spawned, spawned_row, all_spawned, spawned_at}
use Rattle.ix_behaviour.specs.Laws.{AreResolved, ResolvedLaw, TypedBehaviourLaw}
use Rattle.ix_slots.specs.Found.{names_of, entries_of}
use Rattle.ix_slots.specs.Made.{made_step, made_row}
use Rattle.ix_slots.specs.Spawned.{written_by, made_spawned, made_row_spawned}
use Rattle.ix_slots.proofs.MakesSteps.{made_step_is, made_row_is}

-- ---- a list of statements as the row of a block
steps_are : (ns : Names) (xs : List TypedStmt) (sc : Scope) → steps ns (map typed_whole xs) sc ≡ step_row ns (typed_items xs) sc
steps_are ns [] sc = refl
steps_are ns (x ∷ xs) sc =
    let s = step ns (typed_whole x) sc in
    ap (λ (z : Step). let y : Step = record { body = st_then s.body z.body; scope = z.scope } in y) (steps_are ns xs s.scope)

row_resolved : (ns : Names) (xs : List TypedStmt) (sc : Scope) → AreResolved ns (map typed_whole xs) sc → IsResolvedRow ns (typed_items xs) sc
row_resolved ns [] sc h = tt
row_resolved ns (x ∷ xs) sc h = (h.0, row_resolved ns xs (step ns (typed_whole x) sc).scope h.1)

row_spawned : (ns : Names) (xs : List TypedStmt) (sc : Scope) → spawned_row ns (typed_items xs) sc ≡ all_spawned ns (map typed_whole xs) sc
row_spawned ns [] sc = refl
row_spawned ns (x ∷ xs) sc = ap (λ (z : List ℕ). spawned ns (typed_whole x) sc ++ z) (row_spawned ns xs (step ns (typed_whole x) sc).scope)

-- ---- spawned targets
written_is : (s : Statement) → written_by s ≡ targets_in s
written_is st_skip = refl
written_is (st_then x y) = ap (λ (z : List ℕ). z ++ written_by y) (written_is x) ∙ ap (λ (z : List ℕ). targets_in x ++ z) (written_is y)
written_is (st_set k ty e) = refl
written_is (st_write k ty e a) = refl
written_is (st_if c x y) = ap (λ (z : List ℕ). z ++ written_by y) (written_is x) ∙ ap (λ (z : List ℕ). targets_in x ++ z) (written_is y)

mutual
  spawned_are : (f : Frame) (ns : Names) (x : TypedStmtTree) (sc : Scope) → IsTypedStatement f (step ns x sc).body → IsResolvedStatement ns x sc → made_spawned ns x sc ≡ spawned ns x sc
  spawned_are f ns (ts_block s all) sc h r = row_spawned_are f ns all sc h r
  spawned_are f ns (ts_empty s) sc h r = refl
  spawned_are f ns (ts_locals s ty ds) sc h r = refl
  spawned_are f ns (ts_assign s a) sc h r = refl
  spawned_are f ns (ts_if s c x) sc h r = spawned_are f ns x sc h.1 r.1
  spawned_are f ns (ts_if_else s c x y) sc h r =
      ap (λ (z : List ℕ). z ++ made_spawned ns y (left sc (made_step ns x sc).scope)) (spawned_are f ns x sc h.1 r.1)
      ∙ ap (λ (z : Step). spawned ns x sc ++ made_spawned ns y (left sc z.scope)) (made_step_is f ns x sc h.1 r.1)
      ∙ ap (λ (z : List ℕ). spawned ns x sc ++ z) (spawned_are f ns y (left sc (step ns x sc).scope) h.2 r.2)
  spawned_are f ns (ts_spawn s x) sc h r = ap (λ (z : Step). written_by z.body) (made_step_is f ns x sc h r) ∙ written_is (step ns x sc).body

  row_spawned_are : (f : Frame) (ns : Names) (xs : TypedRow) (sc : Scope) → IsTypedStatement f (step_row ns xs sc).body → IsResolvedRow ns xs sc
      → made_row_spawned ns xs sc ≡ spawned_row ns xs sc
  row_spawned_are f ns typed_end sc h r = refl
  row_spawned_are f ns (typed_more x rest) sc h r =
      ap (λ (z : List ℕ). z ++ made_row_spawned ns rest (made_step ns x sc).scope) (spawned_are f ns x sc h.0 r.0)
      ∙ ap (λ (z : Step). spawned ns x sc ++ made_row_spawned ns rest z.scope) (made_step_is f ns x sc h.0 r.0)
      ∙ ap (λ (z : List ℕ). spawned ns x sc ++ z) (row_spawned_are f ns rest (step ns x sc).scope h.1 r.1)

-- ---- behaviours
-- the statements of a behaviour with what is needed of them
record IsBody (x : ExtensionTree) (w : Which) (xs : List TypedStmt) : Type 0 where
  typed : IsTypedStatement (frame_at x w) (step_row (names_at x w) (typed_items xs) outside).body
  resolved : IsResolvedRow (names_at x w) (typed_items xs) outside
  is : resolved_at x w ≡ step_row (names_at x w) (typed_items xs) outside

is_body : (x : ExtensionTree) (w : Which) (xs : List TypedStmt) → map typed_whole xs ≡ body_at x w → AreResolved (names_at x w) (body_at x w) outside
    → IsTypedStatement (frame_at x w) (statement_at x w) → IsBody x w xs
is_body x w xs e r h =
    let ns = names_at x w in
    let same : resolved_at x w ≡ step_row ns (typed_items xs) outside = ap (λ (ys : List TypedStmtTree). steps ns ys outside) (sym e) ∙ steps_are ns xs outside in
    let P : List TypedStmtTree → Type 0 = λ ys. AreResolved ns ys outside in
    let Q : Step → Type 0 = λ s. IsTypedStatement (frame_at x w) s.body in
    record { typed = subst Q same h; resolved = row_resolved ns xs outside (subst P (sym e) r); is = same }

body_of : (x : Extension) (w : Which) (xs : List TypedStmt) → ResolvedLaw → TypedBehaviourLaw → IsWellFormed x → HasBehaviour (view_extension x) w
    → map typed_whole xs ≡ body_at (view_extension x) w → IsBody (view_extension x) w xs
body_of x w xs resolved typed well has e =
    let y = view_extension x in
    is_body y w xs e (resolved well.0 y w well.1 has) (typed well.0 y w well.1 has)

pub body_is : (x : Extension) (w : Which) (xs : List TypedStmt) → ResolvedLaw → TypedBehaviourLaw → IsWellFormed x → HasBehaviour (view_extension x) w
    → map typed_whole xs ≡ body_at (view_extension x) w → made_row (names_at (view_extension x) w) (typed_items xs) outside ≡ resolved_at (view_extension x) w
body_is x w xs resolved typed well has e =
    let y = view_extension x in
    let b = body_of x w xs resolved typed well has e in
    made_row_is (frame_at y w) (names_at y w) (typed_items xs) outside b.typed b.resolved ∙ sym b.is

pub spawned_is : (x : Extension) (w : Which) (xs : List TypedStmt) → ResolvedLaw → TypedBehaviourLaw → IsWellFormed x → HasBehaviour (view_extension x) w
    → map typed_whole xs ≡ body_at (view_extension x) w → made_row_spawned (names_at (view_extension x) w) (typed_items xs) outside ≡ spawned_at (view_extension x) w
spawned_is x w xs resolved typed well has e =
    let y = view_extension x in
    let ns = names_at y w in
    let b = body_of x w xs resolved typed well has e in
    row_spawned_are (frame_at y w) ns (typed_items xs) outside b.typed b.resolved
    ∙ row_spawned ns xs outside
    ∙ ap (λ (ys : List TypedStmtTree). all_spawned ns ys outside) e

-- ---- as the code has them
pub names_are : (x : Extension) (w : Which) (ps : List Piece) (rs : List Register) (ts : List Table) → ps ≡ pieces_at (view_extension x) w → rs ≡ x.registers → ts ≡ x.tables
    → names_of ps rs ts ≡ names_at (view_extension x) w
names_are x w ps rs ts e f g =
    ap (λ (z : List Piece). names_of z rs ts) e
    ∙ ap (λ (z : List Register). names_of (pieces_at (view_extension x) w) z ts) f
    ∙ ap (λ (z : List Table). names_of (pieces_at (view_extension x) w) x.registers z) g

-- what was made of the statements, with names and a scope that are those of the behaviour
pub body_made : (x : Extension) (w : Which) (xs : List TypedStmt) (ns : Names) (sc : Scope) → ResolvedLaw → TypedBehaviourLaw → IsWellFormed x → HasBehaviour (view_extension x) w
    → map typed_whole xs ≡ body_at (view_extension x) w → ns ≡ names_at (view_extension x) w → sc ≡ outside → made_row ns (typed_items xs) sc ≡ resolved_at (view_extension x) w
body_made x w xs ns sc resolved typed well has e f g =
    ap (λ (z : Names). made_row z (typed_items xs) sc) f
    ∙ ap (made_row (names_at (view_extension x) w) (typed_items xs)) g
    ∙ body_is x w xs resolved typed well has e

pub spawned_made : (x : Extension) (w : Which) (xs : List TypedStmt) (ns : Names) (sc : Scope) → ResolvedLaw → TypedBehaviourLaw → IsWellFormed x → HasBehaviour (view_extension x) w
    → map typed_whole xs ≡ body_at (view_extension x) w → ns ≡ names_at (view_extension x) w → sc ≡ outside → made_row_spawned ns (typed_items xs) sc ≡ spawned_at (view_extension x) w
spawned_made x w xs ns sc resolved typed well has e f g =
    ap (λ (z : Names). made_row_spawned z (typed_items xs) sc) f
    ∙ ap (made_row_spawned (names_at (view_extension x) w) (typed_items xs)) g
    ∙ spawned_is x w xs resolved typed well has e

-- the statement that a body is seen as
pub statement_made : (x : Extension) (w : Which) (ns : Names) (made : Step) (body : List ResolvedStmt) → ns ≡ names_at (view_extension x) w → made ≡ resolved_at (view_extension x) w
    → view_statements (entries_of ns.tables) body ≡ made.body → view_statements (entries_of x.tables) body ≡ statement_at (view_extension x) w
statement_made x w ns made body f e h =
    ap (λ (z : Names). view_statements (entries_of z.tables) body) (sym f) ∙ h ∙ ap (λ (s : Step). s.body) e

-- the types of slots and targets
pub frame_made : (x : Extension) (w : Which) (slots targets : List Ty) (stored : Option Ty) (rs : List Register) (body : List ResolvedStmt)
    → slots ≡ (resolved_at (view_extension x) w).scope.slots
    → targets ≡ or_byte stored ∷ u32 ∷ u32 ∷ map type_of_register rs
    → stored ≡ stored_in (view_statements (entries_of x.tables) body)
    → view_statements (entries_of x.tables) body ≡ statement_at (view_extension x) w → rs ≡ x.registers
    → let f : Frame = record { slots = slots; targets = targets } in f ≡ frame_at (view_extension x) w
frame_made x w slots targets stored rs body e f g h r =
    let y = view_extension x in
    let is : targets ≡ targets_at y w =
    f ∙ ap (λ (z : List Register). or_byte stored ∷ u32 ∷ u32 ∷ map type_of_register z) r
    ∙ ap (λ (z : Option Ty). or_byte z ∷ u32 ∷ u32 ∷ map type_of_register x.registers) (g ∙ ap stored_in h) in
    ap (λ (z : List Ty). let f : Frame = record { slots = z; targets = targets } in f) e
    ∙ ap (λ (z : List Ty). let f : Frame = record { slots = (resolved_at y w).scope.slots; targets = z } in f) is
