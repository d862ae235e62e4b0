-- What ends at a token, in the code's frames.
use Rattle.std.proofs.Common.{◌≡◌, ℕ, ◌<◌, ◌≤◌, [], ◌∷◌, refl, ap, sym, ◌∙◌, subst}
use Rattle.ix_tree.specs.Trees.{Part}
use Rattle.ix_tree.specs.Productions.{Done}
use Rattle.ix_tree.specs.Machine as M
use Rattle.ix_tree.specs.Machine.{Stack, State, have, done, hold, grip, level, made, settle, hold_stmt, made_stmt, settle_stmt}
use Rattle.ix_tree.proofs.Steps.{settle_stop, settle_pop, settle_stmt_stop, settle_stmt_pop}
use Rattle.ix_parse_state.specs.declared.frame.Frame.{Frame}
use Rattle.ix_parse_state.specs.declared.frame.Frame.TheVariants as F
use Rattle.ix_parse_state.specs.declared.frame.OperatorFrame.{OperatorFrame}
use Rattle.ix_parse_state.specs.declared.frame.ClosingFrame.{ClosingFrame}
use Rattle.ix_parse_state.specs.declared.frame.ClosingFrame.TheVariants as C
use Rattle.ix_parse_state.specs.declared.frame.AssignFrame.{AssignFrame}
use Rattle.ix_parse_state.specs.declared.frame.AssignFrame.TheVariants as L
use Rattle.ix_parse_state.specs.declared.frame.TypeFrame.{TypeFrame}
use Rattle.ix_parse_state.specs.declared.frame.TypeFrame.TheVariants as Y
use Rattle.ix_parse_state.specs.declared.frame.DeclFrame.{DeclFrame}
use Rattle.ix_parse_state.specs.declared.frame.DeclFrame.TheVariants as D
use Rattle.ix_parse_state.specs.declared.frame.StmtFrame.{StmtFrame}
use Rattle.ix_parse_state.specs.declared.frame.StmtFrame.TheVariants as R
use Rattle.ix_parse_state.specs.declared.frame.BodyFrame.{BodyFrame}
use Rattle.ix_parse_state.specs.declared.frame.BodyFrame.TheVariants as B
use Rattle.ix_parse_state.specs.declared.frame.OperatorFrame.TheVariants as O
use Rattle.ix_parse_state.specs.Views.{operator_frame, closing_frame, assign_frame, type_frame, decl_frame, stmt_frame, body_frame, frame_of}

-- ---- expressions
pub none_ends : (p d : ℕ) (v : Part) (s j : Stack) → s ≡ [] → j ≡ [] → have d v j ≡ settle p d v s
unfolding settle
none_ends p d v s j a b = rw (a, b) refl

pub holds_on : (p d : ℕ) (v : Part) (f : M.Frame) (k s j : Stack) → s ≡ f ∷ k → j ≡ f ∷ k → hold f < p → have d v j ≡ settle p d v s
holds_on p d v f k s j a b l = ap (have d v) (b ∙ sym a) ∙ sym (settle_stop p d v s (subst (λ (z : Stack). grip z < p) (sym a) l))

pub ends_one : (p d e : ℕ) (v w : Part) (f : M.Frame) (k s : Stack) → s ≡ f ∷ k → p ≤ hold f → e ≡ level d f → w ≡ made v f → settle p e w k ≡ settle p d v s
ends_one p d e v w f k s a l h i =
    ap (λ (x : ℕ). settle p x w k) h ∙ ap (λ (x : Part). settle p (level d f) x k) i ∙ sym (settle_pop p d v f k l) ∙ ap (settle p d v) (sym a)

closing_hold : (x : ClosingFrame) → hold (closing_frame x) ≡ 0
closing_hold (C.Round d t) = refl
closing_hold _ = refl

assign_hold : (x : AssignFrame) → hold (assign_frame x) ≡ 0
assign_hold (L.Single d) = refl
assign_hold _ = refl

type_hold : (x : TypeFrame) → hold (type_frame x) ≡ 0
type_hold (Y.Locals d) = refl
type_hold _ = refl

decl_hold : (x : DeclFrame) → hold (decl_frame x) ≡ 0
decl_hold (D.Register r) = refl
decl_hold _ = refl

stmt_hold : (x : StmtFrame) → hold (stmt_frame x) ≡ 0
stmt_hold (R.Spawn d t) = refl
stmt_hold _ = refl

body_hold : (x : BodyFrame) → hold (body_frame x) ≡ 0
body_hold (B.Behavior i) = refl
body_hold _ = refl

pub no_operator : (f : Frame) → ((x : OperatorFrame) → f ≡ F.Operator x → ⊥) → hold (frame_of f) ≡ 0
no_operator (F.Operator x) n = absurd (n x refl)
no_operator (F.Closing x) n = closing_hold x
no_operator (F.Assign x) n = assign_hold x
no_operator (F.Type x) n = type_hold x
no_operator (F.Decl x) n = decl_hold x
no_operator (F.Stmt x) n = stmt_hold x
no_operator (F.Body x) n = body_hold x

-- ---- statements
pub no_stmt_ends : (p : ℕ) (v : Done) (s j : Stack) → s ≡ [] → j ≡ [] → done v j ≡ settle_stmt p v s
unfolding settle_stmt
no_stmt_ends p v s j a b = rw (a, b) refl

pub holds_stmt_on : (p : ℕ) (v : Done) (f : M.Frame) (k s j : Stack) → s ≡ f ∷ k → j ≡ f ∷ k → hold_stmt f < p → done v j ≡ settle_stmt p v s
holds_stmt_on p v f k s j a b l = ap (done v) b ∙ sym (settle_stmt_stop p v f k l) ∙ ap (settle_stmt p v) (sym a)

pub ends_one_stmt : (p : ℕ) (v w : Done) (f : M.Frame) (k s : Stack) → s ≡ f ∷ k → p ≤ hold_stmt f → w ≡ made_stmt v f → settle_stmt p w k ≡ settle_stmt p v s
ends_one_stmt p v w f k s a l i = ap (λ (x : Done). settle_stmt p x k) i ∙ sym (settle_stmt_pop p v f k l) ∙ ap (settle_stmt p v) (sym a)

operator_hold_stmt : (x : OperatorFrame) → hold_stmt (operator_frame x) ≡ 0
operator_hold_stmt (O.Binary y) = refl
operator_hold_stmt _ = refl

closing_hold_stmt : (x : ClosingFrame) → hold_stmt (closing_frame x) ≡ 0
closing_hold_stmt (C.Round d t) = refl
closing_hold_stmt _ = refl

assign_hold_stmt : (x : AssignFrame) → hold_stmt (assign_frame x) ≡ 0
assign_hold_stmt (L.Single d) = refl
assign_hold_stmt _ = refl

type_hold_stmt : (x : TypeFrame) → hold_stmt (type_frame x) ≡ 0
type_hold_stmt (Y.Locals d) = refl
type_hold_stmt _ = refl

decl_hold_stmt : (x : DeclFrame) → hold_stmt (decl_frame x) ≡ 0
decl_hold_stmt (D.Register r) = refl
decl_hold_stmt _ = refl

body_hold_stmt : (x : BodyFrame) → hold_stmt (body_frame x) ≡ 0
body_hold_stmt (B.Behavior i) = refl
body_hold_stmt _ = refl

pub no_stmt : (f : Frame) → ((x : StmtFrame) → f ≡ F.Stmt x → ⊥) → hold_stmt (frame_of f) ≡ 0
no_stmt (F.Operator x) n = operator_hold_stmt x
no_stmt (F.Closing x) n = closing_hold_stmt x
no_stmt (F.Assign x) n = assign_hold_stmt x
no_stmt (F.Type x) n = type_hold_stmt x
no_stmt (F.Decl x) n = decl_hold_stmt x
no_stmt (F.Stmt x) n = absurd (n x refl)
no_stmt (F.Body x) n = body_hold_stmt x
