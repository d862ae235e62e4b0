-- The places of the reader as states of the grammar's machine.
use Rattle.std.proofs.Common.{◌≡◌, ◌≤◌, ◌∙◌, [], Vec, Global, refl, ap, arith}
use Rattle.ix_tree.specs.declared.section.Tree.{Tree}
use Rattle.ix_tree.specs.Machine as M
use Rattle.ix_tree.specs.Machine.{Stack, State, stuck, finish}
use Rattle.ix_parse_state.specs.declared.state.ExprGoal.{ExprGoal}
use Rattle.ix_parse_state.specs.declared.state.ExprGoal.TheVariants as E
use Rattle.ix_parse_state.specs.declared.state.TypeGoal.{TypeGoal}
use Rattle.ix_parse_state.specs.declared.state.TypeGoal.TheVariants as T
use Rattle.ix_parse_state.specs.declared.state.AssignGoal.{AssignGoal}
use Rattle.ix_parse_state.specs.declared.state.AssignGoal.TheVariants as A
use Rattle.ix_parse_state.specs.declared.state.StmtGoal.{StmtGoal}
use Rattle.ix_parse_state.specs.declared.state.StmtGoal.TheVariants as S
use Rattle.ix_parse_state.specs.declared.state.Goal.{Goal}
use Rattle.ix_parse_state.specs.declared.state.Goal.TheVariants as G
use Rattle.ix_parse_state.specs.declared.state.TextGoal.{TextGoal}
use Rattle.ix_parse_state.specs.declared.state.TextGoal.TheVariants as X
use Rattle.ix_parse_state.specs.declared.state.InstrGoal.{InstrGoal}
use Rattle.ix_parse_state.specs.declared.state.InstrGoal.TheVariants as I
use Rattle.ix_parse_state.specs.declared.state.Place.{Place}
use Rattle.ix_parse_state.specs.declared.state.Place.TheVariants as P
use Rattle.ix_parse_state.specs.declared.state.Fixed.{Fixed}
use Rattle.ix_parse_state.specs.declared.state.Fixed.TheVariants as K
use Rattle.ix_parse_state.specs.declared.state.Reader.{Reader}
use Rattle.ix_parse_state.specs.declared.frame.Frame.{Frame}
use Rattle.ix_parse_state.specs.declared.frame.OpenInstr.{OpenInstr}
use Rattle.ix_parse_state.specs.Views.{stack_of, instr_of, reader_of, of_expr, of_type, of_assign, of_stmt, of_goal, of_text, of_instr, of_place, of_fixed}
use Rattle.ix_parse_section.specs.Wanting.{nesting_of}

-- ---- only the end of a text is one
finish_expr : (g : ExprGoal) (k : Stack) → finish (of_expr g k) ≡ stuck []
finish_expr (E.Want d) k = refl
finish_expr _ k = refl

finish_type : (g : TypeGoal) (k : Stack) → finish (of_type g k) ≡ stuck []
finish_type (T.Typing d) k = refl
finish_type _ k = refl

finish_assign : (g : AssignGoal) (k : Stack) → finish (of_assign g k) ≡ stuck []
finish_assign (A.Placing d) k = refl
finish_assign _ k = refl

finish_stmt : (g : StmtGoal) (k : Stack) → finish (of_stmt g k) ≡ stuck []
finish_stmt (S.Stmt d) k = refl
finish_stmt _ k = refl

finish_goal : (g : Goal) (k : Stack) → finish (of_goal g k) ≡ stuck []
finish_goal (G.Expr g) k = finish_expr g k
finish_goal (G.Type g) k = finish_type g k
finish_goal (G.Assign g) k = finish_assign g k
finish_goal (G.Stmt g) k = finish_stmt g k

finish_instr : (g : InstrGoal) (i : M.OpenInstr) → finish (of_instr g i) ≡ stuck []
finish_instr I.Piece i = refl
finish_instr _ i = refl

pub finish_text : (g : TextGoal) → ((x : Tree) → g ≡ X.Ended x → ⊥) → finish (of_text g) ≡ stuck []
finish_text (X.Ended x) n = absurd (n x refl)
finish_text _ n = refl

pub finish_place : (p : Place) → ((g : TextGoal) → p ≡ P.Text g → ⊥) → finish (of_place p) ≡ stuck []
unfolding of_place
finish_place (P.Inside g fs) n = finish_goal g _
finish_place (P.Instr g i) n = finish_instr g _
finish_place (P.Text g) n = absurd (n g refl)

pub finish_fixed : (f : Fixed) (z : State) → (f ≡ K.None → ⊥) → finish (of_fixed f z) ≡ stuck []
finish_fixed K.None z n = absurd (n refl)
finish_fixed _ z n = refl

-- ---- the reader and its place
pub behind_is : (r : Reader) → reader_of r ≡ of_fixed r.fixed (of_place r.place)
unfolding reader_of
behind_is r = refl

pub at_place : (r : Reader) → r.fixed ≡ K.None → reader_of r ≡ of_place r.place
at_place r e = behind_is r ∙ ap (λ (f : Fixed). of_fixed f (of_place r.place)) e

-- fixed tokens stand at most one deep
pub shallow : (f : Fixed) → nesting_of f ≤ 64
shallow K.Square = omega arith
shallow K.SquareEnd = omega arith
shallow _ = omega arith

pub finish_behind : (r : Reader) → (r.fixed ≡ K.None → ⊥) → finish (reader_of r) ≡ stuck []
finish_behind r n = ap finish (behind_is r) ∙ finish_fixed r.fixed (of_place r.place) n

pub at_goal : (p : Place) (g : Goal) (k : Vec Frame Global) → p ≡ P.Inside g k → of_place p ≡ of_goal g (stack_of k.items)
unfolding of_place
at_goal p g k e = rw e refl

pub at_instr : (p : Place) (g : InstrGoal) (i : OpenInstr) → p ≡ P.Instr g i → of_place p ≡ of_instr g (instr_of i)
unfolding of_place
at_instr p g i e = rw e refl

pub at_text : (p : Place) (g : TextGoal) → p ≡ P.Text g → of_place p ≡ of_text g
unfolding of_place
at_text p g e = rw e refl
