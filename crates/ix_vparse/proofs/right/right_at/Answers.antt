use Rattle.std.proofs.Common.{sym, subst}
use Rattle.std.specs.Prelude.{IfOk}
use Rattle.ix_verilog.specs.declared.right.RightSide.{RightSide}
use Rattle.ix_verilog.specs.Words.{words_of}
use Rattle.ix_vline.specs.declared.kind.Kind.TheVariants.{Assign}
use Rattle.ix_vline.specs.declared.kind.Right.{Right}
use Rattle.ix_vline.specs.declared.kind.Right.TheVariants as right
use Rattle.ix_vline.specs.Slots.{slots}
use Rattle.ix_vline.specs.Reached.{Fits}
use Rattle.ix_vline.specs.Picked.{IsSideOf}
use Rattle.ix_vparse.proofs.Sides.{line_length, line_sign}
use Rattle.ix_vparse.proofs.right.right_at.Goals as goal

pub literal_at-requires : goal.literal_at-requires
literal_at-requires c = line_length c.args.scope.now right.Literal c.args.tokens.now (subst (λ (k : Right). Fits c.args.scope.now (slots (Assign k)) (words_of c.args.tokens.now)) c.in-Literal.is c.requires)

pub returns-in-Literal : goal.returns-in-Literal
returns-in-Literal c = subst (λ (k : Right). IfOk c.literal_at.result (λ (r : RightSide). IsSideOf k (words_of c.args.tokens.now) r)) (sym c.in-Literal.is) c.literal_at.ensures

pub copy_at-requires : goal.copy_at-requires
copy_at-requires c = line_length c.args.scope.now right.Copy c.args.tokens.now (subst (λ (k : Right). Fits c.args.scope.now (slots (Assign k)) (words_of c.args.tokens.now)) c.in-Copy.is c.requires)

pub returns-in-Copy : goal.returns-in-Copy
returns-in-Copy c = subst (λ (k : Right). IfOk c.copy_at.result (λ (r : RightSide). IsSideOf k (words_of c.args.tokens.now) r)) (sym c.in-Copy.is) c.copy_at.ensures

pub turned_at-requires : goal.turned_at-requires
turned_at-requires c = line_length c.args.scope.now right.Turned c.args.tokens.now (subst (λ (k : Right). Fits c.args.scope.now (slots (Assign k)) (words_of c.args.tokens.now)) c.in-Turned.is c.requires)

pub returns-in-Turned : goal.returns-in-Turned
returns-in-Turned c = subst (λ (k : Right). IfOk c.turned_at.result (λ (r : RightSide). IsSideOf k (words_of c.args.tokens.now) r)) (sym c.in-Turned.is) c.turned_at.ensures

pub signed_at-requires : goal.signed_at-requires
signed_at-requires c = line_length c.args.scope.now right.Signed c.args.tokens.now (subst (λ (k : Right). Fits c.args.scope.now (slots (Assign k)) (words_of c.args.tokens.now)) c.in-Signed.is c.requires)

pub returns-in-Signed : goal.returns-in-Signed
returns-in-Signed c = subst (λ (k : Right). IfOk c.signed_at.result (λ (r : RightSide). IsSideOf k (words_of c.args.tokens.now) r)) (sym c.in-Signed.is) c.signed_at.ensures

pub joined_at-requires : goal.joined_at-requires
joined_at-requires c = line_length c.args.scope.now right.Joined c.args.tokens.now (subst (λ (k : Right). Fits c.args.scope.now (slots (Assign k)) (words_of c.args.tokens.now)) c.in-Joined.is c.requires)

pub returns-in-Joined : goal.returns-in-Joined
returns-in-Joined c = subst (λ (k : Right). IfOk c.joined_at.result (λ (r : RightSide). IsSideOf k (words_of c.args.tokens.now) r)) (sym c.in-Joined.is) c.joined_at.ensures

pub range_at-requires : goal.range_at-requires
range_at-requires c = line_length c.args.scope.now right.Range c.args.tokens.now (subst (λ (k : Right). Fits c.args.scope.now (slots (Assign k)) (words_of c.args.tokens.now)) c.in-Range.is c.requires)

pub returns-in-Range : goal.returns-in-Range
returns-in-Range c = subst (λ (k : Right). IfOk c.range_at.result (λ (r : RightSide). IsSideOf k (words_of c.args.tokens.now) r)) (sym c.in-Range.is) c.range_at.ensures

pub choice_at-requires : goal.choice_at-requires
choice_at-requires c = line_length c.args.scope.now right.Choice c.args.tokens.now (subst (λ (k : Right). Fits c.args.scope.now (slots (Assign k)) (words_of c.args.tokens.now)) c.in-Choice.is c.requires)

pub returns-in-Choice : goal.returns-in-Choice
returns-in-Choice c = subst (λ (k : Right). IfOk c.choice_at.result (λ (r : RightSide). IsSideOf k (words_of c.args.tokens.now) r)) (sym c.in-Choice.is) c.choice_at.ensures

pub both_at-requires-clause-size : goal.both_at-requires-clause-size
both_at-requires-clause-size c = line_length c.args.scope.now right.Both c.args.tokens.now (subst (λ (k : Right). Fits c.args.scope.now (slots (Assign k)) (words_of c.args.tokens.now)) c.in-Both.is c.requires)

pub both_at-requires-clause-operator : goal.both_at-requires-clause-operator
both_at-requires-clause-operator c = line_sign c.args.scope.now (words_of c.args.tokens.now) (subst (λ (k : Right). Fits c.args.scope.now (slots (Assign k)) (words_of c.args.tokens.now)) c.in-Both.is c.requires)

pub returns-in-Both : goal.returns-in-Both
returns-in-Both c = subst (λ (k : Right). IfOk c.both_at.result (λ (r : RightSide). IsSideOf k (words_of c.args.tokens.now) r)) (sym c.in-Both.is) c.both_at.ensures
