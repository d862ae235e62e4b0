use Rattle.std.proofs.Common.{subst}
use Rattle.ix_bits.specs.declared.operator.UnOp.{UnOp}
use Rattle.ix_graph.specs.Graphs.{TakesOne, IsUnaryResult}
use Rattle.number_cases.proofs.operations.unary_kind.Goals as goal

pub returns-in-Neg-clause-typed : goal.returns-in-Neg-clause-typed
returns-in-Neg-clause-typed c = λ g args ty h. subst (λ (o : UnOp). TakesOne g.ops args (λ a. IsUnaryResult o a ty)) c.in-Neg.is h

pub returns-in-Not-clause-typed : goal.returns-in-Not-clause-typed
returns-in-Not-clause-typed c = λ g args ty h. subst (λ (o : UnOp). TakesOne g.ops args (λ a. IsUnaryResult o a ty)) c.in-Not.is h

pub returns-in-Lnot-clause-typed : goal.returns-in-Lnot-clause-typed
returns-in-Lnot-clause-typed c = λ g args ty h. subst (λ (o : UnOp). TakesOne g.ops args (λ a. IsUnaryResult o a ty)) c.in-Lnot.is h
