use Rattle.std.proofs.Common.{subst}
use Rattle.ix_bits.specs.declared.operator.BinOp.{BinOp}
use Rattle.ix_graph.specs.Graphs.{TakesTwo, IsBinaryResult}
use Rattle.number_cases.proofs.operations.kind_of.Goals as goal

pub returns-in-Add-clause-typed : goal.returns-in-Add-clause-typed
returns-in-Add-clause-typed c = λ g args ty h. subst (λ (o : BinOp). TakesTwo g.ops args (λ a b. IsBinaryResult o a b ty)) c.in-Add.is h

pub returns-in-Sub-clause-typed : goal.returns-in-Sub-clause-typed
returns-in-Sub-clause-typed c = λ g args ty h. subst (λ (o : BinOp). TakesTwo g.ops args (λ a b. IsBinaryResult o a b ty)) c.in-Sub.is h

pub returns-in-Mul-clause-typed : goal.returns-in-Mul-clause-typed
returns-in-Mul-clause-typed c = λ g args ty h. subst (λ (o : BinOp). TakesTwo g.ops args (λ a b. IsBinaryResult o a b ty)) c.in-Mul.is h

pub returns-in-And-clause-typed : goal.returns-in-And-clause-typed
returns-in-And-clause-typed c = λ g args ty h. subst (λ (o : BinOp). TakesTwo g.ops args (λ a b. IsBinaryResult o a b ty)) c.in-And.is h

pub returns-in-Or-clause-typed : goal.returns-in-Or-clause-typed
returns-in-Or-clause-typed c = λ g args ty h. subst (λ (o : BinOp). TakesTwo g.ops args (λ a b. IsBinaryResult o a b ty)) c.in-Or.is h

pub returns-in-Xor-clause-typed : goal.returns-in-Xor-clause-typed
returns-in-Xor-clause-typed c = λ g args ty h. subst (λ (o : BinOp). TakesTwo g.ops args (λ a b. IsBinaryResult o a b ty)) c.in-Xor.is h

pub returns-in-Shl-clause-typed : goal.returns-in-Shl-clause-typed
returns-in-Shl-clause-typed c = λ g args ty h. subst (λ (o : BinOp). TakesTwo g.ops args (λ a b. IsBinaryResult o a b ty)) c.in-Shl.is h

pub returns-in-Shr-clause-typed : goal.returns-in-Shr-clause-typed
returns-in-Shr-clause-typed c = λ g args ty h. subst (λ (o : BinOp). TakesTwo g.ops args (λ a b. IsBinaryResult o a b ty)) c.in-Shr.is h

pub returns-in-Eq-clause-typed : goal.returns-in-Eq-clause-typed
returns-in-Eq-clause-typed c = λ g args ty h. subst (λ (o : BinOp). TakesTwo g.ops args (λ a b. IsBinaryResult o a b ty)) c.in-Eq.is h

pub returns-in-Ne-clause-typed : goal.returns-in-Ne-clause-typed
returns-in-Ne-clause-typed c = λ g args ty h. subst (λ (o : BinOp). TakesTwo g.ops args (λ a b. IsBinaryResult o a b ty)) c.in-Ne.is h

pub returns-in-Lt-clause-typed : goal.returns-in-Lt-clause-typed
returns-in-Lt-clause-typed c = λ g args ty h. subst (λ (o : BinOp). TakesTwo g.ops args (λ a b. IsBinaryResult o a b ty)) c.in-Lt.is h

pub returns-in-Le-clause-typed : goal.returns-in-Le-clause-typed
returns-in-Le-clause-typed c = λ g args ty h. subst (λ (o : BinOp). TakesTwo g.ops args (λ a b. IsBinaryResult o a b ty)) c.in-Le.is h

pub returns-in-Gt-clause-typed : goal.returns-in-Gt-clause-typed
returns-in-Gt-clause-typed c = λ g args ty h. subst (λ (o : BinOp). TakesTwo g.ops args (λ a b. IsBinaryResult o a b ty)) c.in-Gt.is h

pub returns-in-Ge-clause-typed : goal.returns-in-Ge-clause-typed
returns-in-Ge-clause-typed c = λ g args ty h. subst (λ (o : BinOp). TakesTwo g.ops args (λ a b. IsBinaryResult o a b ty)) c.in-Ge.is h

pub returns-in-Land-clause-typed : goal.returns-in-Land-clause-typed
returns-in-Land-clause-typed c = λ g args ty h. subst (λ (o : BinOp). TakesTwo g.ops args (λ a b. IsBinaryResult o a b ty)) c.in-Land.is h

pub returns-in-Lor-clause-typed : goal.returns-in-Lor-clause-typed
returns-in-Lor-clause-typed c = λ g args ty h. subst (λ (o : BinOp). TakesTwo g.ops args (λ a b. IsBinaryResult o a b ty)) c.in-Lor.is h

pub returns-in-Concat-clause-typed : goal.returns-in-Concat-clause-typed
returns-in-Concat-clause-typed c = λ g args ty h. subst (λ (o : BinOp). TakesTwo g.ops args (λ a b. IsBinaryResult o a b ty)) c.in-Concat.is h
