use Rattle.ix_bits.proofs.InRange.{binary_holds, unary_holds, common_left, common_right}
use Rattle.ix_bits.proofs.Embeddings.{within, common_least}
use Rattle.ix_bits.proofs.Unique.{fit_is_the_one, patterns_are_numbers}
use Rattle.ix_bits.proofs.laws.number_laws.Goals as goal

pub returns-clause-fit : goal.returns-clause-fit
returns-clause-fit c = fit_is_the_one

pub returns-clause-patterns : goal.returns-clause-patterns
returns-clause-patterns c = patterns_are_numbers

pub returns-clause-range : goal.returns-clause-range
returns-clause-range c = λ a b x y p q. record {
  binary = λ op. binary_holds op a b x y (within a x p) (within b y q);
  unary = λ op. unary_holds op a x (within a x p);
}

pub returns-clause-common : goal.returns-clause-common
returns-clause-common c = λ a b. record {
  first = λ n p. common_left a b n (within a n p);
  second = λ n p. common_right a b n (within b n p);
  least = common_least a b;
}
