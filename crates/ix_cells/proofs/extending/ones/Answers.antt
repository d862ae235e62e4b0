use Rattle.std.proofs.Common.{arith}
use Rattle.ix_bits.proofs.Results.{ones_of}
use Rattle.std.proofs.lemmas.Nat.{pow_pos}
use Rattle.ix_cells.proofs.extending.ones.Goals as goal

pub invariant_of-result : goal.invariant_of-result
invariant_of-result c =
    let e = ones_of c.args.width c.requires.most in
    let p = pow_pos c.args.width in
    record { some_width = c.requires.some; most_width = c.requires.most; in_width = omega arith }

pub returns-clause-value : goal.returns-clause-value
returns-clause-value c = ones_of c.args.width c.requires.most
