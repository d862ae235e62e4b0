use Rattle.std.proofs.Common.{◌+◌, ◌≡◌, refl, arith}
use Rattle.rv_isa.specs.Encoded.{encoded}
use Rattle.rv_isa.proofs.RoundLemmas.{encoded-lt, Matches-encoded, decoded-encoded}
use Rattle.rv_isa.proofs.encoding.encode.Goals as goal

pub overflow_add-result : goal.overflow_add-result
unfolding encoded
overflow_add-result c =
    let same : c.base_pattern.result.1 + c.joined.result ≡ encoded c.args.b =
    rw (c.base_pattern.ensures, c.joined.ensures, c.base_format.ensures) refl
    in
    omega (arith, same, encoded-lt c.args.b c.requires)

pub returns-clause-value : goal.returns-clause-value
unfolding encoded
returns-clause-value c = rw (c.base_pattern.ensures, c.joined.ensures, c.base_format.ensures) refl

pub returns-clause-row : goal.returns-clause-row
unfolding encoded
returns-clause-row c =
    rw (c.base_pattern.ensures, c.joined.ensures, c.base_format.ensures) (Matches-encoded c.args.b c.requires)

pub returns-clause-decodes : goal.returns-clause-decodes
unfolding encoded
returns-clause-decodes c =
    rw (c.base_pattern.ensures, c.joined.ensures, c.base_format.ensures) (decoded-encoded c.args.b c.requires)
