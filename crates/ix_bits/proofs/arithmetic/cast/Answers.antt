use Rattle.std.proofs.Common.{◌%◌, ◌^◌, ◌∙◌, ap, sym, ℕ}
use Rattle.ix_bits.proofs.Patterns.{pattern_narrows}
use Rattle.ix_bits.specs.Operators.{value_of}
use Rattle.ix_bits.proofs.Results.{fits}
use Rattle.ix_bits.proofs.arithmetic.cast.Goals as goal

pub returns-clause-pattern : goal.returns-clause-pattern
returns-clause-pattern c =
    c.truncated.ensures.value ∙ ap (λ (n : ℕ). n % 2 ^ c.args.to.width) c.extended.ensures ∙ sym (pattern_narrows c.args.to.width 128 (value_of c.args.from c.args.a.raw) c.args.to.most_width)

pub returns-clause-fit : goal.returns-clause-fit
returns-clause-fit c =
    let e = c.truncated.ensures.value ∙ ap (λ (n : ℕ). n % 2 ^ c.args.to.width) c.extended.ensures in
    let f = fits c.args.to.signed c.args.to.width (value_of c.args.from c.args.a.raw) c.truncated.result.raw c.args.to.some_width c.args.to.most_width e in
    record { holds = record { from_least = f.0.from_least; below_past = f.0.below_past }; congruent = f.1 }
