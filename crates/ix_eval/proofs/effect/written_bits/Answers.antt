use Rattle.std.proofs.Common.{◌∙◌, sym, ap, Option, Some, option_map}
use Rattle.ix_bits.specs.declared.number.Bits.{Bits}
use Rattle.ix_bits.proofs.Same.{bits_are}
use Rattle.ix_mean.specs.declared.evaluate.Written.{Written}
use Rattle.ix_mean.specs.Given.{write_seen}
use Rattle.ix_eval.specs.Evaluated.{bits_written}
use Rattle.ix_eval.proofs.effect.written_bits.Goals as goal

pub returns-in-Some : goal.returns-in-Some
returns-in-Some c =
    let ty = c.args.ty in
    let w = c.in-Some.written in
    ap (λ (b : Bits). Some b) (bits_are c.cast.result (bits_written ty (write_seen w)) c.cast.ensures.pattern c.cast.ensures.width)
    ∙ sym (ap (λ (o : Option Written). option_map (bits_written ty) (option_map write_seen o)) c.in-Some.is)
