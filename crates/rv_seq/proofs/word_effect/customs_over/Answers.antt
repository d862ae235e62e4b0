use Rattle.std.proofs.Common.{◌<◌, ℕ, get_or, Option, None, arith}
use Rattle.std.specs.Option.{option_or}
use Rattle.ix_bits.specs.declared.number.Bits.{Bits}
use Rattle.ix_eval.proofs.Tables.{table_is}
use Rattle.rv_seq.proofs.word_effect.customs_over.Goals as goal

pub returns : goal.returns
returns c =
    let f : ℕ → Option Bits = λ r. option_or (get_or c.args.later.now r None) (get_or c.args.earlier.now r None) in
    table_is c.loop-r.all f 16 None c.loop-r.invariant.0 (λ r less. let below : r < c.loop-r.r = omega arith in c.loop-r.invariant.1 r below)
