use Rattle.std.proofs.Common.{◌∙◌, arith, ap, length, length-append}
use Rattle.std.specs.Prelude.{decimal}
use Rattle.rv_trace.proofs.Texts.{small_short}
use Rattle.rv_trace.proofs.row_text.put_small.Goals as goal

pub decimal-requires : goal.decimal-requires
decimal-requires c =
    let h = small_short c.args.number c.ranges.number.fits in
    let e = ap (λ n. length (decimal n)) c.from.ensures in
    omega (arith, h, e, c.requires)

pub returns-clause-few : goal.returns-clause-few
returns-clause-few c =
    let h = small_short c.args.number c.ranges.number.fits in
    let e = ap (λ n. length (decimal n)) c.from.ensures in
    let l = ap length c.decimal.ensures.appends ∙ length-append c.args.out.now (decimal c.from.result) in
    omega (arith, h, e, l)
