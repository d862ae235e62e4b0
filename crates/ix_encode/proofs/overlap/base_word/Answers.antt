use Rattle.std.proofs.Common.{◌≡◌, ◌∙◌, ◌≤◌, sym, refl, arith, true, false}
use Rattle.ix_bits.specs.BaseTable.{are_apart}
use Rattle.ix_encode.proofs.Rests.{base_rest, base_end}
use Rattle.ix_encode.proofs.overlap.base_word.Goals as goal

pub returns-then-not-are_apart : goal.returns-then-not-are_apart
returns-then-not-are_apart c =
    let e = base_rest c.args.p c.loop-row.row c.base_pattern-q.result c.loop-row-test.true c.base_pattern-q.ensures in
    let a : are_apart c.args.p c.base_pattern-q.result ≡ false = sym c.are_apart.ensures ∙ c.if-not-are_apart.true in
    sym (c.loop-row.invariant ∙ e ∙ rw a refl)

pub loop-row-preserved : goal.loop-row-preserved
loop-row-preserved c =
    let e = base_rest c.args.p c.loop-row.row c.base_pattern-q.result c.loop-row-test.true c.base_pattern-q.ensures in
    let a : are_apart c.args.p c.base_pattern-q.result ≡ true = sym c.are_apart.ensures ∙ c.if-not-are_apart.false in
    c.loop-row.invariant ∙ e ∙ rw a refl

pub returns : goal.returns
returns c =
    let past : 40 ≤ c.loop-row.row = omega (arith, c.loop-row-test.false) in
    sym (c.loop-row.invariant ∙ base_end c.args.p c.loop-row.row past)
