use Rattle.std.proofs.Common.{sym, ◌∙◌, arith, length, get_or}
use Rattle.std.proofs.lemmas.Bool.{eq-eqb}
use Rattle.rv_reader.proofs.Readings.{digit_small, hex_next, hex_none, hex_end, power_next, power_fits}
use Rattle.rv_reader.proofs.word.digits.Goals as goal

pub returns-in_default : goal.returns-in_default
returns-in_default c =
    let e = hex_none c.args.word.now c.loop-byte.byte-index 0 c.loop-byte.value (omega (arith, c.loop-byte-test.true, c.loop-byte.auto.byte-index-end)) (sym c.digit.ensures ∙ c.in_default.is) c.loop-byte.invariant.rest in
    sym (rw (eq-eqb (length c.args.word.now) c.args.count c.if-word-count.false) e)

pub overflow_mul-value : goal.overflow_mul-value
overflow_mul-value c =
    let d = digit_small (get_or c.args.word.now c.loop-byte.byte-index 0) c.in-Some.digit (sym c.digit.ensures ∙ c.in-Some.is) in
    let f = power_fits c.loop-byte.byte-index c.args.count c.loop-byte.value c.in-Some.digit c.loop-byte.invariant.small d (omega (arith, c.loop-byte-test.true, c.loop-byte.auto.byte-index-end, c.if-word-count.false)) c.requires in
    omega (arith, f)

pub overflow_add-value : goal.overflow_add-value
overflow_add-value c =
    let d = digit_small (get_or c.args.word.now c.loop-byte.byte-index 0) c.in-Some.digit (sym c.digit.ensures ∙ c.in-Some.is) in
    let f = power_fits c.loop-byte.byte-index c.args.count c.loop-byte.value c.in-Some.digit c.loop-byte.invariant.small d (omega (arith, c.loop-byte-test.true, c.loop-byte.auto.byte-index-end, c.if-word-count.false)) c.requires in
    omega (arith, f)

pub loop-byte-preserved : goal.loop-byte-preserved
loop-byte-preserved c =
    let read = sym c.digit.ensures ∙ c.in-Some.is in
    record {
      rest = hex_next c.args.word.now c.loop-byte.byte-index 0 c.loop-byte.value c.in-Some.digit (omega (arith, c.loop-byte-test.true, c.loop-byte.auto.byte-index-end)) read c.loop-byte.invariant.rest;
      small = power_next c.loop-byte.byte-index c.loop-byte.value c.in-Some.digit c.loop-byte.invariant.small (digit_small (get_or c.args.word.now c.loop-byte.byte-index 0) c.in-Some.digit read);
    }

pub returns : goal.returns
returns c =
    let e = hex_end c.args.word.now c.loop-byte.byte-index c.loop-byte.value (omega (arith, c.loop-byte-test.false, c.loop-byte.auto.byte-index-end)) c.loop-byte.invariant.rest in
    sym (rw (eq-eqb (length c.args.word.now) c.args.count c.if-word-count.false) e)
