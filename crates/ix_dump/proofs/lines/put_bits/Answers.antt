use Rattle.std.proofs.Common.{◌≡◌, ◌∙◌, ap, ◌++◌, ◌-◌, ◌/◌, ◌^◌, sym, arith}
use Rattle.std.proofs.lemmas.List.{append-nil}
use Rattle.ix_dump.specs.Dump.{binary_digits}
use Rattle.ix_dump.proofs.Digits.{digits_push, no_digits}
use Rattle.ix_dump.proofs.lines.put_bits.Goals as goal

pub loop-left-init : goal.loop-left-init
loop-left-init c =
    let w = c.args.value.width in
    let before = c.args.out.now in
    let value = c.args.value.raw / 2 ^ w in
    let none : w - w ≡ 0 = omega arith in
    record {
      within = omega arith;
      count = omega arith;
      text = sym (ap (λ n. before ++ binary_digits n value) none ∙ ap (λ l. before ++ l) (no_digits value) ∙ append-nil before);
    }

pub loop-left-preserved : goal.loop-left-preserved
loop-left-preserved c =
    let place = c.loop-left.left - 1 in
    record {
      within = omega (arith, c.loop-left.invariant.within);
      count = omega (arith, c.loop-left.invariant.count, c.put_bit.ensures.count);
      text = digits_push c.args.out.now c.loop-left.out c.put_bit.new.out c.args.value.width c.loop-left.left place c.args.value.raw (omega arith) c.loop-left.invariant.within
          c.loop-left.invariant.text c.put_bit.ensures.text;
    }
