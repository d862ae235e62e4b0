use Rattle.std.proofs.Common.{◌≡◌, ◌-◌, sym, arith, rules}
use Rattle.std.proofs.lemmas.Grind.{common_steps}
use Rattle.std.proofs.lemmas.List.{append-nil}
use Rattle.ix_io.specs.Out.{hex_digits}
use Rattle.ix_io.proofs.Digits.{digits_push}
use Rattle.ix_io.proofs.out.Out.hex.Goals as goal

pub loop-left-init : goal.loop-left-init
unfolding hex_digits
loop-left-init c = record {
  within = omega arith;
  length = search rules;
  capacity = omega arith;
  items = let none : c.args.digits - c.args.digits ≡ 0 = omega arith in rw none (sym (append-nil _));
}

pub loop-left-preserved : goal.loop-left-preserved
loop-left-preserved c = record {
  within = omega arith;
  length = grind (arith, common_steps);
  capacity = omega (arith, c.push.ensures.capacity, c.loop-left.invariant.capacity);
  items = digits_push _ _ _ _ _ _ _ c.digit_at.result (omega arith) c.loop-left.invariant.within
      c.loop-left.invariant.items c.digit_at.ensures (grind (arith, common_steps));
}
