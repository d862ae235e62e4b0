use Rattle.std.proofs.Common.{◌-◌, sym, arith}
use Rattle.std.proofs.lemmas.Grind.{common_steps}
use Rattle.std.proofs.lemmas.List.{append-nil}
use Rattle.ix_io.specs.Out.{hex_digits}
use Rattle.ix_io.proofs.Digits.{digits_push}
use Rattle.rv_asm.proofs.image_print.push_word.Goals as goal

pub loop-place-init : goal.loop-place-init
unfolding hex_digits
loop-place-init c = record { items = sym (append-nil _) }

pub loop-place-preserved : goal.loop-place-preserved
loop-place-preserved c = record {
  items = digits_push c.args.text.now.items _ _ 8 c.loop-place.place (c.loop-place.place - 1) _ c.digit_at.result (omega (arith, c.loop-place-test.true)) (omega (arith, c.loop-place.auto.place)) c.loop-place.invariant.items c.digit_at.ensures (grind (arith, common_steps));
}
