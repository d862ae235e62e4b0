use Rattle.std.proofs.Common.{◌-◌, ◌/◌, ◌%◌, ◌^◌, ◌∙◌, ◌++◌, refl, sym, ap, arith}
use Rattle.std.specs.Prelude.{string_bytes}
use Rattle.std.proofs.lemmas.List.{append-nil}
use Rattle.ix_io.specs.Out.{hex_digit, hex_digits}
use Rattle.ix_io.proofs.Digits.{digits_push}
use Rattle.ix_listing.proofs.put.put_word.Goals as goal

pub loop-place-init : goal.loop-place-init
unfolding hex_digits
loop-place-init c = record { bytes = sym (append-nil _) }

pub loop-place-preserved : goal.loop-place-preserved
loop-place-preserved c = record {
  bytes = digits_push (string_bytes c.args.out.now) _ _ 8 c.loop-place.place (c.loop-place.place - 1) c.args.word (hex_digit (c.args.word / 16 ^ (c.loop-place.place - 1) % 16)) (omega (arith, c.loop-place-test.true)) (omega (arith, c.loop-place.auto.place)) c.loop-place.invariant.bytes refl
      (c.in_ok-put.ensures ∙ ap (λ z. string_bytes c.loop-place.out ++ z) c.digit_at.ensures);
}
