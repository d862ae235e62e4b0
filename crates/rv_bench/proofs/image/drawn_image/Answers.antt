use Rattle.std.proofs.Common.{◌≡◌, ap, sym, ◌∙◌, refl, arith, map}
use Rattle.ix_extension.specs.Extensions.{view_extension, view_instruction}
use Rattle.rv_bench.specs.Drawing.{draws_from, draws_of, state_after}
use Rattle.rv_bench.specs.DrawnImage.{first_word, drawn_word}
use Rattle.rv_bench.proofs.Drawn.{at_first, one_more, sized, stepped}
use Rattle.rv_bench.proofs.image.drawn_image.Goals as goal

pub loop-init : goal.loop-init
loop-init c = record { image = c.in_ok-push.ensures.ok ∙ rw (c.new-image.ensures, c.first_word.ensures) refl; state = sym (at_first c.args.number) }

pub push-requires-in-loop : goal.push-requires-in-loop
push-requires-in-loop c =
    let some = sized (view_extension c.args.extension.now) c.args.number c.loop.counter first_word c.loop.image c.loop.invariant.image in
    let more = c.loop-test.true in
    let most = c.requires in
    omega (arith, some, more, most)

pub loop-preserved : goal.loop-preserved
loop-preserved c =
    let x = view_extension c.args.extension.now in
    let s = c.loop.invariant.state in
    let from : c.draws-draws.result ≡ draws_of c.args.number c.loop.counter = c.draws-draws.ensures.value ∙ ap draws_from s in
    let drawn : c.drawn_word.result ≡ drawn_word x.instructions (draws_of c.args.number c.loop.counter) =
    c.drawn_word.ensures ∙ ap (λ some. drawn_word (map view_instruction some) c.draws-draws.result) c.as_slice.ensures ∙ ap (drawn_word x.instructions) from in
    record {
      image =
          one_more x c.args.number c.loop.counter first_word c.drawn_word.result c.loop.image c.push-in-loop.new.self c.loop.invariant.image c.in_ok-push-2.ensures.ok
          drawn;
      state = c.draws-draws.ensures.state ∙ ap (λ z. state_after z 5) s ∙ stepped c.args.number c.loop.counter;
    }

pub push-requires-2 : goal.push-requires-2
push-requires-2 c =
    let some = sized (view_extension c.args.extension.now) c.args.number c.loop.counter first_word c.loop.image c.loop.invariant.image in
    let auto = c.loop.auto.counter-end in
    let most = c.requires in
    omega (arith, some, auto, most)
