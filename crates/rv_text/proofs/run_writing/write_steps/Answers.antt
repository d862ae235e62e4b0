use Rattle.std.proofs.Common.{◌≡◌, ◌∙◌, refl, sym, ap, suc, ◌+◌, ◌-◌, ◌++◌, ℕ, List, [], arith}
use Rattle.ix_extension.specs.Extensions.{view_extension}
use Rattle.rv_text.specs.RunText.{state_text, lines_from}
use Rattle.rv_text.proofs.Parts.{carries_put, no_lines}
use Rattle.rv_text.proofs.run_writing.write_steps.Goals as goal

pub returns-then-not-step_told-clause-carries : goal.returns-then-not-step_told-clause-carries
returns-then-not-step_told-clause-carries g c =
    let x = view_extension c.args.ext.now in
    let k = c.loop-number.number in
    let n = c.args.steps - (k + 1) in
    let now = c.args.image.now in
    let e : suc n ≡ c.args.steps - k = omega arith in
    let put : c.make_room.new.out ++ lines_from x now (c.args.steps - k) k c.loop-number.arch ≡ c.step_told.new.out ++ state_text x [] c.step_told.new.arch =
    ap (λ (m : ℕ). c.make_room.new.out ++ lines_from x now m k c.loop-number.arch) (sym e) ∙ c.if-not-step_told.ensures.stops refl n in
    λ before whole t.
    carries_put (g.S.Sink.written c.make_room.new.sink) c.make_room.new.out (lines_from x now (c.args.steps - k) k c.loop-number.arch) c.step_told.new.out (state_text x [] c.step_told.new.arch) put
    before whole (c.in-Ok.ensures.carries (lines_from x now (c.args.steps - k) k c.loop-number.arch) before whole (c.loop-number.invariant.carries before whole t))

pub returns-in-Err-clause-breaks : goal.returns-in-Err-clause-breaks
returns-in-Err-clause-breaks g c =
    let x = view_extension c.args.ext.now in
    let k = c.loop-number.number in
    λ before whole t.
    c.in-Err.ensures.breaks (lines_from x c.args.image.now (c.args.steps - k) k c.loop-number.arch) before whole (c.loop-number.invariant.carries before whole t)

pub loop-number-preserved : goal.loop-number-preserved
loop-number-preserved g c =
    let x = view_extension c.args.ext.now in
    let k = c.loop-number.number in
    let n = c.args.steps - (k + 1) in
    let now = c.args.image.now in
    let e : suc n ≡ c.args.steps - k = omega arith in
    let f : suc k ≡ k + 1 = omega arith in
    let put : c.make_room.new.out ++ lines_from x now (c.args.steps - k) k c.loop-number.arch ≡ c.step_told.new.out ++ lines_from x now n (k + 1) c.step_told.new.arch =
    ap (λ (m : ℕ). c.make_room.new.out ++ lines_from x now m k c.loop-number.arch) (sym e)
    ∙ c.if-not-step_told.ensures.goes_on refl n
    ∙ ap (λ (j : ℕ). c.step_told.new.out ++ lines_from x now n j c.step_told.new.arch) f in
    record {
      wide = c.step_told.ensures.wide;
      scratch = c.step_told.ensures.scratch;
      carries = λ before whole t.
          carries_put (g.S.Sink.written c.make_room.new.sink) c.make_room.new.out (lines_from x now (c.args.steps - k) k c.loop-number.arch) c.step_told.new.out (lines_from x now n (k + 1) c.step_told.new.arch) put
          before whole (c.in-Ok.ensures.carries (lines_from x now (c.args.steps - k) k c.loop-number.arch) before whole (c.loop-number.invariant.carries before whole t));
      never_fell = omega (arith, c.loop-number.invariant.never_fell, c.in-Ok.ensures.never_fell);
    }

pub returns-clause-carries : goal.returns-clause-carries
returns-clause-carries g c =
    let x = view_extension c.args.ext.now in
    let k = c.loop-number.number in
    let now = c.args.image.now in
    let e : c.args.steps - k ≡ 0 = omega arith in
    λ before whole t.
    carries_put (g.S.Sink.written c.loop-number.sink) c.loop-number.out (lines_from x now (c.args.steps - k) k c.loop-number.arch) c.loop-number.out (state_text x [] c.loop-number.arch)
    (ap (λ (l : List ℕ). c.loop-number.out ++ l) (no_lines x now (c.args.steps - k) k c.loop-number.arch e)) before whole (c.loop-number.invariant.carries before whole t)
