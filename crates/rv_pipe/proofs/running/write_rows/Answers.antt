use Rattle.std.proofs.Common.{◌≡◌, ◌∙◌, sym, ap, subst, ℕ, ◌+◌, ◌-◌, ◌++◌, List, arith}
use Rattle.rv_core.specs.declared.Shape.{Shape}
use Rattle.rv_text.proofs.Parts.{carries_put}
use Rattle.rv_engine.specs.Settings.{Machine}
use Rattle.rv_engine.specs.Rows.{IsRowOf, machine_after}
use Rattle.rv_pipe.specs.Texts.{text_from, end_text}
use Rattle.rv_pipe.proofs.Texts.{none_left, row_stops, row_goes_on}
use Rattle.rv_pipe.proofs.running.write_rows.Goals as goal

pub returns-then-is_some-clause-carries : goal.returns-then-is_some-clause-carries
returns-then-is_some-clause-carries g c =
    let k = c.args.pipeline.now.setting in
    let n = c.loop-number.number in
    let m = c.loop-number.pipeline.machine in
    let after = c.cycle.new.self.machine in
    let inv = c.loop-number.invariant in
    let left = text_from k (c.args.cycles - n) m in
    λ before whole t.
    carries_put (g.S.Sink.written c.make_room.new.sink) c.make_room.new.out left c.put_row.new.out (end_text k after)
    (row_stops k c.args.cycles n c.args.shape.stages m after c.cycle.new.row c.make_room.new.out c.put_row.new.out c.loop-number-test.true inv.made (ap (λ (s : Shape). s.stages) c.requires.shape)
    (subst (λ s. IsRowOf s m c.cycle.new.row) inv.setting c.cycle.ensures.row) (c.cycle.ensures.after ∙ ap (λ s. machine_after s m) inv.setting) c.put_row.ensures.text (sym c.is_some.ensures ∙ c.if-is_some.true))
    before whole (c.in-Ok.ensures.carries left before whole (inv.carries before whole t))

pub returns-in-Err-clause-breaks : goal.returns-in-Err-clause-breaks
returns-in-Err-clause-breaks g c = λ before whole t.
    c.in-Err.ensures.breaks (text_from c.args.pipeline.now.setting (c.args.cycles - c.loop-number.number) c.loop-number.pipeline.machine) before whole (c.loop-number.invariant.carries before whole t)

pub loop-number-preserved : goal.loop-number-preserved
loop-number-preserved g c =
    let k = c.args.pipeline.now.setting in
    let n = c.loop-number.number in
    let m = c.loop-number.pipeline.machine in
    let after = c.cycle.new.self.machine in
    let inv = c.loop-number.invariant in
    let left = text_from k (c.args.cycles - n) m in
    let next : after ≡ machine_after k m = c.cycle.ensures.after ∙ ap (λ s. machine_after s m) inv.setting in
    let counted = ap (λ (s : Machine). s.rows) next in
    let made = inv.made in
    record {
      setting = c.cycle.ensures.setting ∙ inv.setting;
      made = omega (arith, counted, made);
      carries = λ before whole t.
          carries_put (g.S.Sink.written c.make_room.new.sink) c.make_room.new.out left c.put_row.new.out (text_from k (c.args.cycles - (n + 1)) after)
          (row_goes_on k c.args.cycles n c.args.shape.stages m after c.cycle.new.row c.make_room.new.out c.put_row.new.out c.loop-number-test.true inv.made (ap (λ (s : Shape). s.stages) c.requires.shape)
          (subst (λ s. IsRowOf s m c.cycle.new.row) inv.setting c.cycle.ensures.row) next c.put_row.ensures.text (sym c.is_some.ensures ∙ c.if-is_some.false))
          before whole (c.in-Ok.ensures.carries left before whole (inv.carries before whole t));
      never_fell = omega (arith, inv.never_fell, c.in-Ok.ensures.never_fell);
    }

pub returns-clause-carries : goal.returns-clause-carries
returns-clause-carries g c =
    let k = c.args.pipeline.now.setting in
    let n = c.loop-number.number in
    let m = c.loop-number.pipeline.machine in
    let none : c.args.cycles - n ≡ 0 = omega arith in
    λ before whole t.
    carries_put (g.S.Sink.written c.loop-number.sink) c.loop-number.out (text_from k (c.args.cycles - n) m) c.loop-number.out (end_text k m)
    (ap (λ (l : List ℕ). c.loop-number.out ++ l) (none_left k (c.args.cycles - n) m none))
    before whole (c.loop-number.invariant.carries before whole t)
