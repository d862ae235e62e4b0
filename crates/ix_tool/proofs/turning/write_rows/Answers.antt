use Rattle.std.proofs.Common.{◌≡◌, ◌∙◌, sym, ap, subst, ℕ, ◌+◌, ◌-◌, ◌++◌, List, true, false, arith}
use Rattle.rv_text.specs.Telling.{Told}
use Rattle.rv_text.proofs.Parts.{carries_put}
use Rattle.rv_core.specs.declared.Shape.{Shape}
use Rattle.rv_barrel.specs.Barrels.{Turning}
use Rattle.rv_barrel_text.specs.BarrelText.{ends_text, are_done}
use Rattle.rv_barrel_text.proofs.Rows.{text_from, none_left, all_done}
use Rattle.rv_barrel_text.proofs.Steps.{done_there, row_there, next_row}
use Rattle.ix_tool.proofs.turning.write_rows.Goals as goal

pub returns-then-is_done-clause-carries : goal.returns-then-is_done-clause-carries
returns-then-is_done-clause-carries g c =
    let d = c.args.barrel.now.design in
    let a = c.args.barrel.now.first in
    let b = c.args.barrel.now.second in
    let k = c.loop-number.barrel in
    let n = c.loop-number.number in
    let inv = c.loop-number.invariant in
    let done : are_done d a b n ≡ true = done_there d k.design a b k.first k.second inv.design inv.images.0 inv.images.1 n k.made c.is_done.result inv.made c.is_done.ensures ∙ c.if-is_done.true in
    let e : text_from d a b (c.args.cycles - n) n ≡ ends_text d a b k.made = all_done d a b (c.args.cycles - n) n done ∙ ap (λ m. ends_text d a b m) (sym inv.made) in
    λ before whole t.
    carries_put (g.S.Sink.written c.loop-number.sink) c.loop-number.out (text_from d a b (c.args.cycles - n) n) c.loop-number.out (ends_text d a b k.made) (ap (λ (l : List ℕ). c.loop-number.out ++ l) e)
    before whole (inv.carries before whole t)

pub returns-in-Err-clause-breaks : goal.returns-in-Err-clause-breaks
returns-in-Err-clause-breaks g c =
    let d = c.args.barrel.now.design in
    let a = c.args.barrel.now.first in
    let b = c.args.barrel.now.second in
    let k = c.loop-number.barrel in
    let n = c.loop-number.number in
    let inv = c.loop-number.invariant in
    let going : are_done d a b n ≡ false = done_there d k.design a b k.first k.second inv.design inv.images.0 inv.images.1 n k.made c.is_done.result inv.made c.is_done.ensures ∙ c.if-is_done.false in
    let row = row_there d k.design a b k.first k.second inv.design inv.images.0 inv.images.1 n k.made c.cycle_into.new.row inv.made c.cycle_into.ensures.row in
    let next = next_row d a b c.args.cycles n c.args.shape.stages c.cycle_into.new.row c.loop-number-test.true going (ap (λ (s : Shape). s.stages) c.requires.shape) row in
    λ before whole t.
    c.in-Err.ensures.breaks (text_from d a b (c.args.cycles - (n + 1)) (n + 1)) before whole
    (subst (λ (l : List ℕ). Told before (g.S.Sink.written c.loop-number.sink) c.loop-number.out l whole) next (inv.carries before whole t))

pub loop-number-preserved : goal.loop-number-preserved
loop-number-preserved g c =
    let d = c.args.barrel.now.design in
    let a = c.args.barrel.now.first in
    let b = c.args.barrel.now.second in
    let k = c.loop-number.barrel in
    let n = c.loop-number.number in
    let inv = c.loop-number.invariant in
    let going : are_done d a b n ≡ false = done_there d k.design a b k.first k.second inv.design inv.images.0 inv.images.1 n k.made c.is_done.result inv.made c.is_done.ensures ∙ c.if-is_done.false in
    let row = row_there d k.design a b k.first k.second inv.design inv.images.0 inv.images.1 n k.made c.cycle_into.new.row inv.made c.cycle_into.ensures.row in
    let next = next_row d a b c.args.cycles n c.args.shape.stages c.cycle_into.new.row c.loop-number-test.true going (ap (λ (s : Shape). s.stages) c.requires.shape) row in
    let after = c.cycle_into.ensures.after in
    record {
      design = ap (λ (t : Turning). t.design) after ∙ inv.design;
      images = (ap (λ (t : Turning). t.first) after ∙ inv.images.0, ap (λ (t : Turning). t.second) after ∙ inv.images.1);
      made = ap (λ (t : Turning). t.made) after ∙ ap (λ m. m + 1) inv.made;
      spare = ap (λ (t : Turning). t.cycles) after ∙ inv.spare;
      carries = λ before whole t.
          c.in-Ok.ensures.carries (text_from d a b (c.args.cycles - (n + 1)) (n + 1)) before whole
          (subst (λ (l : List ℕ). Told before (g.S.Sink.written c.loop-number.sink) c.loop-number.out l whole) next (inv.carries before whole t));
      never_fell = omega (arith, inv.never_fell, c.in-Ok.ensures.never_fell);
    }

pub returns-clause-carries : goal.returns-clause-carries
returns-clause-carries g c =
    let d = c.args.barrel.now.design in
    let a = c.args.barrel.now.first in
    let b = c.args.barrel.now.second in
    let k = c.loop-number.barrel in
    let n = c.loop-number.number in
    let inv = c.loop-number.invariant in
    let none : c.args.cycles - n ≡ 0 = omega arith in
    let e : text_from d a b (c.args.cycles - n) n ≡ ends_text d a b k.made = none_left d a b (c.args.cycles - n) n none ∙ ap (λ m. ends_text d a b m) (sym inv.made) in
    λ before whole t.
    carries_put (g.S.Sink.written c.loop-number.sink) c.loop-number.out (text_from d a b (c.args.cycles - n) n) c.loop-number.out (ends_text d a b k.made) (ap (λ (l : List ℕ). c.loop-number.out ++ l) e)
    before whole (inv.carries before whole t)
