use Rattle.std.proofs.Common.{◌≡◌, ◌∙◌, ap, ℕ, arith}
use Rattle.std.specs.Prelude.{◌<◌, None, length, get_or, slice_set, Option}
use Rattle.ix_extension.specs.Extensions.{view_extension}
use Rattle.rv_barrel.specs.declared.cell.InFlight.{InFlight}
use Rattle.rv_barrel.specs.Cells.{Slots}
use Rattle.rv_barrel.specs.Moving.{put_first}
use Rattle.rv_barrel.proofs.Beginning.{new_of}
use Rattle.rv_barrel.proofs.Going.{first_set, tried_set, put_long, got_any}
use Rattle.rv_barrel.proofs.moving.prepare.Goals as goal

pub enter-new-requires-clause-free : goal.enter-new-requires-clause-free
enter-new-requires-clause-free c =
    got_any c.args.slots.now 0 c.index-slots-0.result None (omega (arith, c.requires.inside)) ∙ c.requires.free

pub returns-clause-slots : goal.returns-clause-slots
returns-clause-slots c =
    let x = view_extension c.args.design.now.extension in
    let s = c.args.slots.now in
    let new = new_of c.args.design.now c.args.image.now c.args.may_fetch c.args.front.next c.args.front.fetch in
    let execute = c.args.design.now.sheet.shape.ex in
    let some : 0 < length s = omega (arith, c.requires.inside) in
    let put : slice_set s 0 c.enter-new.new.slot ≡ put_first new s = ap (λ (t : Option InFlight). slice_set s 0 t) c.enter-new.ensures.slot ∙ first_set s new some in
    let old = get_or (slice_set s 0 c.enter-new.new.slot) c.from-execute.result c.index-slots-execute.result in
    let at : old ≡ get_or (put_first new s) execute old =
    (ap (λ (l : Slots). get_or l c.from-execute.result c.index-slots-execute.result) put ∙ got_any (put_first new s) c.from-execute.result c.index-slots-execute.result old (omega (arith, c.requires.inside, put_long new s, c.from-execute.ensures))) ∙ ap (λ (n : ℕ). get_or (put_first new s) n old) c.from-execute.ensures in
    ap (λ (l : Slots). slice_set l c.from-execute.result c.try_slot.new.slot) put
    ∙ ap (λ (n : ℕ). slice_set (put_first new s) n c.try_slot.new.slot) c.from-execute.ensures
    ∙ ap (λ (t : Option InFlight). slice_set (put_first new s) execute t) c.try_slot.ensures.slot
    ∙ tried_set x c.args.image.now c.args.ahead.now execute (put_first new s) old (omega (arith, c.requires.inside, put_long new s)) at
