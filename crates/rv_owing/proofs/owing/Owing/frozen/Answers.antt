use Rattle.std.proofs.Common.{◌≡◌, ◌∙◌, sym, ap, List, Option, Some, true, false, ℕ}
use Rattle.std.specs.Prelude.{is_some, if◌then◌else◌}
use Rattle.ix_plan.specs.Units.{Slots, has_some}
use Rattle.rv_unit.specs.Entries.{last_time, is_number}
use Rattle.rv_unit.specs.Slots.{serial_at, unit_named}
use Rattle.rv_lawful.specs.Outstanding.{units_after}
use Rattle.rv_rows.specs.Kinds.{unit_marked}
use Rattle.rv_owing.proofs.Finishing.{marked_is, frozen_is, frozen_none, stands, frozen_but}
use Rattle.rv_owing.proofs.owing.Owing.frozen.Goals as goal

pub returns-then-is_none : goal.returns-then-is_none
returns-then-is_none c k rows slots is at =
    let v = c.args.self.now.units in
    let u = c.args.unit in
    let none : is_some (serial_at u (last_time v.lasts u) v.entries) ≡ false = ap (λ (o : Option ℕ). is_some o) (sym c.finished.ensures.serial) ∙ c.if-is_none.ensures in
    frozen_is v.stages v.lasts v.entries u slots (units_after k rows) (unit_marked (units_after k rows) c.args.marked) false c.finished.ensures.units is.units at
    (frozen_none (is_number (unit_named (unit_marked (units_after k rows) c.args.marked)) u) (serial_at u (last_time v.lasts u) v.entries) none)

pub returns-in-None : goal.returns-in-None
returns-in-None c k rows slots is at =
    let v = c.args.self.now.units in
    let u = c.args.unit in
    let some : is_some (serial_at u (last_time v.lasts u) v.entries) ≡ true = ap (λ (o : Option ℕ). is_some o) (sym c.finished.ensures.serial) ∙ c.if-is_none.ensures in
    let there : has_some (serial_at u (last_time v.lasts u) v.entries) ≡ true = stands (serial_at u (last_time v.lasts u) v.entries) some in
    frozen_is v.stages v.lasts v.entries u slots (units_after k rows) (unit_marked (units_after k rows) c.args.marked) true c.finished.ensures.units is.units at
    (sym there ∙ ap (λ m. if is_number (unit_named (unit_marked (units_after k rows) m)) u then false else has_some (serial_at u (last_time v.lasts u) v.entries)) (sym c.in-None.is))

pub returns-in-Some : goal.returns-in-Some
returns-in-Some c k rows slots is at =
    let v = c.args.self.now.units in
    let u = c.args.unit in
    let some : is_some (serial_at u (last_time v.lasts u) v.entries) ≡ true = ap (λ (o : Option ℕ). is_some o) (sym c.finished.ensures.serial) ∙ c.if-is_none.ensures in
    let there : has_some (serial_at u (last_time v.lasts u) v.entries) ≡ true = stands (serial_at u (last_time v.lasts u) v.entries) some in
    let marked : unit_named (unit_marked (units_after k rows) c.args.marked) ≡ c.unit_with.result =
    ap (λ m. unit_named (unit_marked (units_after k rows) m)) c.in-Some.is ∙ ap (λ (l : List Slots). unit_named (unit_marked l (Some c.in-Some.serial))) (sym is.units)
    ∙ marked_is v.stages v.lasts v.entries c.in-Some.serial c.unit_with.result c.finished.ensures.units c.finished.ensures.timed c.unit_with.ensures in
    frozen_is v.stages v.lasts v.entries u slots (units_after k rows) (unit_marked (units_after k rows) c.args.marked) _ c.finished.ensures.units is.units at
    (frozen_but (unit_named (unit_marked (units_after k rows) c.args.marked)) c.unit_with.result u (serial_at u (last_time v.lasts u) v.entries) c.is_unit.result marked c.is_unit.ensures there)
