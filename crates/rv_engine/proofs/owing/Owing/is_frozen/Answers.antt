use Rattle.std.proofs.Common.{◌≡◌, ◌≤◌, ◌∙◌, sym, subst, false, length, arith}
use Rattle.rv_unit.specs.Entries.{is_frozen}
use Rattle.rv_unit.proofs.Showing.{none_frozen}
use Rattle.rv_engine.specs.Owing.{Outstanding}
use Rattle.rv_engine.proofs.Seats.{not_below}
use Rattle.rv_engine.proofs.owing.Owing.is_frozen.Goals as goal

pub returns-else-from-count : goal.returns-else-from-count
returns-else-from-count c =
    let s = c.self.inside in
    let count = c.count.ensures in
    let from = c.from.ensures in
    let past = c.if-from-count.false in
    let le : length s.units.lasts ≤ c.args.unit = omega (arith, past, count, from) in
    not_below c.from.result c.count.result past
    ∙ sym (subst (λ (v : Outstanding). is_frozen v.lasts v.entries c.args.unit ≡ false) c.self.view_is (none_frozen s.units.stages s.units.lasts s.units.entries c.args.unit c.self.invariant.timed le))
