use Rattle.std.proofs.Common.{◌≡◌, true, ◌<◌, length, arith}
use Rattle.rv_unit.specs.Numbering.{is_decoupled}
use Rattle.rv_unit.proofs.Numbered.{lasts_taken, unit_found}
use Rattle.rv_unit.proofs.numbering.unit_of.Goals as goal

pub count_units-requires : goal.count_units-requires
count_units-requires c =
    let le = lasts_taken c.args.plans.now c.args.number in
    omega (arith, le, c.requires)

pub returns : goal.returns
returns c =
    let lt : c.args.number < length c.args.plans.now = omega arith in
    let decoupled : is_decoupled c.index-plans-number.result.mode ≡ true = cc in
    unit_found c.args.plans.now c.args.number c.count_units.result c.index-plans-number.result lt c.index-plans-number.is decoupled c.count_units.ensures
