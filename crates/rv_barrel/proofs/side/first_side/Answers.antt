use Rattle.std.proofs.Common.{◌≤◌, length, refl, false, arith}
use Rattle.std.specs.Prelude.{vec_capacity}
use Rattle.rv_barrel.specs.declared.cell.Front.{Front}
use Rattle.rv_barrel.proofs.Firsts.{first_kept}
use Rattle.rv_barrel.proofs.side.first_side.Goals as goal

pub returns : goal.returns
returns c image h =
    let front : Front = record { fetch = 0; next = 0; stopped = false } in
    let room : length c.in_ok-units.units.lasts ≤ vec_capacity c.in-Ok.owed = omega (arith, c.count.ensures, c.in-Ok.ensures.capacity) in
    first_kept c.args.design.now image h c.in_ok-ahead.ahead c.in_ok-arch.arch c.in_ok-units.units c.in-Ok.owed.items (vec_capacity c.in-Ok.owed) front c.unit_laws.ensures.first refl refl refl
    c.in_ok-ahead.ensures.first c.in_ok-ahead.ensures.wide c.in_ok-arch.ensures.first c.in_ok-units.ensures.stages c.in_ok-units.ensures.lasts c.in_ok-units.ensures.entries c.in-Ok.ensures.items room
