use Rattle.std.proofs.Common.{◌≡◌, ◌∙◌, ap, length, arith, rules}
use Rattle.ix_extension.specs.Extensions.{view_extension}
use Rattle.rv_harts.specs.BarrelRows.{hart_setting}
use Rattle.rv_barrel.specs.Barrels.{Turning}
use Rattle.rv_barrel.proofs.Rows.{both_put, row_there, kept_more}
use Rattle.rv_barrel.proofs.barrel.Barrel.cycle_into.Goals as goal

pub invariant_of-self : goal.invariant_of-self
invariant_of-self c =
    let i = c.self.invariant in
    let d = c.self.inside.design.now in
    let n = c.self.inside.made in
    let made = ap (λ (t : Turning). t.made) c.self.view_is in
    let cycles = ap (λ (t : Turning). t.cycles) c.self.view_is in
    record {
      stands = i.stands;
      few = omega (arith, made, cycles, c.requires.spare);
      fits = i.fits;
      asked = i.asked;
      ready = c.row_of-b.ensures.scratch;
      one = kept_more (view_extension d.extension) (hart_setting d c.self.inside.first.now) 0 n c.row_of-a.new.side c.row_of-a.ensures.side;
      other = kept_more (view_extension d.extension) (hart_setting d c.self.inside.second.now) 1 n c.row_of-b.new.side c.row_of-b.ensures.side;
    }

pub returns-clause-row : goal.returns-clause-row
returns-clause-row c =
    let two : length c.args.row.now.parts ≡ 2 = search rules in
    rw (← c.self.view_is) (
    ap (λ ps. record { cells = c.joined-row.result; parts = ps }) (both_put c.args.row.now.parts c.clear.new.part c.clear-2.new.part c.row_of-a.new.part c.row_of-b.new.part two)
    ∙ row_there c.self.inside.design.now c.self.inside.first.now c.self.inside.second.now c.self.inside.made c.joined-row.ensures c.row_of-a.ensures.cells c.row_of-a.ensures.part c.row_of-b.ensures.cells c.row_of-b.ensures.part
    )

pub returns-clause-prefix : goal.returns-clause-prefix
returns-clause-prefix c =
    rw (← c.self.view_is) (c.hart_runs.ensures.prefix c.self.inside.design.now c.self.inside.first.now c.self.invariant.stands, c.hart_runs.ensures.prefix c.self.inside.design.now c.self.inside.second.now c.self.invariant.stands)
