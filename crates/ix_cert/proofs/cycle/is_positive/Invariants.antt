use Rattle.std.proofs.Common.{◌≡◌, ◌+◌, ◌*◌, ◌≤◌, drop, sum_by}
use Rattle.ix_sheet.specs.Bounds.{arc_of}
use Rattle.ix_cert.proofs.cycle.is_positive.Given as goal

abbrev pub invariant-bounds : goal.invariant-bounds
invariant-bounds l =
    (l.up + sum_by (λ x. (arc_of l.b.problem x).up) (drop l.bound-index l.b.cycle) ≡ sum_by (λ x. (arc_of l.b.problem x).up) l.b.cycle)
    × (l.down + sum_by (λ x. (arc_of l.b.problem x).down) (drop l.bound-index l.b.cycle) ≡ sum_by (λ x. (arc_of l.b.problem x).down) l.b.cycle)
    × (l.up ≤ l.bound-index * 4294967295) × (l.down ≤ l.bound-index * 4294967295)
