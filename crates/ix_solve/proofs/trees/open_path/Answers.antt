use Rattle.std.proofs.Common.{◌≡◌, ◌∙◌, sym, get_or, refl}
use Rattle.ix_solve.specs.Networks.{IsTightPath}
use Rattle.ix_solve.specs.State.{are_carried}
use Rattle.ix_solve.proofs.trees.open_path.Goals as goal

pub returns : goal.returns
returns c =
    let net = c.args.network.now in
    let r = c.args.residual.now in
    let walk = c.in-Some.field-0 in
    let tight : IsTightPath net.arcs.items net.bounds (λ v. get_or c.args.times.now v 0) walk.source c.args.target walk.steps = rw c.in-Some.is at c.in_ok-source.ensures.path in
    let carried : c.is_carried.result ≡ are_carried r.amounts walk.steps = rw (c.as_slice.ensures, c.as_slice-2.ensures) at c.is_carried.ensures in
    record {
      source = walk.source;
      is = record {
        tight = tight;
        carried = sym carried ∙ c.if-not-is_carried.false;
        source_in = rw c.in-Some.is at c.in_ok-source.ensures.source;
        target_in = c.requires.target;
        spare = rw (← c.as_slice-left.ensures) (c.if-not-spares.ensures refl);
        need = rw (← c.as_slice-left.ensures) (c.if-not-needs.ensures refl);
      };
    }
