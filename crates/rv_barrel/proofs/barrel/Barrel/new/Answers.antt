use Rattle.std.proofs.Common.{◌<◌, ◌^◌, arith}
use Rattle.rv_barrel.proofs.barrel.Barrel.new.Goals as goal

pub invariant_of-result : goal.invariant_of-result
invariant_of-result c =
    let few = c.ranges.cycles.fits in
    let fits : c.args.cycles < 2 ^ 32 = omega (arith, few) in
    record {
      stands = c.requires.stands;
      few = omega arith;
      fits = fits;
      asked = c.in_ok-asking.ensures.asking;
      ready = c.in_ok-scratch.ensures;
      one = c.in_ok-one.ensures c.as_slice.result.now 0;
      other = c.in_ok-other.ensures c.as_slice-2.result.now 1;
    }
