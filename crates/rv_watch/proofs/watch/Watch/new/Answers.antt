use Rattle.std.proofs.Common.{refl, arith}
use Rattle.rv_watch.specs.Watched.{setting_of}
use Rattle.rv_watch.proofs.Going.{none_retired, none_kept}
use Rattle.rv_watch.proofs.watch.Watch.new.Goals as goal

pub returns-clause-watched : goal.returns-clause-watched
returns-clause-watched c =
    let k = setting_of c.args.against.now in
    let count = c.in_ok-steps.ensures.count in
    let kept = c.nothing_kept.ensures in
    let next = kept.next in
    let retired = kept.retired in
    let stood = kept.stood in
    let tailed = kept.tailed in
    let none = none_retired in
    record {
      lawful = tt;
      recorded = tt;
      before = c.blank.ensures;
      kept = none_kept k c.nothing_kept.result kept.fetch next retired stood tailed;
      seen = c.nothing_seen.ensures k;
      steps = c.in_ok-steps.ensures.steps;
      many = omega (arith, count, none);
      owing = c.in_ok-owing.ensures k refl refl;
      past = c.in_ok-past.ensures k refl refl;
      most = record {
        next = omega (arith, next);
        retired = omega (arith, retired);
        stood = omega (arith, stood);
        tailed = omega (arith, tailed);
        steps = omega (arith, count);
      };
    }

pub first_steps-requires : goal.first_steps-requires
first_steps-requires c = record { well_formed = c.requires.fits.stands.well_formed; scratch = c.requires.scratch }

pub new-requires : goal.new-requires
new-requires c = (c.sight_laws.ensures.units c.args.against.now.design.now c.requires.fits.stands).units

pub new-requires-2 : goal.new-requires-2
new-requires-2 c = c.requires.fits.stands.well_formed
