use Rattle.std.proofs.Common.{subst, arith}
use Rattle.rv_past.specs.Due.{IsDue}
use Rattle.rv_watch.specs.Watched.{setting_of}
use Rattle.rv_watch.proofs.Retired.{made_asks}
use Rattle.rv_watch.proofs.watch.Watch.next_due.Goals as goal

pub returns-clause-due : goal.returns-clause-due
returns-clause-due c = λ rows watched.
    let a = c.args.against.now in
    let many = watched.many in
    let kept = watched.kept.retired in
    subst (λ n. IsDue (setting_of a) n c.due.result) kept
    (c.due.ensures.due c.requires.fits.asking watched.steps (omega (arith, many, kept)))

pub returns-clause-asks : goal.returns-clause-asks
returns-clause-asks c = λ rows row retired watched made.
    let a = c.args.against.now in
    let many = watched.many in
    let kept = watched.kept.retired in
    made_asks (setting_of a) rows row c.due.result retired
    (subst (λ n. IsDue (setting_of a) n c.due.result) kept (c.due.ensures.due c.requires.fits.asking watched.steps (omega (arith, many, kept))))
    (c.due.ensures.asks c.requires.fits.asking) made

pub due-requires : goal.due-requires
due-requires c = record { well_formed = c.requires.fits.stands.well_formed; some = c.requires.steps }
