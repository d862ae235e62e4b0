use Rattle.ix_sweep.proofs.sweep.found.Goals as goal

pub returns-clause-period : goal.returns-clause-period
returns-clause-period c = record { widest = c.args.mode; widest_is = c.requires.widest; period_is = c.in_ok-period.ensures }

pub returns-clause-entries : goal.returns-clause-entries
returns-clause-entries c = c.in_ok-entries.ensures

pub returns-clause-below : goal.returns-clause-below
returns-clause-below c = c.in_ok-below.ensures
