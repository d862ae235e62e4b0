use Rattle.rv_holdings.proofs.Whole.{judged, rightly_then, then_right}
use Rattle.rv_holdings.proofs.judging.holds_rightly.Goals as goal

pub returns-clause-only : goal.returns-clause-only
returns-clause-only c = λ k earlier e names plain going moves knows owes owing r.
    rightly_then k earlier c.args.row.now c.args.known.now c.args.owed.now c.args.shape e (judged k earlier c.args.row.now c.args.known.now c.args.owed.now c.row_facts.ensures names plain going moves knows owes owing) (c.are_right.ensures.only r)

pub returns-clause-all : goal.returns-clause-all
returns-clause-all c = λ k earlier e names plain going moves knows owes owing h.
    c.are_right.ensures.all (then_right k earlier c.args.row.now c.args.known.now c.args.owed.now c.args.shape e (judged k earlier c.args.row.now c.args.known.now c.args.owed.now c.row_facts.ensures names plain going moves knows owes owing) h)
