use Rattle.rv_holdings.proofs.Stopped.{rightly_then, then_right}
use Rattle.rv_holdings.proofs.behind.holds_behind.Goals as goal

pub returns-clause-only : goal.returns-clause-only
returns-clause-only c = λ k earlier e names plain lawful stop moves asked stopper owing r.
    rightly_then k earlier c.args.row.now c.args.asks.now c.args.stopped c.args.shape e c.row_facts.ensures names plain lawful stop moves asked stopper owing (c.are_right.ensures.only r)

pub returns-clause-all : goal.returns-clause-all
returns-clause-all c = λ k earlier e names plain lawful stop moves asked stopper owing h.
    c.are_right.ensures.all (then_right k earlier c.args.row.now c.args.asks.now c.args.stopped c.args.shape e c.row_facts.ensures names plain lawful stop moves asked stopper owing h)
