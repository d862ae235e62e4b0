use Rattle.rv_barrel.proofs.laws.barrel_laws.Goals as goal

pub returns : goal.returns
returns c = λ d image stands turns words. (c.hart_runs.ensures.prefix d image stands, c.hart_runs.ensures.state d image stands words)
