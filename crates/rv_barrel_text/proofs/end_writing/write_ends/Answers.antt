use Rattle.rv_text.proofs.Parts.{at_ok, at_err}
use Rattle.rv_barrel_text.specs.BarrelText.{hart_state_text}
use Rattle.rv_barrel_text.proofs.end_writing.write_ends.Goals as goal

pub returns-in-Ok-clause-whole : goal.returns-in-Ok-clause-whole
returns-in-Ok-clause-whole g c =
    at_ok c.write_last.result
    (λ f x q before whole t. f x q before whole (c.in-Ok.ensures.carries x (hart_state_text 1 x c.args.other_outstanding.now c.args.other_arch.now) q before whole t))
    c.write_last.ensures.whole

pub returns-in-Ok-clause-front : goal.returns-in-Ok-clause-front
returns-in-Ok-clause-front g c =
    at_err c.write_last.result
    (λ f x q before whole t. f x q before whole (c.in-Ok.ensures.carries x (hart_state_text 1 x c.args.other_outstanding.now c.args.other_arch.now) q before whole t))
    c.write_last.ensures.front

pub returns-in-Err-clause-front : goal.returns-in-Err-clause-front
returns-in-Err-clause-front g c = λ x q. c.in-Err.ensures.breaks x (hart_state_text 1 x c.args.other_outstanding.now c.args.other_arch.now) q
