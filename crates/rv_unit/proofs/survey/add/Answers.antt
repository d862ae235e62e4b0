use Rattle.std.proofs.Common.{◌∙◌, sym, arith}
use Rattle.rv_unit.proofs.Surveying.{passed, added}
use Rattle.rv_unit.proofs.survey.add.Goals as goal

pub returns-then-entry-last : goal.returns-then-entry-last
returns-then-entry-last c = λ lasts entries q h.
    added lasts entries c.args.entry c.args.found.now c.lower.result c.from.result (c.if-entry-last.true ∙ q) c.lower.ensures c.from.ensures (omega arith) h

pub returns-else-entry-last : goal.returns-else-entry-last
returns-else-entry-last c = λ lasts entries q h. passed lasts entries c.args.entry c.args.found.now (λ r. c.if-entry-last.false (r ∙ sym q)) h
