use Rattle.std.proofs.Common.{◌∙◌, sym, map, Bor, List, ℕ}
use Rattle.rv_asm.specs.Labels.{found}
use Rattle.rv_asm.proofs.Small.{read_small}
use Rattle.rv_asm.proofs.line.base_line.Goals as goal

pub word-requires-clause-small : goal.word-requires-clause-small
word-requires-clause-small c =
    read_small (found c.args.labels.now) c.args.at c.args.form c.kinds-kinds.result.now (map (λ (x : Bor (List ℕ)). x.now) c.args.texts.now) c.start.result c.in-Ok.operands
    c.start.ensures (sym c.read_operands.ensures ∙ c.in-Ok.is)
