use Rattle.std.proofs.Common.{ap, ◌∙◌, List, ℕ}
use Rattle.ix_tree.specs.Lexing.{same_bytes}
use Rattle.ix_tree.proofs.Names.{same_is}
use Rattle.rv_asm_text.proofs.indexing.is_same.Goals as goal

pub returns : goal.returns
returns c = c.eq.ensures ∙ same_is c.as_str.result.now c.args.text.now ∙ ap (λ (m : List ℕ). same_bytes m c.args.text.now) c.as_str.ensures.text
