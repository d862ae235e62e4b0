use Rattle.std.proofs.Common.{ap, ◌∙◌, List, ℕ}
use Rattle.ix_tree.specs.Lexing.{same_bytes}
use Rattle.ix_tree.proofs.Names.{same_is}
use Rattle.ix_encode.proofs.encoding.is_same.Goals as goal

pub returns : goal.returns
returns c =
    c.eq.ensures ∙ same_is c.as_str.result.now c.as_str-2.result.now
    ∙ ap (λ (m : List ℕ). same_bytes m c.as_str-2.result.now) c.as_str.ensures.text
    ∙ ap (λ (n : List ℕ). same_bytes c.args.a.now n) c.as_str-2.ensures.text
