use Rattle.std.proofs.Common.{◌≡◌, ap, ◌∙◌, List, ℕ}
use Rattle.ix_tree.specs.Lexing.{same_bytes}
use Rattle.ix_tree.proofs.Names.{same_is}
use Rattle.ix_check_parts.proofs.same.is_same_name.Goals as goal

pub returns : goal.returns
returns c =
    c.eq.ensures ∙ same_is c.as_str.result.now c.as_str-2.result.now
    ∙ ap (λ (m : List ℕ). same_bytes m c.as_str-2.result.now) c.as_str.ensures.text
    ∙ ap (λ (n : List ℕ). same_bytes c.args.m.now n) c.as_str-2.ensures.text
