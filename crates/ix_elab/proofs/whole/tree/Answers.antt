use Rattle.std.proofs.Common.{◌≡◌, ◌<◌, List, length, subst, sym}
use Rattle.ix_tree.specs.declared.token.Token.{Token}
use Rattle.ix_elab.proofs.Few.{tokens_few}
use Rattle.ix_elab.proofs.whole.tree.Goals as goal

pub parsed-requires : goal.parsed-requires
parsed-requires c =
    let P : List Token → Type 0 = λ ts. length ts < 4294967296 in
    subst P (sym c.as_slice.ensures) (tokens_few c.args.bytes.now c.in-Ok.tokens 4294967296 c.in-Ok.ensures.tokens c.requires)
