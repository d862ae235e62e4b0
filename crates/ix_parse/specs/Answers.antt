-- What the parser's answer says of the tokens.
use Rattle.std.specs.Prelude.{◌≡◌, List, Result, Ok, Err}
use Rattle.ix_tree.specs.declared.token.Token.{Token}
use Rattle.ix_tree.specs.declared.section.Tree.{Tree}
use Rattle.ix_tree.specs.Parsing.{IsRefusedAt, IsTooDeepAt, Verdict, is_tree, refused_at, too_deep_at}
use Rattle.ix_tree.specs.View.{view_tree}
use Rattle.ix_parse.specs.declared.error.ParseErr.{ParseErr}
use Rattle.ix_parse.specs.declared.error.ParseErr.TheVariants.{At, Deep, Memory}

-- the answer tells this of the tokens, or memory failed
abbrev pub IsAnswer : Result Tree ParseErr → Verdict → Type 0
IsAnswer (Ok tree) v = v ≡ is_tree (view_tree tree)
IsAnswer (Err (At n)) v = v ≡ refused_at n
IsAnswer (Err (Deep n)) v = v ≡ too_deep_at n
IsAnswer (Err Memory) v = Unit {0}

-- what an error tells of the tokens is so
abbrev pub IsTold : List Token → ParseErr → Type 0
IsTold ts (At n) = IsRefusedAt ts n
IsTold ts (Deep n) = IsTooDeepAt ts n
IsTold ts Memory = Unit {0}
