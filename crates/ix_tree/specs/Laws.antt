-- Laws of the grammar.
use Rattle.std.specs.Prelude.{◌≡◌, List, ℕ}
use Rattle.ix_tree.specs.declared.token.Token.{Token}
use Rattle.ix_tree.specs.Trees.{TextTree}
use Rattle.ix_tree.specs.Grammar.{IsText, Derives}
use Rattle.ix_tree.specs.Lexing.{Lexes}
use Rattle.ix_tree.specs.Example.{two_ifs, two_ifs_tree}

-- no list of tokens derives two trees
abbrev pub TreeLaw : Type 0
TreeLaw = (tokens : List Token) (x y : TextTree) → Derives tokens x → Derives tokens y → x ≡ y

-- nor does one at any nesting, and each token has one nesting
abbrev pub NestingLaw : Type 0
NestingLaw = (tokens : List Token) (ms ns : List ℕ) (x y : TextTree) → IsText tokens ms x → IsText tokens ns y → (ms ≡ ns) × (x ≡ y)

-- no bytes have two lists of tokens
abbrev pub LexingLaw : Type 0
LexingLaw = (bytes : List ℕ) (xs ys : List Token) → Lexes bytes xs → Lexes bytes ys → xs ≡ ys

-- the example derives its tree
abbrev pub ExampleLaw : Type 0
ExampleLaw = Derives two_ifs two_ifs_tree
