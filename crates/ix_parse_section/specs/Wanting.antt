-- The fixed tokens of the code as those of the grammar's machine.
use Rattle.std.specs.Prelude.{ℕ}
use Rattle.ix_tree.specs.declared.token.TokenKind.{TokenKind}
use Rattle.ix_tree.specs.declared.token.TokenKind.TheVariants as T
use Rattle.ix_parse_state.specs.declared.state.Fixed.{Fixed}
use Rattle.ix_parse_state.specs.declared.state.Fixed.TheVariants as F
use Rattle.ix_parse_section.specs.declared.fixed.Sign.{Sign}
use Rattle.ix_parse_section.specs.declared.fixed.Sign.TheVariants as S

-- the token of that sign
abbrev pub kind_of : Sign → TokenKind
kind_of (S.Word n) = T.Word n
kind_of (S.Symbol n) = T.Symbol n

-- how deep the first of the fixed tokens nests: the brackets of a table's length stand one deeper than the rest
abbrev pub nesting_of : Fixed → ℕ
nesting_of F.Square = 1
nesting_of F.SquareEnd = 1
nesting_of _ = 0
