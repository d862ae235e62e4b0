-- A text that derives, in which `else` belongs to the second `if`: `InstructionSet A extends RV32I { always { z { if ( p ) if ( q ) ; else ; } } }`.
use Rattle.std.specs.Prelude.{ℕ, ◌+◌, List, [], ◌∷◌}
use Rattle.ix_tree.specs.declared.token.Token.{Token}
use Rattle.ix_tree.specs.declared.token.TokenKind.{TokenKind}
use Rattle.ix_tree.specs.declared.token.TokenKind.TheVariants.{Name}
use Rattle.ix_tree.specs.Tokens.{instruction_set, extends_word, rv32i_word, always_word, if_word, else_word, open_brace, close_brace, open_round, close_round, semicolon}
use Rattle.ix_tree.specs.Trees.{e_name, StmtTree, s_block, s_empty, s_if, s_if_else, row_end, row_more, k_always, TextTree, span}

-- each token of one byte, one after the other
abbrev pub numbered : ℕ → List TokenKind → List Token
numbered n [] = []
numbered n (k ∷ ks) = record { kind = k; span = span n (n + 1) } ∷ numbered (n + 1) ks

abbrev pub name : ℕ → TokenKind
name letter = Name (letter ∷ [])

abbrev pub two_ifs : List Token
two_ifs =
    numbered 0
    (instruction_set ∷ name 65 ∷ extends_word ∷ rv32i_word ∷ open_brace ∷ always_word ∷ open_brace ∷ name 122 ∷ open_brace
    ∷ if_word ∷ open_round ∷ name 112 ∷ close_round ∷ if_word ∷ open_round ∷ name 113 ∷ close_round ∷ semicolon ∷ else_word ∷ semicolon
    ∷ close_brace ∷ close_brace ∷ close_brace ∷ [])

abbrev pub second_if : StmtTree
second_if = s_if_else (span 13 20) (e_name (span 15 16) (113 ∷ [])) (s_empty (span 17 18)) (s_empty (span 19 20))

abbrev pub two_ifs_tree : TextTree
two_ifs_tree =
    record {
      span = span 0 23;
      name = 65 ∷ [];
      sections =
          record {
            span = span 5 22;
            kind =
                k_always
                (record {
                  span = span 7 21;
                  name = 122 ∷ [];
                  body = s_block (span 8 21) (row_more (s_if (span 9 20) (e_name (span 11 12) (112 ∷ [])) second_if) row_end);
                } ∷ []);
          } ∷ [];
    }
