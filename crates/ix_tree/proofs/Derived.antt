-- The example derives its tree.
use Rattle.std.proofs.Common.{◌≡◌, ℕ, ◌+◌, ◌≤◌, leb, List, [], ◌∷◌, refl, arith}
use Rattle.std.specs.Prelude.{All, true}
use Rattle.std.specs.List.{list_all}
use Rattle.std.proofs.lemmas.Bool.{leb-true, le-leb}
use Rattle.std.proofs.lemmas.Bool.Decides.{Decides-by_and}
use Rattle.ix_tree.specs.declared.token.Token.{Token}
use Rattle.ix_tree.specs.declared.token.TokenKind.{TokenKind}
use Rattle.ix_tree.specs.Tokens.{instruction_set, extends_word, rv32i_word, always_word, if_word, else_word, open_brace, close_brace, open_round, close_round, semicolon}
use Rattle.ix_tree.specs.Trees.{span}
use Rattle.ix_tree.specs.Grammar.{most_nesting, Derives, is_text, no_more, one_more, is_always_section, is_always, no_items, more_items, is_if, is_if_else, is_empty, is_primary, primary_name}
use Rattle.ix_tree.specs.Example.{name, two_ifs, two_ifs_tree}

abbrev t : ℕ → TokenKind → Token
t n k = record { kind = k; span = span n (n + 1) }

all_flat : (ms : List ℕ) → list_all (λ m. leb m 64) ms ≡ true → All (λ m. m ≤ most_nesting) ms
all_flat ms e = (Decides-by_and (λ m. leb m 64) (λ m. m ≤ 64) (list_all (λ m. leb m 64)) (λ m. (leb-true m 64, le-leb m 64)) refl (λ _ _. refl) ms).0 e

pub two_ifs_derive : Derives two_ifs two_ifs_tree
two_ifs_derive = record {
  nestings = 0 ∷ 0 ∷ 0 ∷ 0 ∷ 0 ∷ 0 ∷ 0 ∷ 0 ∷ 0 ∷ 1 ∷ 2 ∷ 2 ∷ 2 ∷ 2 ∷ 3 ∷ 3 ∷ 3 ∷ 3 ∷ 2 ∷ 3 ∷ 0 ∷ 0 ∷ 0 ∷ [];
  is =
      is_text (t 0 instruction_set) (t 1 (name 65)) (t 2 extends_word) (t 3 rv32i_word) (t 4 open_brace) (t 22 close_brace) (65 ∷ []) refl refl refl refl refl refl
      (one_more
      (is_always_section (t 5 always_word) (t 6 open_brace) (t 21 close_brace) refl refl refl
      (one_more
      (is_always (t 7 (name 122)) (t 8 open_brace) (t 20 close_brace) (122 ∷ []) refl refl refl
      (more_items
      (is_if (t 9 if_word) (t 10 open_round) (t 12 close_round) (omega arith) refl refl refl
      (is_primary (t 11 (name 112)) (primary_name (t 11 (name 112)) (112 ∷ []) refl))
      (is_if_else (t 13 if_word) (t 14 open_round) (t 16 close_round) (t 18 else_word) refl refl refl refl
      (is_primary (t 15 (name 113)) (primary_name (t 15 (name 113)) (113 ∷ []) refl))
      (is_empty (t 17 semicolon) refl)
      (is_empty (t 19 semicolon) refl)))
      no_items))
      no_more))
      no_more);
  flat = all_flat (0 ∷ 0 ∷ 0 ∷ 0 ∷ 0 ∷ 0 ∷ 0 ∷ 0 ∷ 0 ∷ 1 ∷ 2 ∷ 2 ∷ 2 ∷ 2 ∷ 3 ∷ 3 ∷ 3 ∷ 3 ∷ 2 ∷ 3 ∷ 0 ∷ 0 ∷ 0 ∷ []) refl;
}
