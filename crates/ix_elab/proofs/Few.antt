-- A text has no more tokens than bytes.
use Rattle.std.specs.List.{list_all}
use Rattle.std.specs.Prelude.{nat_lt}
use Rattle.std.proofs.Common.{◌≡◌, refl, subst, ℕ, true, Some, get_or, slice_get, ◌+◌, ◌<◌, ◌≤◌, arith, List, [], ◌∷◌, ◌++◌, length}
use Rattle.std.proofs.lemmas.Bool.{ltb-true}
use Rattle.std.proofs.lemmas.List.{length-append}
use Rattle.std.proofs.lemmas.List.Sums.{AllPass-from_list_all}
use Rattle.std.proofs.lemmas.Option.{slice_get_within, get_or_from_slice_get}
use Rattle.ix_tree.specs.Tokens.{symbols}
use Rattle.ix_tree.specs.declared.token.Token.{Token}
use Rattle.ix_tree.specs.Lexing.{Form, IsPart, is_space_part, is_line_part, is_comment_part, is_word_part, is_text_part, is_number_part, is_symbol_part, Reads, reads_none, reads_more, Lexes}

-- no symbol is empty
symbols_some : list_all (λ x. nat_lt 0 (length x)) symbols ≡ true
symbols_some = refl

symbol_some : (n : ℕ) (x : List ℕ) → slice_get symbols n ≡ Some x → 1 ≤ length x
symbol_some n x e =
    let all = AllPass-from_list_all (λ x. nat_lt 0 (length x)) symbols symbols_some in
    let p : nat_lt 0 (length (get_or symbols n x)) ≡ true = all n x (slice_get_within symbols n x e) in
    let q : nat_lt 0 (length x) ≡ true = subst (λ z. nat_lt 0 (length z) ≡ true) (get_or_from_slice_get symbols n x x e) p in
    ltb-true 0 (length x) q

part_few : {form : Form} {at : ℕ} {x y : List ℕ} {us : List Token} → IsPart form at x y us → length us ≤ length x
part_few (is_space_part b h) = omega arith
part_few (is_line_part h g) = omega arith
part_few (is_comment_part h) = omega arith
part_few (is_word_part b h g k l) = omega arith
part_few (is_text_part x h) = omega arith
part_few (is_number_part b kind h g k l) = omega arith
part_few {x = x} (is_symbol_part n e h) = symbol_some n x e

reads_few : {at : ℕ} {z : List ℕ} {ts : List Token} {rest : List ℕ} → Reads at z ts rest → length ts ≤ length z
reads_few reads_none = omega arith
reads_few (reads_more {x = x} {y = y} {us = us} {ts = ts} form p r) =
    let h = part_few p in
    let g = reads_few r in
    let e = length-append us ts in
    let f = length-append x y in
    omega (arith, h, g, e, f)

pub tokens_few : (bytes : List ℕ) (ts : List Token) (n : ℕ) → Lexes bytes ts → length bytes < n → length ts < n
tokens_few bytes ts n l h = let g = reads_few l.reads in omega (arith, g, h)
