-- Each token holds what stands before it.
use Rattle.std.proofs.Common.{◌≡◌, ◌<◌, ◌≤◌, ℕ, List, Bool, true, false, length, nat_le, ⊎_elim, refl, arith, get_or}
use Rattle.std.specs.List.{list_all}
use Rattle.std.proofs.lemmas.Bool.{cases_lt}
use Rattle.std.proofs.lemmas.Bool.Decides.{nat_tests}
use Rattle.std.proofs.lemmas.List.{get_or_past}
use Rattle.std.proofs.lemmas.List.Folds.{list_all_at}
use Rattle.ix_tree.specs.declared.token.TokenKind.{TokenKind}
use Rattle.ix_tree.specs.declared.token.TokenKind.TheVariants.{Name, Text, Unsized, Sized, Word, Symbol}
use Rattle.ix_tree.specs.Trees.{power, powers}

all_some : list_all (λ x. nat_le 1 x) powers ≡ true
all_some = refl

some_at : (xs : List ℕ) (n : ℕ) → list_all (λ x. nat_le 1 x) xs ≡ true → 1 ≤ get_or xs n 1
some_at xs n a = ⊎_elim (λ l. within l) (λ l. rw (get_or_past xs n 1 l) (omega arith)) (cases_lt n (length xs))
  where
    within : n < length xs → 1 ≤ get_or xs n 1
    within l = by_test (nat_le 1 (get_or xs n 1)) refl
      where
        by_test : (b : Bool) → nat_le 1 (get_or xs n 1) ≡ b → 1 ≤ get_or xs n 1
        by_test true e = grind (arith, nat_tests)
        by_test false e = absurd (let f : list_all (λ x. nat_le 1 x) xs ≡ false = list_all_at (λ x. nat_le 1 x) xs n 1 l e in cc)

pub some_power : (k : TokenKind) → 1 ≤ power k
unfolding power
some_power (Symbol n) = some_at powers n all_some
some_power (Name n) = omega arith
some_power Text = omega arith
some_power (Unsized ty b) = omega arith
some_power (Sized ty b) = omega arith
some_power (Word n) = omega arith
