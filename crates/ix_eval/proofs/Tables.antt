-- Lists of what a function gives at the first numbers.
use Rattle.std.proofs.Common.{◌≡◌, ◌∙◌, refl, sym, ap, ℕ, zero, suc, ◌<◌, List, length, get_or, arith, Option, None}
use Rattle.std.proofs.lemmas.List.{ext_get_or}
use Rattle.ix_eval.specs.Tables.{table}

pub table_length : {A : Type 0} (f : ℕ → A) (n : ℕ) → length (table f n) ≡ n
table_length f zero = refl
table_length f (suc n) = ap suc (table_length (λ r. f (suc r)) n)

pub table_at : {A : Type 0} (f : ℕ → A) (n r : ℕ) (d : A) → r < n → get_or (table f n) r d ≡ f r
table_at f zero r d lt = absurd (omega (arith, lt))
table_at f (suc n) zero d lt = refl
table_at f (suc n) (suc r) d lt = table_at (λ k. f (suc k)) n r d (omega (arith, lt))

-- a list is a table where each element is
pub table_is : {A : Type 0} (xs : List A) (f : ℕ → A) (n : ℕ) (d : A) → length xs ≡ n → ((r : ℕ) → r < n → get_or xs r d ≡ f r) → xs ≡ table f n
table_is xs f n d e each =
    ext_get_or d xs (table f n) (e ∙ sym (table_length f n)) (λ r lt. let b : r < n = omega (arith, e, lt) in each r b ∙ sym (table_at f n r d b))

-- a table of nothing has nothing at any place
pub none_at : {A : Type 0} (n r : ℕ) → (let f : ℕ → Option A = λ k. None in get_or (table f n) r None ≡ None)
none_at zero r = refl
none_at (suc n) zero = refl
none_at (suc n) (suc r) = none_at n r
