-- Counts of rows, as far as they have been gone through.
use Rattle.std.proofs.Common.{◌≡◌, ℕ, zero, suc, ◌+◌, ◌≤◌, List, [], ◌∷◌, ◌++◌, length, take, reverse, Option, Some, Bool, slice_get, refl, sym, ap, ◌∙◌, arith}
use Rattle.std.specs.Prelude.{is_some, if◌then◌else◌}
use Rattle.std.proofs.lemmas.List.{reverse-append, take_all}
use Rattle.rv_trace.specs.declared.row.Row.{Row}
use Rattle.rv_trace.specs.Trace.{newest, retirements}
use Rattle.rv_bench.specs.Summary.{writings}

same : {A : Type 0} (a b : A) → ◌≡◌ {A = Option A} (Some a) (Some b) → a ≡ b
same a b e = cc

-- one more element
taken : {A : Type 0} (xs : List A) (k : ℕ) (x : A) → slice_get xs k ≡ Some x → take (suc k) xs ≡ take k xs ++ x ∷ []
taken [] k x e = absurd cc
taken (y ∷ ys) zero x e = ap (λ z. z ∷ []) (same y x e)
taken (y ∷ ys) (suc k) x e = ap (λ zs. y ∷ zs) (taken ys k x e)

turned : {A : Type 0} (xs : List A) (k : ℕ) (x : A) → slice_get xs k ≡ Some x → reverse (take (k + 1) xs) ≡ x ∷ reverse (take k xs)
turned xs k x e =
    let one : k + 1 ≡ suc k = omega arith in
    ap (λ n. reverse (take n xs)) one ∙ ap (λ ys. reverse ys) (taken xs k x e) ∙ reverse-append (take k xs) (x ∷ [])

-- the counts with one more row
retired_step : (row : Row) (rows : List Row) → retirements (row ∷ rows) ≡ (if is_some row.retired then suc (retirements rows) else retirements rows)
unfolding retirements
retired_step row rows = refl

pub retired_more : (rows : List Row) (k : ℕ) (row : Row) (before now : ℕ) (b : Bool) → slice_get rows k ≡ Some row → before ≡ retirements (reverse (take k rows)) → b ≡ is_some row.retired → now ≡ (if b then suc before else before) → now ≡ retirements (reverse (take (k + 1) rows))
retired_more rows k row before now b e h is n =
    n ∙ ap (λ (c : Bool). if c then suc before else before) is ∙ ap (λ m. if is_some row.retired then suc m else m) h ∙ sym (retired_step row (reverse (take k rows))) ∙ ap retirements (sym (turned rows k row e))

pub written_more : (rows : List Row) (k : ℕ) (row : Row) (before now : ℕ) (b : Bool) → slice_get rows k ≡ Some row → before ≡ writings (reverse (take k rows)) → b ≡ is_some row.written → now ≡ (if b then suc before else before) → now ≡ writings (reverse (take (k + 1) rows))
written_more rows k row before now b e h is n =
    n ∙ ap (λ (c : Bool). if c then suc before else before) is ∙ ap (λ m. if is_some row.written then suc m else m) h ∙ ap writings (sym (turned rows k row e))

pub no_retired : retirements [] ≡ 0
unfolding retirements
no_retired = refl

-- all rows
pub all_of : (F : List Row → ℕ) (rows : List Row) (k count : ℕ) → length rows ≤ k → count ≡ F (reverse (take k rows)) → count ≡ F (reverse rows)
all_of F rows k count h e = e ∙ ap (λ some. F (reverse some)) (take_all k rows h)

-- the last row is the newest
pub last_is_newest : (rows : List Row) (k : ℕ) (row : Row) → slice_get rows k ≡ Some row → length rows ≤ k + 1 → newest (reverse rows) ≡ row
last_is_newest rows k row e h = ap (λ some. newest (reverse some)) (sym (take_all (k + 1) rows h)) ∙ ap newest (turned rows k row e)
