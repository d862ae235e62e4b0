-- Cells, flushed serials and custom registers, one behind the other.
use Rattle.std.proofs.Common.{◌≡◌, ℕ, zero, suc, ◌+◌, ◌-◌, ◌<◌, ◌≤◌, List, [], ◌∷◌, ◌++◌, length, drop, get_or, replicate, refl, sym, ap, ◌∙◌, arith, Option, Some, None, Bool}
use Rattle.std.specs.Prelude.{codes, nat_lt, if◌then◌else◌}
use Rattle.std.proofs.Math.ListN.{set, drop_of_length-le}
use Rattle.std.proofs.lemmas.List.{drop-replicate, drop-set-lt, drop_more}
use Rattle.rv_trace.specs.RowParts.{given}
use Rattle.rv_shown.specs.declared.shown.ShownCell.{ShownCell}
use Rattle.rv_reader.specs.Words.{and_then, until, from, behind_in, number_in}
use Rattle.rv_reader.specs.Rows.{cell_in, cells_from, flushed_behind, flushed_from}
use Rattle.rv_reader.specs.Writes.{custom_in, customs_in}

pub one_less : (n k : ℕ) → k < n → n - k ≡ suc (n - (k + 1))
one_less n k l = omega (arith, l)

pub next_number : (k : ℕ) → suc k ≡ k + 1
next_number k = omega arith

pub none_less : (n k : ℕ) → n ≤ k → n - k ≡ 0
none_less n k l = omega (arith, l)

-- ---- flushed serials
pub flushed_stop : (n low : ℕ) (so_far text : List ℕ) → behind_in (codes " f") text ≡ None → flushed_from n low so_far text ≡ Some (so_far, text)
unfolding flushed_from
flushed_stop zero low so_far text e = refl
flushed_stop (suc n) low so_far text e = ap (λ o. flushed_behind (flushed_from n) low so_far text o) e

pub flushed_end : (low : ℕ) (so_far text : List ℕ) → flushed_from 0 low so_far text ≡ Some (so_far, text)
unfolding flushed_from
flushed_end low so_far text = refl

pub flushed_bad : (n low : ℕ) (so_far text rest : List ℕ) → behind_in (codes " f") text ≡ Some rest → number_in 4294967295 (until 32 rest) ≡ None → flushed_from (suc n) low so_far text ≡ None
unfolding flushed_from
flushed_bad n low so_far text rest e f =
    ap (λ o. flushed_behind (flushed_from n) low so_far text o) e
    ∙ ap (λ o. and_then o (λ serial. if nat_lt serial low then None else flushed_from n (suc serial) (so_far ++ serial ∷ []) (from 32 rest))) f

pub flushed_some : (n low serial : ℕ) (so_far text rest : List ℕ) → behind_in (codes " f") text ≡ Some rest → number_in 4294967295 (until 32 rest) ≡ Some serial
    → flushed_from (suc n) low so_far text ≡ (if nat_lt serial low then None else flushed_from n (suc serial) (so_far ++ serial ∷ []) (from 32 rest))
unfolding flushed_from
flushed_some n low serial so_far text rest e f =
    ap (λ o. flushed_behind (flushed_from n) low so_far text o) e
    ∙ ap (λ o. and_then o (λ serial. if nat_lt serial low then None else flushed_from n (suc serial) (so_far ++ serial ∷ []) (from 32 rest))) f

pub given_none : (n : ℕ) → given (replicate n None) ≡ []
given_none zero = refl
given_none (suc n) = given_none n

pub given_set : (xs : List (Option ℕ)) (k n serial : ℕ) → drop k xs ≡ replicate n None → k < length xs → given (set xs k (Some serial)) ≡ given xs ++ serial ∷ []
given_set [] k n serial e l = absurd (omega (arith, l))
given_set (x ∷ xs) zero zero serial e l = absurd cc
given_set (x ∷ xs) zero (suc n) serial e l =
    let tail : xs ≡ replicate n None = cc in
    let head : x ≡ None = cc in
    let none : given xs ≡ [] = ap given tail ∙ given_none n in
    ap (λ t. serial ∷ t) none ∙ sym (ap (λ y. given (y ∷ xs) ++ serial ∷ []) head ∙ ap (λ t. t ++ serial ∷ []) none)
given_set (None ∷ xs) (suc k) n serial e l = given_set xs k n serial e (omega (arith, l))
given_set (Some y ∷ xs) (suc k) n serial e l = ap (λ t. y ∷ t) (given_set xs k n serial e (omega (arith, l)))

pub empty_next : (xs : List (Option ℕ)) (k : ℕ) (x : Option ℕ) → drop k xs ≡ replicate (5 - k) None → k < length xs → drop (k + 1) (set xs k x) ≡ replicate (5 - (k + 1)) None
empty_next xs k x e l =
    let j : 5 - k - 1 ≡ 5 - (k + 1) = omega arith in
    drop-set-lt (k + 1) xs k x (omega arith)
    ∙ ap (λ t. drop 1 t) (sym (drop_more xs k None l))
    ∙ ap (λ t. drop 1 t) e
    ∙ drop-replicate 1 (5 - k) None
    ∙ ap (λ n. replicate n None) j

-- ---- cells
pub cells_bad : (count n : ℕ) (so_far : List (Option ShownCell)) (text : List ℕ) → behind_in (codes " ") text ≡ None → cells_from count (suc n) so_far text ≡ None
unfolding cells_from
cells_bad count n so_far text e = ap (λ o. and_then o (λ rest. and_then (cell_in count (until 32 rest)) (λ found. cells_from count n (so_far ++ found ∷ []) (from 32 rest)))) e

pub cells_other : (count n : ℕ) (so_far : List (Option ShownCell)) (text rest : List ℕ) → behind_in (codes " ") text ≡ Some rest → cell_in count (until 32 rest) ≡ None → cells_from count (suc n) so_far text ≡ None
unfolding cells_from
cells_other count n so_far text rest e f =
    ap (λ o. and_then o (λ rest. and_then (cell_in count (until 32 rest)) (λ found. cells_from count n (so_far ++ found ∷ []) (from 32 rest)))) e
    ∙ ap (λ o. and_then o (λ found. cells_from count n (so_far ++ found ∷ []) (from 32 rest))) f

pub cells_more : (count n : ℕ) (so_far : List (Option ShownCell)) (text rest : List ℕ) (found : Option ShownCell) → behind_in (codes " ") text ≡ Some rest → cell_in count (until 32 rest) ≡ Some found
    → cells_from count (suc n) so_far text ≡ cells_from count n (so_far ++ found ∷ []) (from 32 rest)
unfolding cells_from
cells_more count n so_far text rest found e f =
    ap (λ o. and_then o (λ rest. and_then (cell_in count (until 32 rest)) (λ found. cells_from count n (so_far ++ found ∷ []) (from 32 rest)))) e
    ∙ ap (λ o. and_then o (λ found. cells_from count n (so_far ++ found ∷ []) (from 32 rest))) f

pub cells_end : (count : ℕ) (so_far : List (Option ShownCell)) (text : List ℕ) → cells_from count 0 so_far text ≡ Some (so_far, text)
unfolding cells_from
cells_end count so_far text = refl

-- ---- custom registers
pub customs_step : (late : Bool) (k d : ℕ) (widths text : List ℕ) → k < length widths → customs_in late k (drop k widths) text ≡ and_then (custom_in late k (get_or widths k d) text) (λ rest. customs_in late (k + 1) (drop (k + 1) widths) rest)
unfolding customs_in
customs_step late k d widths text l =
    ap (λ t. customs_in late k t text) (drop_more widths k d l)
    ∙ ap (λ n. and_then (custom_in late k (get_or widths k d) text) (λ rest. customs_in late n (drop (k + 1) widths) rest)) (next_number k)

pub customs_end : (late : Bool) (k : ℕ) (widths text : List ℕ) → length widths ≤ k → customs_in late k (drop k widths) text ≡ Some text
unfolding customs_in
customs_end late k widths text l = ap (λ t. customs_in late k t text) (drop_of_length-le widths l)
