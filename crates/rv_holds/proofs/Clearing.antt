-- Lists of nothing.
use Rattle.std.proofs.Common.{◌≡◌, ℕ, suc, ◌+◌, ◌-◌, ◌<◌, List, [], ◌∷◌, ◌++◌, take, drop, length, Option, Some, None, refl, ap, ◌∙◌, sym, subst, append_assoc, arith}
use Rattle.std.specs.Prelude.{replicate}
use Rattle.std.proofs.Math.ListN.{set}
use Rattle.std.proofs.lemmas.List.{take_more_set}
use Rattle.rv_trace.specs.RowParts.{in_five}
use Rattle.rv_trace.proofs.Forms.{in_five_more, long_more}
use Rattle.rv_holds.specs.declared.token.Token.{Token}
use Rattle.rv_holds.specs.Tokens.{Slots}
use Rattle.rv_holds.specs.Flushing.{listed}

-- at first nothing is listed
pub none_listed : (xs : Slots) → replicate 5 None ≡ in_five (listed (drop (length xs) xs))
none_listed [] = refl
none_listed (x ∷ xs) = none_listed xs

pub none_counted : (xs : Slots) → 0 ≡ length (listed (drop (length xs) xs))
none_counted [] = refl
none_counted (x ∷ xs) = none_counted xs

-- then one token more, or none
pub more_listed : (xs : Slots) (n count : ℕ) (t : Token) (serials : List (Option ℕ)) → drop n xs ≡ Some t ∷ drop (n + 1) xs → serials ≡ in_five (listed (drop (n + 1) xs))
    → count ≡ length (listed (drop (n + 1) xs)) → count < 5 → set serials count (Some t.cell.serial) ≡ in_five (listed (drop n xs))
more_listed xs n count t serials e done counted few =
    ap (λ (l : List (Option ℕ)). set l count (Some t.cell.serial)) done
    ∙ ap (λ m. set (in_five (listed (drop (n + 1) xs))) m (Some t.cell.serial)) counted
    ∙ sym (in_five_more (listed (drop (n + 1) xs)) t.cell.serial (subst (λ m. m < 5) counted few))
    ∙ ap (λ (l : Slots). in_five (listed l)) (sym e)

pub more_counted : (xs : Slots) (n count : ℕ) (t : Token) → drop n xs ≡ Some t ∷ drop (n + 1) xs → count ≡ length (listed (drop (n + 1) xs)) → count + 1 ≡ length (listed (drop n xs))
more_counted xs n count t e counted =
    let more : count + 1 ≡ suc count = omega arith in
    more ∙ ap suc counted ∙ sym (long_more (listed (drop (n + 1) xs)) t.cell.serial) ∙ ap (λ (l : Slots). length (listed l)) (sym e)

-- one more slot is emptied
pub none_more : (n m : ℕ) (xs : Slots) → n < m → length xs ≡ m → take n xs ++ replicate (m - n) None ≡ replicate m None → take (n + 1) (set xs n None) ++ replicate (m - (n + 1)) None ≡ replicate m None
none_more n m xs lt long e =
    let more : m - n ≡ suc (m - (n + 1)) = omega (arith, lt) in
    ap (λ (l : Slots). l ++ replicate (m - (n + 1)) None) (take_more_set xs n None (omega (arith, lt, long)))
    ∙ append_assoc (take n xs) (None ∷ []) (replicate (m - (n + 1)) None)
    ∙ ap (λ (j : ℕ). take n xs ++ replicate j None) (sym more)
    ∙ e
