-- Serials of what stands, listed one by one.
use Rattle.std.proofs.Common.{◌≡◌, ℕ, suc, ◌+◌, ◌<◌, List, [], ◌∷◌, drop, length, get_or, Option, Some, None, refl, ap, ◌∙◌, sym, subst, arith}
use Rattle.std.specs.Prelude.{replicate}
use Rattle.std.proofs.Math.ListN.{set}
use Rattle.std.proofs.lemmas.List.{at_drop_more}
use Rattle.rv_trace.specs.RowParts.{in_five}
use Rattle.rv_trace.proofs.Forms.{in_five_more, long_more}
use Rattle.rv_barrel.specs.declared.cell.InFlight.{InFlight}
use Rattle.rv_barrel.specs.Cells.{Slots}
use Rattle.rv_barrel.specs.Showing.{serials_of}

pub none_listed : (xs : Slots) → replicate 5 None ≡ in_five (serials_of (drop (length xs) xs))
none_listed [] = refl
none_listed (x ∷ xs) = none_listed xs

pub none_counted : (xs : Slots) → 0 ≡ length (serials_of (drop (length xs) xs))
none_counted [] = refl
none_counted (x ∷ xs) = none_counted xs

-- the first of these from a place on
pub at_place : (xs : Slots) (n : ℕ) (x : Option InFlight) → n < length xs → x ≡ get_or xs n x → drop n xs ≡ x ∷ drop (n + 1) xs
at_place xs n x h e = at_drop_more (λ l. l) xs n x h ∙ ap (λ y. y ∷ drop (n + 1) xs) (sym e)

pub more_listed : (xs : Slots) (n count : ℕ) (t : InFlight) (serials : List (Option ℕ)) → drop n xs ≡ Some t ∷ drop (n + 1) xs → serials ≡ in_five (serials_of (drop (n + 1) xs))
    → count ≡ length (serials_of (drop (n + 1) xs)) → count < 5 → set serials count (Some t.serial) ≡ in_five (serials_of (drop n xs))
more_listed xs n count t serials e done counted few =
    ap (λ (l : List (Option ℕ)). set l count (Some t.serial)) done
    ∙ ap (λ m. set (in_five (serials_of (drop (n + 1) xs))) m (Some t.serial)) counted
    ∙ sym (in_five_more (serials_of (drop (n + 1) xs)) t.serial (subst (λ m. m < 5) counted few))
    ∙ ap (λ (l : Slots). in_five (serials_of l)) (sym e)

pub more_counted : (xs : Slots) (n count : ℕ) (t : InFlight) → drop n xs ≡ Some t ∷ drop (n + 1) xs → count ≡ length (serials_of (drop (n + 1) xs)) → count + 1 ≡ length (serials_of (drop n xs))
more_counted xs n count t e counted =
    let more : count + 1 ≡ suc count = omega arith in
    more ∙ ap suc counted ∙ sym (long_more (serials_of (drop (n + 1) xs)) t.serial) ∙ ap (λ (l : Slots). length (serials_of l)) (sym e)
