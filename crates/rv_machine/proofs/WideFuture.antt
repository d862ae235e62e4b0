-- Files of sixteen custom registers that have their widths, register by register.
use Rattle.std.proofs.Common.{◌≡◌, ℕ, zero, suc, ◌<◌, ◌≤◌, List, [], ◌∷◌, length, get_or, Some, None, refl, sym, ap, ◌∙◌, subst, arith, inl, inr}
use Rattle.std.specs.Prelude.{slice_get, IfSome}
use Rattle.std.proofs.lemmas.Bool.{cases_lt}
use Rattle.ix_bits.specs.declared.number.Bits.{Bits}
use Rattle.ix_eval.specs.Evaluated.{type_of_custom}
use Rattle.ix_extension.specs.Extensions.{ExtensionTree}
use Rattle.rv_seq.specs.WordEffects.{AreWide}
use Rattle.rv_seq.specs.declared.commit.Slot.{Slot}
use Rattle.rv_seq.specs.declared.commit.Slot.TheVariants.{Absent, Now, Later}
use Rattle.rv_seq.specs.Commits.{with_slot}
use Rattle.rv_seq.specs.Sound.{IsNowWide}
use Rattle.rv_seq.specs.States.{zero_bit}

-- an element within the list is what there is
get_here : (xs : List Bits) (r : ℕ) → r < length xs → slice_get xs r ≡ Some (get_or xs r zero_bit)
get_here [] r lt = absurd (omega (arith, lt))
get_here (x ∷ xs) zero lt = refl
get_here (x ∷ xs) (suc r) lt = get_here xs r (omega (arith, lt))

get_past : (xs : List Bits) (r : ℕ) → length xs ≤ r → slice_get xs r ≡ None
get_past [] r le = refl
get_past (x ∷ xs) zero le = absurd (omega (arith, le))
get_past (x ∷ xs) (suc r) le = get_past xs r (omega (arith, le))

-- each of the sixteen has its width
pub wide_at : (x : ExtensionTree) (file : List Bits) (r : ℕ) → AreWide x file → r < 16 → (get_or file r zero_bit).width ≡ (type_of_custom x r).width
wide_at x file r h lt =
    let n = h.count in
    subst (λ o. IfSome o (λ b. b.width ≡ (type_of_custom x r).width)) (get_here file r (omega (arith, n, lt))) (h.widths r)

-- a file in which it has is wide
pub wide_of : (x : ExtensionTree) (file : List Bits) → length file ≡ 16 → ((r : ℕ) → r < 16 → (get_or file r zero_bit).width ≡ (type_of_custom x r).width) → AreWide x file
wide_of x file long each = record { count = long; widths = widths } where
  widths : (r : ℕ) → IfSome (slice_get file r) (λ b. b.width ≡ (type_of_custom x r).width)
  widths r = elim (cases_lt r 16) [
    | inl lt ↦ subst (λ o. IfSome o (λ b. b.width ≡ (type_of_custom x r).width)) (sym (get_here file r (omega (arith, long, lt)))) (each r lt)
    | inr le ↦ subst (λ o. IfSome o (λ b. b.width ≡ (type_of_custom x r).width)) (sym (get_past file r (omega (arith, long, le)))) tt
  ]

-- a write of a width
pub slot_wide : (v : Bits) (s : Slot Bits) (n : ℕ) → v.width ≡ n → IsNowWide n s → (with_slot v s).width ≡ n
slot_wide v Absent n h w = h
slot_wide v (Now b) n h w = w
slot_wide v Later n h w = h

-- what makes a value of a width is of that width
pub now_wide : (v u : Bits) (s : Slot Bits) (n : ℕ) → u ≡ with_slot v s → u.width ≡ n → IsNowWide n s
now_wide v u Absent n e w = tt
now_wide v u (Now b) n e w = ap (λ (x : Bits). x.width) (sym e) ∙ w
now_wide v u Later n e w = tt
