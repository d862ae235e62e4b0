-- What a row retires has the word of its cell.
use Rattle.std.proofs.Common.{◌≡◌, ℕ, ◌+◌, ◌-◌, ◌<◌, ◌≤◌, List, [], ◌∷◌, drop, Option, Some, None, Bool, true, false, refl, sym, ap, ◌∙◌, arith, inl, inr}
use Rattle.std.specs.Prelude.{nat_lt, slice_get, is_some, if◌then◌else◌}
use Rattle.std.proofs.lemmas.Bool.Decides.{nat_tests}
use Rattle.rv_trace.specs.declared.row.Row.{Row}
use Rattle.rv_trace.specs.Trace.{place, is_flushed, is_retired, retirements}
use Rattle.rv_holds.specs.declared.token.Token.{Token}
use Rattle.rv_holds.specs.Tokens.{Slots}
use Rattle.rv_engine.specs.Settings.{Setting, Machine, shape_of}
use Rattle.rv_engine.specs.Rows.{going, loaded_by, seen_by, left_by, IsRowOf}
use Rattle.rv_lawful.specs.LawfulTrace.{IsWordOf}
use Rattle.rv_machine.specs.Owing.{judged, RetiredAs}
use Rattle.rv_machine.specs.Placed.{IsReady, Inv}
use Rattle.rv_machine.specs.Told.{out_of}
use Rattle.rv_machine.proofs.Places.{stood, one_place, unflushed_before}
use Rattle.rv_machine.proofs.Moving.{last_slot}
use Rattle.rv_machine.proofs.Standing.{here_of}
use Rattle.rv_machine.proofs.Flushing as F
use Rattle.rv_machine.proofs.Retiring as R
use Rattle.rv_tried.specs.Parts.{shown}
use Rattle.rv_lawful.specs.Sight.{asked}
use Rattle.rv_machine.proofs.Recorded.{shown_word}

below : (a b : ℕ) → nat_lt a b ≡ true → a < b
below a b h = grind (arith, nat_tests)

not_below : (a b : ℕ) → nat_lt a b ≡ false → b ≤ a
not_below a b h = grind (arith, nat_tests)

-- the token that goes out of the last of these slots stands there
left_there : (n : ℕ) (slots : Slots) (o s : Option Token) (t : Token) → drop n slots ≡ s ∷ [] → o ≡ going s → o ≡ Some t → slice_get slots n ≡ Some (Some t)
left_there n slots o None t rest g e = cc (g, e)
left_there n slots o (Some u) t rest g e = by_hold (is_some u.cell.hold) g where
  by_hold : (b : Bool) → o ≡ (if b then None else Some u) → slice_get slots n ≡ Some (Some t)
  by_hold true q = cc (e, q)
  by_hold false q = let same : u ≡ t = cc (e, q) in here_of slots [] u n rest ∙ ap (λ (v : Token). Some (Some v)) same

module _ (k : Setting) (ready : IsReady k) (earlier : List Row) (m : Machine) (row : Row) (inv : Inv k earlier m) (is : IsRowOf k m row) where
  pub left_here : (t : Token) → left_by k m ≡ Some t → slice_get (seen_by k m) ((shape_of k).stages - 1) ≡ Some (Some t)
  left_here t e =
      let a = ready.ex_last in
      let long = R.seen_length k ready earlier m row inv is in
      let l = last_slot ((shape_of k).stages - 1) (seen_by k m) (omega (arith, a, long)) in
      left_there ((shape_of k).stages - 1) (seen_by k m) (left_by k m) l.slot t l.rest (l.leaving_is None) e

  pub worded_next : (s word : ℕ) → IsWordOf (judged k) (row ∷ earlier) s word → is_flushed (row ∷ earlier) s ≡ false → is_retired (row ∷ earlier) s ≡ true → RetiredAs (row ∷ earlier) s word
  worded_next s word h alive gone = by_before (is_retired earlier s) refl h where
    before : is_flushed earlier s ≡ false
    before = unflushed_before row earlier s alive

    by_before : (b : Bool) → is_retired earlier s ≡ b → IsWordOf (judged k) (row ∷ earlier) s word → RetiredAs (row ∷ earlier) s word
    by_before true e (inr known) = inr (inv.worded s word known before e)
    by_before true e (inl known) =
        let x = F.shown_at k ready earlier m row inv is known.0 known.1 known.2 in
        let low = (stood earlier (retirements earlier) known.0 (loaded_by k m) x.token (F.loaded_serials k ready earlier m row inv is) x.here_is).low in
        let same = ap (λ n. place earlier n) (x.serial ∙ known.3) in
        let lt = below (place earlier s) (retirements earlier) (sym (inv.retired s before) ∙ e) in
        absurd (omega (arith, low, same, lt))
    by_before false e known =
        let low = not_below (place (row ∷ earlier) s) (retirements earlier) (sym (F.before_retired k ready earlier m row inv is s alive) ∙ e) in
        let high = below (place (row ∷ earlier) s) (retirements earlier + out_of (seen_by k m)) (sym (R.told_retired k ready earlier m row inv is s alive) ∙ gone) in
        elim (R.goes_out k ready earlier m row inv is) [
          | inl n ↦ let z = n.2 in absurd (omega (arith, low, high, z))
          | inr y ↦
              let one = y.1 in
              let x = R.left_serial k ready earlier m row inv is y.0.token y.0.is_left in
              let there : place (row ∷ earlier) s ≡ retirements earlier = omega (arith, low, high, one) in
              let same : y.0.token.cell.serial ≡ s = one_place (row ∷ earlier) y.0.token.cell.serial s x.1 alive (x.0 ∙ sym there) in
              let code = F.words_now k ready earlier m row inv is s word known ((shape_of k).stages - 1) y.0.token (left_here y.0.token y.0.is_left) same in
              inl (
                shown (asked k.design y.0.token.cell.word) y.0.commit,
                y.0.is_retired ∙ ap (λ n. Some (n, shown (asked k.design y.0.token.cell.word) y.0.commit)) same,
                shown_word (asked k.design y.0.token.cell.word) y.0.commit ∙ y.0.word ∙ code,
              )
        ]
