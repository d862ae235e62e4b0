-- In no row without a retirement does the oldest token come farther, whatever it meets beside the stages.
use Rattle.std.proofs.Common.{◌≡◌, ℕ, zero, suc, ◌+◌, ◌<◌, ◌≤◌, [], ◌∷◌, length, Option, Some, None, Bool, true, false, refl, sym, ap, ◌∙◌, subst, arith, inl, inr}
use Rattle.std.specs.Prelude.{if◌then◌else◌, is_some}
use Rattle.rv_core.specs.declared.Shape.{Shape}
use Rattle.rv_trace.specs.declared.row.Hold.{Hold}
use Rattle.rv_trace.specs.declared.row.Hold.TheVariants.{Operand, Board, Custom, Late, Trap, Drain, Wait, StoreAhead, Tail, UnitFull, Port, Behind}
use Rattle.rv_holds.specs.declared.token.Token.{Token}
use Rattle.rv_holds.specs.Tokens.{Slots}
use Rattle.rv_engine.specs.Settings.{Setting, shape_of}
use Rattle.rv_engine.specs.Rows.{fill_first, tail_after, going, kept, advanced, leaving}
use Rattle.rv_machine.specs.Placed.{count, first_of_two, may_wait, here, to_go, rank}
use Rattle.rv_machine.proofs.Bound.{Falls, falls_tail, Nearer, first_is, come_advanced, some_stage, wait_falls, wait_stays, stays_here, to_go-zero, IsShort, AreShort, to_go-le, first_le, fill_rank}

pub tail_less : (h : Option Hold) (n : ℕ) → tail_after h n ≤ n
tail_less None n = omega arith
tail_less (Some (Operand r j)) n = omega arith
tail_less (Some (Board t j)) n = omega arith
tail_less (Some (Custom r j)) n = omega arith
tail_less (Some (Late j)) n = omega arith
tail_less (Some Trap) n = omega arith
tail_less (Some (Drain j)) n = omega arith
tail_less (Some (Wait left)) n = omega arith
tail_less (Some (StoreAhead j)) n = omega arith
tail_less (Some (Tail left)) n = omega arith
tail_less (Some (UnitFull u)) n = omega arith
tail_less (Some (Port j)) n = omega arith
tail_less (Some Behind) n = omega arith

oldest_stays : (k : Setting) (most owed owed' stage n : ℕ) (come : Option Token) (t : Token) (older : Slots) → owed' ≤ most → Falls k owed owed' stage (Some t ∷ older) → leaving come (Some t ∷ older) ≡ None → count older ≡ 0 → suc (length older + may_wait (shape_of k) most owed stage + t.tail) ≡ suc n
    → Nearer (to_go (shape_of k) most owed' stage (advanced come (Some t ∷ older))) (suc n)
oldest_stays k most owed owed' stage n come t older le f l q e = by_hold (is_some t.cell.hold) refl where
  same : length older + may_wait (shape_of k) most owed stage + t.tail ≡ n
  same = omega (arith, e)

  by_hold : (b : Bool) → is_some t.cell.hold ≡ b → Nearer (to_go (shape_of k) most owed' stage (advanced come (Some t ∷ older))) (suc n)
  by_hold true held =
      let a = wait_stays (shape_of k) most owed owed' stage (λ at. f.0.1 at held) in
      let z = tail_less t.cell.hold t.tail in
      let whole = stays_here (shape_of k) most owed' stage come t older held q in
      record { fewer = omega (arith, whole, a, z, same); some = omega (arith, whole) }
  by_hold false nh =
      let goes : going (Some t) ≡ Some t = ap (λ (b : Bool). if b then None else Some t) nh in
      let l' = subst (λ u. leaving u older ≡ None) goes l in
      let c = ap (λ u. to_go (shape_of k) most owed' (suc stage) (advanced u older)) goes ∙ come_advanced (shape_of k) most owed' (suc stage) t older q l' in
      let lt = some_stage t older l' in
      let w = wait_falls (shape_of k) most owed owed' stage le in
      let later = advanced (going (Some t)) older in
      let some : 0 < to_go (shape_of k) most owed' (suc stage) later = omega (arith, c, lt) in
      let whole : to_go (shape_of k) most owed' stage (advanced come (Some t ∷ older)) ≡ to_go (shape_of k) most owed' (suc stage) later = first_is (to_go (shape_of k) most owed' (suc stage) later) (here (shape_of k) most owed' stage (kept come (Some t)) (length later)) some in
      record { fewer = omega (arith, whole, c, w, same); some = omega (arith, whole, c, lt) }

not_farther : (k : Setting) (most owed owed' stage n : ℕ) (come : Option Token) (seen : Slots) → owed' ≤ most → Falls k owed owed' stage seen → leaving come seen ≡ None → to_go (shape_of k) most owed stage seen ≡ suc n → Nearer (to_go (shape_of k) most owed' stage (advanced come seen)) (suc n)
not_farther k most owed owed' stage n come [] le f l e = absurd (omega arith)
not_farther k most owed owed' stage n come (s ∷ older) le f l e =
    by_case (to_go (shape_of k) most owed (suc stage) older) refl e
    (λ m q. not_farther k most owed owed' (suc stage) m (going s) older le (falls_tail k owed owed' stage s older f) l q) where
      here_now : (s : Option Token) → Falls k owed owed' stage (s ∷ older) → leaving come (s ∷ older) ≡ None → count older ≡ 0 → here (shape_of k) most owed stage s (length older) ≡ suc n → Nearer (to_go (shape_of k) most owed' stage (advanced come (s ∷ older))) (suc n)
      here_now None f l q e = absurd (omega (arith, e))
      here_now (Some t) f l q e = oldest_stays k most owed owed' stage n come t older le f l q e

      by_case : (m : ℕ) → to_go (shape_of k) most owed (suc stage) older ≡ m → first_of_two m (here (shape_of k) most owed stage s (length older)) ≡ suc n
          → ((m : ℕ) → to_go (shape_of k) most owed (suc stage) older ≡ suc m → Nearer (to_go (shape_of k) most owed' (suc stage) (advanced (going s) older)) (suc m))
          → Nearer (to_go (shape_of k) most owed' stage (advanced come (s ∷ older))) (suc n)
      by_case zero q e ih = here_now s f l (to_go-zero (shape_of k) most owed (suc stage) older q) e
      by_case (suc m) q e ih =
          let i = ih m q in
          let a = i.fewer in
          let b = i.some in
          let later = advanced (going s) older in
          let whole : to_go (shape_of k) most owed' stage (advanced come (s ∷ older)) ≡ to_go (shape_of k) most owed' (suc stage) later = first_is (to_go (shape_of k) most owed' (suc stage) later) (here (shape_of k) most owed' stage (kept come s) (length later)) b in
          record { fewer = omega (arith, whole, a, e); some = omega (arith, whole, b) }

fill_none : (slots : Slots) → fill_first None slots ≡ slots
fill_none [] = refl
fill_none (None ∷ older) = refl
fill_none (Some t ∷ older) = refl

-- the rank is no greater than with no token
pub rank_top : (k : Shape) (most owed : ℕ) (slots : Slots) → length slots ≡ k.stages → owed ≤ most → AreShort slots → rank k most owed slots ≤ suc (k.stages + most + 64)
rank_top k most owed slots long le short =
    let a = to_go-le k most owed 0 slots le short in
    first_le (to_go k most owed 0 slots) (suc (k.stages + most + 64)) (suc (k.stages + most + 64)) (omega (arith, a, long)) (omega arith)

-- after a row without a retirement it is no greater than before, with what is fetched
pub rank_stays : (k : Setting) (most owed owed' : ℕ) (new : Option Token) (slots seen : Slots) → length slots ≡ (shape_of k).stages → 0 < (shape_of k).stages → owed ≤ most → owed' ≤ most → IsShort new
    → Falls k owed owed' 0 seen → leaving None seen ≡ None → to_go (shape_of k) most owed 0 seen ≡ to_go (shape_of k) most owed 0 (fill_first new slots) → length (advanced None seen) ≡ (shape_of k).stages → AreShort (advanced None seen)
    → rank (shape_of k) most owed' (advanced None seen) ≤ rank (shape_of k) most owed slots
rank_stays k most owed owed' new slots seen long some le le' short f l same length' shorts = elim (fill_rank (shape_of k) most owed new slots long some le short) [
  | inl x ↦
      let y = not_farther k most owed owed' 0 x.0 None seen le' f l (same ∙ x.1) in
      let a = y.fewer in
      let whole = first_is (to_go (shape_of k) most owed' 0 (advanced None seen)) (suc ((shape_of k).stages + most + 64)) y.some in
      let b = x.2 in
      omega (arith, whole, a, b)
  | inr x ↦
      let z : to_go (shape_of k) most owed 0 slots ≡ 0 = ap (λ s. to_go (shape_of k) most owed 0 s) (sym (fill_none slots)) ∙ ap (λ o. to_go (shape_of k) most owed 0 (fill_first o slots)) (sym x.0) ∙ x.1 in
      let top : rank (shape_of k) most owed slots ≡ suc ((shape_of k).stages + most + 64) = ap (λ n. first_of_two n (suc ((shape_of k).stages + most + 64))) z in
      let a = rank_top (shape_of k) most owed' (advanced None seen) length' le' shorts in
      omega (arith, top, a)
]
