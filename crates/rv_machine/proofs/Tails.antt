-- For how many rows a module still goes on, after a row.
use Rattle.std.proofs.Common.{◌≡◌, ℕ, zero, suc, [], ◌∷◌, drop, Option, Some, None, Bool, true, false, refl, sym, ap, ◌∙◌, subst, ◌⊎◌, inl, inr}
use Rattle.std.specs.Prelude.{◌&&◌, if◌then◌else◌, ◌==◌, is_some, is_none}
use Rattle.rv_core.specs.declared.Shape.{Shape}
use Rattle.rv_trace.specs.declared.row.Hold.{Hold}
use Rattle.rv_holds.specs.declared.token.Token.{Token}
use Rattle.rv_asks.specs.declared.asks.Asks.{Asks}
use Rattle.rv_holds.specs.Tokens.{Slots, or_else, stop_of}
use Rattle.rv_holds.specs.Holds.{custom_hold, late_hold, leaving_hold, store_ahead, store_hold, memory_hold, shown, reading_hold, ending_hold}
use Rattle.rv_engine.specs.Rows.{waited, going, advanced, first_slot}

-- a token after the moves stood in its stage before and was held, or in the stage below and went on
pub data Moved (n : ℕ) (l : Slots) (u : Token) : Type 0 where
  stayed : (t : Token) (older : Slots) → drop n l ≡ Some t ∷ older → is_some t.cell.hold ≡ true → waited t ≡ u → Moved n l u
  went : (i : ℕ) (older : Slots) → suc i ≡ n → drop i l ≡ Some u ∷ older → is_some u.cell.hold ≡ false → Moved n l u

-- or it came into the first stage of these
pub moved_from : (n : ℕ) (come : Option Token) (l rest : Slots) (u : Token) → drop n (advanced come l) ≡ Some u ∷ rest → Moved n l u ⊎ ((n ≡ 0) × (come ≡ Some u))
moved_from zero come [] rest u e = cc
moved_from zero come (None ∷ l) rest u e = inr (refl, ap first_slot e)
moved_from zero come (Some t ∷ l) rest u e = by_case (is_some t.cell.hold) refl (ap first_slot e) where
  same_token : (v w : Token) → ◌≡◌ {A = Option Token} (Some v) (Some w) → v ≡ w
  same_token v w x = cc

  by_case : (b : Bool) → is_some t.cell.hold ≡ b → (if b then Some (waited t) else come) ≡ Some u → Moved 0 (Some t ∷ l) u ⊎ ((◌≡◌ {A = ℕ} 0 0) × (come ≡ Some u))
  by_case true h q = inl (stayed t l refl h (same_token (waited t) u q))
  by_case false h q = inr (refl, q)
moved_from (suc n) come [] rest u e = cc
moved_from (suc n) come (s ∷ l) rest u e = elim (moved_from n (going s) l rest u e) [
  | inl m ↦ inl (one_further m)
  | inr c ↦ inl (went_on s c.0 c.1)
] where
  one_further : Moved n l u → Moved (suc n) (s ∷ l) u
  one_further (stayed t older d h q) = stayed t older d h q
  one_further (went i older q d h) = went (suc i) older (ap suc q) d h

  went_on : (s : Option Token) → n ≡ 0 → going s ≡ Some u → Moved (suc n) (s ∷ l) u
  went_on None z g = cc
  went_on (Some t) z g = by_case (is_some t.cell.hold) refl g where
    same_token : (v w : Token) → ◌≡◌ {A = Option Token} (Some v) (Some w) → v ≡ w
    same_token v w x = cc

    by_case : (b : Bool) → is_some t.cell.hold ≡ b → (if b then None else Some t) ≡ Some u → Moved (suc n) (Some t ∷ l) u
    by_case true h q = cc
    by_case false h q =
        let same = same_token t u q in
        went 0 l (ap suc (sym z)) (ap (λ (v : Token). Some v ∷ l) same) (subst (λ (v : Token). is_some v.cell.hold ≡ false) same h)

-- ---- the hold of the last stage

or_right : (a : Option Hold) → or_else a None ≡ a
or_right None = refl
or_right (Some h) = refl

no_older_store : (a : Asks) → store_hold [] a ≡ None
no_older_store a = by_case a.loads where
  by_case : (b : Bool) → (if b then store_ahead None else None) ≡ None
  by_case true = refl
  by_case false = refl

-- the token of the last stage waits for the memory, where that is MEM, or for its module
pub last_hold : (k : Shape) (stage : ℕ) (t : Token) → (stage == k.rd) ≡ false → (stage == k.ex) ≡ false → (suc stage == k.stages) ≡ true → shown k stage t [] ≡ or_else (if stage == k.mem then memory_hold t else None) (ending_hold t)
last_hold k stage t e f g =
    ap (λ (b : Bool). by_tests b (stage == k.ex) (suc stage == k.stages)) e
    ∙ ap (λ (b : Bool). by_tests false b (suc stage == k.stages)) f
    ∙ ap (λ (b : Bool). by_tests false false b) g
    ∙ or_right (or_else (if stage == k.mem then or_else (memory_hold t) (store_hold [] t.asks) else None) (ending_hold t))
    ∙ ap (λ o. or_else (if stage == k.mem then or_else (memory_hold t) o else None) (ending_hold t)) (no_older_store t.asks)
    ∙ ap (λ o. or_else (if stage == k.mem then o else None) (ending_hold t)) (or_right (memory_hold t)) where
      own_by : Bool → Bool → Bool → Option Hold
      own_by a b c =
          or_else (or_else (if a then reading_hold k stage t [] else None) (if b then or_else (custom_hold [] t.asks) (late_hold []) else None))
          (or_else (if b then leaving_hold t [] else None)
          (or_else (if stage == k.mem then or_else (memory_hold t) (store_hold [] t.asks) else None)
          (if c then ending_hold t else None)))

      by_tests : Bool → Bool → Bool → Option Hold
      by_tests a b c = if b && is_some (stop_of t) && is_none (own_by a b c) then None else or_else (own_by a b c) None
