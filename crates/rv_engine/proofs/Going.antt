-- Moves from the oldest stage down.
use Rattle.std.proofs.Common.{◌≡◌, ◌∙◌, sym, ap, ℕ, zero, suc, ◌+◌, ◌-◌, ◌<◌, [], ◌∷◌, take, drop, length, get_or, Option, None, arith}
use Rattle.std.proofs.Math.ListN.{set}
use Rattle.std.proofs.lemmas.List.{at_drop_more, drop-set, get_or-take}
use Rattle.rv_holds.specs.declared.token.Token.{Token}
use Rattle.rv_holds.specs.Tokens.{Slots}
use Rattle.rv_holds.proofs.Places.{front_kept}
use Rattle.rv_engine.specs.Rows.{going, kept, advanced, leaving, first_slot}

-- the token of the last stage goes out
pub leaving_last : (come : Option Token) (slots : Slots) (n : ℕ) (s : Option Token) → length slots ≡ n + 1 → s ≡ get_or slots n s → going s ≡ leaving come slots
leaving_last come [] n s e h = absurd (omega (arith, e))
leaving_last come (first ∷ []) zero s e h = ap (λ (u : Option Token). going u) h
leaving_last come (first ∷ []) (suc n) s e h = absurd (omega (arith, e))
leaving_last come (first ∷ second ∷ older) zero s e h = absurd (omega (arith, e))
leaving_last come (first ∷ second ∷ older) (suc n) s e h = leaving_last (going first) (second ∷ older) n s (omega (arith, e)) h

-- one more stage is moved
pub advanced_more : (n : ℕ) (now old new : Slots) → n < length old → length now ≡ length old → take (n + 1) now ≡ take (n + 1) old → drop (n + 1) now ≡ advanced (going (get_or old n None)) (drop (n + 1) old)
    → new ≡ set now n (kept (going (get_or now (n - 1) None)) (get_or now n None)) → drop n new ≡ advanced (going (get_or old (n - 1) None)) (drop n old)
advanced_more n now old new lt long front back e =
    let there : get_or now n None ≡ get_or old n None = sym (get_or-take (n + 1) now n None (omega arith)) ∙ ap (λ (l : Slots). get_or l n None) front ∙ get_or-take (n + 1) old n None (omega arith) in
    let before : get_or now (n - 1) None ≡ get_or old (n - 1) None = sym (get_or-take (n + 1) now (n - 1) None (omega arith)) ∙ ap (λ (l : Slots). get_or l (n - 1) None) front ∙ get_or-take (n + 1) old (n - 1) None (omega arith) in
    let rest : Slots = advanced (going (get_or old n None)) (drop (n + 1) old) in
    ap (λ (l : Slots). drop n l) e
    ∙ drop-set now n (kept (going (get_or now (n - 1) None)) (get_or now n None)) (omega (arith, lt, long))
    ∙ ap (λ (l : Slots). kept (going (get_or now (n - 1) None)) (get_or now n None) ∷ l) back
    ∙ ap (λ (u : Option Token). kept (going u) (get_or now n None) ∷ rest) before
    ∙ ap (λ (u : Option Token). kept (going (get_or old (n - 1) None)) u ∷ rest) there
    ∙ sym (ap (λ (l : Slots). advanced (going (get_or old (n - 1) None)) l) (at_drop_more (λ (l : Slots). l) old n None lt))

pub front_more : (n : ℕ) (now old new : Slots) (r : Option Token) → take (n + 1) now ≡ take (n + 1) old → new ≡ set now n r → take n new ≡ take n old
front_more n now old new r front e = ap (λ (l : Slots). take n l) e ∙ front_kept n now old r front

-- the first stage, behind all others
pub advanced_first : (now old : Slots) (u r : Option Token) → 0 < length old → length now ≡ length old → take 1 now ≡ take 1 old → drop 1 now ≡ advanced (going (get_or old 0 None)) (drop 1 old) → r ≡ kept None (get_or now 0 u) → set now 0 r ≡ advanced None old
advanced_first now [] u r lt long front back e = absurd (omega (arith, lt))
advanced_first [] (s ∷ older) u r lt long front back e = absurd (omega (arith, long))
advanced_first (t ∷ behind) (s ∷ older) u r lt long front back e =
    let same : t ≡ s = ap (λ (l : Slots). get_or l 0 None) front in
    ap (λ (v : Option Token). v ∷ behind) (e ∙ ap (λ (v : Option Token). kept None v) same) ∙ ap (λ (l : Slots). kept None s ∷ l) back

-- the slot of a stage
pub slot_at : (slots : Slots) (n : ℕ) (s : Option Token) → n < length slots → s ≡ get_or slots n s → s ≡ first_slot (drop n slots)
slot_at [] n s lt e = absurd (omega (arith, lt))
slot_at (u ∷ slots) zero s lt e = e
slot_at (u ∷ slots) (suc n) s lt e = slot_at slots n s (omega (arith, lt)) e
