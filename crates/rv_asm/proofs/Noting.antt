-- Labels as they are noted, line by line.
use Rattle.std.proofs.Common.{◌≡◌, ◌∙◌, sym, ap, refl, ℕ, zero, suc, ◌+◌, ◌<◌, List, [], ◌∷◌, length, drop, map, get_or, Bor, Bool, true, false, cond, Option, Some, None, arith}
use Rattle.std.specs.Prelude.{if◌then◌else◌}
use Rattle.std.specs.Str.{bytes_eq}
use Rattle.std.proofs.lemmas.Slice.Eq.{bytes_eq-Decides}
use Rattle.rv_asm.specs.declared.label.Place.{Place}
use Rattle.rv_asm.specs.Labels.{Map, found, kept, marked}

kept_none : (o : Option Place) → o ≡ kept o None
kept_none None = refl
kept_none (Some p) = refl

-- a label that stood nowhere, put into the map
pub noted : (m k : Map) (label : List ℕ) (p : Place) → None ≡ found m label → ((q : List ℕ) → found k q ≡ cond (bytes_eq label q) (Some p) (found m q)) → (q : List ℕ) → found k q ≡ kept (found m q) (marked (bytes_eq label q) p)
noted m k label p e h q = by_case (bytes_eq label q) refl where
  by_case : (b : Bool) → bytes_eq label q ≡ b → found k q ≡ kept (found m q) (marked (bytes_eq label q) p)
  by_case true t =
      let same : label ≡ q = (bytes_eq-Decides label q).0 t in
      let none : None ≡ found m q = e ∙ ap (found m) same in
      h q ∙ ap (λ (b : Bool). cond b (Some p) (found m q)) t ∙ ap (λ (o : Option Place). kept o (Some p)) none ∙ ap (λ (b : Bool). kept (found m q) (marked b p)) (sym t)
  by_case false t =
      h q ∙ ap (λ (b : Bool). cond b (Some p) (found m q)) t ∙ kept_none (found m q) ∙ ap (λ (b : Bool). kept (found m q) (marked b p)) (sym t)

-- one line more
pub kept_step : (o : Option Place) (b : Bool) (p : Place) (r : Option Place) → kept (kept o (marked b p)) r ≡ kept o (if b then Some p else r)
kept_step None true p r = refl
kept_step None false p r = refl
kept_step (Some q) b p r = refl

drop_suc : (ts : List (Bor (List ℕ))) (k : ℕ) (d : Bor (List ℕ)) → k < length ts → drop k (map (λ (x : Bor (List ℕ)). x.now) ts) ≡ (get_or ts k d).now ∷ drop (suc k) (map (λ (x : Bor (List ℕ)). x.now) ts)
drop_suc [] k d h = absurd (omega (arith, h))
drop_suc (t ∷ ts) zero d h = refl
drop_suc (t ∷ ts) (suc k) d h = drop_suc ts k d (omega (arith, h))

-- the lines from one on
pub line_at : (ts : List (Bor (List ℕ))) (k : ℕ) (d : Bor (List ℕ)) → k < length ts → drop k (map (λ (x : Bor (List ℕ)). x.now) ts) ≡ (get_or ts k d).now ∷ drop (k + 1) (map (λ (x : Bor (List ℕ)). x.now) ts)
line_at ts k d h =
    let next : suc k ≡ k + 1 = omega arith in
    drop_suc ts k d h ∙ ap (λ (j : ℕ). (get_or ts k d).now ∷ drop j (map (λ (x : Bor (List ℕ)). x.now) ts)) next
